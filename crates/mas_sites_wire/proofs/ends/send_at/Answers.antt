use Rattle.std.proofs.Common.{◌∙◌, ap, length, refl, Some}
use Rattle.std.proofs.lemmas.Option.{slice_get_read}
use Rattle.mas_sites_wire.proofs.Calls.{let_go, here, send_from, send_here, send_gone}
use Rattle.mas_sites_wire.proofs.ends.send_at.Goals as goal

pub returns-then-not-puts_at-clause-gone : goal.returns-then-not-puts_at-clause-gone
returns-then-not-puts_at-clause-gone g c =
    let_go c.args.wires.now c.args.ends.now c.args.puts.now c.args.i c.args.m c.requires.here c.requires.place (c.puts_at.ensures ∙ ap Some c.if-not-puts_at.true)

pub put-requires-clause-end : goal.put-requires-clause-end
put-requires-clause-end g c =
    let wire = slice_get_read c.args.wires.now (length c.args.wires.now) c.args.i c.index-wires-i.result refl c.requires.place c.index-wires-i.is in
    (here _ _ _ _ _ _ _ c.requires.here wire c.at_mut-end.ensures.value c.puts_at.ensures).end_of

pub put-requires-clause-may : goal.put-requires-clause-may
put-requires-clause-may g c =
    let wire = slice_get_read c.args.wires.now (length c.args.wires.now) c.args.i c.index-wires-i.result refl c.requires.place c.index-wires-i.is in
    (here _ _ _ _ _ _ _ c.requires.here wire c.at_mut-end.ensures.value c.puts_at.ensures).putting ∙ c.if-not-puts_at.false

pub put-requires-clause-from : goal.put-requires-clause-from
put-requires-clause-from g c =
    let wire = slice_get_read c.args.wires.now (length c.args.wires.now) c.args.i c.index-wires-i.result refl c.requires.place c.index-wires-i.is in
    send_from _ _ _ _ _ _ _ c.requires.here wire c.at_mut-end.ensures.value c.puts_at.ensures c.args.m c.requires.message

pub returns-clause-here : goal.returns-clause-here
returns-clause-here g c =
    let wire = slice_get_read c.args.wires.now (length c.args.wires.now) c.args.i c.index-wires-i.result refl c.requires.place c.index-wires-i.is in
    send_here _ _ _ _ _ _ _ c.requires.here wire c.at_mut-end.ensures.value c.puts_at.ensures _ c.put.result c.args.m c.put.ensures.ok c.put.ensures.err c.put.ensures.end

pub returns-clause-gone : goal.returns-clause-gone
returns-clause-gone g c =
    let wire = slice_get_read c.args.wires.now (length c.args.wires.now) c.args.i c.index-wires-i.result refl c.requires.place c.index-wires-i.is in
    send_gone _ _ _ _ _ _ _ c.requires.here wire c.at_mut-end.ensures.value c.puts_at.ensures _ c.put.result c.args.m c.if-not-puts_at.false c.put.ensures.ok
