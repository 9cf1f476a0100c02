use Rattle.std.proofs.Common.{◌∙◌, ap, not, length, map, refl}
use Rattle.std.proofs.lemmas.Option.{slice_get_read}
use Rattle.mas_sites_wire.specs.Ends.{log_of}
use Rattle.mas_sites_wire.proofs.Calls.{none_came, here, next_here, next_entry, next_came}
use Rattle.mas_sites_wire.proofs.ends.next_at.Goals as goal

pub returns-then-puts_at-clause-came : goal.returns-then-puts_at-clause-came
returns-then-puts_at-clause-came g c = none_came c.args.i (map log_of c.args.ends.now)

pub get-requires-clause-end : goal.get-requires-clause-end
get-requires-clause-end g c =
    let wire = slice_get_read c.args.wires.now (length c.args.wires.now) c.args.i c.index-wires-i.result refl c.requires.place c.index-wires-i.is in
    (here _ _ _ _ _ _ _ c.requires.here wire c.at_mut-end.ensures.value c.puts_at.ensures).end_of

pub get-requires-clause-may : goal.get-requires-clause-may
get-requires-clause-may g c =
    let wire = slice_get_read c.args.wires.now (length c.args.wires.now) c.args.i c.index-wires-i.result refl c.requires.place c.index-wires-i.is in
    (here _ _ _ _ _ _ _ c.requires.here wire c.at_mut-end.ensures.value c.puts_at.ensures).getting ∙ ap not c.if-puts_at.false

pub returns-clause-here : goal.returns-clause-here
returns-clause-here g c =
    let wire = slice_get_read c.args.wires.now (length c.args.wires.now) c.args.i c.index-wires-i.result refl c.requires.place c.index-wires-i.is in
    next_here _ _ _ _ _ _ _ c.requires.here wire c.at_mut-end.ensures.value c.puts_at.ensures _ c.get.result c.get.ensures.got c.get.ensures.end

pub returns-clause-entry : goal.returns-clause-entry
returns-clause-entry g c =
    let wire = slice_get_read c.args.wires.now (length c.args.wires.now) c.args.i c.index-wires-i.result refl c.requires.place c.index-wires-i.is in
    next_entry _ _ _ _ _ _ _ c.requires.here wire c.at_mut-end.ensures.value c.puts_at.ensures c.get.new.end c.get.result c.get.ensures.got

pub returns-clause-came : goal.returns-clause-came
returns-clause-came g c =
    let wire = slice_get_read c.args.wires.now (length c.args.wires.now) c.args.i c.index-wires-i.result refl c.requires.place c.index-wires-i.is in
    next_came _ _ _ _ _ _ _ c.requires.here wire c.at_mut-end.ensures.value c.puts_at.ensures _ c.get.result c.get.ensures.got
