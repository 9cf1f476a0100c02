use Rattle.std.proofs.Common.{◌≡◌, ◌∙◌, ◌+◌, [], length, arith, ap, refl}
use Rattle.std.proofs.lemmas.List.{length-map}
use Rattle.std.specs.Prelude.{not}
use Rattle.mas_sites_wire.specs.Wires.{putting, getting}
use Rattle.mas_sites_wire.proofs.Openings.{parted_on, are_here, are_blank}
use Rattle.mas_sites_wire.proofs.wires.open_wires.Goals as goal

pub loop-i-preserved : goal.loop-i-preserved
loop-i-preserved c =
    let n = c.len-agents.ensures in
    let i = c.loop-i.i in
    parted_on (length c.args.here.now) i c.loop-i.wires.wires _ c.loop-i.wires.one c.loop-i.wires.two _ _ c.args.here.now c.in_ok-new.new.wire c.in_ok-new.new.puts c.in_ok-new.new.gets c.puts_at.result
    c.loop-i.invariant c.puts_at.ensures c.in_ok-new.ensures.ends (c.in_ok-new.ensures.puts ∙ ap (λ a. putting (i + 1) a []) n) (c.in_ok-new.ensures.gets ∙ ap (λ a. getting (i + 1) a []) n)
    c.in_ok-add_wire.ensures.wires c.in_ok-add_wire.ensures.one c.in_ok-add_wire.ensures.two

pub returns-clause-one : goal.returns-clause-one
returns-clause-one c =
    let n = c.len-agents.ensures in
    let t = c.loop-i-test.false in
    let e = c.loop-i.auto.i-end in
    let number = c.loop-i.invariant.number in
    are_here (length c.args.here.now) _ _ c.args.here.now c.loop-i.invariant.one_new (omega (arith, number, n, t, e)) refl

pub returns-clause-two : goal.returns-clause-two
returns-clause-two c =
    let n = c.len-agents.ensures in
    let t = c.loop-i-test.false in
    let e = c.loop-i.auto.i-end in
    let number = c.loop-i.invariant.number in
    are_here (length c.args.here.now) _ _ _ c.loop-i.invariant.two_new (omega (arith, number, n, t, e)) (length-map c.args.here.now not)

pub returns-clause-blank : goal.returns-clause-blank
returns-clause-blank c =
    let n = c.len-agents.ensures in
    let t = c.loop-i-test.false in
    let e = c.loop-i.auto.i-end in
    let number = c.loop-i.invariant.number in
    let all : length c.loop-i.wires.wires ≡ length c.args.here.now = omega (arith, number, n, t, e) in
    (are_blank (length c.args.here.now) _ _ c.args.here.now c.loop-i.invariant.one_new all refl, are_blank (length c.args.here.now) _ _ _ c.loop-i.invariant.two_new all (length-map c.args.here.now not))
