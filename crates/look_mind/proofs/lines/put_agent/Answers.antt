use Rattle.std.proofs.Common.{ℕ, ◌-◌, arith, List, length, subst}
use Rattle.std.specs.Prelude.{slice_index}
use Rattle.look_mind.specs.Rows.{AddsRows, HasTurns, change_at, rows_of}
use Rattle.look_mind.proofs.Rowed.{none_told, one_told, agent_told}
use Rattle.look_mind.proofs.lines.put_agent.Goals as goal

pub loop-at-init : goal.loop-at-init
loop-at-init c = none_told c.args.told.now c.args.name c.in_ok-own.own.items (rows_of c.args.out.now.items)

pub loop-at-preserved : goal.loop-at-preserved
loop-at-preserved c =
    let told = c.args.told.now in
    let name = c.args.name in
    let at = c.loop-at.at in
    let here = rows_of c.loop-at.out.items in
    let new = rows_of c.put_turn.new.out.items in
    let P = λ (own : List ℕ). AddsRows (name - 1) (slice_index own at) (change_at told (slice_index own at - 1)) here new in
    one_told told name c.in_ok-own.own.items (rows_of c.args.out.now.items) at here c.loop-at.invariant new (subst P c.as_slice-in-loop-at.ensures.value c.in_ok-put_turn.ensures)

pub returns : goal.returns
returns c =
    let told = c.args.told.now in
    let name = c.args.name in
    let own = c.in_ok-own.own in
    let P = λ (turns : List ℕ). HasTurns turns name (length turns) own.items in
    agent_told told name own.items (rows_of c.args.out.now.items) c.loop-at.at (rows_of c.loop-at.out.items) c.loop-at.invariant (omega (arith, own.ok.0))
    (subst P c.as_slice.ensures c.in_ok-own.ensures)
