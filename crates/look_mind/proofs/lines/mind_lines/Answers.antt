use Rattle.std.proofs.Common.{ℕ, ◌≤◌, arith, List, subst}
use Rattle.std.specs.List.{All}
use Rattle.look_mind.specs.Rows.{rows_of}
use Rattle.look_mind.proofs.Rowed.{none_below, more_below, all_below}
use Rattle.look_mind.proofs.lines.mind_lines.Goals as goal

pub loop-name-init : goal.loop-name-init
loop-name-init c = none_below c.args.told.now _

pub loop-name-preserved : goal.loop-name-preserved
loop-name-preserved c =
    more_below c.args.told.now c.loop-name.name (rows_of c.loop-name.out.items) (rows_of c.put_agent.new.out.items) c.loop-name.invariant c.in_ok-put_agent.ensures

pub returns : goal.returns
returns c =
    let last = c.last_name-last.result in
    let P = λ (turns : List ℕ). All (λ a. a ≤ last) turns in
    let past = c.loop-name-test.false in
    all_below c.args.told.now last (rows_of c.loop-name.out.items) (rows_of c.put_agent-2.new.out.items) (subst P c.as_slice.ensures c.last_name-last.ensures)
    (λ name less. c.loop-name.invariant name (omega arith)) c.in_ok-put_agent-2.ensures
