use Rattle.std.proofs.Common.{rules, ◌∙◌, ◌≡◌, sym, true}
use Rattle.asl_intend.proofs.Stays.{kept_bound}
use Rattle.asl_intend.proofs.stack.Stack.bind_under.Goals as goal

pub returns-in_ok-bind_raw-in-Some-clause-done : goal.returns-in_ok-bind_raw-in-Some-clause-done
returns-in_ok-bind_raw-in-Some-clause-done c = λ is.
    let yes : c.in_ok-stays_under.field-0 ≡ true = search rules in
    kept_bound c.args.g.now c.args.e.now c.args.log.now _ c.in-Some.raw _ _ c.since-rest.ensures (c.in_ok-stays_under.ensures yes)
    (sym c.in_ok-first_of.ensures ∙ c.in-Some.is) c.in_ok-bind_raw-in-Some.ensures
