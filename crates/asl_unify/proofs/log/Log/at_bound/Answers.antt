use Rattle.std.proofs.Common.{◌≡◌, ◌∷◌, length, ap, subst, ◌∙◌, arith}
use Rattle.asl_unify.specs.Logs.{later}
use Rattle.asl_unify.specs.inner.Logs.{PassesBy}
use Rattle.asl_unify.proofs.Logged.{next_at}
use Rattle.asl_unify.proofs.log.Log.at_bound.Goals as goal

pub returns-in-Some : goal.returns-in-Some
returns-in-Some c =
    let log = c.args.self.now in
    let x = c.args.x.now in
    let k = c.bound_from.result in
    let same : c.as_slice-all.result.now ≡ log = c.as_slice-all.ensures ∙ c.self.view_is in
    let many = ap length same in
    next_at (λ r. r.0.now ∷ later r.1) log x c.args.from k c.at.result c.bound_from.ensures.low (omega (arith, c.bound_from.ensures.high, many))
    (subst (λ l. PassesBy l x c.args.from k) same c.bound_from.ensures.free) c.at.ensures
