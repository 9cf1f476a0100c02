use Rattle.std.proofs.Common.{rules, ◌≡◌, sym, ap, ◌∙◌, subst, slice_get}
use Rattle.asl_plans.specs.FiledPlaces.{AreOf, filed_plans}
use Rattle.asl_plans.proofs.FiledPlans.{stood, kth_filed}
use Rattle.asl_plans.proofs.library.Library.filed_plan.Goals as goal

pub returns-in-None : goal.returns-in-None
returns-in-None c =
    let add = c.args.add in
    let kind = c.args.kind in
    let plans = c.self.inside.entries in
    let under : AreOf add kind plans c.under.result.now =
    subst (AreOf add kind plans) (sym c.under.ensures) (c.self.invariant.0.filed add kind) in
    let held : plans ≡ c.args.self.now.plans = search rules in
    sym (ap (stood plans) (sym c.at.ensures ∙ c.in-None.is)) ∙ kth_filed add kind c.args.l.now plans c.under.result.now c.args.k under
    ∙ ap (λ z. slice_get (filed_plans add kind c.args.l.now z) c.args.k) held

pub returns-in-Some : goal.returns-in-Some
returns-in-Some c =
    let add = c.args.add in
    let kind = c.args.kind in
    let plans = c.self.inside.entries in
    let under : AreOf add kind plans c.under.result.now =
    subst (AreOf add kind plans) (sym c.under.ensures) (c.self.invariant.0.filed add kind) in
    let held : plans ≡ c.args.self.now.plans = search rules in
    c.at-in-Some.ensures ∙ sym (ap (stood plans) (sym c.at.ensures ∙ c.in-Some.is))
    ∙ kth_filed add kind c.args.l.now plans c.under.result.now c.args.k under
    ∙ ap (λ z. slice_get (filed_plans add kind c.args.l.now z) c.args.k) held
