use Rattle.std.proofs.Common.{ap, sym, ◌∙◌}
use Rattle.std.specs.Prelude.{◌==◌, not}
use Rattle.std.specs.List.{list_any}
use Rattle.asl_plans.proofs.Owning.{kept_lost}
use Rattle.asl_plans.proofs.owners.is_kept.Goals as goal

pub returns-then-is_meant : goal.returns-then-is_meant
returns-then-is_meant c =
    c.has_another.ensures ∙ ap (list_any (λ x. not (x == c.args.owner))) c.as_slice.ensures
    ∙ kept_lost c.args.which.now c.args.owner c.args.e.now (sym c.is_meant.ensures ∙ c.if-is_meant.true)
