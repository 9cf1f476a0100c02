-- A goal that lint covers where it is sent is served there, once values are put into it, it is settled and it is sealed.
use Rattle.std.proofs.Common.{◌≡◌, ◌-◌, ℕ, zero, suc, true, List, [], ◌∷◌, map, slice_get, Ok, IfSome}
use Rattle.std.specs.List.{AllByRecursion, list_all}
use Rattle.asl_term.specs.declared.syntax.AgentText.{AgentText}
use Rattle.asl_term.specs.declared.syntax.Kind.TheVariants as kind
use Rattle.asl_term.specs.declared.syntax.LiteralOf.{LiteralOf}
use Rattle.asl_term.specs.declared.syntax.Term.{Term}
use Rattle.asl_term.specs.declared.syntax.Var.{Var}
use Rattle.asl_unify.specs.Applied.{put_literal}
use Rattle.asl_unify.specs.Mapped.{literal_by}
use Rattle.asl_unify.specs.Renamed.{with_vars}
use Rattle.asl_unify.specs.Settling.{settle_literal}
use Rattle.asl_unify.proofs.General.{and_true}
use Rattle.asl_unify.proofs.Laws.{FlatValues}
use Rattle.asl_plans.specs.declared.entry.OwnedPlan.{OwnedPlan}
use Rattle.asl_plans.specs.Libraries.{opened}
use Rattle.asl_lint.specs.Goals.{achieves, achieved_at, achieved_by}
use Rattle.asl_lint.specs.declared.goals.Receivers.{Receivers}
use Rattle.asl_lint.specs.declared.goals.Receivers.TheVariants.{All, One}
use Rattle.asl_lint_laws.specs.Served.{HasWritten, AreSource, IsServed}
use Rattle.asl_lint_laws.proofs.Opened.{source_serves, source_opens}
use Rattle.asl_lint_laws.specs.Agendas.{IsMerged}
use Rattle.asl_lint_laws.proofs.Bound.{put_merged, served_put}
use Rattle.asl_lint_laws.proofs.Chosen.{served_varied}
use Rattle.asl_lint_laws.proofs.Settled.{served_settled, merged_literal}
use Rattle.asl_lint_laws.specs.Messages.{IsServedAt}
use Rattle.asl_lint_laws.proofs.Received.{varied_merged}

abbrev pub libs_of : List AgentText → List (List OwnedPlan)
libs_of texts = map (λ t. opened t.plans) texts

abbrev pub Written : List AgentText → Type 0
Written = AllByRecursion (λ t. AllByRecursion HasWritten t.plans)

-- who is meant is the agent of a number
pub data Means (to : ℕ) : Receivers → Type 0 where
  all : Means to All
  one : Means to (One to)

module _ (g : LiteralOf Term) (merged : IsMerged g) where
  every_serves : (texts : List AgentText) → Written texts → list_all (λ t. achieves t.plans g) texts ≡ true → (j : ℕ)
      → IfSome (slice_get (libs_of texts) j) (λ plans. IsServed kind.Achieve plans g)
  every_serves [] w e j = tt
  every_serves (t ∷ texts) w e zero = let s = and_true (achieves t.plans g) _ e in (source_serves t.plans g w.0 merged.args).0 s.0
  every_serves (t ∷ texts) w e (suc j) = let s = and_true (achieves t.plans g) _ e in every_serves texts w.1 s.1 j

  one_serves : (texts : List AgentText) → Written texts → (j : ℕ) → achieved_at (slice_get texts j) g ≡ true
      → IfSome (slice_get (libs_of texts) j) (λ plans. IsServed kind.Achieve plans g)
  one_serves [] w j e = tt
  one_serves (t ∷ texts) w zero e = (source_serves t.plans g w.0 merged.args).0 e
  one_serves (t ∷ texts) w (suc j) e = one_serves texts w.1 j e

  -- what lint covers is served
  pub covered_served : (texts : List AgentText) → Written texts → (to : ℕ) (r : Receivers) → Means to r → achieved_by texts r g ≡ true → IsServedAt (libs_of texts) to g
  covered_served texts w to r all e = every_serves texts w e (to - 1)
  covered_served texts w to r one e = one_serves texts w (to - 1) e

-- ---- what is sent of it

sources : (texts : List AgentText) → Written texts → AllByRecursion AreSource (libs_of texts)
sources [] w = tt
sources (t ∷ texts) w = (source_opens t.plans w.0, sources texts w.1)

at_each : (g m : LiteralOf Term) → ((plans : List OwnedPlan) → AreSource plans → IsServed kind.Achieve plans g → IsServed kind.Achieve plans m) → (libs : List (List OwnedPlan))
    → AllByRecursion AreSource libs → (j : ℕ) → IfSome (slice_get libs j) (λ plans. IsServed kind.Achieve plans g) → IfSome (slice_get libs j) (λ plans. IsServed kind.Achieve plans m)
at_each g m f [] a j s = tt
at_each g m f (lib ∷ libs) a zero s = f lib a.0 s
at_each g m f (lib ∷ libs) a (suc j) s = at_each g m f libs a.1 j s

module _ (v : Var → Term) (flat : FlatValues v) (g m : LiteralOf Term) (merged : IsMerged g) (settles : settle_literal (put_literal v g) ≡ Ok m) (f : Var → Var) where
  after_put : IsMerged (put_literal v g)
  after_put = put_merged v flat g

  after_settled : IsMerged m
  after_settled = merged_literal (put_literal v g) m after_put settles

  pub sent_merged : IsMerged (literal_by (with_vars f) m)
  sent_merged = varied_merged f m after_settled

  sent_at : (plans : List OwnedPlan) → AreSource plans → IsServed kind.Achieve plans g → IsServed kind.Achieve plans (literal_by (with_vars f) m)
  sent_at plans source s =
      let a = served_put v kind.Achieve g plans s in
      let b = served_settled kind.Achieve (put_literal v g) m plans source after_put settles a in
      served_varied f kind.Achieve m plans after_settled.args b

  pub sent_served : (texts : List AgentText) → Written texts → (to : ℕ) → IsServedAt (libs_of texts) to g → IsServedAt (libs_of texts) to (literal_by (with_vars f) m)
  sent_served texts w to s = at_each g (literal_by (with_vars f) m) sent_at (libs_of texts) (sources texts w) (to - 1) s
