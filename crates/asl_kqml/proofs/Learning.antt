-- What a message makes of the plans.
use Rattle.std.proofs.Common.{◌≡◌, ℕ, List, [], ◌∷◌, Option, Some, None}
use Rattle.asl_term.specs.declared.syntax.Plan.{Plan}
use Rattle.asl_term.specs.declared.syntax.Term.{Term}
use Rattle.asl_unify.specs.Renamed.{renamed}
use Rattle.mas_mind.specs.declared.mind.Verb.{Verb}
use Rattle.mas_mind.specs.declared.mind.Verb.TheVariants as verb
use Rattle.asl_plans.specs.declared.entry.OwnedPlan.{OwnedPlan}
use Rattle.asl_plans.specs.declared.entry.Which.{Which}
use Rattle.asl_plans.specs.Laws.{KeepsOwner}
use Rattle.asl_plans.specs.Libraries.{added, all_added}
use Rattle.asl_plans.proofs.Owning.{adding_keeps, dropping_keeps}
use Rattle.asl_kqml.specs.Contents.{plans_of, which_of}
use Rattle.asl_kqml.specs.Receive.{tell_how, untell_how, learns, learned}
use Rattle.asl_kqml.specs.Laws.{MessagesKeep}

all_keep : (ps : List Plan) (from o : ℕ) (lib : List OwnedPlan) → KeepsOwner o lib (all_added ps from lib)
all_keep [] from o lib p h = h
all_keep (q ∷ more) from o lib p h = all_keep more from o (added q from lib) p (adding_keeps q from o lib p h)

module _ (lib : List OwnedPlan) (from o : ℕ) (other : o ≡ from → ⊥) where
  tells : (ps : Option (List Plan)) → KeepsOwner o lib (tell_how from lib ps).plans
  tells None p h = h
  tells (Some ps) p h = all_keep ps from o lib p h

  untells : (w : Option Which) → KeepsOwner o lib (untell_how from lib w).plans
  untells None p h = h
  untells (Some w) p h = dropping_keeps w from o lib other p h

  by_verb : (content : Term) (v : Verb) → KeepsOwner o lib (learns lib from content v).plans
  by_verb content verb.TellHow = tells (plans_of content)
  by_verb content verb.UntellHow = untells (which_of content)
  by_verb content verb.Tell = λ p h. h
  by_verb content verb.Untell = λ p h. h
  by_verb content verb.Achieve = λ p h. h
  by_verb content verb.Unachieve = λ p h. h
  by_verb content verb.AskOne = λ p h. h
  by_verb content verb.AskAll = λ p h. h
  by_verb content verb.AskHow = λ p h. h

pub messages_keep : MessagesKeep
unfolding learned
messages_keep lib n m o other = by_verb lib m.from o other (renamed n m.content) m.verb
