-- Acts with one argument: who acts, and with what.
use Rattle.std.proofs.Common.{◌≡◌, ℕ, true, false, cond, List, [], ◌∷◌, Option, Some, None, refl, ap, ◌∙◌, codes}
use Rattle.std.specs.Option.{option_and_then}
use Rattle.asl_term.specs.declared.syntax.LiteralOf.{LiteralOf}
use Rattle.asl_term.specs.declared.syntax.Term.{Term}
use Rattle.asl_term.specs.Trees.{is_ground}
use Rattle.asl_unify.specs.declared.subst.Pair.{Pair}
use Rattle.asl_unify.specs.Compare.{Unified, ask, asks, find, same_frame}
use Rattle.asl_unify.specs.Matches.{agreed, annots, on_unified}
use Rattle.asl_unify.specs.Puts.{IsSubst}
use Rattle.asl_unify.specs.Unified.{unified}
use Rattle.asl_unify.proofs.Unified.{unified_general}
use Rattle.mas_world.specs.Acts.{deed, entered, tried}
use Rattle.mas_world.specs.Guards.{first_of, solutions}
use Rattle.mas_artifact.specs.Tables.{act, atom, literal, named, variable}
use Rattle.mas_artifact.proofs.Grounds.{no_var, outside}
use Rattle.mas_artifact.proofs.Steps.{bound_atom, bound_term}

-- the argument, and the agent's name
abbrev pub entry : List ℕ → Term → List ℕ → List Pair
entry v t agent = record { var = named v; term = t } ∷ record { var = named (codes "A"); term = atom agent } ∷ []

abbrev on_first : List ℕ → List (List Pair) → Option (List Pair)
on_first agent ms = option_and_then (λ s. agreed (unified s (ask (variable (codes "A")) (atom agent) ∷ []))) (first_of ms)

-- the act's literal with one variable
abbrev pub called : List ℕ → List ℕ → LiteralOf Term
called f v = literal f (variable v ∷ [])

-- an action of another frame
module _ (facts : List (LiteralOf Term)) (f v : List ℕ) (old new : LiteralOf Term) (agent : List ℕ) (action : LiteralOf Term) where
  pub unheard : same_frame (called f v) action ≡ false → tried facts (act (called f v) old [] new) agent action ≡ None
  unheard e =
      let what = act (called f v) old [] new in
      ap (λ z. option_and_then (λ s. option_and_then (deed what) (first_of (solutions facts what.guard s)))
      (on_first agent (cond z (on_unified (annots [] action.annots) (unified [] (asks (variable v ∷ []) action.args []))) []))) e

module _ (agent v : List ℕ) (t : Term) (g : is_ground t ≡ true) (apart : find (record { var = named v; term = t } ∷ []) (named (codes "A")) ≡ None) where
  abbrev first : List Pair
  first = record { var = named v; term = t } ∷ []

  bound_v : unified [] (ask (variable v) t ∷ []) ≡ Unified first
  bound_v = bound_term [] tt (named v) t refl (no_var t g) (outside (named v) t g)

  first_is : IsSubst first
  first_is = (unified_general [] first (ask (variable v) t ∷ []) tt bound_v).is_subst

  bound_a : unified first (ask (variable (codes "A")) (atom agent) ∷ []) ≡ Unified (entry v t agent)
  bound_a = bound_atom first first_is (named (codes "A")) agent apart

  pub entry_is : IsSubst (entry v t agent)
  entry_is = (unified_general first (entry v t agent) (ask (variable (codes "A")) (atom agent) ∷ []) first_is bound_a).is_subst

  pub heard : (f : List ℕ) (old new : LiteralOf Term) (action : LiteralOf Term) → action.args ≡ t ∷ [] → same_frame (called f v) action ≡ true
      → entered (act (called f v) old [] new) agent action ≡ Some (entry v t agent)
  heard f old new action e h =
      ap (λ z. on_first agent (cond z (on_unified (annots [] action.annots) (unified [] (asks (variable v ∷ []) action.args []))) [])) h
      ∙ ap (λ ts. on_first agent (on_unified (annots [] action.annots) (unified [] (asks (variable v ∷ []) ts [])))) e
      ∙ ap (λ o. on_first agent (on_unified (annots [] action.annots) o)) bound_v
      ∙ ap agreed bound_a
