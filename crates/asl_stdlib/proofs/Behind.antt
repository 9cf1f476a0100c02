-- Solutions as pairs behind those of a substitution.
use Rattle.std.proofs.Common.{◌≡◌, ℕ, List, [], ◌∷◌, ◌++◌, reverse, Option, Some, None, inl, inr, refl, sym, ap, ◌∙◌, subst, append_assoc}
use Rattle.std.specs.Prelude.{option_map}
use Rattle.std.proofs.lemmas.List.{append-nil, reverse-append}
use Rattle.asl_term.specs.declared.syntax.Term.{Term}
use Rattle.asl_unify.specs.declared.subst.Pair.{Pair}
use Rattle.asl_unify.specs.Compare.{ask, Outcome, Unified, Failed}
use Rattle.asl_unify.specs.Matches.{agreed, behind, on_unified}
use Rattle.asl_unify.specs.Puts.{IsSubst}
use Rattle.asl_unify.specs.Unified.{unified}
use Rattle.asl_unify.proofs.Cuts.{behind_push}
use Rattle.asl_resolve.specs.declared.actions.GivenPairs.{GivenPairs}
use Rattle.asl_resolve.specs.declared.actions.GivenPairs.TheVariants.{Sols, Arith, TermLimit}
use Rattle.asl_resolve.specs.GivenPairs.{AreSound, IsGiven, given}
use Rattle.asl_resolve.specs.Solves.{Among}
use Rattle.asl_stdlib.specs.Findings.{each_met}
use Rattle.asl_stdlib.specs.Solving.{solve}
use Rattle.asl_stdlib.proofs.Extends.{solve-extends}

-- no pairs behind a substitution
pub behind_none : (s : List Pair) (r : List (List Pair)) → r ≡ [] ∷ [] → behind s r ≡ s ∷ []
behind_none s r e = ap (behind s) e ∙ ap (λ t. t ∷ []) (append-nil s)

some-met : (s more : List Pair) (u : Outcome) → Some (s ++ more) ≡ agreed u → (s ++ more) ∷ [] ≡ on_unified (λ t. t ∷ []) u ++ []
some-met s more (Unified t) e = let same : s ++ more ≡ t = cc in ap (λ z. z ∷ []) same
some-met s more (Failed f) e = absurd cc

none-met : (u : Outcome) → None ≡ agreed u → [] ≡ on_unified (λ (t : List Pair). t ∷ []) u ++ []
none-met (Unified t) e = absurd cc
none-met (Failed f) e = refl

-- one solution more, or none
pub met_some : (x found : Term) (s more : List Pair) (out new : List (List Pair)) (o : Option (List Pair)) → o ≡ Some more
    → option_map (λ m. s ++ m) o ≡ agreed (unified s (ask x found ∷ [])) → new ≡ out ++ more ∷ []
    → behind s new ≡ behind s out ++ each_met x (found ∷ []) s
met_some x found s more out new o q e g =
    ap (behind s) g
    ∙ behind_push s out more
    ∙ ap (λ z. behind s out ++ z) (some-met s more (unified s (ask x found ∷ [])) (sym (ap (option_map (λ m. s ++ m)) q) ∙ e))

pub met_none : (x found : Term) (s : List Pair) (out : List (List Pair)) (o : Option (List Pair)) → o ≡ None
    → option_map (λ m. s ++ m) o ≡ agreed (unified s (ask x found ∷ [])) → behind s out ≡ behind s out ++ each_met x (found ∷ []) s
met_none x found s out o q e =
    sym (append-nil (behind s out))
    ∙ ap (λ z. behind s out ++ z) (none-met (unified s (ask x found ∷ [])) (sym (ap (option_map (λ m. s ++ m)) q) ∙ e))

are-sound : (s : List Pair) (found : List (List Pair)) → ((t : List Pair) → Among t (behind s found) → IsSubst t) → AreSound s found
are-sound s [] h = tt
are-sound s (x ∷ xs) h = (h (s ++ x) (inl refl), are-sound s xs (λ t a. h t (inr a)))

-- what an action gives makes substitutions
pub given_sound : (me name : List ℕ) (args : List Term) (s : List Pair) (g : GivenPairs) → IsSubst s → given s g ≡ solve me name args s → IsGiven s g
given_sound me name args s (Sols found) i e = are-sound s found (λ t h. (solve-extends me [] name args s t (behind s found) i (sym e) h).1)
given_sound me name args s Arith i e = tt
given_sound me name args s TermLimit i e = tt

-- one substitution more of those whose pairs are left, the next one last
pub whole_more : (s : List Pair) (all out new old left : List (List Pair)) (more t : List Pair) → old ≡ left ++ more ∷ [] → t ≡ s ++ more
    → new ≡ out ++ t ∷ [] → out ++ behind s (reverse old) ≡ behind s all → new ++ behind s (reverse left) ≡ behind s all
whole_more s all out new old left more t e q g h =
    ap (λ z. z ++ behind s (reverse left)) (g ∙ ap (λ z. out ++ z ∷ []) q)
    ∙ append_assoc out ((s ++ more) ∷ []) (behind s (reverse left))
    ∙ ap (λ z. out ++ behind s z) (sym (ap reverse e ∙ reverse-append left (more ∷ [])))
    ∙ h

pub next_sound : (s : List Pair) (old left : List (List Pair)) (more : List Pair) → old ≡ left ++ more ∷ [] → AreSound s (reverse old)
    → IsSubst (s ++ more) × AreSound s (reverse left)
next_sound s old left more e h = subst (AreSound s) (ap reverse e ∙ reverse-append left (more ∷ [])) h
