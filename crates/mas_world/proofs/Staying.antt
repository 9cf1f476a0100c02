-- Which facts stay, and which of those that are added are new.
use Rattle.std.proofs.Common.{◌≡◌, Bool, true, false, not, cond, ◌&&◌, ◌||◌, List, [], ◌∷◌, ◌++◌, refl, sym, ap}
use Rattle.std.proofs.lemmas.Bool.{false≢true}
use Rattle.std.proofs.lemmas.List.Folds.{list_any-append}
use Rattle.asl_term.specs.declared.syntax.LiteralOf.{LiteralOf}
use Rattle.asl_term.specs.declared.syntax.Term.{Term}
use Rattle.asl_term.specs.declared.syntax.Term.TheVariants as term
use Rattle.asl_term.proofs.Same.{same_true}
use Rattle.mas_world.specs.Facts.{same_fact, is_fact, without}
use Rattle.mas_world.proofs.Literals.{as_literals}

gone : (e d r t : Bool) → (e ≡ true → d ≡ true) → t ≡ (r && not d) → t ≡ ((e || r) && not d)
gone true true true t s h = h
gone true true false t s h = h
gone true false r t s h = absurd (false≢true (s refl))
gone false d r t s h = h

kept : (e d r t : Bool) → (e ≡ true → d ≡ false) → t ≡ (r && not d) → (e || t) ≡ ((e || r) && not d)
kept true true r t s h = absurd (false≢true (sym (s refl)))
kept true false r t s h = refl
kept false d r t s h = h

one_more : (f g : LiteralOf Term) (w : List (LiteralOf Term)) (b d r : Bool) → (same_fact f g ≡ true → d ≡ b) → is_fact w f ≡ (r && not d) → is_fact (cond (not b) (g ∷ w) w) f ≡ ((same_fact f g || r) && not d)
one_more f g w true d r s h = gone (same_fact f g) d r (is_fact w f) s h
one_more f g w false d r s h = kept (same_fact f g) d r (is_fact w f) s h

-- a literal is one of the facts that stay where it is one of the facts, and is not taken away
pub stays : (dels facts : List (LiteralOf Term)) (f : LiteralOf Term) → is_fact (without dels facts) f ≡ (is_fact facts f && not (is_fact dels f))
stays dels [] f = refl
stays dels (g ∷ more) f =
    one_more f g (without dels more) (is_fact dels g) (is_fact dels f) (is_fact more f)
    (λ e. ap (is_fact dels) (as_literals f g (same_true (term.Lit f) (term.Lit g) e))) (stays dels more f)

-- one of two lists has it
pub either : (xs ys : List (LiteralOf Term)) (f : LiteralOf Term) → is_fact (xs ++ ys) f ≡ (is_fact xs f || is_fact ys f)
either xs ys f = list_any-append (same_fact f) xs ys
