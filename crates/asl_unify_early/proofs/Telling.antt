-- Arguments that tell by themselves what a step of their comparison does.
use Rattle.std.proofs.Common.{◌≡◌, ℕ, zero, suc, Bool, true, List, [], ◌∷◌, ◌++◌, map, drop, Option, Some, None, cond, refl, sym, ap, ◌∙◌, ◌≤◌, length, append_assoc, arith}
use Rattle.std.specs.List.{slice_get}
use Rattle.std.proofs.lemmas.Bool.{false≢true}
use Rattle.asl_term.specs.declared.syntax.Var.{Var}
use Rattle.asl_term.specs.declared.syntax.Term.{Term}
use Rattle.asl_term.specs.declared.syntax.Term.TheVariants as term
use Rattle.asl_term.specs.declared.syntax.Term.TheOpen as layer
use Rattle.asl_term.specs.declared.syntax.Term.TheViews.{out-Term}
use Rattle.asl_term.specs.Trees.{is_ground, ground_step}
use Rattle.asl_term.proofs.Terms.{out_made, fold_var}
use Rattle.asl_unify.specs.declared.subst.Pair.{Pair}
use Rattle.asl_unify.specs.Compare.{Question, Go, End, Occurs, Unified, ask, asks, counted, find, var_in, var_of, look, look_var, bind, compared, with_left, with_right, step}
use Rattle.asl_unify.specs.Puts.{IsSubst}
use Rattle.asl_unify.specs.Unified.{unified}
use Rattle.asl_unify.proofs.General.{var_of-Some}
use Rattle.asl_unify.proofs.Binds.{by-right}
use Rattle.asl_unify.proofs.Closed.{closed_free}
use Rattle.asl_unify.proofs.Loop.{led-done, led-step, sound-step}
use Rattle.asl_unify.proofs.Unified.{leads_unified}
use Rattle.asl_unify_early.specs.inner.Heads.{StepsTo, Reached}

-- a term without variables is none
ground_none : (a : Term) → is_ground a ≡ true → var_of a ≡ None
ground_none a e = go (var_of a) refl where
  go : (o : Option Var) → var_of a ≡ o → var_of a ≡ None
  go None f = f
  go (Some x) f = absurd (false≢true (sym (fold_var Bool ground_step x) ∙ ap is_ground (sym (var_of-Some a x f)) ∙ e))

var_is : (x : Var) → var_of (term.Var x) ≡ Some x
var_is x = ap var_in (out_made (layer.Var x))

-- two terms that have no pair are compared
free_step : (a b : Term) (w : List Question) (s : List Pair) (n : ℕ) → look s a ≡ None → look s b ≡ None → step (ask a b) w s n ≡ compared a b w s n
free_step a b w s n e f = ap (λ o. with_left o a b w s n) e ∙ ap (λ o. with_right o a b w s n) f

-- a variable without a pair gets a term without variables
pub var_steps : (s old : List Pair) (a : Term) (x : Var) → is_ground a ≡ true → find (s ++ old) x ≡ None → StepsTo s a (term.Var x) old (old ++ record { var = x; term = a } ∷ [])
var_steps s old a x e f w n =
    let t = s ++ old in
    let none = ground_none a e in
    let made : List Pair = t ++ record { var = x; term = a } ∷ [] in
    free_step a (term.Var x) w t n (ap (look_var t) none) (ap (look_var t) (var_is x) ∙ f)
    ∙ sym (by-right a (term.Var x) x w t n none (var_is x))
    ∙ ap (λ b. cond b (End Occurs) (Go w made (counted n))) (closed_free x t a e)
    ∙ ap (λ z. Go w z (counted n)) (append_assoc s old (record { var = x; term = a } ∷ []))

-- place by place

drop_at : (xs : List Term) (i : ℕ) (x : Term) → slice_get xs i ≡ Some x → drop i xs ≡ x ∷ drop (suc i) xs
drop_at [] i x e = cc
drop_at (a ∷ xs) zero x e = let same : a ≡ x = cc in ap (λ z. z ∷ xs) same
drop_at (a ∷ xs) (suc i) x e = drop_at xs i x e

asks_none : (ys : List Term) → asks [] ys [] ≡ []
asks_none [] = refl
asks_none (y ∷ ys) = refl

pub reached_next : (s : List Pair) (xs ys : List Term) (i : ℕ) (x y : Term) (old new : List Pair) → Reached s xs ys i old
    → slice_get xs i ≡ Some x → slice_get ys i ≡ Some y → StepsTo s x y old new → Reached s xs ys (suc i) new
reached_next s xs ys i x y old new r e f h =
    let rest = asks (drop (suc i) xs) (drop (suc i) ys) [] in
    let now : asks (drop i xs) (drop i ys) [] ≡ ask x y ∷ rest = ap (λ z. asks z (drop i ys) []) (drop_at xs i x e) ∙ ap (λ z. asks (x ∷ drop (suc i) xs) z []) (drop_at ys i y f) in
    let g = h rest r.count in
    record {
      count = counted r.count;
      led = led-step (asks xs ys []) s (s ++ old) (s ++ new) 0 r.count (counted r.count) (asks (drop i xs) (drop i ys) []) rest rest (ask x y) r.led now g;
      sound = sound-step (s ++ old) (s ++ new) r.count (counted r.count) rest rest (ask x y) r.sound g;
    }

pub reached_end : (s : List Pair) (xs ys : List Term) (i : ℕ) (new : List Pair) → IsSubst s → Reached s xs ys i new → drop i xs ≡ []
    → unified s (asks xs ys []) ≡ Unified (s ++ new)
reached_end s xs ys i new sound r e =
    leads_unified s (asks xs ys []) (Unified (s ++ new)) sound
    (led-done (asks xs ys []) s (s ++ new) 0 r.count (asks (drop i xs) (drop i ys) []) r.led (ap (λ z. asks z (drop i ys) []) e ∙ asks_none (drop i ys)))

pub get_map : (f : Term → Term) (ys : List Term) (k : ℕ) (y : Term) → slice_get ys k ≡ Some y → slice_get (map f ys) k ≡ Some (f y)
get_map f [] k y e = cc
get_map f (z ∷ ys) zero y e = let same : z ≡ y = cc in ap (λ w. Some (f w)) same
get_map f (z ∷ ys) (suc k) y e = get_map f ys k y e

pub drop_past : (xs : List Term) (i : ℕ) → length xs ≤ i → drop i xs ≡ []
drop_past [] zero h = refl
drop_past [] (suc i) h = refl
drop_past (x ∷ xs) zero h = absurd (omega (arith, h))
drop_past (x ∷ xs) (suc i) h = drop_past xs i (omega (arith, h))
