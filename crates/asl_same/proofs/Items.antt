-- Lists that have the same at each place.
use Rattle.std.proofs.Common.{ℕ, suc, Bool, false, cond, nat_eq, ◌≡◌, ◌+◌, ◌-◌, ◌<◌, arith, List, [], ◌∷◌, ◌++◌, length, slice_get, Option, None, Some, refl, sym, ap, ◌∙◌}
use Rattle.std.proofs.lemmas.Bool.Decides.{nat_tests}
use Rattle.std.proofs.lemmas.Option.{same_Some, none-some}
use Rattle.std.proofs.lemmas.List.{length-append}
use Rattle.std.specs.Option.{option_map}
use Rattle.asl_term.specs.declared.syntax.Trigger.{Trigger}
use Rattle.asl_term.specs.Names.{name_at}
use Rattle.asl_intend.specs.declared.entry.Means.{Means}
use Rattle.asl_intend.specs.Bodies.{body_of, body_at}
use Rattle.asl_intend.specs.Stacks.{trigger_at}

pub same_list : {X : Type 0} (xs ys : List X) → length xs ≡ length ys → ((k : ℕ) → k < length xs → slice_get xs k ≡ slice_get ys k) → xs ≡ ys
same_list [] [] n h = refl
same_list [] (y ∷ ys) n h = absurd (omega arith)
same_list (x ∷ xs) [] n h = absurd (omega arith)
same_list (x ∷ xs) (y ∷ ys) n h =
    let e : x ≡ y = same_Some x y (h 0 (omega arith)) in
    let f : xs ≡ ys = same_list xs ys (omega arith) (λ k l. h (suc k) (omega arith)) in
    λ i. e i ∷ f i

-- ---- a queue in two parts

pub both_long : {X : Type 0} (both xs ys : List X) → both ≡ xs ++ ys → length xs + length ys ≡ length both
both_long both xs ys e = sym (ap length e ∙ length-append xs ys)

-- ---- names are counted from 1

pub name_here : (names : List (List ℕ)) (k : ℕ) → name_at names (k + 1) ≡ slice_get names k
name_here names k =
    let test : nat_eq (k + 1) 0 ≡ false = grind (arith, nat_tests) in
    let place : k + 1 - 1 ≡ k = omega arith in
    ap (λ (b : Bool). cond b None (slice_get names (k + 1 - 1))) test ∙ ap (λ n. slice_get names n) place

-- ---- means

abbrev trigger_in : Option Means → Option Trigger
trigger_in o = option_map (λ m. m.trigger) o

same_in : (a b : Option Means) → trigger_in a ≡ trigger_in b → body_of a ≡ body_of b → a ≡ b
same_in None None e f = refl
same_in None (Some n) e f = absurd (none-some n.trigger e)
same_in (Some m) None e f = absurd (none-some m.trigger (sym e))
same_in (Some m) (Some n) e f =
    let t : m.trigger ≡ n.trigger = same_Some m.trigger n.trigger e in
    λ i. Some (record { trigger = t i; body = f i })

pub same_means : (a b : List Means) (k : ℕ) → trigger_at a k ≡ trigger_at b k → body_at a k ≡ body_at b k → slice_get a k ≡ slice_get b k
same_means a b k e f = same_in (slice_get a k) (slice_get b k) e f
