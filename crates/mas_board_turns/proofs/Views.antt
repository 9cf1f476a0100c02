-- The agents of views.
use Rattle.std.proofs.Common.{◌≡◌, ℕ, zero, suc, ◌+◌, ◌<◌, Bool, true, false, true≢false, Option, None, Some, List, [], ◌∷◌, ◌++◌, length, drop, take, sym, refl, ap, ◌∙◌, ⊎_elim, arith}
use mathlib.Core.Option.{some, some-injective, some-ne-none}
use lib.ListN.{get_elem?}
use Rattle.mas_board_lists.specs.Lists.{Each, times, once_in, numbers_from}
use Rattle.mas_board_lists.proofs.Times.{bit, times_append, numbers_once}
use Rattle.mas_board_turns.specs.declared.turn.Turn.{Turn}
use Rattle.mas_board_turns.specs.declared.view.SideView.{SideView}
use Rattle.mas_board_turns.specs.Views.{Turns, numbers, silent, noted}
use Rattle.mas_board_turns.specs.Steps.{blank}
use Rattle.mas_board_turns.specs.Rule.{Showing, Playing, Holds}

-- how often an agent stands in a view
abbrev pub has : ℕ → SideView → ℕ
has a v = times a (numbers v.turns)

pub numbers_noted : (made : Option Turn) (es : Turns) → numbers (noted made es) ≡ numbers es
numbers_noted None es = refl
numbers_noted (Some t) [] = refl
numbers_noted (Some t) (e ∷ es) = refl

pub numbers_append : (xs ys : Turns) → numbers (xs ++ ys) ≡ numbers xs ++ numbers ys
numbers_append [] ys = refl
numbers_append (x ∷ xs) ys = ap (λ l. x.0 ∷ l) (numbers_append xs ys)

pub numbers_silent : (k n : ℕ) → numbers (silent k n) ≡ numbers_from k n
numbers_silent k zero = refl
numbers_silent k (suc n) = ap (λ l. k ∷ l) (numbers_silent (suc k) n)

pub silent_once : (a k n : ℕ) → times a (numbers (silent k n)) ≡ once_in a k n
silent_once a k n = ap (times a) (numbers_silent k n) ∙ numbers_once a k n

pub both_times : (a : ℕ) (xs ys : Turns) → times a (numbers (xs ++ ys)) ≡ times a (numbers xs) + times a (numbers ys)
both_times a xs ys = ap (times a) (numbers_append xs ys) ∙ times_append a (numbers xs) (numbers ys)

-- ---- one agent cut off

pub cut_times : (a : ℕ) (es : Turns) → times a (numbers (drop 1 es)) + times a (numbers (take 1 es)) ≡ times a (numbers es)
cut_times a [] = refl
cut_times a (x ∷ es) = omega arith

pub each_rest : (P : (ℕ × List Turn) → Type 0) (es : Turns) → Each P es → Each P (drop 1 es)
each_rest P [] h = tt
each_rest P (x ∷ es) h = h.1

pub each_one : (P : (ℕ × List Turn) → Type 0) (es : Turns) → Each P es → Each P (take 1 es)
each_one P [] h = tt
each_one P (x ∷ es) h = (h.0, tt)

pub one_some : (es : Turns) → 0 < length (take 1 es) → 0 < length es
one_some [] h = h
one_some (x ∷ es) h = omega arith

pub rest_some : (es : Turns) → 0 < length (drop 1 es) → 0 < length es
rest_some [] h = h
rest_some (x ∷ es) h = omega arith

-- ---- a board in hand

pub in_one : (b : Bool) → b ≡ true → bit b ≡ 1
in_one b e = ap bit e

pub not_in : (b : Bool) → b ≡ false → bit b ≡ 0
not_in b e = ap bit e

-- ---- before the board came

only_blank : (p : ℕ) (v : SideView) → get_elem? (blank ∷ []) p ≡ some v → (p ≡ 0) × (blank ≡ v)
only_blank zero v d = (refl, some-injective blank v d)
only_blank (suc p) v d = absurd (some-ne-none v (sym d))

pub first_view : (views : List SideView) (p : ℕ) (v : SideView) → views ≡ blank ∷ [] → get_elem? views p ≡ some v → (p ≡ 0) × (blank ≡ v)
first_view views p v e at = only_blank p v (ap (λ (l : List SideView). get_elem? l p) (sym e) ∙ at)

-- a view to which it came
pub playing : {X : Type 0} {r : Showing X} (items : List X) (views : List SideView) (p : ℕ) (v : SideView) → v.started ≡ true → Holds r items views → get_elem? views p ≡ some v → Playing r items views
playing items views p v s h at = ⊎_elim (λ b. absurd (true≢false (sym s ∙ ap (λ (u : SideView). u.started) (sym (first_view views p v b.1 at).1)))) (λ k. k) h
