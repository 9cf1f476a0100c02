-- The ends of the agents and the facts of the world, one after the other.
use Rattle.std.proofs.Common.{ℕ, zero, suc, ◌≡◌, ◌≤◌, ◌<◌, ◌+◌, ◌-◌, arith, Bool, true, false, cond, List, [], ◌∷◌, length, drop, slice_get, get_or, Some, refl, ap, sym, ◌∙◌}
use Rattle.std.specs.Prelude.{codes}
use Rattle.std.proofs.lemmas.List.Sums.{sum_by-cons}
use Rattle.asl_term.specs.declared.syntax.LiteralOf.{LiteralOf}
use Rattle.asl_term.specs.declared.syntax.Term.{Term}
use Rattle.asl_term.specs.Texts.{text}
use Rattle.mas_board.specs.declared.seats.AgentPlace.{AgentPlace}
use Rattle.mas_board.specs.Boards.{State, seat_at, seat_of, seat_or_none}
use Rattle.mas_top_demo.specs.Lines.{is_quiet, quiet_ends, counted, text_or, tally_text}

first_at : (seats : List AgentPlace) (n : ℕ) → n < length seats → drop n seats ≡ seat_or_none (slice_get seats n) ∷ drop (n + 1) seats
first_at [] n l = absurd (omega (arith, l))
first_at (seat ∷ seats) zero l = refl
first_at (seat ∷ seats) (suc k) l =
    let less : k < length seats = omega (arith, l) in
    let same : suc (k + 1) ≡ suc k + 1 = omega arith in
    first_at seats k less ∙ ap (λ n. seat_or_none (slice_get seats k) ∷ drop n (seat ∷ seats)) same

first_of : (seats : List AgentPlace) (a : ℕ) → 1 ≤ a → a ≤ length seats → drop (a - 1) seats ≡ seat_of seats a ∷ drop (a + 1 - 1) seats
first_of seats a l h =
    let less : a - 1 < length seats = omega (arith, l, h) in
    let same : a - 1 + 1 ≡ a + 1 - 1 = omega (arith, l) in
    first_at seats (a - 1) less ∙ ap (λ n. seat_of seats a ∷ drop n seats) same

abbrev one : Bool → ℕ
one b = cond b 1 0

count_first : (s : State) (a : ℕ) → 1 ≤ a → a ≤ length s.seats
    → quiet_ends (drop (a - 1) s.seats) ≡ one (is_quiet (seat_at s a).phase) + quiet_ends (drop (a + 1 - 1) s.seats)
count_first s a l h = ap quiet_ends (first_of s.seats a l h) ∙ sum_by-cons (λ (seat : AgentPlace). one (is_quiet seat.phase)) (seat_at s a) (drop (a + 1 - 1) s.seats)

-- one end more
pub quiet_next : (s : State) (a n all : ℕ) → 1 ≤ a → a ≤ length s.seats → n + quiet_ends (drop (a - 1) s.seats) ≡ all
    → n + one (is_quiet (seat_at s a).phase) + quiet_ends (drop (a + 1 - 1) s.seats) ≡ all
quiet_next s a n all l h e = omega (arith, count_first s a l h, e)

pub quiet_few : (b : Bool) → one b ≤ 1
quiet_few true = omega arith
quiet_few false = omega arith

past : {A : Type 0} (xs : List A) (k : ℕ) → length xs ≤ k → drop k xs ≡ []
past [] zero l = refl
past [] (suc k) l = refl
past (x ∷ xs) zero l = absurd (omega (arith, l))
past (x ∷ xs) (suc k) l = past xs k (omega (arith, l))

pub all_counted : (s : State) (a n all : ℕ) → length s.seats < a → n + quiet_ends (drop (a - 1) s.seats) ≡ all → n ≡ all
all_counted s a n all l e =
    let none : quiet_ends (drop (a - 1) s.seats) ≡ 0 = ap quiet_ends (past s.seats (a - 1) (omega (arith, l))) in
    omega (arith, none, e)

-- ---- the tally

first_fact : (all : List (LiteralOf Term)) (k : ℕ) (l : LiteralOf Term) → k < length all → l ≡ get_or all k l → drop k all ≡ l ∷ drop (k + 1) all
first_fact [] k l h e = absurd (omega (arith, h))
first_fact (x ∷ all) zero l h e = ap (λ y. y ∷ all) (sym e)
first_fact (x ∷ all) (suc k) l h e =
    let same : suc (k + 1) ≡ suc k + 1 = omega arith in
    first_fact all k l (omega (arith, h)) e ∙ ap (λ n. l ∷ drop n (x ∷ all)) same

-- a fact `tally(t)` decides
pub tally_here : (all : List (LiteralOf Term)) (k : ℕ) (l : LiteralOf Term) (t : Term) → k < length all → l ≡ get_or all k l → Some t ≡ counted l
    → tally_text (drop k all) ≡ tally_text all → tally_text all ≡ text t
tally_here all k l t h e c r = sym r ∙ ap tally_text (first_fact all k l h e) ∙ ap (λ o. text_or o (tally_text (drop (k + 1) all))) (sym c)

-- or there is none
pub no_tally : (all : List (LiteralOf Term)) (k : ℕ) → length all ≤ k → tally_text (drop k all) ≡ tally_text all → tally_text all ≡ codes "0"
no_tally all k h r = sym r ∙ ap tally_text (past all k h)
