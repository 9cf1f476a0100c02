-- The scripts of stands, and what is left on the way, as lists.
use Rattle.std.proofs.Common.{ℕ, zero, suc, ◌≡◌, ◌≢◌, ◌+◌, ◌-◌, ◌<◌, ◌≤◌, arith, nat_eq, List, [], ◌∷◌, ◌++◌, append_assoc, append-nil, All, length, slice_get, Option, None, Some, refl, ap, sym, ◌∙◌, subst}
use Rattle.std.specs.Prelude.{cond}
use Rattle.std.proofs.lemmas.Bool.{ne_eqb, eq-eqb}
use Rattle.std.proofs.lemmas.List.Elements.{All-nil, All-head, All-tail, All-weaker, filter-append}
use Rattle.mas_mind.specs.declared.mind.Message.{Message}
use Rattle.mas_mind.specs.Minds.{IsAgent, IsFrom}
use Rattle.mas_board.specs.Boards.{box_of, box_or_none}
use Rattle.mas_core_laws.proofs.Places.{is_within}
use Rattle.mas_sites_stand.specs.declared.seated.Seated.{Seated}
use Rattle.mas_sites_scripts.specs.Scripts.{Script as ScriptEntries}
use Rattle.mas_sites_scripts.specs.Giving.{is_own}
use Rattle.mas_sites_scripts.specs.Ways.{AreWays}
use Rattle.mas_sites_rounds.specs.Between.{those_of}
use Rattle.mas_sites.specs.Results.{script_at, scripts_from, all_left, senders_from, in_turn}
use Rattle.mas_sites.specs.declared.met.Script.{Script}

-- ---- scripts

-- with one more behind the others
pub scripts_more : {V : Type 0} (site a : ℕ) (minds : List (Seated V)) (all : List ScriptEntries) (e : ScriptEntries) →
    scripts_from site a minds (all ++ e ∷ []) ≡ scripts_from site a minds all ++ script_at site (a + length all) (is_own (slice_get minds (a + length all - 1))) e
scripts_more site a minds [] e =
    let n : a ≡ a + 0 = omega arith in
    append-nil (script_at site a (is_own (slice_get minds (a - 1))) e) ∙ ap (λ x. script_at site x (is_own (slice_get minds (x - 1))) e) n
scripts_more site a minds (x ∷ all) e =
    let n : a + 1 + length all ≡ a + suc (length all) = omega arith in
    let first = script_at site a (is_own (slice_get minds (a - 1))) x in
    ap (λ t. first ++ t) (scripts_more site (a + 1) minds all e)
    ∙ sym (append_assoc first (scripts_from site (a + 1) minds all) (script_at site (a + 1 + length all) (is_own (slice_get minds (a + 1 + length all - 1))) e))
    ∙ ap (λ t. (first ++ scripts_from site (a + 1) minds all) ++ script_at site t (is_own (slice_get minds (t - 1))) e) n

-- the next turn of a loop that lists them
pub next_of : {V : Type 0} (site : ℕ) (minds : List (Seated V)) (before : List Script) (all : List ScriptEntries) (e : ScriptEntries) (agent : ℕ) (old new : List Script) →
    (agent ≡ length all) × (old ≡ before ++ scripts_from site 1 minds all) → new ≡ old ++ script_at site (agent + 1) (is_own (slice_get minds (agent + 1 - 1))) e →
    new ≡ before ++ scripts_from site 1 minds (all ++ e ∷ [])
next_of site minds before all e agent old new h n =
    let place = h.0 in
    let m : agent + 1 ≡ 1 + length all = omega (arith, place) in
    n
    ∙ ap (λ t. t ++ script_at site (agent + 1) (is_own (slice_get minds (agent + 1 - 1))) e) h.1
    ∙ append_assoc before (scripts_from site 1 minds all) (script_at site (agent + 1) (is_own (slice_get minds (agent + 1 - 1))) e)
    ∙ ap (λ t. before ++ (scripts_from site 1 minds all ++ script_at site t (is_own (slice_get minds (t - 1))) e)) m
    ∙ ap (λ t. before ++ t) (sym (scripts_more site 1 minds all e))

-- where the same agents live there
pub same_owners : {V : Type 0} (site a : ℕ) (one two : List (Seated V)) (all : List ScriptEntries) → ((i : ℕ) → is_own (slice_get one i) ≡ is_own (slice_get two i)) →
    scripts_from site a one all ≡ scripts_from site a two all
same_owners site a one two [] h = refl
same_owners site a one two (e ∷ all) h =
    ap (λ t. script_at site a t e ++ scripts_from site (a + 1) one all) (h (a - 1))
    ∙ ap (λ t. script_at site a (is_own (slice_get two (a - 1))) e ++ t) (same_owners site (a + 1) one two all h)

-- ---- what is left on the way

pub left_more : (ways : List (List Message)) (way : List Message) → all_left (ways ++ way ∷ []) ≡ all_left ways ++ way
left_more [] way = append-nil way
left_more (w ∷ ways) way = ap (λ t. w ++ t) (left_more ways way) ∙ sym (append_assoc w (all_left ways) way)

abbrev IsOf : ℕ → Message → Type 0
IsOf y m = m.from ≡ y

-- those of the agents from number a on
abbrev AreFrom : ℕ → List (List Message) → Type 0
AreFrom a ways = (i : ℕ) → All (IsOf (a + i)) (box_or_none (slice_get ways i))

of_one : (y : ℕ) (way : List Message) → All (IsOf y) way → those_of y way ≡ way
of_one y [] h = refl
of_one y (m ∷ way) h =
    ap (λ b. cond b (m ∷ those_of y way) (those_of y way)) (eq-eqb m.from y (All-head (IsOf y) m way h)) ∙ ap (λ t. m ∷ t) (of_one y way (All-tail (IsOf y) m way h))

of_other : (y a : ℕ) (way : List Message) → a ≢ y → All (IsOf a) way → those_of y way ≡ []
of_other y a [] n h = refl
of_other y a (m ∷ way) n h =
    let e = All-head (IsOf a) m way h in
    ap (λ b. cond b (m ∷ those_of y way) (those_of y way)) (ne_eqb m.from y (λ q. n (sym e ∙ q))) ∙ of_other y a way n (All-tail (IsOf a) m way h)

rest_from : (a : ℕ) (way : List Message) (ways : List (List Message)) → AreFrom a (way ∷ ways) → AreFrom (a + 1) ways
rest_from a way ways h i =
    let n : a + suc i ≡ a + 1 + i = omega arith in
    subst (λ x. All (IsOf x) (box_or_none (slice_get ways i))) n (h (suc i))

first_from : (a : ℕ) (way : List Message) (ways : List (List Message)) → AreFrom a (way ∷ ways) → All (IsOf a) way
first_from a way ways h =
    let n : a + 0 ≡ a = omega arith in
    subst (λ x. All (IsOf x) way) n (h 0)

none_left : (y a : ℕ) (ways : List (List Message)) → y < a → AreFrom a ways → those_of y (all_left ways) ≡ []
none_left y a [] l h = refl
none_left y a (way ∷ ways) l h =
    filter-append (λ m. nat_eq m.from y) way (all_left ways)
    ∙ ap (λ t. t ++ those_of y (all_left ways)) (of_other y a way (λ e. absurd (omega arith)) (first_from a way ways h))
    ∙ none_left y (a + 1) ways (omega arith) (rest_from a way ways h)

-- those of the first way's agent
first_left : (a : ℕ) (way : List Message) (ways : List (List Message)) → AreFrom a (way ∷ ways) → those_of a (way ++ all_left ways) ≡ way
first_left a way ways h =
    filter-append (λ m. nat_eq m.from a) way (all_left ways)
    ∙ ap (λ t. t ++ those_of a (all_left ways)) (of_one a way (first_from a way ways h))
    ∙ ap (λ t. way ++ t) (none_left a (a + 1) ways (omega arith) (rest_from a way ways h))
    ∙ append-nil way

left_of : (a i : ℕ) (ways : List (List Message)) → AreFrom a ways → those_of (a + i) (all_left ways) ≡ box_or_none (slice_get ways i)
left_of a i [] h = refl
left_of a zero (way ∷ ways) h =
    let n : a + 0 ≡ a = omega arith in
    ap (λ y. those_of y (way ++ all_left ways)) n ∙ first_left a way ways h
left_of a (suc i) (way ∷ ways) h =
    let n : a + suc i ≡ a + 1 + i = omega arith in
    filter-append (λ m. nat_eq m.from (a + suc i)) way (all_left ways)
    ∙ ap (λ t. t ++ those_of (a + suc i) (all_left ways)) (of_other (a + suc i) a way (λ e. absurd (omega arith)) (first_from a way ways h))
    ∙ ap (λ y. those_of y (all_left ways)) n
    ∙ left_of (a + 1) i ways (rest_from a way ways h)

from_at : (ways : List (List Message)) (i : ℕ) (o : Option (List Message)) → AreWays ways → slice_get ways i ≡ o → All (IsOf (1 + i)) (box_or_none o)
from_at ways i None h e = All-nil (IsOf (1 + i))
from_at ways i (Some box) h e =
    let l = is_within ways i box e in
    let n : i + 1 - 1 ≡ i = omega arith in
    let b : box_of ways (i + 1) ≡ box = ap (λ j. box_or_none (slice_get ways j)) n ∙ ap box_or_none e in
    let j : IsAgent (length ways) (i + 1) = record { from_one = omega arith; named = omega (arith, l) } in
    let m : i + 1 ≡ 1 + i = omega arith in
    All-weaker (IsFrom (i + 1) (length ways)) (IsOf (1 + i)) (λ x f. f.from_me ∙ m) box (subst (λ x. All (IsFrom (i + 1) (length ways)) x) b (h.each (i + 1) j))

pub left_is : (ways : List (List Message)) (y : ℕ) → AreWays ways → 1 ≤ y → those_of y (all_left ways) ≡ box_of ways y
left_is ways y h l =
    let n : 1 + (y - 1) ≡ y = omega arith in
    ap (λ x. those_of x (all_left ways)) (sym n) ∙ left_of 1 (y - 1) ways (λ i. from_at ways i (slice_get ways i) h refl)

-- ---- by sender

-- later senders have none on the way of an earlier one
none_before : (n y a : ℕ) (way left : List Message) → a < y → All (IsOf a) way → senders_from y n (way ++ left) ≡ senders_from y n left
none_before zero y a way left l h = refl
none_before (suc n) y a way left l h =
    let none = of_other y a way (λ e. absurd (omega arith)) h in
    ap (λ t. t ++ senders_from (y + 1) n (way ++ left)) (filter-append (λ m. nat_eq m.from y) way left ∙ ap (λ t. t ++ those_of y left) none)
    ∙ ap (λ t. those_of y left ++ t) (none_before n (y + 1) a way left (omega arith) h)

left_in_turn : (a : ℕ) (ways : List (List Message)) → AreFrom a ways → all_left ways ≡ senders_from a (length ways) (all_left ways)
left_in_turn a [] h = refl
left_in_turn a (way ∷ ways) h =
    let left = all_left ways in
    let n = length ways in
    ap (λ t. way ++ t) (left_in_turn (a + 1) ways (rest_from a way ways h))
    ∙ ap (λ t. way ++ t) (sym (none_before n (a + 1) a way left (omega arith) (first_from a way ways h)))
    ∙ ap (λ t. t ++ senders_from (a + 1) n (way ++ left)) (sym (first_left a way ways h))

-- where each way has messages of its own agent alone
pub stands_by_sender : (ways : List (List Message)) (n : ℕ) → AreWays ways → length ways ≡ n → all_left ways ≡ in_turn n (all_left ways)
stands_by_sender ways n h e = left_in_turn 1 ways (λ i. from_at ways i (slice_get ways i) h refl) ∙ ap (λ x. in_turn x (all_left ways)) e
