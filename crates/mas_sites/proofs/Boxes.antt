-- The messages in a box are those of its agent.
use Rattle.std.proofs.Common.{ℕ, zero, suc, ◌≡◌, ◌-◌, ◌≤◌, arith, Bool, true, false, true≢false, nat_eq, ◌&&◌, if◌then◌else◌, List, [], ◌∷◌, All, replicate, slice_get, slice_set, Some, refl, ap, sym, ◌∙◌}
use Rattle.std.specs.Prelude.{cond}
use Rattle.std.specs.Option.{option_to_list}
use Rattle.std.proofs.lemmas.Bool.{ne_eqb, eqb-true, eqb-false}
use Rattle.std.proofs.lemmas.List.Elements.{All-nil, All-cons, All-head, All-tail, All-push, All-drop}
use Rattle.mas_mind.specs.declared.mind.Message.{Message}
use Rattle.mas_mind.specs.Minds.{Kind}
use Rattle.mas_board.specs.declared.seats.Phase.{Phase}
use Rattle.mas_board.specs.declared.seats.Phase.TheVariants.{Idle, Busy, Left as Gone}
use Rattle.mas_board.specs.declared.seats.Sensed.{Sensed}
use Rattle.mas_board.specs.Boards.{State, seat_at, sense, box_of, box_or_none, oldest, put_last, posted}
use Rattle.mas_core.specs.Platform.{Platform, turn}
use Rattle.mas_core_laws.specs.Mail.{takes, takes_in, message_of, takes_as, between}
use Rattle.mas_core_laws.proofs.Steps.{SensedAs, Goes, Waits, Takes, sensed, Turned, Leaves, Thinks, Emits, Spends, turned}
use Rattle.mas_sites_stand.specs.declared.seated.Seated.{Seated}
use Rattle.mas_sites_scripts.specs.Giving.{is_own}
use Rattle.mas_sites_rounds.specs.Between.{those_of, stand_takes}

-- to the agent of this place, counted from 0
abbrev pub IsFor : ℕ → Message → Type 0
IsFor i m = m.to - 1 ≡ i

abbrev pub AreFor : List (List Message) → Type 0
AreFor boxes = (i : ℕ) → All (IsFor i) (box_or_none (slice_get boxes i))

set_all : (P : ℕ → List Message → Type 0) (xs : List (List Message)) (j : ℕ) (x : List Message) → ((i : ℕ) → P i (box_or_none (slice_get xs i))) → P j x →
    (i : ℕ) → P i (box_or_none (slice_get (slice_set xs j x) i))
set_all P [] j x h p i = h i
set_all P (y ∷ xs) zero x h p zero = p
set_all P (y ∷ xs) zero x h p (suc i) = h (suc i)
set_all P (y ∷ xs) (suc j) x h p zero = h zero
set_all P (y ∷ xs) (suc j) x h p (suc i) = set_all (λ n. P (suc n)) xs j x (λ n. h (suc n)) p i

set_for : (boxes : List (List Message)) (j : ℕ) (box : List Message) → AreFor boxes → All (IsFor j) box → AreFor (slice_set boxes j box)
set_for boxes j box h p = set_all (λ i box. All (IsFor i) box) boxes j box h p

put_for : (boxes : List (List Message)) (m : Message) → AreFor boxes → AreFor (put_last boxes m)
put_for boxes m h = set_for boxes (m.to - 1) _ h (All-push (IsFor (m.to - 1)) (box_of boxes m.to) m (h (m.to - 1)) refl)

posted_for : (boxes : List (List Message)) (ms : List Message) → AreFor boxes → AreFor (posted boxes ms)
posted_for boxes [] h = h
posted_for boxes (m ∷ ms) h = posted_for (put_last boxes m) ms (put_for boxes m h)

same_for : (old new : List (List Message)) → new ≡ old → AreFor old → AreFor new
same_for old new e h i = rw e (h i)

for_case : {V : Type 0} (k : Kind V) (p q : Platform V) (a : ℕ) → Turned k p a (sense p.board a) q → AreFor p.board.boxes → AreFor q.board.boxes
for_case k p q a (Leaves t) h = same_for _ _ (ap (λ x. x.board.boxes) t.is) h
for_case k p q a (Thinks t) h =
    same_for _ _ (ap (λ x. x.board.boxes) t.is) (set_for p.board.boxes (a - 1) _ h (All-drop (IsFor (a - 1)) 1 (box_of p.board.boxes a) (h (a - 1))))
for_case k p q a (Emits t) h = same_for _ _ (ap (λ x. x.board.boxes) t.is) (posted_for p.board.boxes t.outs.messages h)
for_case k p q a (Spends t) h = same_for _ _ (ap (λ x. x.board.boxes) t.is) h

pub for_turn : {V : Type 0} (k : Kind V) (p q : Platform V) (a : ℕ) → turn k p a ≡ Some q → AreFor p.board.boxes → AreFor q.board.boxes
for_turn k p q a e h = for_case k p q a (turned k p a q e).case h

none_for : (n i : ℕ) → All (IsFor i) (box_or_none (slice_get (replicate n []) i)) × (box_or_none (slice_get (replicate n []) i) ≡ [])
none_for zero i = (All-nil (IsFor i), refl)
none_for (suc n) zero = (All-nil (IsFor zero), refl)
none_for (suc n) (suc i) = let e = (none_for n i).1 in (rw e (All-nil (IsFor (suc i))), e)

pub opening_for : (n : ℕ) → AreFor (replicate n [])
opening_for n i = (none_for n i).0

-- ---- what a turn takes

oldest_for : (i : ℕ) (box : List Message) → All (IsFor i) box → All (IsFor i) (option_to_list (oldest box))
oldest_for i [] h = All-nil (IsFor i)
oldest_for i (m ∷ box) h = All-cons (IsFor i) m [] (All-head (IsFor i) m box h) (All-nil (IsFor i))

sensed_for : (s : State) (a : ℕ) (r : Sensed × State) → SensedAs s a r → AreFor s.boxes → All (IsFor (a - 1)) (message_of r.0)
sensed_for s a r (Goes e f) h = rw f (All-nil (IsFor (a - 1)))
sensed_for s a r (Waits f) h = rw f (All-nil (IsFor (a - 1)))
sensed_for s a r (Takes l w f) h = rw f (oldest_for (a - 1) (box_of s.boxes a) (h (a - 1)))

takes_for : {V : Type 0} (p : Platform V) (a : ℕ) (phase : Phase) → AreFor p.board.boxes → All (IsFor (a - 1)) (takes_in p a phase)
takes_for p a Idle h = sensed_for p.board a (sense p.board a) (sensed p.board a) h
takes_for p a Busy h = All-nil (IsFor (a - 1))
takes_for p a (Gone end) h = All-nil (IsFor (a - 1))

-- ---- those from one agent to another

by_sender : (y x : ℕ) (m : Message) (ms those : List Message) (b : Bool) → nat_eq m.from y ≡ b → between y x those ≡ between y x ms →
    between y x (cond b (m ∷ those) those) ≡ cond (b && nat_eq m.to x) (m ∷ between y x ms) (between y x ms)
by_sender y x m ms those true e h =
    ap (λ b. cond (b && nat_eq m.to x) (m ∷ between y x those) (between y x those)) e ∙ ap (λ t. cond (nat_eq m.to x) (m ∷ t) t) h
by_sender y x m ms those false e h = h

-- by sender, and then by receiver
pub between_those : (y x : ℕ) (ms : List Message) → between y x (those_of y ms) ≡ between y x ms
between_those y x [] = refl
between_those y x (m ∷ ms) = by_sender y x m ms (those_of y ms) (nat_eq m.from y) refl (between_those y x ms)

not_to : (b c : Bool) (t u : List Message) → c ≡ false → cond (b && c) t u ≡ u
not_to true c t u e = ap (λ d. cond d t u) e
not_to false c t u e = refl

none_to : (y x i : ℕ) (ms : List Message) → ((m : Message) → IsFor i m → nat_eq m.to x ≡ false) → All (IsFor i) ms → between y x ms ≡ []
none_to y x i [] f h = refl
none_to y x i (m ∷ ms) f h =
    not_to (nat_eq m.from y) (nat_eq m.to x) (m ∷ between y x ms) (between y x ms) (f m (All-head (IsFor i) m ms h)) ∙ none_to y x i ms f (All-tail (IsFor i) m ms h)

elsewhere : (x a : ℕ) → 1 ≤ x → 1 ≤ a → nat_eq a x ≡ false → (m : Message) → IsFor (a - 1) m → nat_eq m.to x ≡ false
elsewhere x a i j e m h = ne_eqb m.to x (λ q. eqb-false a x e (omega arith))

took_by : {V : Type 0} (q : Platform (Seated V)) (y x a : ℕ) (t own : Bool) → 1 ≤ x → 1 ≤ a → AreFor q.board.boxes → nat_eq a x ≡ t → is_own (slice_get q.minds (a - 1)) ≡ own →
    is_own (slice_get q.minds (x - 1)) ≡ false → between y x (if own then [] else those_of y (takes q a)) ≡ between y x (if t then takes q a else [])
took_by q y x a true true i j h e o f = absurd (true≢false (sym o ∙ ap (λ n. is_own (slice_get q.minds (n - 1))) (eqb-true a x e) ∙ f))
took_by q y x a true false i j h e o f = between_those y x (takes q a)
took_by q y x a false true i j h e o f = refl
took_by q y x a false false i j h e o f =
    between_those y x (takes q a) ∙ none_to y x (a - 1) (takes q a) (elsewhere x a i j e) (takes_for q a (seat_at q.board a).phase h)

-- what a stand takes of y, where it is that of x
pub took : {V : Type 0} (q : Platform (Seated V)) (y x a : ℕ) → 1 ≤ x → 1 ≤ a → AreFor q.board.boxes → is_own (slice_get q.minds (x - 1)) ≡ false →
    between y x (stand_takes y q a) ≡ between y x (takes_as x q a)
took q y x a i j h f = took_by q y x a (nat_eq a x) (is_own (slice_get q.minds (a - 1))) i j h refl refl f
