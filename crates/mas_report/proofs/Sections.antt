-- The parts of a report, one agent after the other.
use Rattle.std.proofs.Common.{ℕ, zero, suc, ◌≡◌, ◌≤◌, ◌<◌, ◌+◌, ◌-◌, arith, Bool, true, false, ◌||◌, List, [], ◌∷◌, ◌++◌, length, drop, slice_get, Option, None, Some, refl, ap, sym, ◌∙◌, subst, append_assoc, append-nil, rules}
use Rattle.std.specs.List.{flat_map, list_any}
use Rattle.std.proofs.lemmas.Option.{slice_get_past}
use Rattle.mas_mind.specs.declared.mind.Message.{Message}
use Rattle.mas_board.specs.declared.seats.AgentPlace.{AgentPlace}
use Rattle.mas_board.specs.Boards.{State, seat_at, seat_of, seat_or_none, name_of}
use Rattle.mas_report.specs.Report.{agent_text, lines_or_none, agents_text, box_text, boxes_text, is_budget, is_spent}

-- a piece more, and what is still to come
onward : (out grown piece rest all total : List ℕ) → grown ≡ out ++ piece → all ≡ piece ++ rest → out ++ all ≡ total → grown ++ rest ≡ total
onward out grown piece rest all total g e h = ap (λ x. x ++ rest) g ∙ append_assoc out piece rest ∙ sym (ap (λ x. out ++ x) e) ∙ h

one_more : (a n : ℕ) → a ≤ n → n + 1 - a ≡ suc (n + 1 - (a + 1))
one_more a n l = omega arith

no_more : (a n : ℕ) → n < a → n + 1 - a ≡ 0
no_more a n l = omega arith

pub agents_next : {V : Type 0} (lines_of : V → List ℕ) (s : State) (minds : List V) (a n : ℕ) (out grown total : List ℕ) → a ≤ n →
    grown ≡ out ++ agent_text (name_of s a) (lines_or_none lines_of (slice_get minds (a - 1))) (seat_at s a) →
    out ++ agents_text lines_of s minds a (n + 1 - a) ≡ total → grown ++ agents_text lines_of s minds (a + 1) (n + 1 - (a + 1)) ≡ total
agents_next lines_of s minds a n out grown total l g h =
    onward out grown _ _ _ total g (ap (agents_text lines_of s minds a) (one_more a n l)) h

pub agents_end : {V : Type 0} (lines_of : V → List ℕ) (s : State) (minds : List V) (a n : ℕ) (out total : List ℕ) → n < a →
    out ++ agents_text lines_of s minds a (n + 1 - a) ≡ total → out ≡ total
agents_end lines_of s minds a n out total l h =
    sym (append-nil out) ∙ sym (ap (λ k. out ++ agents_text lines_of s minds a k) (no_more a n l)) ∙ h

pub boxes_next : (s : State) (a n : ℕ) (out grown total : List ℕ) → a ≤ n → grown ≡ out ++ box_text s a →
    out ++ boxes_text s a (n + 1 - a) ≡ total → grown ++ boxes_text s (a + 1) (n + 1 - (a + 1)) ≡ total
boxes_next s a n out grown total l g h = onward out grown _ _ _ total g (ap (boxes_text s a) (one_more a n l)) h

pub boxes_end : (s : State) (a n : ℕ) (out total : List ℕ) → n < a → out ++ boxes_text s a (n + 1 - a) ≡ total → out ≡ total
boxes_end s a n out total l h = sym (append-nil out) ∙ sym (ap (λ k. out ++ boxes_text s a k) (no_more a n l)) ∙ h

some_same : {A : Type 0} {x y : A} → Some x ≡ Some y → x ≡ y
some_same e = cc

-- the messages from one on, which is there
drop_more : {A : Type 0} (xs : List A) (k : ℕ) (x : A) → slice_get xs k ≡ Some x → drop k xs ≡ x ∷ drop (k + 1) xs
drop_more [] k x e = cc
drop_more (y ∷ xs) zero x e = ap (λ z. z ∷ xs) (some_same e)
drop_more (y ∷ xs) (suc k) x e =
    let same : suc (k + 1) ≡ suc k + 1 = omega arith in
    drop_more xs k x e ∙ ap (λ n. x ∷ drop n (y ∷ xs)) same

drop_none : {A : Type 0} (xs : List A) (k : ℕ) → slice_get xs k ≡ None → drop k xs ≡ []
drop_none [] zero e = refl
drop_none [] (suc k) e = refl
drop_none (y ∷ xs) zero e = cc
drop_none (y ∷ xs) (suc k) e = drop_none xs k e

pub letters_next : (line : Message → List ℕ) (box : List Message) (k : ℕ) (m : Message) (out grown total : List ℕ) → slice_get box k ≡ Some m → grown ≡ out ++ line m →
    out ++ flat_map line (drop k box) ≡ total → grown ++ flat_map line (drop (k + 1) box) ≡ total
letters_next line box k m out grown total e g h = onward out grown (line m) _ _ total g (ap (flat_map line) (drop_more box k m e)) h

pub letters_end : (line : Message → List ℕ) (box : List Message) (k : ℕ) (out total : List ℕ) → slice_get box k ≡ None →
    out ++ flat_map line (drop k box) ≡ total → out ≡ total
letters_end line box k out total e h = sym (append-nil out) ∙ sym (ap (λ x. out ++ flat_map line x) (drop_none box k e)) ∙ h

pub letters_past : (line : Message → List ℕ) (box : List Message) (k : ℕ) (out total : List ℕ) → length box ≤ k →
    out ++ flat_map line (drop k box) ≡ total → out ≡ total
letters_past line box k out total l h = letters_end line box k out total (slice_get_past box k l) h

-- ---- spent searches

first_at : (seats : List AgentPlace) (n : ℕ) → n < length seats → drop n seats ≡ seat_or_none (slice_get seats n) ∷ drop (n + 1) seats
first_at [] n l = absurd (omega (arith, l))
first_at (seat ∷ seats) zero l = refl
first_at (seat ∷ seats) (suc k) l =
    let less : k < length seats = omega (arith, l) in
    let same : suc (k + 1) ≡ suc k + 1 = omega arith in
    first_at seats k less ∙ ap (λ n. seat_or_none (slice_get seats k) ∷ drop n (seat ∷ seats)) same

first_of : (seats : List AgentPlace) (a : ℕ) → 1 ≤ a → a ≤ length seats → drop (a - 1) seats ≡ seat_of seats a ∷ drop a seats
first_of seats a l h =
    let less : a - 1 < length seats = omega (arith, l, h) in
    let same : a - 1 + 1 ≡ a = omega (arith, l) in
    first_at seats (a - 1) less ∙ ap (λ n. seat_of seats a ∷ drop n seats) same

pub spent_here : (s : State) (a : ℕ) → 1 ≤ a → a ≤ length s.seats → is_budget (seat_at s a).phase ≡ true → is_spent (drop (a - 1) s.seats) ≡ is_spent s.seats → is_spent s.seats ≡ true
spent_here s a l h b e =
    sym e ∙ ap is_spent (first_of s.seats a l h) ∙ ap (λ x. x || is_spent (drop a s.seats)) b

pub spent_next : (s : State) (a : ℕ) → 1 ≤ a → a ≤ length s.seats → is_budget (seat_at s a).phase ≡ false → is_spent (drop (a - 1) s.seats) ≡ is_spent s.seats →
    is_spent (drop (a + 1 - 1) s.seats) ≡ is_spent s.seats
spent_next s a l h b e =
    let same : a + 1 - 1 ≡ a = omega arith in
    ap (λ k. is_spent (drop k s.seats)) same ∙ sym (ap is_spent (first_of s.seats a l h) ∙ ap (λ x. x || is_spent (drop a s.seats)) b) ∙ e

past : (seats : List AgentPlace) (k : ℕ) → length seats ≤ k → drop k seats ≡ []
past [] zero l = refl
past [] (suc k) l = refl
past (seat ∷ seats) zero l = absurd (omega (arith, l))
past (seat ∷ seats) (suc k) l = past seats k (omega (arith, l))

pub spent_end : (s : State) (a : ℕ) → length s.seats < a → is_spent (drop (a - 1) s.seats) ≡ is_spent s.seats → is_spent s.seats ≡ false
spent_end s a l e = let d : length s.seats ≤ a - 1 = omega arith in sym e ∙ ap is_spent (past s.seats (a - 1) d)
