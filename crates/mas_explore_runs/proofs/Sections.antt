-- The sections of an outcome, one agent after the other, and the seats of which none is cut.
use Rattle.std.proofs.Common.{ℕ, zero, suc, ◌≡◌, ◌≤◌, ◌<◌, ◌+◌, ◌-◌, arith, Bool, true, false, not, ◌&&◌, List, [], ◌∷◌, ◌++◌, length, drop, slice_get, refl, ap, sym, ◌∙◌, append_assoc, append-nil}
use Rattle.mas_board.specs.declared.seats.AgentPlace.{AgentPlace}
use Rattle.mas_board.specs.Boards.{State, seat_at, seat_of, seat_or_none}
use Rattle.mas_free.specs.Outcome.{sections, is_cut, uncut}

-- a piece more, and what is still to come
onward : (out grown piece rest all total : List ℕ) → grown ≡ out ++ piece → all ≡ piece ++ rest → out ++ all ≡ total → grown ++ rest ≡ total
onward out grown piece rest all total g e h = ap (λ x. x ++ rest) g ∙ append_assoc out piece rest ∙ sym (ap (λ x. out ++ x) e) ∙ h

one_more : (a n : ℕ) → a ≤ n → n + 1 - a ≡ suc (n + 1 - (a + 1))
one_more a n l = omega arith

no_more : (a n : ℕ) → n < a → n + 1 - a ≡ 0
no_more a n l = omega arith

pub sections_next : (of : ℕ → List ℕ) (a n : ℕ) (out grown total : List ℕ) → a ≤ n → grown ≡ out ++ of a →
    out ++ sections of a (n + 1 - a) ≡ total → grown ++ sections of (a + 1) (n + 1 - (a + 1)) ≡ total
sections_next of a n out grown total l g h = onward out grown (of a) _ _ total g (ap (sections of a) (one_more a n l)) h

pub sections_end : (of : ℕ → List ℕ) (a n : ℕ) (out total : List ℕ) → n < a → out ++ sections of a (n + 1 - a) ≡ total → out ≡ total
sections_end of a n out total l h = sym (append-nil out) ∙ sym (ap (λ k. out ++ sections of a k) (no_more a n l)) ∙ h

-- ---- seats

first_at : (seats : List AgentPlace) (n : ℕ) → n < length seats → drop n seats ≡ seat_or_none (slice_get seats n) ∷ drop (n + 1) seats
first_at [] n l = absurd (omega (arith, l))
first_at (seat ∷ seats) zero l = refl
first_at (seat ∷ seats) (suc k) l =
    let less : k < length seats = omega (arith, l) in
    let same : suc (k + 1) ≡ suc k + 1 = omega arith in
    first_at seats k less ∙ ap (λ n. seat_or_none (slice_get seats k) ∷ drop n (seat ∷ seats)) same

first_of : (seats : List AgentPlace) (a : ℕ) → 1 ≤ a → a ≤ length seats → drop (a - 1) seats ≡ seat_of seats a ∷ drop a seats
first_of seats a l h =
    let less : a - 1 < length seats = omega (arith, l, h) in
    let same : a - 1 + 1 ≡ a = omega (arith, l) in
    first_at seats (a - 1) less ∙ ap (λ n. seat_of seats a ∷ drop n seats) same

-- whether the rest is uncut, behind a seat that is cut or not
behind : (s : State) (a : ℕ) (cut : Bool) → 1 ≤ a → a ≤ length s.seats → is_cut (seat_at s a).phase ≡ cut → uncut (drop (a - 1) s.seats) ≡ uncut s.seats →
    uncut s.seats ≡ (not cut && uncut (drop a s.seats))
behind s a cut l h b e = sym e ∙ ap uncut (first_of s.seats a l h) ∙ ap (λ x. not x && uncut (drop a s.seats)) b

pub cut_here : (s : State) (a : ℕ) → 1 ≤ a → a ≤ length s.seats → is_cut (seat_at s a).phase ≡ true → uncut (drop (a - 1) s.seats) ≡ uncut s.seats → uncut s.seats ≡ false
cut_here s a l h b e = behind s a true l h b e

pub uncut_next : (s : State) (a : ℕ) → 1 ≤ a → a ≤ length s.seats → is_cut (seat_at s a).phase ≡ false → uncut (drop (a - 1) s.seats) ≡ uncut s.seats →
    uncut (drop (a + 1 - 1) s.seats) ≡ uncut s.seats
uncut_next s a l h b e =
    let same : a + 1 - 1 ≡ a = omega arith in
    ap (λ k. uncut (drop k s.seats)) same ∙ sym (behind s a false l h b e)

past : (seats : List AgentPlace) (k : ℕ) → length seats ≤ k → drop k seats ≡ []
past [] zero l = refl
past [] (suc k) l = refl
past (seat ∷ seats) zero l = absurd (omega (arith, l))
past (seat ∷ seats) (suc k) l = past seats k (omega (arith, l))

pub uncut_end : (s : State) (a : ℕ) → length s.seats < a → uncut (drop (a - 1) s.seats) ≡ uncut s.seats → uncut s.seats ≡ true
uncut_end s a l e = let d : length s.seats ≤ a - 1 = omega arith in sym e ∙ ap uncut (past s.seats (a - 1) d)
