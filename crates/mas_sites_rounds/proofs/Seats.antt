-- Lists of seats, place by place.
use Rattle.std.proofs.Common.{ℕ, zero, suc, ◌≡◌, ◌+◌, ◌-◌, ◌<◌, arith, true, ◌&&◌, List, [], ◌∷◌, All, length, slice_get, Some, refl, ap, ◌∙◌, subst}
use Rattle.std.proofs.lemmas.List.Elements.{All-nil, All-cons}
use Rattle.mas_mind.specs.Minds.{IsAgent}
use Rattle.mas_board.specs.declared.seats.AgentPlace.{AgentPlace}
use Rattle.mas_board.specs.Boards.{seat_of, seat_or_none, is_gone}
use Rattle.mas_core.specs.Platform.{ended}

-- what holds of each place
place_in : {X : Type 0} (xs : List X) (j : ℕ) (x : X) → slice_get xs j ≡ Some x → j < length xs
place_in [] j x e = cc
place_in (y ∷ xs) zero x e = omega arith
place_in (y ∷ xs) (suc j) x e = let h = place_in xs j x e in omega arith

each_seat : (P : AgentPlace → Type 0) (seats : List AgentPlace) → ((a : ℕ) → IsAgent (length seats) a → P (seat_of seats a)) → (j : ℕ) (s : AgentPlace) → slice_get seats j ≡ Some s → P s
each_seat P seats h j s e =
    let l = place_in seats j s e in
    let q : j + 1 - 1 ≡ j = omega arith in
    subst P (ap (λ x. seat_or_none (slice_get seats x)) q ∙ ap seat_or_none e) (h (j + 1) (record { from_one = omega arith; named = omega arith }))

all_places : (P : AgentPlace → Type 0) (seats : List AgentPlace) → ((j : ℕ) (s : AgentPlace) → slice_get seats j ≡ Some s → P s) → All P seats
all_places P [] h = All-nil P
all_places P (s ∷ seats) h = All-cons P s seats (h 0 s refl) (all_places P seats (λ j x e. h (suc j) x e))

pub all_seats : (P : AgentPlace → Type 0) (seats : List AgentPlace) → ((a : ℕ) → IsAgent (length seats) a → P (seat_of seats a)) → All P seats
all_seats P seats h = all_places P seats (each_seat P seats h)

gone_places : (seats : List AgentPlace) → ((j : ℕ) (s : AgentPlace) → slice_get seats j ≡ Some s → is_gone s.phase ≡ true) → ended seats ≡ true
gone_places [] h = refl
gone_places (s ∷ seats) h = ap (λ x. x && ended seats) (h 0 s refl) ∙ gone_places seats (λ j x e. h (suc j) x e)

pub all_ended : (seats : List AgentPlace) → ((a : ℕ) → IsAgent (length seats) a → is_gone (seat_of seats a).phase ≡ true) → ended seats ≡ true
all_ended seats h = gone_places seats (each_seat (λ s. is_gone s.phase ≡ true) seats h)
