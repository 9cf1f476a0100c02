-- Two agents, each of which lives at a site of its own.
use Rattle.std.specs.Prelude.{ℕ, ◌≡◌, false, List, [], ◌∷◌, length}
use Rattle.mas_board.specs.Boards.{Noted, seat_at}
use Rattle.mas_sites_stand.specs.declared.seated.Seated.{Seated}
use Rattle.mas_sites_stand.specs.declared.seated.Seated.TheVariants as seat
use Rattle.mas_sites_stand.specs.Stands.{Standing}

-- a board of two agents, on which no turn was made
pub record IsOpened (b : Noted) : Type 0 where
  pub unplayed : b.schedule ≡ []
  pub running : b.halted ≡ false
  pub agents : length b.state.seats ≡ 2
  pub unbegun : (a : ℕ) → (seat_at b.state a).cycle ≡ 0

-- of the agent of this number, before its first cycle
pub record IsNew (me : ℕ) (s : Standing) : Type 0 where
  pub is_me : s.me ≡ me
  pub agents : length s.names ≡ 2
  pub unmade : s.made ≡ 0

-- and that has nothing to send
pub record IsFresh (me : ℕ) (s : Standing) : Type 0 where
  pub new : IsNew me s
  pub script : s.script ≡ []
  pub taken : s.taken ≡ []

pub record AreOfOne (minds : List (Seated Standing)) : Type 0 where
  pub alice : Standing
  pub bob : Standing
  pub are : minds ≡ seat.Own alice ∷ seat.Stand bob ∷ []
  pub alice_new : IsNew 1 alice
  pub bob_fresh : IsFresh 2 bob

pub record AreOfTwo (minds : List (Seated Standing)) : Type 0 where
  pub alice : Standing
  pub bob : Standing
  pub are : minds ≡ seat.Stand alice ∷ seat.Own bob ∷ []
  pub alice_fresh : IsFresh 1 alice
  pub bob_new : IsNew 2 bob
