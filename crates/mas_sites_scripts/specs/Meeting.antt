-- Two sites on one thread. Site 1 makes a round, then site 2, until both have ended. A round makes, once for each agent that has
-- not left, in order, its Sense and its Emit or Leave. At a Sense that gives an input to a stand, what the stand takes of an agent
-- of its site goes on the way to the other site, and the oldest message on the way from the stand's agent goes onto its script;
-- where there is none, an empty entry goes onto it.
use Rattle.std.specs.Prelude.{ℕ, zero, suc, ◌+◌, ◌-◌, Bool, true, false, ◌&&◌, if◌then◌else◌, List, [], ◌∷◌, ◌++◌, length, slice_get, Option, None, Some}
use Rattle.mas_mind.specs.declared.mind.Message.{Message}
use Rattle.mas_mind.specs.declared.mind.Input.{Input}
use Rattle.mas_mind.specs.Minds.{Kind}
use Rattle.mas_board.specs.declared.seats.Phase.{Phase}
use Rattle.mas_board.specs.declared.seats.Phase.TheVariants.{Idle, Busy, Left as Gone}
use Rattle.mas_board.specs.declared.seats.Sensed.{Sensed}
use Rattle.mas_board.specs.declared.seats.Sensed.TheVariants.{Input as Given, Left, Ahead, Halted}
use Rattle.mas_board.specs.Boards.{seat_at, sense, is_gone, box_of, oldest}
use Rattle.mas_core.specs.Platform.{Platform, turn, ended}
use Rattle.mas_sites_stand.specs.declared.seated.Seated.{Seated}
use Rattle.mas_sites_stand.specs.declared.seated.Seated.TheVariants as seat
use Rattle.mas_sites_stand.specs.Seats.{seated}
use Rattle.mas_sites_scripts.specs.Ways.{with_put, without_oldest}
use Rattle.mas_sites_scripts.specs.Giving.{leaving}
use Rattle.mas_sites_scripts.specs.Sites.{Sited, fed}

-- a site, and of each agent the messages that are on the way
pub record Going (V : Type 0) : Type 0 where
  pub site : Sited V
  pub ways : List (List Message)

-- ---- a turn

abbrev pub sent : Option Message → List (List Message) → List (List Message)
sent None ways = ways
sent (Some m) ways = with_put ways m

-- what the stand of an agent takes of an agent that lives here is sent, and it gets the oldest of its agent's messages that are on the way
abbrev pub stand_given : {V : Type 0} → Going V → ℕ → Input → Going V
stand_given g a input =
    let ways = sent (leaving g.site.platform.minds input.message) g.ways in
    record { site = fed a (oldest (box_of ways a)) g.site; ways = without_oldest ways a }

abbrev pub mind_given : {V : Type 0} → Going V → ℕ → Input → Option (Seated V) → Going V
mind_given g a input None = g
mind_given g a input (Some (seat.Own m)) = g
mind_given g a input (Some (seat.Stand s)) = stand_given g a input

abbrev pub given_at : {V : Type 0} → Going V → ℕ → Sensed → Going V
given_at g a (Given input) = mind_given g a input (slice_get g.site.platform.minds (a - 1))
given_at g a (Left end) = g
given_at g a (Ahead cycle lowest) = g
given_at g a Halted = g

-- only at the turn of an idle agent
abbrev pub given_in : {V : Type 0} → Going V → ℕ → Phase → Going V
given_in g a Idle = given_at g a (sense g.site.platform.board a).0
given_in g a Busy = g
given_in g a (Gone end) = g

abbrev pub after_turn : {V : Type 0} → Going V → ℕ → Option (Platform (Seated V)) → Option (Going V)
after_turn g a None = None
after_turn g a (Some p) = Some (record { site = record { platform = p; schedule = g.site.schedule ++ a ∷ []; scripts = g.site.scripts }; ways = g.ways })

-- the turn of an agent of a site
abbrev pub site_turn : {V : Type 0} → Kind V → Going V → ℕ → Option (Going V)
site_turn k g a = let h = given_in g a (seat_at g.site.platform.board a).phase in after_turn h a (turn (seated k) h.site.platform a)

-- ---- rounds

abbrev pub and_then : {A B : Type 0} → (A → Option B) → Option A → Option B
and_then f None = None
and_then f (Some x) = f x

abbrev pub is_here : {V : Type 0} → Going V → ℕ → Bool
is_here g a = if is_gone (seat_at g.site.platform.board a).phase then false else true

-- one agent's Sense, and its Emit or Leave where it has not left
abbrev pub go : {V : Type 0} → Kind V → Going V → ℕ → Option (Going V)
go k g a =
    if is_here g a then and_then (λ h. if is_here h a then site_turn k h a else Some h) (site_turn k g a)
    else Some g

-- the agents of these numbers, so many from this one on
abbrev pub goes : {V : Type 0} → Kind V → ℕ → ℕ → Going V → Option (Going V)
goes k a zero g = Some g
goes k a (suc n) g = and_then (goes k (a + 1) n) (go k g a)

abbrev pub round : {V : Type 0} → Kind V → Going V → Option (Going V)
round k g = goes k 1 (length g.site.platform.board.seats) g

-- both sites
pub record Meeting (V : Type 0) : Type 0 where
  pub one : Sited V
  pub two : Sited V
  pub ways : List (List Message)

abbrev pub second : {V : Type 0} → Sited V → Going V → Meeting V
second one g = record { one = one; two = g.site; ways = g.ways }

abbrev pub mapped : {A B : Type 0} → (A → B) → Option A → Option B
mapped f None = None
mapped f (Some x) = Some (f x)

-- site 1 makes a round, then site 2
abbrev pub both_round : {V : Type 0} → Kind V → Meeting V → Option (Meeting V)
both_round k m = and_then (λ g. mapped (second g.site) (round k (record { site = m.two; ways = g.ways }))) (round k (record { site = m.one; ways = m.ways }))

abbrev pub have_ended : {V : Type 0} → Meeting V → Bool
have_ended m = ended m.one.platform.board.seats && ended m.two.platform.board.seats

-- until both have ended, within so many rounds
abbrev pub meet : {V : Type 0} → Kind V → ℕ → Meeting V → Option (Meeting V)
meet k zero m = Some m
meet k (suc n) m = if have_ended m then Some m else and_then (meet k n) (both_round k m)
