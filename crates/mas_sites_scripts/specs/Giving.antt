-- What passes between a site and the other one when a mind is given its input.
use Rattle.std.specs.Prelude.{ℕ, Bool, true, false, if◌then◌else◌, ◌≡◌, ◌-◌, ◌⊎◌, ◌≤◌, IfSome, List, length, slice_get, Option, None, Some}
use Rattle.mas_mind.specs.declared.mind.Message.{Message}
use Rattle.mas_mind.specs.Minds.{IsFor}
use Rattle.mas_sites_stand.specs.declared.seated.Seated.{Seated}
use Rattle.mas_sites_stand.specs.declared.seated.Seated.TheVariants as seat
use Rattle.mas_sites_stand.specs.Stands.{Standing}
use Rattle.mas_sites_scripts.specs.Scripts.{Script, given, change, longer}

-- a stand with an entry may make a cycle
abbrev pub HasEntry : {V : Type 0} → Seated V → Type 0
HasEntry (seat.Own m) = Unit {0}
HasEntry (seat.Stand s) = 1 ≤ length s.script

-- whether a stand is there
abbrev pub StandsAt : {V : Type 0} → Option (Seated V) → Bool → Type 0
StandsAt {V} o true = (s : Standing) × (o ≡ Some (seat.Stand s))
StandsAt {V} o false = (m : V) × (o ≡ Some (seat.Own m))

-- the minds of a site, and the entries that its stands were given
pub record Placed (V : Type 0) : Type 0 where
  pub minds : List (Seated V)
  pub scripts : List Script

abbrev pub placing : {V : Type 0} → List (Seated V) → List Script → Placed V
placing minds scripts = record { minds = minds; scripts = scripts }

-- a mind of the agent's own is there
abbrev pub is_own : {V : Type 0} → Option (Seated V) → Bool
is_own None = false
is_own (Some (seat.Own m)) = true
is_own (Some (seat.Stand s)) = false

-- what a stand takes goes to the other site where it is of an agent that lives at this one
abbrev pub leaving : {V : Type 0} → List (Seated V) → Option Message → Option Message
leaving minds None = None
leaving minds (Some m) = if is_own (slice_get minds (m.from - 1)) then Some m else None

-- the message, where there is one, goes to the other site
abbrev pub Sends : {C : Type 0} → (C → Message → C → Type 0) → C → Option Message → C → Type 0
Sends put old None new = new ≡ old
Sends put old (Some m) new = put old m new

-- a stand gets an entry from the other site, and what it takes goes there
pub record StandIsGiven {V C : Type 0} (got : C → ℕ → Option Message → C → Type 0) (put : C → Message → C → Type 0)
    (from to : C) (old new : Placed V) (a : ℕ) (message : Option Message) : Type 0 where
  pub stand : Standing
  pub is : slice_get old.minds (a - 1) ≡ Some (seat.Stand stand)
  pub for_me : IfSome message (IsFor a (length old.minds))
  pub middle : C
  pub sent : Sends put from (leaving old.minds message) middle
  pub entry : Option Message
  pub got_it : got middle a entry to
  pub minds : new.minds ≡ change (a - 1) (given entry) old.minds
  pub scripts : new.scripts ≡ change (a - 1) (longer entry) old.scripts

-- an agent's own mind gets nothing from there
pub record OwnIsGiven {V C : Type 0} (from to : C) (old new : Placed V) (a : ℕ) : Type 0 where
  pub own : V
  pub is : slice_get old.minds (a - 1) ≡ Some (seat.Own own)
  pub carrier : to ≡ from
  pub same : new ≡ old

abbrev pub IsGiven : {V C : Type 0} → (C → ℕ → Option Message → C → Type 0) → (C → Message → C → Type 0) →
    C → C → Placed V → Placed V → ℕ → Option Message → Type 0
IsGiven got put from to old new a message = OwnIsGiven from to old new a ⊎ StandIsGiven got put from to old new a message
