-- A site that runs beside the other one: what its ends of the wires know.
use Rattle.std.specs.Prelude.{ℕ, ◌≡◌, ◌-◌, Bool, true, false, List, [], length, map, slice_get, Option, None, Some}
use Rattle.mas_mind.specs.declared.mind.Message.{Message}
use Rattle.mas_mind.specs.Minds.{Kind, IsAgent}
use Rattle.mas_board.specs.Boards.{Noted}
use Rattle.mas_core.specs.Fits.{Start}
use Rattle.mas_core.specs.Platform.{ended}
use Rattle.mas_sites_stand.specs.declared.seated.Seated.{Seated}
use Rattle.mas_sites_stand.specs.Seats.{seated}
use Rattle.mas_sites_scripts.specs.Scripts.{Script}
use Rattle.mas_sites_scripts.specs.Giving.{is_own}
use Rattle.mas_sites_scripts.specs.Sites.{Sited, Before, After, AreFresh, opening_with, IsAlong, GoesAlong, KeepsUsedUp, RanWhole}
use Rattle.mas_sites_rounds.specs.Between.{taken_of, messages_in, script_of}
use Rattle.mas_sites_wire.specs.declared.wire.Log.{Log}
use Rattle.mas_sites_wire.specs.declared.wire.Wire.{Wire}
use Rattle.mas_sites_wire.specs.declared.wire.WireEnd.{WireEnd}
use Rattle.mas_sites_wire.specs.Ends.{log_of}
use Rattle.mas_sites_wire.specs.Lines.{Lines, AreHere, AreBlank}

-- of each agent whether it lives at the site
abbrev pub homes : {V : Type 0} → List (Seated V) → List Bool
homes minds = map (λ m. is_own (Some m)) minds

-- what an end knows, where there is one
abbrev pub may_put : Option Log → Bool
may_put None = false
may_put (Some v) = v.puts

abbrev pub put_on : Option Log → List Message
put_on None = []
put_on (Some v) = v.put

abbrev pub got_on : Option Log → List Message
got_on None = []
got_on (Some v) = v.got

-- of each agent y: where it lives at the site, what was put on its wire is what the stands there took of y, in the order of
-- their Senses; and else what was got from its wire is what y's stand was given
pub record AreCarried {V : Type 0} (k : Kind V) (near : Before V) (scripts : List Script) (schedule : List ℕ) (logs : List Log) : Type 0 where
  pub number : length logs ≡ length near.minds
  pub may : (y : ℕ) → IsAgent (length near.minds) y → may_put (slice_get logs (y - 1)) ≡ is_own (slice_get near.minds (y - 1))
  pub out : (y : ℕ) → IsAgent (length near.minds) y → is_own (slice_get near.minds (y - 1)) ≡ true →
      put_on (slice_get logs (y - 1)) ≡ taken_of k y (opening_with near.board near.minds scripts) schedule
  pub back : (y : ℕ) → IsAgent (length near.minds) y → is_own (slice_get near.minds (y - 1)) ≡ false →
      got_on (slice_get logs (y - 1)) ≡ messages_in (script_of scripts y)

-- ---- rounds

-- which rounds keep, from every opening
abbrev pub KeepsCarried : {V : Type 0} → Kind V → Lines → Lines → Sited V → Sited V → Type 0
KeepsCarried {V} k from to old new =
    (near : Before V) → IsAlong k near.board near.minds old → AreCarried k near old.scripts old.schedule from.logs →
    AreCarried k near new.scripts new.schedule to.logs

-- until all agents have left
pub record HasRunOut {V : Type 0} (k : Kind V) (from to : Lines) (old new : Sited V) : Type 0 where
  pub along : GoesAlong k old new
  pub used_up : KeepsUsedUp old new
  pub carried : KeepsCarried k from to old new
  pub wires : to.wires ≡ from.wires
  pub over : ended new.platform.board.seats ≡ true

-- ---- a whole run

-- what a site begins with: of each wire a new end, which puts where the agent lives at the site
pub record MayRun {V : Type 0} (k : Kind V) (board : Noted) (minds : List (Seated V)) (wires : List Wire) (ends : List WireEnd) : Type 0 where
  pub start : Start (seated k) board minds
  pub fresh : AreFresh minds
  pub here : AreHere wires ends (homes minds)
  pub blank : AreBlank (map log_of ends)

-- what its run comes to
pub record RanBeside {V : Type 0} (k : Kind V) (near : Before V) (done : After V) (wires : List Wire) (ends : List WireEnd) : Type 0 where
  pub whole : RanWhole k near done
  pub here : AreHere wires ends (homes near.minds)
  pub carried : AreCarried k near done.scripts done.board.schedule (map log_of ends)
