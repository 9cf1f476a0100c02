-- What a site has of the wires of all agents: of each the end that puts where the agent lives at the site, and else the end
-- that gets.
use Rattle.std.specs.Prelude.{ℕ, ◌≡◌, ◌+◌, ◌-◌, Bool, not, if◌then◌else◌, List, [], length, map, slice_get, Option, None, Some}
use Rattle.mas_mind.specs.declared.mind.Message.{Message}
use Rattle.mas_sites_scripts.specs.Scripts.{change}
use Rattle.mas_sites_wire.specs.declared.wire.Log.{Log}
use Rattle.mas_sites_wire.specs.declared.wire.Wire.{Wire}
use Rattle.mas_sites_wire.specs.declared.wire.WireEnd.{WireEnd}
use Rattle.mas_sites_wire.specs.Ends.{IsEndOf, log_of}
use Rattle.mas_sites_wire.specs.Wires.{with_put, with_got}

-- ---- ends

-- an end of the wire of the agent of this number, that puts or gets
pub record IsHere (agents number : ℕ) (wire : Wire) (end : WireEnd) (puts : Bool) : Type 0 where
  pub end_of : IsEndOf wire end
  pub from : (log_of end).sender ≡ number
  pub to : (log_of end).agents ≡ agents
  pub putting : (log_of end).puts ≡ puts
  pub getting : (log_of end).gets ≡ not puts

-- one of the wire of each agent
pub record AreHere (wires : List Wire) (ends : List WireEnd) (puts : List Bool) : Type 0 where
  pub ends_are : length ends ≡ length wires
  pub puts_are : length puts ≡ length wires
  pub each : (i : ℕ) (w : Wire) (e : WireEnd) (b : Bool) → slice_get wires i ≡ Some w → slice_get ends i ≡ Some e → slice_get puts i ≡ Some b →
      IsHere (length wires) (i + 1) w e b

-- the same, whichever may put
abbrev pub AreEnds : List Wire → List WireEnd → Type 0
AreEnds wires ends = (puts : List Bool) × AreHere wires ends puts

-- of each agent whether it lives at the other site
abbrev pub others : List Bool → List Bool
others here = map not here

-- ---- what they know

pub record Lines : Type 0 where
  pub wires : List Wire
  pub logs : List Log

abbrev pub lines_of : List Wire → List WireEnd → Lines
lines_of wires ends = record { wires = wires; logs = map log_of ends }

-- nothing was put or got
abbrev pub AreBlank : List Log → Type 0
AreBlank logs = (i : ℕ) (v : Log) → slice_get logs i ≡ Some v → (v.put ≡ []) × (v.got ≡ [])

-- a message came, or none
abbrev pub come : Option Message → Log → Log
come None v = v
come (Some m) v = with_got v m

-- a message goes on the wire of an end that puts
abbrev pub gone : Message → Log → Log
gone m v = if v.puts then with_put v m else v

-- ---- the calls

pub record HasGot (old : Lines) (a : ℕ) (m : Option Message) (new : Lines) : Type 0 where
  pub wires : new.wires ≡ old.wires
  pub logs : new.logs ≡ change (a - 1) (come m) old.logs

pub record HasPut (old : Lines) (m : Message) (new : Lines) : Type 0 where
  pub wires : new.wires ≡ old.wires
  pub logs : new.logs ≡ change (m.from - 1) (gone m) old.logs
