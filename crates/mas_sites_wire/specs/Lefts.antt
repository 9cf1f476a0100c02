-- What is left on the wires once both sites have ended.
use Rattle.std.specs.Prelude.{ℕ, ◌≡◌, ◌+◌, Bool, true, false, List, ◌++◌, length, map, slice_get, Some}
use Rattle.mas_mind.specs.declared.mind.Message.{Message}
use Rattle.mas_sites_wire.specs.declared.wire.Log.{Log}
use Rattle.mas_sites_wire.specs.Wires.{AreFrom}
use Rattle.mas_sites_wire.specs.declared.left.WireParts.{WireParts}

-- what was put where the agent lives, at site 1 if it is here
abbrev pub put_by : Bool → Log → Log → List Message
put_by true one two = one.put
put_by false one two = two.put

-- what was got at the other site
abbrev pub got_by : Bool → Log → Log → List Message
got_by true one two = two.got
got_by false one two = one.got

-- what was put is what was got, and then these messages of the agent
pub record IsLeft (agents number : ℕ) (here : Bool) (one two : Log) (left : List Message) : Type 0 where
  pub in_order : put_by here one two ≡ got_by here one two ++ left
  pub from : AreFrom number agents left

-- of each agent
pub record AreLeft (here : List Bool) (one two : List Log) (ways : List (List Message)) : Type 0 where
  pub number : length ways ≡ length here
  pub each : (i : ℕ) (b : Bool) (v w : Log) (way : List Message) → slice_get here i ≡ Some b → slice_get one i ≡ Some v → slice_get two i ≡ Some w →
      slice_get ways i ≡ Some way → IsLeft (length here) (i + 1) b v w way

-- ---- what the sites have of each wire

abbrev pub firsts : {X : Type 0} → List (WireParts X) → List X
firsts {X} all = map (λ (p : WireParts X). p.one) all

abbrev pub seconds : {X : Type 0} → List (WireParts X) → List X
seconds {X} all = map (λ (p : WireParts X). p.two) all
