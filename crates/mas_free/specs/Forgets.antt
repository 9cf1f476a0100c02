-- What is left of a platform where all is forgotten that serves schedules alone.
use Rattle.std.specs.Prelude.{ℕ, ◌≡◌, ◌-◌, length, slice_get, Option, None, Some}
use Rattle.mas_mind.specs.declared.mind.End.{End}
use Rattle.mas_mind.specs.declared.mind.End.TheVariants as ends
use Rattle.mas_mind.specs.declared.mind.Thought.{Thought}
use Rattle.mas_mind.specs.Minds.{Kind, IsAgent}
use Rattle.mas_board.specs.declared.seats.Phase.{Phase}
use Rattle.mas_board.specs.declared.seats.Phase.TheVariants as phase
use Rattle.mas_board.specs.Boards.{seat_at}
use Rattle.mas_core.specs.Platform.{Platform}
use Rattle.mas_free.specs.declared.view.View.{View}
use Rattle.mas_free.specs.Alike.{Alike, IsPlain}
use Rattle.mas_free.specs.Free.{Free, Stage, Idle, Left, stage_after}

-- an agent that left since all were quiet, or for the limit of cycles, is idle
abbrev pub stage_left : End → Stage
stage_left ends.Quiet = Idle
stage_left ends.Cycles = Idle
stage_left ends.Stopped = Left ends.Stopped
stage_left ends.Budget = Left ends.Budget

-- the stage of an agent in this phase, with this thought (a busy agent has one)
abbrev pub stage_of : Phase → Option (Option Thought) → Stage
stage_of phase.Idle t = Idle
stage_of phase.Busy (Some (Some t)) = stage_after t
stage_of phase.Busy (Some None) = Idle
stage_of phase.Busy None = Idle
stage_of (phase.Left end) t = stage_left end

-- the minds are alike, and the first is plain
abbrev pub MindsFit : {V : Type 0} → Kind V → View → Option V → Option V → Type 0
MindsFit k v (Some m) (Some n) = Alike k v m n × IsPlain k m
MindsFit k v _ _ = ⊥

pub record AgentFits {V : Type 0} (k : Kind V) (v : View) (p : Platform V) (f : Free V) (a : ℕ) : Type 0 where
  pub stage : slice_get f.stages (a - 1) ≡ Some (stage_of (seat_at p.board a).phase (slice_get p.thoughts (a - 1)))
  pub mind : MindsFit k v (slice_get p.minds (a - 1)) (slice_get f.minds (a - 1))

-- this is what is left of the platform, but for minds that are alike
pub record Forgets {V : Type 0} (k : Kind V) (v : View) (p : Platform V) (f : Free V) : Type 0 where
  pub names : f.names ≡ p.board.names
  pub world : f.world ≡ p.board.world
  pub boxes : f.boxes ≡ p.board.boxes
  pub stop : f.stop ≡ p.board.stop
  pub minds : length p.minds ≡ length p.board.seats
  pub thoughts : length p.thoughts ≡ length p.minds
  pub stages_are : length f.stages ≡ length p.board.seats
  pub minds_are : length f.minds ≡ length p.board.seats
  pub each : (a : ℕ) → IsAgent (length p.board.seats) a → AgentFits k v p f a
