-- Every mind of a platform goes through the turns of its agent.
use Rattle.std.specs.Prelude.{ℕ, ◌≡◌, ◌-◌, List, length, slice_get, Option, Some}
use Rattle.mas_mind.specs.declared.mind.Thought.{Thought}
use Rattle.mas_mind.specs.Minds.{Kind, IsAgent}
use Rattle.mas_core.specs.Platform.{Platform}
use Rattle.mas_board_turns.specs.declared.turn.Turn.{Turn}
use Rattle.mas_board_turns.specs.Turns.{Entry, of}
use Rattle.mas_board_turns.specs.Follows.{Thinking, Follows}

abbrev pub thinking_of : {V : Type 0} → V → Option Thought → Thinking V
thinking_of m t = record { mind = m; thought = t }

-- a mind with its thought before, some turns, and the mind with its thought after
abbrev pub FollowsAt : {V : Type 0} → Kind V → Option V → Option (Option Thought) → List Turn → Option V → Option (Option Thought) → Type 0
FollowsAt k (Some m) (Some t) turns (Some n) (Some u) = Follows k (thinking_of m t) turns (thinking_of n u)
FollowsAt k _ _ turns _ _ = ⊥

-- as many minds and thoughts as agents, before and after; and each mind goes through the turns of its agent in the log
pub record AllFollow {V : Type 0} (k : Kind V) (p : Platform V) (log : List Entry) (q : Platform V) : Type 0 where
  pub minds : length p.minds ≡ length p.board.seats
  pub thoughts : length p.thoughts ≡ length p.board.seats
  pub minds_after : length q.minds ≡ length p.board.seats
  pub thoughts_after : length q.thoughts ≡ length p.board.seats
  pub each : (a : ℕ) → IsAgent (length p.board.seats) a →
      FollowsAt k (slice_get p.minds (a - 1)) (slice_get p.thoughts (a - 1)) (of a log) (slice_get q.minds (a - 1)) (slice_get q.thoughts (a - 1))
