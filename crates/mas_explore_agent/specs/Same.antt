-- Agents that are the same, but for the number of their cycles and what they have shown.
use Rattle.std.specs.Prelude.{ℕ, ◌≡◌, ◌<◌, List, slice_get}
use Rattle.asl_cycle.specs.Agent.{Mindset}

-- the next fresh number, that of the next ask, what was told, whether feedback is awaited, and what no cycle changes, but for rules, are the same
pub record SameFrame (m n : Mindset) : Type 0 where
  pub number : m.parts.number ≡ n.parts.number
  pub asks : m.asks ≡ n.asks
  pub kept : m.kept ≡ n.kept
  pub awaits : m.awaits ≡ n.awaits
  pub level : m.level ≡ n.level
  pub budgets : m.budgets ≡ n.budgets
  pub peers : m.peers ≡ n.peers

pub record SameBut (m n : Mindset) : Type 0 where
  pub frame : SameFrame m n
  pub plans : m.plans ≡ n.plans
  pub rules : m.rules ≡ n.rules
  pub beliefs : m.parts.beliefs ≡ n.parts.beliefs
  pub agenda : m.parts.agenda ≡ n.parts.agenda

-- the first so many of two lists are the same
abbrev pub SameUpTo : {X : Type 0} → ℕ → List X → List X → Type 0
SameUpTo n xs ys = (k : ℕ) → k < n → slice_get xs k ≡ slice_get ys k
