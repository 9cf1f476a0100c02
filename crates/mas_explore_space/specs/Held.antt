-- What a search holds besides its states: minds and worlds by their numbers, and the steps that are remembered.
use Rattle.std.specs.Prelude.{ℕ, ◌≡◌, ◌<◌, ◌+◌, true, List, [], length, slice_get, Option, None, Some}
use Rattle.asl_term.specs.declared.syntax.LiteralOf.{LiteralOf}
use Rattle.asl_term.specs.declared.syntax.Term.{Term}
use Rattle.mas_mind.specs.declared.mind.Outs.{Outs}
use Rattle.mas_mind.specs.declared.mind.Thought.TheVariants as thought
use Rattle.mas_mind.specs.Minds.{Kind, are_ground}
use Rattle.mas_world.specs.Worlds.{World, acted}
use Rattle.mas_world.specs.Seen.{seen}
use Rattle.mas_free.specs.Covers.{Start}
use Rattle.mas_explore_tables.specs.Tables.{Recalls}
use Rattle.mas_explore_minds.specs.Minds as minds
use Rattle.mas_explore_minds.specs.Minds.{minds_in, Stay}
use Rattle.mas_explore_worlds.specs.Worlds as worlds
use Rattle.mas_explore_worlds.specs.Worlds.{worlds_in, name_of}
use Rattle.mas_explore_worlds.specs.declared.worlds.Acted.{Acted}
use Rattle.mas_explore_space.specs.declared.held.Held.{Held}
use Rattle.mas_explore_space.specs.declared.held.Seeing.{Seeing}
use Rattle.mas_explore_space.specs.declared.held.Acting.{Acting}

abbrev pub start_of : {V : Type 0} → List (List ℕ) → World → List V → Start V
start_of names world first = record { names = names; world = world; minds = first }

-- minds and worlds in the order of their numbers
abbrev pub minds_of : {V : Type 0} → Kind V → Start V → Held → List V
minds_of k s h = minds_in k s.minds h.minds

abbrev pub worlds_of : {V : Type 0} → Start V → Held → List World
worlds_of s h = worlds_in s.names s.world h.worlds

-- ---- remembered steps

-- the percepts of this number are what the agent sees in the world of this number
pub record IsSeen {V : Type 0} (s : Start V) (h : Held) (c : Seeing) (sight : ℕ) : Type 0 where
  pub world : World
  pub world_at : slice_get (worlds_of s h) c.world ≡ Some world
  pub sight_at : slice_get h.minds.sights sight ≡ Some (seen world (name_of s.names c.agent))
  pub ground : are_ground (seen world (name_of s.names c.agent)) ≡ true

-- the thought of this number has an action, and this is what the world of this number makes of it
pub record IsActed {V : Type 0} (s : Start V) (h : Held) (c : Acting) (r : Acted) : Type 0 where
  pub world : World
  pub world_at : slice_get (worlds_of s h) c.world ≡ Some world
  pub outs : Outs
  pub thought_at : slice_get h.minds.thoughts c.thought ≡ Some (thought.Outs outs)
  pub action : LiteralOf Term
  pub action_is : outs.action ≡ Some action
  pub feedback : r.feedback ≡ (acted world (name_of s.names c.agent) action).0
  pub after_at : slice_get (worlds_of s h) r.world ≡ Some (acted world (name_of s.names c.agent) action).1

-- ---- what holds of all of it

pub record Fits {V : Type 0} (k : Kind V) (s : Start V) (h : Held) : Type 0 where
  pub minds : minds.Fits k s.minds h.minds
  pub worlds : worlds.Fits h.worlds
  pub seen : (c : Seeing) (sight : ℕ) → Recalls h.seen c sight → IsSeen s h c sight
  pub acted : (c : Acting) (r : Acted) → Recalls h.acted c r → IsActed s h c r

-- what is there keeps its number
pub record Grows {V : Type 0} (k : Kind V) (s : Start V) (old new : Held) : Type 0 where
  pub minds : minds.Grows k s.minds old.minds new.minds
  pub worlds : Stay (worlds_of s old) (worlds_of s new)

pub record HasGrown {V : Type 0} (k : Kind V) (s : Start V) (old new : Held) : Type 0 where
  pub fits : Fits k s new
  pub grows : Grows k s old new
