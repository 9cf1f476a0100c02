-- Minds by their numbers, over any meaning V of minds: the first ones, and those that came of them by what befell them.
use Rattle.std.specs.Prelude.{ℕ, ◌≡◌, ◌<◌, Bool, true, false, not, ◌&&◌, is_some, IfSome, List, [], length, slice_get, Option, None, Some}
use Rattle.asl_term.specs.declared.syntax.LiteralOf.{LiteralOf}
use Rattle.asl_term.specs.declared.syntax.Term.{Term}
use Rattle.mas_mind.specs.Limits.{most_cycles}
use Rattle.mas_mind.specs.declared.mind.Input.{Input}
use Rattle.mas_mind.specs.declared.mind.Message.{Message}
use Rattle.mas_mind.specs.declared.mind.Thought.{Thought}
use Rattle.mas_mind.specs.Minds.{Cycled, Kind, are_ground, IsFor, AreLawful, is_quiet}
use Rattle.mas_explore_tables.specs.Tables.{Recalls}
use Rattle.mas_explore_tables.specs.Histories.{all_from, AreLinked}
use Rattle.mas_explore_tables.specs.declared.history.Link.{Link}
use Rattle.mas_explore_minds.specs.declared.heard.Heard.{Heard}
use Rattle.mas_explore_minds.specs.declared.heard.Heard.TheVariants.{Given, Told}
use Rattle.mas_explore_minds.specs.declared.heard.Cycle.{Cycle}
use Rattle.mas_explore_minds.specs.declared.heard.Thinking.{Thinking}
use Rattle.mas_explore_minds.specs.declared.heard.Thinking.TheVariants.{Nothing, Led}
use Rattle.mas_explore_minds.specs.declared.minds.Minds.{Minds}

-- ---- what befalls a mind

abbrev pub or_none : {X : Type 0} → Option (List X) → List X
or_none None = []
or_none (Some xs) = xs

-- percepts of this number, and the oldest message of the box of this number
abbrev pub input_at : List (List (LiteralOf Term)) → List (List Message) → ℕ → ℕ → Input
input_at sights boxes sight front = record { percepts = or_none (slice_get sights sight); message = slice_get (or_none (slice_get boxes front)) 0 }

abbrev pub heard : {V : Type 0} → Kind V → List (List (LiteralOf Term)) → List (List Message) → V → Heard → V
heard k sights boxes m (Given sight front) = (k.cycle m (input_at sights boxes sight front)).mind
heard k sights boxes m (Told feedback) = k.took m feedback

-- all minds in the order of their numbers
abbrev pub minds_in : {V : Type 0} → Kind V → List V → Minds → List V
minds_in k first t = all_from (heard k t.sights t.boxes) first t.links

-- ---- what may befall a mind

pub record MayThink {V : Type 0} (k : Kind V) (sights : List (List (LiteralOf Term))) (boxes : List (List Message)) (m : V) (sight front : ℕ) : Type 0 where
  pub free : k.awaits m ≡ false
  pub short : k.made m < most_cycles
  pub percepts : List (LiteralOf Term)
  pub sight_at : slice_get sights sight ≡ Some percepts
  pub ground : are_ground percepts ≡ true
  pub box : List Message
  pub front_at : slice_get boxes front ≡ Some box
  pub sent : IfSome (slice_get box 0) (IsFor (k.me m) (k.agents m))

abbrev pub May : {V : Type 0} → Kind V → List (List (LiteralOf Term)) → List (List Message) → V → Heard → Type 0
May k sights boxes m (Given sight front) = MayThink k sights boxes m sight front
May k sights boxes m (Told feedback) = k.awaits m ≡ true

-- there is a mind of this number, and this may befall it
pub record MayFollow {V : Type 0} (k : Kind V) (first : List V) (t : Minds) (from : ℕ) (what : Heard) : Type 0 where
  pub before : V
  pub at : slice_get (minds_in k first t) from ≡ Some before
  pub may : May k t.sights t.boxes before what

abbrev pub MayCycle : {V : Type 0} → Kind V → List V → Minds → Cycle → Type 0
MayCycle k first t c = MayFollow k first t c.mind (Given c.sight c.front)

-- ---- what comes of a cycle

abbrev pub cycled : {V : Type 0} → Kind V → Minds → V → Cycle → Cycled V
cycled k t m c = k.cycle m (input_at t.sights t.boxes c.sight c.front)

-- a quiet cycle without a message
abbrev pub is_nothing : Input → Thought → Bool
is_nothing input t = is_quiet t && not (is_some input.message)

pub record LedTo {V : Type 0} (k : Kind V) (first : List V) (t : Minds) (input : Input) (c : Cycled V) (mind thought : ℕ) : Type 0 where
  pub some : is_nothing input c.thought ≡ false
  pub mind_at : slice_get (minds_in k first t) mind ≡ Some c.mind
  pub thought_at : slice_get t.thoughts thought ≡ Some c.thought

abbrev pub LeadsTo : {V : Type 0} → Kind V → List V → Minds → Input → Cycled V → Thinking → Type 0
LeadsTo k first t input c Nothing = is_nothing input c.thought ≡ true
LeadsTo k first t input c (Led mind thought) = LedTo k first t input c mind thought

pub record ThinksTo {V : Type 0} (k : Kind V) (first : List V) (t : Minds) (c : Cycle) (comes : Thinking) : Type 0 where
  pub may : MayCycle k first t c
  pub lawful : AreLawful (k.me may.before) (k.agents may.before) (cycled k t may.before c).thought
  pub leads : LeadsTo k first t (input_at t.sights t.boxes c.sight c.front) (cycled k t may.before c) comes

-- the same, with the thought itself
pub record HasThought {V : Type 0} (k : Kind V) (first : List V) (t : Minds) (c : Cycle) (thought : Thought) (nothing : Bool) : Type 0 where
  pub may : MayCycle k first t c
  pub lawful : AreLawful (k.me may.before) (k.agents may.before) thought
  pub thought_is : thought ≡ (cycled k t may.before c).thought
  pub nothing_is : nothing ≡ is_nothing (input_at t.sights t.boxes c.sight c.front) thought

-- ---- what holds of all of it

-- each link names an earlier mind, to which this may befall, and what is remembered of cycles comes of them
pub record Fits {V : Type 0} (k : Kind V) (first : List V) (t : Minds) : Type 0 where
  pub linked : AreLinked (length first) t.links
  pub each : (j : ℕ) (link : Link Heard) → slice_get t.links j ≡ Some link → MayFollow k first t link.from link.what
  pub known : (c : Cycle) (comes : Thinking) → Recalls t.cycles c comes → ThinksTo k first t c comes

-- what is there keeps its number
abbrev pub Stay : {X : Type 0} → List X → List X → Type 0
Stay {X} xs ys = (i : ℕ) (x : X) → slice_get xs i ≡ Some x → slice_get ys i ≡ Some x

pub record Grows {V : Type 0} (k : Kind V) (first : List V) (old new : Minds) : Type 0 where
  pub sights : Stay old.sights new.sights
  pub boxes : Stay old.boxes new.boxes
  pub thoughts : Stay old.thoughts new.thoughts
  pub minds : Stay (minds_in k first old) (minds_in k first new)

pub record HasGrown {V : Type 0} (k : Kind V) (first : List V) (old new : Minds) : Type 0 where
  pub fits : Fits k first new
  pub grows : Grows k first old new

-- there is a number of the mind that this befell
pub record HasLinked {V : Type 0} (k : Kind V) (first : List V) (old new : Minds) (from : ℕ) (what : Heard) (n : ℕ) : Type 0 where
  pub grown : HasGrown k first old new
  pub leads : (before : V) → slice_get (minds_in k first old) from ≡ Some before →
      slice_get (minds_in k first new) n ≡ Some (heard k new.sights new.boxes before what)
