-- The world: the segment of the world file, and one for each artifact that it uses.
use Rattle.std.specs.Prelude.{ℕ, Bool, true, false, not, List, [], ◌∷◌, ◌++◌, filter, Option, Some, None}
use Rattle.std.specs.List.{AllByRecursion, find, flat_map, list_all, list_any}
use Rattle.std.specs.Option.{IsSome, option_to_list}
use Rattle.std.specs.Str.{bytes_eq}
use Rattle.asl_term.specs.declared.syntax.LiteralOf.{LiteralOf}
use Rattle.asl_term.specs.declared.syntax.Term.{Term}
use Rattle.mas_mind.specs.declared.mind.Feedback.{Feedback}
use Rattle.mas_mind.specs.declared.mind.Feedback.TheVariants.{Done, Failed}
use Rattle.mas_world.specs.declared.acts.Act.{Act}
use Rattle.mas_world.specs.declared.acts.WorldText.{WorldText}
use Rattle.mas_world.specs.declared.facts.Deed.{Deed}
use Rattle.mas_world.specs.Acts.{decided, done}
use Rattle.mas_world.specs.Facts.{AreFacts}

-- a table of acts, and the facts as they are
pub record Segment : Type 0 where
  pub acts : List Act
  pub facts : List (LiteralOf Term)

-- an artifact that the world uses
pub record Used : Type 0 where
  pub name : List ℕ
  pub segment : Segment

pub record World : Type 0 where
  pub file : Segment
  pub hidden : List (List ℕ)
  pub used : List Used

abbrev pub segment : List Act → List (LiteralOf Term) → Segment
segment acts facts = record { acts = acts; facts = facts }

abbrev pub used : List ℕ → List Act → List (LiteralOf Term) → Used
used name acts facts = record { name = name; segment = segment acts facts }

abbrev pub world : Segment → List (List ℕ) → List Used → World
world file hidden used = record { file = file; hidden = hidden; used = used }

-- ---- artifacts that go

abbrev pub is_named : List ℕ → Used → Bool
is_named name u = bytes_eq u.name name

-- the artifacts but that of this name
abbrev pub without_artifact : List ℕ → List Used → List Used
without_artifact name = filter (λ u. not (is_named name u))

-- rule: the artifacts that are left of those that an act drops: all but those of these names
abbrev pub dropped : List (List ℕ) → List Used → List Used
dropped [] us = us
dropped (name ∷ more) us = dropped more (without_artifact name us)

abbrev pub is_used : World → List ℕ → Bool
is_used w name = list_any (is_named name) w.used

-- rule: the world without the artifact of this name, and its facts
abbrev pub disposed : World → List ℕ → World
disposed w name = world w.file w.hidden (without_artifact name w.used)

abbrev pub is_empty : List (List ℕ) → Bool
is_empty [] = true
is_empty (name ∷ more) = false

-- no act drops an artifact, as in the table of an artifact
abbrev pub drop_nothing : List Act → Bool
drop_nothing = list_all (λ a. is_empty a.drops)

-- ---- what an action does

abbrev pub after : Segment → Option Deed → Feedback × Segment
after s (Some d) = (Done, segment s.acts (done d s.facts))
after s None = (Failed, s)

-- the first act that acts decides; where none does nothing changes; nothing but a world has artifacts to drop
abbrev pub segment_acted : Segment → List ℕ → LiteralOf Term → Feedback × Segment
segment_acted s agent action = after s (decided s.facts s.acts agent action)

-- the first artifact that acts decides, and the others stay
abbrev pub or_later : Used → List Used → Feedback × Segment → Feedback × List Used → Feedback × List Used
or_later u more (Done, s) later = (Done, record { name = u.name; segment = s } ∷ more)
or_later u more (Failed, s) later = (later.0, u ∷ later.1)

abbrev pub used_acted : List Used → List ℕ → LiteralOf Term → Feedback × List Used
used_acted [] agent action = (Failed, [])
used_acted (u ∷ more) agent action = or_later u more (segment_acted u.segment agent action) (used_acted more agent action)

-- an act of the file changes the file's facts, then drops artifacts
abbrev pub or_used : World → Option Deed → Feedback × List Used → Feedback × World
or_used w (Some d) later = (Done, world (segment w.file.acts (done d w.file.facts)) w.hidden (dropped d.drops w.used))
or_used w None later = (later.0, world w.file w.hidden later.1)

-- rule: an action goes to the file's segment first, then to each artifact's in order
abbrev pub acted : World → List ℕ → LiteralOf Term → Feedback × World
acted w agent action = or_used w (decided w.file.facts w.file.acts agent action) (used_acted w.used agent action)

-- ---- the facts

abbrev pub used_facts : List Used → List (LiteralOf Term)
used_facts = flat_map (λ u. u.segment.facts)

-- rule: those of all segments in order
abbrev pub facts : World → List (LiteralOf Term)
facts w = w.file.facts ++ used_facts w.used

-- each segment has facts of its own
pub record HasFacts (w : World) : Type 0 where
  pub file : AreFacts w.file.facts
  pub used : AllByRecursion (λ u. AreFacts u.segment.facts) w.used

-- ---- the opening

-- the first artifact of a name, where there is one
abbrev pub named : List Used → List ℕ → Option Used
named all name = find (λ u. bytes_eq u.name name) all

-- for each name, in order, the first artifact that has it
abbrev pub taken : List (List ℕ) → List Used → List Used
taken names all = flat_map (λ name. option_to_list (named all name)) names

-- each name is the name of an artifact
abbrev pub AreNamed : List (List ℕ) → List Used → Type 0
AreNamed names all = AllByRecursion (λ name. IsSome (named all name)) names

-- rule: the world of a text, with those artifacts that it uses
abbrev pub opened : WorldText → List Used → World
opened text all = world (segment text.acts text.facts) text.hidden (taken text.uses all)
