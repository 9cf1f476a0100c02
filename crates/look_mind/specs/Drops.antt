-- What is told of the failures of the run of a project.
use Rattle.std.specs.Prelude.{ℕ, ◌≡◌, ◌≤◌, Bool, List, length, Option, None, Some}
use Rattle.asl_term.specs.declared.syntax.Filed.{Filed}
use Rattle.mas_report.specs.Limits.{defaults}
use Rattle.mas_top_files.specs.Known.{known}
use Rattle.mas_top_files.specs.Sources.{AreRefused}
use Rattle.mas_top_status.specs.declared.status.Status.{Status}
use Rattle.mas_world.specs.Worlds.{Used}
use Rattle.look_answer.specs.declared.answer.Output.{Output}
use Rattle.look_mind.specs.declared.fallen.RunFalls.{RunFalls}
use Rattle.look_mind.specs.Entries.{entries_text, is_some_told}
use Rattle.look_mind.specs.Fallen.{IsFallenIn}
use Rattle.look_mind.specs.Marks.{AreMarked, AreOwn}
use Rattle.look_mind.specs.Stacks.{IsToldIn}

-- a file of the project is refused, when it is read first or once more
pub record AreRefusedIn (objects : List Used) (held : Option (List Filed)) (word : List ℕ) (before after : ℕ) (status : Status) : Type 0 where
  pub start : ℕ
  pub end : ℕ
  pub begins : before ≤ start
  pub ends : end ≤ after
  pub is : AreRefused (known objects) defaults.cycles held word start end status

module _ (objects : List Used) (held : Option (List Filed)) (word bytes : List ℕ) where
  -- the failures of the run; the turns of each agent, and marks at those with which the cycles of the failures began; what the agents had in mind before the
  -- marked turns; and the entries of these
  pub record IsDropped (unhandled : Bool) (o : Output) : Type 0 where
    pub fallen : RunFalls
    pub falls : IsFallenIn objects held word bytes (Some fallen)
    pub own : List (List ℕ)
    pub theirs : AreOwn fallen.turns (length fallen.falls) own
    pub marks : List Bool
    pub marked : AreMarked own fallen.falls (length fallen.turns) marks
    pub before : List (List (List ℕ))
    pub stacks : IsToldIn objects held word bytes marks (Some before)
    pub found : o.found ≡ is_some_told unhandled fallen.falls
    pub text : o.text ≡ entries_text unhandled fallen before own

  -- the bytes are not the report of a run of the project
  pub data IsUndropped : Type 0 where
    no_run : IsFallenIn objects held word bytes None → IsUndropped
    foreign : (marks : List Bool) → IsToldIn objects held word bytes marks None → IsUndropped

  abbrev pub IsDroppedIn : Bool → Option Output → Type 0
  IsDroppedIn unhandled None = IsUndropped
  IsDroppedIn unhandled (Some o) = IsDropped unhandled o
