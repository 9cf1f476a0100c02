-- Whether each goal of a project has a plan that covers it: what is written of it, and the cause of each status.
use Rattle.std.specs.Prelude.{ℕ, ◌≡◌, ◌⊎◌, Bool, true, false, if◌then◌else◌, List, [], ◌++◌, codes, decimal, Option, None, Some}
use Rattle.asl_term.specs.declared.syntax.Filed.{Filed}
use Rattle.asl_term.specs.Names.{name_at}
use Rattle.asl_lint.specs.declared.lint.Verdict.{Verdict}
use Rattle.asl_lint.specs.declared.lint.Verdict.TheVariants.{Yes, Goal, Item}
use Rattle.asl_lint.specs.Lints.{verdict}
use Rattle.mas_io.specs.Causes.{Rose}
use Rattle.mas_io.specs.Sink.{grown}
use Rattle.mas_io.specs.Told.{Told, IsUnwritten}
use Rattle.mas_io.specs.Writing.{Wrote, WroteSome}
use Rattle.mas_top_files.specs.declared.sources.Source.{Source}
use Rattle.mas_top_status.specs.declared.status.Status.{Status}
use Rattle.mas_top_status.specs.declared.status.Status.TheVariants.{Ok, No, Usage, Missing, ReadFault, WriteFault, Refused, Limit, Budget, Memory, DiskFault}
use Rattle.mas_top_files.specs.Laws.{Surely}
use Rattle.mas_top_files.specs.Sources.{HasSource, FirstRefused, texts_of}

-- ---- what is said

abbrev pub name_or_none : Option (List ℕ) → List ℕ
name_or_none None = []
name_or_none (Some name) = name

abbrev pub of_agent : List (List ℕ) → ℕ → List ℕ
of_agent names agent = codes "no " ++ name_or_none (name_at names agent)

-- rule: the line of a verdict: yes, or the agent with the number of the goal that is not covered, or with those of a plan and its item
abbrev pub verdict_text : List (List ℕ) → Verdict → List ℕ
verdict_text names Yes = codes "yes\n"
verdict_text names (Goal agent goal) = of_agent names agent ++ (codes " goal " ++ (decimal goal ++ codes "\n"))
verdict_text names (Item agent plan item) =
    of_agent names agent ++ (codes " plan " ++ (decimal plan ++ codes " ")) ++ (decimal item ++ codes "\n")

abbrev pub is_yes : Verdict → Bool
is_yes Yes = true
is_yes (Goal agent goal) = false
is_yes (Item agent plan item) = false

-- the usual number of cycles
abbrev pub usual_cycles : ℕ
usual_cycles = 1000

-- of the project of this word, where there are artifacts of these names
module _ (known : List (List ℕ)) (word : List ℕ) where
  -- the files describe a source, of which this is the verdict and this is written
  pub record IsLinted (held : Option (List Filed)) (yes : Bool) (w : List ℕ) : Type 0 where
    pub source : Source
    pub has : HasSource known usual_cycles held word source
    pub yes_is : yes ≡ is_yes (verdict source.names (texts_of source.roles))
    pub text : w ≡ verdict_text source.names (verdict source.names (texts_of source.roles))

  -- this is written, whether all are covered or not
  pub record IsSome (held : Option (List Filed)) (w : List ℕ) : Type 0 where
    pub yes : Bool
    pub is : IsLinted held yes w

  -- ---- the cause of a status

  pub record IsRefused (before after : Told) (status : Status) : Type 0 where
    pub why : FirstRefused known usual_cycles before.held word before.shelf_faults after.shelf_faults status
    pub unwritten : IsUnwritten before after

  -- want of memory alone is free
  abbrev pub LintCaused : Told → Told → Status → Type 0
  LintCaused before after Ok = Wrote (IsLinted before.held true) before after
  LintCaused before after No = Wrote (IsLinted before.held false) before after
  LintCaused before after Usage = ⊥
  LintCaused before after (Missing lacked) = IsRefused before after (Missing lacked)
  LintCaused before after ReadFault = IsRefused before after ReadFault
  LintCaused before after WriteFault = WroteSome (IsSome before.held) before after
  LintCaused before after (Refused file place why) = IsRefused before after (Refused file place why)
  LintCaused before after (Limit quantity count) = IsRefused before after (Limit quantity count)
  LintCaused before after Budget = ⊥
  LintCaused before after Memory = IsUnwritten before after
  LintCaused before after DiskFault = ⊥

  -- ---- what follows, where the shelf tells its files

  -- of the source that the files are: this is its verdict's text, Ok exactly where that is yes, and No where it is not
  abbrev pub Lints : Told → Told → Status → Type 0
  Lints before after status =
      (files : List Filed) (source : Source) (yes : Bool) → before.held ≡ Some files → HasSource known usual_cycles (Some files) word source →
      status ≡ (if yes then Ok else No) →
      (yes ≡ is_yes (verdict source.names (texts_of source.roles)))
      × (after.written ≡ grown before.written (verdict_text source.names (verdict source.names (texts_of source.roles))))

  -- completeness: where none of the files that the shelf tells is refused, and neither count of faults rises, the answer was written,
  -- or the status is Memory
  abbrev pub IsLintComplete : Told → Told → Status → Type 0
  IsLintComplete before after status =
      (files : List Filed) → before.held ≡ Some files →
      ((s : Status) → Surely (λ b a s. FirstRefused known usual_cycles (Some files) word b a s) s → ⊥) →
      (Rose before.shelf_faults after.shelf_faults → ⊥) → (Rose before.sink_faults after.sink_faults → ⊥) →
      (status ≡ Ok) ⊎ ((status ≡ No) ⊎ (status ≡ Memory))
