-- What each command writes, or why it has nothing to write.
use Rattle.std.specs.Prelude.{ℕ, ◌≡◌, ◌≤◌, Bool, true, false, List, Option, None, Some, Result, Ok, Err, MatchResult, IsErrAnd}
use Rattle.asl_term.specs.declared.syntax.Filed.{Filed}
use Rattle.mas_report.specs.Limits.{defaults}
use Rattle.mas_top_files.specs.Known.{known}
use Rattle.mas_top_files.specs.Sources.{AreRefused}
use Rattle.mas_top_status.specs.declared.status.Status.{Status}
use Rattle.mas_top_status.specs.declared.status.Status.TheVariants.{Memory}
use Rattle.mas_world.specs.Worlds.{Used}
use Rattle.look_answer.specs.declared.answer.LookFault.{LookFault}
use Rattle.look_answer.specs.declared.answer.LookFault.TheVariants.{Ended, Unfit}
use Rattle.look_answer.specs.declared.answer.Output.{Output}
use Rattle.look_answer.specs.Answers.{IsUnfit}
use Rattle.look_messages.specs.Runs.{TellsRun}
use Rattle.look_mind.specs.Drops.{IsDroppedIn}
use Rattle.look_mind.specs.Looks.{IsLookIn}
use Rattle.look_mind.specs.declared.look.Look.{Look}
use Rattle.look_mind.specs.declared.look.Look.TheVariants.{Shown}
use Rattle.look_mind.specs.Own.{IsToldIn}
use Rattle.look_mind.specs.Page.{IsPageOf}
use Rattle.look_mind.specs.declared.changes.MindChanges.{MindChanges}
use Rattle.look_where.specs.Showing.{IsWhere, IsUnread}
use Rattle.look_top.specs.Asked.{Asked, Dropping, Minding, help, version, places, hints, messages, mind, page, drops}
use Rattle.look_top.specs.declared.ends.TheConstants.{USAGE, VERSION}
use Rattle.look_top.specs.Reports.{HasReport, LacksReport}

-- at some of these counts of a shelf's faults
pub record Within (Is : ℕ → ℕ → Type 0) (before after : ℕ) : Type 0 where
  pub start : ℕ
  pub end : ℕ
  pub begins : before ≤ start
  pub ends : end ≤ after
  pub is : Is start end

abbrev pub is_shown : Look → Bool
is_shown (Shown text) = true
is_shown look = false

-- what is written of a look: its text, or why there is none
abbrev pub TellsLook : Look → Result Output LookFault → Type 0
TellsLook look (Ok o) = (o.found ≡ false) × (look ≡ Shown o.text)
TellsLook look (Err (Ended status)) = status ≡ Memory
TellsLook look (Err (Unfit line)) = is_shown look ≡ false

-- what is written of changes along the run that these bytes are the report of; None where they are none
abbrev pub TellsPage : List ℕ → MindChanges → Result Output LookFault → Type 0
TellsPage bytes changes (Ok o) = (o.found ≡ false) × IsPageOf bytes changes o.text
TellsPage bytes changes (Err why) = IsUnfit why

abbrev pub TellsChanges : List ℕ → Option MindChanges → Result Output LookFault → Type 0
TellsChanges bytes None r = IsErrAnd r IsUnfit
TellsChanges bytes (Some changes) r = TellsPage bytes changes r

-- what is written of what a run dropped; None where the bytes are not the report of one
abbrev pub TellsDrops : Option Output → Result Output LookFault → Type 0
TellsDrops None r = IsErrAnd r IsUnfit
TellsDrops (Some o) (Ok written) = (written.found ≡ o.found) × (written.text ≡ o.text)
TellsDrops (Some o) (Err why) = ⊥

-- ---- of a project alone

-- the file of the word is not read
abbrev pub LacksPlaces : Option (List Filed) → ℕ → ℕ → List ℕ → LookFault → Type 0
LacksPlaces held before after project (Ended status) = IsUnread project held before after status
LacksPlaces held before after project (Unfit line) = ⊥

-- ---- of a report alone, where this is standard input, these are the files, and the shelf has failed so often before and after

module _ (input : Option (List ℕ)) (held : Option (List Filed)) where
  -- its bytes tell of a run
  pub record IsTold (report : List ℕ) : Type 0 where
    pub bytes : List ℕ
    pub has : HasReport input held report bytes
    pub tells : TellsRun bytes

  -- it is not read, or it is, and no table is made of it
  abbrev pub LacksMessages : ℕ → ℕ → List ℕ → LookFault → Type 0
  LacksMessages before after report (Ended status) = LacksReport input held report before after status
  LacksMessages before after report (Unfit line) = (bytes : List ℕ) × HasReport input held report bytes

-- ---- of both, where there are these artifacts

-- the report of the one word, or the project of the other, is not read
pub data AreUnread (objects : List Used) (input : Option (List ℕ)) (held : Option (List Filed)) (before after : ℕ) (report project : List ℕ)
    (status : Status) : Type 0 where
  no_report : Within (λ start end. LacksReport input held report start end status) before after
      → AreUnread objects input held before after report project status
  no_project : Within (λ start end. AreRefused (known objects) defaults.cycles held project start end status) before after
      → AreUnread objects input held before after report project status

module _ (objects : List Used) (input : Option (List ℕ)) (held : Option (List Filed)) where
  -- this is seen of an agent in the run that the report is of
  pub record IsSeen (m : Minding) (look : Look) : Type 0 where
    pub bytes : List ℕ
    pub has : HasReport input held m.report bytes
    pub is : IsLookIn objects held m.project bytes m.agent m.turn look

  -- no text is seen: the report is not that of the project, or it has no such agent or turn
  pub record IsUnseen (m : Minding) : Type 0 where
    pub look : Look
    pub is : IsSeen m look
    pub unshown : is_shown look ≡ false

  -- these changes are told of the run of the project that the report is of; None where it is not that of the project
  pub record IsChanged (project report : List ℕ) (changes : Option MindChanges) : Type 0 where
    pub bytes : List ℕ
    pub has : HasReport input held report bytes
    pub is : IsToldIn objects held project bytes changes

  -- the report is that of the project, and this is the page of it, with the changes of its run
  pub record IsPaged (project report text : List ℕ) : Type 0 where
    pub changes : MindChanges
    pub is : IsChanged project report (Some changes)
    pub shown : IsPageOf is.bytes changes text

  -- it is not that of the project, or no page is made of it
  pub record IsUnpaged (project report : List ℕ) : Type 0 where
    pub changes : Option MindChanges
    pub is : IsChanged project report changes

  -- this is told of what the run of the project dropped that the report is of; None where it is not that of the project
  pub record IsDrops (d : Dropping) (told : Option Output) : Type 0 where
    pub bytes : List ℕ
    pub has : HasReport input held d.report bytes
    pub is : IsDroppedIn objects held d.project bytes d.unhandled told

  -- the report is that of the project, and these are the entries; something is found where there is one
  pub record IsDropped (d : Dropping) (found : Bool) (text : List ℕ) : Type 0 where
    pub told : Output
    pub is : IsDrops d (Some told)
    pub found_is : told.found ≡ found
    pub text_is : told.text ≡ text

module _ (objects : List Used) (input : Option (List ℕ)) (held : Option (List Filed)) (before after : ℕ) where
  -- the output of what is asked for, and whether something is found. Of hints nothing is said.
  unfoldable pub IsOutput : Asked → Bool → List ℕ → Type 0
  IsOutput help found text = (found ≡ false) × (text ≡ USAGE.now)
  IsOutput version found text = (found ≡ false) × (text ≡ VERSION.now)
  IsOutput (places project) found text = IsWhere (known objects) held project before after found text
  IsOutput (hints project) found text = Unit {0}
  IsOutput (messages report csv) found text = (found ≡ false) × IsTold input held report
  IsOutput (mind m) found text = (found ≡ false) × IsSeen objects input held m (Shown text)
  IsOutput (page project report) found text = (found ≡ false) × IsPaged objects input held project report text
  IsOutput (drops d) found text = IsDropped objects input held d found text

  -- why there is none. Want of memory is free; of hints nothing is said.
  unfoldable pub Lacks : Asked → LookFault → Type 0
  Lacks help fault = fault ≡ Ended Memory
  Lacks version fault = fault ≡ Ended Memory
  Lacks (places project) why = LacksPlaces held before after project why
  Lacks (hints project) why = Unit {0}
  Lacks (messages report csv) why = LacksMessages input held before after report why
  Lacks (mind m) (Ended status) = AreUnread objects input held before after m.report m.project status
  Lacks (mind m) (Unfit line) = IsUnseen objects input held m
  Lacks (page project report) (Ended status) = AreUnread objects input held before after report project status
  Lacks (page project report) (Unfit line) = IsUnpaged objects input held project report
  Lacks (drops d) (Ended status) = AreUnread objects input held before after d.report d.project status
  Lacks (drops d) (Unfit line) = IsDrops objects input held d None

  -- the answer to what is asked for
  abbrev pub Answers : Asked → Result Output LookFault → Type 0
  Answers a r = MatchResult r (λ o. IsOutput a o.found o.text) (Lacks a)
