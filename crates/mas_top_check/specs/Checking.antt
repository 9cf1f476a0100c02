-- Whether bytes are the report of a run of a project, what is written of it, and the cause of a status of `check` and of `renew`.
use Rattle.std.specs.Prelude.{ℕ, ◌≡◌, ◌≤◌, ◌*◌, ◌⊎◌, List, length, Option, None, Some, MatchOption, codes}
use Rattle.asl_term.specs.declared.syntax.Filed.{Filed}
use Rattle.asl_cycle.specs.Agent.{agent_kind}
use Rattle.mas_mind.specs.Limits.{most_cycles_together}
use Rattle.mas_mind.specs.Minds.{Kind}
use Rattle.mas_world.specs.Worlds.{Used}
use Rattle.mas_core.specs.Platform.{Platform}
use Rattle.mas_io.specs.Causes.{Rose}
use Rattle.mas_io.specs.Sink.{grown}
use Rattle.mas_io.specs.Told.{Told as Kept, IsUnwritten}
use Rattle.mas_io.specs.Writing.{Wrote, WroteSome}
use Rattle.mas_report.specs.declared.options.Options.{Options}
use Rattle.mas_report.specs.Limits.{IsWithin, defaults}
use Rattle.mas_report.specs.Reading.{Shows}
use Rattle.mas_report.specs.declared.reading.Told.{Told}
use Rattle.mas_report.specs.Report.{IsAnyReport, IsRenewal}
use Rattle.mas_top_files.specs.declared.sources.Source.{Source}
use Rattle.mas_top_status.specs.declared.status.Status.{Status}
use Rattle.mas_top_status.specs.declared.status.Status.TheVariants.{Ok, No, Usage, Missing, ReadFault, WriteFault, Refused, Limit, Budget, Memory, DiskFault}
use Rattle.mas_top_files.specs.Files.{HasFile, Reader, IsRefusal, most_report_bytes}
use Rattle.mas_top_files.specs.Known.{known}
use Rattle.mas_top_files.specs.Laws.{Surely}
use Rattle.mas_top_files.specs.Sources.{HasSource, FirstRefused}
use Rattle.mas_top_check.specs.declared.checking.ReportClaim as code
use Rattle.mas_top_check.specs.declared.checking.ReportClaim.TheVariants as code_variant
use Rattle.mas_top_opening.specs.Opening.{setup, opening}

-- The options are within their limits, and so are the cycles that the agents of the source may make together.
pub record IsAllowed (source : Source) (o : Options) : Type 0 where
  pub within : IsWithin o
  pub few : length source.names * o.cycles ≤ most_cycles_together

-- The bytes tell this of a run that the source may have: its options are allowed.
pub record TellsRun (source : Source) (bytes : List ℕ) (told : Told) : Type 0 where
  pub shows : Shows bytes told
  pub allowed : IsAllowed source told.options

-- they tell of none
abbrev pub TellsNoRun : Source → List ℕ → Type 0
TellsNoRun source bytes = (told : Told) → TellsRun source bytes told → ⊥

-- The bytes are the report, of the version that their first line names, of the options and of the schedule in them, of a run of
-- this source among these artifacts.
pub record IsOwn (objects : List Used) (source : Source) (bytes : List ℕ) : Type 0 where
  pub told : Told
  pub shows : Shows bytes told
  pub allowed : IsAllowed source told.options
  pub report : IsAnyReport agent_kind told.version told.options (opening (setup told.options objects) source) bytes

-- ---- what is asked

-- whether bytes are such a report, or for that report anew, as it is written now
pub data ReportClaim : Type 0 where
  whether : ReportClaim
  anew : ReportClaim

-- what is written where they are, of a run from p: `yes`, or the report of the same options and the same schedule, of the
-- version that is written
abbrev pub SaysFrom : {V : Type 0} → Kind V → ReportClaim → Told → Platform V → List ℕ → Type 0
SaysFrom k whether told p w = w ≡ codes "yes\n"
SaysFrom k anew told p w = IsRenewal k told.options p told.turns w

-- of a run of this source among these artifacts
abbrev pub Says : ReportClaim → List Used → Source → Told → List ℕ → Type 0
Says asks objects source told w = SaysFrom agent_kind asks told (opening (setup told.options objects) source) w

-- the bytes are such a report, and this is what is written then
pub record Affirms (asks : ReportClaim) (objects : List Used) (source : Source) (bytes w : List ℕ) : Type 0 where
  pub own : IsOwn objects source bytes
  pub says : Says asks objects source own.told w

-- they are, and this is written; or they are not
abbrev pub IsJudged : ReportClaim → List Used → Source → List ℕ → Option (List ℕ) → Type 0
IsJudged asks objects source bytes answer = MatchOption answer (IsOwn objects source bytes → ⊥) (Affirms asks objects source bytes)

abbrev pub answer_text : Option (List ℕ) → List ℕ
answer_text None = codes "no\n"
answer_text (Some w) = w

-- what is asked for, of the file of this name and the project of this word
pub record Claim : Type 0 where
  pub asks : ReportClaim
  pub project : List ℕ
  pub report : List ℕ

abbrev pub claim : ReportClaim → List ℕ → List ℕ → Claim
claim asks project report = record { asks = asks; project = project; report = report }

-- the files describe this source
abbrev pub HasClaimed : List Used → Option (List Filed) → Claim → Source → Type 0
HasClaimed objects held c source = HasSource (known objects) defaults.cycles held c.project source

-- the files describe a source, and the file of the report is that of a run of it, or is not
pub record IsDecided (objects : List Used) (held : Option (List Filed)) (c : Claim) (answer : Option (List ℕ)) : Type 0 where
  pub source : Source
  pub has : HasClaimed objects held c source
  pub file : HasFile most_report_bytes held c.report (λ bytes. IsJudged c.asks objects source bytes answer)

-- ---- what is refused

-- the bytes of a report have no fault
abbrev pub reports : Reader
reports = record { most = most_report_bytes; Fault = ⊥; faulty = λ bytes why. ⊥; status_of = λ name why. Memory }

-- the source is described, and the report is not there or too long
pub record ReportRefused (objects : List Used) (held : Option (List Filed)) (c : Claim) (before after : ℕ) (status : Status) : Type 0 where
  pub source : Source
  pub has : HasClaimed objects held c source
  pub why : IsRefusal reports c.report held before after status

abbrev pub ClaimRefused : List Used → Option (List Filed) → Claim → ℕ → ℕ → Status → Type 0
ClaimRefused objects held c before after status =
    FirstRefused (known objects) defaults.cycles held c.project before after status ⊎ ReportRefused objects held c before after status

pub record IsRefusedClaim (objects : List Used) (c : Claim) (before after : Kept) (status : Status) : Type 0 where
  pub why : ClaimRefused objects before.held c before.shelf_faults after.shelf_faults status
  pub unwritten : IsUnwritten before after

-- ---- the cause of a status

-- it is so, and this is written
abbrev pub IsYes : List Used → Option (List Filed) → Claim → List ℕ → Type 0
IsYes objects held c w = IsDecided objects held c (Some w)

-- it is not so, and `no` is written
pub record IsNo (objects : List Used) (held : Option (List Filed)) (c : Claim) (w : List ℕ) : Type 0 where
  pub decided : IsDecided objects held c None
  pub is : w ≡ codes "no\n"

-- this is written, whether it is so or not
pub record IsAnswer (objects : List Used) (held : Option (List Filed)) (c : Claim) (w : List ℕ) : Type 0 where
  pub answer : Option (List ℕ)
  pub decided : IsDecided objects held c answer
  pub is : w ≡ answer_text answer

-- want of memory alone is free
abbrev pub ClaimCaused : List Used → Claim → Kept → Kept → Status → Type 0
ClaimCaused objects c before after Ok = Wrote (IsYes objects before.held c) before after
ClaimCaused objects c before after No = Wrote (IsNo objects before.held c) before after
ClaimCaused objects c before after Usage = ⊥
ClaimCaused objects c before after (Missing lacked) = IsRefusedClaim objects c before after (Missing lacked)
ClaimCaused objects c before after ReadFault = IsRefusedClaim objects c before after ReadFault
ClaimCaused objects c before after WriteFault = WroteSome (IsAnswer objects before.held c) before after
ClaimCaused objects c before after (Refused file place why) = IsRefusedClaim objects c before after (Refused file place why)
ClaimCaused objects c before after (Limit quantity count) = IsRefusedClaim objects c before after (Limit quantity count)
ClaimCaused objects c before after Budget = ⊥
ClaimCaused objects c before after Memory = IsUnwritten before after
ClaimCaused objects c before after DiskFault = ⊥

-- ---- what follows, where the shelf tells its files

-- what such a report is answered by was written, and it is one
pub record SaysYes (asks : ReportClaim) (objects : List Used) (source : Source) (bytes : List ℕ) (before after : Kept) : Type 0 where
  pub text : List ℕ
  pub affirms : Affirms asks objects source bytes text
  pub written : after.written ≡ grown before.written text

-- `no` was written, and it is none
pub record SaysNo (objects : List Used) (source : Source) (bytes : List ℕ) (before after : Kept) : Type 0 where
  pub foreign : IsOwn objects source bytes → ⊥
  pub written : after.written ≡ grown before.written (codes "no\n")

-- the one for Ok and the other for No, each exactly where it is so of the source and the bytes that the files are
pub record Judges (objects : List Used) (c : Claim) (before after : Kept) (status : Status) : Type 0 where
  pub on_ok : (files : List Filed) (source : Source) (bytes : List ℕ) → before.held ≡ Some files → HasClaimed objects (Some files) c source →
      HasFile most_report_bytes (Some files) c.report (λ x. x ≡ bytes) → status ≡ Ok → SaysYes c.asks objects source bytes before after
  pub on_no : (files : List Filed) (source : Source) (bytes : List ℕ) → before.held ≡ Some files → HasClaimed objects (Some files) c source →
      HasFile most_report_bytes (Some files) c.report (λ x. x ≡ bytes) → status ≡ No → SaysNo objects source bytes before after

-- completeness: where none of the files that the shelf tells is refused, and neither count of faults rises, the answer was written, or the status
-- is Memory
abbrev pub IsClaimComplete : List Used → Claim → Kept → Kept → Status → Type 0
IsClaimComplete objects c before after status =
    (files : List Filed) → before.held ≡ Some files → ((s : Status) → Surely (ClaimRefused objects (Some files) c) s → ⊥) →
    (Rose before.shelf_faults after.shelf_faults → ⊥) → (Rose before.sink_faults after.sink_faults → ⊥) →
    (status ≡ Ok) ⊎ ((status ≡ No) ⊎ (status ≡ Memory))

-- ---- how the code asks for it

abbrev pub asks_of : code.ReportClaim → ReportClaim
asks_of code_variant.Whether = whether
asks_of code_variant.Anew = anew
