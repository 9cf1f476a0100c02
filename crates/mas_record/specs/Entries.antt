-- What becomes of the journal in a call.
use Rattle.std.specs.Prelude.{◌≡◌, ℕ, true, Option, None, Some, is_some, Result, Ok, OnOk, IfErr}
use Rattle.mas_io.specs.Causes.{Rose}
use Rattle.mas_record_disk.specs.Disk.{Image, DiskState}
use Rattle.mas_record_disk.specs.Calls.{picked_file, HasCause}
use Rattle.mas_record_disk.specs.declared.disk.DiskFail.{DiskFail}
use Rattle.mas_record_disk.specs.declared.disk.DiskFail.TheVariants as fail
use Rattle.mas_record_journal.specs.declared.journal.Journal.{Journal}
use Rattle.mas_record_journal.specs.Journals.{RecoversEither}
use Rattle.mas_record_journal.specs.Moments.{Ran}
use Rattle.mas_record_journal.specs.Kept.{IsJournal, IsAppended, IsTornBy, AllRecover}
use Rattle.mas_board.specs.Boards.{Noted}
use Rattle.mas_board_turns.specs.declared.turn.Turn.{Turn}

-- ---- appending

-- the turn of this agent was appended, or a refusal tore the journal
pub record Appended {D : Type 0} (state : D → DiskState) (a : ℕ) (old new : Journal D) (written : Result (Unit {0}) DiskFail) : Type 0 where
  pub whole : IsJournal (state new.disk) new.turns new.torn
  pub ok : OnOk written (IsAppended old.turns new.turns a new.torn)
  pub refused : IfErr written (IsTornBy old.turns new.turns new.torn)
  pub ran : Ran (RecoversEither old.turns a) (state old.disk) (state new.disk)
  pub there : OnOk written (AllRecover new.turns (state new.disk))
  pub either : (state new.disk).told ≡ true → (c : Image) → (picked_file (state new.disk)).may_leave c → RecoversEither old.turns a c
  pub cause : HasCause (state old.disk) (state new.disk) written

-- the same where a turn was made; else nothing is done
abbrev pub NotedIn : {D : Type 0} → (D → DiskState) → Option Turn → ℕ → Journal D → Journal D → Result (Unit {0}) DiskFail → Type 0
NotedIn state None a old new written = (new ≡ old) × (written ≡ Ok tt)
NotedIn state (Some turn) a old new written = Appended state a old new written

-- ---- as a caller sees it

-- the refusal that the journal kept before and after the call, and the disk's counts of faults
pub record Entered : Type 0 where
  pub torn_before : Option DiskFail
  pub torn_after : Option DiskFail
  pub faults_before : ℕ
  pub faults_after : ℕ

abbrev pub entered : {D : Type 0} → (D → DiskState) → Journal D → Journal D → Entered
entered state old new = record {
  torn_before = old.torn;
  torn_after = new.torn;
  faults_before = (state old.disk).faults;
  faults_after = (state new.disk).faults;
}

-- the turn was appended
pub record IsWritten (e : Entered) : Type 0 where
  pub open_before : e.torn_before ≡ None
  pub open_after : e.torn_after ≡ None

-- the turn stands on the board, and its refusal tore the journal
pub record IsTornNow (e : Entered) (why : DiskFail) : Type 0 where
  pub open_before : e.torn_before ≡ None
  pub torn_now : e.torn_after ≡ Some why
  pub cause : why ≡ fail.Failed → Rose e.faults_before e.faults_after

-- no turn was made on a journal that is as it was
pub record IsAsItWas (e : Entered) : Type 0 where
  pub torn : e.torn_after ≡ e.torn_before
  pub faults : e.faults_after ≡ e.faults_before

-- the board that was taken and the one that was given back tell whether the journal was torn then
pub record IsSeen (e : Entered) (met after : Noted) : Type 0 where
  pub on_entry : met.halted ≡ is_some e.torn_before
  pub on_exit : after.halted ≡ is_some e.torn_after
