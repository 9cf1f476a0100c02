-- What a recorded run comes to, and what it leaves of the disk.
use Rattle.std.specs.Prelude.{◌≡◌, ℕ, ◌<◌, ◌≤◌, ◌⊎◌, true, is_some, Option, None, Some, Result, Ok, Err, IfErr, OnOk, List, ◌++◌, length, map}
use Rattle.mas_board_lists.specs.Lists.{StartsWith, Each, Row}
use Rattle.mas_io.specs.Causes.{Rose}
use Rattle.mas_record_disk.specs.Disk.{Image, DiskState}
use Rattle.mas_record_disk.specs.Calls.{name_or_none}
use Rattle.mas_record_disk.specs.declared.disk.DiskFail.{DiskFail}
use Rattle.mas_record_disk.specs.declared.disk.DiskFail.TheVariants as fail
use Rattle.mas_record_journal.specs.Journals.{Recovers}
use Rattle.mas_mind.specs.declared.mind.Thought.{Thought}
use Rattle.mas_mind.specs.Minds.{Kind}
use Rattle.mas_board.specs.Boards.{Noted}
use Rattle.mas_core.specs.Platform.{run, ended}
use Rattle.mas_board_turns.specs.Views.{Opening}
use Rattle.mas_record.specs.declared.deck.Deck.{Deck}
use Rattle.mas_record.specs.declared.deck.DeckFault.{DeckFault}
use Rattle.mas_record.specs.declared.recorder.Recorder.{Recorder}
use Rattle.mas_record.specs.declared.ticket.Ticket.{Ticket}
use Rattle.mas_record_journal.specs.Kept.{AllRecover}
use Rattle.mas_record.specs.Rule.{IsKept, RecoversWithin}
use Rattle.mas_record.specs.Tickets.{IsNew}
use Rattle.mas_record_rounds.specs.Sharers.{Shares}
use Rattle.mas_record_rounds.specs.declared.share.Waiting.{Waiting}
use Rattle.mas_record_rounds.specs.Dealing.{dealt}
use Rattle.mas_record_run.specs.declared.fault.RecordFault.{RecordFault}
use Rattle.mas_record_run.specs.declared.fault.RecordFault.TheVariants.{Memory, Disk, Missing, NoHeader, TooLong, Illegal}

-- ---- the run

-- from this board, these minds and thoughts a run went on along more numbers, after which every agent has left
pub record RanOn {V : Type 0} (k : Kind V) (board : Noted) (minds : List V) (thoughts : List (Option Thought)) (done : Noted) (after : List V) : Type 0 where
  pub more : List ℕ
  pub left : List (Option Thought)
  pub schedule : done.schedule ≡ board.schedule ++ more
  pub ran : run k (record { board = board.state; minds = minds; thoughts = thoughts }) more
      ≡ Some (record { board = done.state; minds = after; thoughts = left })
  pub ended : ended done.state.seats ≡ true

module _ {V A D : Type 0} where
  -- each agent that waits has its ticket, and is a sharer of this recorder
  pub record Begins (k : Kind V) (r : Recorder A D) (o : Opening) (tickets : List (Ticket A D)) (waiting : List (Waiting V A D)) : Type 0 where
    pub some : 0 < length tickets
    pub all : length tickets ≡ length o.board.state.seats
    pub count : length waiting ≡ length tickets
    pub each : Row (IsNew r o) 1 tickets
    pub shares : Each (Shares k r) (dealt tickets waiting)

  -- board and journal are as they are always kept; and where no round was refused the run has come to its end
  pub record HasPlayed (k : Kind V) (state : D → DiskState) (o : Opening) (waiting : List (Waiting V A D)) (x : Deck A D) (after : List V)
      (came : Result (Unit {0}) DeckFault) : Type 0 where
    pub kept : IsKept state o x
    pub ran : OnOk came (RanOn k o.board (map (λ (w : Waiting V A D). w.mind) waiting) (map (λ (w : Waiting V A D). w.thought) waiting) x.board after)

-- ---- the answer

-- the refusal that tore the journal, or else what the rounds came to: they are refused for want of memory alone then
abbrev pub came_to : Option DiskFail → Result (Unit {0}) DeckFault → Result (Unit {0}) RecordFault
came_to (Some fail.Memory) came = Err Memory
came_to (Some fail.Failed) came = Err Disk
came_to None (Ok u) = Ok u
came_to None (Err f) = Err Memory

module _ {A D : Type 0} where
  pub record IsDone {V : Type 0} (x : Deck A D) (minds : List V) (came : Result (Unit {0}) DeckFault) (board : Noted) (after : List V) : Type 0 where
    pub came_is : came_to x.journal.torn came ≡ Ok tt
    pub board_is : board ≡ x.board
    pub minds_are : after ≡ minds

  abbrev pub IsNotDone : Deck A D → Result (Unit {0}) DeckFault → RecordFault → Type 0
  IsNotDone x came f = came_to x.journal.torn came ≡ Err f

-- nothing was run, for this cause
abbrev pub IsRefusal : {T : Type 0} → RecordFault → Result T RecordFault → Type 0
IsRefusal f answer = (answer ≡ Err f)

-- the cause of each fault of a run whose journal is open
abbrev pub RunCause : DiskState → DiskState → RecordFault → Type 0
RunCause old new Memory = Unit {0}
RunCause old new Disk = Rose old.faults new.faults
RunCause old new Missing = ⊥
RunCause old new NoHeader = ⊥
RunCause old new TooLong = ⊥
RunCause old new (Illegal place) = ⊥

-- ---- the disk

-- it recovers to turns that begin with these
pub record RecoversFrom (turns : List ℕ) (c : Image) : Type 0 where
  pub found : List ℕ
  pub recovers : Recovers found c
  pub begins : StartsWith found turns

-- a disk went on: it tells as it did, and neither its count of faults nor its moment fell
pub record WentOn (old new : DiskState) : Type 0 where
  pub told : new.told ≡ old.told
  pub counted : old.faults ≤ new.faults
  pub later : old.moment ≤ new.moment

-- the same file is picked; and since the first of two moments a crash would have left these turns of it, and maybe more
pub record LeavesSince (turns : List ℕ) (old new : DiskState) : Type 0 where
  pub on : WentOn old new
  pub picked : new.picked ≡ old.picked
  pub images : old.told ≡ true → (c : Image) → new.left_since old.moment (name_or_none old.picked) c → RecoversFrom turns c

-- and what a crash since an earlier moment would have left, it would have left until then, or it is one of those
pub record Leaves (turns : List ℕ) (old new : DiskState) : Type 0 where
  pub now : LeavesSince turns old new
  pub before : old.told ≡ true → (t : ℕ) (c : Image) → t ≤ old.moment → new.left_since t (name_or_none old.picked) c
      → old.left_since t (name_or_none old.picked) c ⊎ RecoversFrom turns c

-- after a run with this schedule: since its start a crash would have left these turns of it, and maybe more; and now it leaves them all
pub record HasLeft (turns schedule : List ℕ) (old new : DiskState) : Type 0 where
  pub images : old.told ≡ true → (c : Image) → new.left_since old.moment (name_or_none old.picked) c → RecoversWithin turns schedule c
  pub all : AllRecover schedule new
