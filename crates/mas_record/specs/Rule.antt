-- What is always kept of board and journal.
use Rattle.std.specs.Prelude.{◌≡◌, ℕ, ◌≤◌, true, false, Option, None, Some, is_some, List}
use Rattle.mas_board_lists.specs.Lists.{StartsWith}
use Rattle.mas_io.specs.Causes.{Rose}
use Rattle.mas_record_disk.specs.Disk.{Image, DiskState}
use Rattle.mas_record_disk.specs.Calls.{name_or_none, picked_file}
use Rattle.mas_record_disk.specs.declared.disk.DiskFail.{DiskFail}
use Rattle.mas_record_disk.specs.declared.disk.DiskFail.TheVariants.{Failed}
use Rattle.mas_record_journal.specs.declared.journal.Journal.{Journal}
use Rattle.mas_record_journal.specs.Journals.{Recovers}
use Rattle.mas_record_journal.specs.Kept.{IsJournal}
use Rattle.mas_board.specs.Boards.{Noted}
use Rattle.mas_board_turns.specs.Views.{Opening}
use Rattle.mas_board_turns.specs.Rule.{Showing}
use Rattle.mas_record.specs.declared.deck.Deck.{Deck}

-- the turns that the journal has are those of the schedule; or a refusal tore it, and they are a beginning of the schedule
abbrev pub IsJournalled : List ℕ → List ℕ → Option DiskFail → Type 0
IsJournalled schedule turns None = turns ≡ schedule
IsJournalled schedule turns (Some e) = StartsWith schedule turns

-- it recovers to a beginning of the schedule that begins with these turns
pub record RecoversWithin (turns schedule : List ℕ) (c : Image) : Type 0 where
  pub found : List ℕ
  pub recovers : Recovers found c
  pub begins : StartsWith found turns
  pub within : StartsWith schedule found

-- a crash now leaves these turns and no turn that is not in the schedule
abbrev pub LeavesWithin : List ℕ → List ℕ → DiskState → Type 0
LeavesWithin turns schedule s = s.told ≡ true → (c : Image) → (picked_file s).may_leave c → RecoversWithin turns schedule c

-- since the opening: the same file is picked, of a disk that tells as it did; the disk's count of faults did not fall, it rose where
-- a fault tore the journal, and a crash at any moment would have left the schedule of the opening and no turn that is not in this
-- schedule
pub record IsSince (first : Opening) (schedule : List ℕ) (s : DiskState) (torn : Option DiskFail) : Type 0 where
  pub told : s.told ≡ first.told
  pub picked : s.picked ≡ first.picked
  pub later : first.moment ≤ s.moment
  pub counted : first.faults ≤ s.faults
  pub rose : torn ≡ Some Failed → Rose first.faults s.faults
  pub images : s.told ≡ true → (c : Image) → s.left_since first.moment (name_or_none s.picked) c → RecoversWithin first.board.schedule schedule c

-- how it stands with this board and this journal
abbrev pub opening_at : {D : Type 0} → (D → DiskState) → Noted → Journal D → Opening
opening_at state board journal = record {
  board = board;
  told = (state journal.disk).told;
  picked = (state journal.disk).picked;
  faults = (state journal.disk).faults;
  moment = (state journal.disk).moment;
}

module _ {A D : Type 0} where
  -- the board as the tickets see it: it counts as halted where the journal is torn
  abbrev pub shown : Deck A D → Noted
  shown x = record { state = x.board.state; schedule = x.board.schedule; halted = is_some x.journal.torn }

  -- board and journal, beside how they stood at the opening: whatever tore the journal, a crash leaves all the turns that it took
  pub record IsKept (state : D → DiskState) (first : Opening) (x : Deck A D) : Type 0 where
    pub runs : x.board.halted ≡ false
    pub begins : StartsWith x.board.schedule first.board.schedule
    pub whole : IsJournal (state x.journal.disk) x.journal.turns x.journal.torn
    pub tells : IsJournalled x.board.schedule x.journal.turns x.journal.torn
    pub leaves : LeavesWithin x.journal.turns x.board.schedule (state x.journal.disk)
    pub since : IsSince first x.board.schedule (state x.journal.disk) x.journal.torn

  -- what lies in the queue
  abbrev pub showing : (D → DiskState) → Showing (Deck A D)
  showing state = record { board = shown; keeps = λ first x. IsKept state first x }

  -- how it stands when board and journal come
  abbrev pub opening : (D → DiskState) → Deck A D → Opening
  opening state x = opening_at state x.board x.journal

  -- a board and a journal of its turns
  pub record MayOpen (state : D → DiskState) (x : Deck A D) : Type 0 where
    pub runs : x.board.halted ≡ false
    pub whole : IsJournal (state x.journal.disk) x.journal.turns x.journal.torn
    pub open_now : x.journal.torn ≡ None
    pub tells : x.journal.turns ≡ x.board.schedule
