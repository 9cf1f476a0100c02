-- What a step makes of what a ticket knows.
use Rattle.std.specs.Prelude.{ℕ, Option, None, Some, List, [], ◌∷◌, ◌++◌}
use Rattle.mas_record_disk.specs.Disk.{DiskState}
use Rattle.mas_record_disk.specs.declared.disk.DiskFail.{DiskFail}
use Rattle.mas_record_journal.specs.declared.journal.Journal.{Journal}
use Rattle.mas_board_turns.specs.declared.turn.Turn.{Turn}
use Rattle.mas_board_turns.specs.declared.view.SideView.{SideView}
use Rattle.mas_board_turns.specs.Views.{Opening}
use Rattle.mas_board_turns.specs.Steps as step
use Rattle.mas_record.specs.declared.deck.Deck.{Deck}
use Rattle.mas_record.specs.declared.side.DeckView.{DeckView}
use Rattle.mas_record.specs.Rule.{shown}
use Rattle.mas_record.specs.Entries.{Entered}

-- the refusal that a journal keeps, if there is one
abbrev pub torn_of : {D : Type 0} → Option (Journal D) → Option DiskFail
torn_of None = None
torn_of (Some journal) = journal.torn

-- the first of these journals
abbrev pub last_of : {D : Type 0} → List (Journal D) → Option (Journal D)
last_of [] = None
last_of (journal ∷ journals) = Some journal

module _ {D : Type 0} where
  -- no journal was taken or given back
  abbrev pub unmet : SideView → DeckView D
  unmet s = record { side = s; met = None; met_faults = 0; left = []; left_faults = 0 }

  -- board and journal have not come yet
  abbrev pub blank : DeckView D
  blank = unmet step.blank

  -- they came
  abbrev pub opened : Opening → DeckView D
  opened o = unmet (step.opened o)

  -- one agent goes to a new view
  abbrev pub rest_of : DeckView D → DeckView D
  rest_of v = record { side = step.rest_of v.side; met = v.met; met_faults = v.met_faults; left = v.left; left_faults = v.left_faults }

  abbrev pub one_of : DeckView D → DeckView D
  one_of v = record { side = step.one_of v.side; met = v.met; met_faults = v.met_faults; left = v.left; left_faults = v.left_faults }

  -- one view takes in another, which is spent
  abbrev pub both_of : DeckView D → DeckView D → DeckView D
  both_of v w =
      record { side = step.both_of v.side w.side; met = v.met; met_faults = v.met_faults; left = v.left ++ w.left; left_faults = v.left_faults }

  abbrev pub spent : DeckView D
  spent = unmet step.spent

  -- the refusals and the counts of faults of the last exchange
  abbrev pub entered_by : DeckView D → Entered
  entered_by v = record {
    torn_before = torn_of v.met;
    torn_after = torn_of (last_of v.left);
    faults_before = v.met_faults;
    faults_after = v.left_faults;
  }

module _ {A D : Type 0} (state : D → DiskState) where
  -- they were taken
  abbrev pub took : DeckView D → Deck A D → DeckView D
  took v x = record {
    side = step.took v.side (shown x);
    met = Some x.journal;
    met_faults = (state x.journal.disk).faults;
    left = v.left;
    left_faults = v.left_faults;
  }

  -- they were given back, with a turn or without one
  abbrev pub gave : Option Turn → DeckView D → Deck A D → DeckView D
  gave made v x = record {
    side = step.gave made v.side (shown x);
    met = v.met;
    met_faults = v.met_faults;
    left = x.journal ∷ v.left;
    left_faults = (state x.journal.disk).faults;
  }
