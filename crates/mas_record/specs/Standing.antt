-- The rule of the queue in which board and journal lie: at no moment since a view gave the journal back would a crash have left less of it.
use Rattle.std.specs.Prelude.{◌≡◌, ℕ, ◌≤◌, true, false, Option, None, Some, List, map}
use Rattle.mas_board_lists.specs.Lists.{StartsWith, Each, Every}
use Rattle.mas_record_disk.specs.Disk.{Image, DiskState}
use Rattle.mas_record_disk.specs.Calls.{name_or_none}
use Rattle.mas_record_journal.specs.declared.journal.Journal.{Journal}
use Rattle.mas_record_journal.specs.Journals.{Recovers}
use Rattle.mas_board_turns.specs.declared.turn.Turn.{Turn}
use Rattle.mas_board_turns.specs.declared.view.SideView.{SideView}
use Rattle.mas_board_turns.specs.Rule.{Holds, Taken, MayGive, Told}
use Rattle.mas_record.specs.declared.deck.Deck.{Deck}
use Rattle.mas_record.specs.declared.side.DeckView.{DeckView}
use Rattle.mas_record.specs.Rule.{showing}
use Rattle.mas_record.specs.Views.{took}

-- it recovers to turns that begin with these
pub record RecoversFrom (turns : List ℕ) (c : Image) : Type 0 where
  pub found : List ℕ
  pub recovers : Recovers found c
  pub begins : StartsWith found turns

module _ {D : Type 0} (state : D → DiskState) where
  -- the present journal has all turns of the one that was given back, and a crash at any moment since then would have left them all
  pub record IsStill (present back : Journal D) : Type 0 where
    pub later : (state back.disk).moment ≤ (state present.disk).moment
    pub begins : StartsWith present.turns back.turns
    pub images : (state present.disk).told ≡ true → (c : Image)
        → (state present.disk).left_since (state back.disk).moment (name_or_none (state present.disk).picked) c → RecoversFrom back.turns c

  abbrev pub IsStillIn : Option (Journal D) → Journal D → Type 0
  IsStillIn None = λ back. ⊥
  IsStillIn (Some present) = IsStill present

  -- what the old journal still has, the new one still has
  abbrev pub KeepsStill : Journal D → Journal D → Type 0
  KeepsStill old new = (back : Journal D) → IsStill old back → IsStill new back

  -- a view, beside the journal as it lies in the queue, or as it was taken out last
  pub record Follows (present : Option (Journal D)) (v : DeckView D) : Type 0 where
    pub early : v.side.started ≡ false → present ≡ None
    pub hand : v.side.in_hand ≡ true → v.met ≡ present
    pub still : Each (IsStillIn present) v.left

abbrev pub sides : {D : Type 0} → List (DeckView D) → List SideView
sides {D} views = map (λ (v : DeckView D). v.side) views

module _ {A D : Type 0} (state : D → DiskState) where
  -- there is one journal, which lies in the queue or was taken out of it, and which still has what each view gave back
  pub record Following (items : List (Deck A D)) (views : List (DeckView D)) : Type 0 where
    pub present : Option (Journal D)
    pub lies : Each (λ (x : Deck A D). present ≡ Some x.journal) items
    pub fits : Every (Follows state present) views

  -- the rule of a board in a queue, and that of the journal beside it
  abbrev pub DeckHolds : List (Deck A D) → List (DeckView D) → Type 0
  DeckHolds items views = Holds (showing {A = A} state) items (sides views) × Following items views

  -- what a taking tells
  pub record DeckTaken (v : DeckView D) (x : Deck A D) (w : DeckView D) : Type 0 where
    pub is : w ≡ took state v x
    pub taken : Taken (showing {A = A} state) v.side x w.side

  -- what a giving back asks for: what was made of the board; and that the journal still has what the one that was taken still had
  pub record DeckMayGive (made : Option Turn) (a : ℕ) (v : DeckView D) (x : Deck A D) : Type 0 where
    pub gives : MayGive (showing {A = A} state) made a v.side x
    pub keeps : (met : Journal D) → v.met ≡ Some met → KeepsStill state met x.journal

  -- what a view with every agent is told at the end
  pub record DeckTold (v : DeckView D) (x : Deck A D) : Type 0 where
    pub told : Told (showing {A = A} state) v.side x
    pub still : Each (IsStill state x.journal) v.left
