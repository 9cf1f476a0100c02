-- What rounds make of shares.
use Rattle.std.specs.Prelude.{ℕ, ◌≡◌, ◌<◌, Bool, true, false, Result, Ok, Err, List, length, All, slice_index_or}
use Rattle.mas_board_lists.specs.Lists.{Each}
use Rattle.mas_mind.specs.Minds.{Kind}
use Rattle.mas_board_turns.specs.Cycles.{Went}
use Rattle.mas_record.specs.declared.deck.DeckFault.{DeckFault}
use Rattle.mas_record.specs.declared.recorder.Recorder.{Recorder}
use Rattle.mas_record.specs.Tickets.{turns_of}
use Rattle.mas_record_rounds.specs.declared.sharer.Sharer.{Sharer}
use Rattle.mas_record_rounds.specs.Sharers.{Shares, Stays, Both, AllWent, AllStay, thinking_of, here_of}
use Rattle.mas_record_rounds.specs.declared.share.Share.{Share}

-- no call was refused; and where this is so, no agent is left
abbrev pub CameSo : Bool → Result ℕ DeckFault → Type 0
CameSo true (Ok here) = here ≡ 0
CameSo false (Ok here) = Unit {0}
CameSo ended (Err f) = ⊥

module _ {V A D : Type 0} where
  -- ---- a stretch of rounds

  -- all its agents are sharers of this recorder
  abbrev pub MayGo : Kind V → Recorder A D → Share V A D → Type 0
  MayGo k r s = Each (Shares k r) s.sharers

  -- rounds were made of these agents, or a call was refused
  abbrev pub CameTo : Kind V → Recorder A D → List (Sharer V A D) → List (Sharer V A D) → Result ℕ DeckFault → Type 0
  CameTo k r old new (Ok here) = AllWent k r old new here
  CameTo k r old new (Err f) = AllStay r old new f

  abbrev pub HasCome : Kind V → Recorder A D → Share V A D → Share V A D → Type 0
  HasCome k r old new = CameTo k r old.sharers new.sharers new.came

  -- each of these shares made its rounds
  pub record AllCame (k : Kind V) (r : Recorder A D) (old new : List (Share V A D)) : Type 0 where
    pub count : length new ≡ length old
    pub each : (i : ℕ) (d : Share V A D) → i < length old → HasCome k r (slice_index_or old i d) (slice_index_or new i d)

  abbrev pub AllCameSo : List (Share V A D) → Bool → Type 0
  AllCameSo shares ended = All (λ (s : Share V A D). CameSo ended s.came) shares

  -- ---- all rounds

  -- the mind of this agent went on through the turns that its ticket gained
  pub record Led (k : Kind V) (r : Recorder A D) (old new : Sharer V A D) : Type 0 where
    pub stays : Stays r old new
    pub shares : Shares k r new
    pub way : Went k (thinking_of old) (turns_of old.ticket) (turns_of new.ticket) (thinking_of new)

  -- each did, and has left
  pub record AllEnded (k : Kind V) (r : Recorder A D) (old new : List (Sharer V A D)) : Type 0 where
    pub each : Both (Led k r) old new
    pub none_here : here_of new ≡ 0
