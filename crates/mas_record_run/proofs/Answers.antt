-- What a run that was played answers, and what it leaves of the disk.
use Rattle.std.proofs.Common.{◌≡◌, ℕ, ◌≤◌, ◌⊎◌, inl, inr, true, is_some, Option, Some, None, Result, Ok, Err, IfOk, IfErr, List, map, sym, refl, ap, ◌∙◌, subst, arith}
use Rattle.mas_board_lists.specs.Lists.{StartsWith}
use Rattle.mas_board_lists.proofs.Starts.{starts_refl}
use Rattle.mas_record_disk.specs.Disk.{Image, DiskState}
use Rattle.mas_record_disk.specs.Calls.{name_or_none, picked_file}
use Rattle.mas_record_disk.specs.declared.disk.DiskFail.{DiskFail}
use Rattle.mas_record_disk.specs.declared.disk.DiskFail.TheVariants as fail
use Rattle.mas_record_journal.specs.Kept.{IsJournal, AllRecover}
use Rattle.mas_record_journal.specs.Journals.{Recovers}
use Rattle.mas_record_journal.proofs.Steps.{all_recover}
use Rattle.mas_mind.specs.Minds.{Kind}
use Rattle.mas_board.specs.Boards.{Noted}
use Rattle.mas_board_turns.specs.Views.{Opening}
use Rattle.mas_record.specs.declared.deck.Deck.{Deck}
use Rattle.mas_record.specs.declared.deck.DeckFault.{DeckFault}
use Rattle.mas_record.specs.Rule.{IsKept, IsJournalled, RecoversWithin, MayOpen, opening}
use Rattle.mas_record_rounds.specs.declared.share.Waiting.{Waiting}
use Rattle.mas_record_run.specs.declared.fault.RecordFault.{RecordFault}
use Rattle.mas_record_run.specs.declared.fault.RecordFault.TheVariants.{Memory}
use Rattle.mas_record_run.specs.Runs.{HasPlayed, came_to, IsDone, IsRefusal, RecoversFrom, LeavesSince, Leaves, HasLeft}
use Rattle.mas_record_disk.specs.PastDisk.{CameFrom, IsOnlyNow}

-- ---- answers

pub ok_map : {T E : Type 0} (r : Result T E) (P Q : T → Type 0) → ((x : T) → P x → Q x) → IfOk r P → IfOk r Q
ok_map (Ok x) P Q f h = f x h
ok_map (Err e) P Q f h = tt

pub err_map : {T E : Type 0} (r : Result T E) (P Q : E → Type 0) → ((x : E) → P x → Q x) → IfErr r P → IfErr r Q
err_map (Ok x) P Q f h = tt
err_map (Err e) P Q f h = f e h

pub ok_both : {T E : Type 0} (r : Result T E) (P Q R : T → Type 0) → ((x : T) → P x → Q x → R x) → IfOk r P → IfOk r Q → IfOk r R
ok_both (Ok x) P Q R f h k = f x h k
ok_both (Err e) P Q R f h k = tt

pub one_err : {T : Type 0} (r : Result T RecordFault) (f : RecordFault) (P : RecordFault → Type 0) → IsRefusal f r → P f → IfErr r P
one_err r f P e h = subst (λ x. IfErr x P) (sym e) h

-- the same, where the disk came back as it was
pub back_err : {T D : Type 0} (r : Result T RecordFault) (f g : RecordFault) (d e : D) (Cause : D → RecordFault → Type 0) → IsRefusal f r → f ≡ g → e ≡ d
    → Cause d g → IfErr r (Cause e)
back_err r f g d e Cause a b c h = one_err r f (Cause e) a (subst (Cause e) (sym b) (subst (λ x. Cause x g) (sym c) h))

not_torn : (torn : Option DiskFail) (came : Result (Unit {0}) DeckFault) → came_to torn came ≡ Ok tt → torn ≡ None
not_torn None came e = refl
not_torn (Some fail.Memory) came e = cc
not_torn (Some fail.Failed) came e = cc

tells_all : (schedule turns : List ℕ) (torn : Option DiskFail) → torn ≡ None → IsJournalled schedule turns torn → turns ≡ schedule
tells_all schedule turns None e t = t
tells_all schedule turns (Some f) e t = cc

-- ---- the disk

from_within : (turns schedule : List ℕ) (c : Image) → RecoversWithin turns schedule c → RecoversFrom turns c
from_within turns schedule c h = record { found = h.found; recovers = h.recovers; begins = h.begins }

-- nothing was done with an open journal
pub leaves_same : (turns : List ℕ) (s : DiskState) (torn : Option DiskFail) → IsOnlyNow s → IsJournal s turns torn → torn ≡ None → LeavesSince turns s s
leaves_same turns s torn now j e = record {
  on = record { told = refl; counted = omega arith; later = omega arith };
  picked = refl;
  images = λ told c left. record {
    found = turns;
    recovers = all_recover turns s (j.file e) told c (now (name_or_none s.picked) c left);
    begins = starts_refl turns;
  };
}

-- the same, of moments before too
pub leaves_still : (turns : List ℕ) (s : DiskState) (torn : Option DiskFail) → IsOnlyNow s → IsJournal s turns torn → torn ≡ None → Leaves turns s s
leaves_still turns s torn now j e = record { now = leaves_same turns s torn now j e; before = λ told t c le left. inl left }

-- a disk that came from how it was at the first moment
pub leaves_before : (turns : List ℕ) (s e : DiskState) → CameFrom s e → LeavesSince turns s e → Leaves turns s e
leaves_before turns s e came l = record {
  now = l;
  before = λ told t c le left. either told t c (came.since t (name_or_none s.picked) c le left);
}
  where
    either : s.told ≡ true → (t : ℕ) (c : Image) → s.left_since t (name_or_none s.picked) c ⊎ e.left_since s.moment (name_or_none s.picked) c
        → s.left_since t (name_or_none s.picked) c ⊎ RecoversFrom turns c
    either told t c (inl l) = inl l
    either told t c (inr r) = inr (l.images told c r)

-- ---- a run that was played from an open journal

module _ {V A D : Type 0} (k : Kind V) (state : D → DiskState) (first : Deck A D) (o : Opening) (e : o ≡ opening state first) (m : MayOpen state first)
    (ws : List (Waiting V A D)) (x : Deck A D) (minds : List V) (came : Result (Unit {0}) DeckFault) (h : HasPlayed k state o ws x minds came) where
  abbrev s : DiskState
  s = state first.journal.disk

  abbrev t : DiskState
  t = state x.journal.disk

  kept : IsKept state (opening state first) x
  kept = subst (λ (f : Opening). IsKept state f x) e h.kept

  -- what a crash since the opening would have left of the file that was picked then
  since : s.told ≡ true → (c : Image) → t.left_since s.moment (name_or_none s.picked) c → RecoversWithin first.board.schedule x.board.schedule c
  since told c left =
      kept.since.images (kept.since.told ∙ told) c (subst (λ (p : Option (List ℕ)). t.left_since s.moment (name_or_none p) c) (sym kept.since.picked) left)

  pub there_done : (board : Noted) (after : List V) → IsDone x minds came board after → HasLeft first.journal.turns board.schedule s t
  there_done board after d =
      let none = not_torn x.journal.torn came d.came_is in
      let same : x.board.schedule ≡ board.schedule = ap (λ (b : Noted). b.schedule) (sym d.board_is) in
      record {
        images = λ told c left. subst (λ (l : List ℕ × List ℕ). RecoversWithin l.0 l.1 c) (λ i. (sym m.tells i, same i)) (since told c left);
        all = subst (λ (l : List ℕ). AllRecover l t) (tells_all x.board.schedule x.journal.turns x.journal.torn none kept.tells ∙ same)
            (all_recover x.journal.turns t (kept.whole.file none));
      }

  pub leaves_done : LeavesSince first.journal.turns s t
  leaves_done = record {
    on = record { told = kept.since.told; counted = kept.since.counted; later = kept.since.later };
    picked = kept.since.picked;
    images = λ told c left. subst (λ (l : List ℕ). RecoversFrom l c) (sym m.tells) (from_within first.board.schedule x.board.schedule c (since told c left));
  }
