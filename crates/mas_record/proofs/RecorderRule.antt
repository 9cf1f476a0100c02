-- What is always kept of board and journal: at the opening, and after a turn was noted.
use Rattle.std.proofs.Common.{◌≡◌, ℕ, ◌≤◌, ◌⊎◌, inl, inr, true, false, Option, Some, None, is_some, Result, Ok, Err, List, [], ◌∷◌, ◌++◌, append-nil, sym, ap}
use Rattle.std.proofs.Common.{◌∙◌, refl, subst, arith}
use Rattle.std.proofs.lemmas.Option.{same_Some}
use Rattle.mas_board_lists.specs.Lists.{StartsWith}
use Rattle.mas_board_lists.proofs.Starts.{starts_refl, starts_more}
use Rattle.mas_io.specs.Causes.{Rose}
use Rattle.mas_record_disk.specs.Disk.{Image, DiskState}
use Rattle.mas_record_disk.specs.Calls.{name_or_none, picked_file}
use Rattle.mas_record_disk.specs.PastDisk.{IsCounted, IsOnlyNow}
use Rattle.mas_record_disk.specs.declared.disk.DiskFail.{DiskFail}
use Rattle.mas_record_disk.specs.declared.disk.DiskFail.TheVariants.{Failed}
use Rattle.mas_record_journal.specs.declared.journal.Journal.{Journal}
use Rattle.mas_record_journal.specs.Journals.{RecoversEither}
use Rattle.mas_record_journal.specs.Moments.{Ran}
use Rattle.mas_record_journal.specs.Kept.{IsJournal}
use Rattle.mas_record_journal.proofs.Steps.{all_recover}
use Rattle.mas_board_turns.specs.declared.turn.Turn.{Turn}
use Rattle.mas_board_turns.specs.Views.{Opening}
use Rattle.mas_board_turns.specs.Steps.{Made}
use Rattle.mas_record.specs.declared.deck.Deck.{Deck}
use Rattle.mas_record.specs.Rule.{IsJournalled, RecoversWithin, LeavesWithin, IsSince, IsKept, MayOpen, opening, shown}
use Rattle.mas_record.specs.Entries.{Appended, NotedIn}

rose_on : (a b c : ℕ) → a ≤ b → Rose b c → Rose a c
rose_on a b c l r = omega (arith, l, r)

-- a journal that is not torn has the turns of the schedule
whole_turns : (schedule turns : List ℕ) (torn : Option DiskFail) → torn ≡ None → IsJournalled schedule turns torn → turns ≡ schedule
whole_turns schedule turns None e t = t
whole_turns schedule turns (Some f) e t = cc

-- ---- after a turn

from_either : (first turns : List ℕ) (a : ℕ) (c : Image) → StartsWith turns first → RecoversEither turns a c → RecoversWithin first (turns ++ a ∷ []) c
from_either first turns a c h (inl r) = record { found = turns; recovers = r; begins = h; within = (a ∷ [], refl) }
from_either first turns a c h (inr r) = record {
  found = turns ++ a ∷ [];
  recovers = r;
  begins = starts_more turns first (a ∷ []) h;
  within = starts_refl (turns ++ a ∷ []);
}

in_more : (first turns more : List ℕ) (c : Image) → RecoversWithin first turns c → RecoversWithin first (turns ++ more) c
in_more first turns more c r = record { found = r.found; recovers = r.recovers; begins = r.begins; within = starts_more turns r.found more r.within }

from_before : (first turns : List ℕ) (a : ℕ) (c : Image) (Before : Type 0) → StartsWith turns first → (Before → RecoversWithin first turns c)
    → Before ⊎ RecoversEither turns a c → RecoversWithin first (turns ++ a ∷ []) c
from_before first turns a c Before h old (inl b) = in_more first turns (a ∷ []) c (old b)
from_before first turns a c Before h old (inr r) = from_either first turns a c h r

-- what a crash may leave now it might have left at some moment of the call
pub either_now : (turns : List ℕ) (a : ℕ) (old new : DiskState) → IsCounted new → Ran (RecoversEither turns a) old new → new.told ≡ true → (c : Image)
    → (picked_file new).may_leave c → RecoversEither turns a c
either_now turns a old new counted ran told c left =
    let since = counted old.moment (name_or_none new.picked) c ran.moment left in
    (ran.leaves (sym ran.told ∙ told)).each c (subst (λ (p : Option (List ℕ)). new.left_since old.moment (name_or_none p) c) ran.picked since)

module _ {D : Type 0} (state : D → DiskState) where
  torn_rose : (old new : Journal D) (a : ℕ) (written : Result (Unit {0}) DiskFail) → Appended state a old new written → new.torn ≡ Some Failed
      → Rose (state old.disk).faults (state new.disk).faults
  torn_rose old new a (Ok u) n e = cc (n.ok.open_now, e)
  torn_rose old new a (Err f) n e = n.cause (let d : f ≡ Failed = same_Some f Failed (sym n.refused.torn_by ∙ e) in cc (d))

  tells_after : (old new : Journal D) (a : ℕ) (before after : List ℕ) (written : Result (Unit {0}) DiskFail) → Appended state a old new written
      → old.turns ≡ before → after ≡ before ++ a ∷ [] → IsJournalled after new.turns new.torn
  tells_after old new a before after (Ok u) n e d =
      subst (IsJournalled after new.turns) (sym n.ok.open_now) (n.ok.turns ∙ ap (λ (l : List ℕ). l ++ a ∷ []) e ∙ sym d)
  tells_after old new a before after (Err f) n e d =
      subst (IsJournalled after new.turns) (sym n.refused.torn_by)
      (a ∷ [], d ∙ ap (λ (l : List ℕ). l ++ a ∷ []) (sym e ∙ sym n.refused.turns))

  leaves_after : (old new : Journal D) (a : ℕ) (written : Result (Unit {0}) DiskFail) → Appended state a old new written
      → LeavesWithin new.turns (old.turns ++ a ∷ []) (state new.disk)
  leaves_after old new a (Ok u) n = λ told c left. record {
    found = new.turns;
    recovers = n.there told c left;
    begins = starts_refl new.turns;
    within = ([], sym n.ok.turns ∙ sym (append-nil new.turns));
  }
  leaves_after old new a (Err f) n =
      subst (λ (l : List ℕ). LeavesWithin l (old.turns ++ a ∷ []) (state new.disk)) (sym n.refused.turns)
      (λ told c left. from_either old.turns old.turns a c (starts_refl old.turns) (n.either told c left))

  since_after : (first : Opening) (old new : Journal D) (a : ℕ) (written : Result (Unit {0}) DiskFail) → Appended state a old new written
      → IsSince first old.turns (state old.disk) old.torn → StartsWith old.turns first.board.schedule
      → IsSince first (old.turns ++ a ∷ []) (state new.disk) new.torn
  since_after first old new a written n s h =
      let s0 = state old.disk in
      let s1 = state new.disk in
      record {
        told = n.ran.told ∙ s.told;
        picked = n.ran.picked ∙ s.picked;
        later = (let l = s.later in let m = n.ran.moment in omega arith);
        counted = (let l = s.counted in let m = n.ran.faults in omega arith);
        rose = λ e. rose_on first.faults s0.faults s1.faults s.counted (torn_rose old new a written n e);
        images = λ told c left.
            let was : s0.told ≡ true = sym n.ran.told ∙ told in
            let there = subst (λ (p : Option (List ℕ)). s1.left_since first.moment (name_or_none p) c) n.ran.picked left in
            from_before first.board.schedule old.turns a c (s0.left_since first.moment (name_or_none s0.picked) c) h (s.images was c)
            ((n.ran.leaves was).before first.moment c s.later there);
      }

module _ {A D : Type 0} where
  -- where the journal is not torn the tickets see the board itself
  pub shown_open : (x : Deck A D) → x.board.halted ≡ false → x.journal.torn ≡ None → shown x ≡ x.board
  shown_open x runs open_now =
      let same : is_some x.journal.torn ≡ x.board.halted = ap is_some open_now ∙ sym runs in
      λ i. record { state = x.board.state; schedule = x.board.schedule; halted = same i }

module _ {A D : Type 0} (state : D → DiskState) where
  -- ---- at the opening

  pub kept_first : (x : Deck A D) → IsOnlyNow (state x.journal.disk) → MayOpen state x → IsKept state (opening state x) x
  kept_first x now m =
      let s = state x.journal.disk in
      record {
        runs = m.runs;
        begins = starts_refl x.board.schedule;
        whole = m.whole;
        tells = subst (IsJournalled x.board.schedule x.journal.turns) (sym m.open_now) m.tells;
        leaves = λ told c left. record {
          found = x.journal.turns;
          recovers = all_recover x.journal.turns s (m.whole.file m.open_now) told c left;
          begins = starts_refl x.journal.turns;
          within = subst (λ (l : List ℕ). StartsWith x.board.schedule l) (sym m.tells) (starts_refl x.board.schedule);
        };
        since = record {
          told = refl;
          picked = refl;
          later = omega arith;
          counted = omega arith;
          rose = λ e. cc (e, m.open_now);
          images = λ told c left. record {
            found = x.journal.turns;
            recovers = all_recover x.journal.turns s (m.whole.file m.open_now) told c (now (name_or_none s.picked) c left);
            begins = subst (λ (l : List ℕ). StartsWith l x.board.schedule) (sym m.tells) (starts_refl x.board.schedule);
            within = subst (λ (l : List ℕ). StartsWith x.board.schedule l) (sym m.tells) (starts_refl x.board.schedule);
          };
        };
      }

  -- ---- after a turn

  kept_turn : (first : Opening) (x z : Deck A D) (a : ℕ) (turn : Turn) (written : Result (Unit {0}) DiskFail) → IsKept state first x
      → x.journal.torn ≡ None → Made (Some turn) x.board a z.board → z.board.halted ≡ x.board.halted → Appended state a x.journal z.journal written
      → IsKept state first z
  kept_turn first x z a turn written k open_now made halted n =
      let is = whole_turns x.board.schedule x.journal.turns x.journal.torn open_now k.tells in
      let more : x.journal.turns ++ a ∷ [] ≡ z.board.schedule = ap (λ (l : List ℕ). l ++ a ∷ []) is ∙ sym made.1 in
      let since = subst (λ (l : List ℕ). IsSince first l (state x.journal.disk) x.journal.torn) (sym is) k.since in
      let begins = subst (λ (l : List ℕ). StartsWith l first.board.schedule) (sym is) k.begins in
      record {
        runs = halted ∙ k.runs;
        begins =
            subst (λ (l : List ℕ). StartsWith l first.board.schedule) (sym made.1) (starts_more x.board.schedule first.board.schedule (a ∷ []) k.begins);
        whole = n.whole;
        tells = tells_after state x.journal z.journal a x.board.schedule z.board.schedule written n is made.1;
        leaves = subst (λ (l : List ℕ). LeavesWithin z.journal.turns l (state z.journal.disk)) more (leaves_after state x.journal z.journal a written n);
        since = subst (λ (l : List ℕ). IsSince first l (state z.journal.disk) z.journal.torn) more
            (since_after state first x.journal z.journal a written n since begins);
      }

  -- ---- without a turn

  kept_same : (first : Opening) (x z : Deck A D) → IsKept state first x → z.board.schedule ≡ x.board.schedule → z.board.halted ≡ x.board.halted
      → z.journal ≡ x.journal → IsKept state first z
  kept_same first x z k same halted j = record {
    runs = halted ∙ k.runs;
    begins = subst (λ (l : List ℕ). StartsWith l first.board.schedule) (sym same) k.begins;
    whole = subst (λ (i : Journal D). IsJournal (state i.disk) i.turns i.torn) (sym j) k.whole;
    tells = subst (λ (t : List ℕ × Journal D). IsJournalled t.0 t.1.turns t.1.torn) (λ i. (sym same i, sym j i)) k.tells;
    leaves = subst (λ (t : List ℕ × Journal D). LeavesWithin t.1.turns t.0 (state t.1.disk)) (λ i. (sym same i, sym j i)) k.leaves;
    since = subst (λ (t : List ℕ × Journal D). IsSince first t.0 (state t.1.disk) t.1.torn) (λ i. (sym same i, sym j i)) k.since;
  }

  pub kept_noted : (first : Opening) (x z : Deck A D) (a : ℕ) (made : Option Turn) (written : Result (Unit {0}) DiskFail) → IsKept state first x
      → x.journal.torn ≡ None → Made made x.board a z.board → z.board.halted ≡ x.board.halted → NotedIn state made a x.journal z.journal written
      → IsKept state first z
  kept_noted first x z a None written k open_now made halted n = kept_same first x z k made.1 halted n.0
  kept_noted first x z a (Some turn) written k open_now made halted n = kept_turn first x z a turn written k open_now made halted n
