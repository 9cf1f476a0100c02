-- How what a crash may leave goes on from call to call.
use Rattle.std.proofs.Common.{inl, inr, ⊎_elim, ◌≡◌, ◌≤◌, ◌⊎◌, ℕ, true, refl, ◌∙◌, ap, subst, arith}
use Rattle.mas_record_disk.specs.Disk.{Image, DiskState}
use Rattle.mas_record_disk.specs.Calls.{name_or_none, picked_file}
use Rattle.mas_record_disk.specs.PastDisk.{IsOnlyNow}
use Rattle.mas_record_journal.specs.Moments.{Ran}

-- before the first call
pub begun : (P : Image → Type 0) (s : DiskState) → IsOnlyNow s → (s.told ≡ true → (c : Image) → (picked_file s).may_leave c → P c) → Ran P s s
begun P s now has = record {
  told = refl;
  picked = refl;
  faults = omega arith;
  moment = omega arith;
  leaves = λ told. record { each = λ c left. has told c (now (name_or_none s.picked) c left); before = λ t c le left. inl left };
}

-- some calls, and then some more
pub went_on : (P Q R : Image → Type 0) (old mid new : DiskState) → Ran P old mid → Ran Q mid new
    → (old.told ≡ true → (c : Image) → P c → R c) → (old.told ≡ true → (c : Image) → Q c → R c) → Ran R old new
went_on P Q R old mid new first second p q =
    record {
      told = second.told ∙ first.told;
      picked = second.picked ∙ first.picked;
      faults = omega (arith, first.faults, second.faults);
      moment = omega (arith, first.moment, second.moment);
      leaves = λ told.
          let one = first.leaves told in
          let two = second.leaves (first.told ∙ told) in
          let same : name_or_none mid.picked ≡ name_or_none old.picked = ap name_or_none first.picked in
          let later : (t : ℕ) (c : Image) → t ≤ mid.moment → new.left_since t (name_or_none old.picked) c
          → mid.left_since t (name_or_none old.picked) c ⊎ Q c =
          subst (λ n. (t : ℕ) (c : Image) → t ≤ mid.moment → new.left_since t n c → mid.left_since t n c ⊎ Q c) same two.before in
          record {
            each = λ c left. ⊎_elim (λ l. p told c (one.each c l)) (q told c) (later old.moment c first.moment left);
            before = λ t c le left.
                ⊎_elim (λ l. ⊎_elim inl (λ x. inr (p told c x)) (one.before t c le l)) (λ x. inr (q told c x)) (later t c (omega (arith, le, first.moment)) left);
          };
    }

-- what has P has R
pub weaker : (P R : Image → Type 0) (old new : DiskState) → Ran P old new → (old.told ≡ true → (c : Image) → P c → R c) → Ran R old new
weaker P R old new ran p = record {
  told = ran.told;
  picked = ran.picked;
  faults = ran.faults;
  moment = ran.moment;
  leaves = λ told. record {
    each = λ c left. p told c ((ran.leaves told).each c left);
    before = λ t c le left. ⊎_elim inl (λ x. inr (p told c x)) ((ran.leaves told).before t c le left);
  };
}
