-- A number at the front of bytes: what is read is what `decimal` writes, and that is read.
use Rattle.std.proofs.Common.{ℕ, zero, suc, ◌≡◌, ◌+◌, ◌*◌, ◌-◌, ◌/◌, ◌%◌, ◌<◌, ◌≤◌, ◌^◌, arith, Bool, true, false, nat_le, ◌&&◌, List, [], ◌∷◌, ◌++◌, Option, None, Some, refl, ap, sym, ◌∙◌, append_assoc, append-nil, decimal, if◌then◌else◌}
use Rattle.std.specs.Option.{option_and_then}
use Rattle.std.proofs.lemmas.Grind.{common_steps}
use Rattle.std.proofs.lemmas.Option.{cond_some, some_pair_parts}
use Rattle.std.proofs.lemmas.Fmt.{decimal_by_steps, decimal_digit, decimal_step}
use Rattle.mas_report_schedule.specs.inner.Scanning.{is_digit, with_digit, ended, number_from}

pub pick : {X : Type 0} (b : Bool) (x y : X) → b ≡ true → (if b then x else y) ≡ x
pick b x y e = ap (λ c. if c then x else y) e

pub pass : {X : Type 0} (b : Bool) (x y : X) → b ≡ false → (if b then x else y) ≡ y
pass b x y e = ap (λ c. if c then x else y) e

-- no digit is at the front
abbrev pub NoDigit : List ℕ → Type 0
NoDigit [] = Unit {0}
NoDigit (b ∷ bytes) = is_digit b ≡ false

-- a number from 1 to the most is at the front, and this is behind its last digit
pub record IsNumber (most : ℕ) (bytes : List ℕ) (n : ℕ) (behind : List ℕ) : Type 0 where
  pub some : 0 < n
  pub within : n ≤ most
  pub is : bytes ≡ decimal n ++ behind
  pub ends : NoDigit behind

-- ---- what is read

-- the digits of a number that are read; none are at first
abbrev written : ℕ → List ℕ
written zero = []
written (suc n) = decimal (suc n)

record IsDigit (most n b m : ℕ) : Type 0 where
  low : 48 ≤ b
  high : b ≤ 57
  value : m ≡ n * 10 + (b - 48)
  some : 0 < m
  within : m ≤ most

digit_is : (most n b m : ℕ) → is_digit b ≡ true → with_digit most n b ≡ Some m → IsDigit most n b m
digit_is most n b m d e =
    let h = cond_some _ _ _ e in
    record {
      low = grind (arith, common_steps, d);
      high = grind (arith, common_steps, d);
      value = sym h.1;
      some = grind (arith, common_steps, h.0, h.1);
      within = grind (arith, common_steps, h.0, h.1);
    }

written_is : (n : ℕ) → 0 < n → written n ≡ decimal n
written_is zero h = absurd (omega arith)
written_is (suc n) h = refl

more_written : (most n b m : ℕ) → most < 2 ^ 64 → IsDigit most n b m → written n ++ b ∷ [] ≡ written m
more_written most zero b m l d =
    let one : b ≡ 48 + m = omega arith in
    let few : m < 10 = omega arith in
    ap (λ x. x ∷ []) one ∙ sym (decimal_digit m few) ∙ sym (written_is m d.some)
more_written most (suc n) b m l d =
    let many : 10 ≤ m = omega arith in
    let small : m < 2 ^ 64 = omega arith in
    let front : suc n ≡ m / 10 = omega arith in
    let last : b ≡ 48 + m % 10 = omega arith in
    ap (λ x. decimal x ++ b ∷ []) front ∙ ap (λ x. decimal (m / 10) ++ x ∷ []) last ∙ sym (decimal_step m many small) ∙ sym (written_is m d.some)

-- no digit follows
module _ (most n : ℕ) (rest : List ℕ) (v : ℕ) (behind : List ℕ) (w : n ≤ most) where
  read_end : NoDigit rest → (0 < n) × (n ≡ v) × (rest ≡ behind) → IsNumber most (written n ++ rest) v behind
  read_end d h = record {
    some = omega (arith, h.0, h.1);
    within = omega (arith, h.1);
    is = ap (λ x. x ++ rest) (written_is n h.0) ∙ ap (λ x. decimal x ++ rest) h.1 ∙ ap (λ x. decimal v ++ x) h.2;
    ends = ends_as rest behind h.2 d;
  }
    where
      ends_as : (x y : List ℕ) → x ≡ y → NoDigit x → NoDigit y
      ends_as [] [] e d = tt
      ends_as [] (b ∷ y) e d = absurd cc
      ends_as (b ∷ x) [] e d = tt
      ends_as (b ∷ x) (c ∷ y) e d = ap is_digit (let f : c ≡ b = cc in f) ∙ d

ended_is : (n : ℕ) (rest : List ℕ) (v : ℕ) (behind : List ℕ) → ended n rest ≡ Some (v, behind) → (0 < n) × (n ≡ v) × (rest ≡ behind)
ended_is zero rest v behind e = cc
ended_is (suc n) rest v behind e = let p = some_pair_parts (suc n) v rest behind e in (omega arith, p.0, p.1)

-- one byte more
module _ (most n b : ℕ) (bytes : List ℕ) (v : ℕ) (behind : List ℕ) (l : most < 2 ^ 64) (w : n ≤ most) where
  abbrev Goal : Type 0
  Goal = IsNumber most (written n ++ b ∷ bytes) v behind

  read_on : ((m : ℕ) → m ≤ most → number_from most m bytes ≡ Some (v, behind) → IsNumber most (written m ++ bytes) v behind)
      → is_digit b ≡ true → (m : Option ℕ) → with_digit most n b ≡ m → option_and_then (λ m. number_from most m bytes) m ≡ Some (v, behind) → Goal
  read_on again g None t e = cc
  read_on again g (Some m) t e =
      let d = digit_is most n b m g t in
      let r = again m d.within e in
      record {
        some = r.some;
        within = r.within;
        is = sym (append_assoc (written n) (b ∷ []) bytes) ∙ ap (λ x. x ++ bytes) (more_written most n b m l d) ∙ r.is;
        ends = r.ends;
      }

  read_byte : ((m : ℕ) → m ≤ most → number_from most m bytes ≡ Some (v, behind) → IsNumber most (written m ++ bytes) v behind)
      → (x : Bool) → is_digit b ≡ x
      → (if x then option_and_then (λ m. number_from most m bytes) (with_digit most n b) else ended n (b ∷ bytes)) ≡ Some (v, behind) → Goal
  read_byte again true t e = read_on again t (with_digit most n b) refl e
  read_byte again false t e = read_end most n (b ∷ bytes) v behind w t (ended_is n (b ∷ bytes) v behind e)

read_from : (most n : ℕ) (bytes : List ℕ) (v : ℕ) (behind : List ℕ) → most < 2 ^ 64 → n ≤ most
    → number_from most n bytes ≡ Some (v, behind) → IsNumber most (written n ++ bytes) v behind
read_from most n [] v behind l w e = read_end most n [] v behind w tt (ended_is n [] v behind e)
read_from most n (b ∷ bytes) v behind l w e =
    read_byte most n b bytes v behind l w (λ m j f. read_from most m bytes v behind l j f) (is_digit b) refl e

pub number_is : (most : ℕ) (bytes : List ℕ) (v : ℕ) (behind : List ℕ) → most < 2 ^ 64 → number_from most 0 bytes ≡ Some (v, behind) → IsNumber most bytes v behind
number_is most bytes v behind l e = read_from most 0 bytes v behind l (omega arith) e

-- ---- what is written

digit_at : (d : ℕ) → d < 10 → is_digit (48 + d) ≡ true
digit_at d l = grind (arith, common_steps)

allowed : (most n d : ℕ) → 0 < n * 10 + d → n * 10 + d ≤ most → (nat_le 1 (n * 10 + (48 + d - 48)) && nat_le (n * 10 + (48 + d - 48)) most) ≡ true
allowed most n d s w = grind (arith, common_steps)

one_more : (most n d : ℕ) → 0 < n * 10 + d → n * 10 + d ≤ most → with_digit most n (48 + d) ≡ Some (n * 10 + d)
one_more most n d s w =
    let e : 48 + d - 48 ≡ d = omega arith in
    pick _ _ _ (allowed most n d s w) ∙ ap (λ x. Some (n * 10 + x)) e

step : (most n d m : ℕ) (rest : List ℕ) → d < 10 → m ≡ n * 10 + d → 0 < m → m ≤ most → number_from most n ((48 + d) ∷ rest) ≡ number_from most m rest
step most n d m rest t e s w =
    pick (is_digit (48 + d)) _ _ (digit_at d t)
    ∙ ap (option_and_then (λ m. number_from most m rest)) (one_more most n d (omega arith) (omega arith))
    ∙ ap (λ m. number_from most m rest) (sym e)

module _ (most : ℕ) where
  abbrev Reads : ℕ → List ℕ → Type 0
  Reads n ds = (rest : List ℕ) → 0 < n → n ≤ most → number_from most 0 (ds ++ rest) ≡ number_from most n rest

  read_one : (n : ℕ) → n < 10 → Reads n ((48 + n) ∷ [])
  read_one n t rest s w = step most 0 n n rest t (omega arith) s w

  read_more : (n : ℕ) (ds : List ℕ) → 10 ≤ n → Reads (n / 10) ds → Reads n (ds ++ ((48 + n % 10) ∷ []))
  read_more n ds t h rest s w =
      ap (number_from most 0) (append_assoc ds ((48 + n % 10) ∷ []) rest)
      ∙ h ((48 + n % 10) ∷ rest) (omega arith) (omega arith)
      ∙ step most (n / 10) (n % 10) n rest (omega arith) (omega arith) s w

  read_decimal : (n : ℕ) → n < 2 ^ 64 → Reads n (decimal n)
  read_decimal n t = decimal_by_steps Reads read_one read_more n t

ended_some : (n : ℕ) (behind : List ℕ) → 0 < n → ended n behind ≡ Some (n, behind)
ended_some zero behind h = absurd (omega arith)
ended_some (suc n) behind h = refl

read_whole : (most n : ℕ) (behind : List ℕ) → 0 < n → NoDigit behind → number_from most n behind ≡ Some (n, behind)
read_whole most n [] s d = ended_some n [] s
read_whole most n (b ∷ behind) s d = pass (is_digit b) _ _ d ∙ ended_some n (b ∷ behind) s

pub number_read : (most n : ℕ) (bytes behind : List ℕ) → most < 2 ^ 64 → IsNumber most bytes n behind → number_from most 0 bytes ≡ Some (n, behind)
number_read most n bytes behind m h =
    let small : n < 2 ^ 64 = omega (arith, h.within) in
    ap (number_from most 0) h.is
    ∙ read_decimal most n small behind h.some h.within
    ∙ read_whole most n behind h.some h.ends
