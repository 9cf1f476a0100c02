-- What is left on wires.
use Rattle.std.proofs.Common.{ℕ, ◌≡◌, ◌≢◌, ◌+◌, ◌<◌, ◌⊎◌, inl, inr, arith, Bool, not, List, [], ◌∷◌, ◌++◌, append-nil, length, map, reverse, slice_get, Some, ap, sym, ◌∙◌, subst}
use Rattle.std.proofs.lemmas.List.{length-map, length-append, length-reverse, reverse-reverse}
use Rattle.std.proofs.lemmas.Option.{same_Some, slice_get_within}
use Rattle.mas_mind.specs.declared.mind.Message.{Message}
use Rattle.mas_sites_scripts.proofs.Changes.{same_or}
use Rattle.mas_sites_wire.specs.declared.wire.Log.{Log}
use Rattle.mas_sites_wire.specs.declared.wire.Wire.{Wire}
use Rattle.mas_sites_wire.specs.declared.wire.WireEnd.{WireEnd}
use Rattle.mas_sites_wire.specs.Ends.{IsEndOf, log_of}
use Rattle.mas_sites_wire.specs.Wires.{whole, AreFrom}
use Rattle.mas_sites_wire.specs.Lines.{IsHere, AreHere, others}
use Rattle.mas_sites_wire.proofs.Calls.{map_get}
use Rattle.mas_sites_wire.specs.declared.left.WireParts.{WireParts}
use Rattle.mas_sites_wire.specs.Lefts.{IsLeft, AreLeft, firsts, seconds}
use Rattle.mas_sites_wire.proofs.Openings.{get_before, get_last, push_length, below_by}

-- ---- one wire

-- the whole end of a wire from which these messages were got last
pub record HasLeft (wire : Wire) (end : WireEnd) (sender agents : ℕ) (put got left : List Message) : Type 0 where
  pub end_of : IsEndOf wire end
  pub log : log_of end ≡ whole sender agents put (got ++ left)
  pub from : AreFrom sender agents left

-- ---- wire by wire

-- of the first n
pub record AreLeftOf (n : ℕ) (here : List Bool) (one two : List Log) (ways : List (List Message)) : Type 0 where
  pub number : length ways ≡ n
  pub each : (i : ℕ) (b : Bool) (v w : Log) (way : List Message) → slice_get here i ≡ Some b → slice_get one i ≡ Some v → slice_get two i ≡ Some w →
      slice_get ways i ≡ Some way → IsLeft (length here) (i + 1) b v w way

module _ (n : ℕ) (here : List Bool) (one two : List Log) (ways : List (List Message)) (way : List Message) (b : Bool) (v w : Log) (h : AreLeftOf n here one two ways)
    (b_is : slice_get here n ≡ Some b) (v_is : slice_get one n ≡ Some v) (w_is : slice_get two n ≡ Some w) (left : IsLeft (length here) (n + 1) b v w way) where
  each_by : (i : ℕ) (c : Bool) (x y : Log) (z : List Message) → slice_get here i ≡ Some c → slice_get one i ≡ Some x → slice_get two i ≡ Some y → slice_get (ways ++ way ∷ []) i ≡ Some z →
      (i ≡ n) ⊎ (i ≢ n) → IsLeft (length here) (i + 1) c x y z
  each_by i c x y z p q r s (inl e) =
      let P : ℕ × (Bool × (Log × (Log × List Message))) → Type 0 = λ t. IsLeft (length here) (t.0 + 1) t.1.0 t.1.1.0 t.1.1.1.0 t.1.1.1.1 in
      let c_is : b ≡ c = same_Some b c (sym b_is ∙ ap (slice_get here) (sym e) ∙ p) in
      let x_is : v ≡ x = same_Some v x (sym v_is ∙ ap (slice_get one) (sym e) ∙ q) in
      let y_is : w ≡ y = same_Some w y (sym w_is ∙ ap (slice_get two) (sym e) ∙ r) in
      let z_is : way ≡ z = same_Some way z (sym (get_last ways way n h.number) ∙ ap (slice_get (ways ++ way ∷ [])) (sym e) ∙ s) in
      subst P (λ k. (sym e k, (c_is k, (x_is k, (y_is k, z_is k))))) left
  each_by i c x y z p q r s (inr d) =
      let m = slice_get_within (ways ++ way ∷ []) i z s in
      let one_more = push_length ways way n h.number in
      let l : i < length ways = below_by i n (length ways) d (omega (arith, m, one_more)) h.number in
      h.each i c x y z p q r (sym (get_before ways way i l) ∙ s)

  pub left_more : (new : List (List Message)) → new ≡ ways ++ way ∷ [] → AreLeftOf (n + 1) here one two new
  left_more new e =
      let P : List (List Message) → Type 0 = λ t. AreLeftOf (n + 1) here one two t in
      subst P (sym e) (record { number = push_length ways way n h.number; each = λ i c x y z p q r s. each_by i c x y z p q r s (same_or i n) })

pub all_left : (n : ℕ) (here : List Bool) (one two : List Log) (ways : List (List Message)) → AreLeftOf n here one two ways → n ≡ length here → AreLeft here one two ways
all_left n here one two ways h e = record { number = h.number ∙ e; each = h.each }

-- ---- the ends of a wire

module _ (wires : List Wire) (here : List Bool) (all : List (WireParts WireEnd)) (h : AreHere wires (firsts all) here) (g : AreHere wires (seconds all) (others here)) (i : ℕ) (x : WireParts WireEnd) (w : Wire) (b : Bool)
    (x_is : slice_get all i ≡ Some x) (w_is : slice_get wires i ≡ Some w) (b_is : slice_get here i ≡ Some b) where
  first_is : slice_get (firsts all) i ≡ Some x.one
  first_is = map_get (λ (p : WireParts WireEnd). p.one) all i x x_is

  second_is : slice_get (seconds all) i ≡ Some x.two
  second_is = map_get (λ (p : WireParts WireEnd). p.two) all i x x_is

  first : IsHere (length wires) (i + 1) w x.one b
  first = h.each i w x.one b w_is first_is b_is

  second : IsHere (length wires) (i + 1) w x.two (not b)
  second = g.each i w x.two (not b) w_is second_is (map_get not here i b b_is)

  pub one_named : IsHere (log_of x.one).agents (log_of x.one).sender w x.one b
  one_named =
      let P : ℕ × ℕ → Type 0 = λ t. IsHere t.0 t.1 w x.one b in
      subst P (λ k. (sym first.to k, sym first.from k)) first

  pub two_named : IsHere (log_of x.one).agents (log_of x.one).sender w x.two (not b)
  two_named =
      let P : ℕ × ℕ → Type 0 = λ t. IsHere t.0 t.1 w x.two (not b) in
      subst P (λ k. (sym first.to k, sym first.from k)) second

  left_here : (way : List Message) → IsLeft (log_of x.one).agents (log_of x.one).sender b (log_of x.one) (log_of x.two) way → IsLeft (length here) (i + 1) b (log_of x.one) (log_of x.two) way
  left_here way l =
      let P : ℕ × ℕ → Type 0 = λ t. IsLeft t.0 t.1 b (log_of x.one) (log_of x.two) way in
      let agents : (log_of x.one).agents ≡ length here = first.to ∙ sym h.puts_are in
      subst P (λ k. (agents k, first.from k)) l

  pub left_next : (ways new : List (List Message)) (way : List Message) → AreLeftOf i here (map log_of (firsts all)) (map log_of (seconds all)) ways →
      IsLeft (log_of x.one).agents (log_of x.one).sender b (log_of x.one) (log_of x.two) way → new ≡ ways ++ way ∷ [] →
      AreLeftOf (i + 1) here (map log_of (firsts all)) (map log_of (seconds all)) new
  left_next ways new way s l e =
      left_more i here (map log_of (firsts all)) (map log_of (seconds all)) ways way b (log_of x.one) (log_of x.two) s b_is (map_get log_of (firsts all) i x.one first_is)
      (map_get log_of (seconds all) i x.two second_is) (left_here way l) new e

-- all pairs are as many as the wires
pub pairs_number : (wires : List Wire) (here : List Bool) (all : List (WireParts WireEnd)) → AreHere wires (firsts all) here → length all ≡ length wires
pairs_number wires here all h = sym (length-map all (λ (p : WireParts WireEnd). p.one)) ∙ h.ends_are

-- ---- how the pairs are made

-- so many are made, and what is still to come is the other list from its end
pub record ArePaired {X : Type 0} (all : List (WireParts X)) (one left two : List X) : Type 0 where
  pub firsts_are : firsts all ≡ one
  pub seconds_are : seconds all ++ reverse left ≡ two

pub none_paired : {X : Type 0} (all : List (WireParts X)) (left two : List X) → all ≡ [] → left ≡ reverse two → ArePaired all [] left two
none_paired all left two n e = record { firsts_are = ap firsts n; seconds_are = ap (λ t. seconds t ++ reverse left) n ∙ ap reverse e ∙ reverse-reverse two }

pub number_paired : {X : Type 0} (all : List (WireParts X)) (one left two : List X) → ArePaired all one left two → length one + length left ≡ length two
number_paired {X} all one left two h =
    let a = length-map all (λ (p : WireParts X). p.one) in
    let b = length-map all (λ (p : WireParts X). p.two) in
    let c : length (firsts all) ≡ length one = ap length h.firsts_are in
    let d = length-append (seconds all) (reverse left) in
    let e = length-reverse left in
    let f : length (seconds all ++ reverse left) ≡ length two = ap length h.seconds_are in
    omega (arith, a, b, c, d, e, f)

-- nothing is put behind a list that is as long as before
none_behind : {X : Type 0} (xs ys : List X) → length ys ≡ 0 → xs ++ ys ≡ xs
none_behind xs [] e = append-nil xs
none_behind xs (y ∷ ys) e = absurd (omega (arith, e))

pub all_paired : {X : Type 0} (all : List (WireParts X)) (one whole left two : List X) → ArePaired all one left two → one ≡ whole → length whole ≡ length two → (firsts all ≡ whole) × (seconds all ≡ two)
all_paired all one whole left two h e n =
    let m = number_paired all one left two h in
    let k : length one ≡ length whole = ap length e in
    let r = length-reverse left in
    let none : length (reverse left) ≡ 0 = omega (arith, m, n, k, r) in
    (h.firsts_are ∙ e, sym (none_behind (seconds all) (reverse left) none) ∙ h.seconds_are)

-- ---- the same of the two lists

pub ends_number : (wires : List Wire) (here : List Bool) (one two : List WireEnd) → AreHere wires one here → AreHere wires two (others here) → length one ≡ length two
ends_number wires here one two h g = h.ends_are ∙ sym g.ends_are

module _ (wires : List Wire) (here : List Bool) (one two : List WireEnd) (all : List (WireParts WireEnd)) (e : (firsts all ≡ one) × (seconds all ≡ two)) where
  pub firsts_here : AreHere wires one here → AreHere wires (firsts all) here
  firsts_here h = subst (λ t. AreHere wires t here) (sym e.0) h

  pub seconds_here : AreHere wires two (others here) → AreHere wires (seconds all) (others here)
  seconds_here h = subst (λ t. AreHere wires t (others here)) (sym e.1) h

  pub left_of_pairs : (ways : List (List Message)) → AreLeft here (map log_of (firsts all)) (map log_of (seconds all)) ways → AreLeft here (map log_of one) (map log_of two) ways
  left_of_pairs ways l =
      let P : List WireEnd × List WireEnd → Type 0 = λ t. AreLeft here (map log_of t.0) (map log_of t.1) ways in
      subst P (λ k. (e.0 k, e.1 k)) l
