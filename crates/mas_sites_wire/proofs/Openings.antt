-- New wires, parted between the sites.
use Rattle.std.proofs.Common.{ℕ, zero, suc, ◌≡◌, ◌≢◌, ◌+◌, ◌<◌, ◌≤◌, ◌⊎◌, inl, inr, arith, Bool, true, false, not, if◌then◌else◌, List, [], ◌∷◌, ◌++◌, length, map, slice_get, Some, refl, ap, sym, ◌∙◌, subst}
use Rattle.std.proofs.lemmas.List.{length-append, length-map}
use Rattle.std.proofs.lemmas.Option.{same_Some, slice_get_within}
use Rattle.mas_sites_scripts.proofs.Changes.{same_or}
use Rattle.mas_sites_wire.specs.declared.wire.Log.{Log}
use Rattle.mas_sites_wire.specs.declared.wire.Wire.{Wire}
use Rattle.mas_sites_wire.specs.declared.wire.WireEnd.{WireEnd}
use Rattle.mas_sites_wire.specs.Ends.{IsEndOf, log_of}
use Rattle.mas_sites_wire.specs.Wires.{putting, getting}
use Rattle.mas_sites_wire.specs.Lines.{IsHere, AreHere, AreBlank, others}
use Rattle.mas_sites_wire.proofs.Calls.{item_at, map_get}

-- ---- lists with one more item

pub get_before : {X : Type 0} (xs : List X) (x : X) (j : ℕ) → j < length xs → slice_get (xs ++ x ∷ []) j ≡ slice_get xs j
get_before [] x j l = absurd (omega arith)
get_before (y ∷ xs) x zero l = refl
get_before (y ∷ xs) x (suc j) l = get_before xs x j (omega (arith, l))

get_end : {X : Type 0} (xs : List X) (x : X) → slice_get (xs ++ x ∷ []) (length xs) ≡ Some x
get_end [] x = refl
get_end (y ∷ xs) x = get_end xs x

pub get_last : {X : Type 0} (xs : List X) (x : X) (i : ℕ) → length xs ≡ i → slice_get (xs ++ x ∷ []) i ≡ Some x
get_last xs x i n = ap (slice_get (xs ++ x ∷ [])) (sym n) ∙ get_end xs x

pub push_length : {X : Type 0} (xs : List X) (x : X) (i : ℕ) → length xs ≡ i → length (xs ++ x ∷ []) ≡ i + 1
push_length xs x i n = let e = length-append xs (x ∷ []) in omega (arith, e, n)

lt_or : (j i : ℕ) → (j < i) ⊎ (i ≤ j)
lt_or zero zero = inr (omega arith)
lt_or zero (suc i) = inl (omega arith)
lt_or (suc j) zero = inr (omega arith)
lt_or (suc j) (suc i) = elim (lt_or j i) [
  | inl l ↦ inl (omega (arith, l))
  | inr l ↦ inr (omega (arith, l))
]

pub below_by : (j i n : ℕ) → j ≢ i → j < i + 1 → n ≡ i → j < n
below_by j i n d l e = elim (lt_or j i) [
  | inl m ↦ omega (arith, m, e)
  | inr m ↦ absurd (d (omega (arith, l, m)))
]

-- ---- new ends

-- one that puts, or one that gets
abbrev part_of : Bool → ℕ → ℕ → Log
part_of true number agents = putting number agents []
part_of false number agents = getting number agents []

pub record IsNew (agents number : ℕ) (wire : Wire) (end : WireEnd) (puts : Bool) : Type 0 where
  pub end_of : IsEndOf wire end
  pub log : log_of end ≡ part_of puts number agents

pub record AreNew (agents : ℕ) (wires : List Wire) (ends : List WireEnd) (puts : List Bool) : Type 0 where
  pub ends_are : length ends ≡ length wires
  pub each : (i : ℕ) (w : Wire) (e : WireEnd) (b : Bool) → slice_get wires i ≡ Some w → slice_get ends i ≡ Some e → slice_get puts i ≡ Some b → IsNew agents (i + 1) w e b

module _ (agents i : ℕ) (wires : List Wire) (ends : List WireEnd) (puts : List Bool) (w : Wire) (e : WireEnd) (b : Bool) (n : length wires ≡ i) (h : AreNew agents wires ends puts)
    (is : slice_get puts i ≡ Some b) (new : IsNew agents (i + 1) w e b) where
  each_by : (j : ℕ) (x : Wire) (y : WireEnd) (c : Bool) → slice_get (wires ++ w ∷ []) j ≡ Some x → slice_get (ends ++ e ∷ []) j ≡ Some y → slice_get puts j ≡ Some c → (j ≡ i) ⊎ (j ≢ i) →
      IsNew agents (j + 1) x y c
  each_by j x y c p q r (inl s) =
      let P : ℕ × (Wire × (WireEnd × Bool)) → Type 0 = λ t. IsNew agents (t.0 + 1) t.1.0 t.1.1.0 t.1.1.1 in
      let wire : w ≡ x = same_Some w x (sym (get_last wires w i n) ∙ ap (slice_get (wires ++ w ∷ [])) (sym s) ∙ p) in
      let end : e ≡ y = same_Some e y (sym (get_last ends e i (h.ends_are ∙ n)) ∙ ap (slice_get (ends ++ e ∷ [])) (sym s) ∙ q) in
      let may : b ≡ c = same_Some b c (sym is ∙ ap (slice_get puts) (sym s) ∙ r) in
      subst P (λ k. (sym s k, (wire k, (end k, may k)))) new
  each_by j x y c p q r (inr d) =
      let m = slice_get_within (wires ++ w ∷ []) j x p in
      let one = push_length wires w i n in
      let l : j < length wires = below_by j i (length wires) d (omega (arith, m, one)) n in
      let f = h.ends_are in
      h.each j x y c (sym (get_before wires w j l) ∙ p) (sym (get_before ends e j (omega (arith, l, f))) ∙ q) r

  new_on : AreNew agents (wires ++ w ∷ []) (ends ++ e ∷ []) puts
  new_on = record {
    ends_are = push_length ends e i (h.ends_are ∙ n) ∙ sym (push_length wires w i n);
    each = λ j x y c p q r. each_by j x y c p q r (same_or j i);
  }

-- ---- the loop

pub record AreParted (agents i : ℕ) (wires : List Wire) (one two : List WireEnd) (here : List Bool) : Type 0 where
  pub number : length wires ≡ i
  pub one_new : AreNew agents wires one here
  pub two_new : AreNew agents wires two (others here)

one_part : (agents number : ℕ) (w : Wire) (puts gets : WireEnd) (b : Bool) → IsNew agents number w puts true → IsNew agents number w gets false → IsNew agents number w (if b then puts else gets) b
one_part agents number w puts gets true p q = p
one_part agents number w puts gets false p q = q

two_part : (agents number : ℕ) (w : Wire) (puts gets : WireEnd) (b : Bool) → IsNew agents number w puts true → IsNew agents number w gets false → IsNew agents number w (if b then gets else puts) (not b)
two_part agents number w puts gets true p q = q
two_part agents number w puts gets false p q = p

module _ (agents i : ℕ) (wires new_wires : List Wire) (one two new_one new_two : List WireEnd) (here : List Bool) (w : Wire) (puts gets : WireEnd) (b : Bool) (h : AreParted agents i wires one two here)
    (is : slice_get here i ≡ Some b) (ends : IsEndOf w puts × IsEndOf w gets) (p : log_of puts ≡ putting (i + 1) agents []) (q : log_of gets ≡ getting (i + 1) agents []) where
  puts_new : IsNew agents (i + 1) w puts true
  puts_new = record { end_of = ends.0; log = p }

  gets_new : IsNew agents (i + 1) w gets false
  gets_new = record { end_of = ends.1; log = q }

  parted : AreParted agents (i + 1) (wires ++ w ∷ []) (one ++ (if b then puts else gets) ∷ []) (two ++ (if b then gets else puts) ∷ []) here
  parted = record {
    number = push_length wires w i h.number;
    one_new = new_on agents i wires one here w (if b then puts else gets) b h.number h.one_new is (one_part agents (i + 1) w puts gets b puts_new gets_new);
    two_new =
        new_on agents i wires two (others here) w (if b then gets else puts) (not b) h.number h.two_new (map_get not here i b is) (two_part agents (i + 1) w puts gets b puts_new gets_new);
  }

  pub parted_on : new_wires ≡ wires ++ w ∷ [] → new_one ≡ one ++ (if b then puts else gets) ∷ [] → new_two ≡ two ++ (if b then gets else puts) ∷ [] → AreParted agents (i + 1) new_wires new_one new_two here
  parted_on e f g =
      let P : List Wire × (List WireEnd × List WireEnd) → Type 0 = λ t. AreParted agents (i + 1) t.0 t.1.0 t.1.1 here in
      subst P (λ k. (sym e k, (sym f k, sym g k))) parted

-- ---- all wires

is_here_by : (agents number : ℕ) (w : Wire) (e : WireEnd) (b : Bool) → IsNew agents number w e b → IsHere agents number w e b
is_here_by agents number w e true h = record {
  end_of = h.end_of;
  from = ap (λ (x : Log). x.sender) h.log;
  to = ap (λ (x : Log). x.agents) h.log;
  putting = ap (λ (x : Log). x.puts) h.log;
  getting = ap (λ (x : Log). x.gets) h.log;
}
is_here_by agents number w e false h = record {
  end_of = h.end_of;
  from = ap (λ (x : Log). x.sender) h.log;
  to = ap (λ (x : Log). x.agents) h.log;
  putting = ap (λ (x : Log). x.puts) h.log;
  getting = ap (λ (x : Log). x.gets) h.log;
}

is_blank_by : (agents number : ℕ) (w : Wire) (e : WireEnd) (b : Bool) → IsNew agents number w e b → ((log_of e).put ≡ []) × ((log_of e).got ≡ [])
is_blank_by agents number w e true h = (ap (λ (x : Log). x.put) h.log, ap (λ (x : Log). x.got) h.log)
is_blank_by agents number w e false h = (ap (λ (x : Log). x.put) h.log, ap (λ (x : Log). x.got) h.log)

module _ (agents : ℕ) (wires : List Wire) (ends : List WireEnd) (puts : List Bool) (h : AreNew agents wires ends puts) (n : length wires ≡ agents) (m : length puts ≡ agents) where
  pub are_here : AreHere wires ends puts
  are_here = record {
    ends_are = h.ends_are;
    puts_are = m ∙ sym n;
    each = λ i w e b p q r. subst (λ t. IsHere t (i + 1) w e b) (sym n) (is_here_by agents (i + 1) w e b (h.each i w e b p q r));
  }

  pub are_blank : AreBlank (map log_of ends)
  are_blank i v s =
      let f = h.ends_are in
      let l = slice_get_within (map log_of ends) i v s in
      let k : length (map log_of ends) ≡ length ends = length-map ends log_of in
      let e = item_at ends i (omega (arith, l, k)) in
      let w = item_at wires i (omega (arith, l, k, f)) in
      let b = item_at puts i (omega (arith, l, k, f, n, m)) in
      let same : log_of e.0 ≡ v = same_Some (log_of e.0) v (sym (map_get log_of ends i e.0 e.1) ∙ s) in
      subst (λ (x : Log). (x.put ≡ []) × (x.got ≡ [])) same (is_blank_by agents (i + 1) w.0 e.0 b.0 (h.each i w.0 e.0 b.0 w.1 e.1 b.1))
