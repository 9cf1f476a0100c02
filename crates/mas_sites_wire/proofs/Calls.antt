-- A call on one of the ends, and what it knows then.
use Rattle.std.proofs.Common.{ℕ, zero, suc, ◌≡◌, ◌≢◌, ◌+◌, ◌-◌, ◌<◌, ◌⊎◌, inl, inr, arith, Bool, true, false, if◌then◌else◌, List, [], ◌∷◌, length, map, slice_get, slice_set, Option, None, Some, refl, ap, sym, ◌∙◌, subst}
use Rattle.std.specs.declared.result.Result.{Result}
use Rattle.std.specs.declared.result.Result.TheVariants.{Ok, Err}
use Rattle.std.specs.Option.{option_map}
use Rattle.std.specs.Prelude.{OnOk, OnErr}
use Rattle.std.proofs.lemmas.List.{length-set, map-set}
use Rattle.std.proofs.lemmas.Option.{same_Some, slice_get-map}
use Rattle.mas_mind.specs.declared.mind.Message.{Message}
use Rattle.mas_mind.specs.Minds.{IsAgent, IsFrom}
use Rattle.mas_sites_stand.specs.Stands.{IsEntry}
use Rattle.mas_sites_scripts.specs.Scripts.{change}
use Rattle.mas_sites_scripts.proofs.Changes.{same_or, get_set, get_set_other, changed_is}
use Rattle.mas_sites_wire.specs.declared.wire.Log.{Log}
use Rattle.mas_sites_wire.specs.declared.wire.Wire.{Wire}
use Rattle.mas_sites_wire.specs.declared.wire.WireEnd.{WireEnd}
use Rattle.mas_sites_wire.specs.Ends.{IsEndOf, log_of}
use Rattle.mas_sites_wire.specs.Wires.{with_put, with_got, HasAnswered}
use Rattle.mas_sites_wire.specs.Lines.{IsHere, AreHere, Lines, lines_of, come, gone, HasGot, HasPut}

-- ---- lists

pub item_at : {X : Type 0} (xs : List X) (i : ℕ) → i < length xs → (x : X) × (slice_get xs i ≡ Some x)
item_at [] i l = absurd (omega arith)
item_at (x ∷ xs) zero l = (x, refl)
item_at (x ∷ xs) (suc i) l = item_at xs i (omega arith)

pub map_get : {X Y : Type 0} (f : X → Y) (xs : List X) (i : ℕ) (x : X) → slice_get xs i ≡ Some x → slice_get (map f xs) i ≡ Some (f x)
map_get f xs i x e = slice_get-map f xs i ∙ ap (option_map f) e

change_same : {X : Type 0} (xs : List X) (i : ℕ) (f : X → X) (x : X) → slice_get xs i ≡ Some x → f x ≡ x → change i f xs ≡ xs
change_same [] i f x e h = refl
change_same (y ∷ xs) zero f x e h = let s = same_Some y x e in ap (λ l. l ∷ xs) (ap f s ∙ h ∙ sym s)
change_same (y ∷ xs) (suc i) f x e h = ap (λ l. y ∷ l) (change_same xs i f x e h)

pub none_came : (i : ℕ) (logs : List Log) → logs ≡ change i (come None) logs
none_came i [] = refl
none_came zero (v ∷ logs) = refl
none_came (suc i) (v ∷ logs) = ap (λ l. v ∷ l) (none_came i logs)

-- ---- one end

-- what it knows says the same of whose the wire is and of what it may do
same_log : (agents number : ℕ) (w : Wire) (e f : WireEnd) (b : Bool) (v : Log) → v.sender ≡ (log_of e).sender → v.agents ≡ (log_of e).agents → v.puts ≡ (log_of e).puts → v.gets ≡ (log_of e).gets →
    log_of f ≡ v → IsEndOf w f → IsHere agents number w e b → IsHere agents number w f b
same_log agents number w e f b v s a p g l o h = record {
  end_of = o;
  from = ap (λ (x : Log). x.sender) l ∙ s ∙ h.from;
  to = ap (λ (x : Log). x.agents) l ∙ a ∙ h.to;
  putting = ap (λ (x : Log). x.puts) l ∙ p ∙ h.putting;
  getting = ap (λ (x : Log). x.gets) l ∙ g ∙ h.getting;
}

got_here : (agents number : ℕ) (w : Wire) (e f : WireEnd) (b : Bool) (r : Option Message) → HasAnswered (log_of e) r (log_of f) → IsEndOf w f → IsHere agents number w e b → IsHere agents number w f b
got_here agents number w e f b None g o h = same_log agents number w e f b (log_of e) refl refl refl refl g.0 o h
got_here agents number w e f b (Some m) g o h = same_log agents number w e f b (with_got (log_of e) m) refl refl refl refl g.view o h

put_here : {X E : Type 0} (agents number : ℕ) (w : Wire) (e f : WireEnd) (b : Bool) (r : Result X E) (m : Message) → OnOk r (log_of f ≡ with_put (log_of e) m) → OnErr r (log_of f ≡ log_of e) →
    IsEndOf w f → IsHere agents number w e b → IsHere agents number w f b
put_here agents number w e f b (Ok x) m p q o h = same_log agents number w e f b (with_put (log_of e) m) refl refl refl refl p o h
put_here agents number w e f b (Err x) m p q o h = same_log agents number w e f b (log_of e) refl refl refl refl q o h

came_log : (v w : Log) (r : Option Message) → HasAnswered v r w → w ≡ come r v
came_log v w None g = g.0
came_log v w (Some m) g = g.view

entry_of : (agents number : ℕ) (v w : Log) (r : Option Message) → v.sender ≡ number → v.agents ≡ agents → HasAnswered v r w → IsEntry number agents r
entry_of agents number v w None s a g = tt
entry_of agents number v w (Some m) s a g = rw (sym s, sym a) g.from

gone_puts : (m : Message) (v : Log) (b : Bool) → v.puts ≡ b → gone m v ≡ (if b then with_put v m else v)
gone_puts m v b p = ap (λ x. if x then with_put v m else v) p

-- ---- an end of a site

module _ (wires : List Wire) (ends : List WireEnd) (puts : List Bool) (i : ℕ) (w : Wire) (e : WireEnd) (b : Bool) (h : AreHere wires ends puts)
    (wire_is : slice_get wires i ≡ Some w) (end_is : slice_get ends i ≡ Some e) (puts_is : slice_get puts i ≡ Some b) where
  pub here : IsHere (length wires) (i + 1) w e b
  here = h.each i w e b wire_is end_is puts_is

  each_at : (f : WireEnd) → IsHere (length wires) (i + 1) w f b → (j : ℕ) (x : Wire) (y : WireEnd) (c : Bool) → slice_get wires j ≡ Some x → slice_get (slice_set ends i f) j ≡ Some y → slice_get puts j ≡ Some c →
      (j ≡ i) ⊎ (j ≢ i) → IsHere (length wires) (j + 1) x y c
  each_at f n j x y c p q r (inl s) =
      let P : ℕ × (Wire × (WireEnd × Bool)) → Type 0 = λ t. IsHere (length wires) (t.0 + 1) t.1.0 t.1.1.0 t.1.1.1 in
      let wire : w ≡ x = same_Some w x (sym wire_is ∙ ap (slice_get wires) (sym s) ∙ p) in
      let end : f ≡ y = same_Some f y (sym (get_set i ends f e end_is) ∙ ap (slice_get (slice_set ends i f)) (sym s) ∙ q) in
      let may : b ≡ c = same_Some b c (sym puts_is ∙ ap (slice_get puts) (sym s) ∙ r) in
      subst P (λ k. (sym s k, (wire k, (end k, may k)))) n
  each_at f n j x y c p q r (inr d) = h.each j x y c p (sym (get_set_other j i ends f d) ∙ q) r

  -- another end at this place
  here_set : (f : WireEnd) → IsHere (length wires) (i + 1) w f b → AreHere wires (slice_set ends i f) puts
  here_set f n = record {
    ends_are = length-set ends i f ∙ h.ends_are;
    puts_are = h.puts_are;
    each = λ j x y c p q r. each_at f n j x y c p q r (same_or j i);
  }

  -- what all ends know, where this one knows something else
  logs_set : (f : WireEnd) (change_log : Log → Log) → log_of f ≡ change_log (log_of e) → map log_of (slice_set ends i f) ≡ change i change_log (map log_of ends)
  logs_set f change_log l =
      map-set log_of ends i f ∙ ap (slice_set (map log_of ends) i) l ∙ changed_is (map log_of ends) i change_log (log_of e) (map_get log_of ends i e end_is)

  pub next_here : (f : WireEnd) (r : Option Message) → HasAnswered (log_of e) r (log_of f) → IsEndOf w f → AreHere wires (slice_set ends i f) puts
  next_here f r g o = here_set f (got_here (length wires) (i + 1) w e f b r g o here)

  pub next_entry : (f : WireEnd) (r : Option Message) → HasAnswered (log_of e) r (log_of f) → IsEntry (i + 1) (length wires) r
  next_entry f r g = entry_of (length wires) (i + 1) (log_of e) (log_of f) r here.from here.to g

  pub next_came : (f : WireEnd) (r : Option Message) → HasAnswered (log_of e) r (log_of f) → map log_of (slice_set ends i f) ≡ change i (come r) (map log_of ends)
  next_came f r g = logs_set f (come r) (came_log (log_of e) (log_of f) r g)

  pub send_from : (m : Message) → IsFrom (i + 1) (length wires) m → IsFrom (log_of e).sender (log_of e).agents m
  send_from m f = rw (here.from, here.to) f

  pub send_here : {X E : Type 0} (f : WireEnd) (r : Result X E) (m : Message) → OnOk r (log_of f ≡ with_put (log_of e) m) → OnErr r (log_of f ≡ log_of e) → IsEndOf w f →
      AreHere wires (slice_set ends i f) puts
  send_here f r m p q o = here_set f (put_here (length wires) (i + 1) w e f b r m p q o here)

  put_goes : (f : WireEnd) (m : Message) → b ≡ true → log_of f ≡ with_put (log_of e) m → map log_of (slice_set ends i f) ≡ change i (gone m) (map log_of ends)
  put_goes f m t p = logs_set f (gone m) (p ∙ sym (gone_puts m (log_of e) true (here.putting ∙ t)))

  goes_by : {X E : Type 0} (f : WireEnd) (r : Result X E) (m : Message) → b ≡ true → OnOk r (log_of f ≡ with_put (log_of e) m) →
      OnOk r (map log_of (slice_set ends i f) ≡ change i (gone m) (map log_of ends))
  goes_by f (Ok x) m t p = put_goes f m t p
  goes_by f (Err x) m t p = tt

  pub send_gone : {X E : Type 0} (f : WireEnd) (r : Result X E) (m : Message) → b ≡ true → OnOk r (log_of f ≡ with_put (log_of e) m) →
      OnOk r (map log_of (slice_set ends i f) ≡ change i (gone m) (map log_of ends))
  send_gone f r m t p = goes_by f r m t p

  let_go_by : (m : Message) → b ≡ false → map log_of ends ≡ change i (gone m) (map log_of ends)
  let_go_by m t = sym (change_same (map log_of ends) i (gone m) (log_of e) (map_get log_of ends i e end_is) (gone_puts m (log_of e) false (here.putting ∙ t)))

-- where the end gets, a message to it is let go
pub let_go : (wires : List Wire) (ends : List WireEnd) (puts : List Bool) (i : ℕ) (m : Message) → AreHere wires ends puts → i < length wires → slice_get puts i ≡ Some false →
    map log_of ends ≡ change i (gone m) (map log_of ends)
let_go wires ends puts i m h l p =
    let n = h.ends_are in
    let w = item_at wires i l in
    let e = item_at ends i (omega (arith, l, n)) in
    let_go_by wires ends puts i w.0 e.0 false h w.1 e.1 p m refl

-- ---- the calls of a site

pub place_at : (old : Lines) (wires : List Wire) (ends : List WireEnd) (a : ℕ) → lines_of wires ends ≡ old → IsAgent (length old.wires) a → a - 1 < length wires
place_at old wires ends a e j =
    let n : length wires ≡ length old.wires = ap (λ (x : Lines). length x.wires) e in
    let f = j.from_one in
    let l = j.named in
    omega (arith, n, f, l)

pub entry_at : (old : Lines) (wires : List Wire) (ends : List WireEnd) (a : ℕ) (r : Option Message) → lines_of wires ends ≡ old → IsAgent (length old.wires) a → IsEntry (a - 1 + 1) (length wires) r →
    IsEntry a (length old.wires) r
entry_at old wires ends a r e j h =
    let n : length wires ≡ length old.wires = ap (λ (x : Lines). length x.wires) e in
    let f = j.from_one in
    let place : a - 1 + 1 ≡ a = omega (arith, f) in
    let P : ℕ × ℕ → Type 0 = λ t. IsEntry t.0 t.1 r in
    subst P (λ i. (place i, n i)) h

pub has_got : (old : Lines) (wires : List Wire) (ends new : List WireEnd) (a : ℕ) (r : Option Message) → lines_of wires ends ≡ old → map log_of new ≡ change (a - 1) (come r) (map log_of ends) →
    HasGot old a r (lines_of wires new)
has_got old wires ends new a r e h = subst (λ (x : Lines). HasGot x a r (lines_of wires new)) e (record { wires = refl; logs = h })

pub letter_at : (old : Lines) (wires : List Wire) (ends : List WireEnd) (m copied : Message) → lines_of wires ends ≡ old → copied ≡ m → IsAgent (length old.wires) m.from → IsAgent (length old.wires) m.to →
    IsFrom (m.from - 1 + 1) (length wires) copied
letter_at old wires ends m copied e c j t =
    let n : length old.wires ≡ length wires = sym (ap (λ (x : Lines). length x.wires) e) in
    let f = j.from_one in
    let place : m.from ≡ m.from - 1 + 1 = omega (arith, f) in
    let to : IsAgent (length wires) m.to = subst (λ k. IsAgent k m.to) n t in
    subst (IsFrom (m.from - 1 + 1) (length wires)) (sym c) (record { from_me = place; receiver = to })

pub has_put : {X E : Type 0} (r : Result X E) (old : Lines) (wires : List Wire) (ends new : List WireEnd) (m copied : Message) → lines_of wires ends ≡ old → copied ≡ m →
    OnOk r (map log_of new ≡ change (m.from - 1) (gone copied) (map log_of ends)) → OnOk r (HasPut old m (lines_of wires new))
has_put (Ok x) old wires ends new m copied e c h =
    subst (λ (x : Lines). HasPut x m (lines_of wires new)) e (record { wires = refl; logs = h ∙ ap (λ t. change (m.from - 1) (gone t) (map log_of ends)) c })
has_put (Err x) old wires ends new m copied e c h = tt
