-- A site goes along its scripts.
use Rattle.std.proofs.Common.{ℕ, zero, suc, ◌≡◌, ◌+◌, ◌-◌, ◌≤◌, inl, inr, arith, List, [], ◌∷◌, ◌++◌, length, drop, slice_get, slice_set, Option, None, Some, refl, ap, sym, ◌∙◌, subst}
use Rattle.std.specs.Option.{option_map}
use Rattle.std.proofs.lemmas.List.{length-append}
use Rattle.mas_mind.specs.declared.mind.Input.{Input}
use Rattle.mas_mind.specs.declared.mind.Feedback.{Feedback}
use Rattle.mas_mind.specs.declared.mind.Message.{Message}
use Rattle.mas_mind.specs.Minds.{Kind}
use Rattle.mas_board.specs.Boards.{State}
use Rattle.mas_core.specs.Platform.{turn, tell, run}
use Rattle.mas_core.proofs.Turns.{run-on, one-turn}
use Rattle.mas_sites_stand.specs.declared.seated.Seated.{Seated}
use Rattle.mas_sites_stand.specs.declared.seated.Seated.TheVariants as seat
use Rattle.mas_sites_stand.specs.Seats.{seated, seated_cycle, seated_told}
use Rattle.mas_sites_scripts.specs.Scripts.{Script, with_scripts, given, change, longer, extent}
use Rattle.mas_sites_scripts.specs.Giving.{HasEntry}
use Rattle.mas_sites_scripts.specs.Sites.{Sited, fed, opening_with, IsUsed, IsAlong}
use Rattle.mas_sites_scripts.proofs.Changes.{same_or, change_length, get_other, get_set, get_set_other}
use Rattle.mas_sites_scripts.proofs.Longer.{room_or}
use Rattle.mas_sites_scripts.proofs.Scripted.{scripts_longer, run_on}

-- ---- an entry is given

pub changed_map : {X : Type 0} (i : ℕ) (f : X → X) (xs : List X) → slice_get (change i f xs) i ≡ option_map f (slice_get xs i)
changed_map i f [] = refl
changed_map zero f (x ∷ xs) = refl
changed_map (suc i) f (x ∷ xs) = changed_map i f xs

used_given : {V : Type 0} (e : Option Message) (o p : Option (Seated V)) → IsUsed o p → IsUsed (option_map (given e) o) (option_map (given e) p)
used_given e None None h = tt
used_given e (Some (seat.Own m)) (Some (seat.Own n)) h = tt
used_given e (Some (seat.Stand s)) (Some (seat.Stand t)) h =
    let a = length-append s.script (e ∷ []) in
    let b = length-append t.script (e ∷ []) in
    omega (arith, a, b, h)
used_given e None (Some (seat.Own m)) h = absurd h
used_given e None (Some (seat.Stand s)) h = absurd h
used_given e (Some (seat.Own m)) None h = absurd h
used_given e (Some (seat.Stand s)) None h = absurd h
used_given e (Some (seat.Own m)) (Some (seat.Stand s)) h = absurd h
used_given e (Some (seat.Stand s)) (Some (seat.Own m)) h = absurd h

pub used_room : {V : Type 0} (o p : Option (Seated V)) → IsUsed o p → room_or extent o ≤ room_or extent p
used_room None None h = omega arith
used_room (Some (seat.Own m)) (Some (seat.Own n)) h = omega arith
used_room (Some (seat.Stand s)) (Some (seat.Stand t)) h = omega (arith, h)
used_room None (Some (seat.Own m)) h = absurd h
used_room None (Some (seat.Stand s)) h = absurd h
used_room (Some (seat.Own m)) None h = absurd h
used_room (Some (seat.Stand s)) None h = absurd h
used_room (Some (seat.Own m)) (Some (seat.Stand s)) h = absurd h
used_room (Some (seat.Stand s)) (Some (seat.Own m)) h = absurd h

used_change : {V : Type 0} (i j : ℕ) (e : Option Message) (xs ys : List (Seated V)) → IsUsed (slice_get xs i) (slice_get ys i) →
    IsUsed (slice_get (change j (given e) xs) i) (slice_get (change j (given e) ys) i)
used_change i j e xs ys h = elim (same_or j i) [
  | inl s ↦
      let a : slice_get (change j (given e) xs) i ≡ option_map (given e) (slice_get xs i) = ap (λ n. slice_get (change n (given e) xs) i) s ∙ changed_map i (given e) xs in
      let b : slice_get (change j (given e) ys) i ≡ option_map (given e) (slice_get ys i) = ap (λ n. slice_get (change n (given e) ys) i) s ∙ changed_map i (given e) ys in
      rw (a, b) (used_given e (slice_get xs i) (slice_get ys i) h)
  | inr n ↦ rw (get_other j i (given e) xs n, get_other j i (given e) ys n) h
]

pub feeds : {V : Type 0} (k : Kind V) (board : State) (minds : List (Seated V)) (now : Sited V) (a : ℕ) (e : Option Message) → IsAlong k board minds now → IsAlong k board minds (fed a e now)
feeds k board minds now a e h =
    let i = a - 1 in
    let s = scripts_longer i e now.scripts minds h.number in
    record {
      number = change_length i (longer e) now.scripts ∙ h.number;
      ran = run_on k board i e now.scripts minds now.platform now.schedule h.number h.ran (used_room _ _ (h.used i));
      used = λ j. subst (λ x. IsUsed (slice_get (change i (given e) now.platform.minds) j) (slice_get x j)) (sym s) (used_change j i e now.platform.minds (with_scripts now.scripts minds) (h.used j));
    }

-- ---- a turn is made

one_used : (script : Script) → 1 ≤ length script → 1 + length (drop 1 script) ≡ length script
one_used [] l = absurd (omega arith)
one_used (x ∷ xs) l = omega arith

pub used_thought : {V : Type 0} (k : Kind V) (m : Seated V) (i : Input) (o : Option (Seated V)) → HasEntry m → IsUsed (Some m) o → IsUsed (Some (seated_cycle k m i).mind) o
used_thought k (seat.Own m) i (Some (seat.Own n)) e h = tt
used_thought k (seat.Stand s) i (Some (seat.Stand t)) e h = let l = one_used s.script e in omega (arith, l, h)
used_thought k (seat.Own m) i None e h = absurd h
used_thought k (seat.Stand s) i None e h = absurd h
used_thought k (seat.Own m) i (Some (seat.Stand t)) e h = absurd h
used_thought k (seat.Stand s) i (Some (seat.Own n)) e h = absurd h

pub used_told : {V : Type 0} (k : Kind V) (m : Seated V) (b : Feedback) (o : Option (Seated V)) → IsUsed (Some m) o → IsUsed (Some (seated_told k m b)) o
used_told k (seat.Own m) b (Some (seat.Own n)) h = tt
used_told k (seat.Stand s) b (Some (seat.Stand t)) h = h
used_told k (seat.Own m) b None h = absurd h
used_told k (seat.Stand s) b None h = absurd h
used_told k (seat.Own m) b (Some (seat.Stand t)) h = absurd h
used_told k (seat.Stand s) b (Some (seat.Own n)) h = absurd h

-- one mind is set
used_set : {V : Type 0} (xs ys : List (Seated V)) (j : ℕ) (m x : Seated V) → slice_get xs j ≡ Some m → ((o : Option (Seated V)) → IsUsed (Some m) o → IsUsed (Some x) o) →
    ((i : ℕ) → IsUsed (slice_get xs i) (slice_get ys i)) → (i : ℕ) → IsUsed (slice_get (slice_set xs j x) i) (slice_get ys i)
used_set xs ys j m x is on h i = elim (same_or i j) [
  | inl s ↦
      let a : slice_get (slice_set xs j x) i ≡ Some x = ap (slice_get (slice_set xs j x)) s ∙ get_set j xs x m is in
      let b : slice_get xs i ≡ Some m = ap (slice_get xs) s ∙ is in
      rw a (on (slice_get ys i) (subst (λ o. IsUsed o (slice_get ys i)) b (h i)))
  | inr n ↦ rw (get_set_other i j xs x n) (h i)
]

used_tell : {V : Type 0} (k : Kind V) (xs ys : List (Seated V)) (a : ℕ) (o : Option (Seated V)) (b : Option Feedback) → slice_get xs (a - 1) ≡ o →
    ((i : ℕ) → IsUsed (slice_get xs i) (slice_get ys i)) → (i : ℕ) → IsUsed (slice_get (tell (seated k) xs a o b) i) (slice_get ys i)
used_tell k xs ys a None b is h = h
used_tell k xs ys a (Some m) None is h = h
used_tell k xs ys a (Some m) (Some b) is h = used_set xs ys (a - 1) m (seated_told k m b) is (used_told k m b) h

-- a turn more
more : {V : Type 0} (k : Kind V) (board : State) (minds : List (Seated V)) (old new : Sited V) (a : ℕ) → IsAlong k board minds old → turn (seated k) old.platform a ≡ Some new.platform →
    new.schedule ≡ old.schedule ++ a ∷ [] → new.scripts ≡ old.scripts → ((i : ℕ) → IsUsed (slice_get new.platform.minds i) (slice_get (with_scripts old.scripts minds) i)) →
    IsAlong k board minds new
more k board minds old new a h t s c u = record {
  number = ap length c ∙ h.number;
  ran = ap (λ x. run (seated k) (opening_with board minds x) new.schedule) c
      ∙ ap (run (seated k) (opening_with board minds old.scripts)) s
      ∙ run-on (seated k) (opening_with board minds old.scripts) old.platform new.platform old.schedule (a ∷ []) h.ran (one-turn (seated k) old.platform new.platform a t);
  used = λ i. subst (λ x. IsUsed (slice_get new.platform.minds i) (slice_get (with_scripts x minds) i)) (sym c) (u i);
}

-- in which a mind made a cycle
pub thinks_along : {V : Type 0} (k : Kind V) (board : State) (minds : List (Seated V)) (old new : Sited V) (a : ℕ) (m : Seated V) (i : Input) → IsAlong k board minds old →
    turn (seated k) old.platform a ≡ Some new.platform → new.schedule ≡ old.schedule ++ a ∷ [] → new.scripts ≡ old.scripts → slice_get old.platform.minds (a - 1) ≡ Some m → HasEntry m →
    new.platform.minds ≡ slice_set old.platform.minds (a - 1) (seated_cycle k m i).mind → IsAlong k board minds new
thinks_along k board minds old new a m i h t s c is e n = more k board minds old new a h t s c
    (λ j. subst (λ x. IsUsed (slice_get x j) (slice_get (with_scripts old.scripts minds) j)) (sym n)
    (used_set old.platform.minds (with_scripts old.scripts minds) (a - 1) m (seated_cycle k m i).mind is (λ o. used_thought k m i o e) h.used j))

-- in which a mind was told, or none was touched
pub tells_along : {V : Type 0} (k : Kind V) (board : State) (minds : List (Seated V)) (old new : Sited V) (a : ℕ) (b : Option Feedback) → IsAlong k board minds old →
    turn (seated k) old.platform a ≡ Some new.platform → new.schedule ≡ old.schedule ++ a ∷ [] → new.scripts ≡ old.scripts →
    new.platform.minds ≡ tell (seated k) old.platform.minds a (slice_get old.platform.minds (a - 1)) b → IsAlong k board minds new
tells_along k board minds old new a b h t s c n = more k board minds old new a h t s c
    (λ j. subst (λ x. IsUsed (slice_get x j) (slice_get (with_scripts old.scripts minds) j)) (sym n)
    (used_tell k old.platform.minds (with_scripts old.scripts minds) a (slice_get old.platform.minds (a - 1)) b refl h.used j))

pub leaves_along : {V : Type 0} (k : Kind V) (board : State) (minds : List (Seated V)) (old new : Sited V) (a : ℕ) → IsAlong k board minds old →
    turn (seated k) old.platform a ≡ Some new.platform → new.schedule ≡ old.schedule ++ a ∷ [] → new.scripts ≡ old.scripts →
    new.platform.minds ≡ old.platform.minds → IsAlong k board minds new
leaves_along k board minds old new a h t s c n = more k board minds old new a h t s c
    (λ j. subst (λ x. IsUsed (slice_get x j) (slice_get (with_scripts old.scripts minds) j)) (sym n) (h.used j))
