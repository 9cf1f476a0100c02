-- The cycles of the stands of a site use up their scripts: a stand that makes one was given one entry.
use Rattle.std.proofs.Common.{ℕ, zero, suc, ◌≡◌, ◌≢◌, ◌+◌, ◌-◌, ◌⊎◌, inl, inr, arith, List, [], ◌∷◌, slice_get, slice_set, Option, None, Some, refl, ap, sym, ◌∙◌, subst}
use Rattle.std.specs.Option.{option_map}
use Rattle.std.proofs.lemmas.List.{length-append}
use Rattle.std.proofs.lemmas.Option.{same_Some}
use Rattle.mas_mind.specs.declared.mind.Input.{Input}
use Rattle.mas_mind.specs.declared.mind.Feedback.{Feedback}
use Rattle.mas_mind.specs.declared.mind.Message.{Message}
use Rattle.mas_mind.specs.Minds.{Kind}
use Rattle.mas_board.specs.declared.seats.Phase.{Phase}
use Rattle.mas_board.specs.declared.seats.Sensed.{Sensed}
use Rattle.mas_board.specs.Boards.{State, seat_at, sense, emit, input_of}
use Rattle.mas_core.specs.Platform.{tell}
use Rattle.mas_core_laws.proofs.Steps.{Turned as TurnedAs, Leaves, Thinks, Emits, Spends, turned}
use Rattle.mas_sites_stand.specs.declared.seated.Seated.{Seated}
use Rattle.mas_sites_stand.specs.declared.seated.Seated.TheVariants as seat
use Rattle.mas_sites_stand.specs.Seats.{seated, seated_cycle, seated_told}
use Rattle.mas_sites_scripts.specs.Scripts.{Script, given, change, longer}
use Rattle.mas_sites_scripts.specs.Giving.{Placed, OwnIsGiven, StandIsGiven, IsGiven}
use Rattle.mas_sites_scripts.specs.Sites.{Sited, placed, with_minds, PassesAt, PassesIn, Turned, IsUsedUp, AreUsedUp, KeepsUsedUp}
use Rattle.mas_sites_scripts.proofs.Changes.{same_or, get_changed, get_other, get_set, get_set_other}
use Rattle.mas_sites_scripts.proofs.Along.{changed_map}
use Rattle.mas_sites_rounds.specs.Rounds.{HasNoGo, WentOnce, WentTwice, Goes}

-- ---- one place

-- with an entry more, after a cycle
used_thought : {V : Type 0} (k : Kind V) (m : Seated V) (e : Option Message) (i : Input) (o : Option Script) → IsUsedUp (Some m) o → IsUsedUp (Some (seated_cycle k (given e m) i).mind) (option_map (longer e) o)
used_thought k (seat.Own m) e i o h = tt
used_thought k (seat.Stand s) e i None h = absurd h
used_thought k (seat.Stand s) e i (Some script) h = let l = length-append script (e ∷ []) in omega (arith, l, h)

used_told : {V : Type 0} (k : Kind V) (m : Seated V) (b : Feedback) (o : Option Script) → IsUsedUp (Some m) o → IsUsedUp (Some (seated_told k m b)) o
used_told k (seat.Own m) b o h = tt
used_told k (seat.Stand s) b None h = absurd h
used_told k (seat.Stand s) b (Some script) h = h

-- what happens at one place alone
used_at : {V : Type 0} (old new : List (Seated V)) (scripts more : List Script) (j : ℕ) → ((i : ℕ) → i ≢ j → (slice_get new i ≡ slice_get old i) × (slice_get more i ≡ slice_get scripts i)) →
    IsUsedUp (slice_get new j) (slice_get more j) → AreUsedUp old scripts → AreUsedUp new more
used_at old new scripts more j others here h i = elim (same_or i j) [
  | inl s ↦ subst (λ n. IsUsedUp (slice_get new n) (slice_get more n)) (sym s) here
  | inr n ↦ let e = others i n in rw (e.0, e.1) (h i)
]

used_set : {V : Type 0} (xs : List (Seated V)) (scripts : List Script) (j : ℕ) (m x : Seated V) → slice_get xs j ≡ Some m → IsUsedUp (Some x) (slice_get scripts j) → AreUsedUp xs scripts →
    AreUsedUp (slice_set xs j x) scripts
used_set xs scripts j m x is here h =
    used_at xs (slice_set xs j x) scripts scripts j (λ i n. (get_set_other i j xs x n, refl)) (subst (λ o. IsUsedUp o (slice_get scripts j)) (sym (get_set j xs x m is)) here) h

used_tell : {V : Type 0} (k : Kind V) (xs : List (Seated V)) (scripts : List Script) (a : ℕ) (o : Option (Seated V)) (b : Option Feedback) → slice_get xs (a - 1) ≡ o → AreUsedUp xs scripts →
    AreUsedUp (tell (seated k) xs a o b) scripts
used_tell k xs scripts a None b is h = h
used_tell k xs scripts a (Some m) None is h = h
used_tell k xs scripts a (Some m) (Some b) is h =
    used_set xs scripts (a - 1) m (seated_told k m b) is (used_told k m b (slice_get scripts (a - 1)) (subst (λ o. IsUsedUp o (slice_get scripts (a - 1))) is (h (a - 1)))) h

-- ---- a turn

module _ {V C : Type 0} (k : Kind V) (got : C → ℕ → Option Message → C → Type 0) (put : C → Message → C → Type 0) (from to : C) (old : Sited V) (after : Placed V) (a : ℕ) where
  -- nothing was given
  used_placed : after ≡ placed old → AreUsedUp old.platform.minds old.scripts → AreUsedUp after.minds after.scripts
  used_placed e h = let P : Placed V → Type 0 = λ x. AreUsedUp x.minds x.scripts in subst P (sym e) h

  own_thinks : (message : Option Message) (input : Input) (m : Seated V) → OwnIsGiven from to (placed old) after a → slice_get after.minds (a - 1) ≡ Some m →
      AreUsedUp old.platform.minds old.scripts → AreUsedUp (slice_set after.minds (a - 1) (seated_cycle k m input).mind) after.scripts
  own_thinks message input m g is h =
      let e : seat.Own g.own ≡ m = same_Some _ _ (sym g.is ∙ ap (λ x. slice_get x.minds (a - 1)) (sym g.same) ∙ is) in
      let here = subst (λ (x : Seated V). IsUsedUp (Some (seated_cycle k x input).mind) (slice_get after.scripts (a - 1))) e tt in
      used_set after.minds after.scripts (a - 1) m (seated_cycle k m input).mind is here (used_placed g.same h)

  stand_thinks : (message : Option Message) (input : Input) (m : Seated V) → StandIsGiven got put from to (placed old) after a message → slice_get after.minds (a - 1) ≡ Some m →
      AreUsedUp old.platform.minds old.scripts → AreUsedUp (slice_set after.minds (a - 1) (seated_cycle k m input).mind) after.scripts
  stand_thinks message input m g is h =
      let j = a - 1 in
      let x = (seated_cycle k m input).mind in
      let changed = get_changed j (given g.entry) old.platform.minds (seat.Stand g.stand) g.is in
      let e : given g.entry (seat.Stand g.stand) ≡ m = same_Some _ _ (sym changed ∙ ap (λ t. slice_get t j) (sym g.minds) ∙ is) in
      let script : slice_get after.scripts j ≡ option_map (longer g.entry) (slice_get old.scripts j) = ap (λ t. slice_get t j) g.scripts ∙ changed_map j (longer g.entry) old.scripts in
      let was : IsUsedUp {V = V} (Some (seat.Stand g.stand)) (slice_get old.scripts j) = subst (λ o. IsUsedUp o (slice_get old.scripts j)) g.is (h j) in
      let now = used_thought k (seat.Stand g.stand) g.entry input (slice_get old.scripts j) was in
      let P : Seated V × Option Script → Type 0 = λ t. IsUsedUp (Some (seated_cycle k t.0 input).mind) t.1 in
      let here : IsUsedUp (Some x) (slice_get after.scripts j) = subst P (λ i. (e i, sym script i)) now in
      used_at old.platform.minds (slice_set after.minds j x) old.scripts after.scripts j
      (λ i n. (
        get_set_other i j after.minds x n ∙ ap (λ t. slice_get t i) g.minds ∙ get_other j i (given g.entry) old.platform.minds (λ p. n (sym p)),
        ap (λ t. slice_get t i) g.scripts ∙ get_other j i (longer g.entry) old.scripts (λ p. n (sym p)),
      ))
      (subst (λ o. IsUsedUp o (slice_get after.scripts j)) (sym (get_set j after.minds x m is)) here)
      h

  thinks : (message : Option Message) (input : Input) (m : Seated V) → IsGiven got put from to (placed old) after a message → slice_get after.minds (a - 1) ≡ Some m →
      AreUsedUp old.platform.minds old.scripts → AreUsedUp (slice_set after.minds (a - 1) (seated_cycle k m input).mind) after.scripts
  thinks message input m (inl g) = own_thinks message input m g
  thinks message input m (inr g) = stand_thinks message input m g

  module _ (new : Sited V) (s : new.scripts ≡ after.scripts) (p : PassesIn got put from to old after a (seat_at old.platform.board a).phase) where
    settled : (minds : List (Seated V)) → new.platform.minds ≡ minds → AreUsedUp minds after.scripts → AreUsedUp new.platform.minds new.scripts
    settled minds e u = let P : List (Seated V) × List Script → Type 0 = λ x. AreUsedUp x.0 x.1 in subst P (λ i. (sym e i, sym s i)) u

    by_phase : (phase : Phase) → (seat_at old.platform.board a).phase ≡ phase → PassesIn got put from to old after a phase
    by_phase phase e = subst (λ (x : Phase). PassesIn got put from to old after a x) e p

    by_sense : (r t : Sensed × State) → PassesAt got put from to (placed old) after a r.0 → r ≡ t → PassesAt got put from to (placed old) after a t.0
    by_sense r t g e = subst (λ (x : Sensed × State). PassesAt got put from to (placed old) after a x.0) e g

    used_case : TurnedAs (seated k) (with_minds old.platform after.minds) a (sense old.platform.board a) new.platform → KeepsUsedUp old new
    used_case (Leaves h) u = settled after.minds (ap (λ x. x.minds) h.is) (used_placed (by_sense _ _ (by_phase _ h.idle) h.sensed).1 u)
    used_case (Thinks h) u =
        let input = input_of old.platform.board a in
        settled _ (ap (λ x. x.minds) h.is) (thinks input.message input h.mind (by_sense _ _ (by_phase _ h.idle) h.sensed) h.mind_is u)
    used_case (Emits h) u =
        let b = (emit old.platform.board a h.outs).0 in
        settled (tell (seated k) after.minds a (slice_get after.minds (a - 1)) b) (ap (λ x. x.minds) h.is)
        (used_tell k after.minds after.scripts a (slice_get after.minds (a - 1)) b refl (used_placed (by_phase _ h.busy).1 u))
    used_case (Spends h) u = settled after.minds (ap (λ x. x.minds) h.is) (used_placed (by_phase _ h.busy).1 u)

module _ {V C : Type 0} (k : Kind V) (got : C → ℕ → Option Message → C → Type 0) (put : C → Message → C → Type 0) where
  turn_used : (from to : C) (old new : Sited V) (a : ℕ) → Turned k got put from to old new a → KeepsUsedUp old new
  turn_used from to old new a t =
      used_case k got put from to old t.after a new t.scripts t.passes (turned (seated k) (with_minds old.platform t.after.minds) a new.platform t.turn).case

  -- ---- goes

  same_used : (old new : Sited V) → new ≡ old → KeepsUsedUp old new
  same_used old new e u = let P : Sited V → Type 0 = λ x. AreUsedUp x.platform.minds x.scripts in subst P (sym e) u

  way_used : (from to : C) (old new : Sited V) (a : ℕ) → HasNoGo from to old new a ⊎ (WentOnce k got put from to old new a ⊎ WentTwice k got put from to old new a) → KeepsUsedUp old new
  way_used from to old new a (inl g) = same_used old new g.same
  way_used from to old new a (inr (inl g)) = turn_used from to old new a g.turn
  way_used from to old new a (inr (inr g)) = λ u. turn_used g.between to g.middle new a g.second (turn_used from g.between old g.middle a g.first u)

  pub goes_used : (n : ℕ) (from to : C) (old new : Sited V) → Goes k got put n from to old new → KeepsUsedUp old new
  goes_used zero from to old new g = same_used old new g.0
  goes_used (suc n) from to old new g = λ u. way_used g.1.0 to g.0 new (n + 1) g.1.1.1.way (goes_used n from g.1.0 old g.0 g.1.1.0 u)
