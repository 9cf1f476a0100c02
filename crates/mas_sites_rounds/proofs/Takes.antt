-- What the stands of a site took, after a turn more.
use Rattle.std.proofs.Common.{ℕ, zero, suc, ◌≡◌, ◌-◌, ◌≤◌, inl, inr, arith, if◌then◌else◌, List, [], ◌∷◌, ◌++◌, append_assoc, append-nil, slice_get, Option, None, Some, refl, ap, sym, ◌∙◌, subst}
use Rattle.std.proofs.lemmas.Option.{same_Some, none-some}
use Rattle.mas_mind.specs.declared.mind.Message.{Message}
use Rattle.mas_mind.specs.Minds.{Kind}
use Rattle.mas_board.specs.declared.seats.Phase.{Phase}
use Rattle.mas_board.specs.declared.seats.Phase.TheVariants.{Idle, Busy, Left as Gone}
use Rattle.mas_board.specs.declared.seats.Sensed.{Sensed}
use Rattle.mas_board.specs.declared.seats.Sensed.TheVariants.{Input as Given, Left, Ahead, Halted}
use Rattle.mas_board.specs.Boards.{State, seat_at, sense}
use Rattle.mas_core.specs.Platform.{Platform, turn, run, and_run}
use Rattle.mas_core_laws.specs.Mail.{takes, takes_in, along, and_along}
use Rattle.mas_sites_stand.specs.declared.seated.Seated.{Seated}
use Rattle.mas_sites_stand.specs.declared.seated.Seated.TheVariants as seat
use Rattle.mas_sites_stand.specs.Seats.{seated}
use Rattle.mas_sites_scripts.specs.Scripts.{Script, given, change, at_mind, extent}
use Rattle.mas_sites_scripts.specs.Giving.{Placed, IsGiven, is_own}
use Rattle.mas_sites_scripts.specs.Sites.{Sited, fed, placed, with_minds, opening_with, IsAlong, PassesAt, PassesIn, Turned}
use Rattle.mas_sites_scripts.proofs.Longer.{IsUnseen, room_at, turns, run_rises, and_some}
use Rattle.mas_sites_scripts.proofs.Scripted.{unseen, opening_longer}
use Rattle.mas_sites_scripts.proofs.Along.{feeds, used_room}
use Rattle.mas_sites_rounds.specs.Between.{those_of, stand_takes, taken_of}

-- ---- a turn more at the end of a run

more_by : {V : Type 0} (f : Platform V → ℕ → List Message) (k : Kind V) (q : Platform V) (names : List ℕ) (a : ℕ) →
    ((r : Platform V) → run k r names ≡ Some q → along f k r (names ++ a ∷ []) ≡ along f k r names ++ f q a) → (o : Option (Platform V)) → and_run (λ x. run k x names) o ≡ Some q →
    and_along (λ x. along f k x (names ++ a ∷ [])) o ≡ and_along (λ x. along f k x names) o ++ f q a
more_by f k q names a more None e = absurd (none-some q e)
more_by f k q names a more (Some r) e = more r e

none_more : {V : Type 0} (f : Platform V → ℕ → List Message) (k : Kind V) (o : Option (Platform V)) → and_along (λ x. along f k x []) o ≡ []
none_more f k None = refl
none_more f k (Some q) = refl

pub along_more : {V : Type 0} (f : Platform V → ℕ → List Message) (k : Kind V) (p q : Platform V) (names : List ℕ) (a : ℕ) → run k p names ≡ Some q →
    along f k p (names ++ a ∷ []) ≡ along f k p names ++ f q a
along_more f k p q [] a e = ap (λ x. f p a ++ x) (none_more f k (turn k p a)) ∙ append-nil (f p a) ∙ ap (λ x. f x a) (same_Some p q e)
along_more f k p q (b ∷ names) a e =
    ap (λ x. f p b ++ x) (more_by f k q names a (λ r h. along_more f k r q names a h) (turn k p b) e)
    ∙ sym (append_assoc (f p b) (and_along (λ x. along f k x names) (turn k p b)) (f q a))

-- ---- along a run in which one mind is changed, and does the same

module _ {V : Type 0} (f : Platform V → ℕ → List Message) (k : Kind V) (g : V → V) (room : V → ℕ) (u : IsUnseen k g room) (i : ℕ)
    (same : (q : Platform V) (a : ℕ) → f (at_mind i g q) a ≡ f q a) where
  pub along_longer : (p q : Platform V) (schedule : List ℕ) → run k p schedule ≡ Some q → room_at room i q.minds ≤ room_at room i p.minds →
      along f k (at_mind i g p) schedule ≡ along f k p schedule
  along_longer p q [] e l = refl
  along_longer p q (a ∷ schedule) e l =
      let r = and_some k g room u i (turn k p a) (λ x. run k x schedule) q e in
      let t = turns k g room u i p a r.0 r.1.0 in
      let one = t.0 in
      let more = run_rises k g room u i r.0 q schedule r.1.1 in
      let stays : room_at room i (r.0).minds ≡ room_at room i p.minds = omega (arith, one, more, l) in
      let last : room_at room i q.minds ≤ room_at room i (r.0).minds = omega (arith, one, l) in
      let F : Platform V → List Message = λ x. along f k x schedule in
      ap (λ o. f (at_mind i g p) a ++ and_along F o) (t.1 stays)
      ∙ ap (λ x. x ++ F (at_mind i g r.0)) (same p a)
      ∙ ap (λ x. f p a ++ x) (along_longer r.0 q schedule r.1.1 last)
      ∙ ap (λ o. f p a ++ and_along F o) (sym r.1.0)

-- ---- who lives at a site

own_given : {V : Type 0} (e : Option Message) (m : Seated V) → is_own (Some (given e m)) ≡ is_own (Some m)
own_given e (seat.Own m) = refl
own_given e (seat.Stand s) = refl

pub own_changed : {V : Type 0} (i j : ℕ) (e : Option Message) (minds : List (Seated V)) → is_own (slice_get (change i (given e) minds) j) ≡ is_own (slice_get minds j)
own_changed i j e [] = refl
own_changed zero zero e (m ∷ minds) = own_given e m
own_changed zero (suc j) e (m ∷ minds) = refl
own_changed (suc i) zero e (m ∷ minds) = refl
own_changed (suc i) (suc j) e (m ∷ minds) = own_changed i j e minds

takes_at : {V : Type 0} (i : ℕ) (g : V → V) (q : Platform V) (a : ℕ) (phase : Phase) → takes_in (at_mind i g q) a phase ≡ takes_in q a phase
takes_at i g q a Idle = refl
takes_at i g q a Busy = refl
takes_at i g q a (Gone end) = refl

takes_same : {V : Type 0} (y i : ℕ) (e : Option Message) (q : Platform (Seated V)) (a : ℕ) → stand_takes y (at_mind i (given e) q) a ≡ stand_takes y q a
takes_same y i e q a =
    ap (λ b. if b then [] else those_of y (takes (at_mind i (given e) q) a)) (own_changed i (a - 1) e q.minds)
    ∙ ap (λ x. if is_own (slice_get q.minds (a - 1)) then [] else those_of y x) (takes_at i (given e) q a (seat_at q.board a).phase)

-- ---- a turn of a site

module _ {V : Type 0} (k : Kind V) (board : State) (minds : List (Seated V)) (y : ℕ) where
  abbrev taken : Sited V → List Message
  taken s = taken_of k y (opening_with board minds s.scripts) s.schedule

  -- an entry more is not seen
  taken_fed : (s : Sited V) (a : ℕ) (e : Option Message) → IsAlong k board minds s → taken (fed a e s) ≡ taken s
  taken_fed s a e h =
      let i = a - 1 in
      ap (λ p. along (stand_takes y) (seated k) p s.schedule) (opening_longer board i e s.scripts minds h.number)
      ∙ along_longer (stand_takes y) (seated k) (given e) extent (unseen k e) i (takes_same y i e) (opening_with board minds s.scripts) s.platform s.schedule h.ran (used_room _ _ (h.used i))

  -- a site with what was given before its turn
  abbrev with_placed : Sited V → Placed V → Sited V
  with_placed s x = record { platform = with_minds s.platform x.minds; schedule = s.schedule; scripts = x.scripts }

  -- it is along its scripts, its stands took the same, and the next turn takes what it would have taken
  abbrev IsSame : Sited V → Placed V → ℕ → Type 0
  IsSame old after a = IsAlong k board minds (with_placed old after) × ((taken (with_placed old after) ≡ taken old) × (stand_takes y (with_minds old.platform after.minds) a ≡ stand_takes y old.platform a))

  same_placed : (old : Sited V) (after : Placed V) (a : ℕ) → IsAlong k board minds old → after ≡ placed old → IsSame old after a
  same_placed old after a h e = subst (λ (x : Placed V). IsSame old x a) (sym e) (h, (refl, refl))

  module _ {C : Type 0} (got : C → ℕ → Option Message → C → Type 0) (put : C → Message → C → Type 0) (from to : C) where
    same_given : (old : Sited V) (after : Placed V) (a : ℕ) (message : Option Message) → IsAlong k board minds old → IsGiven got put from to (placed old) after a message → IsSame old after a
    same_given old after a message h (inl g) = same_placed old after a h g.same
    same_given old after a message h (inr g) =
        let P : List (Seated V) × List Script → Type 0 = λ x. IsSame old (record { minds = x.0; scripts = x.1 }) a in
        subst P (λ i. (sym g.minds i, sym g.scripts i)) (feeds k board minds old a g.entry h, (taken_fed old a g.entry h, takes_same y (a - 1) g.entry old.platform a))

    same_sensed : (old : Sited V) (after : Placed V) (a : ℕ) (s : Sensed) → IsAlong k board minds old → PassesAt got put from to (placed old) after a s → IsSame old after a
    same_sensed old after a (Given input) h g = same_given old after a input.message h g
    same_sensed old after a (Left end) h g = same_placed old after a h g.1
    same_sensed old after a (Ahead cycle lowest) h g = same_placed old after a h g.1
    same_sensed old after a Halted h g = same_placed old after a h g.1

    same_passed : (old : Sited V) (after : Placed V) (a : ℕ) (phase : Phase) → IsAlong k board minds old → PassesIn got put from to old after a phase → IsSame old after a
    same_passed old after a Idle h g = same_sensed old after a (sense old.platform.board a).0 h g
    same_passed old after a Busy h g = same_placed old after a h g.1
    same_passed old after a (Gone end) h g = same_placed old after a h g.1

    -- what was taken, and then what the turn takes
    pub taken_more : (old new : Sited V) (a : ℕ) → IsAlong k board minds old → Turned k got put from to old new a → taken new ≡ taken old ++ stand_takes y old.platform a
    taken_more old new a h t =
        let s = same_passed old t.after a (seat_at old.platform.board a).phase h t.passes in
        let p = opening_with board minds t.after.scripts in
        ap (λ x. taken_of k y (opening_with board minds x) new.schedule) t.scripts
        ∙ ap (taken_of k y p) t.schedule
        ∙ along_more (stand_takes y) (seated k) p (with_minds old.platform t.after.minds) old.schedule a s.0.ran
        ∙ ap (λ x. x ++ stand_takes y (with_minds old.platform t.after.minds) a) s.1.0
        ∙ ap (λ x. taken old ++ x) s.1.1
