-- A run in which one mind is changed, and does the same.
use Rattle.std.proofs.Common.{ℕ, ◌≡◌, ◌≢◌, ◌-◌, ◌≤◌, inl, inr, arith, Bool, true, false, List, [], ◌∷◌, length, slice_get, slice_set, Option, None, Some, refl, ap, sym, ◌∙◌, subst, if◌then◌else◌}
use Rattle.std.proofs.lemmas.Option.{same_Some, none-some}
use Rattle.mas_mind.specs.declared.mind.Input.{Input}
use Rattle.mas_mind.specs.declared.mind.Feedback.{Feedback}
use Rattle.mas_mind.specs.declared.mind.Thought.{Thought}
use Rattle.mas_mind.specs.declared.mind.Thought.TheVariants.{Outs as Acts, Spent}
use Rattle.mas_mind.specs.Minds.{Cycled, Kind}
use Rattle.mas_board.specs.declared.seats.Phase.{Phase}
use Rattle.mas_board.specs.declared.seats.Phase.TheVariants.{Idle, Busy, Left as Gone}
use Rattle.mas_board.specs.declared.seats.Sensed.{Sensed}
use Rattle.mas_board.specs.declared.seats.Sensed.TheVariants.{Input as Given, Left, Ahead, Halted}
use Rattle.mas_board.specs.Boards.{State, seat_at, sense, emit}
use Rattle.mas_core.specs.Platform.{Platform, is_agent, tell, think, turn, turn_in, after_sense, after_thought, after_emit, thought_by, with_board, run, and_run}
use Rattle.mas_sites_scripts.specs.Scripts.{change, at_mind}
use Rattle.mas_sites_scripts.proofs.Changes.{same_or, get_changed, get_other, get_none, set_changed, set_other, get_set, get_set_other}

-- a change f of a mind that a cycle does not see while `room` stays where it is
pub record IsUnseen {V : Type 0} (k : Kind V) (f : V → V) (room : V → ℕ) : Type 0 where
  pub told : (m : V) (b : Feedback) → k.took (f m) b ≡ f (k.took m b)
  pub told_room : (m : V) (b : Feedback) → room (k.took m b) ≡ room m
  pub rises : (m : V) (i : Input) → room m ≤ room (k.cycle m i).mind
  pub same : (m : V) (i : Input) → room (k.cycle m i).mind ≡ room m → k.cycle (f m) i ≡ record { mind = f (k.cycle m i).mind; thought = (k.cycle m i).thought }

abbrev pub room_or : {V : Type 0} → (V → ℕ) → Option V → ℕ
room_or room None = 0
room_or room (Some m) = room m

abbrev pub room_at : {V : Type 0} → (V → ℕ) → ℕ → List V → ℕ
room_at room i minds = room_or room (slice_get minds i)

-- a turn raises the room, and where it stays the changed platform makes the changed turn
abbrev Goes : {V : Type 0} → (V → V) → (V → ℕ) → ℕ → Platform V → Option (Platform V) → Option (Platform V) → Type 0
Goes f room i p o c = (q : Platform _) → o ≡ Some q → (room_at room i p.minds ≤ room_at room i q.minds) × (room_at room i q.minds ≡ room_at room i p.minds → c ≡ Some (at_mind i f q))

module _ {V : Type 0} (k : Kind V) (f : V → V) (room : V → ℕ) (unseen : IsUnseen k f room) (i : ℕ) where
  goes_none : (p : Platform V) (c : Option (Platform V)) → Goes f room i p None c
  goes_none p c q e = absurd (none-some q e)

  goes_some : (p r : Platform V) (c : Option (Platform V)) → room_at room i p.minds ≤ room_at room i r.minds → (room_at room i r.minds ≡ room_at room i p.minds → c ≡ Some (at_mind i f r))
      → Goes f room i p (Some r) c
  goes_some p r c l h q e =
      let P : Platform V → Type 0 = λ x. (room_at room i p.minds ≤ room_at room i x.minds) × (room_at room i x.minds ≡ room_at room i p.minds → c ≡ Some (at_mind i f x)) in
      subst P (same_Some r q e) (l, h)

  -- a mind makes a cycle
  thinks_here : (p : Platform V) (a : ℕ) (board : State) (input : Input) (m : V) → i ≡ a - 1 → slice_get p.minds (a - 1) ≡ Some m →
      Goes f room i p (think k p a board input (Some m)) (think k (at_mind i f p) a board input (slice_get (change i f p.minds) (a - 1)))
  thinks_here p a board input m e is =
      let c : Cycled V = k.cycle m input in
      let before : room_at room i p.minds ≡ room m = ap (λ j. room_or room (slice_get p.minds j)) e ∙ ap (room_or room) is in
      let there : slice_get p.minds i ≡ Some m = ap (slice_get p.minds) e ∙ is in
      let after : room_at room i (slice_set p.minds (a - 1) c.mind) ≡ room c.mind =
      ap (λ j. room_at room i (slice_set p.minds j c.mind)) (sym e) ∙ ap (room_or room) (get_set i p.minds c.mind m there) in
      let l = unseen.rises m input in
      let d : room_at room i p.minds ≤ room_at room i (slice_set p.minds (a - 1) c.mind) = rw (before, after) l in
      goes_some p (thought_by p a board c) (think k (at_mind i f p) a board input (slice_get (change i f p.minds) (a - 1))) d
      (λ stays.
      let s = unseen.same m input (sym after ∙ stays ∙ before) in
      let g : slice_get (change i f p.minds) (a - 1) ≡ Some (f m) = ap (slice_get (change i f p.minds)) (sym e) ∙ get_changed i f p.minds m there in
      let w : slice_set (change i f p.minds) (a - 1) (f c.mind) ≡ change i f (slice_set p.minds (a - 1) c.mind) =
      ap (λ j. slice_set (change i f p.minds) j (f c.mind)) (sym e) ∙ set_changed i f p.minds c.mind ∙ ap (λ j. change i f (slice_set p.minds j c.mind)) e in
      ap (think k (at_mind i f p) a board input) g
      ∙ ap (λ x. Some (thought_by (at_mind i f p) a board x)) s
      ∙ ap (λ minds. Some (record { board = board; minds = minds; thoughts = slice_set p.thoughts (a - 1) (Some c.thought) })) w)

  thinks_there : (p : Platform V) (a : ℕ) (board : State) (input : Input) (o : Option V) → i ≢ a - 1 → slice_get p.minds (a - 1) ≡ o →
      Goes f room i p (think k p a board input o) (think k (at_mind i f p) a board input (slice_get (change i f p.minds) (a - 1)))
  thinks_there p a board input None n is = goes_none p _
  thinks_there p a board input (Some m) n is =
      let c : Cycled V = k.cycle m input in
      let after : room_at room i (slice_set p.minds (a - 1) c.mind) ≡ room_at room i p.minds = ap (room_or room) (get_set_other i (a - 1) p.minds c.mind n) in
      let d : room_at room i p.minds ≤ room_at room i (slice_set p.minds (a - 1) c.mind) = omega (arith, after) in
      goes_some p (thought_by p a board c) (think k (at_mind i f p) a board input (slice_get (change i f p.minds) (a - 1))) d
      (λ stays.
      ap (think k (at_mind i f p) a board input) (get_other i (a - 1) f p.minds n ∙ is)
      ∙ ap (λ minds. Some (record { board = board; minds = minds; thoughts = slice_set p.thoughts (a - 1) (Some c.thought) })) (set_other i (a - 1) f p.minds c.mind n))

  thinks : (p : Platform V) (a : ℕ) (board : State) (input : Input) (o : Option V) → slice_get p.minds (a - 1) ≡ o →
      Goes f room i p (think k p a board input o) (think k (at_mind i f p) a board input (slice_get (change i f p.minds) (a - 1)))
  thinks p a board input None is = goes_none p _
  thinks p a board input (Some m) is = elim (same_or i (a - 1)) [
    | inl e ↦ thinks_here p a board input m e is
    | inr n ↦ thinks_there p a board input (Some m) n is
  ]

  senses : (p : Platform V) (a : ℕ) (s : Sensed × State) → Goes f room i p (after_sense k p a s) (after_sense k (at_mind i f p) a s)
  senses p a (Given input, board) = thinks p a board input (slice_get p.minds (a - 1)) refl
  senses p a (Left end, board) = goes_some p (with_board p board) _ (omega arith) (λ _. refl)
  senses p a (Ahead cycle lowest, board) = goes_none p _
  senses p a (Halted, board) = goes_none p _

  -- ---- a mind is told

  untold : (minds : List V) (a : ℕ) (o : Option V) → tell k minds a o None ≡ minds
  untold minds a None = refl
  untold minds a (Some m) = refl

  -- what is told to the mind at one place
  abbrev Tells : List V → ℕ → Option V → Option Feedback → Type 0
  Tells minds a o b = (room_at room i (tell k minds a o b) ≡ room_at room i minds)
      × (tell k (change i f minds) a (slice_get (change i f minds) (a - 1)) b ≡ change i f (tell k minds a o b))

  tells_here : (minds : List V) (a : ℕ) (m : V) (b : Feedback) → i ≡ a - 1 → slice_get minds (a - 1) ≡ Some m → Tells minds a (Some m) (Some b)
  tells_here minds a m b e is =
      let there : slice_get minds i ≡ Some m = ap (slice_get minds) e ∙ is in
      let g : slice_get (change i f minds) (a - 1) ≡ Some (f m) = ap (slice_get (change i f minds)) (sym e) ∙ get_changed i f minds m there in (
        ap (λ x. room_at room i (slice_set minds x (k.took m b))) (sym e) ∙ ap (room_or room) (get_set i minds (k.took m b) m there) ∙ unseen.told_room m b ∙ sym (ap (room_or room) there),
        ap (λ x. tell k (change i f minds) a x (Some b)) g
            ∙ ap (slice_set (change i f minds) (a - 1)) (unseen.told m b)
            ∙ ap (λ x. slice_set (change i f minds) x (f (k.took m b))) (sym e)
            ∙ set_changed i f minds (k.took m b)
            ∙ ap (λ x. change i f (slice_set minds x (k.took m b))) e,
      )

  tells_there : (minds : List V) (a : ℕ) (o : Option V) (b : Feedback) → i ≢ a - 1 → slice_get minds (a - 1) ≡ o → Tells minds a o (Some b)
  tells_there minds a None b n is = (refl, ap (λ x. tell k (change i f minds) a x (Some b)) (get_other i (a - 1) f minds n ∙ is))
  tells_there minds a (Some m) b n is = (
    ap (room_or room) (get_set_other i (a - 1) minds (k.took m b) n),
    ap (λ x. tell k (change i f minds) a x (Some b)) (get_other i (a - 1) f minds n ∙ is) ∙ set_other i (a - 1) f minds (k.took m b) n,
  )

  tells_none : (minds : List V) (a : ℕ) (b : Feedback) → slice_get minds (a - 1) ≡ None → Tells minds a None (Some b)
  tells_none minds a b is = elim (same_or i (a - 1)) [
    | inl e ↦
        let c : change i f minds ≡ minds = get_none i f minds (ap (slice_get minds) e ∙ is) in
        (refl, ap (λ x. tell k x a (slice_get x (a - 1)) (Some b)) c ∙ ap (λ x. tell k minds a x (Some b)) is ∙ sym c)
    | inr n ↦ tells_there minds a None b n is
  ]

  tells : (minds : List V) (a : ℕ) (o : Option V) (b : Option Feedback) → slice_get minds (a - 1) ≡ o → Tells minds a o b
  tells minds a o None is =
      (ap (room_at room i) (untold minds a o), untold (change i f minds) a (slice_get (change i f minds) (a - 1)) ∙ ap (change i f) (sym (untold minds a o)))
  tells minds a None (Some b) is = tells_none minds a b is
  tells minds a (Some m) (Some b) is = elim (same_or i (a - 1)) [
    | inl e ↦ tells_here minds a m b e is
    | inr n ↦ tells_there minds a (Some m) b n is
  ]

  -- ---- turns

  emits : (p : Platform V) (a : ℕ) (e : Option Feedback × State) → Goes f room i p (Some (after_emit k p a e)) (Some (after_emit k (at_mind i f p) a e))
  emits p a (feedback, board) =
      let t = tells p.minds a (slice_get p.minds (a - 1)) feedback refl in
      let same : room_at room i (tell k p.minds a (slice_get p.minds (a - 1)) feedback) ≡ room_at room i p.minds = t.0 in
      let least : room_at room i p.minds ≤ room_at room i (tell k p.minds a (slice_get p.minds (a - 1)) feedback) = omega (arith, same) in
      goes_some p (after_emit k p a (feedback, board)) (Some (after_emit k (at_mind i f p) a (feedback, board))) least
      (λ _. ap (λ minds. Some (record { board = board; minds = minds; thoughts = slice_set p.thoughts (a - 1) None })) t.1)

  finishes : (p : Platform V) (a : ℕ) (t : Option (Option Thought)) → Goes f room i p (after_thought k p a t) (after_thought k (at_mind i f p) a t)
  finishes p a None = goes_none p _
  finishes p a (Some None) = goes_none p _
  finishes p a (Some (Some (Acts outs))) = emits p a (emit p.board a outs)
  finishes p a (Some (Some Spent)) = goes_some p _ _ (omega arith) (λ _. refl)

  turns_in : (p : Platform V) (a : ℕ) (phase : Phase) → Goes f room i p (turn_in k p a phase) (turn_in k (at_mind i f p) a phase)
  turns_in p a Idle = senses p a (sense p.board a)
  turns_in p a Busy = finishes p a (slice_get p.thoughts (a - 1))
  turns_in p a (Gone end) = goes_none p _

  goes_if : (p : Platform V) (b : Bool) (o c : Option (Platform V)) → Goes f room i p o c → Goes f room i p (if b then o else None) (if b then c else None)
  goes_if p true o c h = h
  goes_if p false o c h = goes_none p _

  pub turns : (p : Platform V) (a : ℕ) → Goes f room i p (turn k p a) (turn k (at_mind i f p) a)
  turns p a = goes_if p (is_agent (length p.board.seats) a) _ _ (turns_in p a (seat_at p.board a).phase)

  -- ---- runs

  pub and_some : (o : Option (Platform V)) (g : Platform V → Option (Platform V)) (q : Platform V) → and_run g o ≡ Some q → (r : Platform V) × ((o ≡ Some r) × (g r ≡ Some q))
  and_some None g q e = absurd (none-some q e)
  and_some (Some r) g q e = (r, (refl, e))

  pub run_rises : (p q : Platform V) (schedule : List ℕ) → run k p schedule ≡ Some q → room_at room i p.minds ≤ room_at room i q.minds
  run_rises p q [] e =
      let P : Platform V → Type 0 = λ x. room_at room i p.minds ≤ room_at room i x.minds in
      subst P (same_Some p q e) (omega arith)
  run_rises p q (a ∷ schedule) e =
      let r = and_some (turn k p a) (λ x. run k x schedule) q e in
      let one = (turns p a r.0 r.1.0).0 in
      let more = run_rises r.0 q schedule r.1.1 in
      omega (arith, one, more)

  -- a run in which the room stays, with the changed mind
  pub run_longer : (p q : Platform V) (schedule : List ℕ) → run k p schedule ≡ Some q → room_at room i q.minds ≤ room_at room i p.minds → run k (at_mind i f p) schedule ≡ Some (at_mind i f q)
  run_longer p q [] e l = ap (λ x. Some (at_mind i f x)) (same_Some p q e)
  run_longer p q (a ∷ schedule) e l =
      let r = and_some (turn k p a) (λ x. run k x schedule) q e in
      let t = turns p a r.0 r.1.0 in
      let one = t.0 in
      let more = run_rises r.0 q schedule r.1.1 in
      let stays : room_at room i (r.0).minds ≡ room_at room i p.minds = omega (arith, one, more, l) in
      let last : room_at room i q.minds ≤ room_at room i (r.0).minds = omega (arith, one, l) in
      ap (and_run (λ x. run k x schedule)) (t.1 stays) ∙ run_longer r.0 q schedule r.1.1 last
