-- Rows and the states for which they stand.
use Rattle.std.proofs.Common.{ℕ, zero, suc, ◌≡◌, ◌+◌, ◌-◌, ◌<◌, ◌≤◌, arith, Bool, true, false, if◌then◌else◌, nat_eq, is_some, List, [], ◌∷◌, length, map, slice_get, slice_set, Option, None, Some, option_map, refl, ap, sym, ◌∙◌, subst}
use Rattle.std.proofs.lemmas.Option.{same_Some, none-some, slice_get_within, slice_get-map}
use Rattle.std.proofs.lemmas.Bool.{eqb-true}
use Rattle.mas_mind.specs.declared.mind.Message.{Message}
use Rattle.mas_mind.specs.declared.mind.Thought.{Thought}
use Rattle.mas_mind.specs.declared.mind.Thought.TheVariants as thought
use Rattle.mas_mind.specs.Minds.{Kind, IsAgent}
use Rattle.mas_world.specs.Worlds.{World}
use Rattle.mas_free.specs.Free as free
use Rattle.mas_free.specs.Free.{Free, Stage, carry_nothing}
use Rattle.mas_free.specs.Covers.{Start}
use Rattle.mas_explore_minds.specs.Minds.{or_none, Stay}
use Rattle.mas_explore_space.specs.declared.held.Held.{Held}
use Rattle.mas_explore_space.specs.declared.row.Row.{Row}
use Rattle.mas_explore_space.specs.declared.row.Seat.{Seat}
use Rattle.mas_explore_space.specs.declared.row.Stance.{Stance}
use Rattle.mas_explore_space.specs.declared.row.Stance.TheVariants as stance
use Rattle.mas_explore_space.specs.Held.{minds_of, worlds_of, Grows}
use Rattle.mas_explore_space.specs.Rows.{world_or, put_first, minds_at, stage_in, stage_of, box_at, stage_at, free_of, met_of, IsBusy, StanceHolds, SeatHolds, RowHolds, Stands}
use Rattle.mas_explore_space.proofs.Puts.{IsPut, item_at}

-- ---- rows go on as more is held

module _ {V : Type 0} (k : Kind V) (s : Start V) where
  pub stance_on : (agents a : ℕ) (old new : List Thought) (m : V) (stage : Stage) (st : Stance) → Stay old new → StanceHolds k agents a old m stage st → StanceHolds k agents a new m stage st
  stance_on agents a old new m stage stance.Idle more h = h
  stance_on agents a old new m stage (stance.Busy t) more h = record {
    outs = h.outs;
    at = more t (thought.Outs h.outs) h.at;
    some = h.some;
    stage_is = h.stage_is;
    awaits = h.awaits;
    lawful = h.lawful;
  }
  stance_on agents a old new m stage stance.Spent more h = h
  stance_on agents a old new m stage (stance.Left end) more h = h

  -- the same at a state that is the same at this place
  pub seat_on : (old new : Held) (least most : ℕ) (f g : Free V) (place : ℕ) (seat : Seat) → Grows k s old new → least ≤ most → slice_get g.minds place ≡ slice_get f.minds place →
      slice_get g.boxes place ≡ slice_get f.boxes place → slice_get g.stages place ≡ slice_get f.stages place → SeatHolds k s old least f place seat → SeatHolds k s new most g place seat
  seat_on old new least most f g place seat grows l minds boxes stages x = record {
    mind = x.mind;
    mind_at = grows.minds.minds seat.mind x.mind x.mind_at;
    mind_is = minds ∙ x.mind_is;
    box = x.box;
    box_at = grows.minds.boxes seat.mail x.box x.box_at;
    box_is = boxes ∙ x.box_is;
    stage = x.stage;
    stage_is = stages ∙ x.stage_is;
    me = x.me;
    agents = x.agents;
    made = (let n = x.made in omega arith);
    delivered = x.delivered;
    holds = stance_on (length s.names) (place + 1) old.minds.thoughts new.minds.thoughts x.mind x.stage seat.stance grows.minds.thoughts x.holds;
  }

  pub row_on : (old new : Held) (least most : ℕ) (row : Row) (f : Free V) → Grows k s old new → least ≤ most → RowHolds k s old least row f → RowHolds k s new most row f
  row_on old new least most row f grows l h = record {
    names = h.names;
    number = h.number;
    world_at = grows.worlds row.world f.world h.world_at;
    stop = h.stop;
    boxes = h.boxes;
    minds = h.minds;
    stages = h.stages;
    each = λ place seat e. seat_on old new least most f f place seat grows l refl refl refl (h.each place seat e);
  }

  -- ---- one seat is changed

  pub row_put : (old new : Held) (least most : ℕ) (row next : Row) (f g : Free V) (place : ℕ) (seat : Seat) (m : V) (box : List Message) (stage : Stage) → Grows k s old new → least ≤ most →
      RowHolds k s old least row f → IsPut row.seats next.seats place seat → IsPut f.minds g.minds place m → IsPut f.boxes g.boxes place box → IsPut f.stages g.stages place stage → g.names ≡ f.names →
      slice_get (worlds_of s new) next.world ≡ Some g.world → g.stop ≡ next.stop → SeatHolds k s new most g place seat → RowHolds k s new most next g
  row_put old new least most row next f g place seat m box stage grows l h seats minds boxes stages names world stop x = record {
    names = names ∙ h.names;
    number = seats.number ∙ h.number;
    world_at = world;
    stop = stop;
    boxes = boxes.number ∙ h.boxes ∙ sym seats.number;
    minds = minds.number ∙ h.minds ∙ sym seats.number;
    stages = stages.number ∙ h.stages ∙ sym seats.number;
    each = λ other y e. by other y (nat_eq place other) refl e;
  }
    where
      by : (other : ℕ) (y : Seat) (b : Bool) → nat_eq place other ≡ b → slice_get next.seats other ≡ Some y → SeatHolds k s new most g other y
      by other y true q e =
          let same : place ≡ other = eqb-true place other q in
          let P = λ (i : ℕ). slice_get next.seats i ≡ Some y in
          let here : seat ≡ y = same_Some seat y (sym seats.here ∙ subst P (sym same) e) in
          let Q = λ (i : ℕ). SeatHolds k s new most g i y in
          let R = λ (z : Seat). SeatHolds k s new most g place z in
          subst Q same (subst R here x)
      by other y false q e = seat_on old new least most f g other y grows l (minds.others other q) (boxes.others other q) (stages.others other q) (h.each other y (sym (seats.others other q) ∙ e))

-- ---- a row stands for one state

mapped : {X Y : Type 0} (g : X → Y) (xs : List X) (ys : List Y) → length ys ≡ length xs → ((i : ℕ) (x : X) → slice_get xs i ≡ Some x → slice_get ys i ≡ Some (g x)) → ys ≡ map g xs
mapped g [] [] n h = refl
mapped g [] (y ∷ ys) n h = absurd (omega arith)
mapped g (x ∷ xs) [] n h = absurd (omega arith)
mapped {X} {Y} g (x ∷ xs) (y ∷ ys) n h =
    let e : y ≡ g x = same_Some y (g x) (h 0 x refl) in
    let f : ys ≡ map g xs = mapped g xs ys (omega arith) (λ i z q. h (suc i) z q) in
    λ j. e j ∷ f j

-- this seat has this mind
pub record HasMind {V : Type 0} (minds : List V) (seat : Seat) (o : Option V) : Type 0 where
  pub mind : V
  pub is : o ≡ Some mind
  pub at : slice_get minds seat.mind ≡ Some mind

found : {V : Type 0} (minds : List V) (seats : List Seat) (ms : List V) → length ms ≡ length seats → ((i : ℕ) (seat : Seat) → slice_get seats i ≡ Some seat → HasMind minds seat (slice_get ms i)) →
    ms ≡ minds_at minds seats
found minds [] [] n h = refl
found minds [] (m ∷ ms) n h = absurd (omega arith)
found minds (seat ∷ seats) [] n h = absurd (omega arith)
found {V} minds (seat ∷ seats) (m ∷ ms) n h =
    let x = h 0 seat refl in
    let e : Some m ≡ slice_get minds seat.mind = x.is ∙ sym x.at in
    let f : ms ≡ minds_at minds seats = found minds seats ms (omega arith) (λ i z q. h (suc i) z q) in
    λ j. put_first (e j) (f j)

module _ {V : Type 0} (k : Kind V) (s : Start V) where
  stage-is : (agents a : ℕ) (thoughts : List Thought) (m : V) (stage : Stage) (st : Stance) → StanceHolds k agents a thoughts m stage st → stage ≡ stage_of thoughts st
  stage-is agents a thoughts m stage stance.Idle h = h.0
  stage-is agents a thoughts m stage (stance.Busy t) h =
      h.stage_is ∙ sym (ap stage_in h.at ∙ ap (λ (b : Bool). if b then free.Idle else free.Busy h.outs) h.some)
  stage-is agents a thoughts m stage stance.Spent h = h
  stage-is agents a thoughts m stage (stance.Left end) h = h

  pub row_free : (h : Held) (most : ℕ) (row : Row) (f : Free V) → RowHolds k s h most row f → f ≡ free_of k s h row
  row_free h most row f x =
      let world : f.world ≡ world_or s.world (slice_get (worlds_of s h) row.world) = sym (ap (world_or s.world) x.world_at) in
      let boxes : f.boxes ≡ map (box_at h.minds.boxes) row.seats =
      mapped (box_at h.minds.boxes) row.seats f.boxes x.boxes (λ i seat e. (let y = x.each i seat e in y.box_is ∙ ap Some (sym (ap or_none y.box_at)))) in
      let minds : f.minds ≡ minds_at (minds_of k s h) row.seats =
      found (minds_of k s h) row.seats f.minds x.minds (λ i seat e. (let y = x.each i seat e in record { mind = y.mind; is = y.mind_is; at = y.mind_at })) in
      let stages : f.stages ≡ map (stage_at h.minds.thoughts) row.seats =
      mapped (stage_at h.minds.thoughts) row.seats f.stages x.stages
      (λ i seat e. (let y = x.each i seat e in y.stage_is ∙ ap Some (stage-is (length s.names) (i + 1) h.minds.thoughts y.mind y.stage seat.stance y.holds))) in
      λ j. record { names = x.names j; world = world j; boxes = boxes j; stop = x.stop j; minds = minds j; stages = stages j }

  pub free_holds : (h : Held) (most : ℕ) (row : Row) → Stands k s h most row → RowHolds k s h most row (free_of k s h row)
  free_holds h most row x = (let P = λ (f : Free V). RowHolds k s h most row f in subst P (row_free h most row x.state x.holds) x.holds)
