-- A row in which the mind of an agent is one that stands for it.
use Rattle.std.proofs.Common.{ℕ, ◌≡◌, ◌+◌, ◌-◌, ◌≤◌, arith, Bool, true, false, nat_eq, List, length, slice_get, slice_set, Option, None, Some, refl, ap, sym, ◌∙◌, subst}
use Rattle.std.proofs.lemmas.Option.{same_Some, slice_get_within}
use Rattle.std.proofs.lemmas.Bool.{eqb-true}
use Rattle.mas_mind.specs.declared.mind.Thought.{Thought}
use Rattle.mas_mind.specs.Minds.{Kind}
use Rattle.mas_free.specs.declared.view.View.{View}
use Rattle.mas_free.specs.Alike.{Alike}
use Rattle.mas_free.specs.Free.{Free, Stage}
use Rattle.mas_free.specs.Covers.{Start, IsLike}
use Rattle.mas_free.proofs.Likes.{alike_same}
use Rattle.mas_explore_likes.specs.Likes.{AreAlike, HasMade}
use Rattle.mas_explore_space.specs.declared.held.Held.{Held}
use Rattle.mas_explore_space.specs.declared.row.Row.{Row}
use Rattle.mas_explore_space.specs.declared.row.Seat.{Seat}
use Rattle.mas_explore_space.specs.declared.row.Stance.{Stance}
use Rattle.mas_explore_space.specs.declared.row.Stance.TheVariants as stance
use Rattle.mas_explore_space.specs.Rows.{StanceHolds, SeatHolds, RowHolds, IsMover, HasMoved, Stands, with_seat}
use Rattle.mas_explore_space.specs.Settling.{MayStand, LikeHolds, IsRowLike, NextStands}
use Rattle.mas_explore_space.proofs.Helds.{grows_same}
use Rattle.mas_explore_space.proofs.Puts.{IsPut, put_set, put_same}
use Rattle.mas_explore_space.proofs.Rows.{row_put}

-- what an agent does next is the same with a mind that awaits feedback where the other does
stance_for : {V : Type 0} (k : Kind V) (agents a : ℕ) (thoughts : List Thought) (m n : V) (stage : Stage) (st : Stance) → k.awaits m ≡ k.awaits n →
    StanceHolds k agents a thoughts m stage st → StanceHolds k agents a thoughts n stage st
stance_for k agents a thoughts m n stage stance.Idle e h = (h.0, sym e ∙ h.1)
stance_for k agents a thoughts m n stage (stance.Busy t) e h =
    record { outs = h.outs; at = h.at; some = h.some; stage_is = h.stage_is; awaits = sym e ∙ h.awaits; lawful = h.lawful }
stance_for k agents a thoughts m n stage stance.Spent e h = h
stance_for k agents a thoughts m n stage (stance.Left end) e h = h

module _ {V : Type 0} (k : Kind V) (s : Start V) (h : Held) (most : ℕ) (row : Row) (a : ℕ) (seat : Seat) (mover : IsMover k s h most row a seat) where
  pub made_at : HasMade k s.minds h.minds seat.mind most
  made_at = (let x = mover.stands.holds.each (a - 1) seat mover.seat_at in record { mind = x.mind; at = x.mind_at; made = x.made })

  abbrev pub seat-with : ℕ → Seat
  seat-with n = record { mind = n; mail = seat.mail; stance = seat.stance }

  module _ (v : View) (n : ℕ) (may : MayStand k v s.minds h.minds most seat.mind n) (f : Free V) (holds : RowHolds k s h most row f) where
    here : SeatHolds k s h most f (a - 1) seat
    here = holds.each (a - 1) seat mover.seat_at

    are-alike : AreAlike k v here.mind may.other
    are-alike =
        let same : may.mind ≡ here.mind = same_Some may.mind here.mind (sym may.at ∙ here.mind_at) in
        let P = λ (z : V). AreAlike k v z may.other in
        subst P same may.alike

    abbrev like : Free V
    like = record f { minds = slice_set f.minds (a - 1) may.other }

    seats : IsPut row.seats (slice_set row.seats (a - 1) (seat-with n)) (a - 1) (seat-with n)
    seats = put_set row.seats (a - 1) (seat-with n) (slice_get_within row.seats (a - 1) seat mover.seat_at)

    minds : IsPut f.minds like.minds (a - 1) may.other
    minds = put_set f.minds (a - 1) may.other (slice_get_within f.minds (a - 1) here.mind here.mind_is)

    there : SeatHolds k s h most like (a - 1) (seat-with n)
    there = record {
      mind = may.other;
      mind_at = may.other_at;
      mind_is = minds.here;
      box = here.box;
      box_at = here.box_at;
      box_is = here.box_is;
      stage = here.stage;
      stage_is = here.stage_is;
      me = sym are-alike.one.me ∙ here.me;
      agents = sym are-alike.one.agents ∙ here.agents;
      made = may.made;
      delivered = here.delivered;
      holds = stance_for k (length s.names) (a - 1 + 1) h.minds.thoughts here.mind may.other here.stage seat.stance are-alike.one.awaits here.holds;
    }

    minds-alike : (other : ℕ) (p q : V) (b : Bool) → nat_eq (a - 1) other ≡ b → slice_get f.minds other ≡ Some p → slice_get like.minds other ≡ Some q → Alike k v p q
    minds-alike other p q true e d g =
        let same : a - 1 ≡ other = eqb-true (a - 1) other e in
        let A = λ (i : ℕ). slice_get f.minds i ≡ Some p in
        let B = λ (i : ℕ). slice_get like.minds i ≡ Some q in
        let first : here.mind ≡ p = same_Some here.mind p (sym here.mind_is ∙ subst A (sym same) d) in
        let second : may.other ≡ q = same_Some may.other q (sym minds.here ∙ subst B (sym same) g) in
        let P = λ (z : V). Alike k v z q in
        let Q = λ (z : V). Alike k v here.mind z in
        subst P first (subst Q second are-alike.alike)
    minds-alike other p q false e d g =
        let same : p ≡ q = same_Some p q (sym d ∙ sym (minds.others other e) ∙ g) in
        let P = λ (z : V). Alike k v p z in
        subst P same (alike_same k v p)

    is-like : IsLike k v f like
    is-like = record {
      names = refl;
      world = refl;
      boxes = refl;
      stop = refl;
      stages = refl;
      number = sym minds.number;
      minds = λ other p q d g. minds-alike other p q (nat_eq (a - 1) other) refl d g;
    }

    pub row_like : LikeHolds k v s h most (with_seat row (a - 1) (seat-with n)) f
    row_like = record {
      like = like;
      holds = row_put k s h h most most row (with_seat row (a - 1) (seat-with n)) f like (a - 1) (seat-with n) may.other here.box here.stage (grows_same k s h) (omega arith) holds
          seats minds (put_same f.boxes (a - 1) here.box here.box_is) (put_same f.stages (a - 1) here.stage here.stage_is) refl holds.world_at holds.stop there;
      is = is-like;
    }

-- the same of a row that is given
pub settled_row : {V : Type 0} (k : Kind V) (v : View) (s : Start V) (h : Held) (most : ℕ) (row other : Row) (a : ℕ) (seat : Seat) (n : ℕ) → IsMover k s h most row a seat →
    MayStand k v s.minds h.minds most seat.mind n → other ≡ with_seat row (a - 1) (record { mind = n; mail = seat.mail; stance = seat.stance }) → IsRowLike k v s h most row other
settled_row k v s h most row other a seat n mover may e f holds =
    let P = λ (r : Row). LikeHolds k v s h most r f in subst P (sym e) (row_like k s h most row a seat mover v n may f holds)

-- what a move led to stands for a state
pub next_stands : {V : Type 0} (k : Kind V) (s : Start V) (old new : Held) (most : ℕ) (row : Row) (a : ℕ) (to : Option Row) → Stands k s old most row → HasMoved k s old new most row a to →
    NextStands k s new (most + 1) to
next_stands k s old new most row a None x h = tt
next_stands k s old new most row a (Some next) x h = (let c = h.moves x.state x.holds in record { state = c.next; holds = c.holds })
