-- One more seat at the opening.
use Rattle.std.proofs.Common.{◌≡◌, ℕ, zero, suc, ◌-◌, ◌<◌, false, slice_get, replicate, List, [], ◌∷◌, ◌++◌, length, drop, take, sym, subst, ap, ◌∙◌, refl, length-append, arith}
use Rattle.crossbeam_queue.specs.Fifo.{Pushes}
use Rattle.crossbeam_queue.specs.Passes.{Pass, view, IsPassOf, IsSamePass}
use Rattle.mas_board_lists.proofs.Sums.{row_push}
use Rattle.mas_board.specs.declared.seats.AgentPlace.{AgentPlace}
use Rattle.mas_board.specs.Boards.{State, Noted, no_seat, seat_at, seat_or_none}
use Rattle.mas_board.specs.Seating.{Opens}
use Rattle.mas_board_turns.specs.declared.turn.Turn.{Turn}
use Rattle.mas_board_turns.specs.declared.view.SideView.{SideView}
use Rattle.mas_board_turns.specs.Views.{Opening, silent, bare}
use Rattle.mas_board_turns.specs.Steps.{of_first, opened, rest_of, one_of}
use Rattle.mas_board_turns.specs.Rule.{Holds}
use Rattle.mas_board_turns.proofs.Takes.{opens}
use Rattle.mas_baton.specs.declared.baton.Baton.{Baton}
use Rattle.mas_baton.specs.declared.seat.Seat.{Seat}
use Rattle.mas_baton.specs.Rule.{showing, IsFresh}
use Rattle.mas_baton.specs.Seats.{IsNew}
use Rattle.mas_baton.specs.Gathering.{Handing}

none_there : (n i : ℕ) → seat_or_none (slice_get (replicate n no_seat) i) ≡ no_seat
none_there zero i = refl
none_there (suc n) zero = refl
none_there (suc n) (suc i) = none_there n i

-- before the first turn no agent has begun a cycle
is_fresh : (x : Noted) → Opens x → x.schedule ≡ [] → IsFresh x
is_fresh x o e =
    let h = o e in
    let s : (a : ℕ) → seat_at x.state a ≡ no_seat = λ a. ap (λ (y : State). seat_at y a) h ∙ none_there (length x.state.names) (a - 1) in
    record { unplayed = e; idle = λ a. ap (λ (y : AgentPlace). y.phase) (s a); new = λ a. ap (λ (y : AgentPlace). y.cycle) (s a) }

-- the board comes into the queue
pub opens_board : (n p : ℕ) (v : SideView) (x : Noted) → v.started ≡ false → Pushes (Holds showing) n p v x (λ w. w ≡ opened (bare x))
opens_board n p v x s = opens showing n p v (bare x) x s refl tt

split_silent : (k n : ℕ) → k < n → silent (suc k) (n - k) ≡ (suc k, []) ∷ silent (suc (suc k)) (n - suc k)
split_silent k n l = let e : n - k ≡ suc (n - suc k) = omega arith in ap (silent (suc k)) e

module _ {A : Type 0} (b : Baton A) (board : Noted) where
  pub opening_first : (p : Pass Noted SideView) → IsPassOf b.line p → view p ≡ opened (bare board) → Opens board → board.schedule ≡ [] → Handing b board 0 p []
  opening_first p i e o u = record {
    pass = i;
    started = ap (λ (v : SideView). v.started) e;
    free = ap (λ (v : SideView). v.in_hand) e;
    left = ap (λ (v : SideView). v.turns) e ∙ ap (silent 1) (let d : length board.state.seats ≡ length board.state.seats - 0 = omega arith in d);
    first = ap (λ (v : SideView). v.first) e;
    fresh = is_fresh board o u;
    count = refl;
    made = tt;
  }

  new_seat : (k : ℕ) (p one : Pass Noted SideView) (seats : List (Seat A)) → Handing b board k p seats → k < length board.state.seats → IsPassOf b.line one → view one ≡ one_of (view p) →
      IsNew b board (suc k) (record { number = suc k; pass = one })
  new_seat k p one seats o l i e =
      let t : (view one).turns ≡ (suc k, []) ∷ [] = ap (λ (v : SideView). v.turns) e ∙ ap (take 1) (o.left ∙ split_silent k (length board.state.seats) l) in
      let first : (view one).first.board ≡ board = ap (λ (v : SideView). v.first.board) e ∙ ap (λ (x : Opening). x.board) o.first in
      record {
        seat = record {
          pass = i;
          sits = record {
            started = ap (λ (v : SideView). v.started) e ∙ o.started;
            held = ap (λ (v : SideView). v.in_hand) e ∙ o.free;
            turns = t ∙ ap (λ (r : List Turn). (suc k, r) ∷ []) (sym (ap of_first t));
          };
          fresh = subst IsFresh (sym first) o.fresh;
        };
        number = refl;
        silent = ap of_first t;
        first = first;
      }

  pub opening_next : (k : ℕ) (p q one : Pass Noted SideView) (seats : List (Seat A)) → Handing b board k p seats → k < length board.state.seats → IsSamePass p q → view q ≡ rest_of (view p) →
      IsPassOf b.line one → view one ≡ one_of (view p) → Handing b board (suc k) q (seats ++ record { number = suc k; pass = one } ∷ [])
  opening_next k p q one seats o l same e i d = record {
    pass = (same.0 ∙ o.pass.0, same.2 ∙ o.pass.1);
    started = ap (λ (v : SideView). v.started) e ∙ o.started;
    free = ap (λ (v : SideView). v.in_hand) e ∙ o.free;
    left = ap (λ (v : SideView). v.turns) e ∙ ap (drop 1) (o.left ∙ split_silent k (length board.state.seats) l);
    first = ap (λ (v : SideView). v.first) e ∙ o.first;
    fresh = o.fresh;
    count = (let c = o.count in let n = length-append seats (record { number = suc k; pass = one } ∷ []) in omega arith);
    made = row_push (IsNew b board) 1 (suc k) seats (record { number = suc k; pass = one }) o.made (let c = o.count in omega arith) (new_seat k p one seats o l i d);
  }
