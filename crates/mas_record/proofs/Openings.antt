-- One more ticket at the opening.
use Rattle.std.proofs.Common.{◌≡◌, ℕ, suc, ◌-◌, ◌<◌, List, [], ◌∷◌, ◌++◌, length, drop, take, false, subst, sym, ap, ◌∙◌, refl, length-append, arith}
use Rattle.crossbeam_queue.specs.Passes.{Pass, view, IsPassOf, IsSamePass}
use Rattle.mas_board_lists.proofs.Sums.{row_push}
use Rattle.mas_record_disk.specs.Disk.{DiskState}
use Rattle.mas_board_turns.specs.declared.turn.Turn.{Turn}
use Rattle.mas_record.specs.declared.deck.Deck.{Deck}
use Rattle.mas_record.specs.declared.recorder.Recorder.{Recorder}
use Rattle.mas_record.specs.declared.side.DeckView.{DeckView}
use Rattle.mas_record.specs.declared.ticket.Ticket.{Ticket}
use Rattle.mas_board_turns.specs.Views.{Opening, silent}
use Rattle.mas_board_turns.specs.Steps.{of_first}
use Rattle.mas_record.specs.Views.{opened, rest_of, one_of}
use Rattle.mas_record.specs.Tickets.{IsNew}
use Rattle.mas_record.specs.Rule.{IsKept, opening, shown, showing}
use Rattle.crossbeam_queue.specs.Fifo.{Pushes}
use Rattle.mas_record.specs.Standing.{DeckHolds}
use Rattle.mas_board_turns.proofs.Takes.{opens}
use Rattle.mas_record.specs.Gathering.{Handing}
use Rattle.mas_record.proofs.Standing.{deck_opens}

split_silent : (k n : ℕ) → k < n → silent (suc k) (n - k) ≡ (suc k, []) ∷ silent (suc (suc k)) (n - suc k)
split_silent k n l = let e : n - k ≡ suc (n - suc k) = omega arith in ap (silent (suc k)) e

module _ {A D : Type 0} (b : Recorder A D) (o : Opening) where
  new_seat : (k : ℕ) (p one : Pass (Deck A D) (DeckView D)) (seats : List (Ticket A D)) → Handing b o k p seats → k < length o.board.state.seats → IsPassOf b.line one
      → view one ≡ one_of (view p) →
      IsNew b o (suc k) (record { number = suc k; pass = one })
  new_seat k p one seats h l i e =
      let t : (view one).side.turns ≡ (suc k, []) ∷ [] = ap (λ (v : DeckView D). v.side.turns) e ∙ ap (take 1) (h.left ∙ split_silent k (length o.board.state.seats) l) in
      record {
        ticket = record {
          pass = i;
          sits = record {
            started = ap (λ (v : DeckView D). v.side.started) e ∙ h.started;
            held = ap (λ (v : DeckView D). v.side.in_hand) e ∙ h.free;
            turns = t ∙ ap (λ (r : List Turn). (suc k, r) ∷ []) (sym (ap of_first t));
          };
        };
        number = refl;
        silent = ap of_first t;
        first = ap (λ (v : DeckView D). v.side.first) e ∙ h.first;
      }

  pub opening_next : (k : ℕ) (p q one : Pass (Deck A D) (DeckView D)) (seats : List (Ticket A D)) → Handing b o k p seats → k < length o.board.state.seats
      → IsSamePass p q → view q ≡ rest_of (view p) →
      IsPassOf b.line one → view one ≡ one_of (view p) → Handing b o (suc k) q (seats ++ record { number = suc k; pass = one } ∷ [])
  opening_next k p q one seats h l same e i d = record {
    pass = (same.0 ∙ h.pass.0, same.2 ∙ h.pass.1);
    started = ap (λ (v : DeckView D). v.side.started) e ∙ h.started;
    free = ap (λ (v : DeckView D). v.side.in_hand) e ∙ h.free;
    left = ap (λ (v : DeckView D). v.side.turns) e ∙ ap (drop 1) (h.left ∙ split_silent k (length o.board.state.seats) l);
    first = ap (λ (v : DeckView D). v.side.first) e ∙ h.first;
    count = (let c = h.count in let n = length-append seats (record { number = suc k; pass = one } ∷ []) in omega arith);
    made = row_push (IsNew b o) 1 (suc k) seats (record { number = suc k; pass = one }) h.made (let c = h.count in omega arith)
        (new_seat k p one seats h l i d);
  }

-- board and journal come into the queue
pub opens_deck : {A D : Type 0} (state : D → DiskState) (n p : ℕ) (v : DeckView D) (x y : Deck A D) → v.side.started ≡ false → x ≡ y → shown y ≡ y.board
    → IsKept state (opening state y) y → Pushes (DeckHolds state) n p v x (λ w. w ≡ opened (opening state x))
opens_deck {A} {D} state n p v x y s e b k =
    deck_opens state n p v (opening state x) x s
    (opens (showing state) n p v.side (opening state x) x s (subst (λ (u : Deck A D). shown u ≡ u.board) (sym e) b)
    (subst (λ (u : Deck A D). IsKept state (opening state u) u) (sym e) k))
