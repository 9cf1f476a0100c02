-- The calls of one agent's go.
use Rattle.std.proofs.Common.{ℕ, ◌≡◌, Bool, true, false, ◌⊎◌, inl, inr, length, Option, None, Some, refl, ap, sym, ◌∙◌, subst}
use Rattle.mas_mind.specs.declared.mind.Message.{Message}
use Rattle.mas_mind.specs.Minds.{Kind, IsAgent}
use Rattle.mas_board.specs.Boards.{seat_at, is_gone}
use Rattle.mas_core.specs.Platform.{Platform, turn}
use Rattle.mas_core.specs.Rounds.{IsNext}
use Rattle.mas_core.proofs.Goes.{LeftBy, Begun, begin, turn-same, seat-after}
use Rattle.mas_core.proofs.Queues.{finish-on}
use Rattle.mas_sites_stand.specs.Seats.{seated}
use Rattle.mas_sites_scripts.specs.Sites.{Sited, with_minds, Turned, IsMade}
use Rattle.mas_sites_rounds.specs.Rounds.{Went}
use Rattle.mas_sites_rounds.proofs.Moving.{next_fed, turned_minds}

-- ---- both turns are made

none_is_some : {A : Type 0} (o : Option A) (x : A) → o ≡ None → o ≡ Some x → ⊥
none_is_some None x e f = cc
none_is_some (Some y) x e f = cc

made_by : {A : Type 0} (made : Bool) (o : Option A) (x : A) → (made ≡ false → o ≡ None) → o ≡ Some x → made ≡ true
made_by true o x h e = refl
made_by false o x h e = absurd (none_is_some o x (h refl) e)

first_by : {V : Type 0} (k : Kind V) (p : Platform V) (a limit : ℕ) → LeftBy k p a limit ⊎ Begun k p a limit → (q : Platform V) × (turn k p a ≡ Some q)
first_by k p a limit (inl l) = (l.platform, l.to.turn)
first_by k p a limit (inr b) = (b.platform, b.to.turn)

second_by : {V : Type 0} (k : Kind V) (p middle : Platform V) (a limit : ℕ) → IsAgent (length p.board.seats) a → turn k p a ≡ Some middle → is_gone (seat_at middle.board a).phase ≡ false →
    LeftBy k p a limit ⊎ Begun k p a limit → (q : Platform V) × (turn k middle a ≡ Some q)
second_by k p middle a limit j t s (inl l) =
    let to = turn-same k p a limit l.platform middle l.seat l.to t in
    let e : is_gone (seat_at middle.board a).phase ≡ true = ap (λ x. is_gone x.phase) (seat-after k p a limit middle l.seat j to) ∙ l.gone in
    cc
second_by k p middle a limit j t s (inr b) = let f = finish-on k p middle a limit j b t in (f.1.platform, f.1.to.turn)

module _ {V C : Type 0} (k : Kind V) (got : C → ℕ → Option Message → C → Type 0) (put : C → Message → C → Type 0) where
  pub first_made : (from to : C) (old new : Sited V) (a : ℕ) (made : Bool) → IsNext old.platform a → IsMade k got put from to old new a made → made ≡ true
  first_made from to old new a made n h =
      let q = first_by (seated k) old.platform a old.platform.board.cycles (begin (seated k) old.platform a old.platform.board.cycles n.sized n) in
      made_by made (turn (seated k) old.platform a) q.0 h.none q.1

  pub second_made : (from between to : C) (old middle new : Sited V) (a : ℕ) (made : Bool) → IsNext old.platform a → Turned k got put from between old middle a →
      is_gone (seat_at middle.platform.board a).phase ≡ false → IsMade k got put between to middle new a made → made ≡ true
  second_made from between to old middle new a made n t s h =
      let p = with_minds old.platform t.after.minds in
      let m = next_fed old.platform t.after.minds a (turned_minds k got put from between old middle a t) n in
      let q = second_by (seated k) p middle.platform a p.board.cycles m.agent t.turn s (begin (seated k) p a p.board.cycles m.sized m) in
      made_by made (turn (seated k) middle.platform a) q.0 h.none q.1

  -- ---- what the go leaves

  pub went_none : (from : C) (old : Sited V) (a : ℕ) → is_gone (seat_at old.platform.board a).phase ≡ true → Went k got put from from old old a
  went_none from old a g = record { way = inl (record { gone = g; same = refl; carrier = refl }); along = λ board minds h. h }

  pub went_once : (from to : C) (old new : Sited V) (a : ℕ) (made : Bool) → IsNext old.platform a → is_gone (seat_at old.platform.board a).phase ≡ false →
      IsMade k got put from to old new a made → is_gone (seat_at new.platform.board a).phase ≡ true → Went k got put from to old new a
  went_once from to old new a made n here h over = record {
    way = inr (inl (record { here = here; turn = h.turned (first_made from to old new a made n h); over = over }));
    along = h.along;
  }

  pub went_twice : (from between to : C) (old middle new : Sited V) (a : ℕ) (made again : Bool) → IsNext old.platform a → is_gone (seat_at old.platform.board a).phase ≡ false →
      IsMade k got put from between old middle a made → is_gone (seat_at middle.platform.board a).phase ≡ false → IsMade k got put between to middle new a again →
      Went k got put from to old new a
  went_twice from between to old middle new a made again n here h stays g =
      let t = h.turned (first_made from between old middle a made n h) in
      record {
        way = inr (inr (record {
          here = here;
          middle = middle;
          between = between;
          first = t;
          stays = stays;
          second = g.turned (second_made from between to old middle new a again n t stays g);
        }));
        along = λ board minds x. g.along board minds (h.along board minds x);
      }

  pub same_agent : (from to : C) (old new : Sited V) (a b : ℕ) (made : Bool) → IsMade k got put from to old new a made → IsAgent (length old.platform.board.seats) b → IsAgent (length new.platform.board.seats) b
  same_agent from to old new a b made h j = subst (λ n. IsAgent n b) (sym h.number) j
