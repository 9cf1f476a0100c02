-- Tickets and minds, put together and taken apart.
use Rattle.std.proofs.Common.{◌≡◌, ℕ, zero, suc, ◌+◌, ◌-◌, ◌<◌, ◌≤◌, slice_get, Option, None, List, [], ◌∷◌, ◌++◌, length, sym, refl, ap, ◌∙◌, subst, append-nil, append_assoc, length-append, arith}
use Rattle.std.specs.Prelude.{reverse}
use Rattle.std.proofs.lemmas.List.{map-append, reverse-append, reverse-reverse, length-reverse}
use Rattle.asl_term.specs.Spare.{WithSpare}
use Rattle.mas_board_lists.specs.Lists.{Each}
use Rattle.mas_board_lists.proofs.Sums.{each_append, each_front}
use Rattle.mas_mind.specs.declared.mind.Thought.{Thought}
use Rattle.mas_record.specs.declared.ticket.Ticket.{Ticket}
use Rattle.mas_record_rounds.specs.declared.sharer.Sharer.{Sharer}
use Rattle.mas_record_rounds.specs.declared.share.Share.{Share}
use Rattle.mas_record_rounds.specs.declared.share.Waiting.{Waiting}
use Rattle.mas_record_rounds.specs.Dealing.{HasRoom, ArePlaces, AreWaiting, Parted, waits, sharer_of, dealt, all_of, tickets_of, minds_of}

-- ---- lists

first_last : {T : Type 0} (xs : List T) (x : T) → reverse (xs ++ x ∷ []) ≡ x ∷ reverse xs
first_last xs x = reverse-append xs (x ∷ [])

each_reverse : {T : Type 0} (P : T → Type 0) (xs : List T) → Each P xs → Each P (reverse xs)
each_reverse P [] h = tt
each_reverse P (x ∷ xs) h = subst (Each P) (sym (reverse-append (x ∷ []) xs)) (each_append P (reverse xs) (x ∷ []) (each_reverse P xs h.1) (h.0, tt))

snoc_length : {T : Type 0} (xs : List T) (x : T) → length (xs ++ x ∷ []) ≡ suc (length xs)
snoc_length [] x = refl
snoc_length (y ∷ xs) x = ap suc (snoc_length xs x)

module _ {V A D : Type 0} where
  -- ---- those that wait

  waiting_by : (minds : List V) (thoughts : List (Option Thought)) (places : List (WithSpare (Sharer V A D))) → length thoughts ≡ length minds
      → length places ≡ length minds → Each (HasRoom 1) places → AreWaiting minds thoughts (waits minds thoughts places)
  waiting_by [] thoughts places n c h = record { minds_are = refl; thoughts_are = none thoughts n; places = tt }
    where
      none : (l : List (Option Thought)) → length l ≡ 0 → [] ≡ l
      none [] e = refl
      none (x ∷ l) e = absurd (omega arith)
  waiting_by (m ∷ minds) [] places n c h = absurd (omega arith)
  waiting_by (m ∷ minds) (t ∷ thoughts) [] n c h = absurd (omega arith)
  waiting_by (m ∷ minds) (t ∷ thoughts) (p ∷ places) n c h =
      let r = waiting_by minds thoughts places (omega arith) (omega arith) h.1 in
      record {
        minds_are = ap (λ (l : List V). m ∷ l) r.minds_are;
        thoughts_are = ap (λ (l : List (Option Thought)). t ∷ l) r.thoughts_are;
        places = (h.0, r.places);
      }

  pub all_wait : (minds : List V) (thoughts : List (Option Thought)) (places : List (WithSpare (Sharer V A D))) (waiting : List (Waiting V A D)) (n : ℕ)
      → length thoughts ≡ length minds → n ≡ length minds → ArePlaces n places → waiting ≡ waits minds thoughts places
      → AreWaiting minds thoughts waiting
  all_wait minds thoughts places waiting n c d h e = subst (AreWaiting minds thoughts) (sym e) (waiting_by minds thoughts places c (h.count ∙ d) h.each)

  -- ---- dealing

  all_snoc : (ss : List (Share V A D)) (s : Share V A D) → all_of (ss ++ s ∷ []) ≡ all_of ss ++ s.sharers
  all_snoc [] s = append-nil s.sharers
  all_snoc (x ∷ ss) s = ap (λ (l : List (Sharer V A D)). x.sharers ++ l) (all_snoc ss s) ∙ sym (append_assoc x.sharers (all_of ss) s.sharers)

  -- these tickets and those that wait are left, the last one first
  pub record Dealing (tickets : List (Ticket A D)) (waiting : List (Waiting V A D)) (shares : WithSpare (Share V A D))
      (ts : List (Ticket A D)) (ws : List (Waiting V A D)) : Type 0 where
    pub is : dealt tickets waiting ≡ all_of shares.list ++ dealt (reverse ts) (reverse ws)
    pub count : length ws ≡ length ts
    pub places : Each (λ (w : Waiting V A D). HasRoom 1 w.place) ws
    pub room : length ts ≤ shares.spare

  pub deal_first : (tickets ts : List (Ticket A D)) (waiting ws : List (Waiting V A D)) (shares : WithSpare (Share V A D)) → HasRoom (length tickets) shares
      → length waiting ≡ length tickets → Each (λ (w : Waiting V A D). HasRoom 1 w.place) waiting → ts ≡ reverse tickets → ws ≡ reverse waiting
      → Dealing tickets waiting shares ts ws
  deal_first tickets ts waiting ws shares r n h e d = record {
    is = sym (λ i. all_of (r.empty i) ++ dealt (back_t i) (back_w i));
    count = ap length d ∙ length-reverse waiting ∙ n ∙ sym (ap length e ∙ length-reverse tickets);
    places = subst (Each (λ (w : Waiting V A D). HasRoom 1 w.place)) (sym d) (each_reverse (λ (w : Waiting V A D). HasRoom 1 w.place) waiting h);
    room = (let f = r.room_for in let g = ap length e ∙ length-reverse tickets in omega arith);
  }
    where
      back_t : reverse ts ≡ tickets
      back_t = ap reverse e ∙ reverse-reverse tickets

      back_w : reverse ws ≡ waiting
      back_w = ap reverse d ∙ reverse-reverse waiting

  -- the last of those that wait
  pub waits_more : (tickets ts rest : List (Ticket A D)) (waiting ws : List (Waiting V A D)) (shares : WithSpare (Share V A D)) (t : Ticket A D)
      → Dealing tickets waiting shares ts ws → ts ≡ rest ++ t ∷ [] → ws ≡ [] → ⊥
  waits_more tickets ts rest waiting ws shares t h e d =
      let c = h.count in let a = ap length d in let b = ap length e ∙ snoc_length rest t in omega arith

  pub place_of : (tickets ts : List (Ticket A D)) (waiting ws left : List (Waiting V A D)) (shares : WithSpare (Share V A D)) (w : Waiting V A D)
      → Dealing tickets waiting shares ts ws → ws ≡ left ++ w ∷ [] → HasRoom 1 w.place
  place_of tickets ts waiting ws left shares w h e =
      (each_front (λ (w : Waiting V A D). HasRoom 1 w.place) left w (subst (Each (λ (w : Waiting V A D). HasRoom 1 w.place)) e h.places)).1

  pub room_more : (tickets ts rest : List (Ticket A D)) (waiting ws : List (Waiting V A D)) (shares : WithSpare (Share V A D)) (t : Ticket A D)
      → Dealing tickets waiting shares ts ws → ts ≡ rest ++ t ∷ [] → 0 < shares.spare
  room_more tickets ts rest waiting ws shares t h e = let r = h.room in let b = ap length e ∙ snoc_length rest t in omega arith

  pub deal_more : (tickets ts rest : List (Ticket A D)) (waiting ws left : List (Waiting V A D)) (shares after : WithSpare (Share V A D)) (t : Ticket A D) (w : Waiting V A D)
      (s : Share V A D) → Dealing tickets waiting shares ts ws → ts ≡ rest ++ t ∷ [] → ws ≡ left ++ w ∷ [] → s.sharers ≡ sharer_of t w ∷ []
      → after.list ≡ shares.list ++ s ∷ [] → after.spare + 1 ≡ shares.spare → Dealing tickets waiting after rest left
  deal_more tickets ts rest waiting ws left shares after t w s h e d is more room = record {
    is = h.is ∙ ap (λ (l : List (Sharer V A D)). all_of shares.list ++ l) next ∙ sym (append_assoc (all_of shares.list) (sharer_of t w ∷ []) (dealt (reverse rest) (reverse left)))
        ∙ ap (λ (l : List (Sharer V A D)). l ++ dealt (reverse rest) (reverse left)) (sym now);
    count = (let c = h.count in let a = ap length d ∙ snoc_length left w in let b = ap length e ∙ snoc_length rest t in omega arith);
    places = (each_front (λ (w : Waiting V A D). HasRoom 1 w.place) left w (subst (Each (λ (w : Waiting V A D). HasRoom 1 w.place)) d h.places)).0;
    room = (let r = h.room in let b = ap length e ∙ snoc_length rest t in omega arith);
  }
    where
      next : dealt (reverse ts) (reverse ws) ≡ sharer_of t w ∷ dealt (reverse rest) (reverse left)
      next = λ i. dealt ((ap reverse e ∙ first_last rest t) i) ((ap reverse d ∙ first_last left w) i)

      now : all_of after.list ≡ all_of shares.list ++ sharer_of t w ∷ []
      now = ap all_of more ∙ all_snoc shares.list s ∙ ap (λ (l : List (Sharer V A D)). all_of shares.list ++ l) is

  pub deal_last : (tickets ts : List (Ticket A D)) (waiting ws : List (Waiting V A D)) (shares : WithSpare (Share V A D)) → Dealing tickets waiting shares ts ws
      → ts ≡ [] → all_of shares.list ≡ dealt tickets waiting
  deal_last tickets ts waiting ws shares h e =
      sym (h.is ∙ ap (λ (l : List (Ticket A D)). all_of shares.list ++ dealt (reverse l) (reverse ws)) e ∙ append-nil (all_of shares.list))

  -- ---- parting

  part_first : (tickets : WithSpare (Ticket A D)) (minds : WithSpare V) → Parted [] tickets tickets minds minds
  part_first tickets minds = record {
    tickets_are = sym (append-nil tickets.list);
    minds_are = sym (append-nil minds.list);
    ticket_room = omega arith;
    mind_room = omega arith;
  }

  part_more : (done more : List (Sharer V A D)) (tickets mid after : WithSpare (Ticket A D)) (minds middle last : WithSpare V)
      → Parted done tickets mid minds middle → Parted more mid after middle last → Parted (done ++ more) tickets after minds last
  part_more done more tickets mid after minds middle last h g =
      let n = length-append done more in
      record {
        tickets_are = g.tickets_are ∙ ap (λ (l : List (Ticket A D)). l ++ tickets_of more) h.tickets_are
            ∙ append_assoc tickets.list (tickets_of done) (tickets_of more)
            ∙ ap (λ (l : List (Ticket A D)). tickets.list ++ l) (sym (map-append (λ (s : Sharer V A D). s.ticket) done more));
        minds_are = g.minds_are ∙ ap (λ (l : List V). l ++ minds_of more) h.minds_are ∙ append_assoc minds.list (minds_of done) (minds_of more)
            ∙ ap (λ (l : List V). minds.list ++ l) (sym (map-append (λ (s : Sharer V A D). s.mind) done more));
        ticket_room = (let a = h.ticket_room in let b = g.ticket_room in omega arith);
        mind_room = (let a = h.mind_room in let b = g.mind_room in omega arith);
      }

  -- one sharer was taken apart
  pub part_one : (s : Sharer V A D) (tickets after : WithSpare (Ticket A D)) (minds last : WithSpare V) → after.list ≡ tickets.list ++ s.ticket ∷ []
      → after.spare + 1 ≡ tickets.spare → last.list ≡ minds.list ++ s.mind ∷ [] → last.spare + 1 ≡ minds.spare → Parted (s ∷ []) tickets after minds last
  part_one s tickets after minds last a b c d = record { tickets_are = a; minds_are = c; ticket_room = b; mind_room = d }

  -- some were taken apart, and these are left
  pub record Parting (all rest : List (Sharer V A D)) (tickets mid : WithSpare (Ticket A D)) (minds middle : WithSpare V) : Type 0 where
    pub done : List (Sharer V A D)
    pub is : all ≡ done ++ rest
    pub parted : Parted done tickets mid minds middle
    pub ticket_room : length rest ≤ mid.spare
    pub mind_room : length rest ≤ middle.spare

  pub parting_first : (all rest : List (Sharer V A D)) (tickets : WithSpare (Ticket A D)) (minds : WithSpare V) → rest ≡ all → length all ≤ tickets.spare
      → length all ≤ minds.spare → Parting all rest tickets tickets minds minds
  parting_first all rest tickets minds e a b = record {
    done = [];
    is = sym e;
    parted = part_first tickets minds;
    ticket_room = (let n = ap length e in omega arith);
    mind_room = (let n = ap length e in omega arith);
  }

  pub parting_more : (all more rest left : List (Sharer V A D)) (tickets mid after : WithSpare (Ticket A D)) (minds middle last : WithSpare V)
      → Parting all left tickets mid minds middle → left ≡ more ++ rest → Parted more mid after middle last → Parting all rest tickets after minds last
  parting_more all more rest left tickets mid after minds middle last h e g =
      let n = ap length e ∙ length-append more rest in
      record {
        done = h.done ++ more;
        is = h.is ∙ ap (λ (l : List (Sharer V A D)). h.done ++ l) e ∙ sym (append_assoc h.done more rest);
        parted = part_more h.done more tickets mid after minds middle last h.parted g;
        ticket_room = (let a = h.ticket_room in let b = g.ticket_room in omega arith);
        mind_room = (let a = h.mind_room in let b = g.mind_room in omega arith);
      }

  pub parting_last : (all rest : List (Sharer V A D)) (tickets mid : WithSpare (Ticket A D)) (minds middle : WithSpare V) → Parting all rest tickets mid minds middle
      → rest ≡ [] → Parted all tickets mid minds middle
  parting_last all rest tickets mid minds middle h e =
      subst (λ (l : List (Sharer V A D)). Parted l tickets mid minds middle)
      (sym (h.is ∙ ap (λ (l : List (Sharer V A D)). h.done ++ l) e ∙ append-nil h.done)) h.parted

  -- ---- what is left, the last one first

  pub next_sharer : (left rest : List (Sharer V A D)) (s : Sharer V A D) → left ≡ rest ++ s ∷ [] → reverse left ≡ (s ∷ []) ++ reverse rest
  next_sharer left rest s e = ap reverse e ∙ first_last rest s

  pub next_share : (left rest : List (Share V A D)) (s : Share V A D) → left ≡ rest ++ s ∷ [] → all_of (reverse left) ≡ s.sharers ++ all_of (reverse rest)
  next_share left rest s e = ap (λ (l : List (Share V A D)). all_of (reverse l)) e ∙ ap all_of (first_last rest s)

  pub room_in : (all more rest left : List (Sharer V A D)) (tickets mid : WithSpare (Ticket A D)) (minds middle : WithSpare V)
      → Parting all left tickets mid minds middle → left ≡ more ++ rest → (length more ≤ mid.spare) × (length more ≤ middle.spare)
  room_in all more rest left tickets mid minds middle h e =
      let n = ap length e ∙ length-append more rest in
      let a = h.ticket_room in
      let b = h.mind_room in
      (omega arith, omega arith)

  pub room_next : (all left rest : List (Sharer V A D)) (s : Sharer V A D) (tickets mid : WithSpare (Ticket A D)) (minds middle : WithSpare V)
      → left ≡ rest ++ s ∷ [] → Parting all (reverse left) tickets mid minds middle → (0 < mid.spare) × (0 < middle.spare)
  room_next all left rest s tickets mid minds middle e h =
      let r = room_in all (s ∷ []) (reverse rest) (reverse left) tickets mid minds middle h (next_sharer left rest s e) in
      let a = r.0 in
      let b = r.1 in
      (omega arith, omega arith)

  pub last_tickets : (all : List (Sharer V A D)) (tickets after : WithSpare (Ticket A D)) (minds last : WithSpare V) → Parted all tickets after minds last
      → tickets.list ≡ [] → after.list ≡ tickets_of all
  last_tickets all tickets after minds last h e = h.tickets_are ∙ ap (λ (l : List (Ticket A D)). l ++ tickets_of all) e

  pub last_minds : (all : List (Sharer V A D)) (tickets after : WithSpare (Ticket A D)) (minds last : WithSpare V) → Parted all tickets after minds last
      → minds.list ≡ [] → last.list ≡ minds_of all
  last_minds all tickets after minds last h e = h.minds_are ∙ ap (λ (l : List V). l ++ minds_of all) e

-- where the last item is none, there is none
pub none_left : {T : Type 0} (xs : List T) (last : Option T) → last ≡ slice_get xs (length xs - 1) → last ≡ None → xs ≡ []
none_left [] last e n = refl
none_left (x ∷ xs) last e n = absurd (some (x ∷ xs) (length (x ∷ xs) - 1) (omega arith) (sym n ∙ e))
  where
    some : {T : Type 0} (ys : List T) (i : ℕ) → i < length ys → None ≡ slice_get ys i → ⊥
    some [] i l e = absurd (omega arith)
    some (y ∷ ys) zero l e = cc
    some (y ∷ ys) (suc i) l e = some ys i (omega arith) e
