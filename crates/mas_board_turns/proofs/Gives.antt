-- The board is given back.
use Rattle.std.proofs.Common.{◌≡◌, ◌≢◌, ℕ, ◌+◌, ◌≤◌, true, true≢false, Option, Some, None, List, [], ◌∷◌, ◌++◌, length, sym, refl, ap, ◌∙◌, subst, inr, length-append, append_assoc, arith}
use Rattle.crossbeam_queue.specs.Fifo.{Pushes}
use Rattle.mas_board_lists.specs.Lists.{StartsWith, Each, total, times}
use Rattle.mas_board_lists.proofs.Sums.{total_set, at_total, two_total, all_set, each_append, each_map}
use Rattle.mas_board_lists.proofs.Times.{times_self, times_other, times_append, once_le}
use Rattle.mas_board_lists.proofs.Starts.{starts_refl, starts_more}
use Rattle.mas_board.specs.Boards.{State}
use Rattle.mas_board_turns.specs.declared.turn.Turn.{Turn}
use Rattle.mas_board_turns.specs.Turns.{Entry, entry, Makes, names}
use Rattle.mas_board_turns.proofs.Logs.{plays_snoc, names_snoc, of_snoc, of_other}
use Rattle.mas_board_turns.specs.declared.view.SideView.{SideView}
use Rattle.mas_board_turns.specs.Views.{Turns, Opening, numbers, noted}
use Rattle.mas_board_turns.specs.Steps.{of_first, Sits, gave}
use Rattle.mas_board_turns.specs.Rule.{Showing, Knows, Fits, hand, order, Lies, Holds, MayGive}
use Rattle.mas_board_turns.proofs.Views.{has, numbers_noted, in_one, playing}

no_items : {X : Type 0} (P : X → Type 0) (xs : List X) (n : ℕ) → n + length xs ≡ 1 → 1 ≤ n → Each P xs
no_items P [] n e l = tt
no_items P (x ∷ xs) n e l = absurd (omega arith)

-- ---- after a turn

order_snoc : (o : Opening) (log : List Entry) (a : ℕ) (turn : Turn) → order o (log ++ entry a turn ∷ []) ≡ order o log ++ a ∷ []
order_snoc o log a turn = ap (λ (l : List ℕ). o.board.schedule ++ l) (names_snoc log (entry a turn)) ∙ sym (append_assoc o.board.schedule (names log) (a ∷ []))

grown : (o : Opening) (log : List Entry) (a : ℕ) (turn : Turn) (ys : List ℕ) → StartsWith (order o log) ys → StartsWith (order o (log ++ entry a turn ∷ [])) ys
grown o log a turn ys h = subst (λ (l : List ℕ). StartsWith l ys) (sym (order_snoc o log a turn)) (starts_more (order o log) ys (a ∷ []) h)

-- another agent's turns are not touched
knows_other : (o : Opening) (log : List Entry) (seen : List ℕ) (a : ℕ) (turn : Turn) (es : Turns) → times a (numbers es) ≡ 0 → Each (Knows o log seen) es →
    Each (Knows o (log ++ entry a turn ∷ []) seen) es
knows_other o log seen a turn [] none h = tt
knows_other o log seen a turn (x ∷ es) none h =
    let apart : a ≢ x.0 = λ i. absurd (let t = times_self a in let u = ap (λ (c : ℕ). times a (c ∷ [])) i in omega arith) in
    let later : times x.0 (order o (log ++ entry a turn ∷ [])) ≡ times x.0 (order o log) =
    ap (times x.0) (order_snoc o log a turn) ∙ times_append x.0 (order o log) (a ∷ []) ∙ (let z = times_other a x.0 apart in omega arith) in
    ((of_other log a x.0 turn apart ∙ h.0.0, h.0.1 ∙ sym later), knows_other o log seen a turn es (omega arith) h.1)

knows_one : (o : Opening) (log : List Entry) (seen after : List ℕ) (a : ℕ) (ts : List Turn) (turn : Turn) (es : Turns) → es ≡ (a, ts) ∷ [] → after ≡ order o (log ++ entry a turn ∷ []) →
    Each (Knows o log seen) es → Each (Knows o (log ++ entry a turn ∷ []) after) (noted (Some turn) es)
knows_one o log seen after a ts turn es is e h =
    let g = subst (Each (Knows o log seen)) is h in
    subst (λ (l : Turns). Each (Knows o (log ++ entry a turn ∷ []) after) (noted (Some turn) l)) (sym is)
    ((of_snoc log a turn ∙ ap (λ (l : List Turn). l ++ turn ∷ []) g.0.0, ap (times a) e), tt)

module _ {X : Type 0} (r : Showing X) where
  gives_turn : (n p : ℕ) (v : SideView) (x : X) (a : ℕ) (ts : List Turn) (turn : Turn) → v.started ≡ true → v.in_hand ≡ true → v.turns ≡ (a, ts) ∷ [] → MayGive r (Some turn) a v x →
      Pushes (Holds r) n p v x (λ w. w ≡ gave (Some turn) v (r.board x))
  gives_turn n p v x a ts turn s inside is may items views room h at =
      let k = playing items views p v s h at in
      let b = r.board x in
      let made = may.makes in
      let w = gave (Some turn) v b in
      let f = k.fits p v at in
      let held = f.holds inside in
      let same : v.first ≡ k.first = f.begins held.2 in
      let log = k.log ++ entry a turn ∷ [] in
      let here : Makes k.board a turn b.state = subst (λ (s : State). Makes s a turn b.state) held.0 made.0 in
      let next : b.schedule ≡ order k.first log = made.1 ∙ ap (λ (l : List ℕ). l ++ a ∷ []) held.1 ∙ sym (order_snoc k.first k.log a turn) in
      let one = in_one v.in_hand inside in
      let mine = at_total hand views p v at in
      let count = k.hands in
      let lies : Lies r k.first b.state log x = record { is = refl; scheduled = next; kept = subst (λ (o : Opening). r.keeps o x) same may.kept } in
      let alone : has a v ≡ 1 = ap (λ (es : Turns). times a (numbers es)) is ∙ times_self a in (
        w,
        inr record {
          first = k.first;
          board = b.state;
          log = log;
          plays = plays_snoc k.first.board.state k.log k.board b.state a turn k.plays here;
          agents = λ c. (let t = total_set (has c) views p v w at in let e : has c w ≡ has c v = ap (times c) (numbers_noted (Some turn) v.turns) in omega (arith, k.agents c));
          hands = let t = total_set hand views p v w at in omega (arith, length-append items (x ∷ []));
          lies = each_append (Lies r k.first b.state log) items (x ∷ []) (no_items (Lies r k.first b.state log) items (total hand views) count (omega arith)) (lies, tt);
          fits = all_set (Fits k.first b.state log) views p w
              record {
                running = f.running;
                begins = λ _. same;
                mine = knows_one k.first k.log v.seen b.schedule a ts turn v.turns is next f.mine;
                sees = subst (StartsWith (order k.first log)) (sym next) (starts_refl (order k.first log));
                olds = each_map (StartsWith (order k.first k.log)) (StartsWith (order k.first log)) v.olds (λ ys. grown k.first k.log a turn ys) f.olds;
                holds = λ q. absurd (true≢false (sym q));
              }
              (λ j u other e.
              let g = k.fits j u e in
              let both = two_total (has a) views p j v u (λ i. other (sym i)) at e in
              let hands = two_total hand views p j v u (λ i. other (sym i)) at e in
              let most = once_le a 1 (length k.first.board.state.seats) in
              let none : has a u ≡ 0 = omega (arith, k.agents a) in
              record {
                running = g.running;
                begins = g.begins;
                mine = knows_other k.first k.log u.seen a turn u.turns none g.mine;
                sees = grown k.first k.log a turn u.seen g.sees;
                olds = each_map (StartsWith (order k.first k.log)) (StartsWith (order k.first log)) u.olds (λ ys. grown k.first k.log a turn ys) g.olds;
                holds = λ q. absurd (let i = in_one u.in_hand q in omega arith);
              });
        },
        refl,
      )

  -- ---- without a turn

  gives_back : (n p : ℕ) (v : SideView) (x : X) (a : ℕ) → v.started ≡ true → v.in_hand ≡ true → MayGive r None a v x → Pushes (Holds r) n p v x (λ w. w ≡ gave None v (r.board x))
  gives_back n p v x a s inside may items views room h at =
      let k = playing items views p v s h at in
      let b = r.board x in
      let w = gave None v b in
      let f = k.fits p v at in
      let held = f.holds inside in
      let same : v.first ≡ k.first = f.begins held.2 in
      let is : b.state ≡ k.board = may.makes.0 ∙ held.0 in
      let next : b.schedule ≡ order k.first k.log = may.makes.1 ∙ held.1 in
      let one = in_one v.in_hand inside in
      let mine = at_total hand views p v at in
      let count = k.hands in
      let lies : Lies r k.first k.board k.log x = record { is = is; scheduled = next; kept = subst (λ (o : Opening). r.keeps o x) same may.kept } in (
        w,
        inr record {
          first = k.first;
          board = k.board;
          log = k.log;
          plays = k.plays;
          agents = λ c. (let t = total_set (has c) views p v w at in omega (arith, k.agents c));
          hands = let t = total_set hand views p v w at in omega (arith, length-append items (x ∷ []));
          lies = each_append (Lies r k.first k.board k.log) items (x ∷ []) (no_items (Lies r k.first k.board k.log) items (total hand views) count (omega arith)) (lies, tt);
          fits = all_set (Fits k.first k.board k.log) views p w
              record {
                running = f.running;
                begins = f.begins;
                mine = each_map (Knows k.first k.log v.seen) (Knows k.first k.log b.schedule) v.turns (λ e g. (g.0, ap (times e.0) next)) f.mine;
                sees = subst (StartsWith (order k.first k.log)) (sym next) (starts_refl (order k.first k.log));
                olds = f.olds;
                holds = λ q. absurd (true≢false (sym q));
              }
              (λ j u _ e. k.fits j u e);
        },
        refl,
      )

  gives : (n p : ℕ) (v : SideView) (x : X) (a : ℕ) (ts : List Turn) (made : Option Turn) → v.started ≡ true → v.in_hand ≡ true → v.turns ≡ (a, ts) ∷ [] → MayGive r made a v x →
      Pushes (Holds r) n p v x (λ w. w ≡ gave made v (r.board x))
  gives n p v x a ts None s inside is h = gives_back n p v x a s inside h
  gives n p v x a ts (Some turn) s inside is h = gives_turn n p v x a ts turn s inside is h

-- ---- as the calls need it

pub gives_seat : {X : Type 0} {r : Showing X} {a b : ℕ} {u v : SideView} {x y : X} (made : Option Turn) (n p : ℕ) → Sits a true v → a ≡ b → v ≡ u → x ≡ y → MayGive r made b u y →
    Pushes (Holds r) n p v x (λ w. w ≡ gave made v (r.board x))
gives_seat {X} {r} {a} {b} {u} {v} {x} {y} made n p s c e d m =
    gives r n p v x a (of_first v.turns) made s.started s.held s.turns (subst (λ (t : ℕ × SideView × X). MayGive r made t.0 t.1 t.2) (λ i. (sym c i, sym e i, sym d i)) m)
