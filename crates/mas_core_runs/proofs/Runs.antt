-- Where the board makes the turns of a log, and every mind goes through its agent's turns, the platform has a run in the
-- order of the log, which comes to that board and those minds.
use Rattle.std.proofs.Common.{◌≡◌, ◌≢◌, ℕ, zero, suc, ◌+◌, ◌-◌, ◌<◌, Bool, true, false, nat_eq, cond, Option, None, Some, List, [], ◌∷◌, length, slice_get, slice_set, if◌then◌else◌, sym, refl, ap, ◌∙◌, subst, arith, ne_eqb, eq-eqb}
use Rattle.std.proofs.lemmas.Bool.Decides.{nat_tests}
use Rattle.std.proofs.lemmas.Option.{same_Some}
use Rattle.std.proofs.lemmas.List.{length-set}
use mathlib.Core.Logic.{dite}
use native.Mathlib.Decide.{ℕ_discrete}
use Rattle.mas_mind.specs.declared.mind.End.{End}
use Rattle.mas_mind.specs.declared.mind.Input.{Input}
use Rattle.mas_mind.specs.declared.mind.Outs.{Outs}
use Rattle.mas_mind.specs.declared.mind.Feedback.{Feedback}
use Rattle.mas_mind.specs.declared.mind.Thought.{Thought}
use Rattle.mas_mind.specs.declared.mind.Thought.TheVariants.{Outs as Acts, Spent}
use Rattle.mas_mind.specs.Minds.{Kind, IsAgent}
use Rattle.mas_board.specs.declared.seats.Phase.{Phase}
use Rattle.mas_board.specs.declared.seats.Phase.TheVariants.{Idle, Busy}
use Rattle.mas_board.specs.declared.seats.Sensed.TheVariants as answer
use Rattle.mas_board.specs.Boards.{State, seat_at, sense, emit, leave}
use Rattle.mas_board.specs.Seating.{IsAt}
use Rattle.mas_board.proofs.Places.{get_set, same_place, below}
use Rattle.mas_core.specs.Platform.{Platform, turn, turn_in, is_agent, run, and_run, after_sense, after_thought, after_emit, after_leave, think, tell}
use Rattle.mas_board_turns.specs.declared.turn.Turn.{Turn}
use Rattle.mas_board_turns.specs.declared.turn.Turn.TheVariants.{Sensed as Got, Left, Emitted, Gone}
use Rattle.mas_board_turns.specs.Turns.{Entry, Makes, Plays, names, of}
use Rattle.mas_board_turns.specs.Follows.{Thinking, thinking, resting, told, Takes, Follows}
use Rattle.mas_board_turns.proofs.Moves.{moved, moved_seats}
use Rattle.mas_core_runs.specs.Followed.{thinking_of, FollowsAt, AllFollow}

-- ---- lists

set_same : {X : Type 0} (xs : List X) (i : ℕ) (x : X) → slice_get xs i ≡ Some x → slice_set xs i x ≡ xs
set_same [] i x e = refl
set_same (y ∷ xs) zero x e = ap (λ z. z ∷ xs) (sym (same_Some y x e))
set_same (y ∷ xs) (suc i) x e = ap (λ r. y ∷ r) (set_same xs i x e)

same_list : {X : Type 0} (xs ys : List X) → length xs ≡ length ys → ((i : ℕ) → i < length xs → slice_get xs i ≡ slice_get ys i) → xs ≡ ys
same_list [] [] n h = refl
same_list [] (y ∷ ys) n h = cc
same_list (x ∷ xs) [] n h = cc
same_list (x ∷ xs) (y ∷ ys) n h =
    let e : x ≡ y = same_Some x y (h 0 (omega arith)) in
    let r : xs ≡ ys = same_list xs ys (omega arith) (λ i l. h (suc i) (omega arith)) in
    λ k. e k ∷ r k

-- ---- one mind and its turns

pub record MindFollows {V : Type 0} (k : Kind V) (p : Platform V) (turns : List Turn) (q : Platform V) (a : ℕ) : Type 0 where
  pub mind : V
  pub thought : Option Thought
  pub mind_after : V
  pub thought_after : Option Thought
  pub mind_is : slice_get p.minds (a - 1) ≡ Some mind
  pub thought_is : slice_get p.thoughts (a - 1) ≡ Some thought
  pub mind_comes : slice_get q.minds (a - 1) ≡ Some mind_after
  pub thought_comes : slice_get q.thoughts (a - 1) ≡ Some thought_after
  pub follows : Follows k (thinking_of mind thought) turns (thinking_of mind_after thought_after)

follows_by : {V : Type 0} (k : Kind V) (p q : Platform V) (turns : List Turn) (a : ℕ) (m : Option V) (t : Option (Option Thought)) (n : Option V) (u : Option (Option Thought)) →
    slice_get p.minds (a - 1) ≡ m → slice_get p.thoughts (a - 1) ≡ t → slice_get q.minds (a - 1) ≡ n → slice_get q.thoughts (a - 1) ≡ u → FollowsAt k m t turns n u →
    MindFollows k p turns q a
follows_by k p q turns a (Some m) (Some t) (Some n) (Some u) c d e f h =
    record { mind = m; thought = t; mind_after = n; thought_after = u; mind_is = c; thought_is = d; mind_comes = e; thought_comes = f; follows = h }
follows_by k p q turns a None t n u c d e f h = absurd h
follows_by k p q turns a (Some m) None n u c d e f h = absurd h
follows_by k p q turns a (Some m) (Some t) None u c d e f h = absurd h
follows_by k p q turns a (Some m) (Some t) (Some n) None c d e f h = absurd h

pub mind_follows : {V : Type 0} (k : Kind V) (p q : Platform V) (turns : List Turn) (a : ℕ) →
    FollowsAt k (slice_get p.minds (a - 1)) (slice_get p.thoughts (a - 1)) turns (slice_get q.minds (a - 1)) (slice_get q.thoughts (a - 1)) → MindFollows k p turns q a
mind_follows k p q turns a h = follows_by k p q turns a _ _ _ _ refl refl refl refl h

follows_again : {V : Type 0} (k : Kind V) (p q : Platform V) (turns : List Turn) (a : ℕ) → MindFollows k p turns q a →
    FollowsAt k (slice_get p.minds (a - 1)) (slice_get p.thoughts (a - 1)) turns (slice_get q.minds (a - 1)) (slice_get q.thoughts (a - 1))
follows_again k p q turns a r = rw (r.mind_is, r.thought_is, r.mind_comes, r.thought_comes) r.follows

-- ---- one turn

-- the platform after a turn of the agent, which leaves the board and its mind so
abbrev after : {V : Type 0} → Platform V → ℕ → State → Thinking V → Platform V
after p a next m = record { board = next; minds = slice_set p.minds (a - 1) m.mind; thoughts = slice_set p.thoughts (a - 1) m.thought }

told_is : {V : Type 0} (k : Kind V) (p : Platform V) (a : ℕ) (m : V) (f : Option Feedback) → slice_get p.minds (a - 1) ≡ Some m → tell k p.minds a (Some m) f ≡ slice_set p.minds (a - 1) (told k m f)
told_is k p a m None e = sym (set_same p.minds (a - 1) m e)
told_is k p a m (Some f) e = refl

is_one : (n a : ℕ) → IsAgent n a → is_agent n a ≡ true
is_one n a k = let f = k.from_one in let g = k.named in grind (arith, nat_tests)

in_phase : {V : Type 0} (k : Kind V) (p : Platform V) (a : ℕ) (phase : Phase) → IsAt p.board a phase → turn k p a ≡ turn_in k p a phase
in_phase k p a phase h = ap (λ b. if b then turn_in k p a (seat_at p.board a).phase else None) (is_one (length p.board.seats) a h.agent) ∙ ap (turn_in k p a) h.phase_is

module _ {V : Type 0} (k : Kind V) (p : Platform V) (a : ℕ) (next : State) (m : V) where
  gets : (i : Input) (n : Thinking V) → slice_get p.minds (a - 1) ≡ Some m → IsAt p.board a Idle → (answer.Input i, next) ≡ sense p.board a →
      n ≡ thinking (k.cycle m i).mind (k.cycle m i).thought → turn k p a ≡ Some (after p a next n)
  gets i n e at d is =
      in_phase k p a Idle at ∙ ap (after_sense k p a) (sym d) ∙ ap (think k p a next i) e ∙ ap (λ (x : Thinking V). Some (after p a next x)) (sym is)

  goes : (end : End) (n : Thinking V) → slice_get p.minds (a - 1) ≡ Some m → slice_get p.thoughts (a - 1) ≡ Some None → IsAt p.board a Idle →
      (answer.Left end, next) ≡ sense p.board a → n ≡ resting m → turn k p a ≡ Some (after p a next n)
  goes end n e t at d is =
      in_phase k p a Idle at ∙ ap (after_sense k p a) (sym d)
      ∙ (λ i. Some (record { board = next; minds = sym (set_same p.minds (a - 1) m e) i; thoughts = sym (set_same p.thoughts (a - 1) None t) i }))
      ∙ ap (λ (x : Thinking V). Some (after p a next x)) (sym is)

  carries : (outs given : Outs) (f : Option Feedback) (n : Thinking V) → slice_get p.minds (a - 1) ≡ Some m → slice_get p.thoughts (a - 1) ≡ Some (Some (Acts outs)) →
      IsAt p.board a Busy → (f, next) ≡ emit p.board a given → given ≡ outs → n ≡ resting (told k m f) → turn k p a ≡ Some (after p a next n)
  carries outs given f n e t at d same is =
      in_phase k p a Busy at ∙ ap (after_thought k p a) t ∙ ap (λ (o : Outs). Some (after_emit k p a (emit p.board a o))) (sym same) ∙ ap (λ x. Some (after_emit k p a x)) (sym d)
      ∙ ap (λ o. Some (record { board = next; minds = tell k p.minds a o f; thoughts = slice_set p.thoughts (a - 1) None })) e
      ∙ ap (λ l. Some (record { board = next; minds = l; thoughts = slice_set p.thoughts (a - 1) None })) (told_is k p a m f e)
      ∙ ap (λ (x : Thinking V). Some (after p a next x)) (sym is)

  ends : (n : Thinking V) → slice_get p.minds (a - 1) ≡ Some m → slice_get p.thoughts (a - 1) ≡ Some (Some Spent) → IsAt p.board a Busy → next ≡ leave p.board a → n ≡ resting m →
      turn k p a ≡ Some (after p a next n)
  ends n e t at d is =
      in_phase k p a Busy at ∙ ap (after_thought k p a) t ∙ ap (λ (s : State). Some (after_leave p a s)) (sym d)
      ∙ ap (λ l. Some (record { board = next; minds = l; thoughts = slice_set p.thoughts (a - 1) None })) (sym (set_same p.minds (a - 1) m e))
      ∙ ap (λ (x : Thinking V). Some (after p a next x)) (sym is)

  pub one_turn : (t : Option Thought) (turn_ : Turn) (n : Thinking V) → slice_get p.minds (a - 1) ≡ Some m → slice_get p.thoughts (a - 1) ≡ Some t → Makes p.board a turn_ next →
      Takes k m t turn_ n → turn k p a ≡ Some (after p a next n)
  one_turn None (Got i) n e d h is = gets i n e h.0 h.1 is
  one_turn None (Left end) n e d h is = goes end n e d h.0 h.1 is
  one_turn None (Emitted o f) n e d h is = absurd is
  one_turn None Gone n e d h is = absurd is
  one_turn (Some (Acts outs)) (Got i) n e d h is = absurd is
  one_turn (Some (Acts outs)) (Left end) n e d h is = absurd is
  one_turn (Some (Acts outs)) (Emitted o f) n e d h is = carries outs o f n e d h.0 h.1 is.0 is.1
  one_turn (Some (Acts outs)) Gone n e d h is = absurd is
  one_turn (Some Spent) (Got i) n e d h is = absurd is
  one_turn (Some Spent) (Left end) n e d h is = absurd is
  one_turn (Some Spent) (Emitted o f) n e d h is = absurd is
  one_turn (Some Spent) Gone n e d h is = ends n e d h.0 h.1 is

-- ---- the turns that are left

own : (b : Bool) (x : Turn) (turns : List Turn) → b ≡ true → cond b (x ∷ turns) turns ≡ x ∷ turns
own true x turns e = refl
own false x turns e = cc

others : (b : Bool) (x : Turn) (turns : List Turn) → b ≡ false → cond b (x ∷ turns) turns ≡ turns
others true x turns e = cc
others false x turns e = refl

placed : {X : Type 0} (xs : List X) (n a : ℕ) (x : X) → length xs ≡ n → IsAgent n a → slice_get (slice_set xs (a - 1) x) (a - 1) ≡ Some x
placed xs n a x l k =
    let e : nat_eq (a - 1) (a - 1) ≡ true = grind (arith, nat_tests) in
    get_set xs (a - 1) (a - 1) x (let q = below n a k in omega arith) ∙ ap (λ (b : Bool). if b then Some x else slice_get xs (a - 1)) e

apart : (n a c : ℕ) (b : Bool) → IsAgent n a → IsAgent n c → a ≢ c → nat_eq (a - 1) (c - 1) ≡ b → b ≡ false
apart n a c true k j d e = absurd (d (same_place n a c k j e))
apart n a c false k j d e = refl

stays : {X : Type 0} (xs : List X) (n a c : ℕ) (x : X) → length xs ≡ n → IsAgent n a → IsAgent n c → a ≢ c → slice_get (slice_set xs (a - 1) x) (c - 1) ≡ slice_get xs (c - 1)
stays xs n a c x l k j d =
    get_set xs (a - 1) (c - 1) x (let q = below n a k in omega arith)
    ∙ ap (λ (b : Bool). if b then Some x else slice_get xs (c - 1)) (apart n a c (nat_eq (a - 1) (c - 1)) k j d refl)

module _ {V : Type 0} (k : Kind V) (p q : Platform V) (e : Entry) (log : List Entry) (h : AllFollow k p (e ∷ log) q) (i : IsAgent (length p.board.seats) e.by) where
  abbrev mine : MindFollows k p (e.turn ∷ of e.by log) q e.by
  mine =
      let r = mind_follows k p q (of e.by (e ∷ log)) e.by (h.each e.by i) in
      record {
        mind = r.mind;
        thought = r.thought;
        mind_after = r.mind_after;
        thought_after = r.thought_after;
        mind_is = r.mind_is;
        thought_is = r.thought_is;
        mind_comes = r.mind_comes;
        thought_comes = r.thought_comes;
        follows = subst (λ (l : List Turn). Follows k (thinking_of r.mind r.thought) l (thinking_of r.mind_after r.thought_after))
            (own (nat_eq e.by e.by) e.turn (of e.by log) (eq-eqb e.by e.by refl)) r.follows;
      }

  -- the agent's mind goes on
  its_own : (next : State) (n : Thinking V) (m : MindFollows k p (e.turn ∷ of e.by log) q e.by) → Follows k n (of e.by log) (thinking_of m.mind_after m.thought_after) →
      MindFollows k (after p e.by next n) (of e.by log) q e.by
  its_own next n m f = record {
    mind = n.mind;
    thought = n.thought;
    mind_after = m.mind_after;
    thought_after = m.thought_after;
    mind_is = placed p.minds (length p.board.seats) e.by n.mind h.minds i;
    thought_is = placed p.thoughts (length p.board.seats) e.by n.thought h.thoughts i;
    mind_comes = m.mind_comes;
    thought_comes = m.thought_comes;
    follows = f;
  }

  another : (next : State) (n : Thinking V) (c : ℕ) → IsAgent (length p.board.seats) c → e.by ≢ c → MindFollows k (after p e.by next n) (of c log) q c
  another next n c j d =
      let r = mind_follows k p q (of c (e ∷ log)) c (h.each c j) in
      record {
        mind = r.mind;
        thought = r.thought;
        mind_after = r.mind_after;
        thought_after = r.thought_after;
        mind_is = stays p.minds (length p.board.seats) e.by c n.mind h.minds i j d ∙ r.mind_is;
        thought_is = stays p.thoughts (length p.board.seats) e.by c n.thought h.thoughts i j d ∙ r.thought_is;
        mind_comes = r.mind_comes;
        thought_comes = r.thought_comes;
        follows = subst (λ (l : List Turn). Follows k (thinking_of r.mind r.thought) l (thinking_of r.mind_after r.thought_after))
            (others (nat_eq e.by c) e.turn (of c log) (ne_eqb e.by c d)) r.follows;
      }

  go_on : (next : State) (n : Thinking V) (m : MindFollows k p (e.turn ∷ of e.by log) q e.by) → length next.seats ≡ length p.board.seats →
      Follows k n (of e.by log) (thinking_of m.mind_after m.thought_after) → AllFollow k (after p e.by next n) log q
  go_on next n m l f = record {
    minds = length-set p.minds (e.by - 1) n.mind ∙ h.minds ∙ sym l;
    thoughts = length-set p.thoughts (e.by - 1) n.thought ∙ h.thoughts ∙ sym l;
    minds_after = h.minds_after ∙ sym l;
    thoughts_after = h.thoughts_after ∙ sym l;
    each = λ c j.
        let j2 : IsAgent (length p.board.seats) c = subst (λ (x : ℕ). IsAgent x c) l j in
        follows_again k (after p e.by next n) q (of c log) c (dite (ℕ_discrete e.by c)
        (λ s. subst (λ (x : ℕ). MindFollows k (after p e.by next n) (of x log) q x) s (its_own next n m f))
        (λ d. another next n c j2 d));
  }

-- ---- no turn is left

nothing_left : {V : Type 0} (k : Kind V) (p q : Platform V) → AllFollow k p [] q → p.board ≡ q.board → p ≡ q
nothing_left {V} k p q h b =
    let at : (i : ℕ) → i < length p.board.seats → MindFollows k p [] q (i + 1) =
    λ i l. mind_follows k p q [] (i + 1) (h.each (i + 1) (record { from_one = omega arith; named = omega arith })) in
    let back : (i : ℕ) → i + 1 - 1 ≡ i = λ i. omega arith in
    let minds : p.minds ≡ q.minds = same_list p.minds q.minds (h.minds ∙ sym h.minds_after) (λ i l.
    let r = at i (let w = h.minds in omega arith) in
    ap (slice_get p.minds) (sym (back i)) ∙ r.mind_is ∙ ap (λ (x : Thinking V). Some x.mind) (sym r.follows) ∙ sym r.mind_comes ∙ ap (slice_get q.minds) (back i)) in
    let thoughts : p.thoughts ≡ q.thoughts = same_list p.thoughts q.thoughts (h.thoughts ∙ sym h.thoughts_after) (λ i l.
    let r = at i (let w = h.thoughts in omega arith) in
    ap (slice_get p.thoughts) (sym (back i)) ∙ r.thought_is ∙ ap (λ (x : Thinking V). Some x.thought) (sym r.follows) ∙ sym r.thought_comes ∙ ap (slice_get q.thoughts) (back i)) in
    λ i. record { board = b i; minds = minds i; thoughts = thoughts i }

-- ---- the law

pub runs : {V : Type 0} (k : Kind V) (p q : Platform V) (log : List Entry) → Plays p.board log q.board → AllFollow k p log q → run k p (names log) ≡ Some q
runs k p q [] h f = ap Some (nothing_left k p q f h)
runs k p q (e ∷ log) h f =
    let i = (moved p.board h.0 e.by e.turn h.1).agent in
    let m = mine k p q e log f i in
    let n = m.follows.0 in
    let t = one_turn k p e.by h.0 m.mind m.thought e.turn n m.mind_is m.thought_is h.1 m.follows.1 in
    let l = moved_seats p.board h.0 e.by e.turn h.1 in
    ap (and_run (λ r. run k r (names log))) t ∙ runs k (after p e.by h.0 n) q log h.2 (go_on k p q e log f i h.0 n m l m.follows.2)
