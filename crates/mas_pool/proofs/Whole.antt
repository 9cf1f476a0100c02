-- The whole run, put together.
use Rattle.std.proofs.Common.{◌≡◌, ◌≢◌, ℕ, zero, suc, ◌+◌, ◌-◌, ◌<◌, ◌≤◌, Bool, true, false, Option, Some, None, List, [], ◌∷◌, ◌++◌, length, map, replicate, IfSome, slice_get, sym, refl, ap, ◌∙◌, subst, arith}
use Rattle.std.specs.Prelude.{zip, ◌&&◌}
use Rattle.mas_mind.specs.declared.mind.Thought.{Thought}
use Rattle.mas_mind.specs.Minds.{Kind, IsAgent}
use Rattle.mas_board.specs.declared.seats.Phase.{Phase}
use Rattle.mas_board.specs.declared.seats.Phase.TheVariants.{Idle, Busy}
use Rattle.mas_board.specs.declared.seats.AgentPlace as board
use Rattle.mas_board.specs.Boards.{State, Noted, seat_of, seat_at, seat_or_none, is_gone}
use Rattle.mas_board_turns.specs.declared.turn.Turn.{Turn}
use Rattle.mas_board_turns.specs.Turns.{Entry, Plays, names, of, phase_after}
use Rattle.mas_board_turns.specs.Follows.{resting, Follows}
use Rattle.mas_board_turns.proofs.Places.{plays_stands, plays_kept}
use Rattle.mas_core.specs.Platform.{Platform, run, ended, opening_platform}
use Rattle.mas_core.specs.Replay.{RanAlong}
use Rattle.mas_core_runs.specs.Followed.{FollowsAt, AllFollow}
use Rattle.mas_core_runs.proofs.Runs.{runs}
use Rattle.mas_baton.specs.declared.baton.Baton.{Baton}
use Rattle.mas_baton.specs.declared.seat.Seat.{Seat}
use Rattle.mas_baton.specs.Seats.{turns_of, first_of, phase_of, IsSeatOf, IsNew, IsBack, AllBack, Opened, Closed, first_by}
use Rattle.mas_board_lists.specs.Lists.{Each, Row, numbers_from}
use Rattle.mas_pool_ready.specs.Rule.{numbers}
use Rattle.mas_pool_task.specs.declared.going.Going.{Going}
use Rattle.mas_pool.specs.Workers.{number_of, AreAt, EndedOf, AreEnded}
use Rattle.mas_pool.specs.Dealing.{dealt_one, dealt, seats_of, minds_of, AllGone}
use Rattle.mas_pool.specs.Ends.{AreSeated, AreBack}

-- ---- lists

get_some : {T : Type 0} (xs : List T) (i : ℕ) → i < length xs → (x : T) × (slice_get xs i ≡ Some x)
get_some [] i h = absurd (omega arith)
get_some (x ∷ xs) zero h = (x, refl)
get_some (x ∷ xs) (suc i) h = get_some xs i (omega arith)

get_map : {S T : Type 0} (f : S → T) (xs : List S) (i : ℕ) (x : S) → slice_get xs i ≡ Some x → slice_get (map f xs) i ≡ Some (f x)
get_map f [] i x e = cc
get_map f (y ∷ xs) zero x e = let d : y ≡ x = cc in ap (λ z. Some (f z)) d
get_map f (y ∷ xs) (suc i) x e = get_map f xs i x e

get_replicate : {T : Type 0} (n i : ℕ) (x : T) → i < n → slice_get (replicate n x) i ≡ Some x
get_replicate zero i x h = absurd (omega arith)
get_replicate (suc n) zero x h = refl
get_replicate (suc n) (suc i) x h = get_replicate n i x (omega arith)

length_replicate : {T : Type 0} (n : ℕ) (x : T) → length (replicate n x) ≡ n
length_replicate zero x = refl
length_replicate (suc n) x = ap suc (length_replicate n x)

length_map : {S T : Type 0} (f : S → T) (xs : List S) → length (map f xs) ≡ length xs
length_map f [] = refl
length_map f (x ∷ xs) = ap suc (length_map f xs)

length_from : (k n : ℕ) → length (numbers_from k n) ≡ n
length_from k zero = refl
length_from k (suc n) = ap suc (length_from (suc k) n)

each_get : {T : Type 0} (P : T → Type 0) (xs : List T) (i : ℕ) (x : T) → Each P xs → slice_get xs i ≡ Some x → P x
each_get P [] i x h e = let d : None ≡ Some x = e in cc
each_get P (y ∷ xs) zero x h e = let d : y ≡ x = cc in subst P d h.0
each_get P (y ∷ xs) (suc i) x h e = each_get P xs i x h.1 e

number_get : {T : Type 0} (f : T → ℕ) (xs : List T) (k n i : ℕ) (x : T) → numbers f xs ≡ numbers_from k n → slice_get xs i ≡ Some x → f x ≡ k + i
number_get f [] k n i x e g = let d : None ≡ Some x = g in cc
number_get f (y ∷ xs) k zero i x e g = cc
number_get f (y ∷ xs) k (suc n) zero x e g = let d : y ≡ x = cc in let h : f y ≡ k = cc in ap f (sym d) ∙ h ∙ (let z : k ≡ k + 0 = omega arith in z)
number_get f (y ∷ xs) k (suc n) (suc i) x e g =
    let h : numbers f xs ≡ numbers_from (suc k) n = cc in
    number_get f xs (suc k) n i x h g ∙ (let z : suc k + i ≡ k + suc i = omega arith in z)

-- ---- seats and minds, put together

module _ {V A : Type 0} where
  pub length_dealt : (ss : List (Seat A)) (ms : List V) → length ss ≡ length ms → length (dealt ss ms) ≡ length ms
  length_dealt [] [] e = refl
  length_dealt [] (m ∷ ms) e = absurd (omega arith)
  length_dealt (s ∷ ss) [] e = absurd (omega arith)
  length_dealt (s ∷ ss) (m ∷ ms) e = ap suc (length_dealt ss ms (omega arith))

  -- the seat and the mind of an agent
  record DealtAt (b : Baton A) (start : Noted) (n i : ℕ) (ss : List (Seat A)) (ms : List V) (g : Going V A) : Type 0 where
    pub is_new : IsNew b start (n + i) g.seat
    pub mind : slice_get ms i ≡ Some g.mind

  dealt_at : (b : Baton A) (start : Noted) (n i : ℕ) (ss : List (Seat A)) (ms : List V) (g : Going V A) → Row (IsNew b start) n ss → slice_get (dealt ss ms) i ≡ Some g → DealtAt b start n i ss ms g
  dealt_at b start n i [] ms g r e = let d : None ≡ Some g = e in cc
  dealt_at b start n i (s ∷ ss) [] g r e = let d : None ≡ Some g = e in cc
  dealt_at b start n zero (s ∷ ss) (m ∷ ms) g r e =
      let d : dealt_one (s, m) ≡ g = cc in
      record {
        is_new = subst (λ (t : ℕ × Seat A). IsNew b start t.0 t.1) (λ j. ((let z : n ≡ n + 0 = omega arith in z) j, ap (λ (x : Going V A). x.seat) d j)) r.0;
        mind = ap (λ (x : Going V A). Some x.mind) d;
      }
  dealt_at b start n (suc i) (s ∷ ss) (m ∷ ms) g r e =
      let h = dealt_at b start (suc n) i ss ms g r.1 e in
      record { is_new = subst (λ (t : ℕ). IsNew b start t g.seat) (let z : suc n + i ≡ n + suc i = omega arith in z) h.is_new; mind = h.mind }

-- ---- a run along numbers is one along its own schedule

-- ---- all have left

both_true : (x y : Bool) → (x && y) ≡ true → (x ≡ true) × (y ≡ true)
both_true true y e = (refl, e)
both_true false y e = cc

gone_at : (seats : List board.AgentPlace) (i : ℕ) → i < length seats → ended seats ≡ true → is_gone (seat_or_none (slice_get seats i)).phase ≡ true
gone_at [] i l e = absurd (omega arith)
gone_at (s ∷ seats) zero l e = (both_true (is_gone s.phase) (ended seats) e).0
gone_at (s ∷ seats) (suc i) l e = gone_at seats i (omega arith) (both_true (is_gone s.phase) (ended seats) e).1

ended_at : (seats : List board.AgentPlace) (i : ℕ) → i < length seats → ended seats ≡ true → is_gone (seat_of seats (suc i)).phase ≡ true
ended_at seats i l e = subst (λ (n : ℕ). is_gone (seat_or_none (slice_get seats n)).phase ≡ true) (let z : i ≡ suc i - 1 = omega arith in z) (gone_at seats i l e)

two_true : (x y : Bool) → x ≡ true → y ≡ true → (x && y) ≡ true
two_true true y e d = d
two_true false y e d = cc

gone_all : (seats : List board.AgentPlace) → ((i : ℕ) → i < length seats → is_gone (seat_or_none (slice_get seats i)).phase ≡ true) → ended seats ≡ true
gone_all [] h = refl
gone_all (s ∷ seats) h = two_true (is_gone s.phase) (ended seats) (h 0 (omega arith)) (gone_all seats (λ i l. h (suc i) (omega arith)))

pub all_gone : (n : ℕ) (seats : List board.AgentPlace) → AllGone n seats → n ≡ length seats → ended seats ≡ true
all_gone n seats h e = gone_all seats (λ i l. subst (λ (m : ℕ). is_gone (seat_or_none (slice_get seats m)).phase ≡ true) (let z : suc i - 1 ≡ i = omega arith in z) (h (suc i) (record { from_one = omega arith; named = omega arith })))

-- where one has not left, not all have
pub one_stays : (seats : List board.AgentPlace) (a : ℕ) (p : Phase) → IsAgent (length seats) a → p ≡ (seat_of seats a).phase → is_gone p ≡ false → false ≡ ended seats
one_stays seats a p agent e g = go (ended seats) refl
  where
    go : (b : Bool) → ended seats ≡ b → false ≡ b
    go false f = refl
    go true f =
        let n = agent.from_one in
        let m = agent.named in
        let d : false ≡ true = sym g ∙ ap is_gone e ∙ gone_at seats (a - 1) (omega arith) f in
        cc

not_busy : (p : Phase) → is_gone p ≡ true → p ≢ Busy
not_busy p g e = let d : false ≡ true = ap is_gone (sym e) ∙ g in cc

module _ {V : Type 0} (k : Kind V) where
  follows_at : (o q : Option V) (t u : Option (Option Thought)) (turns : List Turn) (m n : V) → o ≡ Some m → t ≡ Some None → q ≡ Some n → u ≡ Some None → Follows k (resting m) turns (resting n) → FollowsAt k o t turns q u
  follows_at o q t u turns m n a b c d f =
      subst (λ (x : Option V × Option (Option Thought) × Option V × Option (Option Thought)). FollowsAt k x.0 x.1 turns x.2 x.3) (λ i. (sym a i, sym b i, sym c i, sym d i)) f

module _ {V A : Type 0} (k : Kind V) where
  first_is : (b : Baton A) (start : Noted) (ss : List (Seat A)) (ms : List V) (row : List (Going V A)) → 0 < length row → Row (IsNew b start) 1 ss → Each (EndedOf k (dealt ss ms)) row → first_by (seats_of row) ≡ start
  first_is b start ss ms [] l r h = absurd (omega arith)
  first_is b start ss ms (x ∷ row) l r h = h.0.ended.same.first ∙ (dealt_at b start 1 (x.number - 1) ss ms h.0.begun r h.0.at).is_new.first

  -- one mind went through the turns of its agent
  one_follows : (b : Baton A) (start after : Noted) (log : List Entry) (ss : List (Seat A)) (ms : List V) (row : List (Going V A)) (i : ℕ) (x : Going V A) → Row (IsNew b start) 1 ss → ((a : ℕ) → (seat_at start.state a).phase ≡ Idle)
      → AreEnded k (dealt ss ms) row → Plays start.state log after.state → Each (λ (s : Seat A). of s.number log ≡ turns_of s) (seats_of row) → ended after.state.seats ≡ true → length after.state.seats ≡ length start.state.seats
      → i < length start.state.seats → slice_get row i ≡ Some x → (m : V) × (slice_get ms i ≡ Some m) × Follows k (resting m) (of (suc i) log) (resting x.mind)
  one_follows b start after log ss ms row i x r idle e plays turns gone same l at =
      let n : number_of x ≡ suc i = number_get number_of row 1 (length (dealt ss ms)) i x e.numbers_are at ∙ (let z : 1 + i ≡ suc i = omega arith in z) in
      let h = each_get (EndedOf k (dealt ss ms)) row i x e.each at in
      let j : x.number - 1 ≡ i = omega arith in
      let begun = dealt_at b start 1 i ss ms h.begun r (subst (λ (p : ℕ). slice_get (dealt ss ms) p ≡ Some h.begun) j h.at) in
      let number : x.seat.number ≡ suc i = h.ended.seat ∙ n in
      let mine : of (suc i) log ≡ turns_of x.seat = ap (λ (a : ℕ). of a log) (sym number) ∙ each_get (λ (s : Seat A). of s.number log ≡ turns_of s) (seats_of row) i x.seat turns (get_map (λ (g : Going V A). g.seat) row i x at) in
      let agent : IsAgent (length start.state.seats) (suc i) = record { from_one = omega arith; named = omega arith } in
      let stands = plays_stands start.state log after.state (suc i) agent plays in
      let phase : (seat_at after.state (suc i)).phase ≡ phase_of x.seat = stands.phase_is ∙ ap (λ (p : Phase). phase_after p (of (suc i) log)) (idle (suc i)) ∙ ap (phase_after Idle) mine in
      let busy = not_busy (phase_of x.seat) (ap is_gone (sym phase) ∙ ended_at after.state.seats i (omega arith) gone) in
      (h.begun.mind, begun.mind, subst (λ (t : List Turn). Follows k (resting h.begun.mind) t (resting x.mind)) (sym mine) (h.ended.follows busy))

  all_follow : (b : Baton A) (start after : Noted) (log : List Entry) (ss : List (Seat A)) (ms : List V) (row : List (Going V A)) → Opened start b ss → length ms ≡ length start.state.seats → ((a : ℕ) → (seat_at start.state a).phase ≡ Idle)
      → AreEnded k (dealt ss ms) row → Plays start.state log after.state → Each (λ (s : Seat A). of s.number log ≡ turns_of s) (seats_of row) → ended after.state.seats ≡ true
      → AllFollow k (opening_platform start.state ms) log (record { board = after.state; minds = minds_of row; thoughts = replicate (length ms) None })
  all_follow b start after log ss ms row o count idle e plays turns gone =
      let size = length_dealt ss ms (let c = o.count in omega arith) in
      let wide : length row ≡ length ms = sym (length_map number_of row) ∙ ap length e.numbers_are ∙ length_from 1 (length (dealt ss ms)) ∙ size in
      let same = (plays_kept start.state log after.state plays).seats in
      record {
        minds = count;
        thoughts = length_replicate (length ms) None ∙ count;
        minds_after = length_map (λ (g : Going V A). g.mind) row ∙ wide ∙ count;
        thoughts_after = length_replicate (length ms) None ∙ count;
        each = λ a agent.
            (let low = agent.from_one in
            let high = agent.named in
            let x = get_some row (a - 1) (omega arith) in
            let f = one_follows b start after log ss ms row (a - 1) x.0 o.each idle e plays turns gone same (omega arith) x.1 in
            let here : suc (a - 1) ≡ a = omega arith in
            let thought = get_replicate (length ms) (a - 1) None (omega arith) in
            follows_at k _ _ _ _ (of a log) f.0 x.0.mind f.1 thought (get_map (λ (g : Going V A). g.mind) row (a - 1) x.0 x.1) thought
            (subst (λ (n : ℕ). Follows k (resting f.0) (of n log) (resting x.0.mind)) here f.2));
      }

  -- the board and the minds are those of the run along the board's own schedule
  pub whole_run : (b : Baton A) (start after : Noted) (ss : List (Seat A)) (ms : List V) (row : List (Going V A)) → Opened start b ss → 0 < length start.state.seats → length ms ≡ length start.state.seats
      → ((a : ℕ) → (seat_at start.state a).phase ≡ Idle) → AreEnded k (dealt ss ms) row → Closed (seats_of row) after → ended after.state.seats ≡ true
      → RanAlong k (opening_platform start.state ms) after.schedule after (minds_of row)
  whole_run b start after ss ms row o some count idle e c gone =
      let size = length_dealt ss ms (let c = o.count in omega arith) in
      let wide : length row ≡ length ms = sym (length_map number_of row) ∙ ap length e.numbers_are ∙ length_from 1 (length (dealt ss ms)) ∙ size in
      let first = first_is b start ss ms row (omega arith) o.each e.each in
      let plays : Plays start.state c.log after.state = subst (λ (x : Noted). Plays x.state c.log after.state) first c.plays in
      let p : Platform V = opening_platform start.state ms in
      let q : Platform V = record { board = after.state; minds = minds_of row; thoughts = replicate (length ms) None } in
      record {
        thoughts = replicate (length ms) None;
        schedule = refl;
        ran = ap (run k p) (sym c.order) ∙ runs k p q c.log plays (all_follow b start after c.log ss ms row o count idle e plays c.turns gone);
        ended = gone;
      }

  back_row : (b : Baton A) (first : List (Going V A)) (n m : ℕ) (row : List (Going V A)) → AreAt b first → numbers number_of row ≡ numbers_from n m → Each (EndedOf k first) row → Row (IsBack b) n (seats_of row)
  back_row b first n m [] home e h = tt
  back_row b first n zero (x ∷ row) home e h = cc
  back_row b first n (suc m) (x ∷ row) home e h =
      let number : number_of x ≡ n = cc in
      let rest : numbers number_of row ≡ numbers_from (suc n) m = cc in (
        record {
          seat = h.0.ended.same.seat b (each_get (λ (g : Going V A). IsSeatOf b g.seat) first (x.number - 1) h.0.begun home h.0.at);
          number = h.0.ended.seat ∙ number;
        },
        back_row b first (suc n) m row home rest h.1,
      )

  -- all seats are back
  pub all_back : (b : Baton A) (start : Noted) (ss : List (Seat A)) (ms : List V) (row : List (Going V A)) → Opened start b ss → 0 < length start.state.seats → length ms ≡ length start.state.seats → AreAt b (dealt ss ms) → AreEnded k (dealt ss ms) row
      → AllBack b (seats_of row)
  all_back b start ss ms row o some count home e =
      let size = length_dealt ss ms (let c = o.count in omega arith) in
      let wide : length row ≡ length ms = sym (length_map number_of row) ∙ ap length e.numbers_are ∙ length_from 1 (length (dealt ss ms)) ∙ size in
      let seats = length_map (λ (g : Going V A). g.seat) row in
      let first = first_is b start ss ms row (omega arith) o.each e.each in
      record {
        some = omega arith;
        each = back_row b (dealt ss ms) 1 (length (dealt ss ms)) row home e.numbers_are e.each;
        all = seats ∙ wide ∙ count ∙ ap (λ (x : Noted). length x.state.seats) (sym first);
      }

  -- ---- as the run was dealt

  seats_some : (b : Baton A) (board : Noted) (ms : List V) (gs : List (Going V A)) → AreSeated k board ms b gs → 0 < length board.state.seats
  seats_some b board ms gs s = let some = s.some in let count = s.count in omega arith

  pub seats_back : (b : Baton A) (row : List (Going V A)) → AreBack k b row → AllBack b (seats_of row)
  seats_back b row back =
      let s = back.seated in
      all_back b back.board s.seats back.minds row s.opened (seats_some b back.board back.minds back.first s) s.start.fit.number (subst (AreAt b) s.goings_are s.home)
      (subst (λ (l : List (Going V A)). AreEnded k l row) s.goings_are back.ended)

  pub has_run : (b : Baton A) (row : List (Going V A)) (after : Noted) → Closed (seats_of row) after → ended after.state.seats ≡ true → (back : AreBack k b row)
      → RanAlong k (opening_platform back.board.state back.minds) after.schedule after (minds_of row)
  has_run b row after closed gone back =
      let s = back.seated in
      whole_run b back.board after s.seats back.minds row s.opened (seats_some b back.board back.minds back.first s) s.start.fit.number s.idle
      (subst (λ (l : List (Going V A)). AreEnded k l row) s.goings_are back.ended) closed gone
