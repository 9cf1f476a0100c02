-- No site ends for quiet.
use Rattle.std.proofs.Common.{ℕ, zero, suc, ◌≡◌, ◌-◌, ◌<◌, arith, Bool, true, false, ◌&&◌, ◌||◌, if◌then◌else◌, List, [], ◌∷◌, length, replicate, slice_get, slice_set, Option, None, Some, refl, ap, sym, ◌∙◌, subst}
use Rattle.std.proofs.lemmas.Option.{same_Some, none-some}
use Rattle.std.proofs.lemmas.List.{length-set, length-replicate}
use Rattle.mas_mind.specs.declared.mind.End.{End}
use Rattle.mas_mind.specs.declared.mind.End.TheVariants.{Quiet, Stopped, Cycles, Budget}
use Rattle.mas_mind.specs.declared.mind.Feedback.{Feedback}
use Rattle.mas_mind.specs.declared.mind.Input.{Input}
use Rattle.mas_mind.specs.declared.mind.Message.{Message}
use Rattle.mas_mind.specs.declared.mind.Thought.{Thought}
use Rattle.mas_mind.specs.declared.mind.Thought.TheVariants.{Outs as Acts, Spent}
use Rattle.mas_mind.specs.Minds.{Kind, IsAgent}
use Rattle.mas_world.specs.Worlds.{World}
use Rattle.mas_board.specs.declared.seats.Phase.{Phase}
use Rattle.mas_board.specs.declared.seats.Phase.TheVariants.{Idle, Busy, Left as Gone}
use Rattle.mas_board.specs.declared.seats.AgentPlace.{AgentPlace}
use Rattle.mas_board.specs.declared.seats.Sensed.{Sensed}
use Rattle.mas_board.specs.declared.seats.Sensed.TheVariants.{Left}
use Rattle.mas_board.specs.Boards.{State, seat_or_none, no_seat, is_gone, is_mark, is_empty, rests, are_quiet, all_quiet, is_at_limit, is_ahead, left_by, left_cycles, left_stopped, left_quiet, ahead, given, sense, put_last, posted, opening}
use Rattle.mas_core.specs.Platform.{Platform, tell, turn, run, and_run, opening_platform}
use Rattle.mas_core_laws.proofs.Steps.{Turned, Leaves, Thinks, Emits, Spends, turned}
use Rattle.mas_sites_stand.specs.declared.seated.Seated.{Seated}
use Rattle.mas_sites_stand.specs.declared.seated.Seated.TheVariants as seat
use Rattle.mas_sites_stand.specs.Stands.{Standing}
use Rattle.mas_sites_stand.specs.Seats.{seated, seated_cycle}
use Rattle.mas_sites_rounds.specs.Laws.{NeverQuiet, NoSiteEndsQuiet}

-- what holds of the item at a place holds there after a change at a place, if it holds of the new item
at_place : {X : Type 0} (P : Option X → Type 0) (xs : List X) (i j : ℕ) (x : X) → (i ≡ j → P (Some x)) → P (slice_get xs i) → P (slice_get (slice_set xs j x) i)
at_place P [] i j x h t = t
at_place P (y ∷ xs) zero zero x h t = h refl
at_place P (y ∷ xs) zero (suc j) x h t = t
at_place P (y ∷ xs) (suc i) zero x h t = t
at_place P (y ∷ xs) (suc i) (suc j) x h t = at_place P xs i j x (λ e. h (ap suc e)) t

-- ---- an agent without a mark keeps the board awake

and-false : (b : Bool) → b && false ≡ false
and-false true = refl
and-false false = refl

awake : (version : ℕ) (seats : List AgentPlace) (boxes : List (List Message)) (i : ℕ) → i < length seats → length boxes ≡ length seats
    → is_gone (seat_or_none (slice_get seats i)).phase ≡ false → (seat_or_none (slice_get seats i)).mark ≡ None → are_quiet version seats boxes ≡ false
awake version [] boxes i l n g m = absurd (omega arith)
awake version (s ∷ seats) [] i l n g m = absurd (omega arith)
awake version (s ∷ seats) (b ∷ boxes) zero l n g m =
    ap (λ (x : Bool). (x || (is_mark s.mark version && is_empty b)) && are_quiet version seats boxes) g ∙
    ap (λ (x : Option ℕ). (false || (is_mark x version && is_empty b)) && are_quiet version seats boxes) m
awake version (s ∷ seats) (b ∷ boxes) (suc i) l n g m =
    ap (λ (x : Bool). rests version s b && x) (awake version seats boxes i (omega arith) (omega arith) g m) ∙ and-false (rests version s b)

-- ---- an end

abbrev NoQuietEnd : Phase → Type 0
NoQuietEnd Idle = Unit {0}
NoQuietEnd Busy = Unit {0}
NoQuietEnd (Gone Quiet) = ⊥
NoQuietEnd (Gone Stopped) = Unit {0}
NoQuietEnd (Gone Cycles) = Unit {0}
NoQuietEnd (Gone Budget) = Unit {0}

end_by : (s : State) (b : ℕ) (x y z w : Bool) → z ≡ false → (e : End) (t : State)
    → (if x then left_cycles s b else if y then left_stopped s b else if z then left_quiet s b else if w then ahead s b else given s b) ≡ (Left e, t) → NoQuietEnd (Gone e)
end_by s b true y z w q e t h = let r = ap (λ (u : Sensed × State). u.0) h in let c : Cycles ≡ e = cc in subst (λ (u : End). NoQuietEnd (Gone u)) c tt
end_by s b false true z w q e t h = let r = ap (λ (u : Sensed × State). u.0) h in let c : Stopped ≡ e = cc in subst (λ (u : End). NoQuietEnd (Gone u)) c tt
end_by s b false false true w q e t h = cc
end_by s b false false false true q e t h = let r = ap (λ (u : Sensed × State). u.0) h in cc
end_by s b false false false false q e t h = let r = ap (λ (u : Sensed × State). u.0) h in cc

no_quiet_end : (s : State) (b : ℕ) (e : End) → all_quiet s ≡ false → sense s b ≡ (Left e, left_by s b e) → NoQuietEnd (Gone e)
no_quiet_end s b e q h = end_by s b (is_at_limit s b) s.stop (all_quiet s) (is_ahead s b) q e _ h

-- ---- what holds of the place of a stand

-- no mark, and no end for quiet
abbrev IsAwake : Option AgentPlace → Type 0
IsAwake o = ((seat_or_none o).mark ≡ None) × NoQuietEnd (seat_or_none o).phase

abbrev IsStand : {V : Type 0} → Option (Seated V) → Type 0
IsStand None = ⊥
IsStand (Some (seat.Own m)) = ⊥
IsStand (Some (seat.Stand s)) = Unit {0}

-- outs that are not quiet, where there are any
abbrev IsBusy : Option (Option Thought) → Type 0
IsBusy None = Unit {0}
IsBusy (Some None) = Unit {0}
IsBusy (Some (Some (Acts outs))) = outs.quiet ≡ false
IsBusy (Some (Some Spent)) = Unit {0}

record Stands {V : Type 0} (a : ℕ) (p : Platform (Seated V)) : Type 0 where
  boxes : length p.board.boxes ≡ length p.board.seats
  agent : IsAgent (length p.board.seats) a
  place : IsAwake (slice_get p.board.seats (a - 1))
  mind : IsStand (slice_get p.minds (a - 1))
  thought : IsBusy (slice_get p.thoughts (a - 1))

posted-length : (boxes : List (List Message)) (messages : List Message) → length (posted boxes messages) ≡ length boxes
posted-length boxes [] = refl
posted-length boxes (m ∷ messages) = posted-length (put_last boxes m) messages ∙ length-set boxes (m.to - 1) _

module _ {V : Type 0} (k : Kind V) where
  thinks : (m : Seated V) (i : Input) → IsStand (Some m) → IsStand (Some (seated_cycle k m i).mind) × IsBusy (Some (Some (seated_cycle k m i).thought))
  thinks (seat.Own m) i h = absurd h
  thinks (seat.Stand s) i h = (tt, refl)

  told : (minds : List (Seated V)) (b i : ℕ) (o : Option (Seated V)) (f : Option Feedback) → slice_get minds (b - 1) ≡ o → IsStand (slice_get minds i) → IsStand (slice_get (tell (seated k) minds b o f) i)
  told minds b i None f e h = h
  told minds b i (Some m) None e h = h
  told minds b i (Some (seat.Own m)) (Some f) e h =
      at_place IsStand minds i (b - 1) _ (λ n. let g : IsStand (slice_get minds (b - 1)) = subst (λ (x : ℕ). IsStand (slice_get minds x)) n h in absurd (subst IsStand e g)) h
  told minds b i (Some (seat.Stand s)) (Some f) e h = at_place IsStand minds i (b - 1) _ (λ n. tt) h

  quiet-not : (p : Platform (Seated V)) (a : ℕ) → Stands a p → is_gone (seat_or_none (slice_get p.board.seats (a - 1))).phase ≡ false → all_quiet p.board ≡ false
  quiet-not p a h g = let one = h.agent.from_one in let most = h.agent.named in awake p.board.version p.board.seats p.board.boxes (a - 1) (omega arith) h.boxes g h.place.0

  -- ---- a turn

  stands-case : (p q : Platform (Seated V)) (a b : ℕ) → Stands a p → Turned (seated k) p b (sense p.board b) q → Stands a q
  stands-case p q a b h (Leaves t) =
      let long = length-set p.board.seats (b - 1) _ in
      subst (Stands a) (sym t.is) record {
        boxes = h.boxes ∙ sym long;
        agent = subst (λ (n : ℕ). IsAgent n a) (sym long) h.agent;
        place = at_place IsAwake p.board.seats (a - 1) (b - 1) _ (λ e. (
          subst (λ (n : ℕ). (seat_or_none (slice_get p.board.seats n)).mark ≡ None) e h.place.0,
          no_quiet_end p.board b t.end (quiet-not p a h (subst (λ (n : ℕ). is_gone (seat_or_none (slice_get p.board.seats n)).phase ≡ false) (sym e) (ap is_gone t.idle))) t.sensed,
        )) h.place;
        mind = h.mind;
        thought = h.thought;
      }
  stands-case p q a b h (Thinks t) =
      let long = length-set p.board.seats (b - 1) _ in
      let here : (a - 1 ≡ b - 1) → IsStand (Some t.mind) = λ e. subst IsStand t.mind_is (subst (λ (n : ℕ). IsStand (slice_get p.minds n)) e h.mind) in
      subst (Stands a) (sym t.is) record {
        boxes = length-set p.board.boxes (b - 1) _ ∙ h.boxes ∙ sym long;
        agent = subst (λ (n : ℕ). IsAgent n a) (sym long) h.agent;
        place = at_place IsAwake p.board.seats (a - 1) (b - 1) _ (λ e. (refl, tt)) h.place;
        mind = at_place IsStand p.minds (a - 1) (b - 1) _ (λ e. (thinks t.mind _ (here e)).0) h.mind;
        thought = at_place IsBusy p.thoughts (a - 1) (b - 1) _ (λ e. (thinks t.mind _ (here e)).1) h.thought;
      }
  stands-case p q a b h (Emits t) =
      let long = length-set p.board.seats (b - 1) _ in
      subst (Stands a) (sym t.is) record {
        boxes = posted-length p.board.boxes t.outs.messages ∙ h.boxes ∙ sym long;
        agent = subst (λ (n : ℕ). IsAgent n a) (sym long) h.agent;
        place = at_place IsAwake p.board.seats (a - 1) (b - 1) _ (λ e. (
          (let busy : t.outs.quiet ≡ false = subst IsBusy t.outs_are (subst (λ (n : ℕ). IsBusy (slice_get p.thoughts n)) e h.thought) in
              ap (λ (x : Bool). if x then Some (seat_or_none (slice_get p.board.seats (b - 1))).kept else None) busy),
          tt,
        )) h.place;
        mind = told p.minds b (a - 1) (slice_get p.minds (b - 1)) _ refl h.mind;
        thought = at_place IsBusy p.thoughts (a - 1) (b - 1) None (λ e. tt) h.thought;
      }
  stands-case p q a b h (Spends t) =
      let long = length-set p.board.seats (b - 1) _ in
      subst (Stands a) (sym t.is) record {
        boxes = h.boxes ∙ sym long;
        agent = subst (λ (n : ℕ). IsAgent n a) (sym long) h.agent;
        place = at_place IsAwake p.board.seats (a - 1) (b - 1) _ (λ e. (subst (λ (n : ℕ). (seat_or_none (slice_get p.board.seats n)).mark ≡ None) e h.place.0, tt)) h.place;
        mind = h.mind;
        thought = at_place IsBusy p.thoughts (a - 1) (b - 1) None (λ e. tt) h.thought;
      }

  -- ---- a run

  stands-next : (p done : Platform (Seated V)) (a b : ℕ) (names : List ℕ) → Stands a p → ((q : Platform (Seated V)) → Stands a q → run (seated k) q names ≡ Some done → Stands a done)
      → (o : Option (Platform (Seated V))) → turn (seated k) p b ≡ o → and_run (λ q. run (seated k) q names) o ≡ Some done → Stands a done
  stands-next p done a b names h more None e r = absurd (none-some done r)
  stands-next p done a b names h more (Some q) e r = more q (stands-case p q a b h (turned (seated k) p b q e).case) r

  stands-run : (p done : Platform (Seated V)) (a : ℕ) (names : List ℕ) → Stands a p → run (seated k) p names ≡ Some done → Stands a done
  stands-run p done a [] h r = subst (Stands a) (same_Some p done r) h
  stands-run p done a (b ∷ names) h r = stands-next p done a b names h (λ q g s. stands-run q done a names g s) (turn (seated k) p b) refl r

none-busy : (n i : ℕ) → IsBusy (slice_get (replicate n None) i)
none-busy zero i = tt
none-busy (suc n) zero = tt
none-busy (suc n) (suc i) = none-busy n i

all-awake : (n i : ℕ) → IsAwake (slice_get (replicate n no_seat) i)
all-awake zero i = (refl, tt)
all-awake (suc n) zero = (refl, tt)
all-awake (suc n) (suc i) = all-awake n i

never : (phase : Phase) → NoQuietEnd phase → ¬ (phase ≡ Gone Quiet)
never phase h e = subst NoQuietEnd e h

pub no_site_quiet : {V : Type 0} (k : Kind V) → NoSiteEndsQuiet k
no_site_quiet k agents world cycles lead minds stand a names p i m r =
    let n = length agents in
    let seats : length (replicate n no_seat) ≡ n = length-replicate n no_seat in
    let empty : List Message = [] in
    let boxes : length (replicate n empty) ≡ n = length-replicate n empty in
    let h = stands-run k (opening_platform (opening agents world cycles lead) minds) p a names record {
      boxes = boxes ∙ sym seats;
      agent = subst (λ (x : ℕ). IsAgent x a) (sym seats) i;
      place = all-awake n (a - 1);
      mind = subst IsStand (sym m) tt;
      thought = none-busy (length minds) (a - 1);
    } r in
    record { stand = never _ h.place.1; others = quiet-not k p a h }
