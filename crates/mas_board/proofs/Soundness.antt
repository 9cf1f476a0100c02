-- What holds of every board still holds after each turn.
use Rattle.std.proofs.Common.{ℕ, zero, suc, ◌≡◌, ◌+◌, ◌-◌, ◌<◌, ◌≤◌, arith, Bool, true, false, not, nat_eq, min, ◌||◌, List, [], ◌∷◌, ◌++◌, length, replicate, slice_get, slice_set, Option, None, Some, All, IfSome, refl, ap, sym, ◌∙◌, subst, if◌then◌else◌}
use Rattle.std.proofs.lemmas.Grind.{common_steps}
use Rattle.std.proofs.lemmas.List.{length-set, length-append, length-replicate}
use Rattle.std.proofs.lemmas.List.Elements.{All-head, All-tail, All-nil, All-push, All-same, All-set, All-replicate}
use Rattle.mas_mind.specs.declared.mind.Message.{Message}
use Rattle.mas_mind.specs.declared.mind.Feedback.{Feedback}
use Rattle.mas_mind.specs.declared.mind.Outs.{Outs}
use Rattle.mas_mind.specs.declared.mind.End.{End}
use Rattle.mas_mind.specs.Minds.{IsAgent, IsFor, IsFrom, AreOuts}
use Rattle.mas_world.specs.Worlds.{World}
use Rattle.mas_board.specs.Boards.{oldest, later}
use Rattle.mas_board.specs.declared.seats.Phase.TheVariants.{Busy, Left as Gone}
use Rattle.mas_board.specs.declared.seats.AgentPlace.{AgentPlace}
use Rattle.mas_board.specs.Boards.{State, Noted, least, lower, is_ahead, seat_or_none, is_gone, is_done, is_empty, seat_of, seat_at, box_of, box_or_none, with_seat, left_by, begun, put_last, posted, rested, version_after, no_seat, opening}
use Rattle.mas_board.specs.Seating.{AreLimits, AreLed, AreDelivered, IsSound, IsBoard, living}
use Rattle.mas_board.proofs.Places.{get_set, same_place, below, living_most, living_left, all_at}

not-nil : (xs : List ℕ) (x : ℕ) → xs ++ x ∷ [] ≡ [] → ⊥
not-nil [] x e = cc
not-nil (y ∷ xs) x e = cc

pub sound_by : (s t : State) → IsSound s → t.names ≡ s.names → t.cycles ≡ s.cycles → t.lead ≡ s.lead → length t.seats ≡ length s.seats → length t.boxes ≡ length s.boxes →
    All (λ (x : AgentPlace). x.cycle ≤ s.cycles) t.seats → AreLed s.lead t.seats → AreDelivered (length s.seats) t.boxes → IsSound t
sound_by s t h n c l ss bs w g d = record {
  limits = rw (ss, c, l) h.limits;
  named = ap length n ∙ h.named ∙ sym ss;
  boxed = bs ∙ h.boxed ∙ sym ss;
  within = rw c w;
  led = rw l g;
  delivered = rw ss d;
}

-- ---- the lead

led-by : (lead : ℕ) (x s r : AgentPlace) (t u : Bool) →
    (is_gone x.phase ≡ false → is_gone r.phase ≡ false → x.cycle ≤ lead + r.cycle) →
    (is_gone x.phase ≡ false → is_gone s.phase ≡ false → s.cycle ≤ lead + x.cycle) →
    (is_gone s.phase ≡ false → is_gone r.phase ≡ false → s.cycle ≤ lead + r.cycle) →
    is_gone (if t then x else s).phase ≡ false → is_gone (if u then x else r).phase ≡ false → (if t then x else s).cycle ≤ lead + (if u then x else r).cycle
led-by lead x s r true true f g h e i = omega arith
led-by lead x s r true false f g h e i = f e i
led-by lead x s r false true f g h e i = g i e
led-by lead x s r false false f g h e i = h e i

seat-if : (t : Bool) (x : AgentPlace) (o : Option AgentPlace) → seat_or_none (if t then Some x else o) ≡ (if t then x else seat_or_none o)
seat-if true x o = refl
seat-if false x o = refl

-- an agent has another seat
pub led_set : (lead : ℕ) (seats : List AgentPlace) (a : ℕ) (x : AgentPlace) → IsAgent (length seats) a → AreLed lead seats →
    ((b : ℕ) → IsAgent (length seats) b → is_gone x.phase ≡ false → is_gone (seat_of seats b).phase ≡ false → x.cycle ≤ lead + (seat_of seats b).cycle) →
    ((b : ℕ) → IsAgent (length seats) b → is_gone x.phase ≡ false → is_gone (seat_of seats b).phase ≡ false → (seat_of seats b).cycle ≤ lead + x.cycle) →
    AreLed lead (slice_set seats (a - 1) x)
led_set lead seats a x k h f g = rw (length-set seats (a - 1) x) (λ b c i j.
    let l = below (length seats) a k in
    rw (get_set seats (a - 1) (b - 1) x l, get_set seats (a - 1) (c - 1) x l, seat-if (nat_eq (a - 1) (b - 1)) x (slice_get seats (b - 1)), seat-if (nat_eq (a - 1) (c - 1)) x (slice_get seats (c - 1)))
    (led-by lead x (seat_of seats b) (seat_of seats c) (nat_eq (a - 1) (b - 1)) (nat_eq (a - 1) (c - 1)) (f c j) (g b i) (h b c i j)))

-- a seat of the same cycle, of an agent that had not left
pub led_same : (lead : ℕ) (seats : List AgentPlace) (a : ℕ) (x : AgentPlace) → IsAgent (length seats) a → AreLed lead seats → is_gone (seat_of seats a).phase ≡ false → x.cycle ≡ (seat_of seats a).cycle →
    AreLed lead (slice_set seats (a - 1) x)
led_same lead seats a x k h e c = led_set lead seats a x k h
    (λ b j g f. let r = h a b k j e f in omega arith)
    (λ b j g f. let r = h b a j k f e in omega arith)

least-first : (n : ℕ) (seats : List AgentPlace) → least n seats ≤ n
least-first n [] = omega arith
least-first n (s ∷ seats) =
    let h = least-first (lower n s) seats in
    (elim (is_gone s.phase) as (λ t. least (lower n s) seats ≤ (if t then n else min n s.cycle) → least (lower n s) seats ≤ n) [ true ↦ λ q. q | false ↦ λ q. grind arith ]) h

least-of : (n : ℕ) (seats : List AgentPlace) (i : ℕ) → i < length seats → is_gone (seat_or_none (slice_get seats i)).phase ≡ false → least n seats ≤ (seat_or_none (slice_get seats i)).cycle
least-of n [] i l e = absurd (omega arith)
least-of n (s ∷ seats) zero l e =
    let h = least-first (lower n s) seats in
    let q : lower n s ≡ min n s.cycle = ap (λ t. if t then n else min n s.cycle) e in
    let r : min n s.cycle ≤ s.cycle = grind arith in
    omega arith
least-of n (s ∷ seats) (suc i) l e = least-of (lower n s) seats i (omega arith) e

-- an agent that is not ahead may make a cycle more
pub led_begun : (s : State) (a : ℕ) (x : AgentPlace) → IsAgent (length s.seats) a → AreLed s.lead s.seats → is_gone (seat_at s a).phase ≡ false → x.cycle ≡ (seat_at s a).cycle + 1 → is_ahead s a ≡ false →
    AreLed s.lead (slice_set s.seats (a - 1) x)
led_begun s a x k h e c w = led_set s.lead s.seats a x k h
    (λ b j g f.
    let r = least-of (seat_at s a).cycle s.seats (b - 1) (below (length s.seats) b j) f in
    let p : (seat_at s a).cycle < s.lead + least (seat_at s a).cycle s.seats = grind (arith, common_steps) in
    omega arith)
    (λ b j g f. let r = h b a j k f e in omega arith)

-- the agent has left
sound-left : (s : State) (a : ℕ) (x : AgentPlace) → IsSound s → IsAgent (length s.seats) a → is_gone (seat_at s a).phase ≡ false → x.cycle ≡ (seat_at s a).cycle → IsSound (with_seat s a x)
sound-left s a x h k g e =
    let w = all_at (λ (y : AgentPlace). y.cycle ≤ s.cycles) s.seats a k h.within in
    sound_by s (with_seat s a x) h refl refl refl (length-set s.seats (a - 1) x) refl
    (All-set (λ (y : AgentPlace). y.cycle ≤ s.cycles) s.seats (a - 1) x (omega arith) h.within) (led_same s.lead s.seats a x k h.led g e) h.delivered

-- ---- the boxes

delivered-set : (n : ℕ) (boxes : List (List Message)) (a : ℕ) (box : List Message) → length boxes ≡ n → IsAgent n a → AreDelivered n boxes → All (IsFor a n) box →
    AreDelivered n (slice_set boxes (a - 1) box)
delivered-set n boxes a box l j h all = λ b k.
    let e = get_set boxes (a - 1) (b - 1) box (rw l (below n a j)) in
    All-same (IsFor b n) _ _ (ap box_or_none e)
    ((elim (nat_eq (a - 1) (b - 1)) as (λ t. nat_eq (a - 1) (b - 1) ≡ t → All (IsFor b n) (box_or_none (if t then Some box else slice_get boxes (b - 1)))) [
      | true ↦ λ q. (let P = λ (x : ℕ). All (IsFor x n) box in subst P (same_place n a b j k q) all)
      | false ↦ λ q. h b k
    ]) refl)

all-later : (P : Message → Type 0) (box : List Message) → All P box → All P (later box)
all-later P [] h = h
all-later P (m ∷ more) h = All-tail P m more h

pub oldest_for : (P : Message → Type 0) (box : List Message) → All P box → IfSome (oldest box) P
oldest_for P [] h = tt
oldest_for P (m ∷ more) h = All-head P m more h

posted-length : (boxes : List (List Message)) (ms : List Message) → length (posted boxes ms) ≡ length boxes
posted-length boxes [] = refl
posted-length boxes (m ∷ ms) = posted-length (put_last boxes m) ms ∙ length-set boxes (m.to - 1) _

delivered-posted : (n : ℕ) (boxes : List (List Message)) (a : ℕ) (ms : List Message) → length boxes ≡ n → IsAgent n a → AreDelivered n boxes → All (IsFrom a n) ms →
    AreDelivered n (posted boxes ms)
delivered-posted n boxes a [] l j h all = h
delivered-posted n boxes a (m ∷ ms) l j h all =
    let f = All-head (IsFrom a n) m ms all in
    let P = λ (x : ℕ). IsAgent n x in
    let for : IsFor m.to n m = record { to_me = refl; sender = subst P (sym f.from_me) j } in
    let d = delivered-set n boxes m.to (box_of boxes m.to ++ m ∷ []) l f.receiver h (All-push (IsFor m.to n) (box_of boxes m.to) m (h m.to f.receiver) for) in
    delivered-posted n (put_last boxes m) a ms (length-set boxes (m.to - 1) _ ∙ l) j d (All-tail (IsFrom a n) m ms all)

-- ---- the turns

board-next : (b : Noted) (t : State) (a spare after : ℕ) → IsBoard b spare → IsSound t → t.version ≤ b.state.version + 1 → living t.seats ≤ after →
    IsBoard (record { state = t; schedule = b.schedule ++ a ∷ []; halted = b.halted }) after
board-next b t a spare after h s v r = record {
  sound = s;
  late = (let q = h.late in let p = length-append b.schedule (a ∷ []) in omega arith);
  room = r;
  opens = λ e. absurd (not-nil b.schedule a e);
}

pub board_left : (b : Noted) (a : ℕ) (end : End) (spare after : ℕ) → IsBoard b spare → IsAgent (length b.state.seats) a → is_gone (seat_at b.state a).phase ≡ false → after + 1 ≡ spare →
    IsBoard (record { state = left_by b.state a end; schedule = b.schedule ++ a ∷ []; halted = b.halted }) after
board_left b a end spare after h k g e =
    let x : AgentPlace = record (seat_at b.state a) { phase = Gone end } in
    let p = living_left b.state.seats a x k g refl in
    let r = h.room in
    board-next b (left_by b.state a end) a spare after h (sound-left b.state a x h.sound k g refl) (omega arith) (omega arith)

pub board_begun : (b : Noted) (a : ℕ) (spare full after : ℕ) → IsBoard b spare → IsAgent (length b.state.seats) a → is_gone (seat_at b.state a).phase ≡ false →
    (seat_at b.state a).cycle < b.state.cycles → is_ahead b.state a ≡ false → length b.state.seats + 1 ≤ full → after + 1 ≡ full →
    IsBoard (record { state = begun b.state a; schedule = b.schedule ++ a ∷ []; halted = b.halted }) after
board_begun b a spare full after h k g l w f e =
    let s = b.state in
    let x : AgentPlace = record { phase = Busy; cycle = (seat_at s a).cycle + 1; mark = None; kept = s.version } in
    let n = length-set s.seats (a - 1) x in
    let box = later (box_of s.boxes a) in
    let sound = sound_by s (begun s a) h.sound refl refl refl n (length-set s.boxes (a - 1) box)
    (All-set (λ (y : AgentPlace). y.cycle ≤ s.cycles) s.seats (a - 1) x (omega arith) h.sound.within) (led_begun s a x k h.sound.led g refl w)
    (delivered-set (length s.seats) s.boxes a box h.sound.boxed k h.sound.delivered (all-later (IsFor a (length s.seats)) (box_of s.boxes a) (h.sound.delivered a k))) in
    board-next b (begun s a) a spare after h sound (omega arith) (let m = living_most (slice_set s.seats (a - 1) x) (length s.seats) n in omega arith)

pub version_most : (version : ℕ) (f : Option Feedback) (ms : List Message) → version_after version f ms ≤ version + 1
version_most version f ms = elim (is_done f || not (is_empty ms)) as (λ t. (if t then version + 1 else version) ≤ version + 1) [ true ↦ omega arith | false ↦ omega arith ]

-- an Emit, whatever it makes of the world and of the mark that stops the run
pub board_emitted : (b : Noted) (t : State) (a : ℕ) (outs : Outs) (spare full free : ℕ) → IsBoard b spare → IsAgent (length b.state.seats) a →
    is_gone (seat_at b.state a).phase ≡ false → AreOuts a (length b.state.seats) outs → length b.state.seats + 1 ≤ full → free + 1 ≡ full →
    t.names ≡ b.state.names → t.cycles ≡ b.state.cycles → t.lead ≡ b.state.lead → t.version ≤ b.state.version + 1 → t.boxes ≡ posted b.state.boxes outs.messages →
    t.seats ≡ slice_set b.state.seats (a - 1) (rested (seat_at b.state a) outs.quiet) → IsBoard (record { state = t; schedule = b.schedule ++ a ∷ []; halted = b.halted }) free
board_emitted b t a outs spare full free h k g o f e names cycles lead version boxes seats =
    let s = b.state in
    let x = rested (seat_at s a) outs.quiet in
    let n : length t.seats ≡ length s.seats = ap length seats ∙ length-set s.seats (a - 1) x in
    let w = all_at (λ (y : AgentPlace). y.cycle ≤ s.cycles) s.seats a k h.sound.within in
    let P = λ (y : List AgentPlace). All (λ (z : AgentPlace). z.cycle ≤ s.cycles) y in
    let Q = λ (y : List AgentPlace). AreLed s.lead y in
    let R = λ (y : List (List Message)). AreDelivered (length s.seats) y in
    let sound = sound_by s t h.sound names cycles lead n (ap length boxes ∙ posted-length s.boxes outs.messages)
    (subst P (sym seats) (All-set (λ (y : AgentPlace). y.cycle ≤ s.cycles) s.seats (a - 1) x w h.sound.within))
    (subst Q (sym seats) (led_same s.lead s.seats a x k h.sound.led g refl))
    (subst R (sym boxes) (delivered-posted (length s.seats) s.boxes a outs.messages h.sound.boxed k h.sound.delivered o.messages)) in
    board-next b t a spare free h sound version (let m = living_most t.seats (length s.seats) n in omega arith)

pub below_limit : (s : State) (a : ℕ) → IsSound s → IsAgent (length s.seats) a → nat_eq (seat_at s a).cycle s.cycles ≡ false → (seat_at s a).cycle < s.cycles
below_limit s a h k e =
    let w : (seat_at s a).cycle ≤ s.cycles = all_at (λ (y : AgentPlace). y.cycle ≤ s.cycles) s.seats a k h.within in
    grind (arith, common_steps)

-- ---- the opening

none-in : (n i : ℕ) → box_or_none (slice_get (replicate n []) i) ≡ []
none-in zero i = refl
none-in (suc n) zero = refl
none-in (suc n) (suc i) = none-in n i

empty-seat : (n i : ℕ) → seat_or_none (slice_get (replicate n no_seat) i) ≡ no_seat
empty-seat zero i = refl
empty-seat (suc n) zero = refl
empty-seat (suc n) (suc i) = empty-seat n i

seat-none : (n a : ℕ) → box_of (replicate n []) a ≡ []
seat-none n a = none-in n (a - 1)

pub board_open : (names : List (List ℕ)) (world : World) (cycles lead spare : ℕ) → AreLimits (length names) cycles lead → length names ≤ spare →
    IsBoard (record { state = opening names world cycles lead; schedule = []; halted = false }) spare
board_open names world cycles lead spare l r =
    let n = length-replicate (length names) no_seat in
    let P = λ (x : ℕ). AreLimits x cycles lead in
    let m = living_most (replicate (length names) no_seat) (length names) n in
    record {
      sound = record {
        limits = subst P (sym n) l;
        named = sym n;
        boxed = length-replicate (length names) _ ∙ sym n;
        within = All-replicate (λ (y : AgentPlace). y.cycle ≤ cycles) (length names) no_seat (omega arith);
        led = λ a b i j g e. (let r = empty-seat (length names) (a - 1) in let q = ap (λ x. x.cycle) r in omega arith);
        delivered = λ a k. All-same (IsFor a _) _ _ (seat-none (length names) a) (All-nil (IsFor a _));
      };
      late = omega arith;
      room = omega arith;
      opens = λ e. refl;
    }
