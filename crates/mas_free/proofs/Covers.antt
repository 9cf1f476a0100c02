-- Every run that ends, none of its agents cut off, comes to what the free machine comes to at some rest.
use Rattle.std.proofs.Common.{ℕ, zero, suc, ◌≡◌, ◌-◌, ◌<◌, ◌⊎◌, inl, inr, arith, Bool, true, false, if◌then◌else◌, List, [], ◌∷◌, length, replicate, slice_get, slice_index_or, Option, None, Some, refl, ap, sym, ◌∙◌, subst}
use Rattle.std.proofs.lemmas.List.{length-replicate}
use Rattle.std.proofs.lemmas.Option.{same_Some, none-some}
use Rattle.mas_mind.specs.declared.mind.Input.{Input}
use Rattle.mas_mind.specs.declared.mind.Thought.{Thought}
use Rattle.mas_mind.specs.Minds.{Kind, IsAgent, is_quiet, SendsNothing}
use Rattle.mas_board.specs.declared.seats.Phase.TheVariants as phase
use Rattle.mas_board.specs.declared.seats.AgentPlace.{AgentPlace}
use Rattle.mas_board.specs.Boards.{seat_at, seat_or_none, no_seat}
use Rattle.mas_board.proofs.Places.{below}
use Rattle.mas_core.specs.Platform.{Platform, is_agent, turn, run, and_run}
use Rattle.mas_core_laws.proofs.Places.{in_replicate}
use Rattle.mas_core_laws.proofs.Rests.{Known, known_open}
use Rattle.mas_free.specs.declared.view.View.{View}
use Rattle.mas_free.specs.Alike.{Alike, IsPlain, QuietStays}
use Rattle.mas_free.specs.Free.{Free, Stage, Idle, move_in, move, and_walk, walk}
use Rattle.mas_free.specs.Forgets.{MindsFit, AgentFits, Forgets}
use Rattle.mas_free.specs.Covers.{MovesTo, TurnsMove, Start, opening_at, free_opening, IsStart, RunsTo, CoversRuns, IsMember, IsLike, HasLike, IsClosed, ClosedCovers}
use Rattle.mas_free.proofs.Likes.{alike_same, alike_then}
use Rattle.mas_free.proofs.Stages.{stage_is}
use Rattle.mas_free.proofs.Moves.{turns_move}
use Rattle.mas_free.proofs.Settles.{Settled, settled_run}
use Rattle.mas_free.proofs.Ends.{is_agent_of, at_rest, same_outcome}

-- ---- a run is a walk

pub record WalksTo {V : Type 0} (k : Kind V) (v : View) (f : Free V) (q : Platform V) : Type 0 where
  pub way : List ℕ
  pub comes : Free V
  pub walked : walk k f way ≡ Some comes
  pub left : Forgets k v q comes

walks-on : {V : Type 0} (k : Kind V) (v : View) (f g : Free V) (a : ℕ) (q : Platform V) → move k f a ≡ Some g → WalksTo k v g q → WalksTo k v f q
walks-on {V} k v f g a q e w = record { way = a ∷ w.way; comes = w.comes; walked = ap (and_walk (λ (x : Free V). walk k x w.way)) e ∙ w.walked; left = w.left }

walks-by : {V : Type 0} (k : Kind V) (v : View) (q done : Platform V) (f : Free V) (a : ℕ) → ((g : Free V) → Forgets k v q g → WalksTo k v g done) → Forgets k v q f ⊎ MovesTo k v f a q → WalksTo k v f done
walks-by k v q done f a more (inl h) = more f h
walks-by k v q done f a more (inr m) = walks-on k v f m.next a done m.moved (more m.next m.left)

walks-next : {V : Type 0} (k : Kind V) (v : View) (p done : Platform V) (f : Free V) (a : ℕ) (names : List ℕ) → TurnsMove k →
    ((q : Platform V) (g : Free V) → Forgets k v q g → run k q names ≡ Some done → WalksTo k v g done) → Forgets k v p f →
    (o : Option (Platform V)) → turn k p a ≡ o → and_run (λ (q : Platform V). run k q names) o ≡ Some done → WalksTo k v f done
walks-next k v p done f a names moves more h None e r = absurd (none-some done r)
walks-next k v p done f a names moves more h (Some q) e r = walks-by k v q done f a (λ g l. more q g l r) (moves v p q f a h e)

walks : {V : Type 0} (k : Kind V) (v : View) (p done : Platform V) (f : Free V) (names : List ℕ) → TurnsMove k → Forgets k v p f → run k p names ≡ Some done → WalksTo k v f done
walks {V} k v p done f [] moves h r =
    let P = λ (x : Platform V). Forgets k v x f in
    record { way = []; comes = f; walked = refl; left = subst P (same_Some p done r) h }
walks k v p done f (a ∷ names) moves h r = walks-next k v p done f a names moves (λ q g l e. walks k v q done g names moves l e) h (turn k p a) refl r

-- ---- the opening

item-at : {X : Type 0} (P : X → Type 0) (xs : List X) (i : ℕ) → i < length xs → ((d : X) → P (slice_index_or xs i d)) → (x : X) × (slice_get xs i ≡ Some x) × P x
item-at P [] i l h = absurd (omega arith)
item-at P (x ∷ xs) zero l h = (x, refl, h x)
item-at P (x ∷ xs) (suc i) l h = item-at P xs i (omega arith) h

mind-fits : {V : Type 0} (k : Kind V) (v : View) (o : Option V) (m : V) → o ≡ Some m → IsPlain k m → MindsFit k v o o
mind-fits {V} k v o m e s = let P = λ (x : Option V). MindsFit k v x x in subst P (sym e) (alike_same k v m, s)

open-fits : {V : Type 0} (k : Kind V) (v : View) (s : Start V) (cycles lead : ℕ) → IsStart k s → (a : ℕ) → IsAgent (length (replicate (length s.names) no_seat)) a →
    AgentFits k v (opening_at s cycles lead) (free_opening s) a
open-fits k v s cycles lead h a j =
    let n = length-replicate (length s.names) no_seat in
    let l : a - 1 < length s.names = (let f = j.from_one in let g = j.named in omega arith) in
    let seat : seat_or_none (slice_get (replicate (length s.names) no_seat) (a - 1)) ≡ no_seat = ap seat_or_none (in_replicate (length s.names) (a - 1) no_seat l) in
    let o : length s.minds ≡ length s.names = h.number in
    let m = item-at (IsPlain k) s.minds (a - 1) (omega arith) (λ d. h.plain (a - 1) d (omega arith)) in
    record {
      stage = stage_is (opening_at s cycles lead) (slice_get (free_opening s).stages (a - 1)) a phase.Idle (slice_get (opening_at s cycles lead).thoughts (a - 1))
          (in_replicate (length s.names) (a - 1) Idle l) (ap (λ (x : AgentPlace). x.phase) seat) refl;
      mind = mind-fits k v (slice_get s.minds (a - 1)) m.0 m.1 m.2;
    }

forgets-open : {V : Type 0} (k : Kind V) (v : View) (s : Start V) (cycles lead : ℕ) → IsStart k s → Forgets k v (opening_at s cycles lead) (free_opening s)
forgets-open k v s cycles lead h =
    let n = length-replicate (length s.names) no_seat in
    let none : Option Thought = None in
    record {
      names = refl;
      world = refl;
      boxes = refl;
      stop = refl;
      minds = h.number ∙ sym n;
      thoughts = length-replicate (length s.minds) none;
      stages_are = length-replicate (length s.names) Idle ∙ sym n;
      minds_are = h.number ∙ sym n;
      each = open-fits k v s cycles lead h;
    }

settled-open : {V : Type 0} (k : Kind V) (s : Start V) (cycles lead : ℕ) → Settled k (opening_at s cycles lead)
settled-open k s cycles lead a j e =
    let n = length-replicate (length s.names) no_seat in
    let l : a - 1 < length s.names = (let f = j.from_one in let g = j.named in omega arith) in
    let idle : (seat_at (opening_at s cycles lead).board a).phase ≡ phase.Idle =
    ap (λ (o : Option AgentPlace). (seat_or_none o).phase) (in_replicate (length s.names) (a - 1) no_seat l) in
    let d = sym idle ∙ e in
    cc

-- ---- the law

settled-end : {V : Type 0} (k : Kind V) → ((m : V) (i : Input) → is_quiet (k.cycle m i).thought ≡ true → SendsNothing (k.cycle m i).thought) →
    (s : Start V) (cycles lead : ℕ) (schedule : List ℕ) (q : Platform V) → RunsTo k s cycles lead schedule q → Settled k q
settled-end k sends s cycles lead schedule q ran =
    let known : Known k (opening_at s cycles lead) = known_open k s.names s.world cycles lead s.minds in
    settled_run k (opening_at s cycles lead) q schedule sends known (settled-open k s cycles lead) ran.ran

pub covers_runs : {V : Type 0} (k : Kind V) → ((m : V) (i : Input) → is_quiet (k.cycle m i).thought ≡ true → SendsNothing (k.cycle m i).thought) →
    ((m : V) (i j : Input) → is_quiet (k.cycle m i).thought ≡ true → j.percepts ≡ i.percepts → j.message ≡ None → is_quiet (k.cycle (k.cycle m i).mind j).thought ≡ true) → QuietStays k →
    CoversRuns k
covers_runs k sends again stays v s cycles lead schedule q start ran =
    let p = opening_at s cycles lead in
    let w = walks k v p q (free_opening s) schedule (turns_move k sends stays) (forgets-open k v s cycles lead start) ran.ran in
    let settled = settled-end k sends s cycles lead schedule q ran in
    record {
      way = w.way;
      rest = w.comes;
      walked = w.walked;
      rests = at_rest k v q w.comes w.left ran.ended_is ran.uncut_is again settled;
      same = same_outcome k v q w.comes w.left ran.ended_is ran.uncut_is;
    }

-- ---- states that are alike

fits-like : {V : Type 0} (k : Kind V) (v : View) (x y z : Option V) → MindsFit k v x y → ((m n : V) → y ≡ Some m → z ≡ Some n → Alike k v m n) → (o : V) → z ≡ Some o → MindsFit k v x z
fits-like k v None y z f h o e = absurd f
fits-like k v (Some m) None z f h o e = absurd f
fits-like k v (Some m) (Some n) None f h o e = absurd (none-some o e)
fits-like k v (Some m) (Some n) (Some l) f h o e = (alike_then k v m n l f.0 (h n l refl refl), f.1)

agent-like : {V : Type 0} (k : Kind V) (v : View) (p : Platform V) (f g : Free V) → Forgets k v p f → IsLike k v f g → (a : ℕ) → IsAgent (length p.board.seats) a → AgentFits k v p g a
agent-like {V} k v p f g h l a i =
    let fits = h.each a i in
    let within : a - 1 < length g.minds = (let x = below (length p.board.seats) a i in let y = h.minds_are in let z = l.number in omega arith) in
    let m = item-at (λ (x : V). Unit {0}) g.minds (a - 1) within (λ d. tt) in
    record {
      stage = ap (λ (x : List Stage). slice_get x (a - 1)) (sym l.stages) ∙ fits.stage;
      mind = fits-like k v (slice_get p.minds (a - 1)) (slice_get f.minds (a - 1)) (slice_get g.minds (a - 1)) fits.mind (l.minds (a - 1)) m.0 m.1;
    }

-- what is left of a platform is any state like it
forgets-like : {V : Type 0} (k : Kind V) (v : View) (p : Platform V) (f g : Free V) → Forgets k v p f → IsLike k v f g → Forgets k v p g
forgets-like k v p f g h l = record {
  names = sym l.names ∙ h.names;
  world = sym l.world ∙ h.world;
  boxes = sym l.boxes ∙ h.boxes;
  stop = sym l.stop ∙ h.stop;
  minds = h.minds;
  thoughts = h.thoughts;
  stages_are = ap (λ (x : List Stage). length x) (sym l.stages) ∙ h.stages_are;
  minds_are = sym l.number ∙ h.minds_are;
  each = agent-like k v p f g h l;
}

-- ---- states that no move leaves

-- one of these is what is left of the platform
pub record StandsIn {V : Type 0} (k : Kind V) (v : View) (met : List (Free V)) (p : Platform V) : Type 0 where
  pub state : Free V
  pub among : IsMember state met
  pub left : Forgets k v p state

-- what has a move is an agent
mover : {V : Type 0} (k : Kind V) (f g : Free V) (a : ℕ) (b : Bool) → is_agent (length f.stages) a ≡ b → (if b then move_in k f a (slice_get f.stages (a - 1)) else None) ≡ Some g →
    IsAgent (length f.stages) a
mover k f g a true e h = is_agent_of (length f.stages) a e
mover k f g a false e h = absurd (none-some g h)

stands-like : {V : Type 0} (k : Kind V) (v : View) (met : List (Free V)) (p : Platform V) (f : Free V) → Forgets k v p f → HasLike k v f met → StandsIn k v met p
stands-like k v met p f h l = record { state = l.like; among = l.among; left = forgets-like k v p f l.like h l.is }

module _ {V : Type 0} (k : Kind V) (v : View) (first : Free V) (met : List (Free V)) (moves : TurnsMove k) (closed : IsClosed k v first met) where
  stands-by : (q : Platform V) (f : Free V) (a : ℕ) → IsMember f met → Forgets k v q f ⊎ MovesTo k v f a q → StandsIn k v met q
  stands-by q f a m (inl h) = record { state = f; among = m; left = h }
  stands-by q f a m (inr t) =
      let agent = mover k f t.next a (is_agent (length f.stages) a) refl t.moved in
      stands-like k v met q t.next t.left (closed.next f t.next a m agent t.moved)

  stands-next : (p done : Platform V) (a : ℕ) (names : List ℕ) → ((q : Platform V) → StandsIn k v met q → run k q names ≡ Some done → StandsIn k v met done) → StandsIn k v met p →
      (o : Option (Platform V)) → turn k p a ≡ o → and_run (λ (q : Platform V). run k q names) o ≡ Some done → StandsIn k v met done
  stands-next p done a names more s None e r = absurd (none-some done r)
  stands-next p done a names more s (Some q) e r = more q (stands-by q s.state a s.among (moves v p q s.state a s.left e)) r

  stands-run : (p done : Platform V) (names : List ℕ) → StandsIn k v met p → run k p names ≡ Some done → StandsIn k v met done
  stands-run p done [] s r = let P = λ (x : Platform V). StandsIn k v met x in subst P (same_Some p done r) s
  stands-run p done (a ∷ names) s r = stands-next p done a names (λ q t e. stands-run q done names t e) s (turn k p a) refl r

pub closed_covers : {V : Type 0} (k : Kind V) → ((m : V) (i : Input) → is_quiet (k.cycle m i).thought ≡ true → SendsNothing (k.cycle m i).thought) →
    ((m : V) (i j : Input) → is_quiet (k.cycle m i).thought ≡ true → j.percepts ≡ i.percepts → j.message ≡ None → is_quiet (k.cycle (k.cycle m i).mind j).thought ≡ true) → QuietStays k →
    ClosedCovers k
closed_covers k sends again stays v s met cycles lead schedule q start closed ran =
    let p = opening_at s cycles lead in
    let opens = stands-like k v met p (free_opening s) (forgets-open k v s cycles lead start) closed.first in
    let w = stands-run k v (free_opening s) met (turns_move k sends stays) closed p q schedule opens ran.ran in
    let settled = settled-end k sends s cycles lead schedule q ran in
    record {
      rest = w.state;
      among = w.among;
      rests = at_rest k v q w.state w.left ran.ended_is ran.uncut_is again settled;
      same = same_outcome k v q w.state w.left ran.ended_is ran.uncut_is;
    }
