-- The board comes, and is taken.
use Rattle.std.proofs.Common.{◌≡◌, ℕ, zero, suc, ◌+◌, ◌<◌, ◌≤◌, Bool, true, false, true≢false, is_some, List, [], ◌∷◌, ◌++◌, length, set, sym, append-nil, refl, ap, ◌∙◌, subst, ⊎_elim, inr, arith}
use mathlib.Core.Option.{some, some-injective, some-ne-none}
use lib.ListN.{get_elem?}
use Rattle.crossbeam_queue.specs.Fifo.{Pushes, Pops}
use Rattle.mas_board_lists.specs.Lists.{StartsWith, Each, times}
use Rattle.mas_board_lists.proofs.Sums.{total_set, at_total, all_set}
use Rattle.mas_board_lists.proofs.Times.{times_self, once_some}
use Rattle.mas_board_lists.proofs.Starts.{starts_refl}
use Rattle.mas_mind.specs.Minds.{IsAgent}
use Rattle.mas_board.specs.Boards.{State, Noted, seat_at}
use Rattle.mas_board_turns.specs.declared.turn.Turn.{Turn}
use Rattle.mas_board_turns.specs.Turns.{Entry, Plays, phase_after, cycles_in, mark_after}
use Rattle.mas_board_turns.proofs.Places.{plays_stands, plays_kept}
use Rattle.mas_board_turns.specs.declared.view.SideView.{SideView}
use Rattle.mas_board_turns.specs.Views.{Turns, Opening, numbers, silent}
use Rattle.mas_board_turns.specs.Steps.{Sits, blank, opened, took, Stands}
use Rattle.mas_board_turns.specs.Rule.{Showing, Knows, Fits, hand, order, Playing, Holds, Taken}
use Rattle.mas_board_turns.proofs.Views.{has, silent_once, first_view, playing}

-- ---- the board comes

before_all : (o : Opening) → o.board.schedule ≡ order o []
before_all o = sym (append-nil o.board.schedule)

knows_silent : (o : Opening) (k n : ℕ) → Each (Knows o [] o.board.schedule) (silent k n)
knows_silent o k zero = tt
knows_silent o k (suc n) = ((refl, ap (times k) (before_all o)), knows_silent o (suc k) n)

opened_fits : (o : Opening) → Fits o o.board.state [] (opened o)
opened_fits o = record {
  running = refl;
  begins = λ _. refl;
  mine = knows_silent o 1 (length o.board.state.seats);
  sees = subst (StartsWith (order o [])) (sym (before_all o)) (starts_refl (order o []));
  olds = tt;
  holds = λ h. absurd (true≢false (sym h));
}

one_view : (F : SideView → Type 0) (w : SideView) → F w → (port : ℕ) (v : SideView) → get_elem? (w ∷ []) port ≡ some v → F v
one_view F w h zero v at = subst F (some-injective w v at) h
one_view F w h (suc port) v at = absurd (some-ne-none v (sym at))

set_first : (views : List SideView) (p : ℕ) (w : SideView) → views ≡ blank ∷ [] → p ≡ 0 → set views p w ≡ w ∷ []
set_first views p w e z = ap (λ (l : List SideView). set l p w) e ∙ ap (λ (k : ℕ). set (blank ∷ []) k w) z

module _ {X : Type 0} (r : Showing X) where
  opened_playing : (o : Opening) (x : X) → r.board x ≡ o.board → r.keeps o x → Playing r (x ∷ []) (opened o ∷ [])
  opened_playing o x e kept = record {
    first = o;
    board = o.board.state;
    log = [];
    plays = refl;
    agents = λ a. (let s = silent_once a 1 (length o.board.state.seats) in omega arith);
    hands = refl;
    lies = (record { is = ap (λ (b : Noted). b.state) e; scheduled = ap (λ (b : Noted). b.schedule) e ∙ before_all o; kept = kept }, tt);
    fits = one_view (Fits o o.board.state []) (opened o) (opened_fits o);
  }

  -- the board comes, as it stands at the opening
  pub opens : (n p : ℕ) (v : SideView) (o : Opening) (x : X) → v.started ≡ false → r.board x ≡ o.board → r.keeps o x → Pushes (Holds r) n p v x (λ w. w ≡ opened o)
  opens n p v o x s e kept items views room h at = (
    opened o,
    inr (
        ⊎_elim
        (λ (b : (items ≡ []) × (views ≡ blank ∷ [])).
        subst (λ (t : List X × List SideView). Playing r t.0 t.1)
        (λ i. (ap (λ (l : List X). l ++ x ∷ []) (sym b.0) i, sym (set_first views p (opened o) b.1 (first_view views p v b.1 at).0) i))
        (opened_playing o x e kept))
        (λ k. absurd (true≢false (sym (k.fits p v at).running ∙ s)))
        h
        ),
    refl,
  )

-- ---- it is taken

pub takes : {X : Type 0} (r : Showing X) (p : ℕ) (v : SideView) → v.started ≡ true → 0 < length v.turns → Pops (Holds r) p v (λ x w. w ≡ took v (r.board x))
takes r p v s some_agent x items views h at =
    let k = playing (x ∷ items) views p v s h at in
    let w = took v (r.board x) in
    let f = k.fits p v at in
    let count = k.hands in
    let mine = at_total hand views p v at in (
      w,
      inr record {
        first = k.first;
        board = k.board;
        log = k.log;
        plays = k.plays;
        agents = λ a. (let t = total_set (has a) views p v w at in omega (arith, k.agents a));
        hands = let t = total_set hand views p v w at in omega arith;
        lies = k.lies.1;
        fits = all_set (Fits k.first k.board k.log) views p w
            record { running = f.running; begins = f.begins; mine = f.mine; sees = f.sees; olds = f.olds; holds = λ _. (k.lies.0.is, k.lies.0.scheduled, some_agent) }
            (λ j u _ e. k.fits j u e);
      },
      refl,
    )

pub seated : {a : ℕ} {b : Bool} {v : SideView} → Sits a b v → 0 < length v.turns
seated s = let e = ap (λ (l : Turns). length l) s.turns in omega arith

-- ---- where the agents of a view stand

-- a number that stands in a view is an agent's
is_agent : {X : Type 0} (r : Showing X) (items : List X) (views : List SideView) (p a : ℕ) (v : SideView) (k : Playing r items views) → get_elem? views p ≡ some v → 1 ≤ has a v → IsAgent (length k.first.board.state.seats) a
is_agent r items views p a v k at l =
    let t = at_total (has a) views p v at in
    let n = k.agents a in
    let s = once_some a 1 (length k.first.board.state.seats) (omega arith) in
    record { from_one = s.0; named = (let u = s.1 in omega arith) }

stands_one : (first : Opening) (board : State) (log : List Entry) (seen : List ℕ) (e : ℕ × List Turn) → Plays first.board.state log board → IsAgent (length first.board.state.seats) e.0 →
    Knows first log seen e → Stands first.board.state board e
stands_one first board log seen e plays agent k =
    let s = plays_stands first.board.state log board e.0 agent plays in
    let kept = plays_kept first.board.state log board plays in
    record {
      at = record {
        agent = subst (λ (n : ℕ). IsAgent n e.0) (sym kept.seats) agent;
        phase_is = s.phase_is ∙ ap (phase_after (seat_at first.board.state e.0).phase) k.0;
      };
      cycle = s.cycle_is ∙ ap (λ (l : List Turn). (seat_at first.board.state e.0).cycle + cycles_in l) k.0;
      marked = s.mark_is ∙ ap (mark_after (is_some (seat_at first.board.state e.0).mark)) k.0;
      agents = kept.seats;
      limit = kept.cycles;
    }

stands_all : (first : Opening) (board : State) (log : List Entry) (seen : List ℕ) (es : Turns) → Plays first.board.state log board →
    ((a : ℕ) → 1 ≤ times a (numbers es) → IsAgent (length first.board.state.seats) a) → Each (Knows first log seen) es → Each (Stands first.board.state board) es
stands_all first board log seen [] plays agent h = tt
stands_all first board log seen (e ∷ es) plays agent h = (
  stands_one first board log seen e plays (agent e.0 (let t = times_self e.0 in omega arith)) h.0,
  stands_all first board log seen es plays (λ a l. agent a (omega arith)) h.1,
)

-- no turn of an agent stands behind what was seen
latest_all : (first : Opening) (log : List Entry) (seen schedule : List ℕ) (es : Turns) → schedule ≡ order first log → Each (Knows first log seen) es
    → Each (λ (e : ℕ × List Turn). times e.0 schedule ≡ times e.0 seen) es
latest_all first log seen schedule [] s h = tt
latest_all first log seen schedule (e ∷ es) s h = (ap (times e.0) s ∙ sym h.0.1, latest_all first log seen schedule es s h.1)

pub takes_seat : {X : Type 0} {r : Showing X} {a : ℕ} {v : SideView} (p : ℕ) → Sits a false v → Pops (Holds r) p v (Taken r v)
takes_seat {X} {r} {a} {v} p s x items views h at =
    let k = playing (x ∷ items) views p v s.started h at in
    let t = takes r p v s.started (seated s) x items views h at in
    let f = k.fits p v at in
    let same = f.begins (seated s) in
    let stands = stands_all k.first k.board k.log v.seen v.turns k.plays (λ c l. is_agent r (x ∷ items) views p c v k at l) f.mine in (
      t.0,
      t.1,
      record {
        is = t.2;
        sees = subst (λ (l : List ℕ). StartsWith l v.seen) (sym k.lies.0.scheduled) f.sees;
        stands = subst (λ (b : Opening × State). Each (Stands b.0.board.state b.1) v.turns) (λ i. (sym same i, sym k.lies.0.is i)) stands;
        latest = latest_all k.first k.log v.seen (r.board x).schedule v.turns k.lies.0.scheduled f.mine;
        kept = subst (λ (o : Opening). r.keeps o x) (sym same) k.lies.0.kept;
      },
    )
