-- Who has every agent knows the whole.
use Rattle.std.proofs.Common.{◌≡◌, ◌≢◌, ℕ, ◌<◌, ◌≤◌, Bool, true, false, true≢false, List, [], ◌∷◌, length, sym, refl, ap, ◌∙◌, subst, arith}
use mathlib.Core.Option.{some, some-injective}
use mathlib.Core.Logic.{dite}
use native.Mathlib.Decide.{dec_le}
use lib.ListN.{get_elem?}
use Rattle.crossbeam_queue.specs.Fifo.{Pops, Learns}
use Rattle.mas_board_lists.specs.Lists.{StartsWith, Each, total, times, once_in}
use Rattle.mas_board_lists.proofs.Sums.{two_total, each_map, some_at}
use Rattle.mas_board_lists.proofs.Times.{bit, times_self, times_append, once_le}
use Rattle.mas_board.specs.Boards.{State}
use Rattle.mas_board_turns.specs.declared.turn.Turn.{Turn}
use Rattle.mas_board_turns.specs.Turns.{Plays, of}
use Rattle.mas_board_turns.specs.declared.view.SideView.{SideView}
use Rattle.mas_board_turns.specs.Views.{Turns, Opening, numbers}
use Rattle.mas_board_turns.specs.Steps.{IsWhole}
use Rattle.mas_board_turns.specs.Rule.{Showing, Knows, hand, order, Playing, Holds, Told}
use Rattle.mas_board_turns.proofs.Views.{has, playing}
use Rattle.mas_board_turns.proofs.Takes.{takes}

in_hand_of : (b : Bool) → 0 < bit b → b ≡ true
in_hand_of true l = refl
in_hand_of false l = absurd (omega arith)

first_of_some : (es : Turns) → 0 < length es → (a : ℕ) × (1 ≤ times a (numbers es))
first_of_some [] l = absurd (omega arith)
first_of_some (x ∷ es) l = (x.0, let t = times_append x.0 (x.0 ∷ []) (numbers es) in let o = times_self x.0 in omega arith)

no_hand : {X : Type 0} (r : Showing X) (items : List X) (views : List SideView) (p : ℕ) (v : SideView) (k : Playing r items views) → get_elem? views p ≡ some v → v.in_hand ≡ false → 0 < length v.turns → IsWhole v →
    (j : ℕ) × (u : SideView) × (get_elem? views j ≡ some u) × (0 < hand u) → ⊥
no_hand r items views p v k at out some_agent whole (j, u, e, l) =
    let is = in_hand_of u.in_hand l in
    let apart : p ≢ j = λ i. true≢false (sym is ∙ ap (λ (x : SideView). x.in_hand) (some-injective u v (sym e ∙ ap (λ (n : ℕ). get_elem? views n) (sym i) ∙ at)) ∙ out) in
    let a = first_of_some u.turns ((k.fits j u e).holds is).2 in
    let t = two_total (has a.0) views p j v u apart at e in
    let same = ap (λ (o : Opening). once_in a.0 1 (length o.board.state.seats)) ((k.fits p v at).begins some_agent) in
    let most = once_le a.0 1 (length k.first.board.state.seats) in
    omega (arith, k.agents a.0, whole a.0, a.1)

told : {X : Type 0} (r : Showing X) (items : List X) (views : List SideView) (p : ℕ) (v : SideView) (x : X) (k : Playing r (x ∷ items) views) → get_elem? views p ≡ some v → 0 < length v.turns → Told r v x
told r items views p v x k at some_agent =
    let f = k.fits p v at in
    let same = f.begins some_agent in
    let scheduled : order k.first k.log ≡ (r.board x).schedule = sym k.lies.0.scheduled in
    record {
      log = k.log;
      plays = subst (λ (s : Opening × State). Plays s.0.board.state k.log s.1) (λ i. (sym same i, sym k.lies.0.is i)) k.plays;
      scheduled = ap (λ (o : Opening). order o k.log) same ∙ scheduled;
      mine = each_map (Knows k.first k.log v.seen) (λ (e : ℕ × List Turn). of e.0 k.log ≡ e.1) v.turns (λ e g. g.0) f.mine;
      sees = subst (λ (l : List ℕ). StartsWith l v.seen) scheduled f.sees;
      olds = subst (λ (l : List ℕ). Each (StartsWith l) v.olds) scheduled f.olds;
      kept = subst (λ (o : Opening). r.keeps o x) (sym same) k.lies.0.kept;
    }

pub closes : {X : Type 0} {r : Showing X} (p : ℕ) (v : SideView) → v.started ≡ true → 0 < length v.turns → Pops (Holds r) p v (λ x w. Told r v x)
closes {X} {r} p v s some_agent x items views h at =
    let k = playing (x ∷ items) views p v s h at in
    let t = takes r p v s some_agent x items views h at in
    (t.0, t.1, told r items views p v x k at some_agent)

pub is_there : {X : Type 0} {r : Showing X} (p : ℕ) (v : SideView) → v.started ≡ true → v.in_hand ≡ false → 0 < length v.turns → IsWhole v → Learns (Holds r) p v (λ items. length items ≡ 1)
is_there {X} {r} p v s out some_agent whole items views h at =
    let k = playing items views p v s h at in
    dite (dec_le 1 (total hand views))
    (λ i. absurd (no_hand r items views p v k at out some_agent whole (some_at hand views i)))
    (λ n. let c = k.hands in omega arith)
