-- A view is cut in two at the opening, and two are put together at the close.
use Rattle.std.proofs.Common.{◌≡◌, ℕ, ◌<◌, true, false, true≢false, List, length, set, sym, refl, ◌∙◌, ⊎_elim, inr, arith}
use mathlib.Core.Option.{some}
use lib.ListN.{get_elem?}
use Rattle.crossbeam_queue.specs.Fifo.{Forks, Merges}
use Rattle.crossbeam_queue.proofs.Lists.{at_set}
use Rattle.mas_board_lists.specs.Lists.{StartsWith, longer, Each}
use Rattle.mas_board_lists.proofs.Sums.{total_set, total_snoc, all_set, all_snoc, each_append, each_map}
use Rattle.mas_board_lists.proofs.Starts.{longer_starts, longer_left, longer_right}
use Rattle.mas_board_turns.specs.Turns.{Entry}
use Rattle.mas_board_turns.specs.declared.view.SideView.{SideView}
use Rattle.mas_board_turns.specs.Views.{Turns, Opening}
use Rattle.mas_board_turns.specs.Steps.{rest_of, one_of, both_of, spent}
use Rattle.mas_board_turns.specs.Rule.{Showing, Knows, Fits, hand, order, Holds}
use Rattle.mas_board_turns.proofs.Views.{has, both_times, cut_times, each_rest, each_one, one_some, rest_some, not_in, playing}

pub forks : {X : Type 0} {r : Showing X} (p : ℕ) (v : SideView) → v.started ≡ true → v.in_hand ≡ false → Forks (Holds r) p v (rest_of v) (one_of v)
forks p v s out items views h at =
    let k = playing items views p v s h at in
    let f = k.fits p v at in
    let free = not_in v.in_hand out in
    inr record {
      first = k.first;
      board = k.board;
      log = k.log;
      plays = k.plays;
      agents = λ a. (
          let t = total_set (has a) views p v (rest_of v) at in
          let u = total_snoc (has a) (set views p (rest_of v)) (one_of v) in
          let c = cut_times a v.turns in
          omega (arith, k.agents a));
      hands =
          let t = total_set hand views p v (rest_of v) at in
          let u = total_snoc hand (set views p (rest_of v)) (one_of v) in
          let c = k.hands in
          omega arith;
      lies = k.lies;
      fits = all_snoc (Fits k.first k.board k.log) (set views p (rest_of v)) (one_of v)
          record {
            running = f.running;
            begins = λ l. f.begins (one_some v.turns l);
            mine = each_one (Knows k.first k.log v.seen) v.turns f.mine;
            sees = f.sees;
            olds = f.olds;
            holds = λ q. absurd (true≢false (sym q ∙ out));
          }
          (all_set (Fits k.first k.board k.log) views p (rest_of v)
          record {
            running = f.running;
            begins = λ l. f.begins (rest_some v.turns l);
            mine = each_rest (Knows k.first k.log v.seen) v.turns f.mine;
            sees = f.sees;
            olds = f.olds;
            holds = λ q. absurd (true≢false (sym q ∙ out));
          }
          (λ j u _ e. k.fits j u e));
    }

knows_left : (first : Opening) (log : List Entry) (xs ys : List ℕ) (es : Turns) → StartsWith (order first log) xs → StartsWith (order first log) ys → Each (Knows first log xs) es → Each (Knows first log (longer xs ys)) es
knows_left first log xs ys es p q h = each_map (Knows first log xs) (Knows first log (longer xs ys)) es (λ x g. (g.0, longer_left x.0 (order first log) xs ys p q g.1)) h

knows_right : (first : Opening) (log : List Entry) (xs ys : List ℕ) (es : Turns) → StartsWith (order first log) xs → StartsWith (order first log) ys → Each (Knows first log ys) es → Each (Knows first log (longer xs ys)) es
knows_right first log xs ys es p q h = each_map (Knows first log ys) (Knows first log (longer xs ys)) es (λ x g. (g.0, longer_right x.0 (order first log) xs ys p q g.1)) h

pub merges : {X : Type 0} {r : Showing X} (p : ℕ) (v : SideView) (q : ℕ) (w : SideView) → v.started ≡ true → v.in_hand ≡ false → w.in_hand ≡ false → 0 < length v.turns → Merges (Holds r) p v q w (both_of v w) spent
merges p v q w s out out' some_agent items views h at two at' =
    let both = both_of v w in
    let k = playing items views p v s h at in
    let was : get_elem? views q ≡ some w = ⊎_elim (λ x. absurd (two x.0)) (λ x. x.1) (at_set views p q both w at') in
    let f = k.fits p v at in
    let g = k.fits q w was in
    let free = not_in v.in_hand out in
    let free' = not_in w.in_hand out' in
    inr record {
      first = k.first;
      board = k.board;
      log = k.log;
      plays = k.plays;
      agents = λ a. (
          let t = total_set (has a) views p v both at in
          let u = total_set (has a) (set views p both) q w spent at' in
          let c = both_times a v.turns w.turns in
          omega (arith, k.agents a));
      hands =
          let t = total_set hand views p v both at in
          let u = total_set hand (set views p both) q w spent at' in
          let c = k.hands in
          omega arith;
      lies = k.lies;
      fits = all_set (Fits k.first k.board k.log) (set views p both) q spent
          record {
            running = refl;
            begins = λ l. absurd (omega arith);
            mine = tt;
            sees = (order k.first k.log, refl);
            olds = tt;
            holds = λ i. absurd (true≢false (sym i));
          }
          (λ j u _ e. all_set (Fits k.first k.board k.log) views p both
          record {
            running = f.running;
            begins = λ _. f.begins some_agent;
            mine = each_append (Knows k.first k.log (longer v.seen w.seen)) v.turns w.turns (knows_left k.first k.log v.seen w.seen v.turns f.sees g.sees f.mine) (knows_right k.first k.log v.seen w.seen w.turns f.sees g.sees g.mine);
            sees = longer_starts (order k.first k.log) v.seen w.seen f.sees g.sees;
            olds = (f.sees, (g.sees, each_append (StartsWith (order k.first k.log)) v.olds w.olds f.olds g.olds));
            holds = λ i. absurd (true≢false (sym i ∙ out));
          }
          (λ j u _ e. k.fits j u e) j u e);
    }
