-- The whole runs of two sites, and what they give back.
use Rattle.std.proofs.Common.{ℕ, ◌≡◌, arith, Bool, true, ◌&&◌, List, ◌++◌, length, slice_get, refl, ap, sym, ◌∙◌}
use Rattle.mas_mind.specs.declared.mind.Message.{Message}
use Rattle.mas_mind.specs.Minds.{Kind}
use Rattle.mas_board.specs.Boards.{Noted}
use Rattle.mas_core.specs.Platform.{ended}
use Rattle.mas_sites_stand.specs.declared.seated.Seated.{Seated}
use Rattle.mas_sites_stand.specs.Seats.{seated}
use Rattle.mas_sites_scripts.specs.Scripts.{with_scripts}
use Rattle.mas_sites_scripts.specs.Giving.{is_own}
use Rattle.mas_sites_scripts.specs.Sites.{Before, before, After, opening_with, RanWhole}
use Rattle.mas_sites_scripts.specs.Ways.{AreWays}
use Rattle.mas_sites_rounds.specs.Between.{messages_in, script_of, ArrivesInOrder}
use Rattle.mas_sites_rounds.specs.Rounds.{RanInTurns}
use Rattle.mas_sites_rounds.proofs.Tallies.{own_scripts, scripts_length}
use Rattle.mas_sites.specs.Results as spec
use Rattle.mas_sites.specs.Results.{AreListed, scripts_from, all_scripts, all_left, Arrives, HaveRun, IsFold}
use Rattle.mas_sites.specs.declared.met.Script.{Script}
use Rattle.mas_sites.proofs.Owners.{own_run, number_run}
use Rattle.mas_sites.proofs.Arrivals.{Starts, arrives}
use Rattle.mas_sites.proofs.Listing.{same_owners, left_is, stands_by_sender}
use Rattle.mas_sites.proofs.Numbers.{ways_number}

-- as many scripts as minds, and few
pub are_listed : {V : Type 0} (k : Kind V) (b : Noted) (minds : List (Seated V)) (done : After V) → Starts k b minds → RanWhole k (before b.state minds) done → AreListed done.minds done.scripts
are_listed k b minds done h r =
    let n = r.number in
    let m = h.start.fit.number in
    let f = h.sound.limits.few in
    let p = opening_with b.state minds done.scripts in
    let s : length done.minds ≡ length (with_scripts done.scripts minds) =
    number_run (seated k) p (record { board = done.board.state; minds = done.minds; thoughts = r.ran.thoughts }) done.board.schedule r.ran.ran in
    let t = scripts_length done.scripts minds in
    record { number = omega (arith, n, s, t); few = omega (arith, m, f, s, t) }

-- the agents that live at a site are the same in the end
same_in_the_end : {V : Type 0} (k : Kind V) (first : Before V) (done : After V) (i : ℕ) → RanWhole k first done → is_own (slice_get done.minds i) ≡ is_own (slice_get first.minds i)
same_in_the_end k first done i r = own_run k _ (record { board = done.board.state; minds = done.minds; thoughts = r.ran.thoughts }) i done.board.schedule r.ran.ran ∙ own_scripts done.scripts first.minds i

listed : {V : Type 0} (k : Kind V) (first second : Before V) (one two : After V) (scripts : List Script) → RanWhole k first one → RanWhole k second two →
    scripts ≡ all_scripts one.minds one.scripts two.minds two.scripts → scripts ≡ all_scripts first.minds one.scripts second.minds two.scripts
listed k first second one two scripts r s e =
    e ∙ ap (λ t. t ++ scripts_from 2 1 two.minds two.scripts) (same_owners 1 1 one.minds first.minds one.scripts (λ i. same_in_the_end k first one i r))
    ∙ ap (λ t. scripts_from 1 1 first.minds one.scripts ++ t) (same_owners 2 1 two.minds second.minds two.scripts (λ i. same_in_the_end k second two i s))

arrived : {V : Type 0} (k : Kind V) (b : Noted) (minds : List (Seated V)) (done other : After V) (ways : List (List Message)) → Starts k b minds → AreWays ways → RanWhole k (before b.state minds) done →
    ArrivesInOrder k (before b.state minds) done other ways → Arrives k (before b.state minds) done other.scripts (all_left ways)
arrived k b minds done other ways h w r a =
    arrives k b minds h done other.scripts (all_left ways) r (λ y j o. a y j o ∙ ap (λ t. messages_in (script_of other.scripts y) ++ t) (sym (left_is ways y w j.from_one)))

both_true : (x y : Bool) → x ≡ true → y ≡ true → (x && y) ≡ true
both_true x y e f = ap (λ t. t && y) e ∙ f

-- what is known of both runs, on any number of threads
pub record BothRan {V : Type 0} (k : Kind V) (first second : Before V) (one two : After V) (ways : List (List Message)) : Type 0 where
  pub one_ran : RanWhole k first one
  pub two_ran : RanWhole k second two
  pub in_order_one : ArrivesInOrder k first one two ways
  pub in_order_two : ArrivesInOrder k second two one ways
  pub number : length ways ≡ length first.minds

pub in_turns : {V : Type 0} (k : Kind V) (first second : Before V) (one two : After V) (ways : List (List Message)) → RanInTurns k first second one two ways → BothRan k first second one two ways
in_turns k first second one two ways r = record {
  one_ran = r.one;
  two_ran = r.two;
  in_order_one = r.in_order_one;
  in_order_two = r.in_order_two;
  number = ap length r.left_is ∙ ways_number k (length first.minds) r.rounds _ _ r.last r.fold;
}

module _ {V : Type 0} (k : Kind V) (b d : Noted) (m n : List (Seated V)) (one two : After V) (ways : List (List Message)) (scripts : List Script) (h : Starts k b m) (g : Starts k d n)
    (s : scripts ≡ all_scripts one.minds one.scripts two.minds two.scripts) where
  scripts_are : BothRan k (before b.state m) (before d.state n) one two ways → scripts ≡ all_scripts m one.scripts n two.scripts
  scripts_are r = listed k (before b.state m) (before d.state n) one two scripts r.one_ran r.two_ran s

  have_run : BothRan k (before b.state m) (before d.state n) one two ways → AreWays ways →
      HaveRun k (before b.state m) (before d.state n) (spec.ended one.board one.minds) (spec.ended two.board two.minds) scripts (all_left ways)
  have_run r w = record {
    of_one = one.scripts;
    of_two = two.scripts;
    scripts_are = scripts_are r;
    one_ran = r.one_ran;
    two_ran = r.two_ran;
    from_one = arrived k b m one two ways h w r.one_ran r.in_order_one;
    from_two = arrived k d n two one ways g w r.two_ran r.in_order_two;
    by_sender = stands_by_sender ways (length m) w r.number;
  }

  is_fold : RanInTurns k (before b.state m) (before d.state n) one two ways →
      IsFold k (before b.state m) (before d.state n) (spec.ended one.board one.minds) (spec.ended two.board two.minds) scripts (all_left ways)
  is_fold r = record {
    rounds = r.rounds;
    last = r.last;
    fold = r.fold;
    over = both_true _ _ (ap (λ x. ended x.seats) (sym r.is_one.board) ∙ r.one.ran.ended) (ap (λ x. ended x.seats) (sym r.is_two.board) ∙ r.two.ran.ended);
    one_is = record { board = r.is_one.board; schedule = r.is_one.schedule; minds = r.is_one.minds; scripts = refl };
    two_is = record { board = r.is_two.board; schedule = r.is_two.schedule; minds = r.is_two.minds; scripts = refl };
    scripts_are =
        scripts_are (in_turns k (before b.state m) (before d.state n) one two ways r)
        ∙ ap (λ x. all_scripts m x n two.scripts) r.is_one.scripts
        ∙ ap (λ x. all_scripts m r.last.one.scripts n x) r.is_two.scripts;
    between_are = ap all_left r.left_is;
  }

  -- of what was put together from them
  module _ (x y : Noted) (u v : List (Seated V)) (left : List Message) (e : x ≡ one.board) (f : u ≡ one.minds) (p : y ≡ two.board) (q : v ≡ two.minds) (l : left ≡ all_left ways) where
    pub run_put_together : BothRan k (before b.state m) (before d.state n) one two ways → AreWays ways →
        HaveRun k (before b.state m) (before d.state n) (spec.ended x u) (spec.ended y v) scripts left
    run_put_together r w = rw (e, f, p, q, l) (have_run r w)

    pub fold_put_together : RanInTurns k (before b.state m) (before d.state n) one two ways →
        IsFold k (before b.state m) (before d.state n) (spec.ended x u) (spec.ended y v) scripts left
    fold_put_together r = rw (e, f, p, q, l) (is_fold r)
