-- What came of a replay, as a run along a plan.
use Rattle.std.proofs.Common.{ℕ, ◌≡◌, true, false, List, [], length, Option, None, Some, ap, sym, ◌∙◌, subst}
use Rattle.std.specs.Prelude.{MatchOption, Result, Ok, Err, IfOk}
use Rattle.mas_mind.specs.Minds.{Kind}
use Rattle.mas_board.specs.Boards.{Noted, opening}
use Rattle.mas_board.specs.Seating.{AreLimits}
use Rattle.mas_core.specs.Platform.{Platform, run, first_here, opening_platform}
use Rattle.mas_core.specs.Replay.{Stuck, follow, Stays, RanAlong, Faulted}
use Rattle.mas_core.specs.declared.replay.PlayFault.{PlayFault}
use Rattle.mas_core.specs.declared.replay.PlayFault.TheVariants.{Illegal, Unended}
use Rattle.mas_report.proofs.Judged.{follows, came_stuck, none_here}
use Rattle.mas_free.specs.declared.view.View.{View}
use Rattle.mas_free.specs.Covers.{Start, opening_at}
use Rattle.mas_free.specs.Outcome.{outcome, uncut}
use Rattle.mas_explore.specs.declared.listing.Plan.{Plan}
use Rattle.mas_explore.specs.Listings.{IsRunOf}
use Rattle.mas_explore_runs.specs.Runs.{platform_of, HasNoRun}

some_same : {A : Type 0} {x y : A} → Some x ≡ Some y → x ≡ y
some_same e = cc

none_some : {A : Type 0} {x : A} → None ≡ Some x → ⊥
none_some e = cc

true_false : true ≡ false → ⊥
true_false e = cc

module _ {V : Type 0} (k : Kind V) (v : View) (s : Start V) (p : Plan) where
  abbrev start : Platform V
  start = opening_at s p.cycles p.lead

  pub is_run : (board : Noted) (minds : List V) (text : List ℕ) → AreLimits (length s.names) p.cycles p.lead → RanAlong k start p.schedule board minds →
      uncut board.state.seats ≡ true → text ≡ outcome k v (platform_of board.state minds) → IsRunOf k v s p text
  is_run board minds text l r u e = record {
    limits = l;
    done = record { board = board.state; minds = minds; thoughts = r.thoughts };
    runs = record { ran = r.ran; ended_is = r.ended; uncut_is = u };
    text_is = e;
  }

  pub not_uncut : (board : Noted) (minds : List V) → RanAlong k start p.schedule board minds → uncut board.state.seats ≡ false → HasNoRun k v s p
  not_uncut board minds r u text h =
      let same = some_same (sym h.runs.ran ∙ r.ran) in
      true_false (sym h.runs.uncut_is ∙ ap (λ (q : Platform V). uncut q.board.seats) same ∙ u)

  pub not_legal : (place : ℕ) → follow k start 1 p.schedule ≡ Stuck place → HasNoRun k v s p
  not_legal place e text h = came_stuck h.done place (sym (follows k start 1 p.schedule h.done h.runs.ran) ∙ e)

  pub not_ended : (a : ℕ) → Stays k start p.schedule a → HasNoRun k v s p
  not_ended a e text h =
      let same = some_same (sym h.runs.ran ∙ e.ran) in
      none_some (sym (none_here 1 h.done.board.seats h.runs.ended_is) ∙ ap (λ (q : Platform V). first_here 1 q.board.seats) same ∙ e.first)

  -- ---- from the board and the minds that were opened

  abbrev opened : Noted
  opened = record { state = opening s.names s.world p.cycles p.lead; schedule = []; halted = false }

  from : (board : Noted) (minds : List V) → board ≡ opened → minds ≡ s.minds → opening_platform board.state minds ≡ start
  from board minds b m = ap (λ (x : Noted). opening_platform x.state minds) b ∙ ap (λ (y : List V). opening_platform opened.state y) m

  judged : {E : Type 0} (x : Result (Option (List ℕ)) E) (done : Noted) (after : List V) → AreLimits (length s.names) p.cycles p.lead → RanAlong k start p.schedule done after →
      IfOk x (λ r. MatchOption r (uncut done.state.seats ≡ false) (λ t. (uncut done.state.seats ≡ true) × (t ≡ outcome k v (platform_of done.state after)))) →
      IfOk x (λ r. MatchOption r (HasNoRun k v s p) (IsRunOf k v s p))
  judged (Ok None) done after l r h = not_uncut done after r h
  judged (Ok (Some t)) done after l r h = is_run done after t l r h.0 h.1
  judged (Err e) done after l r h = tt

  pub came : {E : Type 0} (x : Result (Option (List ℕ)) E) (board done : Noted) (minds after : List V) → board ≡ opened → minds ≡ s.minds →
      AreLimits (length s.names) p.cycles p.lead → RanAlong k (opening_platform board.state minds) p.schedule done after →
      IfOk x (λ r. MatchOption r (uncut done.state.seats ≡ false) (λ t. (uncut done.state.seats ≡ true) × (t ≡ outcome k v (platform_of done.state after)))) →
      IfOk x (λ r. MatchOption r (HasNoRun k v s p) (IsRunOf k v s p))
  came x board done minds after b m l r h =
      let F = λ (q : Platform V). RanAlong k q p.schedule done after in
      judged x done after l (subst F (from board minds b m) r) h

  faulted : (board : Noted) (minds : List V) (fault : PlayFault) → board ≡ opened → minds ≡ s.minds → Faulted k (opening_platform board.state minds) p.schedule fault →
      Faulted k start p.schedule fault
  faulted board minds fault b m h = let F = λ (q : Platform V). Faulted k q p.schedule fault in subst F (from board minds b m) h

  pub illegal : (board : Noted) (minds : List V) (place : ℕ) → board ≡ opened → minds ≡ s.minds → Faulted k (opening_platform board.state minds) p.schedule (Illegal place) →
      HasNoRun k v s p
  illegal board minds place b m h = not_legal place (faulted board minds (Illegal place) b m h)

  pub unended : (board : Noted) (minds : List V) (a : ℕ) → board ≡ opened → minds ≡ s.minds → Faulted k (opening_platform board.state minds) p.schedule (Unended a) → HasNoRun k v s p
  unended board minds a b m h = not_ended a (faulted board minds (Unended a) b m h)
