-- Rounds of a site keep what its ends know in step with what its stands took and were given.
use Rattle.std.proofs.Common.{ℕ, zero, suc, ◌≡◌, ◌+◌, ◌<◌, ◌⊎◌, inl, inr, true, length, refl, sym, ◌∙◌, subst}
use Rattle.mas_mind.specs.Minds.{Kind}
use Rattle.mas_core.specs.Platform.{ended}
use Rattle.mas_sites_scripts.specs.Sites.{Sited, Before, IsAlong, GoesAlong, KeepsUsedUp}
use Rattle.mas_sites_rounds.specs.Rounds.{HasNoGo, WentOnce, WentTwice, Goes, InRound}
use Rattle.mas_sites_rounds.proofs.Folds.{goes_along}
use Rattle.mas_sites_rounds.proofs.Uses.{goes_used}
use Rattle.mas_sites_rounds.proofs.Meetings.{round_in}
use Rattle.mas_sites_rounds.proofs.Moving.{past_limit}
use Rattle.mas_sites_wire.specs.Lines.{Lines, HasGot, HasPut}
use Rattle.mas_sites_worker.specs.Sides.{AreCarried, KeepsCarried, HasRunOut}
use Rattle.mas_sites_worker.proofs.Turns.{StaysWired, same_wired, turn_wired, turn_carried}

-- ---- the wires

wired_more : (from between to : Lines) → StaysWired from between → StaysWired between to → StaysWired from to
wired_more from between to h g = record { number = g.number ∙ h.number; wires = g.wires ∙ h.wires }

way_wired : {V : Type 0} (k : Kind V) (from to : Lines) (old new : Sited V) (a : ℕ) → HasNoGo from to old new a ⊎ (WentOnce k HasGot HasPut from to old new a ⊎ WentTwice k HasGot HasPut from to old new a) →
    StaysWired from to
way_wired k from to old new a (inl g) = same_wired from to g.carrier
way_wired k from to old new a (inr (inl g)) = turn_wired k from to old new a g.turn
way_wired k from to old new a (inr (inr g)) = wired_more from g.between to (turn_wired k from g.between old g.middle a g.first) (turn_wired k g.between to g.middle new a g.second)

goes_wired : {V : Type 0} (k : Kind V) (n : ℕ) (from to : Lines) (old new : Sited V) → Goes k HasGot HasPut n from to old new → StaysWired from to
goes_wired k zero from to old new g = same_wired from to g.1
goes_wired k (suc n) from to old new g = wired_more from g.1.0 to (goes_wired k n from g.1.0 old g.0 g.1.1.0) (way_wired k g.1.0 to g.0 new (n + 1) g.1.1.1.way)

-- ---- what they know

module _ {V : Type 0} (k : Kind V) (near : Before V) where
  same_carried : (from to : Lines) (old new : Sited V) → new ≡ old → to ≡ from → AreCarried k near old.scripts old.schedule from.logs → AreCarried k near new.scripts new.schedule to.logs
  same_carried from to old new e f c =
      let P = λ (x : Sited V × Lines). AreCarried k near x.0.scripts x.0.schedule x.1.logs in
      subst P (λ i. (sym e i, sym f i)) c

  way_carried : (from to : Lines) (old new : Sited V) (a : ℕ) → IsAlong k near.board near.minds old →
      HasNoGo from to old new a ⊎ (WentOnce k HasGot HasPut from to old new a ⊎ WentTwice k HasGot HasPut from to old new a) →
      AreCarried k near old.scripts old.schedule from.logs → AreCarried k near new.scripts new.schedule to.logs
  way_carried from to old new a h (inl g) c = same_carried from to old new g.same g.carrier c
  way_carried from to old new a h (inr (inl g)) c = turn_carried k near from to old new a h g.turn c
  way_carried from to old new a h (inr (inr g)) c =
      turn_carried k near g.between to g.middle new a (g.first.along near.board near.minds h) g.second (turn_carried k near from g.between old g.middle a h g.first c)

  goes_carried : (n : ℕ) (from to : Lines) (old new : Sited V) → IsAlong k near.board near.minds old → Goes k HasGot HasPut n from to old new →
      AreCarried k near old.scripts old.schedule from.logs → AreCarried k near new.scripts new.schedule to.logs
  goes_carried zero from to old new h g c = same_carried from to old new g.0 g.1 c
  goes_carried (suc n) from to old new h g c =
      let along = goes_along k HasGot HasPut n from g.1.0 old g.0 g.1.1.0 near.board near.minds h in
      way_carried g.1.0 to g.0 new (n + 1) along g.1.1.1.way (goes_carried n from g.1.0 old g.0 h g.1.1.0 c)

-- ---- after c rounds

pub record RunsOn {V : Type 0} (k : Kind V) (limit c : ℕ) (from to : Lines) (first now : Sited V) : Type 0 where
  pub round : InRound limit c 0 now
  pub along : GoesAlong k first now
  pub used_up : KeepsUsedUp first now
  pub carried : KeepsCarried k from to first now
  pub wires : to.wires ≡ from.wires
  pub number : length now.platform.board.seats ≡ length first.platform.board.seats

pub runs_first : {V : Type 0} (k : Kind V) (limit : ℕ) (from : Lines) (first : Sited V) → InRound limit 0 0 first → RunsOn k limit 0 from from first first
runs_first k limit from first h = record { round = h; along = λ board minds x. x; used_up = λ u. u; carried = λ near x c. c; wires = refl; number = refl }

pub runs_on : {V : Type 0} (k : Kind V) (limit c : ℕ) (from between to : Lines) (first now new : Sited V) → RunsOn k limit c from between first now →
    Goes k HasGot HasPut (length now.platform.board.seats) between to now new → RunsOn k limit (c + 1) from to first new
runs_on k limit c from between to first now new h g =
    let n = length now.platform.board.seats in
    let r = round_in k HasGot HasPut n between to now new limit c h.round refl g in
    record {
      round = r.0;
      along = λ board minds x. goes_along k HasGot HasPut n between to now new g board minds (h.along board minds x);
      used_up = λ u. goes_used k HasGot HasPut n between to now new g (h.used_up u);
      carried = λ near x c. goes_carried k near n between to now new (h.along near.board near.minds x) g (h.carried near x c);
      wires = (goes_wired k n between to now new g).wires ∙ h.wires;
      number = r.1 ∙ h.number;
    }

pub runs_out : {V : Type 0} (k : Kind V) (limit c : ℕ) (from to : Lines) (first now : Sited V) → RunsOn k limit c from to first now → ended now.platform.board.seats ≡ true → HasRunOut k from to first now
runs_out k limit c from to first now h e = record { along = h.along; used_up = h.used_up; carried = h.carried; wires = h.wires; over = e }

pub runs_past : {V : Type 0} (k : Kind V) (limit c : ℕ) (from to : Lines) (first now : Sited V) → RunsOn k limit c from to first now → limit < c → HasRunOut k from to first now
runs_past k limit c from to first now h l = runs_out k limit c from to first now h (past_limit limit c now h.round l)
