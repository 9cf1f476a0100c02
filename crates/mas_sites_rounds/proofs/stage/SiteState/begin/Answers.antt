use Rattle.std.proofs.Common.{arith, true, false, length, refl, sym, ◌∙◌, ap, subst}
use Rattle.mas_mind.specs.Minds.{IsAgent}
use Rattle.mas_board.specs.Boards.{seat_at}
use Rattle.mas_core.proofs.Fitting.{fit_left}
use Rattle.mas_sites_stand.specs.Seats.{seated}
use Rattle.mas_sites_scripts.specs.Sites.{Sited}
use Rattle.mas_sites_rounds.proofs.Cycling.{running_sense, cycled_lengths, cycled_fit, begun, waited, made_of}
use Rattle.mas_sites_scripts.proofs.Steps.{was_left}
use Rattle.mas_sites_stand.specs.inner.Seated as laws
use Rattle.mas_sites_rounds.proofs.stage.SiteState.begin.Goals as goal

pub cycle-requires-clause-agents : goal.cycle-requires-clause-agents
cycle-requires-clause-agents g c = c.requires.agents ∙ sym (ap (λ x. length x.platform.board.seats) c.self.view_is) ∙ sym c.self.invariant.play.fit.minds_are

pub cycle-requires-clause-may : goal.cycle-requires-clause-may
cycle-requires-clause-may g c =
    let P = λ (x : Sited _). IsAgent (length x.platform.board.seats) c.args.a in
    let s = (rw c.in-Input.is at c.in_ok-input.ensures.leaves).1 in
    let l = s.short in
    let m = c.holds.ensures.sound.limits.short in
    record {
      seats = _;
      fit = c.self.invariant.play.fit;
      number = c.self.invariant.number;
      agent = subst P (sym c.self.view_is) c.requires.agent;
      idle = ap (λ x. (seat_at x.platform.board c.args.a).phase) c.self.view_is ∙ c.requires.idle;
      short = omega (arith, l, m);
      percepts = s.input_for.percepts;
      message = s.input_for.message;
    }

pub invariant_of-stage : goal.invariant_of-stage
invariant_of-stage g c =
    let P = λ (x : Sited _). IsAgent (length x.platform.board.seats) c.args.a in
    let s = (rw c.in-Input.is at c.in_ok-input.ensures.leaves).1 in
    let h = c.in_ok-cycle-in-Input.ensures.made in
    let k = g.M.Mind.kind in
    let awaits = laws.awaits_after k g.met.M.Mind.awaits_after in
    let grows = laws.goes_on k g.met.M.Mind.goes_on in
    record {
      number = cycled_lengths k _ _ _ _ _ _ _ _ _ _ h c.self.invariant.number;
      play = record {
        fit = rw s.state (cycled_fit k _ _ _ _ _ _ _ _ _ _ h _ _ awaits grows c.self.invariant.play.fit (subst P (sym c.self.view_is) c.requires.agent));
        running = c.in_ok-input.ensures.sensed.halted ∙ c.self.invariant.play.running;
      };
    }

pub invariant_of-stage-in-Left : goal.invariant_of-stage-in-Left
invariant_of-stage-in-Left g c =
    let P = λ (x : Sited _). IsAgent (length x.platform.board.seats) c.args.a in
    let s = rw c.in-Left.is at c.in_ok-input.ensures.leaves in
    let idle = ap (λ x. (seat_at x.platform.board c.args.a).phase) c.self.view_is ∙ c.requires.idle in
    record {
      number = c.self.invariant.number;
      play = record {
        fit = rw s.1 (fit_left (seated g.M.Mind.kind) _ _ _ c.args.a _ c.self.invariant.play.fit (subst P (sym c.self.view_is) c.requires.agent) idle);
        running = c.in_ok-input.ensures.sensed.halted ∙ c.self.invariant.play.running;
      };
    }

pub returns-in_ok-cycle-in-Input-clause-made : goal.returns-in_ok-cycle-in-Input-clause-made
returns-in_ok-cycle-in-Input-clause-made g c =
    let P = λ (x : Sited _). IsAgent (length x.platform.board.seats) c.args.a in
    let s = rw c.in-Input.is at c.in_ok-input.ensures.sensed in
    let t = s.state ∙ running_sense c.self.inside.board c.args.a c.self.invariant.play.running in
    let idle = ap (λ x. (seat_at x.platform.board c.args.a).phase) c.self.view_is ∙ c.requires.idle in
    made_of g.M.Mind.kind g.C.Carrier.got g.C.Carrier.put _ _ _ c.args.self _ c.args.a true c.self.view_is
    (begun g.M.Mind.kind g.C.Carrier.got g.C.Carrier.put _ _ _ _ c.args.a c.in-Input.input (subst P (sym c.self.view_is) c.requires.agent) idle t c.in_ok-cycle-in-Input.ensures.made s.schedule)

pub returns-in-Left-clause-made : goal.returns-in-Left-clause-made
returns-in-Left-clause-made g c =
    let P = λ (x : Sited _). IsAgent (length x.platform.board.seats) c.args.a in
    let s = rw c.in-Left.is at c.in_ok-input.ensures.sensed in
    let t = s.state ∙ running_sense c.self.inside.board c.args.a c.self.invariant.play.running in
    let idle = ap (λ x. (seat_at x.platform.board c.args.a).phase) c.self.view_is ∙ c.requires.idle in
    made_of g.M.Mind.kind g.C.Carrier.got g.C.Carrier.put _ _ _ c.args.self _ c.args.a true c.self.view_is
    (was_left g.M.Mind.kind g.C.Carrier.got g.C.Carrier.put _ _ _ c.args.a _ _ (subst P (sym c.self.view_is) c.requires.agent) idle t refl s.schedule refl)

pub returns-in-Ahead-clause-made : goal.returns-in-Ahead-clause-made
returns-in-Ahead-clause-made g c =
    let P = λ (x : Sited _). IsAgent (length x.platform.board.seats) c.args.a in
    let s = rw c.in-Ahead.is at c.in_ok-input.ensures.sensed in
    let t = s.state ∙ running_sense c.self.inside.board c.args.a c.self.invariant.play.running in
    let b = rw c.in-Ahead.is at c.in_ok-input.ensures.leaves in
    let idle = ap (λ x. (seat_at x.platform.board c.args.a).phase) c.self.view_is ∙ c.requires.idle in
    made_of g.M.Mind.kind g.C.Carrier.got g.C.Carrier.put _ _ _ c.args.self _ c.args.a false c.self.view_is
    (waited g.M.Mind.kind g.C.Carrier.got g.C.Carrier.put _ _ _ c.args.a _ _ (subst P (sym c.self.view_is) c.requires.agent) idle t (ap (λ x. x.state) b.1) refl refl s.schedule refl)
