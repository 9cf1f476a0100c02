use Rattle.std.proofs.Common.{length, is_some, Some, refl, sym, ◌∙◌, ap, subst}
use Rattle.mas_mind.specs.Minds.{IsAgent}
use Rattle.mas_board.specs.Boards.{seat_at}
use Rattle.mas_sites_stand.specs.Seats.{seated}
use Rattle.mas_core.proofs.Fitting.{has_mind, has_thought, is_due, are_outs, feedback_is, busy_none, fit_emitted, fit_spent}
use Rattle.mas_sites_stand.specs.inner.Seated as laws
use Rattle.mas_sites_scripts.specs.Sites.{Sited}
use Rattle.mas_sites_rounds.proofs.Cycling.{told_lengths, emitted, spent, finished_of}
use Rattle.mas_sites_rounds.proofs.stage.SiteState.finish.Goals as goal

pub take_thought-requires : goal.take_thought-requires
take_thought-requires g c =
    let P = λ (x : Sited _). IsAgent (length x.platform.board.seats) c.args.a in
    has_thought (seated g.M.Mind.kind) _ _ _ c.args.a c.self.invariant.play.fit (subst P (sym c.self.view_is) c.requires.agent)

pub unreachable-requires : goal.unreachable-requires
unreachable-requires g c =
    let P = λ (x : Sited _). IsAgent (length x.platform.board.seats) c.args.a in
    let busy = ap (λ x. (seat_at x.platform.board c.args.a).phase) c.self.view_is ∙ c.requires.busy in
    busy_none (seated g.M.Mind.kind) _ _ _ c.args.a c.self.invariant.play.fit (subst P (sym c.self.view_is) c.requires.agent) busy (c.take_thought.ensures.value ∙ ap Some c.in-None.is)

pub emit-requires-clause-lawful : goal.emit-requires-clause-lawful
emit-requires-clause-lawful g c =
    let P = λ (x : Sited _). IsAgent (length x.platform.board.seats) c.args.a in
    let busy = ap (λ x. (seat_at x.platform.board c.args.a).phase) c.self.view_is ∙ c.requires.busy in
    let q = c.take_thought.ensures.value ∙ ap Some (c.in-Some-Outs.is ∙ ap Some c.in-Some-Outs.field-0-is) in
    are_outs (seated g.M.Mind.kind) _ _ _ c.args.a c.in-Some-Outs.outs c.self.invariant.play.fit (subst P (sym c.self.view_is) c.requires.agent) busy q

pub tell_at-requires-clause-agent : goal.tell_at-requires-clause-agent
tell_at-requires-clause-agent g c =
    let P = λ (x : Sited _). IsAgent (length x.platform.board.seats) c.args.a in
    has_mind (seated g.M.Mind.kind) _ _ _ c.args.a c.self.invariant.play.fit (subst P (sym c.self.view_is) c.requires.agent)

pub tell_at-requires-clause-due : goal.tell_at-requires-clause-due
tell_at-requires-clause-due g c = λ y.
    let P = λ (x : Sited _). IsAgent (length x.platform.board.seats) c.args.a in
    let busy = ap (λ x. (seat_at x.platform.board c.args.a).phase) c.self.view_is ∙ c.requires.busy in
    let q = c.take_thought.ensures.value ∙ ap Some (c.in-Some-Outs.is ∙ ap Some c.in-Some-Outs.field-0-is) in
    let f = ap (λ p. is_some p.0) c.in_ok-feedback-in-Some-Outs.ensures.emitted.state ∙ feedback_is _ _ c.in-Some-Outs.outs.action in
    is_due (seated g.M.Mind.kind) _ _ _ c.args.a c.in-Some-Outs.outs c.self.invariant.play.fit (subst P (sym c.self.view_is) c.requires.agent) busy q (sym f ∙ y)

pub invariant_of-stage : goal.invariant_of-stage
invariant_of-stage g c =
    let k = g.M.Mind.kind in
    let P = λ (x : Sited _). IsAgent (length x.platform.board.seats) c.args.a in
    let busy = ap (λ x. (seat_at x.platform.board c.args.a).phase) c.self.view_is ∙ c.requires.busy in
    let q = c.take_thought.ensures.value ∙ ap Some (c.in-Some-Outs.is ∙ ap Some c.in-Some-Outs.field-0-is) in
    let e = c.in_ok-feedback-in-Some-Outs.ensures.emitted.state in
    let f = ap (λ p. is_some p.0) e ∙ feedback_is _ _ c.in-Some-Outs.outs.action in
    let free = laws.awaits_no_more k g.met.M.Mind.awaits_no_more in
    let told = laws.is_told k g.met.M.Mind.is_told in
    record {
      number = told_lengths (seated k) _ _ _ c.args.a _ c.self.invariant.number c.tell_at.ensures;
      play = record {
        fit = rw (ap (λ p. p.1) e, c.take_thought.ensures.after, c.tell_at.ensures)
            (fit_emitted (seated k) _ _ _ c.args.a _ c.in-Some-Outs.outs _ free told c.self.invariant.play.fit (subst P (sym c.self.view_is) c.requires.agent) busy q f refl refl);
        running = c.in_ok-feedback-in-Some-Outs.ensures.emitted.halted ∙ c.self.invariant.play.running;
      };
    }

pub invariant_of-stage-in-Some-Spent : goal.invariant_of-stage-in-Some-Spent
invariant_of-stage-in-Some-Spent g c =
    let P = λ (x : Sited _). IsAgent (length x.platform.board.seats) c.args.a in
    record {
      number = c.self.invariant.number;
      play = record {
        fit = rw (c.leave.ensures.state, c.take_thought.ensures.after)
            (fit_spent (seated g.M.Mind.kind) _ _ _ c.args.a _ c.self.invariant.play.fit (subst P (sym c.self.view_is) c.requires.agent));
        running = c.leave.ensures.halted ∙ c.self.invariant.play.running;
      };
    }

pub returns-in_ok-feedback-in-Some-Outs : goal.returns-in_ok-feedback-in-Some-Outs
returns-in_ok-feedback-in-Some-Outs g c =
    let P = λ (x : Sited _). IsAgent (length x.platform.board.seats) c.args.a in
    let busy = ap (λ x. (seat_at x.platform.board c.args.a).phase) c.self.view_is ∙ c.requires.busy in
    let q = c.take_thought.ensures.value ∙ ap Some (c.in-Some-Outs.is ∙ ap Some c.in-Some-Outs.field-0-is) in
    let e = c.in_ok-feedback-in-Some-Outs.ensures.emitted in
    finished_of g.M.Mind.kind _ c.args.self _ c.args.a c.self.view_is
    (emitted g.M.Mind.kind _ _ c.args.a c.in-Some-Outs.outs _ (subst P (sym c.self.view_is) c.requires.agent) busy q e.state c.tell_at.ensures c.take_thought.ensures.after e.schedule refl)

pub returns-in-Some-Spent : goal.returns-in-Some-Spent
returns-in-Some-Spent g c =
    let P = λ (x : Sited _). IsAgent (length x.platform.board.seats) c.args.a in
    let busy = ap (λ x. (seat_at x.platform.board c.args.a).phase) c.self.view_is ∙ c.requires.busy in
    let q = c.take_thought.ensures.value ∙ ap Some (c.in-Some-Spent.is ∙ ap Some c.in-Some-Spent.field-0-is) in
    finished_of g.M.Mind.kind _ c.args.self _ c.args.a c.self.view_is
    (spent g.M.Mind.kind _ _ c.args.a (subst P (sym c.self.view_is) c.requires.agent) busy q c.leave.ensures.state refl c.take_thought.ensures.after c.leave.ensures.schedule refl)
