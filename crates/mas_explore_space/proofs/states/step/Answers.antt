use Rattle.std.proofs.Common.{Some, sym, ap, ◌∙◌, subst}
use Rattle.mas_explore_likes.specs.Likes.{AreMet}
use Rattle.mas_explore_likes.proofs.Standing.{met_on}
use Rattle.mas_explore_space.specs.declared.held.Held.{Held}
use Rattle.mas_explore_space.specs.Held.{start_of}
use Rattle.mas_explore_space.proofs.Settles.{next_stands}
use Rattle.mas_explore_space.proofs.Steps.{stepped, kept_held}
use Rattle.mas_explore_space.proofs.states.step.Goals as goal

pub settle_next-requires-clause-stands : goal.settle_next-requires-clause-stands
settle_next-requires-clause-stands g c =
    next_stands g.M.Mind.kind (start_of (g.F.FreshWorld.agents c.args.fresh.now) (g.F.FreshWorld.start c.args.fresh.now) (g.F.Fresh.first c.args.fresh.now)) c.args.met.now.held c.follow_row.new.held c.args.state c.in_ok-row.row c.args.a c.in_ok-to.to
    (c.requires.met.each c.args.state c.in_ok-row.row (sym c.in-Some.ensures ∙ ap Some (sym c.in_ok-row.ensures))) c.in_ok-to.ensures

pub settle_next-requires-clause-met : goal.settle_next-requires-clause-met
settle_next-requires-clause-met g c =
    met_on g.M.Mind.kind (g.F.Fresh.first c.args.fresh.now) c.args.met.now.held.minds c.follow_row.new.held.minds c.args.likes.now c.in_ok-to.ensures.grown.grows.minds c.requires.likes

pub returns-clause-likes : goal.returns-clause-likes
returns-clause-likes g c =
    let P = λ (h : Held). AreMet g.M.Mind.kind (g.F.Fresh.first c.args.fresh.now) h.minds c.settle_next.new.likes in
    subst P (sym (kept_held (record c.args.met.now { held = c.follow_row.new.held }) c.keep_next.new.met c.in_ok-settled.settled c.in_ok-moved.moved c.in_ok-moved.ensures)) c.in_ok-settled.ensures.met

pub returns-clause-stepped : goal.returns-clause-stepped
returns-clause-stepped g c =
    stepped g.M.Mind.kind c.args.view (start_of (g.F.FreshWorld.agents c.args.fresh.now) (g.F.FreshWorld.start c.args.fresh.now) (g.F.Fresh.first c.args.fresh.now)) c.args.met.now (record c.args.met.now { held = c.follow_row.new.held }) c.keep_next.new.met c.args.state c.args.a c.in_ok-row.row
    c.in_ok-to.to c.in_ok-settled.settled c.in_ok-moved.moved c.requires.met (sym c.in-Some.ensures ∙ ap Some (sym c.in_ok-row.ensures)) c.in_ok-to.ensures c.in_ok-settled.ensures.like c.in_ok-moved.ensures
