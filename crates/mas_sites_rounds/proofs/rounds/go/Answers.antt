use Rattle.std.proofs.Common.{sym, ◌∙◌}
use Rattle.mas_sites_rounds.proofs.Going.{went_none, went_once, went_twice, same_agent}
use Rattle.mas_sites_rounds.proofs.rounds.go.Goals as goal

pub returns-then-has_left-clause-went : goal.returns-then-has_left-clause-went
returns-then-has_left-clause-went g c = went_none g.M.Mind.kind g.C.Carrier.got g.C.Carrier.put _ c.args.stage c.args.a (sym c.has_left.ensures ∙ c.if-has_left.true)

pub has_left-requires-2 : goal.has_left-requires-2
has_left-requires-2 g c = same_agent g.M.Mind.kind g.C.Carrier.got g.C.Carrier.put _ _ c.args.stage c.in_ok-begun.begun.stage c.args.a c.args.a _ c.in_ok-begun.ensures.made c.requires.agent

pub returns-then-has_left-2-clause-went : goal.returns-then-has_left-2-clause-went
returns-then-has_left-2-clause-went g c =
    let here = sym c.has_left.ensures ∙ c.if-has_left.false in
    let over = sym c.has_left-2.ensures ∙ c.if-has_left-2.true in
    went_once g.M.Mind.kind g.C.Carrier.got g.C.Carrier.put _ _ c.args.stage c.in_ok-begun.begun.stage c.args.a _ (c.requires.next here) here c.in_ok-begun.ensures.made over

pub returns-clause-went : goal.returns-clause-went
returns-clause-went g c =
    let here = sym c.has_left.ensures ∙ c.if-has_left.false in
    let stays = sym c.has_left-2.ensures ∙ c.if-has_left-2.false in
    went_twice g.M.Mind.kind g.C.Carrier.got g.C.Carrier.put _ _ _ c.args.stage c.in_ok-begun.begun.stage c.in_ok-ended.ended.stage c.args.a _ _ (c.requires.next here) here
    c.in_ok-begun.ensures.made stays c.in_ok-ended.ensures.made
