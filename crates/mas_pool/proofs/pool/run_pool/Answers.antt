use Rattle.std.proofs.Common.{arith, rules}
use Rattle.std.proofs.lemmas.Result.{IfOk-weaker}
use Rattle.mas_pool.proofs.pool.run_pool.Goals as goal

pub all_ended-requires-clause-few : goal.all_ended-requires-clause-few
all_ended-requires-clause-few g c κs within =
    let m = c.requires.start.fit.number in
    let n = c.in_ok-baton.ensures.count in
    let agents = c.len.ensures in
    let few = c.started-workers.ensures.most.1 in
    omega arith

pub closed-requires : goal.closed-requires
closed-requires g c = (
  search rules,
  record {
    board = c.args.board;
    minds = c.args.minds;
    first = c.in_ok-baton.goings;
    seated = c.in_ok-baton.ensures;
    ended = c.in_ok-goings.ensures;
  },
)

pub returns-clause-ran : goal.returns-clause-ran
returns-clause-ran g c = IfOk-weaker c.closed.result _ _ (λ d ran. ran (record { board = c.args.board; minds = c.args.minds; first = c.in_ok-baton.goings; seated = c.in_ok-baton.ensures; ended = c.in_ok-goings.ensures })) c.closed.ensures
