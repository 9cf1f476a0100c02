use Rattle.std.proofs.Common.{rules}
use Rattle.std.proofs.lemmas.Result.{IfOk-weaker}
use Rattle.mas_steal.proofs.steal.run_stealing.Goals as goal

pub closed-requires : goal.closed-requires
closed-requires g c = (
  search rules,
  record {
    board = c.args.board;
    minds = c.args.minds;
    first = c.in_ok-baton.goings;
    seated = c.in_ok-baton.ensures;
    ended = c.in_ok-goings.ensures;
  },
)

pub returns-clause-ran : goal.returns-clause-ran
returns-clause-ran g c = IfOk-weaker c.closed.result _ _ (λ d ran. ran (record { board = c.args.board; minds = c.args.minds; first = c.in_ok-baton.goings; seated = c.in_ok-baton.ensures; ended = c.in_ok-goings.ensures })) c.closed.ensures
