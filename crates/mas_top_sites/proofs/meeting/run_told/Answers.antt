use Rattle.mas_sites.specs.Results.{ended}
use Rattle.mas_sites_scripts.specs.Sites.{before}
use Rattle.mas_top_sites.proofs.Told.{numbers}
use Rattle.mas_top_sites.proofs.meeting.run_told.Goals as goal

pub text_of_both-requires-clause-one : goal.text_of_both-requires-clause-one
text_of_both-requires-clause-one g c =
    let met = c.in_ok-met.met in
    numbers g.M.Mind.kind (before c.args.one.board.state c.args.one.minds) (ended met.one.board met.one.minds) _ c.holds.ensures.sound c.in_ok-met.ensures.run.one_ran

pub text_of_both-requires-clause-two : goal.text_of_both-requires-clause-two
text_of_both-requires-clause-two g c =
    let met = c.in_ok-met.met in
    numbers g.M.Mind.kind (before c.args.two.board.state c.args.two.minds) (ended met.two.board met.two.minds) _ c.holds-2.ensures.sound c.in_ok-met.ensures.run.two_ran

pub returns-in-Ok : goal.returns-in-Ok
returns-in-Ok g c =
    let met = c.in_ok-met.met in
    record {
      one = ended met.one.board met.one.minds;
      two = ended met.two.board met.two.minds;
      scripts = met.scripts;
      left = met.between;
      run = c.in_ok-met.ensures.run;
      turns = c.in_ok-met.ensures.fold;
      told = c.in-Ok.ensures;
    }
