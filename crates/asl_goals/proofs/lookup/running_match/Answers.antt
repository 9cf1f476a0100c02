use Rattle.asl_goals.specs.Goals as spec
use Rattle.asl_goals.proofs.Firsts.{first_there, told_behind}
use Rattle.asl_goals.proofs.lookup.running_match.Goals as goal

pub returns-in-Some : goal.returns-in-Some
returns-in-Some c = first_there (spec.stack_match c.args.g.now) c.args.running.now c.parts.result.0.now c.parts.result.1.now
    c.in_ok-found.found c.in-Some.s c.parts.ensures c.in_ok-found.ensures c.in-Some.is

pub returns-in-None : goal.returns-in-None
returns-in-None c = told_behind (spec.stack_match c.args.g.now) c.stacks_match-in-None.result c.args.running.now c.parts.result.0.now
    c.parts.result.1.now c.in_ok-found.found c.parts.ensures c.in_ok-found.ensures c.in-None.is c.stacks_match-in-None.ensures
