use Rattle.asl_stdlib.proofs.Behind.{met_some, met_none}
use Rattle.asl_stdlib.proofs.findings.put_met.Goals as goal

pub returns-in_ok-push-in-Some : goal.returns-in_ok-push-in-Some
returns-in_ok-push-in-Some c =
    met_some c.args.x.now c.args.found.now c.args.s.now c.in-Some.more c.args.out.now c.push.new.self c.in_ok-more.field-0 c.in-Some.is
    c.in_ok-more.ensures.value c.in_ok-push-in-Some.ensures.ok

pub returns-in-None : goal.returns-in-None
returns-in-None c =
    met_none c.args.x.now c.args.found.now c.args.s.now c.args.out.now c.in_ok-more.field-0 c.in-None.is c.in_ok-more.ensures.value
