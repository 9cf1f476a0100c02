use Rattle.std.proofs.Common.{◌∙◌, sym}
use Rattle.asl_unify.specs.Matches.{matches}
use Rattle.mas_world.proofs.Firsts.{refutes, passes}
use Rattle.mas_world.proofs.guards.none_matches.Goals as goal

pub returns-in-Some : goal.returns-in-Some
returns-in-Some c =
    refutes (λ f. matches c.args.g.now f c.args.s.now) c.args.facts.now c.loop-f.f-index c.f-item.result c.args.s.now c.in-Some.field-0 _ c.loop-f-test.true c.f-item.is
    (sym c.in-Some.is ∙ c.in_ok-first_match.ensures) c.loop-f.invariant

pub loop-f-preserved : goal.loop-f-preserved
loop-f-preserved c =
    passes (λ f. matches c.args.g.now f c.args.s.now) c.args.facts.now c.loop-f.f-index c.f-item.result c.args.s.now _ c.loop-f-test.true c.f-item.is
    (sym c.in_default.is ∙ c.in_ok-first_match.ensures) c.loop-f.invariant
