use Rattle.std.proofs.Common.{ap}
use Rattle.asl_term.specs.declared.syntax.Term.TheVariants as term
use Rattle.asl_term.proofs.Same.{same_value}
use Rattle.mas_world.proofs.Literals.{as_literals}
use Rattle.mas_world.proofs.facts.same_fact.Goals as goal

pub returns : goal.returns
returns c =
    let is = c.equal_literal.ensures in
    same_value c.equal_literal.result (term.Lit c.args.f.now) (term.Lit c.args.g.now) ((λ t. ap term.Lit (is.0 t)), (λ e. is.1 (as_literals c.args.f.now c.args.g.now e)))
