use Rattle.asl_lint_laws.proofs.Stay.{opened_own, plans_stay}
use Rattle.asl_lint_laws.proofs.mail.plans_stay.Goals as goal

pub returns-clause-opened : goal.returns-clause-opened
returns-clause-opened c = opened_own

pub returns-clause-stay : goal.returns-clause-stay
returns-clause-stay c = plans_stay
