-- Changes of beliefs one after another, with their events posted after each.
use Rattle.std.proofs.Common.{◌≡◌, List}
use Rattle.asl_term.specs.declared.syntax.LiteralOf.{LiteralOf}
use Rattle.asl_term.specs.declared.syntax.Term.{Term}
use Rattle.asl_beliefs.specs.Changes.{Changed}
use Rattle.asl_intend.specs.declared.agenda.Agenda.{Agenda}
use Rattle.asl_exec_circumstance.specs.Circumstance.{told}

-- what is left to do leads from here to where the whole leads from the start
pub record Walks (whole : List (LiteralOf Term) → Changed) (start : List (LiteralOf Term)) (old : Agenda)
    (rest : List (LiteralOf Term) → Changed) (held : List (LiteralOf Term)) (now : Agenda) : Type 0 where
  pub beliefs : (rest held).beliefs ≡ (whole start).beliefs
  pub agenda : told now (rest held).events ≡ told old (whole start).events
