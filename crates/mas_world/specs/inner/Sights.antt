-- What a walk over facts keeps of what an agent sees.
use Rattle.std.specs.Prelude.{◌≡◌, List}
use Rattle.asl_term.specs.declared.syntax.LiteralOf.{LiteralOf}
use Rattle.asl_term.specs.declared.syntax.Term.{Term}
use Rattle.mas_world.specs.declared.shown.Told.{Told}
use Rattle.mas_world.specs.Facts.{is_fact}
use Rattle.mas_world.specs.Seen.{Private}

abbrev pub private : Told → Private
private p = record { agent = p.agent.now; fact = p.fact.now }

-- both lists have a literal, or neither has
abbrev pub Agree : List (LiteralOf Term) → List (LiteralOf Term) → LiteralOf Term → Type 0
Agree fs gs l = is_fact fs l ≡ is_fact gs l
