-- The artifacts in their first states.
use Rattle.std.specs.Prelude.{pos, List, [], ◌∷◌, codes}
use Rattle.asl_term.specs.declared.syntax.Term.TheVariants as term
use Rattle.mas_world.specs.Worlds.{Used, used}
use Rattle.mas_artifact.specs.Tables as tables

-- a tally of nothing
abbrev pub first_tally : Used
first_tally = used (codes "tally") tables.tally_table (tables.tally (term.Num (pos 0)) ∷ [])

-- an idle slot
abbrev pub first_slot : Used
first_slot = used (codes "slot") tables.slot_table (tables.slot tables.idle ∷ [])

-- a belt with nothing on it
abbrev pub first_belt : Used
first_belt = used (codes "belt") tables.belt_table (tables.belt (tables.list []) ∷ [])

-- one of each, in this order
abbrev pub first_kinds : List Used
first_kinds = first_tally ∷ first_slot ∷ first_belt ∷ []
