-- What an action does to a list of facts.
use Rattle.std.specs.Prelude.{false, if◌then◌else◌, ℕ, List, [], ◌∷◌, ◌++◌, Option, Some, None}
use Rattle.std.specs.Option.{option_and_then, option_map, option_or}
use Rattle.asl_term.specs.Exprs.{is_ground_literal}
use Rattle.asl_term.specs.declared.syntax.LiteralOf.{LiteralOf}
use Rattle.asl_term.specs.declared.syntax.Term.{Term}
use Rattle.asl_term.specs.declared.syntax.Term.TheVariants as term
use Rattle.asl_unify.specs.declared.subst.Pair.{Pair}
use Rattle.asl_unify.specs.Compare.{ask}
use Rattle.asl_unify.specs.Unified.{unified}
use Rattle.asl_unify.specs.Matches.{agreed, matches}
use Rattle.mas_world.specs.declared.acts.Act.{Act}
use Rattle.mas_world.specs.declared.facts.Deed.{Deed}
use Rattle.mas_world.specs.Facts.{news, without}
use Rattle.mas_world.specs.Guards.{first_of, ready, solutions}

-- the name of an agent, as an atom
abbrev pub atom : List ℕ → Term
atom name = term.Lit (record { neg = false; functor = name; args = []; annots = [] })

-- the act's literal against the action, then `by` against the agent's name
abbrev pub entered : Act → List ℕ → LiteralOf Term → Option (List Pair)
entered a agent action = option_and_then (λ s. agreed (unified s (ask a.by (atom agent) ∷ []))) (first_of (matches a.head action []))

abbrev pub if_ground : LiteralOf Term → Option (LiteralOf Term)
if_ground l = if is_ground_literal l then Some l else None

-- an effect under a substitution: nothing where it is not ready, or has a variable left
abbrev pub effect : List Pair → LiteralOf Term → Option (LiteralOf Term)
effect s l = option_and_then if_ground (ready s l)

-- all of them, or nothing
abbrev pub effects : List Pair → List (LiteralOf Term) → Option (List (LiteralOf Term))
effects s [] = Some []
effects s (l ∷ more) = option_and_then (λ x. option_map (λ xs. x ∷ xs) (effects s more)) (effect s l)

-- what an act takes away, adds and drops under a solution of its guard
abbrev pub deed : Act → List Pair → Option Deed
deed a s = option_and_then (λ dels. option_map (λ adds. record { dels = dels; adds = adds; drops = a.drops }) (effects s a.adds)) (effects s a.dels)

-- rule: the first solution of the guard decides: where one of its effects comes to nothing the act does not act
abbrev pub tried : List (LiteralOf Term) → Act → List ℕ → LiteralOf Term → Option Deed
tried facts a agent action = option_and_then (λ s. option_and_then (deed a) (first_of (solutions facts a.guard s))) (entered a agent action)

-- rule: the first act that acts decides
abbrev pub decided : List (LiteralOf Term) → List Act → List ℕ → LiteralOf Term → Option Deed
decided facts [] agent action = None
decided facts (a ∷ acts) agent action = option_or (tried facts a agent action) (decided facts acts agent action)

-- rule: what a deed does to facts: what is taken away goes first, then what is not there yet goes last
abbrev pub done : Deed → List (LiteralOf Term) → List (LiteralOf Term)
done d facts = without d.dels facts ++ news (without d.dels facts) d.adds
