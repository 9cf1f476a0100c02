use Rattle.std.proofs.Common.{◌≡◌, ◌++◌, ◌∷◌, length}
use Rattle.std.specs.List.{AllByRecursion}
use Rattle.asl_unify.specs.Puts.{IsSubst}
use Rattle.asl_unify.specs.Logs.{later}
use Rattle.asl_intend.specs.Unbuilt as spec
use Rattle.asl_intend.proofs.unbuilt.push_questions.Given as goal

abbrev pub invariant-loop-later : goal.invariant-loop-later
invariant-loop-later l = record {
  lefts : l.lefts ++ spec.lefts l.number (l.at ∷ later l.later) ≡ l.initial.lefts ++ spec.lefts 0 (l.pairs ∷ later l.rest);
  rights : l.rights ++ spec.rights l.number (l.at ∷ later l.later) ≡ l.initial.rights ++ spec.rights 0 (l.pairs ∷ later l.rest);
  here : IsSubst l.at;
  sound : AllByRecursion IsSubst (l.at ∷ later l.later) → AllByRecursion IsSubst (l.pairs ∷ later l.rest);
}

abbrev pub decreases-loop-later : goal.decreases-loop-later
decreases-loop-later l = length (later l.later)
