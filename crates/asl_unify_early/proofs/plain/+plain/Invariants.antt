use Rattle.std.proofs.Common.{◌≡◌, map, drop}
use Rattle.asl_term.specs.Trees.{all}
use Rattle.asl_unify_early.specs.inner.Plain as inner
use Rattle.asl_unify_early.proofs.plain.+plain.Given as goal

abbrev pub invariant-are_plain-loop-t : goal.invariant-are_plain-loop-t
invariant-are_plain-loop-t l = all (map inner.is_plain (drop l.t-index l.ts)) ≡ all (map inner.is_plain l.ts)
