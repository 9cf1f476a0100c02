use Rattle.std.proofs.Common.{◌≡◌, ◌++◌, Some, Option, List}
use Rattle.asl_unify.specs.declared.subst.Pair.{Pair}
use Rattle.asl_unify.specs.Cursors.{annots_left}
use Rattle.asl_unify.specs.inner.Tries.{AreLinked, pending, turns_left}
use Rattle.asl_unify.proofs.cursors.hits_from.Given as goal

abbrev pub invariant-turns : goal.invariant-turns
invariant-turns l = record {
  value : l.found ++ pending l.patterns l.held l.stack.items ≡ annots_left l.patterns l.held l.fn.first l.at;
  linked : (last : Option (List Pair)) × AreLinked l.patterns l.held (Some l.fn.first) l.stack.items last;
}

abbrev pub decreases-turns : goal.decreases-turns
decreases-turns l = turns_left l.patterns l.held l.stack.items
