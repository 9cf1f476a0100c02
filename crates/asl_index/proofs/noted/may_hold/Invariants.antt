use Rattle.std.proofs.Common.{◌≡◌, drop}
use Rattle.asl_beliefs.specs.Changes.{is_held}
use Rattle.asl_beliefs.specs.Sources.{source_percept}
use Rattle.asl_index.proofs.noted.may_hold.Given as goal

abbrev pub invariant-loop-t : goal.invariant-loop-t
invariant-loop-t l = is_held (drop l.t-index l.annots) source_percept ≡ is_held l.annots source_percept
