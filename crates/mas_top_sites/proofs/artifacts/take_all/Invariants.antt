use Rattle.mas_top_opening.specs.Opening.{objects_of}
use Rattle.mas_top_sites.proofs.Taking.{Left}
use Rattle.mas_top_sites.proofs.artifacts.take_all.Given as goal

abbrev pub invariant-loop-k : goal.invariant-loop-k
invariant-loop-k g l =
    let A = g.A.Artifact in
    let objects = objects_of A.named A.table A.facts in
    Left l.uses (objects l.fn.left.items) l.k l.used (objects l.left.items)
