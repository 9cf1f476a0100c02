use Rattle.std.proofs.Common.{◌≡◌, map}
use Rattle.mas_world.specs.Worlds.{used}
use Rattle.mas_world.proofs.opening.keep_all.Given as goal

abbrev pub invariant-loop-artifact : goal.invariant-loop-artifact
invariant-loop-artifact g l = let A = g.A.Artifact in l.kept ≡ map (λ a. used (A.named a) (A.table a) (A.facts a)) l.yielded
