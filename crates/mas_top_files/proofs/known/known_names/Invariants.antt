use Rattle.std.proofs.Common.{◌≡◌, drop, map}
use Rattle.mas_world.specs.Worlds.{used}
use Rattle.mas_top_files.specs.Known.{known_after, known}
use Rattle.mas_top_files.proofs.known.known_names.Given as goal

abbrev pub invariant-loop-artifact : goal.invariant-loop-artifact
invariant-loop-artifact g l =
    let A = g.A.Artifact in
    known_after l.names (map (λ a. used (A.named a) (A.table a) (A.facts a)) (drop l.artifact-index l.artifacts))
    ≡ known (map (λ a. used (A.named a) (A.table a) (A.facts a)) l.artifacts)
