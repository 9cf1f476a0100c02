-- What is true of the demo's files.
use Rattle.std.specs.Prelude.{ℕ, ◌≡◌, ◌≤◌, true, false, List, map, Some, codes}
use Rattle.std.specs.List.{range_with_len}
use Rattle.env_file.specs.Worlds.{has_name}
use Rattle.mas_top_files.specs.declared.sources.Source.{Source}
use Rattle.mas_top_status.specs.declared.status.Reason.TheVariants.{Artifact}
use Rattle.mas_top_status.specs.declared.status.Status.{Status}
use Rattle.mas_top_status.specs.declared.status.Status.TheVariants.{Refused, Memory}
use Rattle.mas_top_files.specs.Sources.{HasSource, FirstRefused, AreRefused}
use Rattle.mas_top_demo.specs.Files.{agent_name, demo_files}

-- the files of the demo describe what is run, with agents w1, w2 and so on, so many, where the artifacts have these names
pub record IsDescribed (known : List (List ℕ)) (k : ℕ) : Type 0 where
  pub source : Source
  pub agents : source.names ≡ map agent_name (range_with_len 1 k)
  pub described : HasSource known 1000 (Some (demo_files k)) (codes "demo.mas2j") source

-- so do those of each demo, where an artifact `tally` is there
abbrev pub DemoDescribed : Type 0
DemoDescribed = (known : List (List ℕ)) (k : ℕ) → has_name known (codes "tally") ≡ true → 1 ≤ k → k ≤ 200 → IsDescribed known k

-- and on a shelf of which no call fails none of them is refused
abbrev pub DemoNotRefused : Type 0
DemoNotRefused =
    (known : List (List ℕ)) (k : ℕ) (status : Status) → has_name known (codes "tally") ≡ true → 1 ≤ k → k ≤ 200
    → AreRefused known 1000 (Some (demo_files k)) (codes "demo.mas2j") 0 0 status → status ≡ Memory

-- where none is there, the first clause of the world is refused, which uses one
abbrev pub DemoRefused : Type 0
DemoRefused =
    (known : List (List ℕ)) (k before after : ℕ) → has_name known (codes "tally") ≡ false → 1 ≤ k → k ≤ 200
    → FirstRefused known 1000 (Some (demo_files k)) (codes "demo.mas2j") before after (Refused (codes "demo.env") 1 (Artifact (codes "tally")))
