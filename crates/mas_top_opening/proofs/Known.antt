-- What is read, by the names that a world may use.
use Rattle.std.proofs.Common.{ℕ, ◌≡◌, List, Option, subst}
use Rattle.std.specs.Prelude.{Result, MatchResult}
use Rattle.asl_term.specs.declared.syntax.Filed.{Filed}
use Rattle.mas_world.specs.Worlds.{Used}
use Rattle.mas_top_files.specs.declared.sources.Source.{Source}
use Rattle.mas_top_status.specs.declared.status.Status.{Status}
use Rattle.mas_top_files.specs.Known.{known}
use Rattle.mas_top_files.specs.Sources.{HasSource, AreRefused}

-- the names of the artifacts under another name
pub known_as : (names : List (List ℕ)) (objects : List Used) (cycles : ℕ) (held : Option (List Filed)) (word : List ℕ) (before after : ℕ) (result : Result Source Status) →
    names ≡ known objects → MatchResult result (HasSource names cycles held word) (AreRefused names cycles held word before after) →
    MatchResult result (HasSource (known objects) cycles held word) (AreRefused (known objects) cycles held word before after)
known_as names objects cycles held word before after result e h =
    subst (λ n. MatchResult result (HasSource n cycles held word) (AreRefused n cycles held word before after)) e h
