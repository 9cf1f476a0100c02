-- What clap reads of the words: a simple command.
use Rattle.std.specs.Prelude.{ℕ, true, List, [], ◌∷◌, codes, map, Some}
use Rattle.clap.specs.Walk.{Rule}
use Rattle.clap.specs.Simple.{App, new_app, new_rule, with_rule, on_top}
use Rattle.clap.specs.declared.builder.action.ArgAction.TheVariants.{SetTrue}

-- an option with this long name, and a flag
abbrev pub option_rule : List ℕ → Rule
option_rule id = record (new_rule id) { long = Some id }

abbrev pub flag_rule : List ℕ → Rule
flag_rule id = record (option_rule id) { action = Some SetTrue }

abbrev pub bare : App
bare = on_top (λ s. record s { no_binary_name = true; disable_help_flag = true; disable_version_flag = true }) (new_app (codes "explore"))

abbrev pub with_rules : App → List Rule → App
with_rules a [] = a
with_rules a (r ∷ rs) = with_rules (with_rule a r) rs

abbrev pub option_ids : List (List ℕ)
option_ids = codes "level" ∷ codes "depth" ∷ codes "tries" ∷ codes "states" ∷ codes "never" ∷ codes "always" ∷ []

-- one name, the options and a flag
unfoldable pub explore_app : App
explore_app = with_rule (with_rules (with_rule bare (new_rule (codes "project"))) (map option_rule option_ids)) (flag_rule (codes "progress"))
