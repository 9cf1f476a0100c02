-- What clap reads of the commands: for each of them a simple command of its own, in which all values are texts.
use Rattle.std.specs.Prelude.{ℕ, true, List, [], ◌∷◌, codes, drop, map, Some}
use Rattle.clap.specs.Walk.{Rule}
use Rattle.clap.specs.Simple.{App, new_app, new_rule, with_rule, on_top}
use Rattle.mas_top_words.specs.declared.table.Command.{Command}
use Rattle.mas_top_words.specs.declared.table.Command.TheVariants.{Run, Replay, Check, Demo, Renew, Record, Resume, Sites, Lint}
use Rattle.mas_top_words.specs.declared.table.Setting.{Setting}
use Rattle.mas_top_words.specs.Table.{key, form, run_settings}

-- an option's word without its two hyphens
abbrev pub id_of : Setting → List ℕ
id_of o = drop 2 (key o)

-- an argument with this long name
abbrev pub long_rule : List ℕ → Rule
long_rule id = record (new_rule id) { long = Some id }

abbrev pub option_rule : Setting → Rule
option_rule o = long_rule (id_of o)

abbrev pub name_ids : Command → List (List ℕ)
name_ids Run = codes "project" ∷ []
name_ids Replay = codes "project" ∷ codes "schedule" ∷ []
name_ids Check = codes "project" ∷ codes "report" ∷ []
name_ids Demo = codes "count" ∷ []
name_ids Renew = codes "project" ∷ codes "report" ∷ []
name_ids Record = codes "project" ∷ codes "file" ∷ []
name_ids Resume = codes "project" ∷ codes "file" ∷ []
name_ids Sites = codes "project" ∷ codes "other" ∷ []
name_ids Lint = codes "project" ∷ []

abbrev pub bare : List ℕ → App
bare word = on_top (λ s. record s { no_binary_name = true; disable_help_flag = true; disable_version_flag = true }) (new_app word)

abbrev pub with_rules : App → List Rule → App
with_rules a [] = a
with_rules a (r ∷ rs) = with_rules (with_rule a r) rs

-- a command with the names and the options of this one
abbrev pub app_like : Command → List ℕ → App
app_like c word = with_rules (with_rules (bare word) (map new_rule (name_ids c))) (map option_rule (form c).options)

abbrev pub app_for : Command → App
app_for c = app_like c (form c).word

abbrev pub run_rules : List Rule
run_rules = map option_rule run_settings
