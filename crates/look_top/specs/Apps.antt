-- What clap reads of the words behind a command: simple commands.
use Rattle.std.specs.Prelude.{true, List, [], ◌∷◌, codes, Option, None, Some}
use Rattle.clap.specs.Walk.{Text}
use Rattle.clap.specs.Simple.{App, new_app, new_rule, with_rule, on_top}
use Rattle.clap.specs.declared.builder.action.ArgAction.TheVariants.{SetTrue}
use Rattle.look_top.specs.declared.words.LookVerb.{LookVerb}
use Rattle.look_top.specs.declared.words.LookVerb.TheVariants as verb

abbrev pub bare : App
bare = on_top (λ s. record s { no_binary_name = true; disable_help_flag = true; disable_version_flag = true }) (new_app (codes "jasonlook"))

-- names, one behind the other
abbrev pub with_names : App → List Text → App
with_names a [] = a
with_names a (id ∷ ids) = with_names (with_rule a (new_rule id)) ids

-- a flag with this long name, where there is one
abbrev pub with_flag : App → Option Text → App
with_flag a None = a
with_flag a (Some id) = with_rule a (record (new_rule id) { long = Some id; action = Some SetTrue })

-- names, and a flag
abbrev pub command : List Text → Option Text → App
command names flag = with_flag (with_names bare names) flag

-- the names behind a command
abbrev pub names_of : LookVerb → List Text
names_of verb.Where = codes "project" ∷ []
names_of verb.Hints = codes "project" ∷ []
names_of verb.Messages = codes "report" ∷ []
names_of verb.Mind = codes "project" ∷ codes "report" ∷ codes "agent" ∷ codes "turn" ∷ []
names_of verb.Page = codes "project" ∷ codes "report" ∷ []
names_of verb.Drops = codes "project" ∷ codes "report" ∷ []

-- its flag, where it has one
abbrev pub flag_of : LookVerb → Option Text
flag_of verb.Messages = Some (codes "csv")
flag_of verb.Drops = Some (codes "unhandled")
flag_of _ = None

-- what clap is asked for behind a command
unfoldable pub app_for : LookVerb → App
app_for v = command (names_of v) (flag_of v)
