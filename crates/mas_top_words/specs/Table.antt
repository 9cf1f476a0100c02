-- The commands, their names and their options.
use Rattle.std.specs.Prelude.{ℕ, Bool, true, false, List, [], ◌∷◌, codes, if◌then◌else◌, Option, find}
use Rattle.std.specs.Str.{bytes_eq}
use Rattle.mas_top_words.specs.declared.table.Command.{Command}
use Rattle.mas_top_words.specs.declared.table.Command.TheVariants.{Run, Replay, Check, Demo, Renew, Record, Resume, Sites, Lint}
use Rattle.mas_top_words.specs.declared.table.Setting.{Setting}
use Rattle.mas_top_words.specs.declared.table.Setting.TheVariants.{Workers, Pool, Cycles, Lead, Depth, Tries, Level}

-- a command's word, how many names it has, and its options
pub record Form : Type 0 where
  pub word : List ℕ
  pub names : ℕ
  pub options : List Setting

-- the options of each run, whoever makes its turns
abbrev pub run_settings : List Setting
run_settings = Cycles ∷ Lead ∷ Depth ∷ Tries ∷ Level ∷ []

abbrev pub settings : List Setting
settings = Workers ∷ Pool ∷ run_settings

abbrev pub form : Command → Form
form Run = record { word = codes "run"; names = 1; options = settings }
form Replay = record { word = codes "replay"; names = 2; options = run_settings }
form Check = record { word = codes "check"; names = 2; options = [] }
form Demo = record { word = codes "demo"; names = 1; options = Workers ∷ [] }
form Renew = record { word = codes "renew"; names = 2; options = [] }
form Record = record { word = codes "record"; names = 2; options = Workers ∷ run_settings }
form Resume = record { word = codes "resume"; names = 2; options = Workers ∷ run_settings }
form Sites = record { word = codes "sites"; names = 2; options = Workers ∷ run_settings }
form Lint = record { word = codes "lint"; names = 1; options = [] }

abbrev pub commands : List Command
commands = Run ∷ Replay ∷ Check ∷ Demo ∷ Renew ∷ Record ∷ Resume ∷ Sites ∷ Lint ∷ []

abbrev pub command_of : List ℕ → Option Command
command_of word = find (λ c. bytes_eq word (form c).word) commands

abbrev pub name_count : Command → ℕ
name_count c = (form c).names

-- an option's word
abbrev pub key : Setting → List ℕ
key Workers = codes "--workers"
key Pool = codes "--pool"
key Cycles = codes "--cycles"
key Lead = codes "--lead"
key Depth = codes "--depth"
key Tries = codes "--tries"
key Level = codes "--level"

abbrev pub setting_of : List ℕ → Option Setting
setting_of word = find (λ o. bytes_eq word (key o)) settings

abbrev pub same : Setting → Setting → Bool
same Workers Workers = true
same Pool Pool = true
same Cycles Cycles = true
same Lead Lead = true
same Depth Depth = true
same Tries Tries = true
same Level Level = true
same _ _ = false

abbrev pub is_among : List Setting → Setting → Bool
is_among [] o = false
is_among (p ∷ ps) o = if same o p then true else is_among ps o

-- the command has this option
abbrev pub takes : Command → Setting → Bool
takes c o = is_among (form c).options o
