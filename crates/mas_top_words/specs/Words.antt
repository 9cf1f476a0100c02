-- Reading the words of a command line one by one.
use Rattle.std.specs.Prelude.{ℕ, ◌&&◌, ◌==◌, Bool, true, false, not, List, [], ◌∷◌, ◌++◌, length, take, drop, if◌then◌else◌, nat_lt}
use Rattle.std.specs.Prelude.{Option, None, Some, is_some, option_and_then, option_map}
use Rattle.std.specs.List.{prefix_len}
use Rattle.mas_top_words.specs.declared.table.Command.{Command}
use Rattle.mas_top_words.specs.declared.table.Setting.{Setting}
use Rattle.mas_top_words.specs.declared.table.Setting.TheVariants.{Workers, Pool, Cycles, Lead, Depth, Tries, Level}
use Rattle.mas_top_words.specs.declared.said.GivenSettings as code_given
use Rattle.mas_top_words.specs.declared.said.WordsSoFar as code
use Rattle.mas_top_words.specs.Table.{name_count, takes, command_of, setting_of}
use Rattle.mas_top_words.specs.Asked.{Asked, asked_by}

-- the texts that were given for settings
pub record GivenSettings : Type 0 where
  pub workers : Option (List ℕ)
  pub pool : Option (List ℕ)
  pub cycles : Option (List ℕ)
  pub lead : Option (List ℕ)
  pub depth : Option (List ℕ)
  pub tries : Option (List ℕ)
  pub level : Option (List ℕ)

abbrev pub text_for : GivenSettings → Setting → Option (List ℕ)
text_for g Workers = g.workers
text_for g Pool = g.pool
text_for g Cycles = g.cycles
text_for g Lead = g.lead
text_for g Depth = g.depth
text_for g Tries = g.tries
text_for g Level = g.level

abbrev pub with_text : GivenSettings → Setting → List ℕ → GivenSettings
with_text g Workers text = record g { workers = Some text }
with_text g Pool text = record g { pool = Some text }
with_text g Cycles text = record g { cycles = Some text }
with_text g Lead text = record g { lead = Some text }
with_text g Depth text = record g { depth = Some text }
with_text g Tries text = record g { tries = Some text }
with_text g Level text = record g { level = Some text }

-- the names and the texts so far, and the setting whose text is the next word
pub record WordsSoFar : Type 0 where
  pub names : List (List ℕ)
  pub given : GivenSettings
  pub awaits : Option Setting

abbrev pub silence : WordsSoFar
silence = record {
  names = [];
  given = record { workers = None; pool = None; cycles = None; lead = None; depth = None; tries = None; level = None };
  awaits = None;
}

-- a name that the command still wants
abbrev pub with_name : Command → WordsSoFar → List ℕ → Option WordsSoFar
with_name c s text = if nat_lt (length s.names) (name_count c) then Some (record s { names = s.names ++ text ∷ [] }) else None

-- an option that the command has and that was not given
abbrev pub with_option : Command → WordsSoFar → Setting → List ℕ → Option WordsSoFar
with_option c s o text =
    if takes c o && not (is_some (text_for s.given o)) then Some (record s { given = with_text s.given o text; awaits = None }) else None

-- a byte of an option's word before its `=` (61)
abbrev pub is_key : ℕ → Bool
is_key b = not (b == 61)

-- behind `--x` nothing, so that its text is the next word, or `=` and its text
abbrev pub setting_said : Command → WordsSoFar → List ℕ → Setting → Option WordsSoFar
setting_said c s [] o = Some (record s { awaits = Some o })
setting_said c s (b ∷ []) o = None
setting_said c s (b ∷ x ∷ xs) o = with_option c s o (x ∷ xs)

abbrev pub option_said : Command → WordsSoFar → List ℕ → Option WordsSoFar
option_said c s word = option_and_then (setting_said c s (drop (prefix_len is_key word) word)) (setting_of (take (prefix_len is_key word) word))

-- a word that begins with `-` (45) is an option, and no name and no text of an option
abbrev pub word_met : Command → WordsSoFar → Bool → List ℕ → Option Setting → Option WordsSoFar
word_met c s true word None = option_said c s word
word_met c s true word (Some o) = None
word_met c s false word None = with_name c s word
word_met c s false word (Some o) = with_option c s o word

abbrev pub word_said : Command → WordsSoFar → List ℕ → Option WordsSoFar
word_said c s [] = None
word_said c s (b ∷ bs) = word_met c s (b == 45) (b ∷ bs) s.awaits

-- what was said before a word, and then the word
abbrev pub next_said : Command → Option WordsSoFar → List ℕ → Option WordsSoFar
next_said c s word = option_and_then (λ t. word_said c t word) s

-- what the words after the command say
abbrev pub words_said : Command → Option WordsSoFar → List (List ℕ) → Option WordsSoFar
words_said c s [] = s
words_said c s (w ∷ ws) = words_said c (next_said c s w) ws

-- what is asked for at the end, where no text is awaited
abbrev pub finished : Command → WordsSoFar → Option Asked
finished c s = if is_some s.awaits then None else asked_by c s.names (text_for s.given)

abbrev pub asked_after : List (List ℕ) → Command → Option Asked
asked_after words c = option_and_then (finished c) (words_said c (Some silence) words)

-- what the words ask for; None where they are not read
abbrev pub asked : List (List ℕ) → Option Asked
asked [] = None
asked (command ∷ words) = option_and_then (asked_after words) (command_of command)

-- ---- how the code holds it

abbrev pub given_of : code_given.GivenSettings → GivenSettings
given_of g = record {
  workers = option_map (λ t. t.now) g.workers;
  pool = option_map (λ t. t.now) g.pool;
  cycles = option_map (λ t. t.now) g.cycles;
  lead = option_map (λ t. t.now) g.lead;
  depth = option_map (λ t. t.now) g.depth;
  tries = option_map (λ t. t.now) g.tries;
  level = option_map (λ t. t.now) g.level;
}

abbrev pub listed : Option (List ℕ) → Option (List ℕ) → List (List ℕ)
listed None second = []
listed (Some a) None = a ∷ []
listed (Some a) (Some b) = a ∷ b ∷ []

abbrev pub said_of : code.WordsSoFar → WordsSoFar
said_of s = record { names = listed (option_map (λ t. t.now) s.first) (option_map (λ t. t.now) s.second); given = given_of s.given; awaits = s.awaits }
