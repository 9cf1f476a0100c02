-- What the matches of clap say of a command's names and options.
use Rattle.std.specs.Prelude.{ℕ, List, codes, None}
use Rattle.clap.specs.Walk.{Row, first_of}
use Rattle.mas_top_words.specs.declared.table.Command.{Command}
use Rattle.mas_top_words.specs.declared.table.Command.TheVariants.{Run, Replay, Check, Demo, Renew, Record, Resume, Sites, Lint}
use Rattle.mas_top_words.specs.declared.table.Setting.TheVariants.{Workers, Pool, Cycles, Lead, Depth, Tries, Level}
use Rattle.mas_top_words.specs.Apps.{id_of}
use Rattle.mas_top_words.specs.Words.{GivenSettings, WordsSoFar, listed}

abbrev pub names_among : Command → List Row → List (List ℕ)
names_among Run rows = listed (first_of (codes "project") rows) None
names_among Replay rows = listed (first_of (codes "project") rows) (first_of (codes "schedule") rows)
names_among Check rows = listed (first_of (codes "project") rows) (first_of (codes "report") rows)
names_among Demo rows = listed (first_of (codes "count") rows) None
names_among Renew rows = listed (first_of (codes "project") rows) (first_of (codes "report") rows)
names_among Record rows = listed (first_of (codes "project") rows) (first_of (codes "file") rows)
names_among Resume rows = listed (first_of (codes "project") rows) (first_of (codes "file") rows)
names_among Sites rows = listed (first_of (codes "project") rows) (first_of (codes "other") rows)
names_among Lint rows = listed (first_of (codes "project") rows) None

abbrev pub given_among : List Row → GivenSettings
given_among rows = record {
  workers = first_of (id_of Workers) rows;
  pool = first_of (id_of Pool) rows;
  cycles = first_of (id_of Cycles) rows;
  lead = first_of (id_of Lead) rows;
  depth = first_of (id_of Depth) rows;
  tries = first_of (id_of Tries) rows;
  level = first_of (id_of Level) rows;
}

abbrev pub said_among : Command → List Row → WordsSoFar
said_among c rows = record { names = names_among c rows; given = given_among rows; awaits = None }
