-- What words ask for.
use Rattle.std.specs.Prelude.{ℕ, ◌^◌, ◌&&◌, ◌||◌, Bool, false, List, [], ◌∷◌, codes, nat_lt, if◌then◌else◌}
use Rattle.std.specs.Prelude.{Option, None, Some, option_map, option_and_then}
use Rattle.std.specs.Str.{bytes_eq}
use Rattle.std.specs.Str.Parse.{digits_value, without_leading_plus}
use Rattle.clap.specs.Faults.{fault_of}
use Rattle.clap.specs.Simple.{App, matches_of}
use Rattle.clap.specs.ValueTests.{is_numeral}
use Rattle.clap.specs.Walk.{Row, first_of, is_empty}
use Rattle.look_top.specs.declared.words.LookVerb.{LookVerb}
use Rattle.look_top.specs.declared.words.LookVerb.TheVariants as verb
use Rattle.look_top.specs.declared.words.LookAsked as code
use Rattle.look_top.specs.declared.words.LookAsked.TheVariants as code_variant
use Rattle.look_top.specs.declared.words.MindWords as code_mind
use Rattle.look_top.specs.declared.words.DropsWords as code_drops
use Rattle.look_top.specs.Apps.{app_for}
use Rattle.program_words.specs.Texts.{is_set}

-- what the agent of this name has in mind after so many turns of the run of a project and its report; without a number after all turns
pub record Minding : Type 0 where
  pub project : List ℕ
  pub report : List ℕ
  pub agent : List ℕ
  pub turn : Option ℕ

-- what the run of a project and its report dropped; or those failures alone that no failure plan takes up
pub record Dropping : Type 0 where
  pub project : List ℕ
  pub report : List ℕ
  pub unhandled : Bool

-- the commands and the version; the places at which a project is refused; what looks wrong in it; the messages of a report, as a spreadsheet or
-- not; a mind; the page of a project and its report; what a run dropped
pub data Asked : Type 0 where
  help : Asked
  version : Asked
  places : List ℕ → Asked
  hints : List ℕ → Asked
  messages : List ℕ → Bool → Asked
  mind : Minding → Asked
  page : List ℕ → List ℕ → Asked
  drops : Dropping → Asked

-- ---- what the text of a turn says; None outside where it is not permitted

-- a number below 2^64, in front of which a plus may stand
abbrev pub number_in : List ℕ → Option ℕ
number_in text =
    let digits = without_leading_plus text in
    if is_numeral digits && nat_lt (digits_value 10 digits) (2 ^ 64) then Some (digits_value 10 digits) else None

abbrev pub turn_in : List ℕ → Option (Option ℕ)
turn_in text = if bytes_eq text (codes "end") then Some None else option_map Some (number_in text)

-- ---- what clap's matches ask for

abbrev pub mind_with : Option (List ℕ) → Option (List ℕ) → Option (List ℕ) → Option (Option ℕ) → Option Asked
mind_with (Some project) (Some report) (Some agent) (Some turn) =
    Some (mind (record { project = project; report = report; agent = agent; turn = turn }))
mind_with _ _ _ _ = None

abbrev pub page_with : Option (List ℕ) → Option (List ℕ) → Option Asked
page_with (Some project) (Some report) = Some (page project report)
page_with _ _ = None

abbrev pub drops_with : Option (List ℕ) → Option (List ℕ) → Bool → Option Asked
drops_with (Some project) (Some report) unhandled = Some (drops (record { project = project; report = report; unhandled = unhandled }))
drops_with _ _ _ = None

abbrev pub messages_among : List Row → Option Asked
messages_among rows = option_map (λ report. messages report (is_set (first_of (codes "csv") rows))) (first_of (codes "report") rows)

abbrev pub mind_among : List Row → Option Asked
mind_among rows = mind_with
    (first_of (codes "project") rows)
    (first_of (codes "report") rows)
    (first_of (codes "agent") rows)
    (option_and_then turn_in (first_of (codes "turn") rows))

abbrev pub page_among : List Row → Option Asked
page_among rows = page_with (first_of (codes "project") rows) (first_of (codes "report") rows)

abbrev pub drops_among : List Row → Option Asked
drops_among rows = drops_with
    (first_of (codes "project") rows)
    (first_of (codes "report") rows)
    (is_set (first_of (codes "unhandled") rows))

abbrev pub asked_among : LookVerb → List Row → Option Asked
asked_among verb.Where rows = option_map places (first_of (codes "project") rows)
asked_among verb.Hints rows = option_map hints (first_of (codes "project") rows)
asked_among verb.Messages rows = messages_among rows
asked_among verb.Mind rows = mind_among rows
asked_among verb.Page rows = page_among rows
asked_among verb.Drops rows = drops_among rows

-- ---- the words

-- the matches where clap takes the words
unfoldable pub rows_by : App → List (List ℕ) → Option (List Row)
rows_by app words = if is_empty (fault_of app words) then Some (matches_of app words) else None

-- what the words behind a command ask for
abbrev pub asked_by : LookVerb → List (List ℕ) → Option Asked
asked_by v words = option_and_then (asked_among v) (rows_by (app_for v) words)

-- the command that a word names
abbrev pub verb_of : List ℕ → Option LookVerb
verb_of word =
    if bytes_eq word (codes "where") then Some verb.Where
    else if bytes_eq word (codes "hints") then Some verb.Hints
    else if bytes_eq word (codes "messages") then Some verb.Messages
    else if bytes_eq word (codes "mind") then Some verb.Mind
    else if bytes_eq word (codes "page") then Some verb.Page
    else if bytes_eq word (codes "drops") then Some verb.Drops
    else None

abbrev pub is_either : List ℕ → List ℕ → List ℕ → Bool
is_either word long short = bytes_eq word long || bytes_eq word short

-- what the words behind this one ask for
abbrev pub asked_behind : List ℕ → List (List ℕ) → Option Asked
asked_behind word words =
    if is_either word (codes "--help") (codes "-h") then Some help
    else if is_either word (codes "--version") (codes "-V") then Some version
    else option_and_then (λ v. asked_by v words) (verb_of word)

-- what the words ask for; None where they are not read
abbrev pub asked : List (List ℕ) → Option Asked
asked [] = None
asked (word ∷ words) = asked_behind word words

-- ---- standard input

-- the report that is asked for, where one is
abbrev pub report_of : Asked → Option (List ℕ)
report_of help = None
report_of version = None
report_of (places project) = None
report_of (hints project) = None
report_of (messages report csv) = Some report
report_of (mind m) = Some m.report
report_of (page project report) = Some report
report_of (drops d) = Some d.report

abbrev pub is_input : Option (List ℕ) → Bool
is_input None = false
is_input (Some report) = bytes_eq report (codes "-")

-- the report is that of standard input
abbrev pub reads_input : Option Asked → Bool
reads_input None = false
reads_input (Some a) = is_input (report_of a)

-- ---- how the code holds it

abbrev pub minding_of : code_mind.MindWords → Minding
minding_of w = record { project = w.project.now; report = w.report.now; agent = w.agent.now; turn = w.turn }

abbrev pub dropping_of : code_drops.DropsWords → Dropping
dropping_of w = record { project = w.project.now; report = w.report.now; unhandled = w.unhandled }

abbrev pub asked_of : code.LookAsked → Asked
asked_of code_variant.Help = help
asked_of code_variant.Version = version
asked_of (code_variant.Where project) = places project.now
asked_of (code_variant.Hints project) = hints project.now
asked_of (code_variant.Messages report csv) = messages report.now csv
asked_of (code_variant.Mind w) = mind (minding_of w)
asked_of (code_variant.Page w) = page w.project.now w.report.now
asked_of (code_variant.Drops w) = drops (dropping_of w)
