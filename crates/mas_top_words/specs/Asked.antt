-- What a command asks for, given its names and the texts of its options.
use Rattle.std.specs.Prelude.{◌≡◌, ℕ, Bool, true, false, List, [], ◌∷◌, codes, if◌then◌else◌, Option, None, Some, option_map}
use Rattle.std.specs.Str.{bytes_eq}
use Rattle.mas_mind.specs.Limits.{most_cycles, most_tries}
use Rattle.mas_mind.specs.declared.mind.Level.{Level}
use Rattle.mas_mind.specs.declared.mind.Level.TheVariants as level
use Rattle.mas_report.specs.declared.options.Options.{Options}
use Rattle.mas_report.specs.Limits.{IsFrom, IsWithin, defaults, most_depth}
use Rattle.mas_top_words.specs.declared.table.Command.{Command}
use Rattle.mas_top_words.specs.declared.table.Command.TheVariants.{Run, Replay, Check, Demo, Renew, Record, Resume, Sites, Lint}
use Rattle.mas_top_words.specs.declared.table.Setting.{Setting}
use Rattle.mas_top_words.specs.declared.table.Setting.TheVariants.{Workers, Pool as OfPool, Cycles, Lead, Depth, Tries, Level as OfLevel}
use Rattle.mas_top_words.specs.declared.asked.Pool.{Pool}
use Rattle.mas_top_words.specs.declared.asked.Pool.TheVariants as pool
use Rattle.mas_top_words.specs.declared.asked.Asked as code
use Rattle.mas_top_words.specs.declared.asked.Asked.TheVariants as code_variant
use Rattle.mas_top_words.specs.Numbers.{number_in}

-- a run of a project by so many workers from this pool, a replay of it along a schedule, whether a report is that of a run of a
-- project, a demonstration with so many agents and workers, the report of a run of a project anew, a run whose turns are written to
-- a file, the run of which a file has the first turns, a run of two projects as two sites, and whether a project's goals are covered
pub data Asked : Type 0 where
  run : List ℕ → Options → ℕ → Pool → Asked
  replay : List ℕ → List ℕ → Options → Asked
  check : List ℕ → List ℕ → Asked
  demo : ℕ → ℕ → Asked
  renew : List ℕ → List ℕ → Asked
  record_to : List ℕ → List ℕ → Options → ℕ → Asked
  resume_from : List ℕ → List ℕ → Options → ℕ → Asked
  sites : List ℕ → List ℕ → Options → ℕ → Asked
  lint : List ℕ → Asked

-- ---- what the texts of options say; None where it is not permitted

-- the usual number where the option does not stand, or one from the first bound to the second
abbrev pub number_for : ℕ → ℕ → ℕ → Option (List ℕ) → Option ℕ
number_for usual low high None = Some usual
number_for usual low high (Some text) = number_in low high text

abbrev pub level_of : List ℕ → Option Level
level_of text =
    if bytes_eq text (codes "say") then Some level.Say else if bytes_eq text (codes "acts") then Some level.Acts
    else if bytes_eq text (codes "rules") then Some level.Rules else None

abbrev pub level_for : Level → Option (List ℕ) → Option Level
level_for usual None = Some usual
level_for usual (Some text) = level_of text

abbrev pub options_with : Option ℕ → Option ℕ → Option ℕ → Option ℕ → Option Level → Option Options
options_with (Some cycles) (Some lead) (Some depth) (Some tries) (Some level) =
    Some (record { cycles = cycles; lead = lead; depth = depth; tries = tries; level = level })
options_with _ _ _ _ _ = None

abbrev pub options_for : (Setting → Option (List ℕ)) → Option Options
options_for text = options_with
    (number_for defaults.cycles 1 most_cycles (text Cycles))
    (number_for defaults.lead 1 1000 (text Lead))
    (number_for defaults.depth 1 most_depth (text Depth))
    (number_for defaults.tries 1 most_tries (text Tries))
    (level_for defaults.level (text OfLevel))

abbrev pub workers_for : (Setting → Option (List ℕ)) → Option ℕ
workers_for text = number_for 4 1 64 (text Workers)

-- one worker for both sites, or one for each
abbrev pub site_workers_for : (Setting → Option (List ℕ)) → Option ℕ
site_workers_for text = number_for 2 1 2 (text Workers)

abbrev pub pool_of : List ℕ → Option Pool
pool_of text = if bytes_eq text (codes "ready") then Some pool.Ready else if bytes_eq text (codes "steal") then Some pool.Steal else None

-- the queue where the option does not stand
abbrev pub pool_by : Option (List ℕ) → Option Pool
pool_by None = Some pool.Ready
pool_by (Some text) = pool_of text

abbrev pub pool_for : (Setting → Option (List ℕ)) → Option Pool
pool_for text = pool_by (text OfPool)

-- ---- what the commands ask for

abbrev pub run_with : List ℕ → Option Options → Option ℕ → Option Pool → Option Asked
run_with project (Some options) (Some workers) (Some pool) = Some (run project options workers pool)
run_with project _ _ _ = None

abbrev pub recorded_with : (Options → ℕ → Asked) → Option Options → Option ℕ → Option Asked
recorded_with ask (Some options) (Some workers) = Some (ask options workers)
recorded_with ask _ _ = None

-- the lines of this level tell what was sent and taken
abbrev pub shows : Level → Bool
shows level.Say = false
shows level.Acts = true
shows level.Rules = true

abbrev pub sites_with : List ℕ → List ℕ → Option Options → Option ℕ → Option Asked
sites_with one two (Some options) (Some workers) = if shows options.level then Some (sites one two options workers) else None
sites_with one two _ _ = None

abbrev pub demo_with : Option ℕ → Option ℕ → Option Asked
demo_with (Some count) (Some workers) = Some (demo count workers)
demo_with _ _ = None

-- None where the names are not the command's, or a text says nothing that is permitted
abbrev pub asked_by : Command → List (List ℕ) → (Setting → Option (List ℕ)) → Option Asked
asked_by Run (project ∷ []) text = run_with project (options_for text) (workers_for text) (pool_for text)
asked_by Replay (project ∷ schedule ∷ []) text = option_map (replay project schedule) (options_for text)
asked_by Check (project ∷ report ∷ []) text = Some (check project report)
asked_by Demo (count ∷ []) text = demo_with (number_in 1 200 count) (workers_for text)
asked_by Renew (project ∷ report ∷ []) text = Some (renew project report)
asked_by Record (project ∷ file ∷ []) text = recorded_with (record_to project file) (options_for text) (workers_for text)
asked_by Resume (project ∷ file ∷ []) text = recorded_with (resume_from project file) (options_for text) (workers_for text)
asked_by Sites (one ∷ two ∷ []) text = sites_with one two (options_for text) (site_workers_for text)
asked_by Lint (project ∷ []) text = Some (lint project)
asked_by _ _ text = None

-- the numbers, and the level of two sites, are those that the options and names permit
abbrev pub IsPermitted : Asked → Type 0
IsPermitted (run project options workers pool) = IsWithin options × IsFrom 1 64 workers
IsPermitted (replay project schedule options) = IsWithin options
IsPermitted (check project report) = Unit {0}
IsPermitted (demo count workers) = IsFrom 1 200 count × IsFrom 1 64 workers
IsPermitted (renew project report) = Unit {0}
IsPermitted (record_to project file options workers) = IsWithin options × IsFrom 1 64 workers
IsPermitted (resume_from project file options workers) = IsWithin options × IsFrom 1 64 workers
IsPermitted (sites one two options workers) = IsWithin options × IsFrom 1 2 workers × shows options.level ≡ true
IsPermitted (lint project) = Unit {0}

-- ---- how the code holds it

abbrev pub asked_of : code.Asked → Asked
asked_of (code_variant.Run project options workers pool) = run project.now options workers pool
asked_of (code_variant.Replay project schedule options) = replay project.now schedule.now options
asked_of (code_variant.Check project report) = check project.now report.now
asked_of (code_variant.Demo count workers) = demo count workers
asked_of (code_variant.Renew project report) = renew project.now report.now
asked_of (code_variant.Record project file options workers) = record_to project.now file.now options workers
asked_of (code_variant.Resume project file options workers) = resume_from project.now file.now options workers
asked_of (code_variant.Sites one two options workers) = sites one.now two.now options workers
asked_of (code_variant.Lint project) = lint project.now
