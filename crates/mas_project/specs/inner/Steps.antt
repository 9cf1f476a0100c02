-- The reading of a piece, word by word. That it is the grammar is shown in `proofs/`.
use Rattle.std.specs.Prelude.{ℕ, Bool, true, false, ◌==◌, List, [], ◌∷◌, Option, Some, None, Result, Ok, Err, codes, if◌then◌else◌}
use Rattle.std.specs.Option.{option_map_or}
use Rattle.std.specs.Str.{bytes_eq}
use Rattle.mas_project.specs.declared.lexeme.ProjectLexeme.{ProjectLexeme}
use Rattle.mas_project.specs.declared.lexeme.ProjectLexeme.TheVariants.{Atom, Var, Str, Suffix, Number, Colon, Semicolon, Hash, OpenBrace, CloseBrace}
use Rattle.mas_project.specs.declared.piece.AgentEntry.{AgentEntry}
use Rattle.mas_project.specs.declared.piece.PieceMeaning.{PieceMeaning}
use Rattle.mas_project.specs.declared.piece.PieceMeaning.TheVariants as said
use Rattle.mas_project.specs.declared.piece.NextPiece.{NextPiece}
use Rattle.mas_project.specs.declared.piece.NextPiece.TheVariants as turn
use Rattle.mas_project.specs.declared.state.Before.{Before}
use Rattle.mas_project.specs.declared.state.Before.TheVariants as before
use Rattle.mas_project.specs.declared.state.SeenOptions as options
use Rattle.mas_project.specs.declared.state.State.{State}
use Rattle.mas_project.specs.declared.state.State.TheVariants as state
use Rattle.mas_project.specs.Grammar.{asl, env}

abbrev pub begin : NextPiece → State
begin turn.Title = state.Start
begin turn.First = state.SeenOptions (record { infrastructure = false; world = None })
begin turn.Later = state.Later

-- ---- the title

abbrev pub start_by : ProjectLexeme → Option State
start_by (Var w) = if bytes_eq w (codes "MAS") then Some state.Title else None
start_by _ = None

abbrev pub title_by : ProjectLexeme → Option State
title_by (Atom name) = Some (state.Brace name)
title_by _ = None

abbrev pub brace_by : List ℕ → ProjectLexeme → Option State
brace_by name OpenBrace = Some (state.Whole (said.Title name))
brace_by name _ = None

-- ---- the options

abbrev pub colon_by : State → ProjectLexeme → Option State
colon_by next Colon = Some next
colon_by next _ = None

-- each option once
abbrev pub infrastructure_option : options.SeenOptions → Option State
infrastructure_option seen = if seen.infrastructure then None else Some (state.InfrastructureColon seen.world)

abbrev pub environment_option : Bool → Option (List ℕ) → Option State
environment_option infrastructure None = Some (state.EnvironmentColon infrastructure)
environment_option infrastructure (Some file) = None

abbrev pub named_option : options.SeenOptions → List ℕ → Option State
named_option seen w =
    if bytes_eq w (codes "infrastructure") then infrastructure_option seen
    else (if bytes_eq w (codes "environment") then environment_option seen.infrastructure seen.world
    else (if bytes_eq w (codes "agents") then Some (state.AgentsColon seen.world) else None))

abbrev pub options_by : options.SeenOptions → ProjectLexeme → Option State
options_by seen (Atom w) = named_option seen w
options_by seen _ = None

abbrev pub infrastructure_by : Option (List ℕ) → ProjectLexeme → Option State
infrastructure_by world (Var w) =
    if bytes_eq w (codes "Centralised") then Some (state.SeenOptions (record { infrastructure = true; world = world })) else None
infrastructure_by world _ = None

abbrev pub with_world : Bool → List ℕ → State
with_world infrastructure name = state.SeenOptions (record { infrastructure = infrastructure; world = Some (env name) })

abbrev pub environment_by : Bool → ProjectLexeme → Option State
environment_by infrastructure (Atom name) = Some (with_world infrastructure name)
environment_by infrastructure (Var name) = Some (with_world infrastructure name)
environment_by infrastructure _ = None

-- ---- an entry

abbrev pub said_of : Before → AgentEntry → PieceMeaning
said_of (before.First world) entry = said.First world entry
said_of before.Next entry = said.Next entry

abbrev pub whole : Before → AgentEntry → Option State
whole b entry = Some (state.Whole (said_of b entry))

abbrev pub first_by : Option (List ℕ) → ProjectLexeme → Option State
first_by world (Atom name) = Some (state.Name (before.First world) name)
first_by world _ = None

abbrev pub later_by : ProjectLexeme → Option State
later_by (Atom name) = Some (state.Name before.Next name)
later_by CloseBrace = Some (state.Whole said.End)
later_by _ = None

abbrev pub file_by : Before → List ℕ → List ℕ → ProjectLexeme → Option State
file_by b name file Hash = Some (state.Count b name file)
file_by b name file Semicolon = whole b (record { name = name; file = file; count = None })
file_by b name file _ = None

abbrev pub name_by : Before → List ℕ → ProjectLexeme → Option State
name_by b name (Atom stem) = Some (state.Stem b name stem)
name_by b name (Str file) = Some (state.File b name file)
name_by b name Hash = Some (state.Count b name (asl name))
name_by b name Semicolon = whole b (record { name = name; file = asl name; count = None })
name_by b name _ = None

abbrev pub stem_by : Before → List ℕ → List ℕ → ProjectLexeme → Option State
stem_by b name stem Suffix = Some (state.File b name (asl stem))
stem_by b name stem _ = None

abbrev pub count_by : Before → List ℕ → List ℕ → ProjectLexeme → Option State
count_by b name file (Number n) = if n == 0 then None else Some (state.Semicolon b (record { name = name; file = file; count = Some n }))
count_by b name file _ = None

abbrev pub semicolon_by : Before → AgentEntry → ProjectLexeme → Option State
semicolon_by b entry Semicolon = whole b entry
semicolon_by b entry _ = None

-- ---- all words

-- the state behind one word, unless no reading goes on with it
unfoldable pub step : State → ProjectLexeme → Option State
step state.Start w = start_by w
step state.Title w = title_by w
step (state.Brace name) w = brace_by name w
step (state.SeenOptions seen) w = options_by seen w
step (state.InfrastructureColon world) w = colon_by (state.Infrastructure world) w
step (state.Infrastructure world) w = infrastructure_by world w
step (state.EnvironmentColon infrastructure) w = colon_by (state.Environment infrastructure) w
step (state.Environment infrastructure) w = environment_by infrastructure w
step (state.AgentsColon world) w = colon_by (state.First world) w
step (state.First world) w = first_by world w
step state.Later w = later_by w
step (state.Name b name) w = name_by b name w
step (state.Stem b name stem) w = stem_by b name stem w
step (state.File b name file) w = file_by b name file w
step (state.Count b name file) w = count_by b name file w
step (state.Semicolon b entry) w = semicolon_by b entry w
step (state.Whole meant) w = None

-- the state behind all words, or the words from the one on with which no reading goes on
unfoldable pub run : State → List ProjectLexeme → Result State (List ProjectLexeme)
run s [] = Ok s
run s (w ∷ ws) = option_map_or (λ next. run next ws) (step s w) (Err (w ∷ ws))
