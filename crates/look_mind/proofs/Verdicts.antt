-- What is seen of a run, and whether bytes are its report.
use Rattle.std.proofs.Common.{ℕ, ◌≡◌, ◌≤◌, ◌<◌, ◌+◌, arith, length, Bool, true, false, List, [], ◌∷◌, if◌then◌else◌, Option, Some, None, subst}
use Rattle.std.specs.Option.{option_map}
use Rattle.std.specs.Str.{bytes_eq}
use Rattle.asl_term.specs.declared.syntax.Filed.{Filed}
use Rattle.asl_term.specs.Names.{place_of}
use Rattle.asl_cycle.specs.Agent.{agent_kind}
use Rattle.mas_world.specs.Worlds.{Used}
use Rattle.mas_report.specs.declared.options.Options.{Options}
use Rattle.mas_report.specs.Limits.{IsWithin, defaults}
use Rattle.mas_report.specs.Reading.{Shows}
use Rattle.mas_report.specs.Report.{IsAnyReport, Decided}
use Rattle.mas_report.specs.declared.reading.Told.{Told}
use Rattle.mas_top_files.specs.declared.sources.Source.{Source}
use Rattle.mas_top_files.specs.Known.{known}
use Rattle.mas_top_files.specs.Sources.{HasSource}
use Rattle.mas_top_opening.specs.Opening.{setup, opening}
use Rattle.mas_top_check.specs.Checking.{IsAllowed}
use Rattle.mas_top_check.proofs.Verdicts.{not_own}
use Rattle.look_run.specs.Looks.{IsView}
use Rattle.look_mind.specs.Looks.{IsLook, IsLookIn, IsShown, HasNoTurn, turn_of}
use Rattle.look_mind.specs.declared.look.Look.{Look}
use Rattle.look_mind.specs.Parts.{mind_parts}

-- ---- the number of an agent

one_more : (o : Option ℕ) (k : ℕ) → option_map (λ n. n + 1) o ≡ Some k → 1 ≤ k
one_more None k e = absurd cc
one_more (Some n) k e = let same : n + 1 ≡ k = cc in omega (arith, same)

first_or : (b : Bool) (o : Option ℕ) (k : ℕ) → (if b then Some 1 else option_map (λ n. n + 1) o) ≡ Some k → 1 ≤ k
first_or true o k e = let same : 1 ≡ k = cc in omega (arith, same)
first_or false o k e = one_more o k e

pub from_one : (names : List (List ℕ)) (name : List ℕ) (k : ℕ) → place_of names name ≡ Some k → 1 ≤ k
from_one [] name k e = absurd cc
from_one (first ∷ rest) name k e = first_or (bytes_eq name first) (place_of rest name) k e

-- ---- what is seen

pub allowed_within : (source : Source) (o : Options) → Decided (IsAllowed source o) true → IsWithin o
allowed_within source o a = a.within

pub no_turn : (bytes : List ℕ) (told : Told) (turn : Option ℕ) (turns : ℕ) → Shows bytes told → turns ≡ length told.turns → turns < turn_of turn turns → HasNoTurn bytes turn turns
no_turn bytes told turn turns s e l = record { told = told; shows = s; number = e; past = l }

module _ (objects : List Used) (source : Source) (bytes : List ℕ) (told : Told) (s : Shows bytes told) where
  pub shown : (name : List ℕ) (turn : Option ℕ) (a t : ℕ) (w : List ℕ) → Decided (IsAllowed source told.options) true → place_of source.names name ≡ Some a →
      t ≡ turn_of turn (length told.turns) → t ≤ length told.turns → IsAnyReport agent_kind told.version told.options (opening (setup told.options objects) source) bytes →
      IsView agent_kind mind_parts (opening (setup told.options objects) source) told.turns name a t w → IsShown objects source bytes name turn w
  shown name turn a t w allowed named e l report view = record {
    own = record { told = told; shows = s; allowed = allowed; report = report };
    number = a;
    named = named;
    within = subst (λ n. n ≤ length told.turns) e l;
    view = subst (λ n. IsView agent_kind mind_parts (opening (setup told.options objects) source) told.turns name a n w) e view;
  }

pub ruleset told = (from_one, no_turn, not_own, shown)

-- ---- the files

pub looked : (objects : List Used) (held : Option (List Filed)) (o : Options) (word bytes name : List ℕ) (turn : Option ℕ) (source : Source) (look : Look) → o ≡ defaults →
    HasSource (known objects) o.cycles held word source → IsLook objects source bytes name turn look → IsLookIn objects held word bytes name turn look
looked objects held o word bytes name turn source look e h l =
    record { source = source; has = subst (λ (x : Options). HasSource (known objects) x.cycles held word source) e h; look_is = l }
