-- A run of level rules with the options of a report.
use Rattle.std.proofs.Common.{ℕ, ◌≡◌, List, Option, None, Some, refl, sym, subst, ap, ◌∙◌}
use Rattle.std.specs.Prelude.{Result, Ok, Err, IfOk}
use Rattle.asl_cycle.specs.Agent.{agent_kind}
use Rattle.mas_world.specs.Worlds.{Used}
use Rattle.mas_core.specs.Platform.{run}
use Rattle.mas_report.specs.declared.options.Options.{Options}
use Rattle.mas_report.specs.declared.reading.Told.{Told}
use Rattle.mas_report.specs.Limits.{IsWithin}
use Rattle.mas_report.specs.Reading.{Shows}
use Rattle.mas_report.proofs.Shown.{one_shown}
use Rattle.mas_top_files.specs.declared.sources.Source.{Source}
use Rattle.mas_top_opening.specs.Opening.{setup, opening}
use Rattle.mas_top_check.specs.Checking.{IsAllowed, TellsRun, TellsNoRun}
use Rattle.look_lines.specs.declared.falls.FallLine.{FallLine}
use Rattle.look_run.specs.Falling.{HaveFallen}
use Rattle.look_mind.specs.declared.fallen.RunFalls.{RunFalls}
use Rattle.look_mind.specs.Fallen.{AreFalls, IsFallen, IsFallenBy, loud}

within : (o : Options) → IsWithin o → IsWithin (loud o)
within o h = record { cycles = h.cycles; lead = h.lead; depth = h.depth; tries = h.tries }

-- the level has no limit
pub loud_within : (source : Source) (o l : Options) → l ≡ loud o → IsAllowed source o → IsWithin l
loud_within source o l e h = subst IsWithin (sym e) (within o h.within)

module _ (objects : List Used) (source : Source) (told : Told) (l : Options) where
  pub no_falls : l ≡ loud told.options → run agent_kind (opening (setup l objects) source) told.turns ≡ None → IsFallenBy objects source told None
  no_falls e n = λ h. ap (λ (x : Options). run agent_kind (opening (setup x objects) source) told.turns) (sym e) ∙ n

  pub are_falls : (names : List (List ℕ)) (falls : List (List FallLine)) → IsAllowed source told.options → l ≡ loud told.options → names ≡ source.names →
      HaveFallen agent_kind (opening (setup l objects) source) told.turns falls →
      AreFalls objects source told (record { options = told.options; turns = told.turns; names = names; falls = falls })
  are_falls names falls allowed e n h = record {
    allowed = allowed;
    options = refl;
    turns = refl;
    names = n;
    falls = subst (λ (x : Options). HaveFallen agent_kind (opening (setup x objects) source) told.turns falls) e h;
  }

-- ---- what bytes tell

module _ (objects : List Used) (source : Source) (bytes : List ℕ) where
  pub none_shown : TellsNoRun source bytes → IsFallen objects source bytes None
  none_shown n = λ told s allowed. absurd (n told (record { shows = s; allowed = allowed }))

  shown_by : (told : Told) (r : Option RunFalls) → Shows bytes told → IsFallenBy objects source told r → IsFallen objects source bytes r
  shown_by told None s h = λ other t. subst (λ (x : Told). IsFallenBy objects source x None) (one_shown bytes told other s t) h
  shown_by told (Some r) s h = record { told = told; shows = s; falls = h }

  pub shown : {E : Type 0} (told : Told) (x : Result (Option RunFalls) E) → TellsRun source bytes told → IfOk x (IsFallenBy objects source told) →
      IfOk x (IsFallen objects source bytes)
  shown told (Ok r) k h = shown_by told r k.shows h
  shown told (Err why) k h = tt

  pub may_have : (told : Told) → TellsRun source bytes told → IsAllowed source told.options
  may_have told k = k.allowed
