-- What is told of a source, and of the project of a word.
use Rattle.std.proofs.Common.{ℕ, ◌≡◌, Bool, List, length, take, Option, None, Some, subst, arith}
use Rattle.std.specs.Prelude.{Result, Ok, Err, IfOk, MatchOption}
use Rattle.std.proofs.lemmas.List.{take_all}
use Rattle.asl_term.specs.declared.syntax.Filed.{Filed}
use Rattle.asl_cycle.specs.Agent.{agent_kind}
use Rattle.mas_world.specs.Worlds.{Used}
use Rattle.mas_report.specs.declared.options.Options.{Options}
use Rattle.mas_report.specs.declared.reading.Told.{Told}
use Rattle.mas_report.specs.Limits.{defaults}
use Rattle.mas_report.specs.Report.{IsAnyReport}
use Rattle.mas_top_files.specs.declared.sources.Source.{Source}
use Rattle.mas_top_files.specs.Known.{known}
use Rattle.mas_top_files.specs.Sources.{HasSource}
use Rattle.mas_top_opening.specs.Opening.{setup, opening}
use Rattle.mas_top_check.specs.Checking.{TellsRun}
use Rattle.mas_top_check.proofs.Verdicts.{not_own}
use Rattle.look_run.specs.Before.{AreBefore}
use Rattle.look_mind.specs.declared.fallen.RunFalls.{RunFalls}
use Rattle.look_mind.specs.Fallen.{IsFallen, IsFallenIn}
use Rattle.look_mind.specs.Stacks.{IsTold, IsToldIn}
use Rattle.look_mind.specs.Texts.{agent_texts}

-- of the first t turns of the run that the bytes tell these texts are seen, or the bytes are not its report
abbrev pub IsSeen : List Used → Source → List ℕ → Told → List Bool → ℕ → Option (List (List (List ℕ))) → Type 0
IsSeen objects source bytes told marks t r =
    let p = opening (setup told.options objects) source in
    MatchOption r (IsAnyReport agent_kind told.version told.options p bytes → ⊥)
    (λ cs. IsAnyReport agent_kind told.version told.options p bytes × AreBefore agent_kind agent_texts p (take t told.turns) marks cs)

owned_by : (objects : List Used) (source : Source) (bytes : List ℕ) (told : Told) (marks : List Bool) (t : ℕ) (r : Option (List (List (List ℕ)))) →
    TellsRun source bytes told → t ≡ length told.turns → IsSeen objects source bytes told marks t r → IsTold objects source bytes marks r
owned_by objects source bytes told marks t None k e h = not_own objects source bytes told k.shows h
owned_by objects source bytes told marks t (Some cs) k e h =
    let P = λ (turns : List ℕ). AreBefore agent_kind agent_texts (opening (setup told.options objects) source) turns marks cs in
    record { own = record { told = told; shows = k.shows; allowed = k.allowed; report = h.0 }; texts = subst P (take_all t told.turns (omega (arith, e))) h.1 }

pub owned : {E : Type 0} (objects : List Used) (source : Source) (bytes : List ℕ) (told : Told) (marks : List Bool) (t : ℕ)
    (r : Result (Option (List (List (List ℕ)))) E) → TellsRun source bytes told → t ≡ length told.turns → IfOk r (IsSeen objects source bytes told marks t) →
    IfOk r (IsTold objects source bytes marks)
owned objects source bytes told marks t (Ok r) k e h = owned_by objects source bytes told marks t r k e h
owned objects source bytes told marks t (Err why) k e h = tt

pub fallen_in : (objects : List Used) (held : Option (List Filed)) (o : Options) (word bytes : List ℕ) (source : Source) (r : Option RunFalls) → o ≡ defaults →
    HasSource (known objects) o.cycles held word source → IsFallen objects source bytes r → IsFallenIn objects held word bytes r
fallen_in objects held o word bytes source r e h t =
    record { source = source; has = subst (λ (x : Options). HasSource (known objects) x.cycles held word source) e h; fallen = t }

pub told_in : (objects : List Used) (held : Option (List Filed)) (o : Options) (word bytes : List ℕ) (marks : List Bool) (source : Source)
    (r : Option (List (List (List ℕ)))) → o ≡ defaults →
    HasSource (known objects) o.cycles held word source → IsTold objects source bytes marks r → IsToldIn objects held word bytes marks r
told_in objects held o word bytes marks source r e h t =
    record { source = source; has = subst (λ (x : Options). HasSource (known objects) x.cycles held word source) e h; told_is = t }
