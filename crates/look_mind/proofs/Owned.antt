-- What is told of a run, and whether bytes are its report.
use Rattle.std.proofs.Common.{ℕ, ◌≡◌, List, length, take, min, Option, refl, subst}
use Rattle.asl_term.specs.declared.syntax.Filed.{Filed}
use Rattle.asl_cycle.specs.Agent.{agent_kind}
use Rattle.mas_world.specs.Worlds.{Used}
use Rattle.mas_report.specs.declared.options.Options.{Options}
use Rattle.mas_report.specs.declared.reading.Told.{Told}
use Rattle.mas_report.specs.Limits.{defaults}
use Rattle.mas_report.specs.Report.{IsAnyReport}
use Rattle.mas_top_files.specs.declared.sources.Source.{Source}
use Rattle.mas_top_files.specs.Known.{known}
use Rattle.mas_top_files.specs.Sources.{HasSource}
use Rattle.mas_top_opening.specs.Opening.{setup, opening}
use Rattle.mas_top_check.specs.Checking.{TellsRun}
use Rattle.look_lines.specs.declared.change.ChangedLine.{ChangedLine}
use Rattle.look_mind.specs.Along.{AreChanges}
use Rattle.look_mind.specs.Own.{AreOwnChanges, IsTold, IsToldIn, most_turns}
use Rattle.look_mind.specs.Parts.{agent_texts}
use Rattle.look_mind.specs.declared.changes.MindChanges.{MindChanges}

pub owned : (objects : List Used) (source : Source) (bytes : List ℕ) (told : Told) (t : ℕ) (cs : List (List ChangedLine)) → TellsRun source bytes told → t ≡ min most_turns (length told.turns) →
    IsAnyReport agent_kind told.version told.options (opening (setup told.options objects) source) bytes →
    AreChanges agent_kind agent_texts (opening (setup told.options objects) source) (take t told.turns) cs →
    AreOwnChanges objects source bytes (record { turns = told.turns; changes = cs })
owned objects source bytes told t cs k e report changes = record {
  own = record { told = told; shows = k.shows; allowed = k.allowed; report = report };
  turns = refl;
  changes = subst (λ n. AreChanges agent_kind agent_texts (opening (setup told.options objects) source) (take n told.turns) cs) e changes;
}

pub told_in : (objects : List Used) (held : Option (List Filed)) (o : Options) (word bytes : List ℕ) (source : Source) (r : Option MindChanges) → o ≡ defaults →
    HasSource (known objects) o.cycles held word source → IsTold objects source bytes r → IsToldIn objects held word bytes r
told_in objects held o word bytes source r e h t =
    record { source = source; has = subst (λ (x : Options). HasSource (known objects) x.cycles held word source) e h; told_is = t }
