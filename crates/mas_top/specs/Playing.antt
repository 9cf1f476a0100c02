-- What a run along given numbers writes.
use Rattle.std.specs.Prelude.{ℕ, Bool, List}
use Rattle.asl_cycle.specs.Agent.{agent_kind}
use Rattle.mas_mind.specs.Minds.{Kind}
use Rattle.mas_core.specs.Platform.{Platform}
use Rattle.mas_report.specs.declared.options.Options.{Options}
use Rattle.mas_top_files.specs.declared.sources.Source.{Source}
use Rattle.mas_top.specs.Headline.{IsRunReport}
use Rattle.mas_top_opening.specs.Opening.{Setup, opening}
use Rattle.mas_top.specs.Runs.{IsFollowed}
use Rattle.mas_top.specs.Ways.{along, Leads}

-- w is the report of the run along these numbers
pub record IsReplayed {V : Type 0} (k : Kind V) (o : Options) (p : Platform V) (names : List ℕ) (spent : Bool) (w : List ℕ) : Type 0 where
  pub leads : Leads k p names
  pub report : IsRunReport k o p (along names) spent w

-- w is the report of the run of this source along the schedule in these bytes
pub record ForSchedule (u : Setup) (source : Source) (bytes : List ℕ) (spent : Bool) (w : List ℕ) : Type 0 where
  pub names : List ℕ
  pub followed : IsFollowed u source bytes names
  pub report : IsRunReport agent_kind u.options (opening u source) (along names) spent w
