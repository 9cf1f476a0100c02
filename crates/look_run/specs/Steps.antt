-- Turns that go on from a play.
use Rattle.std.specs.Prelude.{ℕ, ◌≡◌, true, List, ◌++◌, Some}
use Rattle.mas_mind.specs.Minds.{Kind}
use Rattle.mas_core.specs.Fits.{Played}
use Rattle.mas_core.specs.Platform.{run, ended}
use Rattle.mas_report.specs.declared.options.Options.{Options}
use Rattle.mas_report.specs.Report.{report_text}

-- all numbers had their turn
pub record HasGone {V : Type 0} (k : Kind V) (before : Played V) (names : List ℕ) (after : Played V) : Type 0 where
  pub ran : run k before.platform names ≡ Some after.platform
  pub schedule : after.schedule ≡ before.schedule ++ names

-- the report of it, of this version, is these bytes
abbrev pub HasReport : {V : Type 0} → Kind V → ℕ → Options → List ℕ → Played V → Type 0
HasReport k version o bytes play = report_text k.lines version o play.platform.board play.platform.minds play.schedule ≡ bytes

-- every agent has left, and the report of it, of this version, is these bytes
pub record IsReported {V : Type 0} (k : Kind V) (version : ℕ) (o : Options) (bytes : List ℕ) (play : Played V) : Type 0 where
  pub ended : ended play.platform.board.seats ≡ true
  pub report : HasReport k version o bytes play

-- the numbers lead there
pub record LeadsToReport {V : Type 0} (k : Kind V) (version : ℕ) (o : Options) (bytes : List ℕ) (play : Played V) (names : List ℕ) : Type 0 where
  pub after : Played V
  pub gone : HasGone k play names after
  pub reported : IsReported k version o bytes after
