use Rattle.std.proofs.Common.{◌≡◌, length}
use Rattle.std.specs.List.{list_any}
use Rattle.env_file.specs.Statements.{is_variable}
use Rattle.env_file.proofs.marks.has_variable.Given as goal

abbrev pub invariant-tokens : goal.invariant-tokens
invariant-tokens l = list_any is_variable l.rest ≡ list_any is_variable l.all

abbrev pub decreases-tokens : goal.decreases-tokens
decreases-tokens l = length l.rest
