-- what is left has the same behind the sign as the whole
use Rattle.std.proofs.Common.{◌≡◌, drop}
use Rattle.chart_page.specs.Shown.{behind}
use Rattle.chart_page.proofs.numbers.cut_at.Given as goal

abbrev pub invariant-loop-at : goal.invariant-loop-at
invariant-loop-at l = behind l.sign (drop l.at l.text) ≡ behind l.sign l.text
