-- what is left, read from here, has the bad line of the whole
use Rattle.std.proofs.Common.{◌≡◌, ◌+◌, drop, map}
use Rattle.chart_page.specs.Form.{bad_from}
use Rattle.chart_page.specs.declared.form.ReadingStage.TheVariants as stage
use Rattle.chart_page.proofs.form.first_bad.Given as goal

abbrev pub invariant-lines : goal.invariant-lines
invariant-lines l =
    (bad_from l.number l.stage (map (λ x. x.now) (drop l.line-index l.lines)) ≡ bad_from 1 stage.Start (map (λ x. x.now) l.lines))
    × (l.number ≡ l.line-index + 1)
