-- what was picked, and what is shown of the lines that are left, is what is shown of all
use Rattle.std.proofs.Common.{◌≡◌, ◌++◌, drop, map}
use Rattle.chart_page.specs.Shown.{shown}
use Rattle.chart_page.specs.declared.shown.Part.TheVariants as part
use Rattle.chart_page.proofs.shown.picked.Given as goal

abbrev pub invariant-loop-index : goal.invariant-loop-index
invariant-loop-index l =
    map (λ p. p.text.now) l.out.items ++ shown l.choice l.flags l.index l.part (map (λ x. x.now) (drop l.index l.lines))
    ≡ shown l.choice l.flags 0 part.Around (map (λ x. x.now) l.lines)
