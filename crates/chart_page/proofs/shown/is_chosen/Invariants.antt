-- none of the names before is this one
use Rattle.std.proofs.Common.{◌≡◌, drop}
use Rattle.std.specs.List.{list_any}
use Rattle.std.specs.Str.{bytes_eq}
use Rattle.chart_page.proofs.shown.is_chosen.Given as goal

abbrev pub invariant-loop-chosen : goal.invariant-loop-chosen
invariant-loop-chosen l = list_any (λ n. bytes_eq n.now l.name) (drop l.chosen-index l.choice.names.now) ≡ list_any (λ n. bytes_eq n.now l.name) l.choice.names.now
