use Rattle.std.proofs.Common.{◌≡◌, ◌++◌, drop}
use Rattle.std.specs.List.{flat_map}
use Rattle.mas_report.specs.Report.{fact_line}
use Rattle.mas_report.proofs.report.put_facts.Given as goal

abbrev pub invariant-loop-fact : goal.invariant-loop-fact
invariant-loop-fact l = l.out ++ flat_map fact_line (drop l.fact-index l.all) ≡ l.fn.out ++ flat_map fact_line l.all
