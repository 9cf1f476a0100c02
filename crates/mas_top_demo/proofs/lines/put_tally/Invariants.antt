use Rattle.std.proofs.Common.{◌≡◌, drop}
use Rattle.mas_top_demo.specs.Lines.{tally_text}
use Rattle.mas_top_demo.proofs.lines.put_tally.Given as goal

abbrev pub invariant-facts : goal.invariant-facts
invariant-facts l = record {
  out : l.out ≡ l.fn.out;
  same : tally_text (drop l.fact-index l.all) ≡ tally_text l.all;
}
