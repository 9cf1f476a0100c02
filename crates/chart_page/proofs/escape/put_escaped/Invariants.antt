-- what stands for the bytes before is put
use Rattle.std.proofs.Common.{take}
use Rattle.kept_text.specs.Puts.{Puts}
use Rattle.chart_page.specs.Escape.{escaped_text}
use Rattle.chart_page.proofs.escape.put_escaped.Given as goal

abbrev pub invariant-loop-byte : goal.invariant-loop-byte
invariant-loop-byte l = Puts l.initial.out l.out (escaped_text (take l.byte-index l.text))
