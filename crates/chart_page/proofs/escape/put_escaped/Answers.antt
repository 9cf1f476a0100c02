use Rattle.std.proofs.Common.{arith}
use Rattle.kept_text.proofs.Putting.{puts_nothing, puts_step, puts_all}
use Rattle.chart_page.specs.Escape.{escaped}
use Rattle.chart_page.proofs.escape.put_escaped.Goals as goal

pub loop-byte-init : goal.loop-byte-init
loop-byte-init c = puts_nothing c.args.out.now

pub loop-byte-preserved : goal.loop-byte-preserved
loop-byte-preserved c =
    puts_step escaped c.args.text.now c.args.out.now c.loop-byte.out c.put_byte.new.out c.loop-byte.byte-index 0 (omega arith) c.loop-byte.invariant c.put_byte.ensures

pub returns : goal.returns
returns c = puts_all escaped c.args.text.now c.args.out.now c.loop-byte.out c.loop-byte.byte-index (omega arith) c.loop-byte.invariant
