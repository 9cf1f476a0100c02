use Rattle.std.proofs.Common.{sym}
use Rattle.asl_index.proofs.Filing.{filed_taken, listed_taken}
use Rattle.asl_index.proofs.store.unfile.Goals as goal

pub returns-clause-filed : goal.returns-clause-filed
returns-clause-filed c =
    filed_taken c.args.slots.now c.args.k c.in-Some.b.now c.args.frames.now c.take.new.self c.requires.filed c.take.ensures (sym c.in-Some.ensures)

pub returns-clause-listed : goal.returns-clause-listed
returns-clause-listed c =
    listed_taken c.args.slots.now c.args.k c.in-Some.b.now c.args.keys.now c.take-in-Some.new.self c.literal_print.result c.literal_print.ensures c.requires.listed
    c.take-in-Some.ensures (sym c.in-Some.ensures)
