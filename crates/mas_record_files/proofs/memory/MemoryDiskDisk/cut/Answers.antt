use Rattle.std.proofs.Common.{ap, arith}
use Rattle.mas_io.specs.declared.calls.Calls.{Calls}
use Rattle.mas_record_files.proofs.Goes.{cut_by, cut_reads_by, reads_there}
use Rattle.mas_record_files.proofs.memory.MemoryDiskDisk.cut.Goals as goal

pub returns-clause-changes : goal.returns-clause-changes
returns-clause-changes c =
    let e = ap (λ (k : Calls). k.faults) c.change.ensures.calls in
    let d = c.args.self.now in
    cut_by d.first d.changes _ _ _ c.args.len _ _ _ c.change.ensures.first c.change.ensures.picked c.requires c.in_ok-change.ensures.ok (omega (arith, e, c.call-2.ensures.later))

pub returns-clause-reads : goal.returns-clause-reads
returns-clause-reads c =
    let d = c.args.self.now in
    cut_reads_by d.first d.changes _ _ _ c.args.len _ d.calls.faults d.calls.faults c.change.ensures.first c.change.ensures.picked c.requires c.in_ok-change.ensures.ok
    (reads_there d.first d.changes d.picked d.files d.current d.there c.requires)
