use Rattle.std.proofs.Common.{ap, arith}
use Rattle.mas_io.specs.declared.calls.Calls.{Calls}
use Rattle.mas_record_files.proofs.Goes.{synced_looks_by, synced_by}
use Rattle.mas_record_files.proofs.memory.MemoryDiskDisk.sync.Goals as goal

pub returns-clause-looks : goal.returns-clause-looks
returns-clause-looks c =
    let e = ap (λ (k : Calls). k.faults) c.change.ensures.calls in
    let d = c.args.self.now in
    synced_looks_by d.first d.changes _ _ _ _ _ _ c.change.ensures.first c.change.ensures.picked c.requires c.in_ok-change.ensures.ok (omega (arith, e, c.call-2.ensures.later))

pub returns-clause-synced : goal.returns-clause-synced
returns-clause-synced c =
    let d = c.args.self.now in
    synced_by d.first d.changes _ _ _ _ d.calls.faults d.calls.faults c.change.ensures.first c.change.ensures.picked c.requires c.in_ok-change.ensures.ok
