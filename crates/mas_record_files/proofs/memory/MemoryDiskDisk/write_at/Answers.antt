use Rattle.std.proofs.Common.{ap, arith, refl, ◌∙◌, List, ℕ, ◌++◌, ◌∷◌, []}
use Rattle.mas_record_disk.specs.Calls.{name_or_none}
use Rattle.mas_io.specs.declared.calls.Calls.{Calls}
use Rattle.mas_record_files.specs.declared.change.FileChange.TheVariants.{Wrote}
use Rattle.mas_record_files.specs.Disks.{change_of}
use Rattle.mas_record_files.proofs.Goes.{wrote_by, wrote_reads_by, reads_there}
use Rattle.mas_record_files.proofs.memory.MemoryDiskDisk.write_at.Goals as goal

pub returns-clause-changes : goal.returns-clause-changes
returns-clause-changes c =
    let e = ap (λ (k : Calls). k.faults) c.change.ensures.calls in
    let d = c.args.self.now in
    let noted = c.in_ok-change.ensures.ok ∙ ap (λ (b : List ℕ). d.changes ++ (change_of (name_or_none d.picked) (Wrote c.args.at b)) ∷ []) c.in_ok-bytes.ensures in
    wrote_by d.first d.changes _ _ _ c.args.at c.args.bytes.now _ _ _ c.change.ensures.first c.change.ensures.picked c.requires.picked noted
    (omega (arith, e, c.call-2.ensures.later)) (c.requires.within refl)

pub returns-clause-reads : goal.returns-clause-reads
returns-clause-reads c =
    let d = c.args.self.now in
    let noted = c.in_ok-change.ensures.ok ∙ ap (λ (b : List ℕ). d.changes ++ (change_of (name_or_none d.picked) (Wrote c.args.at b)) ∷ []) c.in_ok-bytes.ensures in
    wrote_reads_by d.first d.changes _ _ _ c.args.at c.args.bytes.now _ d.calls.faults d.calls.faults c.change.ensures.first c.change.ensures.picked c.requires.picked noted
    (c.requires.within refl) (reads_there d.first d.changes d.picked d.files d.current d.there c.requires.picked)
