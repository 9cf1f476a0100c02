use Rattle.std.proofs.Common.{sym}
use Rattle.mas_record_files.proofs.Crashes.{all_crashed, crash_image}
use Rattle.mas_record_files.proofs.memory.MemoryDisk.crash.Goals as goal

pub returns-clause-left : goal.returns-clause-left
returns-clause-left c =
    let d = c.args.self.now in
    all_crashed c.args.kept d.first d.changes d.files _ d.current (rw (sym c.as_slice.ensures, sym c.as_slice-first.ensures, sym c.as_slice-changes.ensures) c.in_ok-left.ensures)

pub returns-clause-image : goal.returns-clause-image
returns-clause-image c =
    let d = c.args.self.now in
    crash_image c.args.kept d.first d.changes d.files _ d.current (rw (sym c.as_slice.ensures, sym c.as_slice-first.ensures, sym c.as_slice-changes.ensures) c.in_ok-left.ensures)
