use Rattle.std.proofs.Common.{take}
use Rattle.mas_record_files.specs.Memory.{AreCrashed}
use Rattle.mas_record_files.proofs.replay.crash_all.Given as goal

abbrev pub invariant-files : goal.invariant-files
invariant-files l = AreCrashed l.keep l.first l.changes (take l.file-index l.files) l.left
