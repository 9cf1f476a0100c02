use Rattle.std.proofs.Common.{◌≡◌, take}
use Rattle.mas_record_files.proofs.memory.copy_files.Given as goal

abbrev pub invariant-files : goal.invariant-files
invariant-files l = take l.file-index l.files ≡ l.copy
