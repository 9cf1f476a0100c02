use Rattle.std.proofs.Common.{◌≡◌, drop}
use Rattle.mas_record_files.specs.Memory.{held}
use Rattle.mas_record_files.proofs.files.find_file.Given as goal

abbrev pub invariant-files : goal.invariant-files
invariant-files l = held (drop l.file-index l.files) l.name ≡ held l.files l.name
