use Rattle.std.proofs.Common.{◌≡◌, None, take, length}
use Rattle.mas_record_files.specs.Memory.{held}
use Rattle.mas_record_files.proofs.files.set_file.Given as goal

abbrev pub invariant-files : goal.invariant-files
invariant-files l = record {
  same : l.files ≡ l.fn.files;
  count : l.count ≡ length l.fn.files;
  none : held (take l.i l.fn.files) l.name ≡ None;
}
