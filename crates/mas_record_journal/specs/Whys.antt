-- The answers of a disk as answers of a journal.
use Rattle.mas_record_disk.specs.declared.disk.DiskFail.{DiskFail}
use Rattle.mas_record_disk.specs.declared.disk.DiskFail.TheVariants as fail
use Rattle.mas_record_journal.specs.declared.back.BackWhy.{BackWhy}
use Rattle.mas_record_journal.specs.declared.back.BackWhy.TheVariants as why

abbrev pub why_of : DiskFail → BackWhy
why_of fail.Memory = why.Memory
why_of fail.Failed = why.Failed
