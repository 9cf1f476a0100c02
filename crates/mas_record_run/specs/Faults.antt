-- The faults of a disk and of a journal as faults of a run.
use Rattle.mas_record_disk.specs.declared.disk.DiskFail.{DiskFail}
use Rattle.mas_record_disk.specs.declared.disk.DiskFail.TheVariants as fail
use Rattle.mas_record_journal.specs.declared.back.BackWhy.{BackWhy}
use Rattle.mas_record_journal.specs.declared.back.BackWhy.TheVariants as why
use Rattle.mas_record_run.specs.declared.fault.RecordFault.{RecordFault}
use Rattle.mas_record_run.specs.declared.fault.RecordFault.TheVariants.{Memory, Disk, NoHeader, TooLong}

abbrev pub of_fail : DiskFail → RecordFault
of_fail fail.Memory = Memory
of_fail fail.Failed = Disk

abbrev pub of_back : BackWhy → RecordFault
of_back why.Memory = Memory
of_back why.Failed = Disk
of_back why.NoHeader = NoHeader
of_back why.TooLong = TooLong
