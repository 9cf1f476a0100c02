-- How it stays true that a disk came from there.
use Rattle.std.proofs.Common.{◌≡◌, inl, subst, arith}
use Rattle.mas_record_disk.specs.Disk.{DiskState}
use Rattle.mas_record_disk.specs.PastDisk.{CameFrom}

-- at that moment
pub came_now : (s : DiskState) → CameFrom s s
came_now s = record { later = omega arith; since = λ t name c le left. inl left }
