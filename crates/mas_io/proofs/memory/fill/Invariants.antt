use Rattle.std.proofs.Common.{◌≡◌, ◌+◌, ◌++◌, take}
use Rattle.mas_io.proofs.memory.fill.Given as goal

abbrev pub invariant-bytes : goal.invariant-bytes
invariant-bytes l = record {
  list : l.room.list ≡ l.initial.room.list ++ take l.byte-index l.bytes;
  spare : l.room.spare + l.byte-index ≡ l.initial.room.spare;
}
