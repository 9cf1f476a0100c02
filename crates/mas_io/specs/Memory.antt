-- A shelf and a sink in memory: what their calls do.
use Rattle.std.specs.Prelude.{ℕ, List, ◌++◌, ◌-◌, length, take, min, Bool, ◌==◌, ◌||◌, if◌then◌else◌}
use Rattle.asl_term.specs.Spare.{WithSpare}
use Rattle.mas_io.specs.Calls.{is_refused, called}
use Rattle.mas_io.specs.Shelf.{fetched}
use Rattle.mas_io.specs.declared.memory.MemoryShelf.{MemoryShelf}
use Rattle.mas_io.specs.declared.memory.MemorySink.{MemorySink}
use Rattle.mas_io.specs.declared.shelf.Fetched.{Fetched}
use Rattle.mas_io.specs.declared.shelf.Fetched.TheVariants as fetch
use Rattle.mas_io.specs.declared.sink.Put.{Put}
use Rattle.mas_io.specs.declared.sink.Put.TheVariants as put

-- what a fetch answers where there is memory
abbrev pub shelf_answer : MemoryShelf → List ℕ → ℕ → Fetched
shelf_answer s name most = if is_refused s.calls then fetch.Failed else fetched s.files name most

-- the shelf after a fetch that answered
abbrev pub shelf_after : MemoryShelf → MemoryShelf
shelf_after s = record { files = s.files; calls = called s.calls (is_refused s.calls) }

-- how many bytes of a piece a put can take
abbrev pub taken_len : MemorySink → List ℕ → ℕ
taken_len s piece = min (length piece) (min s.short s.room.spare)

-- a put fails by its number, or where it can take nothing
abbrev pub put_fails : MemorySink → List ℕ → Bool
put_fails s piece = is_refused s.calls || (taken_len s piece == 0)

abbrev pub put_answer : MemorySink → List ℕ → Put
put_answer s piece = if put_fails s piece then put.Failed else put.Took (taken_len s piece)

-- the bytes stand behind the others, in places that were free
abbrev pub filled : WithSpare ℕ → List ℕ → WithSpare ℕ
filled room bytes = record { list = room.list ++ bytes; spare = room.spare - length bytes }

-- the sink after a put
abbrev pub sink_after : MemorySink → List ℕ → MemorySink
sink_after s piece = record {
  room = if put_fails s piece then s.room else filled s.room (take (taken_len s piece) piece);
  short = s.short;
  calls = called s.calls (put_fails s piece);
}
