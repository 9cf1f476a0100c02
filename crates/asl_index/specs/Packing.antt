-- Slots that are filed and listed one after another, as they stand without the empty ones.
use Rattle.std.specs.Prelude.{◌≡◌, ℕ, List, map, take, Option, Some}
use Rattle.asl_term.specs.declared.syntax.LiteralOf.{LiteralOf}
use Rattle.asl_term.specs.declared.syntax.Term.{Term}
use Rattle.asl_index_tables.specs.declared.frames.Frames.{Frames}
use Rattle.asl_index_tables.specs.declared.keys.Keys.{Keys}
use Rattle.asl_index_tables.specs.Slots.{kept, rank}
use Rattle.asl_index.specs.Store.{AreFiled, AreListed}

-- the beliefs of the first k slots, of which there are n, are filed and listed
pub record AreFiledFirst (slots : List (Option (LiteralOf Term))) (k n : ℕ) (frames : Frames) (keys : Keys) : Type 0 where
  pub many : n ≡ rank slots k
  pub filed : AreFiled (map Some (take n (kept slots))) frames
  pub listed : AreListed (map Some (take n (kept slots))) keys
