-- Calls that fail by number: which are refused, and what is counted of them.
use Rattle.std.specs.Prelude.{ℕ, List, Bool, ◌==◌, if◌then◌else◌}
use Rattle.std.specs.List.{list_any}
use Rattle.mas_io.specs.Causes.{counted}
use Rattle.mas_io.specs.declared.calls.Calls.{Calls}

-- nothing was called yet
abbrev pub no_calls : List ℕ → Calls
no_calls fail = record { fail = fail; made = 0; faults = 0 }

-- the next call is refused: its number, from 1, stands in the list
abbrev pub is_refused : Calls → Bool
is_refused c = list_any (λ n. n == counted c.made) c.fail

-- one more call, which failed or not
abbrev pub called : Calls → Bool → Calls
called c failed = record { fail = c.fail; made = counted c.made; faults = if failed then counted c.faults else c.faults }
