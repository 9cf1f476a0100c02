-- The texts agree before the place.
use Rattle.std.proofs.Common.{◌≡◌, take}
use Rattle.cases.proofs.comparing.first_place.Given as goal

abbrev pub invariant-bytes : goal.invariant-bytes
invariant-bytes l = take l.n l.wanted ≡ take l.n l.got
