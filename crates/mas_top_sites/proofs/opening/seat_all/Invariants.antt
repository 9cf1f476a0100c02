use Rattle.std.proofs.Common.{◌≡◌, length}
use Rattle.mas_top_sites.specs.Opening.{at_one, at_two, seats}
use Rattle.mas_top_sites.proofs.opening.seat_all.Given as goal

abbrev pub invariant-loop-mind : goal.invariant-loop-mind
invariant-loop-mind g l =
    (l.agent ≡ length l.yielded)
    × ((l.seats.one ≡ seats (at_one l.first) l.names l.yielded) × (l.seats.two ≡ seats (at_two l.first) l.names l.yielded))
