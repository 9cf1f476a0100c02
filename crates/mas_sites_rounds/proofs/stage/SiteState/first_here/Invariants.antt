use Rattle.std.proofs.Common.{◌≡◌, ◌+◌, drop}
use Rattle.mas_core.specs.Platform.{first_here}
use Rattle.mas_sites_rounds.proofs.stage.SiteState.first_here.Given as goal

abbrev pub invariant-loop-i : goal.invariant-loop-i
invariant-loop-i g l = first_here (l.i + 1) (drop l.i l.self.platform.board.seats) ≡ first_here 1 l.self.platform.board.seats
