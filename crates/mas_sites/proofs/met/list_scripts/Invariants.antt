use Rattle.std.proofs.Common.{◌≡◌, ◌++◌, length}
use Rattle.mas_sites.specs.Results.{scripts_from}
use Rattle.mas_sites.proofs.met.list_scripts.Given as goal

abbrev pub invariant-loop-script : goal.invariant-loop-script
invariant-loop-script g l = (l.agent ≡ length l.yielded) × (l.scripts ≡ l.fn.scripts ++ scripts_from l.site 1 l.minds l.yielded)
