use Rattle.std.proofs.Common.{◌≡◌, drop}
use Rattle.mas_record_files.specs.Memory.{replay_all}
use Rattle.mas_record_files.proofs.replay.replay_all.Given as goal

abbrev pub invariant-changes : goal.invariant-changes
invariant-changes l = replay_all l.keep l.name l.r (drop l.change-index l.changes) ≡ replay_all l.keep l.name l.fn.start l.changes
