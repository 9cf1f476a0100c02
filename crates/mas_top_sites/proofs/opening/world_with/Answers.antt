use Rattle.std.proofs.Common.{sym, subst}
use Rattle.mas_world.specs.Facts.{AreFacts}
use Rattle.mas_world.proofs.Sound.{none_are}
use Rattle.mas_top_sites.proofs.opening.world_with.Goals as goal

pub new-file-requires : goal.new-file-requires
new-file-requires g c = subst AreFacts (sym c.new-in-None-2.ensures) none_are
