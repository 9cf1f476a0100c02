use Rattle.std.proofs.Common.{sym, subst}
use Rattle.mas_world.specs.Facts.{AreFacts}
use Rattle.mas_world.proofs.Sound.{none_are}
use Rattle.mas_explore_files.proofs.worlds.fresh_world.Goals as goal

pub open_world-requires-in-None-clause-facts : goal.open_world-requires-in-None-clause-facts
open_world-requires-in-None-clause-facts g c = subst (λ t. AreFacts t.facts) (sym c.in_ok-empty_text-in-None.ensures) none_are
