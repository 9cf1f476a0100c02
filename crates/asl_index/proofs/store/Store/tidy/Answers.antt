use Rattle.std.proofs.Common.{ap, ◌∙◌}
use Rattle.asl_index_tables.specs.Slots.{kept}
use Rattle.asl_index_tables.proofs.Slots.{kept_some}
use Rattle.asl_index.proofs.store.Store.tidy.Goals as goal

pub returns-in-Ok-filed_again : goal.returns-in-Ok-filed_again
returns-in-Ok-filed_again c = ap kept c.pack.ensures ∙ kept_some (kept c.self.inside.slots) ∙ ap kept c.self.view_is
