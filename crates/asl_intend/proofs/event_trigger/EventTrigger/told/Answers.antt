use Rattle.std.proofs.Common.{◌∙◌, sym, ap}
use Rattle.asl_intend.specs.EventTriggers.{told, filled}
use Rattle.asl_intend.proofs.event_trigger.EventTrigger.told.Goals as goal

pub returns-in_ok-e-in-Kept : goal.returns-in_ok-e-in-Kept
returns-in_ok-e-in-Kept c =
    let same = c.in_ok-e-in-Kept.ensures c.in-Kept.log in
    same ∙ ap (told c.args.error) (sym (ap filled c.in-Kept.is) ∙ c.self.view_is)
