use Rattle.mas_top.proofs.Repeats.{keep_laws}
use Rattle.mas_top.proofs.laws.reports_keep_laws.Goals as goal

pub returns : goal.returns
returns c = keep_laws c.never_far_ahead.ensures c.mail_in_order.ensures.opened c.quiet_is_sound.ensures.lasts
