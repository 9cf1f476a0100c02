use Rattle.std.proofs.Common.{ap, ◌∙◌, drop}
use Rattle.asl_unify.specs.Applied.{put_trigger}
use Rattle.asl_unify.specs.Turns.{value_in}
use Rattle.asl_intend.proofs.Told.{told_put}
use Rattle.asl_intend.proofs.event_trigger.told_entry.Goals as goal

pub returns : goal.returns
returns c log =
    let e = c.args.e in
    let h = value_in e.own (drop e.since log) in
    ap (put_trigger h) c.in_ok-trigger.ensures ∙ told_put h c.args.error e.trigger c.requires
