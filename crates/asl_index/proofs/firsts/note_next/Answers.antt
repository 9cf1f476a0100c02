use Rattle.std.proofs.Common.{sym, ap, ◌∙◌}
use Rattle.std.specs.Option.{option_copied}
use Rattle.asl_index.proofs.Passing.{firsts_next, firsts_still}
use Rattle.asl_index.proofs.firsts.note_next.Goals as goal

pub returns-in_ok-push-in-Some : goal.returns-in_ok-push-in-Some
returns-in_ok-push-in-Some c =
    firsts_next c.args.slots.now c.args.k c.args.firsts.now c.requires c.in-Some.b.now c.push.new.self c.first_print.result
    (sym c.held.ensures ∙ ap option_copied c.in-Some.is) c.first_print.ensures c.in_ok-push-in-Some.ensures.ok

pub returns-in-None : goal.returns-in-None
returns-in-None c = firsts_still c.args.slots.now c.args.k c.args.firsts.now c.requires (sym c.held.ensures ∙ ap option_copied c.in-None.is)
