use Rattle.std.proofs.Common.{Some, ap, ◌∙◌}
use Rattle.mas_explore_space.proofs.boxes.keep_with.Goals as goal

pub returns-clause-more : goal.returns-clause-more
returns-clause-more g c = record {
  box = c.in_ok-messages.messages;
  box_at = c.in_ok-n.ensures.grown.grows.minds.boxes c.args.mail c.in_ok-messages.messages c.in_ok-messages.ensures;
  more_at = c.in_ok-n.ensures.at ∙ ap Some c.in_ok-push.ensures.ok;
}
