use Rattle.std.proofs.Common.{List, slice_get, ap, ◌∙◌}
use Rattle.mas_mind.specs.declared.mind.Message.{Message}
use Rattle.mas_explore_space.proofs.boxes.keep_front.Goals as goal

pub returns-clause-front : goal.returns-clause-front
returns-clause-front g c = record {
  box = c.in_ok-messages.messages;
  box_at = c.in_ok-n.ensures.grown.grows.minds.boxes c.args.mail c.in_ok-messages.messages c.in_ok-messages.ensures;
  fronts = c.in_ok-front.front;
  front_at = c.in_ok-n.ensures.at;
  first = c.in_ok-front.ensures ∙ ap (λ (b : List Message). slice_get b 0) c.as_slice.ensures;
}
