use Rattle.std.proofs.Common.{List, drop, Some, ap, ◌∙◌}
use Rattle.mas_mind.specs.declared.mind.Message.{Message}
use Rattle.mas_explore_space.proofs.boxes.keep_rest.Goals as goal

pub returns-clause-rest : goal.returns-clause-rest
returns-clause-rest g c = record {
  box = c.in_ok-messages.messages;
  box_at = c.in_ok-n.ensures.grown.grows.minds.boxes c.args.mail c.in_ok-messages.messages c.in_ok-messages.ensures;
  rest_at = c.in_ok-n.ensures.at ∙ ap Some c.in_ok-rest.ensures ∙ ap (λ (b : List Message). Some (drop 1 b)) c.as_slice.ensures;
}
