use Rattle.std.proofs.Common.{◌∙◌}
use Rattle.mas_sites_rounds.proofs.rounds.make_rounds.Goals as goal

pub round-requires-clause-agents : goal.round-requires-clause-agents
round-requires-clause-agents g c = c.requires.ways_one

pub round-requires-clause-may : goal.round-requires-clause-may
round-requires-clause-may g c = c.requires.one

pub round-requires-2-clause-agents : goal.round-requires-2-clause-agents
round-requires-2-clause-agents g c = c.in_ok-one.ensures.same ∙ c.requires.ways_two

pub round-requires-2-clause-may : goal.round-requires-2-clause-may
round-requires-2-clause-may g c = c.requires.two

pub returns : goal.returns
returns g c = record {
  between = _;
  first = c.in_ok-one.ensures.goes;
  second = c.in_ok-two.ensures.goes;
  number = c.in_ok-two.ensures.same ∙ c.in_ok-one.ensures.same;
}
