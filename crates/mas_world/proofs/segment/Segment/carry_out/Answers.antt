use Rattle.mas_world.proofs.Deeds.{left_are}
use Rattle.mas_world.proofs.segment.Segment.carry_out.Goals as goal

pub invariant_of-self : goal.invariant_of-self
invariant_of-self c =
    left_are c.carry_out.result c.args.deed c.self.inside.facts c.carry_out.new.facts c.carry_out.ensures.ok c.carry_out.ensures.err c.self.invariant c.requires
