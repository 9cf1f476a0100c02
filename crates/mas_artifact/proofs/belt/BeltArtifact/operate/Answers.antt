use Rattle.std.proofs.Common.{◌≡◌, IfOk, subst}
use Rattle.mas_world.specs.Worlds.{Used, segment, segment_acted}
use Rattle.mas_artifact.specs.States.{belt_facts}
use Rattle.mas_artifact.specs.Tables.{belt_table}
use Rattle.mas_artifact.proofs.Belts.{belt_does, belt_stays}
use Rattle.mas_artifact.proofs.belt.BeltArtifact.operate.Goals as goal

pub returns-clause-acted : goal.returns-clause-acted
returns-clause-acted c =
    let agent = c.args._agent.now in
    let action = c.args.action.now in
    let P : Used → Type 0 = λ u. IfOk c.act.result (λ f. (f, segment belt_table (belt_facts c.act.new.items)) ≡ segment_acted (segment u.segment.acts u.segment.facts) agent action) in
    subst P c.self.view_is (belt_does c.self.inside.items c.act.new.items c.act.result agent action c.self.invariant c.requires c.act.ensures.acted)

pub invariant_of-self : goal.invariant_of-self
invariant_of-self c = belt_stays c.self.inside.items c.act.new.items c.act.result c.args.action.now c.self.invariant c.requires c.act.ensures.acted c.act.ensures.refused
