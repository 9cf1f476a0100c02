use Rattle.std.proofs.Common.{◌≡◌, IfOk, subst}
use Rattle.mas_world.specs.Worlds.{Used, segment, segment_acted}
use Rattle.mas_artifact.specs.States.{tally_facts}
use Rattle.mas_artifact.specs.Tables.{tally_table}
use Rattle.mas_artifact.proofs.Tallies.{tally_does}
use Rattle.mas_artifact.proofs.tally.TallyArtifact.operate.Goals as goal

pub returns-clause-acted : goal.returns-clause-acted
returns-clause-acted c =
    let agent = c.args._agent.now in
    let action = c.args.action.now in
    let P : Used → Type 0 = λ u. IfOk c.act.result (λ f. (f, segment tally_table (tally_facts c.act.new.count)) ≡ segment_acted (segment u.segment.acts u.segment.facts) agent action) in
    subst P c.self.view_is (tally_does c.self.inside.count c.act.new.count c.act.result agent action c.self.invariant c.requires c.act.ensures.acted)
