use Rattle.std.proofs.Common.{◌≡◌, IfOk, subst}
use Rattle.mas_world.specs.Worlds.{Used, segment, segment_acted}
use Rattle.mas_artifact.specs.States.{slot_facts}
use Rattle.mas_artifact.specs.Tables.{slot_table}
use Rattle.mas_artifact.proofs.Slots.{slot_does}
use Rattle.mas_artifact.proofs.slot.SlotArtifact.operate.Goals as goal

pub returns-clause-acted : goal.returns-clause-acted
returns-clause-acted c =
    let agent = c.args.agent.now in
    let action = c.args.action.now in
    let P : Used → Type 0 = λ u. IfOk c.act.result (λ f. (f, segment slot_table (slot_facts c.act.new.holder)) ≡ segment_acted (segment u.segment.acts u.segment.facts) agent action) in
    subst P c.self.view_is (slot_does c.self.inside.holder c.act.new.holder c.act.result agent action c.act.ensures.acted)
