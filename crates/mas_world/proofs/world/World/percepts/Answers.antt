use Rattle.std.proofs.Common.{◌++◌, ◌∙◌, ap}
use Rattle.mas_world.specs.Worlds.{used_facts}
use Rattle.mas_world.proofs.Sights.{seen_whole, seen_sound}
use Rattle.mas_world.proofs.world.World.percepts.Goals as goal

pub returns-clause-ok : goal.returns-clause-ok
returns-clause-ok g c =
    seen_whole c.self.inside.file c.self.inside.hidden c.self.inside.used c.args.self.now c.self.view_is c.args.agent.now
    c.facts.result.now c.observe.new.out c.as_slice.result.now c.in_ok-seen.seen c.see_all.new.seen c.facts.ensures.value c.in_ok-seen.ensures
    (c.in_ok-observe.ensures.ok ∙ ap (λ z. z ++ used_facts c.self.inside.used) c.new-others.ensures) c.as_slice.ensures c.in_ok-see_all.ensures.ok

pub returns-clause-sound : goal.returns-clause-sound
returns-clause-sound g c =
    seen_sound c.self.inside.file c.self.inside.hidden c.self.inside.used c.args.self.now c.self.view_is c.args.agent.now c.see_all.new.seen
    c.facts.ensures.sound c.in_ok-observe.ensures.sound
    (seen_whole c.self.inside.file c.self.inside.hidden c.self.inside.used c.args.self.now c.self.view_is c.args.agent.now
    c.facts.result.now c.observe.new.out c.as_slice.result.now c.in_ok-seen.seen c.see_all.new.seen c.facts.ensures.value c.in_ok-seen.ensures
    (c.in_ok-observe.ensures.ok ∙ ap (λ z. z ++ used_facts c.self.inside.used) c.new-others.ensures) c.as_slice.ensures c.in_ok-see_all.ensures.ok)
