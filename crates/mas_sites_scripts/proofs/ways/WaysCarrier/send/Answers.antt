use Rattle.mas_sites_scripts.proofs.Given.{pushed, was_put}
use Rattle.mas_sites_scripts.proofs.ways.WaysCarrier.send.Goals as goal

pub invariant_of-self : goal.invariant_of-self
invariant_of-self c =
    pushed _ c.self.inside.boxes c.args.m.now _ _ _ (rw c.self.view_is c.requires.from) (rw c.self.view_is c.requires.to) c.in_ok-copied.ensures c.at_mut-way.ensures.value c.self.invariant
    c.push.ensures.ok c.push.ensures.err

pub returns-clause-put : goal.returns-clause-put
returns-clause-put c = rw (← c.self.view_is) (was_put _ c.self.inside.boxes c.args.m.now _ _ _ c.in_ok-copied.ensures c.at_mut-way.ensures.value c.push.ensures.ok)
