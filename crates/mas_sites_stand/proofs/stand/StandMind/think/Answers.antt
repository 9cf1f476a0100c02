use Rattle.mas_sites_stand.proofs.Scripts.{one_less}
use Rattle.mas_sites_stand.proofs.stand.StandMind.think.Goals as goal

pub invariant_of-self : goal.invariant_of-self
invariant_of-self c = one_less _ _ _ _ _ c.self.invariant c.take_entry-sent.ensures.rest

pub invariant_of-self-in_err-keep : goal.invariant_of-self-in_err-keep
invariant_of-self-in_err-keep c = one_less _ _ _ _ _ c.self.invariant c.take_entry-sent.ensures.rest

pub invariant_of-self-in_err-outs : goal.invariant_of-self-in_err-outs
invariant_of-self-in_err-outs c = one_less _ _ _ _ _ c.self.invariant c.take_entry-sent.ensures.rest

pub invariant_of-self-in_err-append : goal.invariant_of-self-in_err-append
invariant_of-self-in_err-append c = one_less _ _ _ _ _ c.self.invariant c.take_entry-sent.ensures.rest

pub invariant_of-self-2 : goal.invariant_of-self-2
invariant_of-self-2 c = one_less _ _ _ _ _ c.self.invariant c.take_entry-sent.ensures.rest
