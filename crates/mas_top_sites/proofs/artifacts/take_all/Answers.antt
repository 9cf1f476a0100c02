use Rattle.std.proofs.Common.{◌≤◌, subst}
use Rattle.mas_top_sites.proofs.Taking.{left_first, left_next, left_last}
use Rattle.mas_top_sites.proofs.artifacts.take_all.Goals as goal

pub loop-k-init : goal.loop-k-init
loop-k-init g c = left_first _ _ _ c.new-used.ensures

pub loop-k-preserved : goal.loop-k-preserved
loop-k-preserved g c =
    left_next _ _ _ _ _ _ _ _ c.len-k-end.ensures.distinct c.in-Some.ensures c.loop-k.invariant c.in_ok-take_one.ensures.left c.in_ok-take_one.ensures.used

pub returns-clause-used : goal.returns-clause-used
returns-clause-used g c =
    let h = c.loop-k-test.false in
    (left_last _ _ _ _ _ (subst (λ n. n ≤ c.loop-k.k) c.len-k-end.ensures.number h) c.loop-k.invariant).0

pub returns-clause-left : goal.returns-clause-left
returns-clause-left g c =
    let h = c.loop-k-test.false in
    (left_last _ _ _ _ _ (subst (λ n. n ≤ c.loop-k.k) c.len-k-end.ensures.number h) c.loop-k.invariant).1
