use Rattle.std.proofs.Common.{◌≡◌, ◌+◌, List, sym, subst, arith}
use Rattle.mas_pool_ready.specs.declared.queue.Pass.{Pass}
use Rattle.mas_pool_ready.specs.Passes.{Splitting, parts_of}
use Rattle.mas_pool_ready.proofs.Moves.{forks}
use Rattle.mas_pool_ready.proofs.Splits.{split_next, split_last}
use Rattle.mas_pool_ready.proofs.queue.Ready.split.Goals as goal

pub another-other-requires-clause-rule : goal.another-other-requires-clause-rule
another-other-requires-clause-rule g c = let i = c.loop-made.invariant in forks g.T.Numbered.number_of g.T.Numbered.became _ _ (let n = i.parts in omega arith)

pub loop-made-preserved : goal.loop-made-preserved
loop-made-preserved g c =
    let e = c.another-other.ensures in
    let r = c.in_ok-pass.ensures in
    subst (Splitting c.args.self.now c.args.ticket (c.loop-made.made + 1) c.another-other.new.pass) (sym c.in_ok-push.ensures.ok)
    (split_next _ _ _ _ _ _ _ _ c.in_ok-pass.pass (omega arith) c.loop-made.invariant e.queue.0 e.queue.1 e.rule.0 e.rule.1 r.ticket r.kept r.room c.requires.items)

pub returns-clause-parts : goal.returns-clause-parts
returns-clause-parts g c =
    subst (λ (l : List (Pass g.row.T.Denot)). parts_of l ≡ 64) (sym c.in_ok-push-2.ensures.ok)
    (split_last _ _ _ _ _ c.in_ok-pass-2.pass c.loop-made.invariant c.in_ok-pass-2.ensures.ticket)
