use Rattle.std.proofs.Common.{arith, ◌≡◌, ◌+◌, ◌-◌, ◌++◌, take, sym, ap, ◌∙◌}
use Rattle.mas_world.proofs.Cuts.{behind, back}
use Rattle.mas_world.proofs.facts.take_away.Goals as goal

pub loop-k-preserved : goal.loop-k-preserved
loop-k-preserved c =
    let before : (c.loop-k.k - 1) + 1 ≡ c.loop-k.k = omega arith in
    let is = c.loop-k.invariant.1 ∙ ap (λ k. take k c.args.facts.now ++ behind c.args.dels.now c.args.facts.now c.args.n c.requires k) (sym before) in
    (omega arith, back c.args.dels.now c.args.facts.now c.args.n c.requires (c.loop-k.k - 1) (omega arith) c.loop-k.facts is c.take_at.new.facts c.take_at.ensures)
