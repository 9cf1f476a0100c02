use Rattle.std.proofs.Common.{map, sym, ap, subst, ◌∙◌, arith}
use Rattle.std.proofs.lemmas.List.{take_all}
use Rattle.asl_index_tables.specs.Firsts.{first_print}
use Rattle.asl_index_tables.specs.Slots.{kept, packed}
use Rattle.asl_index.specs.Store.{AreFirsts}
use Rattle.asl_index.proofs.Passing.{firsts_packed}
use Rattle.asl_index.proofs.firsts.noted_again.Goals as goal

pub returns : goal.returns
returns c =
    let s = c.args.slots.now in
    let l = c.loop-k in
    let all = take_all l.k s (omega (arith, c.loop-k-test.false)) in
    subst (AreFirsts (packed s)) (sym (l.invariant ∙ ap (λ z. map first_print (kept z)) all)) (firsts_packed (kept s))
