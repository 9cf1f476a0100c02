use Rattle.std.proofs.Common.{length, ap, arith}
use Rattle.std.specs.List.{filter}
use Rattle.asl_unify.specs.Compare.{same_frame}
use Rattle.asl_index_tables.specs.Slots.{kept}
use Rattle.asl_index.proofs.Filing.{count_filed}
use Rattle.asl_index.proofs.Heads.{few}
use Rattle.asl_index.proofs.store.Store.count.Goals as goal

pub returns-clause-count : goal.returns-clause-count
returns-clause-count c =
    let g = c.args.g.now in
    let f = c.self.inside in
    let all = count_filed g f.slots f.frames c.self.invariant.0 in
    let most = few (same_frame g) f.slots in
    let size = ap length c.as_slice.ensures in
    let whole = ap (λ s. length (filter (same_frame g) (kept s))) c.self.view_is in
    omega (arith, c.min.ensures, c.count.ensures, all, most, size, whole)
