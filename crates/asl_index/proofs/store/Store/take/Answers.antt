use Rattle.std.proofs.Common.{◌≡◌, true, None, subst, sym, ap, ◌∙◌}
use Rattle.std.specs.List.{slice_set}
use Rattle.std.specs.Option.{is_some}
use Rattle.asl_index_tables.specs.Slots.{at_slot}
use Rattle.asl_index.specs.Noted.{AreNoted}
use Rattle.asl_index.specs.Store.{AreFiled, AreListed, AreFirsts}
use Rattle.asl_index.proofs.Passing.{firsts_cleared}
use Rattle.asl_index.proofs.Perceiving.{noted_cleared}
use Rattle.asl_index.proofs.store.Store.take.Goals as goal

pub invariant_of-self : goal.invariant_of-self
invariant_of-self c =
    let f = c.self.inside in
    let s = f.slots in
    let k = c.args.k in
    let left = c.take-2.ensures.after in
    let some : is_some (at_slot s k) ≡ true = ap (λ z. is_some (at_slot z k)) c.self.view_is ∙ c.requires in
    let is : slice_set c.as_slice-2.result.now k None ≡ slice_set s k c.take-2.new.self = ap (λ z. slice_set z k None) c.as_slice-2.ensures ∙ ap (slice_set s k) (sym left) in (
      subst (λ z. AreFiled z c.unfile.new.frames) is c.unfile.ensures.filed,
      (
        subst (λ z. AreListed z c.unfile.new.keys) is c.unfile.ensures.listed,
        (
          subst (λ o. AreNoted (slice_set s k o) c.unless.result) (sym left)
              (noted_cleared s f.noted c.take.result c.unless.result c.may_be_perceived-changed.result c.take.ensures.value c.self.invariant.1.1.0 c.unless.ensures
              c.as_slice.result.now k c.as_slice.ensures some c.may_be_perceived-changed.ensures),
          subst (λ o. AreFirsts (slice_set s k o) f.firsts) (sym left) (firsts_cleared s f.firsts k c.self.invariant.1.1.1),
        ),
      ),
    )
