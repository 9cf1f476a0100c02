use Rattle.asl_index.proofs.Kept.{kept_step}
use Rattle.asl_index.proofs.listed.copy_kept.Goals as goal

pub slots-preserved : goal.slots-preserved
slots-preserved c = kept_step c.args.store.now c.slots.k c.slots.all c.put_slot.new.all c.in_ok-put_slot.ensures c.slots.invariant
