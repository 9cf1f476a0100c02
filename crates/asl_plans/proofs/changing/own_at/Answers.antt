use Rattle.std.proofs.Common.{refl}
use Rattle.asl_plans.proofs.Changes.{own_new, own_ok, own_err}
use Rattle.asl_plans.proofs.changing.own_at.Goals as goal

pub returns-clause-new : goal.returns-clause-new
returns-clause-new c =
    own_new c.put_owner.result c.args.owner c.args.k c.args.entries.now c.at_mut.result.now c.at_mut.ensures.value c.put_owner.ensures.new

pub returns-clause-ok : goal.returns-clause-ok
returns-clause-ok c =
    own_ok c.put_owner.result c.args.owner c.args.k c.args.entries.now _ c.at_mut.result.now c.put_owner.new.e c.at_mut.ensures.value refl
    c.put_owner.ensures.ok

pub returns-clause-err : goal.returns-clause-err
returns-clause-err c =
    own_err c.put_owner.result c.args.k c.args.entries.now _ c.at_mut.result.now c.put_owner.new.e c.at_mut.ensures.value refl c.put_owner.ensures.err
