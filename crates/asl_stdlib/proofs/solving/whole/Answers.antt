use Rattle.asl_stdlib.proofs.Behind.{whole_more, next_sound}
use Rattle.asl_stdlib.proofs.solving.whole.Goals as goal

pub extended-requires : goal.extended-requires
extended-requires c = (next_sound c.args.s.now c.loop-more.left c.pop.new.self c.in-Some.more c.in-Some.ensures.items c.loop-more.invariant.sound).0

pub loop-more-preserved : goal.loop-more-preserved
loop-more-preserved c =
    record {
      value = whole_more c.args.s.now c.args.found c.loop-more.out c.push.new.self c.loop-more.left c.pop.new.self c.in-Some.more c.in_ok-extended.field-0
          c.in-Some.ensures.items c.in_ok-extended.ensures c.in_ok-push.ensures.ok c.loop-more.invariant.value;
      sound = (next_sound c.args.s.now c.loop-more.left c.pop.new.self c.in-Some.more c.in-Some.ensures.items c.loop-more.invariant.sound).1;
    }
