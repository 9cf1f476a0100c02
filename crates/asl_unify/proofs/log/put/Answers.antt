use Rattle.std.proofs.Common.{◌≡◌, length, refl, ap, arith, Some}
use Rattle.std.specs.List.{slice_get}
use Rattle.std.proofs.lemmas.Option.{slice_get_read}
use Rattle.asl_unify.proofs.Logged.{put_whole}
use Rattle.asl_unify.proofs.log.put.Goals as goal

pub returns : goal.returns
returns c =
    let log = c.args.all.now in
    let s = c.index-all-k.result in
    let is : slice_get log c.args.k ≡ Some s = slice_get_read log (length log) c.args.k s refl c.requires.within c.index-all-k.is in
    let pairs = ap length c.pairs-i-end.ensures.value in
    put_whole log c.args.k c.loop-i.i s c.loop-i.index is (omega (arith, pairs, c.loop-i-test.false, c.loop-i.auto.i-end)) c.loop-i.invariant
