use Rattle.std.proofs.Common.{length, refl, sym, ◌∙◌, arith}
use Rattle.std.proofs.lemmas.Option.{slice_get_read}
use Rattle.asl_unify_early.proofs.clashes.has_clash.Goals as goal

pub returns-then-clash : goal.returns-then-clash
returns-then-clash c e =
    let xs = c.args.xs.now in
    let ys = c.args.ys.now in
    let i = c.loop-i.i in
    record {
      place = i;
      left = c.index-xs-i.result;
      right = c.index-ys-i.result;
      at_left = slice_get_read xs (length xs) i c.index-xs-i.result refl (omega (arith, c.loop-i-test.true)) c.index-xs-i.is;
      at_right = slice_get_read ys (length ys) i c.index-ys-i.result refl (omega (arith, c.loop-i-test.true, c.requires)) c.index-ys-i.is;
      clash = sym c.clash.ensures ∙ c.if-clash.true;
    }
