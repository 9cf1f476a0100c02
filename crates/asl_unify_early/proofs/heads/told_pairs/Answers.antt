use Rattle.std.proofs.Common.{rules, ◌≡◌, map, length, true, refl, add-one, arith}
use Rattle.std.proofs.lemmas.Option.{slice_get_read}
use Rattle.asl_unify.specs.Renamed.{renamed}
use Rattle.asl_unify_early.proofs.Telling.{reached_next, reached_end, get_map, drop_past}
use Rattle.asl_unify_early.proofs.heads.told_pairs.Goals as goal

pub loop-i-preserved : goal.loop-i-preserved
loop-i-preserved c =
    let s = c.args.s.now in
    let xs = c.args.xs.now in
    let ys = c.args.ys.now in
    let number = c.args.number in
    let i = c.loop-i.i in
    let x = c.index-xs-i.result in
    let y = c.index-ys-i.result in
    let told : c.in_ok-tell.field-0 ≡ true = search rules in
    let left = slice_get_read xs (length xs) i x refl (omega (arith, c.loop-i-test.true)) c.index-xs-i.is in
    let right = slice_get_read ys (length ys) i y refl (omega (arith, c.loop-i-test.true, c.requires.lengths)) c.index-ys-i.is in
    rw add-one (reached_next s xs (map (renamed number) ys) i x (renamed number y) c.loop-i.new c.tell.new.new c.loop-i.invariant left (get_map (renamed number) ys i y right) (c.in_ok-tell.ensures told))

pub returns-clause-value : goal.returns-clause-value
returns-clause-value c =
    let xs = c.args.xs.now in
    reached_end c.args.s.now xs (map (renamed c.args.number) c.args.ys.now) c.loop-i.i c.loop-i.new c.requires.sound c.loop-i.invariant
    (drop_past xs c.loop-i.i (omega (arith, c.loop-i-test.false)))
