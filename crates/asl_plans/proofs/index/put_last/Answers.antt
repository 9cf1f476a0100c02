use Rattle.std.proofs.Common.{◌≡◌, ◌-◌, suc, Some, length, get_or, arith}
use Rattle.std.specs.List.{slice_get}
use Rattle.std.proofs.lemmas.Option.{slice_get-get_or}
use Rattle.asl_plans.proofs.Filings.{put_behind, put_undone}
use Rattle.asl_plans.proofs.index.put_last.Goals as goal

pub returns-in-Ok-clause-ok : goal.returns-in-Ok-clause-ok
returns-in-Ok-clause-ok c =
    let s = c.args.entries.now in
    let k = length s - 1 in
    let e = get_or s k c.index-entries-last.result in
    let long : length s ≡ suc k = omega (arith, c.requires.some) in
    let at : slice_get s k ≡ Some e = slice_get-get_or s k c.index-entries-last.result (omega (arith, c.requires.some)) in
    put_behind s e k c.args.filed.now c.put.new.self c.args.keys.now c.put-2.new.self c.plan_key.result long at
    c.plan_key.ensures c.requires.before c.in_ok-put.ensures.ok c.in-Ok.ensures.ok

pub returns-in-Err-clause-err : goal.returns-in-Err-clause-err
returns-in-Err-clause-err c =
    let s = c.args.entries.now in
    let k = length s - 1 in
    let e = get_or s k c.index-entries-last.result in
    let long : length s ≡ suc k = omega (arith, c.requires.some) in
    put_undone s e k c.args.filed.now c.put.new.self c.take.new.self c.args.keys.now c.put-2.new.self long c.requires.before c.in_ok-put.ensures.ok
    c.take.ensures c.in-Err.ensures.err
