use Rattle.std.proofs.Common.{rules, ◌≡◌, [], ◌∷◌, ◌++◌, subst, sym, ap, ◌∙◌}
use Rattle.std.proofs.lemmas.Option.{slice_get_within}
use Rattle.std.proofs.lemmas.Result.{on_ok_weaker}
use Rattle.asl_index_tables.specs.Frames.{ArePut}
use Rattle.asl_index_tables.proofs.Groups.{group_here, put_here, put_last}
use Rattle.asl_index_tables.proofs.frames.put_in.Goals as goal

pub put_at-requires : goal.put_at-requires
put_at-requires c =
    let p = group_here c.in-Some.k c.args.neg c.args.count c.args.groups.now (search rules) in
    slice_get_within c.args.groups.now c.in-Some.k p.here p.at

pub returns-in-Some-clause-ok : goal.returns-in-Some-clause-ok
returns-in-Some-clause-ok c =
    let p = group_here c.in-Some.k c.args.neg c.args.count c.args.groups.now (search rules) in
    on_ok_weaker c.put_at.result
    (λ f. put_here c.args.neg c.args.count c.args.place c.args.groups.now c.put_at.new.groups c.in-Some.k p (f p.here p.at))
    c.put_at.ensures.ok

pub returns-in_ok-push-in-None-clause-ok : goal.returns-in_ok-push-in-None-clause-ok
returns-in_ok-push-in-None-clause-ok c =
    let neg = c.args.neg in
    let count = c.args.count in
    let place = c.args.place in
    let old = c.args.groups.now in
    let one : c.push.new.self ≡ place ∷ [] = search rules in
    on_ok_weaker c.push-in-None.result
    (λ e. subst (ArePut neg count place old) (sym (e ∙ ap (λ z. old ++ record { neg = neg; count = count; places = z } ∷ []) one))
    (put_last neg count place old (search rules)))
    c.push-in-None.ensures.ok
