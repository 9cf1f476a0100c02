use Rattle.std.proofs.Common.{rules}
use Rattle.std.proofs.lemmas.Option.{slice_get_within}
use Rattle.asl_index_tables.proofs.Groups.{group_here, taken_here, taken_none}
use Rattle.asl_index_tables.proofs.frames.take_from.Goals as goal

pub take_at-requires : goal.take_at-requires
take_at-requires c =
    let p = group_here c.in-Some.k c.args.neg c.args.count c.args.groups.now (search rules) in
    slice_get_within c.args.groups.now c.in-Some.k p.here p.at

pub returns-in-Some : goal.returns-in-Some
returns-in-Some c =
    let p = group_here c.in-Some.k c.args.neg c.args.count c.args.groups.now (search rules) in
    taken_here c.args.neg c.args.count c.args.place c.args.groups.now c.take_at.new.groups c.in-Some.k p (c.take_at.ensures p.here p.at)

pub returns-in-None : goal.returns-in-None
returns-in-None c = taken_none c.args.neg c.args.count c.args.place c.args.groups.now (search rules)
