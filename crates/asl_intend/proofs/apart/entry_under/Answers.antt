use Rattle.std.proofs.Common.{rules, ◌≡◌, true}
use Rattle.asl_intend.proofs.Under.{is_under}
use Rattle.asl_intend.proofs.apart.entry_under.Goals as goal

pub returns-in_ok-entry-in-Some : goal.returns-in_ok-entry-in-Some
returns-in_ok-entry-in-Some c =
    let yes : c.in_ok-apart.apart ≡ true = search rules in
    is_under c.args.m.now c.args.e.now c.args.log.now _ _ _ _ c.since.ensures (c.in_ok-apart.ensures yes) c.in_ok-found.ensures c.in-Some.is
    c.in_ok-entry-in-Some.ensures
