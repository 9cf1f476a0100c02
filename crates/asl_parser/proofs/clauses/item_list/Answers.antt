use Rattle.std.proofs.Common.{◌≡◌, ◌<◌, length, Some, None, rules, arith}
use Rattle.asl_parser_tree.specs.Holding.{limited}
use Rattle.asl_parser.specs.Holding.{put_item}
use Rattle.asl_parser.specs.Speaking.{item_by, after_semicolon}
use Rattle.asl_parser.proofs.Body.{items_stop, items_more, items_end, item_shorter, semicolon_shorter}
use Rattle.asl_parser.proofs.clauses.item_list.Goals as goal

pub returns-in_default : goal.returns-in_default
returns-in_default c =
    let none : item_by limited c.args.depth c.items.rest.now ≡ None = search rules in
    items_stop (item_by limited c.args.depth) c.items.all c.items.rest.now _ c.items.invariant none

pub returns-in_default-after_semicolon : goal.returns-in_default-after_semicolon
returns-in_default-after_semicolon c =
    let read : item_by limited c.args.depth c.items.rest.now ≡ Some (c.in-Some.f, c.in-Some.after.now) = search rules in
    let none : after_semicolon c.in-Some.after.now ≡ None = search rules in
    let put : c.in_ok-all.all ≡ put_item c.items.all c.in-Some.f = search rules in
    rw put (items_end (item_by limited c.args.depth) c.items.all c.items.rest.now _ _ _ c.items.invariant read (item_shorter _ _ _ _ read) none)

pub items-preserved : goal.items-preserved
items-preserved c =
    let read : item_by limited c.args.depth c.items.rest.now ≡ Some (c.in-Some.f, c.in-Some.after.now) = search rules in
    let next : after_semicolon c.in-Some.after.now ≡ Some c.in-Some-after_semicolon.next.now = search rules in
    let less : length c.in-Some-after_semicolon.next.now < length c.items.rest.now = omega (arith, item_shorter _ _ _ _ read, semicolon_shorter _ _ next) in
    let put : c.in_ok-all.all ≡ put_item c.items.all c.in-Some.f = search rules in
    rw put (items_more (item_by limited c.args.depth) c.items.all c.items.rest.now _ _ _ _ c.items.invariant read less next)
