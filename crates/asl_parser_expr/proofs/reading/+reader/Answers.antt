use Rattle.std.proofs.Common.{◌≡◌, ◌<◌, ◌-◌, suc, length, Some, None, rules, arith}
use Rattle.asl_parser_tree.specs.declared.leaves.OperatorLevel.TheVariants as levels
use Rattle.asl_parser_tree.specs.declared.leaves.BracketShape.TheVariants as shape
use Rattle.asl_parser_tree.specs.Holding.{limited}
use Rattle.asl_parser_tree.specs.Leaves.{after_comma, after_open, after_close, joint_at}
use Rattle.asl_parser_expr.specs.Reading.{step_by, items_by, level_by, operand_by, inside}
use Rattle.asl_parser_expr.proofs.Loop.{goes_on, fails, ends, joint_shorter, comma_shorter}
use Rattle.asl_parser_expr.proofs.Items.{items_stop, items_more, items_end}
use Rattle.asl_parser_expr.proofs.Sound.{step_shorter, item_shorter}
use Rattle.asl_parser_expr.proofs.Deeper.{bracketed_is, filled_zero, filled_is}
use Rattle.asl_parser_expr.proofs.reading.+reader.Goals as goal

pub bracketed-returns : goal.bracketed-returns
bracketed-returns t c =
    let some : 0 < c.args.depth = search rules in
    let opened : after_open shape.Round c.args.tokens.now ≡ Some c.in-Some.rest.now = search rules in
    let read : level_by limited (inside limited (c.args.depth - 1)) levels.Or c.in-Some.rest.now ≡ Some (c.in-Some-2.m, c.in-Some-2.rest.now) = search rules in
    let closed : after_close shape.Round c.in-Some-2.rest.now ≡ Some c.in-Some-after_close.rest.now = search rules in
    let deeper : c.args.depth ≡ suc (c.args.depth - 1) = omega (arith, some) in
    bracketed_is limited c.args.depth (c.args.depth - 1) c.args.tokens.now _ _ _ _ deeper opened read closed

pub filled-returns-then-depth-eq0 : goal.filled-returns-then-depth-eq0
filled-returns-then-depth-eq0 t c =
    let none : c.args.depth ≡ 0 = search rules in
    filled_zero limited c.args.depth c.args.level c.args.shape c.args.tokens.now none

pub filled-returns : goal.filled-returns
filled-returns t c =
    let some : 0 < c.args.depth = search rules in
    let read : items_by (level_by limited (inside limited (c.args.depth - 1)) c.args.level) (length c.args.tokens.now) c.args.tokens.now ≡ Some (c.in-Some.all.items, c.in-Some.rest.now) = search rules in
    let closed : after_close c.args.shape c.in-Some.rest.now ≡ Some c.in-Some-after_close.rest.now = search rules in
    let deeper : c.args.depth ≡ suc (c.args.depth - 1) = omega (arith, some) in
    filled_is limited c.args.depth (c.args.depth - 1) c.args.level c.args.shape c.args.tokens.now _ _ _ deeper read closed

pub chain-returns-in_default-2 : goal.chain-returns-in_default-2
chain-returns-in_default-2 t c =
    let joint : joint_at c.args.level c.steps.rest.now ≡ Some (c.in-Some-joint_at.joint, c.in-Some-joint_at.after.now) = search rules in
    let stopped : step_by limited (operand_by limited (inside limited c.args.depth) c.args.level) c.steps.left (c.in-Some-joint_at.joint, c.in-Some-joint_at.after.now) ≡ None = search rules in
    fails limited (operand_by limited (inside limited c.args.depth) c.args.level) c.args.level c.steps.left c.steps.rest.now _ _ _ joint stopped c.steps.invariant

pub chain-steps-preserved : goal.chain-steps-preserved
chain-steps-preserved t c =
    let joint : joint_at c.args.level c.steps.rest.now ≡ Some (c.in-Some-joint_at.joint, c.in-Some-joint_at.after.now) = search rules in
    let went : step_by limited (operand_by limited (inside limited c.args.depth) c.args.level) c.steps.left (c.in-Some-joint_at.joint, c.in-Some-joint_at.after.now) ≡ Some (c.in-Some-2.m, c.in-Some-2.behind.now) = search rules in
    let less : length c.in-Some-2.behind.now < length c.steps.rest.now = omega (arith, joint_shorter _ _ _ _ joint, step_shorter limited _ _ _ _ _ _ _ went) in
    goes_on limited (operand_by limited (inside limited c.args.depth) c.args.level) c.args.level c.steps.left c.steps.rest.now _ _ _ _ _ joint went less c.steps.invariant

pub chain-returns : goal.chain-returns
chain-returns t c =
    let stopped : joint_at c.args.level c.steps.rest.now ≡ None = search rules in
    ends limited (operand_by limited (inside limited c.args.depth) c.args.level) c.args.level c.steps.left c.steps.rest.now _ stopped c.steps.invariant

pub items-returns-in_default : goal.items-returns-in_default
items-returns-in_default t c =
    let none : level_by limited (inside limited c.args.depth) c.args.level c.items.rest.now ≡ None = search rules in
    items_stop (level_by limited (inside limited c.args.depth) c.args.level) c.items.all.items c.items.rest.now _ c.items.invariant none

pub items-returns-in_default-after_comma : goal.items-returns-in_default-after_comma
items-returns-in_default-after_comma t c =
    let read : level_by limited (inside limited c.args.depth) c.args.level c.items.rest.now ≡ Some (c.in-Some.m, c.in-Some.after.now) = search rules in
    let none : after_comma c.in-Some.after.now ≡ None = search rules in
    rw c.in_ok-keep.ensures (items_end (level_by limited (inside limited c.args.depth) c.args.level) c.items.all.items c.items.rest.now _ _ _ c.items.invariant read (item_shorter limited _ _ _ _ _ read) none)

pub items-items-smaller : goal.items-items-smaller
items-items-smaller t c =
    let read : level_by limited (inside limited c.args.depth) c.args.level c.items.rest.now ≡ Some (c.in-Some.m, c.in-Some.after.now) = search rules in
    let next : after_comma c.in-Some.after.now ≡ Some c.in-Some-after_comma.next.now = search rules in
    omega (arith, item_shorter limited _ _ _ _ _ read, comma_shorter _ _ next)

pub items-items-preserved : goal.items-items-preserved
items-items-preserved t c =
    let read : level_by limited (inside limited c.args.depth) c.args.level c.items.rest.now ≡ Some (c.in-Some.m, c.in-Some.after.now) = search rules in
    let next : after_comma c.in-Some.after.now ≡ Some c.in-Some-after_comma.next.now = search rules in
    let less : length c.in-Some-after_comma.next.now < length c.items.rest.now = omega (arith, item_shorter limited _ _ _ _ _ read, comma_shorter _ _ next) in
    rw c.in_ok-keep.ensures (items_more (level_by limited (inside limited c.args.depth) c.args.level) c.items.all.items c.items.rest.now _ _ _ _ c.items.invariant read less next)
