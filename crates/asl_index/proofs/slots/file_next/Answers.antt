use Rattle.std.proofs.Common.{◌≤◌, sym, ap, ◌∙◌, arith}
use Rattle.std.specs.Option.{option_copied}
use Rattle.asl_index.proofs.Packs.{filed_fewer, filed_next, filed_same}
use Rattle.asl_index.proofs.slots.file_next.Goals as goal

pub returns-in_default : goal.returns-in_default
returns-in_default c =
    let a = c.args in
    filed_same a.slots.now a.k a.n a.frames.now a.keys.now c.requires.before (sym c.held.ensures ∙ ap option_copied c.in_default.is)

pub overflow_add-result : goal.overflow_add-result
overflow_add-result c =
    let a = c.args in
    let fewer : a.n ≤ a.k = filed_fewer a.slots.now a.k a.n a.frames.now a.keys.now c.requires.before in
    omega (arith, fewer, c.requires.few)

pub returns : goal.returns
returns c =
    let a = c.args in
    filed_next a.slots.now a.k a.n a.frames.now a.keys.now c.requires.before c.in-Some.b.now c.put.new.self c.put-2.new.self c.literal_print.result
    (sym c.in-Some.ensures) c.in_ok-put.ensures.ok c.in_ok-put-2.ensures.ok c.literal_print.ensures
