use Rattle.std.proofs.Common.{◌++◌, ◌∷◌, [], length, Some, subst, sym, ap, ◌∙◌}
use Rattle.std.specs.List.{slice_get}
use Rattle.asl_index.specs.Store.{AreFirsts}
use Rattle.asl_index.proofs.Passing.{firsts_cut, firsts_more, first_behind}
use Rattle.asl_index.proofs.firsts.note_behind.Goals as goal

pub returns-in_err-push-clause-still : goal.returns-in_err-push-clause-still
returns-in_err-push-clause-still c =
    let s = c.args.slots.now in
    subst (AreFirsts s) (sym (c.in_err-push.ensures.err ∙ c.truncate.ensures)) (firsts_cut s c.args.firsts.now c.requires)

pub returns-clause-still : goal.returns-clause-still
returns-clause-still c =
    let s = c.args.slots.now in
    subst (AreFirsts s) (sym (c.in_ok-push.ensures.ok ∙ ap (λ z. z ++ c.first_print.result ∷ []) c.truncate.ensures))
    (firsts_more s c.args.firsts.now c.requires c.first_print.result)

pub returns-clause-behind : goal.returns-clause-behind
returns-clause-behind c =
    let s = c.args.slots.now in
    ap (λ z. slice_get z (length s)) (c.in_ok-push.ensures.ok ∙ ap (λ z. z ++ c.first_print.result ∷ []) c.truncate.ensures)
    ∙ first_behind s c.args.firsts.now c.requires c.first_print.result
    ∙ ap Some c.first_print.ensures
