use Rattle.std.proofs.Common.{◌++◌, ◌∙◌, ap, List, take, option_to_list, arith}
use Rattle.asl_plans.specs.declared.library.Choice.{Choice}
use Rattle.asl_term.specs.declared.syntax.Term.{Term}
use Rattle.asl_kqml.specs.Receive.{choice_text, texts_of, string_items}
use Rattle.asl_kqml.proofs.TextLists.{too_many}
use Rattle.asl_kqml.proofs.how.texts_of.Goals as goal

pub returns-then-len-gt-MOST : goal.returns-then-len-gt-MOST
returns-then-len-gt-MOST c =
    let lib = c.args.lib.now.plans in
    let text = λ (d : Choice). string_items (option_to_list (choice_text lib d)) in
    let found =
    c.in_ok-put_text.ensures
    ∙ ap (λ (xs : List Term). xs ++ text c.c-item.result) c.loop-c.invariant.texts
    ∙ ap (λ d. string_items (texts_of lib (take c.loop-c.c-index c.args.choices.now)) ++ text d) c.c-item.is in
    too_many lib c.args.choices.now c.loop-c.c-index c.c-item.result c.put_text.new.texts (omega arith) found (omega arith)
