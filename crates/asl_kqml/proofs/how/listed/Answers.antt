use Rattle.std.proofs.Common.{◌∙◌, ap, sym, subst, List, Some, None}
use Rattle.asl_term.specs.declared.syntax.Term.{Term}
use Rattle.asl_term.specs.declared.syntax.Term.TheVariants as term
use Rattle.asl_kqml.specs.Receive.{texts_of}
use Rattle.asl_kqml.specs.inner.Hows.{AreTexts}
use Rattle.asl_kqml.proofs.TextLists.{few_texts, many_texts}
use Rattle.asl_kqml.proofs.how.listed.Goals as goal

pub returns-in-Some : goal.returns-in-Some
returns-in-Some c =
    let texts = texts_of c.args.lib.now.plans c.args.choices.now in
    let are : AreTexts texts (Some c.in-Some.items) = subst (AreTexts texts) c.in-Some.is c.in_ok-items.ensures in
    c.list.ensures ∙ ap (λ (xs : List Term). term.List (record { items = xs; tail = None })) are.0 ∙ sym (few_texts texts are.1)

pub returns-in-None : goal.returns-in-None
returns-in-None c =
    let texts = texts_of c.args.lib.now.plans c.args.choices.now in
    c.list-in-None.ensures
    ∙ ap (λ (xs : List Term). term.List (record { items = xs; tail = None })) c.new.ensures
    ∙ sym (many_texts texts (subst (AreTexts texts) c.in-None.is c.in_ok-items.ensures))
