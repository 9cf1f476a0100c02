use Rattle.std.proofs.Common.{◌≡◌, ◌⊎◌, inl, inr, ◌∙◌, ap, sym, refl, List, None}
use Rattle.std.proofs.lemmas.Result.{IfOk-weaker}
use Rattle.asl_term.specs.declared.syntax.Term.{Term}
use Rattle.asl_term.specs.declared.syntax.Term.TheVariants as term
use Rattle.asl_exec_circumstance.specs.declared.rows.Row.TheVariants as row
use Rattle.asl_resolve.specs.declared.answers.Listed.{Listed}
use Rattle.asl_resolve.specs.declared.answers.Listed.TheVariants as listed
use Rattle.asl_unify.specs.Puts.{nil}
use Rattle.asl_kqml.specs.Receive as spec
use Rattle.asl_kqml.specs.inner.Asks as inner
use Rattle.asl_kqml.proofs.asks.ask_all.Goals as goal

pub returns-in-List : goal.returns-in-List
returns-in-List c =
    let a = c.args in
    IfOk-weaker c.replies.result _ _ (λ t h p. (ap (inner.ask_listed a.me a.m.now p) c.in-List.is ∙ h p)) c.replies.ensures

-- an answer of no list
without_list : {X : Type 0} (f : Listed → X) (x : X) → f listed.Arith ≡ x → f listed.TermLimit ≡ x → (a : Listed)
    → (a ≡ listed.Arith) ⊎ (a ≡ listed.TermLimit) → f a ≡ x
without_list f x r l a (inl e) = ap f e ∙ r
without_list f x r l a (inr e) = ap f e ∙ l

pub returns-in-Arith : goal.returns-in-Arith
returns-in-Arith c =
    let a = c.args in
    let empty = c.list-t.ensures ∙ ap (λ (items : List Term). term.List (record { items = items; tail = None })) c.new.ensures in
    IfOk-weaker c.replies-took.result _ _ (λ t h p. (
    without_list (inner.ask_listed a.me a.m.now p) (spec.replies row.AskAll p (spec.reply a.me a.m.now nil)) refl refl a.answer.now c.in-Arith.is
    ∙ ap (λ u. spec.replies row.AskAll p (spec.reply a.me a.m.now u)) (sym empty)
    ∙ h p
    )) c.replies-took.ensures
