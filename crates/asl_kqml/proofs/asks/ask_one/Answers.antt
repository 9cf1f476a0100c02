use Rattle.std.proofs.Common.{◌≡◌, ◌⊎◌, inl, inr, ◌∙◌, ap, sym, refl}
use Rattle.std.proofs.lemmas.Result.{IfOk-weaker}
use Rattle.asl_exec_circumstance.specs.declared.rows.Row.TheVariants as row
use Rattle.asl_resolve.specs.declared.answers.Answer.{Answer}
use Rattle.asl_resolve.specs.declared.answers.Answer.TheVariants as answer
use Rattle.asl_kqml.specs.Receive as spec
use Rattle.asl_kqml.proofs.asks.ask_one.Goals as goal

pub returns-in_ok-t-in-Found : goal.returns-in_ok-t-in-Found
returns-in_ok-t-in-Found c =
    let a = c.args in
    IfOk-weaker c.replies-took.result _ _ (λ t h p. (
    ap (spec.ask_one a.me a.m.now p a.g.now) c.in-Found.is
    ∙ ap (λ u. spec.replies row.AskOne p (spec.reply a.me a.m.now u)) (sym c.in_ok-t-in-Found.ensures)
    ∙ h p
    )) c.replies-took.ensures

-- an answer that is neither a solution nor a spent budget
without_one : {X : Type 0} (f : Answer → X) (x : X) → f answer.Nothing ≡ x → f answer.Arith ≡ x → f answer.TermLimit ≡ x → (a : Answer)
    → (a ≡ answer.Nothing) ⊎ ((a ≡ answer.Arith) ⊎ (a ≡ answer.TermLimit)) → f a ≡ x
without_one f x n r l a (inl e) = ap f e ∙ n
without_one f x n r l a (inr (inl e)) = ap f e ∙ r
without_one f x n r l a (inr (inr e)) = ap f e ∙ l

pub returns-in_ok-t-in-Nothing : goal.returns-in_ok-t-in-Nothing
returns-in_ok-t-in-Nothing c =
    let a = c.args in
    IfOk-weaker c.replies-took-in-Nothing.result _ _ (λ t h p. (
    without_one (spec.ask_one a.me a.m.now p a.g.now) (spec.replies row.AskOne p (spec.reply a.me a.m.now spec.no)) refl refl refl a.answer.now c.in-Nothing.is
    ∙ ap (λ u. spec.replies row.AskOne p (spec.reply a.me a.m.now u)) (sym c.in_ok-t-in-Nothing.ensures)
    ∙ h p
    )) c.replies-took-in-Nothing.ensures
