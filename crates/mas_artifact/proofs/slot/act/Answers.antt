use Rattle.std.proofs.Common.{◌≡◌, [], Bool, true, codes, IfOk, refl, sym, subst, ◌∙◌, if◌then◌else◌}
use Rattle.asl_unify.specs.Compare.{same_frame}
use Rattle.mas_mind.specs.declared.mind.Feedback.TheVariants.{Failed}
use Rattle.mas_artifact.specs.States.{given, taken}
use Rattle.mas_artifact.specs.Tables.{literal}
use Rattle.mas_artifact.proofs.slot.act.Goals as goal

pub returns-then-is_call-clause-acted : goal.returns-then-is_call-clause-acted
returns-then-is_call-clause-acted c =
    let h = c.args.holder.now in
    let agent = c.args.agent.now in
    let action = c.args.action.now in
    let gives = same_frame (literal (codes "slot_give") []) action in
    let P : Bool → Type 0 = λ b. IfOk c.take.result (λ f. (f, c.take.new.holder) ≡ (if b then taken h agent else (if gives then given h agent else (Failed, h)))) in
    subst P (sym c.if-is_call.true ∙ c.is_call.ensures (literal (codes "slot_take") []) refl refl refl) c.take.ensures.acted

pub returns-then-is_call-2-clause-acted : goal.returns-then-is_call-2-clause-acted
returns-then-is_call-2-clause-acted c =
    let h = c.args.holder.now in
    let agent = c.args.agent.now in
    let action = c.args.action.now in
    let P : Bool → Bool → Type 0 = λ a b. (c.give.result, c.give.new.holder) ≡ (if a then taken h agent else (if b then given h agent else (Failed, h))) in
    subst (λ b. P (same_frame (literal (codes "slot_take") []) action) b) (sym c.if-is_call-2.true ∙ c.is_call-2.ensures (literal (codes "slot_give") []) refl refl refl)
    (subst (λ a. P a true) (sym c.if-is_call.false ∙ c.is_call.ensures (literal (codes "slot_take") []) refl refl refl) c.give.ensures)
