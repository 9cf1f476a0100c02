use Rattle.std.proofs.Common.{rules, ◌≡◌, ◌∷◌, refl, sym, ◌∙◌}
use Rattle.mas_artifact.proofs.Belts.{acted_none, acted_put, acted_take, puts, takes}
use Rattle.mas_artifact.proofs.belt.act.Goals as goal

pub returns-then-is_call-clause-acted : goal.returns-then-is_call-clause-acted
returns-then-is_call-clause-acted c =
    let action = c.args.action.now in
    let is : action.args ≡ c.in-Some.t.now ∷ c.in-Some.field-0-1.now = search rules in
    acted_put c.args.items.now action c.in-Some.t.now c.in-Some.field-0-1.now is c.place.new.items c.place.result (sym (c.is_call.ensures puts refl refl refl) ∙ c.if-is_call.true) c.place.ensures.acted

pub returns-then-is_call-2-clause-acted : goal.returns-then-is_call-2-clause-acted
returns-then-is_call-2-clause-acted c =
    let action = c.args.action.now in
    let is : action.args ≡ c.in-Some.t.now ∷ c.in-Some.field-0-1.now = search rules in
    acted_take c.args.items.now action c.in-Some.t.now c.in-Some.field-0-1.now is c.lift.new.items c.lift.result
    (sym (c.is_call.ensures puts refl refl refl) ∙ c.if-is_call.false) (sym (c.is_call-2.ensures takes refl refl refl) ∙ c.if-is_call-2.true) c.lift.ensures.acted

pub returns-clause-acted : goal.returns-clause-acted
returns-clause-acted c =
    let action = c.args.action.now in
    let is : action.args ≡ c.in-Some.t.now ∷ c.in-Some.field-0-1.now = search rules in
    acted_none c.args.items.now action c.in-Some.t.now c.in-Some.field-0-1.now is
    (sym (c.is_call.ensures puts refl refl refl) ∙ c.if-is_call.false) (sym (c.is_call-2.ensures takes refl refl refl) ∙ c.if-is_call-2.false)
