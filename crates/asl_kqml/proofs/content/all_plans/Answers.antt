use Rattle.std.proofs.Common.{◌≡◌, ◌++◌, ◌∷◌, ◌+◌, ◌∙◌, ap, sym, refl, List, [], drop, Option, Some, None, append_assoc, arith}
use Rattle.std.proofs.lemmas.List.{at_drop_more}
use Rattle.std.specs.Option.{option_map}
use Rattle.asl_term.specs.declared.syntax.Plan.{Plan}
use Rattle.asl_term.specs.declared.syntax.Term.{Term}
use Rattle.asl_exec_circumstance.specs.Contents.{before}
use Rattle.asl_kqml.specs.Contents.{all_plans}
use Rattle.asl_kqml.proofs.content.all_plans.Goals as goal

-- one plan more stands before those of the other terms
one_more : (r longer : List Plan) (p : Plan) (more : Option (List Plan)) → longer ≡ r ++ p ∷ []
    → option_map (λ ps. longer ++ ps) more ≡ option_map (λ ps. r ++ ps) (before (Some p) more)
one_more r longer p None e = refl
one_more r longer p (Some ps) e = ap (λ qs. Some (qs ++ ps)) e ∙ ap Some (append_assoc r (p ∷ []) ps)

pub loop-t-preserved : goal.loop-t-preserved
loop-t-preserved c =
    let ts = c.args.ts.now in
    let i = c.loop-t.t-index in
    let t = c.t-item.result in
    let r = c.loop-t.r in
    let left = drop (i + 1) ts in
    let with = λ (us : List Term). option_map (λ ps. r ++ ps) (all_plans us) in
    one_more r c.push.new.self c.in-Some.p (all_plans left) c.in_ok-push-in-Some.ensures.ok
    ∙ ap (λ o. option_map (λ ps. r ++ ps) (before o (all_plans left))) (sym c.in-Some.is ∙ c.in_ok-p.ensures)
    ∙ ap (λ u. with (u ∷ left)) c.t-item.is
    ∙ sym (at_drop_more with ts i t (omega arith))
    ∙ c.loop-t.invariant
