use Rattle.std.proofs.Common.{rules, ◌∙◌, ◌≡◌, ◌∷◌, [], ap, sym, subst, map, true}
use Rattle.std.proofs.lemmas.Result.{IfOk-weaker}
use Rattle.std.specs.List.{AllByRecursion}
use Rattle.asl_unify.specs.Logs.{later}
use Rattle.asl_unify.specs.Turns.{value_in}
use Rattle.asl_intend.specs.Means.{put_means}
use Rattle.asl_intend.specs.Untouched.{are_disjoint, LeavesEntry}
use Rattle.asl_intend.proofs.Stays.{stack_left}
use Rattle.asl_intend.proofs.stack.Stack.is_left.Goals as goal

pub returns : goal.returns
returns c =
    let log = c.self.inside.log in
    let late = c.args.s.now in
    let more = later c.args.rest in
    let yes : c.are_disjoint.result ≡ true = search rules in
    let apart : are_disjoint ([] ∷ log) (late ∷ more) ≡ true =
    ap (λ s. are_disjoint ([] ∷ s) (late ∷ more)) (sym c.since.ensures)
    ∙ ap (λ s. are_disjoint ([] ∷ later c.since.result) (s ∷ more)) (sym c.pairs.ensures.value) ∙ sym c.are_disjoint.ensures ∙ yes in
    IfOk-weaker c.leaves_entries.result _ (λ r. r ≡ true → map (put_means (value_in late more)) c.args.self.now ≡ c.args.self.now)
    (λ r p is. (
    let all = subst (AllByRecursion (LeavesEntry late more)) c.deref.ensures.value (p is) in
    subst (λ m. map (put_means (value_in late more)) m ≡ m) c.self.view_is (stack_left late more log c.self.inside.entries.items apart all)
    )) c.leaves_entries.ensures
