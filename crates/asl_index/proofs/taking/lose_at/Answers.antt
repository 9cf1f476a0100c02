use Rattle.std.proofs.Common.{rules, ◌≡◌, true, Some, sym, ◌∙◌}
use Rattle.std.specs.Prelude.{not}
use Rattle.std.specs.List.{filter}
use Rattle.asl_beliefs.specs.Sources.{names_source, with_annots}
use Rattle.asl_beliefs.specs.Changes.{is_held, minus}
use Rattle.asl_beliefs.proofs.Taken.{loss_stays}
use Rattle.asl_index.proofs.taking.lose_at.Goals as goal

pub returns-in_ok-copy_with-clause-event : goal.returns-in_ok-copy_with-clause-event
returns-in_ok-copy_with-clause-event c = λ b at.
    let x = c.in-Some.b.now in
    let both : Some x ≡ Some b = c.in-Some.ensures ∙ at in
    let same : x ≡ b = cc in
    let left : c.in_ok-left.left ≡ filter (λ a. not (is_held c.args.taken.now a)) b.annots = search rules in
    let named : names_source c.in_ok-left.left ≡ true = search rules in
    let made : c.minus-event.result ≡ minus (with_annots b (filter (is_held c.args.taken.now) b.annots)) = search rules in
    made ∙ sym (loss_stays c.args.taken.now c.in_ok-left.left b left named)
