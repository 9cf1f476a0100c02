use Rattle.std.proofs.Common.{rules, sym, ap, ◌∙◌}
use Rattle.std.specs.Option.{option_copied}
use Rattle.asl_index_tables.specs.Slots.{kept}
use Rattle.asl_unify.specs.Compare.{same_frame}
use Rattle.asl_beliefs.proofs.Kth.{kth_belief, ground_filtered, renamed_ground}
use Rattle.asl_index.proofs.finding.head_pairs_of.Goals as goal

pub returns-in-Some-clause-value : goal.returns-in-Some-clause-value
returns-in-Some-clause-value c =
    let g = c.args.g.now in
    let b = c.in-Some.b.now in
    let at = kth_belief g (kept c.args.store.now) c.args.rules.now c.args.k b (sym c.pick-count.ensures.belief ∙ ap option_copied c.in-Some.is) in
    let same = renamed_ground c.args.number b (ground_filtered (same_frame g) (kept c.args.store.now) c.args.k b c.requires.sound (sym c.pick-count.ensures.belief ∙ ap option_copied c.in-Some.is)) in
    search rules
