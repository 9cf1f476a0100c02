use Rattle.std.proofs.Common.{◌≡◌, None, Some, ap, sym, ◌∙◌, arith, w64, to_z, of_z}
use Rattle.std.specs.Option.{option_and_then}
use Rattle.std.proofs.lemmas.Int.{ints}
use Rattle.asl_term.specs.declared.syntax.Term.TheVariants as term
use Rattle.mas_artifact.specs.States.{above, number_in}
use Rattle.mas_artifact.specs.Tables.{sum, tally}
use Rattle.mas_artifact.proofs.Tallies.{sum_from}
use Rattle.mas_artifact.proofs.tally.sum.Goals as goal

pub returns-in-None : goal.returns-in-None
returns-in-None c =
    let fits = c.ranges.count in
    let same : to_z w64 (of_z w64 c.args.count) ≡ c.args.count = omega (arith, ints, fits) in
    let is = c.in_ok-l.ensures ∙ ap (λ n. tally (sum (term.Num n) c.args.t.now)) same in
    sum_from c.args.count c.args.t.now c.in_ok-l.l c.no_subst.result None is c.no_subst.ensures (sym c.in-None.is ∙ c.in_ok-ready.ensures)

pub returns : goal.returns
returns c =
    let fits = c.ranges.count in
    let same : to_z w64 (of_z w64 c.args.count) ≡ c.args.count = omega (arith, ints, fits) in
    let is = c.in_ok-l.ensures ∙ ap (λ n. tally (sum (term.Num n) c.args.t.now)) same in
    c.above.ensures
    ∙ (λ i. option_and_then (above (same i)) ((c.number_in.ensures ∙ ap number_in c.as_slice.ensures) i))
    ∙ sum_from c.args.count c.args.t.now c.in_ok-l.l c.no_subst.result (Some c.in-Some.l) is c.no_subst.ensures (sym c.in-Some.is ∙ c.in_ok-ready.ensures)
