use Rattle.std.proofs.Common.{ℕ, inl, inr, sym, ap, ◌∙◌, subst, All}
use Rattle.mas_board.specs.Boards.{NotBelow, least}
use Rattle.mas_board.specs.Surveys.{held_by}
use Rattle.mas_board.proofs.Surveys.{held_not, least_low}
use Rattle.mas_board.proofs.seats.held_by.Goals.{then-own-lead-via-then-own-lead, then-own-lead-via-else-own-lead+then-own-lead-2}
use Rattle.mas_board.proofs.seats.held_by.Goals as goal

pub returns-then-own-lead-clause-value : goal.returns-then-own-lead-clause-value
returns-then-own-lead-clause-value c =
    let e = ap (held_by c.args.lead c.args.own) c.seats.view_is in
    elim c.then-own-lead.branch [
      | then-own-lead-via-then-own-lead w ↦ sym (sym e ∙ held_not _ _ c.seats.inside.low _ c.requires (inl w.if-own-lead.true) c.seats.invariant)
      | then-own-lead-via-else-own-lead+then-own-lead-2 w ↦ sym (sym e ∙ held_not _ _ c.seats.inside.low _ c.requires (inr w.if-own-lead-2.true) c.seats.invariant)
    ]

pub invariant_of-seats : goal.invariant_of-seats
invariant_of-seats c =
    let P = λ (n : ℕ). All (NotBelow n) c.seats.inside.places in
    subst P (sym (c.least-lowest.ensures ∙ ap (least c.args.own) c.as_slice.ensures)) (least_low c.args.own c.seats.inside.places)
