use Rattle.std.proofs.Common.{None, Some, ap, sym, ◌∙◌}
use Rattle.mas_artifact.specs.States.{items_in}
use Rattle.mas_artifact.proofs.Rows.{row_from}
use Rattle.mas_artifact.proofs.belt.row.Goals as goal

pub returns-in-None : goal.returns-in-None
returns-in-None c = row_from c.args.items c.in_ok-l.l c.no_subst.result None c.in_ok-l.ensures c.no_subst.ensures (sym c.in-None.is ∙ c.in_ok-ready.ensures)

pub returns : goal.returns
returns c =
    ap Some c.items_in.ensures
    ∙ ap (λ args. Some (items_in args)) c.replace-args.ensures.value
    ∙ row_from c.args.items c.in_ok-l.l c.no_subst.result (Some c.in-Some.l) c.in_ok-l.ensures c.no_subst.ensures (sym c.in-Some.is ∙ c.in_ok-ready.ensures)
