use Rattle.std.proofs.Common.{None, Some, ap, codes, is_some, sym, ◌∙◌}
use Rattle.mas_artifact.specs.Tables.{belt, list_before, variable}
use Rattle.mas_artifact.proofs.Rows.{ready_from}
use Rattle.mas_artifact.proofs.belt.can_be_asked.Goals as goal

pub returns-in-None : goal.returns-in-None
returns-in-None c =
    let l = belt (list_before c.args.t.now (variable (codes "L"))) in
    ap is_some (ready_from l c.in_ok-l.l c.no_subst.result None c.in_ok-l.ensures c.no_subst.ensures (sym c.in-None.is ∙ c.in_ok-ready.ensures))

pub returns : goal.returns
returns c =
    let l = belt (list_before c.args.t.now (variable (codes "L"))) in
    ap is_some (ready_from l c.in_ok-l.l c.no_subst.result (Some c.in-Some.field-0) c.in_ok-l.ensures c.no_subst.ensures (sym c.in-Some.is ∙ c.in_ok-ready.ensures))
