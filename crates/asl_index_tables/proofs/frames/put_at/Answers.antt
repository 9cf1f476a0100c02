use Rattle.std.proofs.Common.{ap, ◌∙◌}
use Rattle.std.specs.List.{slice_set}
use Rattle.std.proofs.lemmas.Result.{on_err_weaker}
use Rattle.asl_index_tables.specs.Frames.{with_places}
use Rattle.asl_index_tables.proofs.Groups.{set_self}
use Rattle.asl_index_tables.proofs.frames.put_at.Goals as goal

pub returns-clause-err : goal.returns-clause-err
returns-clause-err c =
    let g = c.at_mut.result.now in
    on_err_weaker c.push.result
    (λ e. ap (λ z. slice_set c.args.groups.now c.args.k (with_places g z)) e ∙ set_self c.args.groups.now c.args.k g c.at_mut.ensures.value)
    c.push.ensures.err
