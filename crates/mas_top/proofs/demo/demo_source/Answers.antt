use Rattle.std.proofs.Common.{Some, ap, ◌∙◌}
use Rattle.mas_io.specs.declared.sure.SureShelf.{SureShelf}
use Rattle.mas_top_opening.specs.Opening.{setup, objects_of}
use Rattle.mas_top.proofs.Demos.{described}
use Rattle.mas_top.proofs.demo.demo_source.Goals as goal

pub returns : goal.returns
returns g c =
    let u = setup c.args.o.now (objects_of g.A.Artifact.named g.A.Artifact.table g.A.Artifact.facts c.args.artifacts.now.items) in
    described u c.args.agents (Some c.sure_shelf-shelf.result.files) c.in_ok-project.project c.read_source.result
    (ap (λ (s : SureShelf). Some s.files) c.sure_shelf-shelf.ensures ∙ ap Some c.in_ok-demo_files.ensures) c.in_ok-project.ensures c.read_source.ensures.answer
