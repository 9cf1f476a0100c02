use Rattle.std.proofs.Common.{ap, ◌∙◌}
use Rattle.mas_io.specs.Sink.{grown}
use Rattle.mas_io.specs.Told.{told_of}
use Rattle.mas_top_opening.specs.Opening.{objects_of, setup}
use Rattle.mas_top_sites.specs.Caused.{sites_of}
use Rattle.mas_top_sites.proofs.Caused.{written_sites}
use Rattle.mas_top_sites.proofs.printing.print_sites.Goals as goal

pub returns-in-Ok-write_all-clause-caused : goal.returns-in-Ok-write_all-clause-caused
returns-in-Ok-write_all-clause-caused g c =
    let told = told_of g.S.Shelf.holds g.S.Shelf.faults g.K.Sink.written g.K.Sink.faults in
    let objects = objects_of g.A.Artifact.named g.A.Artifact.table g.A.Artifact.facts c.args.artifacts.items in
    let out = c.in-Ok.out in
    written_sites (setup c.args.o.now objects) (sites_of c.args.sites.now) (told c.args.shelf.now c.args.sink.now)
    (told c.run_files.new.shelf c.write_all.new.sink) c.whole.result out.spent out.text c.whole.ensures c.in-Ok.ensures.answer
    (c.in-Ok-write_all.ensures.ok ∙ ap (grown (g.K.Sink.written c.args.sink.now)) c.as_slice.ensures)
