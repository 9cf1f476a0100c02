use Rattle.std.proofs.Common.{sym, subst}
use Rattle.mas_io.specs.Told.{told_of}
use Rattle.mas_top_words.specs.Asked.{asked_of}
use Rattle.mas_top.specs.Headline.{AskedCaused, IsRunReportOf, request}
use Rattle.mas_top_opening.specs.Opening.{objects_of}
use Rattle.mas_top.specs.Recording.{lent}
use Rattle.mas_top.proofs.top.run_asked.Goals as goal

pub returns-in-Demo-clause-caused : goal.returns-in-Demo-clause-caused
returns-in-Demo-clause-caused g c =
    let told = told_of g.S.Shelf.holds g.S.Shelf.faults g.K.Sink.written g.K.Sink.faults in
    let objects = objects_of g.A.Artifact.named g.A.Artifact.table g.A.Artifact.facts c.args.artifacts.items in
    subst
    (λ a. AskedCaused IsRunReportOf objects (lent g.D.Disk.state c.args.disk.now c.args.disk.now)
    (told c.args.shelf.now c.args.sink.now) (told c.args.shelf.now c.print_demo.new.sink) c.print_demo.result (request objects (asked_of a)))
    (sym c.in-Demo.is)
    (c.print_demo.ensures.caused (g.S.Shelf.holds c.args.shelf.now) (g.S.Shelf.faults c.args.shelf.now))
