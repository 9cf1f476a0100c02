use Rattle.std.proofs.Common.{rules, ◌≡◌, Some, None}
use Rattle.std.proofs.lemmas.Bool.Decides.{Decides-eqb}
use Rattle.std.proofs.lemmas.Slice.Eq.{strip_prefix_is}
use Rattle.mas_report.specs.Reading.{AreWords}
use Rattle.mas_report.specs.Report.{options_line}
use Rattle.mas_report.proofs.Shown.{options_are, no_options}
use Rattle.mas_report.proofs.reading.options_before.Goals as goal

pub returns-in-Some : goal.returns-in-Some
returns-in-Some c =
    let line = c.as_slice.result.now in
    let f = strip_prefix_is Decides-eqb c.args.bytes.now line (Some c.in-Some.behind) c.in-Some.ensures.cases in
    let e : line ≡ options_line c.likely-options.result = search rules in
    let w : AreWords c.likely-options.result = search rules in
    options_are c.args.bytes.now c.likely-options.result line c.in-Some.behind.now w e f

pub returns : goal.returns
returns c =
    let line = c.as_slice.result.now in
    let e : line ≡ options_line c.likely-options.result = search rules in
    no_options c.args.bytes.now c.likely-options.result line c.likely-options.ensures e (strip_prefix_is Decides-eqb c.args.bytes.now line None c.in-None.ensures.cases)
