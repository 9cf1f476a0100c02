use Rattle.std.proofs.Common.{rules, ◌≡◌, Some}
use Rattle.asl_term.specs.Texts.{text}
use Rattle.mas_top_demo.specs.Lines.{counted, tally_text}
use Rattle.mas_top_demo.proofs.Counted.{tally_here, no_tally}
use Rattle.mas_top_demo.proofs.lines.put_tally.Goals as goal

pub returns-in-Some : goal.returns-in-Some
returns-in-Some c =
    let i = c.facts.invariant in
    let all = c.args.all.now in
    let t = c.in-Some.term.now in
    let found : Some t ≡ counted c.fact-item.result = search rules in
    let told : tally_text all ≡ text t = tally_here all c.facts.fact-index c.fact-item.result t c.facts-test.true c.fact-item.is found i.same in
    rw (told, ← i.out) c.print.ensures.ok

pub returns : goal.returns
returns c =
    let i = c.facts.invariant in
    let told = no_tally c.args.all.now c.facts.fact-index c.facts-test.false i.same in
    rw (told, ← i.out) c.append.ensures.ok
