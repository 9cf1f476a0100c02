use Rattle.std.proofs.Common.{◌≡◌, ◌∙◌, ap, sym}
use Rattle.std.proofs.lemmas.Result.{IfOk-weaker}
use Rattle.asl_exec_circumstance.specs.Circumstance.{seen_around, seen}
use Rattle.asl_cycle.specs.Cycle.{from_rel_pl}
use Rattle.asl_cycle.specs.inner.Choosing.{from_taken}
use Rattle.asl_cycle.proofs.Direct.{taken_goes}
use Rattle.asl_cycle.proofs.cycle.from_event.Goals as goal

pub returns-then-taken-clause-made : goal.returns-then-taken-clause-made
returns-then-taken-clause-made g c =
    let a = c.args in
    let e = seen_around g.A.Actions.solve a.k.now g.B.BeliefBase.rules a.p.now in
    let old = seen g.B.BeliefBase.beliefs a.p.now in
    let new = seen g.B.BeliefBase.beliefs c.from_taken.new.p in
    let row = c.add_row-row.result in
    let stack = c.take_kept.new.event.stack in
    let goes = taken_goes e a.peers.now old a.sofar a.event stack row (c.in_ok-taken.ensures.taken c.if-taken.true) c.add_row-row.ensures in
    IfOk-weaker c.from_taken.result
    (λ f. from_taken e a.peers.now old a.sofar stack row ≡ record { parts = new; asks = f.asks; lines = f.lines; thought = f.thought })
    (λ f. from_rel_pl e a.peers.now old a.sofar a.event ≡ record { parts = new; asks = f.asks; lines = f.lines; thought = f.thought })
    (λ f q. goes ∙ q) c.from_taken.ensures.made

pub returns-clause-made : goal.returns-clause-made
returns-clause-made g c =
    let a = c.args in
    let e = seen_around g.A.Actions.solve a.k.now g.B.BeliefBase.rules a.p.now in
    let old = seen g.B.BeliefBase.beliefs a.p.now in
    let new = seen g.B.BeliefBase.beliefs c.from_rel_pl.new.p in
    let same = c.in_ok-taken.ensures.stays c.if-taken.false in
    IfOk-weaker c.from_rel_pl.result
    (λ f. from_rel_pl e a.peers.now old a.sofar c.take_kept.new.event ≡ record { parts = new; asks = f.asks; lines = f.lines; thought = f.thought })
    (λ f. from_rel_pl e a.peers.now old a.sofar a.event ≡ record { parts = new; asks = f.asks; lines = f.lines; thought = f.thought })
    (λ f q. ap (from_rel_pl e a.peers.now old a.sofar) (sym same) ∙ q) c.from_rel_pl.ensures.made
