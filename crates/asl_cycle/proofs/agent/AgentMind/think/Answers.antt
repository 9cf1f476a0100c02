use Rattle.std.proofs.Common.{◌≡◌, ◌≤◌, ◌<◌, ◌+◌, sym, ap, ◌∙◌, arith}
use Rattle.asl_exec_circumstance.specs.Circumstance.{around, parts}
use Rattle.asl_stdlib.specs.Solving.{solve}
use Rattle.asl_cycle.specs.Agent.{Mindset, agent_cycle}
use Rattle.asl_cycle.specs.contracts.agent.Agent.{the_view}
use Rattle.asl_cycle.specs.inner.Laws.{lawful_of}
use Rattle.asl_cycle.proofs.Awaiting.{awaited_after, fed_before}
use Rattle.asl_cycle.proofs.Cycled.{cycled}
use Rattle.asl_cycle.proofs.agent.AgentMind.think.Goals as goal

pub returns-clause-lawful : goal.returns-clause-lawful
returns-clause-lawful c =
    let a = c.self.inside in
    lawful_of
    (around a.around.lib.plans a.parts.beliefs.rules (solve a.around.actions) a.around.budgets) a.peers c.args.self.now.peers
    (parts a.parts.beliefs.beliefs a.parts.agenda a.parts.number)
    _ a.asks _ c.take-kept.result c.args.input _ _ (ap (λ (m : Mindset). m.peers) c.self.view_is) c.requires.sent c.in_ok-finished.ensures.made

pub returns-clause-made : goal.returns-clause-made
returns-clause-made c =
    let a = c.self.inside in
    let f = c.in_ok-finished.finished in
    let q = c.cycle.new.p in
    sym (ap (λ (m : Mindset). agent_cycle m c.args.input) c.self.view_is)
    ∙ (cycled (the_view a) c.args.input a.around.actions c.take-kept.result
    (record { parts = parts q.beliefs.beliefs q.agenda q.number; asks = f.asks; lines = f.lines; thought = f.thought })
    c.cycle.new.k.lib.plans c.cycle.new.k.budgets q.beliefs.rules c.take-kept.new.self c.asks-self-inside.result c.as_slice.result.now c.write_lines.new.out
    c.self.invariant.1.1.1.1.0 c.take-kept.ensures.value c.in_ok-finished.ensures.made c.in_ok-finished.ensures.plans c.in_ok-finished.ensures.budgets
    c.in_ok-finished.ensures.rules c.take-kept.ensures.after
    c.asks-self-inside.ensures c.as_slice.ensures c.in_ok-write_lines.ensures.ok)

pub invariant_of-self-2 : goal.invariant_of-self-2
invariant_of-self-2 c =
    let a = c.self.inside in
    let f = c.in_ok-finished.finished in
    let q = c.cycle.new.p in
    let fed = fed_before a.awaits a.parts.agenda.acting a.kept c.take-kept.result (ap (λ (m : Mindset). m.awaits) c.self.view_is ∙ c.requires.free)
    c.take-kept.ensures.value c.self.invariant.1.1.1.1.1 in
    let awaited = awaited_after
    (around a.around.lib.plans a.parts.beliefs.rules (solve a.around.actions) a.around.budgets) a.peers
    (parts a.parts.beliefs.beliefs a.parts.agenda a.parts.number) (parts q.beliefs.beliefs q.agenda q.number)
    a.asks f.asks c.take-kept.result c.take-kept.new.self c.args.input f.lines f.thought c.asks-self-inside.result
    fed c.in_ok-finished.ensures.made c.asks-self-inside.ensures c.take-kept.ensures.after in
    let asked : f.asks ≤ a.asks + 1 = c.in_ok-finished.ensures.asks in
    let asks : a.asks ≤ 1 + a.cycles = c.self.invariant.1.0 in
    let made : a.cycles ≡ c.args.self.now.cycles = ap (λ (m : Mindset). m.cycles) c.self.view_is in
    let short : c.args.self.now.cycles < 1000000 = c.requires.short in
    let tries : c.cycle.new.k.budgets.tries ≡ a.around.budgets.tries = ap (λ b. b.tries) c.in_ok-finished.ensures.budgets in
    let named = c.in_ok-finished.ensures.actions ∙ c.self.invariant.1.1.1.1.0 in
    let few : a.around.budgets.tries ≤ 10000000 = c.self.invariant.1.1.1.0 in
    (omega arith, (grind (arith, asked, asks), (grind (arith, made, short), (grind (arith, tries, few), (named, awaited)))))
