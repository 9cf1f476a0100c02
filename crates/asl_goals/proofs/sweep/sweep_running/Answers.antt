use Rattle.std.proofs.Common.{◌≡◌, ◌∙◌, rules, List, length, map-id, sym, ap}
use Rattle.std.proofs.lemmas.Iterator.Adapters.{YieldsList-from_vec}
use Rattle.std.proofs.lemmas.Iterator.Consumers.{YieldsList-end}
use Rattle.asl_term.specs.declared.syntax.Clause.{Clause}
use Rattle.asl_intend.specs.declared.entry.Means.{Means}
use Rattle.asl_exec_circumstance.specs.Circumstance.{Circumstance, around, seen}
use Rattle.asl_goals.specs.Goals.{from_lowest, in_place, with_running}
use Rattle.asl_goals.proofs.Folds.{goes_on_as, finished}
use Rattle.asl_goals.proofs.sweep.sweep_running.Goals as goal

pub loop-stack-preserved : goal.loop-stack-preserved
loop-stack-preserved g c =
    let a = c.args in
    let l = c.loop-stack in
    let m = c.in_ok-sweep_stack.ensures in
    let one = λ (rs : List Clause) (q : Circumstance) (x : List Means). in_place (around a.k.now.lib.plans rs (g.A.Actions.solve a.k.now.actions) a.k.now.budgets) a.way a.g.now q x (from_lowest a.g.now x) in
    record {
      sofar = goes_on_as one _ _ (ap g.B.BeliefBase.rules l.invariant.beliefs) _ a.falls.now l.yielded c.in-Some.stack _ _ _ _ _ _ l.invariant.sofar
          m.made.0 m.made.1 m.made.2;
      beliefs = m.beliefs ∙ l.invariant.beliefs;
      number = m.number ∙ l.invariant.number;
    }

pub returns-clause-made : goal.returns-clause-made
returns-clause-made g c =
    let a = c.args in
    let l = c.loop-stack in
    let all = a.p.now.agenda.running in
    let i = c.into_iter-stack-iterator.ensures.into_iter_gives in
    let n : c.into_iter-stack-iterator.result.rest.len ≡ length c.into_vec-stack-items.result.items = search rules in
    let items = c.into_vec-stack-items.ensures ∙ c.take_all-running.ensures.items in
    let e = YieldsList-end (YieldsList-from_vec all (i.0 ∙ items) (n ∙ ap length items)) l.yielded l.stack-iterator l.yielded_by c.next.result c.next.new.self c.in-None.is c.next.ensures.steps in
    let s = finished _ _ _ _ _ _ _ _ l.invariant.sofar (sym (map-id l.yielded) ∙ e.0) in
    let now = seen g.B.BeliefBase.beliefs l.p in
    (ap (with_running now) c.from_seq.ensures ∙ (λ j. with_running (s.parts j) (s.left j)), s.fell)
