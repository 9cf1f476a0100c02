-- What an agent is after a cycle.
use Rattle.std.proofs.Common.{◌≡◌, ℕ, ◌+◌, Bool, List, ◌++◌, Option, None, refl, sym, ap, ◌∙◌}
use Rattle.asl_term.specs.declared.syntax.Clause.{Clause}
use Rattle.asl_plans.specs.declared.entry.OwnedPlan.{OwnedPlan}
use Rattle.asl_resolve.specs.declared.answers.Budgets.{Budgets}
use Rattle.mas_mind.specs.declared.mind.Feedback.{Feedback}
use Rattle.mas_mind.specs.declared.mind.Input.{Input}
use Rattle.mas_mind.specs.Minds.{asks_feedback}
use Rattle.asl_exec_circumstance.specs.Circumstance.{around}
use Rattle.asl_stdlib.specs.Solving.{solve}
use Rattle.asl_cycle.specs.declared.rows.TraceLine.{TraceLine}
use Rattle.asl_cycle.specs.Cycle.{Ran, cycle}
use Rattle.asl_cycle.specs.Steps.{plans_after}
use Rattle.asl_cycle.specs.Trace.{shown}
use Rattle.asl_cycle.specs.Agent.{Mindset, own_name, surroundings, agent_cycle}

pub cycled : (m : Mindset) (i : Input) (name : List ℕ) (told : Option Feedback) (r : Ran) (plans : List OwnedPlan) (budgets : Budgets) (rules : List Clause) (kept : Option Feedback) (awaits : Bool) (lines : List TraceLine) (text : List ℕ)
    → name ≡ own_name m.peers → told ≡ m.kept → cycle (around m.plans m.rules (solve name) m.budgets) m.peers m.parts m.asks told i ≡ r
    → plans ≡ plans_after m.plans m.parts.number i.message → budgets ≡ m.budgets → rules ≡ m.rules → kept ≡ None → awaits ≡ asks_feedback r.thought
    → lines ≡ r.lines → text ≡ m.text ++ shown m.level (m.cycles + 1) lines
    → agent_cycle m i ≡ record {
      mind = record m {
        plans = plans;
        budgets = budgets;
        rules = rules;
        parts = r.parts;
        asks = r.asks;
        kept = kept;
        awaits = awaits;
        cycles = m.cycles + 1;
        text = text;
      };
      thought = r.thought;
    }
cycled m i name told r plans budgets rules kept awaits lines text name_is told_is ran plans_are budgets_are rules_are kept_is awaits_is lines_are text_is =
    let e : cycle (surroundings m) m.peers m.parts m.asks m.kept i ≡ r =
    ap (λ n. cycle (around m.plans m.rules (solve n) m.budgets) m.peers m.parts m.asks m.kept i) (sym name_is)
    ∙ ap (λ f. cycle (around m.plans m.rules (solve name) m.budgets) m.peers m.parts m.asks f i) (sym told_is)
    ∙ ran in
    let t : text ≡ m.text ++ shown m.level (m.cycles + 1) r.lines = text_is ∙ ap (λ ls. m.text ++ shown m.level (m.cycles + 1) ls) lines_are in
    rw (e, plans_are, budgets_are, rules_are, kept_is, awaits_is, t) refl
