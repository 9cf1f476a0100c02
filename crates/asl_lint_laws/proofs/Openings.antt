-- An agent begins as one all of whose goals are covered.
use Rattle.std.proofs.Common.{◌≡◌, ◌-◌, ◌&&◌, ◌++◌, ℕ, zero, suc, Bool, true, false, cond, List, [], ◌∷◌, map, slice_get, Some, refl, sym, ap, subst}
use Rattle.std.specs.List.{AllByRecursion, list_all}
use Rattle.asl_term.specs.declared.syntax.AgentText.{AgentText}
use Rattle.asl_term.specs.declared.syntax.ArgOf.{ArgOf}
use Rattle.asl_term.specs.declared.syntax.ArgOf.TheVariants.{Plain, Logic}
use Rattle.asl_term.specs.declared.syntax.Expr.{Expr}
use Rattle.asl_term.specs.declared.syntax.Formula.{Formula}
use Rattle.asl_term.specs.declared.syntax.Formula.TheVariants as formula
use Rattle.asl_term.specs.declared.syntax.Kind.TheVariants as kind
use Rattle.asl_term.specs.declared.syntax.LiteralOf.{LiteralOf}
use Rattle.asl_term.specs.declared.syntax.Plan.{Plan}
use Rattle.asl_term.specs.declared.syntax.Term.{Term}
use Rattle.asl_term.specs.declared.syntax.Term.TheVariants as term
use Rattle.asl_term.specs.declared.syntax.Trigger.{Trigger}
use Rattle.asl_unify.proofs.General.{and_true}
use Rattle.asl_unify.proofs.Laws.{flat-var}
use Rattle.asl_beliefs.proofs.Initial.{ground_with_source}
use Rattle.asl_beliefs.specs.Bases as beliefs
use Rattle.asl_beliefs.specs.Sources.{with_source}
use Rattle.asl_lint_laws.proofs.Standard.{standard_below}
use Rattle.asl_plans.specs.declared.entry.OwnedPlan.{OwnedPlan}
use Rattle.asl_plans.specs.Same.{same_plan}
use Rattle.asl_plans.specs.Libraries.{with_owner, added, all_added, opened}
use Rattle.asl_plans.proofs.OwnedPlans.{owner_plan}
use Rattle.asl_intend.specs.Agendas.{external}
use Rattle.asl_cycle.specs.Agent.{own_name}
use Rattle.asl_cycle.specs.Opening.{initial_goal}
use Rattle.asl_lint.specs.Items.{item_holds}
use Rattle.asl_lint.specs.Lints.{goals_hold, plans_hold}
use Rattle.asl_lint.specs.Goals.{achieves}
use Rattle.asl_lint_laws.specs.Served.{HasWritten}
use Rattle.asl_lint_laws.proofs.Opened.{source_serves, source_opens}
use Rattle.asl_lint_laws.specs.Linted.{ArgsBy, IsMergedArg}
use Rattle.asl_lint_laws.specs.Agendas.{IsOlder, FormulaBelow, FormulaServed, EventServed}
use Rattle.asl_lint_laws.specs.Read.{AreGround, HasMerged, IsReadPlan, IsRead}
use Rattle.asl_lint_laws.proofs.Later.{each_weaker}
use Rattle.asl_lint_laws.specs.RowsServed.{PlanServed}
use Rattle.asl_lint_laws.proofs.Beliefs.{AreTold, all_added_change}
use Rattle.asl_lint_laws.proofs.Failed.{event_told}
use Rattle.asl_lint_laws.proofs.RowGoals.{goal_is_served}
use Rattle.asl_lint_laws.proofs.Stay.{opened_own}
use Rattle.asl_lint_laws.specs.Opening.{OpensServed}

-- ---- what holds of plans holds of the entries that begin with them

module _ (P : Plan → Type 0) where
  abbrev Each : List OwnedPlan → Type 0
  Each = AllByRecursion (λ e. P e.plan)

  each_added : (p : Plan) (lib : List OwnedPlan) → P p → Each lib → Each (added p 0 lib)
  each_added p [] h a = (h, tt)
  each_added p (e ∷ more) h a = go (same_plan p e.plan) (each_added p more h a.1) where
    go : (b : Bool) → Each (added p 0 more) → Each (cond b (with_owner 0 e ∷ more) (e ∷ added p 0 more))
    go true later = (subst P (sym (owner_plan 0 e)) a.0, a.1)
    go false later = (a.0, later)

  each_opened : (ps : List Plan) (lib : List OwnedPlan) → AllByRecursion P ps → Each lib → Each (all_added ps 0 lib)
  each_opened [] lib a e = e
  each_opened (p ∷ ps) lib a e = each_opened ps (added p 0 lib) a.1 (each_added p lib a.0 e)

-- ---- a source

args_same : (args : List (ArgOf Expr)) → AllByRecursion IsMergedArg args → ArgsBy term.Var args args
args_same [] a = tt
args_same (Plain t ∷ args) a = (a.0, args_same args a.1)
args_same (Logic e ∷ args) a = args_same args a.1

module _ (names : List (List ℕ)) (texts : List AgentText) (text : AgentText) (read : IsRead text) where
  abbrev plans : List OwnedPlan
  plans = opened text.plans

  written : (ps : List Plan) → AllByRecursion IsReadPlan ps → AllByRecursion HasWritten ps
  written ps a = each_weaker IsReadPlan HasWritten (λ p s. s.trigger) ps a

  formula_served : (f : Formula) → FormulaBelow 1 f → HasMerged f → item_holds names texts text.plans f ≡ true → FormulaServed names texts plans 1 f
  formula_served (formula.Achieve g) b m e = record { below = b; goal = ((source_serves text.plans g (written text.plans read.plans) m.args).0 e, m) }
  formula_served (formula.Spawn g) b m e = record { below = b; goal = ((source_serves text.plans g (written text.plans read.plans) m.args).0 e, m) }
  formula_served (formula.Test g) b m e = record { below = b; goal = ((source_serves text.plans g (written text.plans read.plans) m.args).1 e, m) }
  formula_served (formula.Inner c) b m e = record {
    below = b;
    goal = record {
      source = c;
      holds = e;
      merged = m.0;
      arity = m.1;
      name = refl;
      values = term.Var;
      flat = flat-var;
      args = args_same c.args m.0;
    };
  }
  formula_served (formula.Add l) b m e = record { below = b; goal = tt }
  formula_served (formula.Del l) b m e = record { below = b; goal = tt }
  formula_served (formula.Replace l) b m e = record { below = b; goal = tt }
  formula_served (formula.Act l) b m e = record { below = b; goal = tt }
  formula_served (formula.Rel r) b m e = record { below = b; goal = tt }

  body_served : (fs : List Formula) → AllByRecursion (FormulaBelow 1) fs → AllByRecursion HasMerged fs → list_all (item_holds names texts text.plans) fs ≡ true
      → AllByRecursion (FormulaServed names texts plans 1) fs
  body_served [] b m e = tt
  body_served (f ∷ fs) b m e =
      let s = and_true (item_holds names texts text.plans f) _ e in (formula_served f b.0 m.0 s.0, body_served fs b.1 m.1 s.1)

  plans_served : (ps : List Plan) → AllByRecursion IsReadPlan ps → list_all (λ p. list_all (item_holds names texts text.plans) p.body) ps ≡ true
      → AllByRecursion (PlanServed names texts plans) ps
  plans_served [] a e = tt
  plans_served (p ∷ ps) a e =
      let s = and_true (list_all (item_holds names texts text.plans) p.body) _ e in
      (record { trigger = a.0.trigger; context = a.0.context; body = body_served p.body a.0.below a.0.merged s.0 }, plans_served ps a.1 s.1)

  -- ---- the first events

  told_events : (ts : List Trigger) → AreTold ts → (rest : List Trigger) → AllByRecursion (EventServed names texts plans 1) (external rest)
      → AllByRecursion (EventServed names texts plans 1) (external (ts ++ rest))
  told_events [] a rest r = r
  told_events (t ∷ ts) a rest r = (event_told names texts plans 1 t a.0, told_events ts a.1 rest r)

  goal_events : (gs : List (LiteralOf Term)) → AllByRecursion (IsOlder 1) gs → list_all (achieves text.plans) gs ≡ true
      → AllByRecursion (EventServed names texts plans 1) (external (map initial_goal gs))
  goal_events [] a e = tt
  goal_events (g ∷ gs) a e =
      let s = and_true (achieves text.plans g) _ e in (
        goal_is_served names texts plans (source_opens text.plans (written text.plans read.plans)) 1 kind.Achieve g []
            ((source_serves text.plans g (written text.plans read.plans) a.0.merged.args).0 s.0) a.0 tt,
        goal_events gs a.1 s.1,
      )

  grounds : (ls : List (LiteralOf Term)) → AreGround ls → AreGround (map with_source ls)
  grounds [] a = tt
  grounds (l ∷ ls) a = (ground_with_source l a.0, grounds ls a.1)

-- ---- the agent at its place

at_place : (f : AgentText → Bool) (texts : List AgentText) (j : ℕ) (text : AgentText) → list_all f texts ≡ true → slice_get texts j ≡ Some text → f text ≡ true
at_place f [] j text e s = cc
at_place f (t ∷ texts) zero text e s = let is : t ≡ text = cc in subst (λ z. f z ≡ true) is (and_true (f t) _ e).0
at_place f (t ∷ texts) (suc j) text e s = at_place f texts j text (and_true (f t) _ e).1 s

read_at : (texts : List AgentText) (j : ℕ) (text : AgentText) → AllByRecursion IsRead texts → slice_get texts j ≡ Some text → IsRead text
read_at [] j text a s = cc
read_at (t ∷ texts) zero text a s = let is : t ≡ text = cc in subst IsRead is a.0
read_at (t ∷ texts) (suc j) text a s = read_at texts j text a.1 s

lib_at : (texts : List AgentText) (j : ℕ) (text : AgentText) → slice_get texts j ≡ Some text → slice_get (map (λ (t : AgentText). opened t.plans) texts) j ≡ Some (opened text.plans)
lib_at [] j text s = cc
lib_at (t ∷ texts) zero text s = let is : t ≡ text = cc in ap (λ (z : AgentText). Some (opened z.plans)) is
lib_at (t ∷ texts) (suc j) text s = lib_at texts j text s

pub opens_served : OpensServed
opens_served names texts me text k level reads holds mine at =
    let read = read_at texts (me - 1) text reads at in
    let all = at_place (λ t. goals_hold t && plans_hold names texts t) texts (me - 1) text holds at in
    let both = and_true (goals_hold text) (plans_hold names texts text) all in
    let start = all_added_change (map with_source text.beliefs) [] (grounds names texts text read text.beliefs read.beliefs) tt in
    record {
      number = mine;
      plans = lib_at texts (me - 1) text at;
      own = opened_own text.plans;
      around = record {
        plans = each_opened (PlanServed names texts (opened text.plans)) text.plans [] (plans_served names texts text read text.plans read.plans both.1) tt;
        rules = read.rules;
        solve = standard_below (own_name (record { names = names; me = me }));
      };
      parts = record {
        beliefs = start.beliefs;
        agenda = record {
          events = told_events names texts text read (beliefs.opening text).events start.events (map initial_goal text.goals)
              (goal_events names texts text read text.goals read.goals both.0);
          running = tt;
          acting = tt;
          asks = tt;
        };
      };
    }
