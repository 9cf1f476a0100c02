-- The brackets that are open in printed expressions and clauses.
use Rattle.std.proofs.Common.{◌≡◌, ◌≤◌, ℕ, zero, suc, ◌+◌, Bool, true, false, List, [], ◌∷◌, ◌++◌, map, max, Option, Some, None, refl, ap, sym, ◌∙◌}
use Rattle.std.proofs.Common.{append_assoc, arith}
use Rattle.std.specs.Prelude.{All, codes}
use Rattle.std.proofs.lemmas.List.Elements.{All-nil, All-cons}
use Rattle.std.specs.List.{flat_map, AllByRecursion}
use Rattle.asl_term.specs.declared.syntax.RelOp.{RelOp}
use Rattle.asl_term.specs.declared.syntax.RelOp.TheVariants as rel
use Rattle.asl_term.specs.declared.syntax.LiteralOf.{LiteralOf}
use Rattle.asl_term.specs.declared.syntax.Relation.{Relation}
use Rattle.asl_term.specs.declared.syntax.ArgOf.{ArgOf}
use Rattle.asl_term.specs.declared.syntax.ArgOf.TheVariants.{Plain, Logic}
use Rattle.asl_term.specs.declared.syntax.CallOf.{CallOf}
use Rattle.asl_term.specs.declared.syntax.Term.{Term}
use Rattle.asl_term.specs.declared.syntax.Term.TheVariants as term
use Rattle.asl_term.specs.declared.syntax.Expr.{Expr}
use Rattle.asl_term.specs.declared.syntax.Expr.TheVariants as expr
use Rattle.asl_term.specs.declared.syntax.Formula.{Formula}
use Rattle.asl_term.specs.declared.syntax.Formula.TheVariants as formula
use Rattle.asl_term.specs.declared.syntax.Kind.{Kind}
use Rattle.asl_term.specs.declared.syntax.Kind.TheVariants.{Belief, Achieve, Test}
use Rattle.asl_term.specs.declared.syntax.Trigger.{Trigger}
use Rattle.asl_term.specs.declared.syntax.Clause.{Clause}
use Rattle.asl_term.specs.declared.syntax.Plan.{Plan}
use Rattle.asl_term.specs.Trees as tree
use Rattle.asl_term.specs.Exprs as exprs
use Rattle.asl_term.specs.Exprs.{map_arg}
use Rattle.asl_term.proofs.Exprs as folds
use Rattle.asl_term.proofs.Exprs.{OfArg}
use Rattle.asl_lexer.specs.declared.token.Sign.TheVariants as sign
use Rattle.asl_print.specs.Tokens as tokens
use Rattle.asl_lexer.specs.Bare as bares
use Rattle.asl_lexer.specs.Bare.{Bare, mark, stop}
use Rattle.asl_print.specs.Tokens.{rel_sign, term_tokens, literal_tokens, expr_tokens, expr_step, arg_tokens}
use Rattle.asl_print.specs.Brackets as spec
use Rattle.asl_print.proofs.Nesting.{Nests, IsFlat, AllNest, nest_none, nest_then, nest_next, nest_one, nest_args, flat_atom, flat_mark, most_within}
use Rattle.asl_print.proofs.Nested.{nests_same, term_nests, joined_nests}

-- ---- expressions

flat_rel : (o : RelOp) → IsFlat (mark (rel_sign o))
flat_rel rel.Less = flat_mark sign.Less refl
flat_rel rel.LessEq = flat_mark sign.LessEq refl
flat_rel rel.More = flat_mark sign.More refl
flat_rel rel.MoreEq = flat_mark sign.MoreEq refl
flat_rel rel.Same = flat_mark sign.Same refl
flat_rel rel.Differ = flat_mark sign.Differ refl
flat_rel rel.Unify = flat_mark sign.Unify refl

literal_nests : (l : LiteralOf Term) (k : ℕ) → exprs.literal_depth l ≤ k → Nests k (literal_tokens l)
literal_nests l k le = term_nests (term.Lit l) k le

relation_nests : (r : Relation) (k : ℕ) → 1 + max (tree.depth r.left) (tree.depth r.right) ≤ k → Nests k (tokens.relation_tokens r)
relation_nests r zero le = absurd (omega arith)
relation_nests r (suc k) le = joined_nests k (mark (rel_sign r.op)) (term_tokens r.left) (term_tokens r.right) (flat_rel r.op)
    (term_nests r.left k (omega arith)) (term_nests r.right k (omega arith))

abbrev pub ExprNests : Expr → Type 0
ExprNests e = (k : ℕ) → exprs.depth e ≤ k → Nests k (expr_tokens e)

all_args : (k : ℕ) (args : List (ArgOf Expr)) → AllByRecursion (OfArg ExprNests) args
    → tree.greatest (map exprs.arg_depth (map (map_arg exprs.depth) args)) ≤ k → AllNest k (map arg_tokens (map (map_arg expr_tokens) args))
all_args k [] a le = tt
all_args k (Plain t ∷ args) a le = (term_nests t k (omega arith), all_args k args a.1 (omega arith))
all_args k (Logic e ∷ args) a le = (a.0 k (omega arith), all_args k args a.1 (omega arith))

call_nests : (c : CallOf Expr) → AllByRecursion (OfArg ExprNests) c.args → (k : ℕ)
    → 1 + tree.greatest (map exprs.arg_depth (map (map_arg exprs.depth) c.args)) ≤ k
    → Nests k (bares.inner c.name ∷ tokens.between_tokens sign.Open sign.Close (map arg_tokens (map (map_arg expr_tokens) c.args)))
call_nests c args zero le = absurd (omega arith)
call_nests c args (suc k) le = nest_next (suc k) (bares.inner c.name) _ (record { same = λ n. refl; goes = refl })
    (nest_args k _ (all_args k c.args args (omega arith)))

both_nest : (x : Bare) → IsFlat x → (a b : Expr) → ExprNests a → ExprNests b → (k : ℕ) → 1 + max (exprs.depth a) (exprs.depth b) ≤ k
    → Nests k (mark sign.Open ∷ (expr_tokens a ++ x ∷ (expr_tokens b ++ mark sign.Close ∷ [])))
both_nest x f a b g h zero le = absurd (omega arith)
both_nest x f a b g h (suc k) le = joined_nests k x (expr_tokens a) (expr_tokens b) f (g k (omega arith)) (h k (omega arith))

pub expr_nests : (e : Expr) → ExprNests e
expr_nests = folds.by_cases ExprNests (record {
  at_true = λ k le. nests_same k _ _ (folds.fold_true (List Bare) expr_step) (nest_one k _ (flat_atom (codes "true")));
  at_false = λ k le. nests_same k _ _ (folds.fold_false (List Bare) expr_step) (nest_one k _ (flat_atom (codes "false")));
  at_holds = λ l k le. nests_same k _ _ (folds.fold_holds (List Bare) expr_step l)
      (literal_nests l k (omega (arith, folds.fold_holds ℕ exprs.depth_step l)));
  at_rel = λ r k le. nests_same k _ _ (folds.fold_rel (List Bare) expr_step r) (relation_nests r k (omega (arith, folds.fold_rel ℕ exprs.depth_step r)));
  at_inner = λ c args k le. nests_same k _ _ (folds.fold_inner (List Bare) expr_step c)
      (call_nests c args k (omega (arith, folds.fold_inner ℕ exprs.depth_step c)));
  at_not = λ a h k le. nests_same k _ _ (folds.fold_not (List Bare) expr_step a)
      (nest_next k _ _ (flat_atom (codes "not")) (h k (omega (arith, folds.fold_not ℕ exprs.depth_step a))));
  at_and = λ a b g h k le. nests_same k _ _ (folds.fold_and (List Bare) expr_step a b)
      (both_nest (mark sign.Ampersand) (flat_mark sign.Ampersand refl) a b g h k (omega (arith, folds.fold_and ℕ exprs.depth_step a b)));
  at_or = λ a b g h k le. nests_same k _ _ (folds.fold_or (List Bare) expr_step a b)
      (both_nest (mark sign.Bar) (flat_mark sign.Bar refl) a b g h k (omega (arith, folds.fold_or ℕ exprs.depth_step a b)));
})

-- ---- formulas

formula_nests : (f : Formula) (k : ℕ) → spec.formula_depth f ≤ k → Nests k (tokens.formula_tokens f)
formula_nests (formula.Achieve l) k le = nest_next k _ _ (flat_mark sign.Bang refl) (literal_nests l k le)
formula_nests (formula.Spawn l) k le = nest_next k _ _ (flat_mark sign.Bangs refl) (literal_nests l k le)
formula_nests (formula.Test l) k le = nest_next k _ _ (flat_mark sign.Question refl) (literal_nests l k le)
formula_nests (formula.Add l) k le = nest_next k _ _ (flat_mark sign.Plus refl) (literal_nests l k le)
formula_nests (formula.Del l) k le = nest_next k _ _ (flat_mark sign.Minus refl) (literal_nests l k le)
formula_nests (formula.Replace l) k le = nest_next k _ _ (flat_mark sign.MinusPlus refl) (literal_nests l k le)
formula_nests (formula.Act l) k le = literal_nests l k le
formula_nests (formula.Inner c) k le = expr_nests (expr.Inner c) k le
formula_nests (formula.Rel r) k le = relation_nests r k le

-- ---- clauses

-- the tokens are a clause: only the last one is its end
pub record IsClause (k : ℕ) (cs : List Bare) : Type 0 where
  pub front : List Bare
  pub nests : Nests k front
  pub whole : cs ≡ front ++ stop ∷ []

clause_end : (k : ℕ) (xs : List Bare) → Nests k xs → IsClause k (xs ++ stop ∷ [])
clause_end k xs h = record { front = xs; nests = h; whole = refl }

clause_next : (k : ℕ) (x : Bare) (cs : List Bare) → IsFlat x → IsClause k cs → IsClause k (x ∷ cs)
clause_next k x cs f h = record { front = x ∷ h.front; nests = nest_next k x h.front f h.nests; whole = ap (λ z. x ∷ z) h.whole }

clause_then : (k : ℕ) (xs cs : List Bare) → Nests k xs → IsClause k cs → IsClause k (xs ++ cs)
clause_then k xs cs f h = record {
  front = xs ++ h.front;
  nests = nest_then k xs h.front f h.nests;
  whole = ap (λ z. xs ++ z) h.whole
      ∙ sym (append_assoc xs h.front (stop ∷ []));
}

open_in : (k : ℕ) (cs : List Bare) → IsClause k cs → spec.most_open 0 cs ≤ k
open_in k cs h = omega (arith, ap (spec.most_open 0) h.whole, most_within k h.front (stop ∷ []) h.nests)

pub belief_clause : (l : LiteralOf Term) → IsClause (exprs.literal_depth l) (tokens.belief_tokens l)
belief_clause l = let k = exprs.literal_depth l in clause_end k (literal_tokens l) (literal_nests l k (omega arith))

pub goal_clause : (l : LiteralOf Term) → IsClause (exprs.literal_depth l) (tokens.goal_tokens l)
goal_clause l = let k = exprs.literal_depth l in
    clause_next k (mark sign.Bang) _ (flat_mark sign.Bang refl) (clause_end k (literal_tokens l) (literal_nests l k (omega arith)))

pub rule_clause : (r : Clause) → IsClause (spec.rule_depth r) (tokens.rule_tokens r)
rule_clause r =
    let k = spec.rule_depth r in
    clause_then k (literal_tokens r.head) _ (literal_nests r.head k (omega arith))
    (clause_next k (mark sign.If) _ (flat_mark sign.If refl) (clause_end k (expr_tokens r.body) (expr_nests r.body k (omega arith))))

label_nests : (k : ℕ) (o : Option (List ℕ)) → Nests k (tokens.label_tokens o)
label_nests k None = nest_none k
label_nests k (Some label) = nest_next k (mark sign.At) _ (flat_mark sign.At refl) (nest_one k (bares.atom label) (flat_atom label))

kind_nests : (k : ℕ) (kind : Kind) (xs : List Bare) → Nests k xs → Nests k (tokens.kind_tokens kind ++ xs)
kind_nests k Belief xs h = h
kind_nests k Achieve xs h = nest_next k (mark sign.Bang) xs (flat_mark sign.Bang refl) h
kind_nests k Test xs h = nest_next k (mark sign.Question) xs (flat_mark sign.Question refl) h

flat_change : (add : Bool) → IsFlat (tokens.change_token add)
flat_change true = flat_mark sign.Plus refl
flat_change false = flat_mark sign.Minus refl

trigger_nests : (k : ℕ) (t : Trigger) → exprs.literal_depth t.lit ≤ k → Nests k (tokens.trigger_tokens t)
trigger_nests k t le = nest_next k (tokens.change_token t.add) _ (flat_change t.add) (kind_nests k t.kind (literal_tokens t.lit) (literal_nests t.lit k le))

abbrev ContextNests : Expr → Type 0
ContextNests e = (k : ℕ) → exprs.depth e ≤ k → Nests k (tokens.context_tokens e)

colon_nests : (e : Expr) (k : ℕ) → exprs.depth e ≤ k → Nests k (mark sign.Colon ∷ expr_tokens e)
colon_nests e k le = nest_next k (mark sign.Colon) (expr_tokens e) (flat_mark sign.Colon refl) (expr_nests e k le)

context_nests : (e : Expr) → ContextNests e
context_nests = folds.by_cases ContextNests (record {
  at_true = λ k le. nest_none k;
  at_false = colon_nests expr.False;
  at_holds = λ l. colon_nests (expr.Holds l);
  at_rel = λ r. colon_nests (expr.Rel r);
  at_inner = λ c args. colon_nests (expr.Inner c);
  at_not = λ a f. colon_nests (expr.Not a);
  at_and = λ a b f g. colon_nests (expr.And a b);
  at_or = λ a b f g. colon_nests (expr.Or a b);
})

items_nest : (k : ℕ) (fs : List Formula) → spec.greatest_of spec.formula_depth fs ≤ k
    → Nests k (flat_map (λ g. mark sign.Semicolon ∷ tokens.formula_tokens g) fs)
items_nest k [] le = nest_none k
items_nest k (f ∷ fs) le = nest_then k (mark sign.Semicolon ∷ tokens.formula_tokens f) _
    (nest_next k (mark sign.Semicolon) _ (flat_mark sign.Semicolon refl) (formula_nests f k (omega arith))) (items_nest k fs (omega arith))

body_nests : (k : ℕ) (fs : List Formula) → spec.greatest_of spec.formula_depth fs ≤ k → Nests k (tokens.body_tokens fs)
body_nests k [] le = nest_none k
body_nests k (f ∷ fs) le = nest_next k (mark sign.LeftArrow) _ (flat_mark sign.LeftArrow refl)
    (nest_then k (tokens.formula_tokens f) _ (formula_nests f k (omega arith)) (items_nest k fs (omega arith)))

pub plan_clause : (p : Plan) → IsClause (spec.plan_depth p) (tokens.plan_tokens p)
plan_clause p =
    let k = spec.plan_depth p in
    clause_then k (tokens.label_tokens p.label) _ (label_nests k p.label)
    (clause_then k (tokens.trigger_tokens p.trigger) _ (trigger_nests k p.trigger (omega arith))
    (clause_then k (tokens.context_tokens p.context) _ (context_nests p.context k (omega arith))
    (clause_end k (tokens.body_tokens p.body) (body_nests k p.body (omega arith)))))

-- ---- the clauses of an agent

all_open : {A : Type 0} (depth : A → ℕ) (f : A → List Bare) → ((a : A) → IsClause (depth a) (f a)) → (k : ℕ) (all : List A) (cs : List (List Bare))
    → spec.greatest_of depth all ≤ k → All (λ c. spec.most_open 0 c ≤ k) cs → All (λ c. spec.most_open 0 c ≤ k) (map f all ++ cs)
all_open depth f h k [] cs le rest = rest
all_open depth f h k (a ∷ all) cs le rest =
    All-cons (λ c. spec.most_open 0 c ≤ k) (f a) (map f all ++ cs) (omega (arith, open_in (depth a) (f a) (h a)))
    (all_open depth f h k all cs (omega arith) rest)

last_open : {A : Type 0} (depth : A → ℕ) (f : A → List Bare) → ((a : A) → IsClause (depth a) (f a)) → (k : ℕ) (all : List A)
    → spec.greatest_of depth all ≤ k → All (λ c. spec.most_open 0 c ≤ k) (map f all)
last_open depth f h k [] le = All-nil (λ c. spec.most_open 0 c ≤ k)
last_open depth f h k (a ∷ all) le = All-cons (λ c. spec.most_open 0 c ≤ k) (f a) (map f all) (omega (arith, open_in (depth a) (f a) (h a)))
    (last_open depth f h k all (omega arith))

-- ---- the laws

pub belief_nests : spec.BeliefsNest
belief_nests l = open_in (exprs.literal_depth l) (tokens.belief_tokens l) (belief_clause l)

pub rule_nests : spec.RulesNest
rule_nests r = open_in (spec.rule_depth r) (tokens.rule_tokens r) (rule_clause r)

pub goal_nests : spec.GoalsNest
goal_nests l = open_in (exprs.literal_depth l) (tokens.goal_tokens l) (goal_clause l)

pub plan_nests : spec.PlansNest
plan_nests p = open_in (spec.plan_depth p) (tokens.plan_tokens p) (plan_clause p)

pub clauses_nest : spec.ClausesNest
clauses_nest a =
    let k = spec.agent_depth a in
    all_open exprs.literal_depth tokens.belief_tokens belief_clause k a.beliefs _ (omega arith)
    (all_open spec.rule_depth tokens.rule_tokens rule_clause k a.rules _ (omega arith)
    (all_open exprs.literal_depth tokens.goal_tokens goal_clause k a.goals _ (omega arith)
    (last_open spec.plan_depth tokens.plan_tokens plan_clause k a.plans (omega arith))))
