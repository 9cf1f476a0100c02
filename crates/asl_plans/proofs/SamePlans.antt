-- `same_plan` tells whether two plans are the same.
use Rattle.std.proofs.Common.{◌≡◌, ℕ, Bool, true, ◌&&◌, List, [], ◌∷◌, map, Option, Some, None, refl, ap, sym, ◌∙◌}
use Rattle.std.specs.Bool.{Decides, beq}
use Rattle.std.specs.Cmp.{booleans_Decides}
use Rattle.std.specs.List.{AllByRecursion}
use Rattle.std.specs.Str.{bytes_eq}
use Rattle.std.proofs.lemmas.Bool.{false≢true}
use Rattle.std.proofs.lemmas.Bool.Decides.{Decides-at, Decides-like, Decides-and, same_from_decides}
use Rattle.std.proofs.lemmas.Slice.Eq.{bytes_eq-Decides}
use Rattle.asl_term.specs.declared.syntax.ArgOf.{ArgOf}
use Rattle.asl_term.specs.declared.syntax.ArgOf.TheVariants.{Plain, Logic}
use Rattle.asl_term.specs.declared.syntax.CallOf.{CallOf}
use Rattle.asl_term.specs.declared.syntax.LiteralOf.{LiteralOf}
use Rattle.asl_term.specs.declared.syntax.Term.{Term}
use Rattle.asl_term.specs.declared.syntax.Term.TheVariants as term
use Rattle.asl_term.specs.declared.syntax.Term.TheOpen as term_layer
use Rattle.asl_term.specs.declared.syntax.Term.TheViews.{out-Term}
use Rattle.asl_term.proofs.Terms.{out_made}
use Rattle.asl_term.specs.declared.syntax.RelOp.{RelOp}
use Rattle.asl_term.specs.declared.syntax.RelOp.TheVariants.{Less, LessEq, More, MoreEq, Same, Differ, Unify}
use Rattle.asl_term.specs.declared.syntax.Relation.{Relation}
use Rattle.asl_term.specs.declared.syntax.Kind.{Kind}
use Rattle.asl_term.specs.declared.syntax.Kind.TheVariants as kind
use Rattle.asl_term.specs.declared.syntax.Expr.{Expr}
use Rattle.asl_term.specs.declared.syntax.Expr.TheVariants as expr
use Rattle.asl_term.specs.declared.syntax.Expr.TheVariants.{rolls-True, rolls-False, rolls-Holds, rolls-Rel, rolls-Inner, rolls-Not, rolls-And, rolls-Or}
use Rattle.asl_term.specs.declared.syntax.Expr.TheOpen.{Expr-F}
use Rattle.asl_term.specs.declared.syntax.Expr.TheOpen as layer
use Rattle.asl_term.specs.declared.syntax.Expr.TheViews.{out-Expr, roll-Expr, out-roll-Expr, roll-out-Expr}
use Rattle.asl_term.specs.declared.syntax.Formula.{Formula}
use Rattle.asl_term.specs.declared.syntax.Formula.TheVariants as formula
use Rattle.asl_term.specs.declared.syntax.Trigger.{Trigger}
use Rattle.asl_term.specs.declared.syntax.Plan.{Plan}
use Rattle.asl_term.specs.Same.{same_tree}
use Rattle.asl_term.specs.Exprs.{map_arg}
use Rattle.asl_term.proofs.Same.{same_decides}
use Rattle.asl_term.proofs.Exprs.{OfArg, by_cases, map_call, fold_true, fold_false, fold_holds, fold_rel, fold_inner, fold_not, fold_and, fold_or}
use Rattle.asl_plans.specs.Plans.{same_kind}
use Rattle.asl_plans.specs.Same.{same_literal, same_rel_op, same_relation, same_arg, all_args, same_layer, same_expr, same_formula, same_body, same_trigger, same_label, same_plan}

same_lit : (l m : LiteralOf Term) → term.Lit l ≡ term.Lit m → l ≡ m
same_lit l m e =
    let h : term_layer.Lit l ≡ term_layer.Lit m = sym (out_made (term_layer.Lit l)) ∙ ap out-Term e ∙ out_made (term_layer.Lit m) in cc

literal_decides : (l m : LiteralOf Term) → Decides (same_literal l m) (l ≡ m)
literal_decides l m = Decides-like (same_literal l m) (same_lit l m) (λ e. ap term.Lit e) (same_decides (term.Lit l) (term.Lit m))

rel_op_self : (a : RelOp) → same_rel_op a a ≡ true
rel_op_self Less = refl
rel_op_self LessEq = refl
rel_op_self More = refl
rel_op_self MoreEq = refl
rel_op_self Same = refl
rel_op_self Differ = refl
rel_op_self Unify = refl

rel_op_true : (a b : RelOp) → same_rel_op a b ≡ true → a ≡ b
rel_op_true Less Less e = refl
rel_op_true LessEq LessEq e = refl
rel_op_true More More e = refl
rel_op_true MoreEq MoreEq e = refl
rel_op_true Same Same e = refl
rel_op_true Differ Differ e = refl
rel_op_true Unify Unify e = refl
rel_op_true _ _ e = absurd (false≢true e)

rel_op_decides : (a b : RelOp) → Decides (same_rel_op a b) (a ≡ b)
rel_op_decides a b = (rel_op_true a b, λ e. ap (same_rel_op a) (sym e) ∙ rel_op_self a)

relation_decides : (r s : Relation) → Decides (same_relation r s) (r ≡ s)
relation_decides r s =
    let ops = same_rel_op r.op s.op in
    let lefts = same_tree r.left s.left in
    let rights = same_tree r.right s.right in
    Decides-like (ops && lefts && rights)
    (λ p i. record { op = p.0.0 i; left = p.0.1 i; right = p.1 i })
    (λ e. ((ap (λ x. x.op) e, ap (λ x. x.left) e), ap (λ x. x.right) e))
    (Decides-and (ops && lefts) rights (Decides-and ops lefts (rel_op_decides r.op s.op) (same_decides r.left s.left)) (same_decides r.right s.right))

-- ---- expressions

abbrev Tested : Expr → Type 0
Tested a = (b : Expr) → Decides (same_expr a b) (a ≡ b)

arg_decides : (a : ArgOf Expr) → OfArg Tested a → (b : ArgOf Expr) → Decides (same_arg (map_arg same_expr a) b) (a ≡ b)
arg_decides (Plain t) h (Plain u) = Decides-like (same_tree t u) (λ e. ap Plain e) (λ e. cc) (same_decides t u)
arg_decides (Plain t) h (Logic e) = (λ e. absurd (false≢true e), λ e. cc)
arg_decides (Logic d) h (Plain u) = (λ e. absurd (false≢true e), λ e. cc)
arg_decides (Logic d) h (Logic e) = Decides-like (same_expr d e) (λ x. ap Logic x) (λ x. cc) (h e)

args_decide : (xs : List (ArgOf Expr)) → AllByRecursion (OfArg Tested) xs → (bs : List (ArgOf Expr))
    → Decides (all_args (map (map_arg same_expr) xs) bs) (xs ≡ bs)
args_decide [] h [] = (λ e. refl, λ e. refl)
args_decide [] h (b ∷ bs) = (λ e. absurd (false≢true e), λ e. cc)
args_decide (a ∷ xs) h [] = (λ e. absurd (false≢true e), λ e. cc)
args_decide (a ∷ xs) h (b ∷ bs) =
    Decides-like (same_arg (map_arg same_expr a) b && all_args (map (map_arg same_expr) xs) bs) (λ p i. p.0 i ∷ p.1 i) (λ e. (cc, cc))
    (Decides-and (same_arg (map_arg same_expr a) b) (all_args (map (map_arg same_expr) xs) bs) (arg_decides a h.0 b) (args_decide xs h.1 bs))

-- a layer whose parts are tests decides which layer it is
true_decides : (z : Expr-F Expr) → Decides (same_layer layer.True z) (layer.True ≡ z)
true_decides layer.True = (λ e. refl, λ e. refl)
true_decides _ = (λ e. absurd (false≢true e), λ e. cc)

false_decides : (z : Expr-F Expr) → Decides (same_layer layer.False z) (layer.False ≡ z)
false_decides layer.False = (λ e. refl, λ e. refl)
false_decides _ = (λ e. absurd (false≢true e), λ e. cc)

holds_decides : (l : LiteralOf Term) (z : Expr-F Expr) → Decides (same_layer (layer.Holds l) z) (layer.Holds l ≡ z)
holds_decides l (layer.Holds m) = Decides-like (same_literal l m) (λ e. ap layer.Holds e) (λ e. cc) (literal_decides l m)
holds_decides l _ = (λ e. absurd (false≢true e), λ e. cc)

rel_decides : (r : Relation) (z : Expr-F Expr) → Decides (same_layer (layer.Rel r) z) (layer.Rel r ≡ z)
rel_decides r (layer.Rel s) = Decides-like (same_relation r s) (λ e. ap layer.Rel e) (λ e. cc) (relation_decides r s)
rel_decides r _ = (λ e. absurd (false≢true e), λ e. cc)

inner_decides : (c : CallOf Expr) → AllByRecursion (OfArg Tested) c.args → (z : Expr-F Expr)
    → Decides (same_layer (layer.Inner (map_call same_expr c)) z) (layer.Inner c ≡ z)
inner_decides c h (layer.Inner d) =
    let names = bytes_eq c.name d.name in
    let rest = all_args (map (map_arg same_expr) c.args) d.args in
    Decides-like (names && rest)
    (λ p i. layer.Inner (record { name = p.0 i; args = p.1 i }))
    (λ e. let same : c ≡ d = cc in (ap (λ x. x.name) same, ap (λ x. x.args) same))
    (Decides-and names rest (bytes_eq-Decides c.name d.name) (args_decide c.args h d.args))
inner_decides c h _ = (λ e. absurd (false≢true e), λ e. cc)

not_decides : (a : Expr) → Tested a → (z : Expr-F Expr) → Decides (same_layer (layer.Not (same_expr a)) z) (layer.Not a ≡ z)
not_decides a h (layer.Not b) = Decides-like (same_expr a b) (λ e. ap layer.Not e) (λ e. cc) (h b)
not_decides a h _ = (λ e. absurd (false≢true e), λ e. cc)

and_decides : (a b : Expr) → Tested a → Tested b → (z : Expr-F Expr)
    → Decides (same_layer (layer.And (same_expr a) (same_expr b)) z) (layer.And a b ≡ z)
and_decides a b h g (layer.And c d) =
    Decides-like (same_expr a c && same_expr b d) (λ p i. layer.And (p.0 i) (p.1 i)) (λ e. (cc, cc))
    (Decides-and (same_expr a c) (same_expr b d) (h c) (g d))
and_decides a b h g _ = (λ e. absurd (false≢true e), λ e. cc)

or_decides : (a b : Expr) → Tested a → Tested b → (z : Expr-F Expr)
    → Decides (same_layer (layer.Or (same_expr a) (same_expr b)) z) (layer.Or a b ≡ z)
or_decides a b h g (layer.Or c d) =
    Decides-like (same_expr a c && same_expr b d) (λ p i. layer.Or (p.0 i) (p.1 i)) (λ e. (cc, cc))
    (Decides-and (same_expr a c) (same_expr b d) (h c) (g d))
or_decides a b h g _ = (λ e. absurd (false≢true e), λ e. cc)

abbrev step : Expr-F (Expr → Bool) → Expr → Bool
step y e = same_layer y (out-Expr e)

-- from a layer to its expression
by_layer : (a : Expr) (x : Expr-F Expr) (y : Expr-F (Expr → Bool)) → roll-Expr x ≡ a → same_expr a ≡ (λ e. same_layer y (out-Expr e))
    → ((z : Expr-F Expr) → Decides (same_layer y z) (x ≡ z)) → Tested a
by_layer a x y r s d b =
    Decides-at (same_expr a b) (same_layer y (out-Expr b)) (ap (λ f. f b) s)
    (Decides-like (same_layer y (out-Expr b)) (λ e. sym r ∙ ap roll-Expr e ∙ roll-out-Expr b)
    (λ e. sym (out-roll-Expr x) ∙ ap out-Expr (r ∙ e)) (d (out-Expr b)))

-- `same_expr` is true exactly where the expressions are one
expr_decides : (a b : Expr) → Decides (same_expr a b) (a ≡ b)
expr_decides = by_cases Tested (record {
  at_true = by_layer expr.True layer.True layer.True rolls-True (fold_true (Expr → Bool) step) true_decides;
  at_false = by_layer expr.False layer.False layer.False rolls-False (fold_false (Expr → Bool) step) false_decides;
  at_holds = λ l. by_layer (expr.Holds l) (layer.Holds l) (layer.Holds l) (rolls-Holds l) (fold_holds (Expr → Bool) step l) (holds_decides l);
  at_rel = λ r. by_layer (expr.Rel r) (layer.Rel r) (layer.Rel r) (rolls-Rel r) (fold_rel (Expr → Bool) step r) (rel_decides r);
  at_inner = λ c h.
      by_layer (expr.Inner c) (layer.Inner c) (layer.Inner (map_call same_expr c)) (rolls-Inner c) (fold_inner (Expr → Bool) step c) (inner_decides c h);
  at_not = λ a h. by_layer (expr.Not a) (layer.Not a) (layer.Not (same_expr a)) (rolls-Not a) (fold_not (Expr → Bool) step a) (not_decides a h);
  at_and = λ a b h g.
      by_layer (expr.And a b) (layer.And a b) (layer.And (same_expr a) (same_expr b)) (rolls-And a b) (fold_and (Expr → Bool) step a b) (and_decides a b h g);
  at_or = λ a b h g.
      by_layer (expr.Or a b) (layer.Or a b) (layer.Or (same_expr a) (same_expr b)) (rolls-Or a b) (fold_or (Expr → Bool) step a b) (or_decides a b h g);
})

-- ---- plans

out_inner : (c : CallOf Expr) → out-Expr (expr.Inner c) ≡ layer.Inner c
out_inner c = ap out-Expr (sym (rolls-Inner c)) ∙ out-roll-Expr (layer.Inner c)

same_inner : (c d : CallOf Expr) → expr.Inner c ≡ expr.Inner d → c ≡ d
same_inner c d e = let h : layer.Inner c ≡ layer.Inner d = sym (out_inner c) ∙ ap out-Expr e ∙ out_inner d in cc

call_decides : (c d : CallOf Expr) → Decides (same_expr (expr.Inner c) (expr.Inner d)) (c ≡ d)
call_decides c d =
    Decides-like (same_expr (expr.Inner c) (expr.Inner d)) (same_inner c d) (λ e. ap expr.Inner e) (expr_decides (expr.Inner c) (expr.Inner d))

formula_decides : (f g : Formula) → Decides (same_formula f g) (f ≡ g)
formula_decides (formula.Achieve l) (formula.Achieve m) = Decides-like (same_literal l m) (λ e. ap formula.Achieve e) (λ e. cc) (literal_decides l m)
formula_decides (formula.Spawn l) (formula.Spawn m) = Decides-like (same_literal l m) (λ e. ap formula.Spawn e) (λ e. cc) (literal_decides l m)
formula_decides (formula.Test l) (formula.Test m) = Decides-like (same_literal l m) (λ e. ap formula.Test e) (λ e. cc) (literal_decides l m)
formula_decides (formula.Add l) (formula.Add m) = Decides-like (same_literal l m) (λ e. ap formula.Add e) (λ e. cc) (literal_decides l m)
formula_decides (formula.Del l) (formula.Del m) = Decides-like (same_literal l m) (λ e. ap formula.Del e) (λ e. cc) (literal_decides l m)
formula_decides (formula.Replace l) (formula.Replace m) = Decides-like (same_literal l m) (λ e. ap formula.Replace e) (λ e. cc) (literal_decides l m)
formula_decides (formula.Act l) (formula.Act m) = Decides-like (same_literal l m) (λ e. ap formula.Act e) (λ e. cc) (literal_decides l m)
formula_decides (formula.Inner c) (formula.Inner d) =
    Decides-like (same_expr (expr.Inner c) (expr.Inner d)) (λ e. ap formula.Inner e) (λ e. cc) (call_decides c d)
formula_decides (formula.Rel r) (formula.Rel s) = Decides-like (same_relation r s) (λ e. ap formula.Rel e) (λ e. cc) (relation_decides r s)
formula_decides _ _ = (λ e. absurd (false≢true e), λ e. cc)

body_decides : (fs gs : List Formula) → Decides (same_body fs gs) (fs ≡ gs)
body_decides [] [] = (λ e. refl, λ e. refl)
body_decides [] (g ∷ gs) = (λ e. absurd (false≢true e), λ e. cc)
body_decides (f ∷ fs) [] = (λ e. absurd (false≢true e), λ e. cc)
body_decides (f ∷ fs) (g ∷ gs) =
    Decides-like (same_formula f g && same_body fs gs) (λ p i. p.0 i ∷ p.1 i) (λ e. (cc, cc))
    (Decides-and (same_formula f g) (same_body fs gs) (formula_decides f g) (body_decides fs gs))

kind_decides : (a b : Kind) → Decides (same_kind a b) (a ≡ b)
kind_decides kind.Belief kind.Belief = (λ e. refl, λ e. refl)
kind_decides kind.Achieve kind.Achieve = (λ e. refl, λ e. refl)
kind_decides kind.Test kind.Test = (λ e. refl, λ e. refl)
kind_decides _ _ = (λ e. absurd (false≢true e), λ e. cc)

trigger_decides : (t u : Trigger) → Decides (same_trigger t u) (t ≡ u)
trigger_decides t u =
    let adds = beq t.add u.add in
    let kinds = same_kind t.kind u.kind in
    let lits = same_literal t.lit u.lit in
    Decides-like (adds && kinds && lits)
    (λ p i. record { add = p.0.0 i; kind = p.0.1 i; lit = p.1 i })
    (λ e. ((ap (λ x. x.add) e, ap (λ x. x.kind) e), ap (λ x. x.lit) e))
    (Decides-and (adds && kinds) lits (Decides-and adds kinds (booleans_Decides t.add u.add) (kind_decides t.kind u.kind)) (literal_decides t.lit u.lit))

label_decides : (a b : Option (List ℕ)) → Decides (same_label a b) (a ≡ b)
label_decides None None = (λ e. refl, λ e. refl)
label_decides (Some a) (Some b) = Decides-like (bytes_eq a b) (λ e. ap Some e) (λ e. cc) (bytes_eq-Decides a b)
label_decides _ _ = (λ e. absurd (false≢true e), λ e. cc)

-- `same_plan` is true exactly where the plans are one
pub plan_decides : (p q : Plan) → Decides (same_plan p q) (p ≡ q)
plan_decides p q =
    let labels = same_label p.label q.label in
    let triggers = same_trigger p.trigger q.trigger in
    let contexts = same_expr p.context q.context in
    let bodies = same_body p.body q.body in
    Decides-like (labels && triggers && contexts && bodies)
    (λ h i. record { label = h.0.0.0 i; trigger = h.0.0.1 i; context = h.0.1 i; body = h.1 i })
    (λ e. (((ap (λ x. x.label) e, ap (λ x. x.trigger) e), ap (λ x. x.context) e), ap (λ x. x.body) e))
    (Decides-and (labels && triggers && contexts) bodies
    (Decides-and (labels && triggers) contexts
    (Decides-and labels triggers (label_decides p.label q.label) (trigger_decides p.trigger q.trigger))
    (expr_decides p.context q.context))
    (body_decides p.body q.body))

pub plan_true : (p q : Plan) → same_plan p q ≡ true → p ≡ q
plan_true p q e = (plan_decides p q).0 e

pub plan_self : (p : Plan) → same_plan p p ≡ true
plan_self p = (plan_decides p p).1 refl

-- what tells whether two plans are one is `same_plan`
pub plan_value : (r : Bool) (p q : Plan) → Decides r (p ≡ q) → r ≡ same_plan p q
plan_value r p q d = same_from_decides r (same_plan p q) d (plan_decides p q)
