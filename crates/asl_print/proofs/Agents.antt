-- The tokens of the texts of clauses, plans and agents.
use Rattle.std.proofs.Common.{◌≡◌, ℕ, Bool, true, false, List, [], ◌∷◌, ◌++◌, ◌||◌, Option, Some, None, refl, sym, ◌∙◌, subst, append_assoc}
use Rattle.std.specs.Prelude.{not, codes}
use Rattle.std.specs.List.{list_all, flat_map}
use Rattle.asl_term.specs.declared.syntax.LiteralOf.{LiteralOf}
use Rattle.asl_term.specs.declared.syntax.Term.{Term}
use Rattle.asl_term.specs.declared.syntax.Expr.{Expr}
use Rattle.asl_term.specs.declared.syntax.Expr.TheVariants as expr
use Rattle.asl_term.specs.declared.syntax.Formula.{Formula}
use Rattle.asl_term.specs.declared.syntax.Kind.{Kind}
use Rattle.asl_term.specs.declared.syntax.Kind.TheVariants.{Belief, Achieve, Test}
use Rattle.asl_term.specs.declared.syntax.Trigger.{Trigger}
use Rattle.asl_term.specs.declared.syntax.Clause.{Clause}
use Rattle.asl_term.specs.declared.syntax.Plan.{Plan}
use Rattle.asl_term.specs.declared.syntax.AgentText.{AgentText}
use Rattle.asl_term.specs.Exprs.{literal_text, text, formula_text}
use Rattle.asl_term.proofs.Exprs.{by_cases}
use Rattle.asl_lexer.specs.declared.token.Sign.TheVariants as sign
use Rattle.asl_lexer.specs.Spelling.{is_lower, is_upper, is_digit}
use Rattle.asl_lexer.specs.Seams.{Gives, Any, NoName, Stop}
use Rattle.asl_print.specs.Agents as spec
use Rattle.asl_print.specs.Tokens as tokens
use Rattle.asl_lexer.specs.Bare as bares
use Rattle.asl_lexer.specs.Bare.{Bare, mark}
use Rattle.asl_print.specs.Spelled as spelled
use Rattle.asl_lexer.proofs.Bytes.{both}
use Rattle.asl_lexer.proofs.Seams.{names_give, gives_nothing, narrower, whole, then, next, same_gives, from_four, from_five}
use Rattle.asl_lexer.proofs.SignTexts as signs
use Rattle.asl_lexer.proofs.SignTexts.{space, line_end, stop_gives}
use Rattle.asl_print.specs.Laws.{LinesLex, LinesEnd}
use Rattle.std.proofs.lemmas.List.{append-nil}
use Rattle.asl_print.proofs.Exprs.{literal_gives, literal_free, expr_gives, formula_gives}

-- ---- beliefs, rules and goals

belief_gives : (l : LiteralOf Term) → spelled.is_spelled_literal l ≡ true → Gives Any (spec.belief_text l) (tokens.belief_tokens l)
belief_gives l s = then (literal_gives l s) line_end (λ rest q. refl)

rule_gives : (r : Clause) → spelled.is_spelled_rule r ≡ true → Gives Any (spec.rule_text r) (tokens.rule_tokens r)
rule_gives r s =
    let h = both (spelled.is_spelled_literal r.head) (spelled.is_spelled_expr r.body) s in
    let body : Gives Any (text r.body ++ codes ".\n") (tokens.expr_tokens r.body ++ bares.stop ∷ []) =
    then (expr_gives r.body h.1) line_end (λ rest q. refl) in
    same_gives (from_four (literal_text r.head) (codes " :- ") (text r.body) (codes ".\n")) refl
    (then (literal_gives r.head h.0) (next space (next signs.if_mark (next space body))) (λ rest q. refl))

goal_gives : (l : LiteralOf Term) → spelled.is_spelled_literal l ≡ true → Gives Any (spec.goal_text l) (tokens.goal_tokens l)
goal_gives l s = then (then signs.bang (literal_gives l s) (λ rest q. literal_free l s rest)) line_end (λ rest q. refl)

-- ---- plans

label_gives : (o : Option (List ℕ)) → spelled.is_spelled_label o ≡ true → Gives Any (spec.label_text o) (tokens.label_tokens o)
label_gives None s = gives_nothing Any
label_gives (Some label) s = then (next signs.at (names_give label s)) space (λ rest q. refl)

kind_gives : (k : Kind) (l : LiteralOf Term) → spelled.is_spelled_literal l ≡ true
    → Gives Stop (spec.kind_text k ++ literal_text l) (tokens.kind_tokens k ++ tokens.literal_tokens l)
kind_gives Belief l s = literal_gives l s
kind_gives Achieve l s = then signs.bang (literal_gives l s) (λ rest q. literal_free l s rest)
kind_gives Test l s = next signs.question (literal_gives l s)

kind_no_minus : (k : Kind) (l : LiteralOf Term) → spelled.is_spelled_literal l ≡ true → (rest : List ℕ)
    → signs.NoMinus ((spec.kind_text k ++ literal_text l) ++ rest)
kind_no_minus Belief l s rest = signs.free_minus _ (literal_free l s rest)
kind_no_minus Achieve l s rest = (refl, refl)
kind_no_minus Test l s rest = (refl, refl)

change_gives : (add : Bool) (k : Kind) (l : LiteralOf Term) → spelled.is_spelled_literal l ≡ true
    → Gives Stop (spec.change_text add ++ (spec.kind_text k ++ literal_text l)) (tokens.change_token add ∷ (tokens.kind_tokens k ++ tokens.literal_tokens l))
change_gives true k l s = next signs.plus (kind_gives k l s)
change_gives false k l s = then signs.minus (kind_gives k l s) (λ rest q. kind_no_minus k l s rest)

trigger_gives : (t : Trigger) → spelled.is_spelled_literal t.lit ≡ true → Gives Stop (spec.trigger_text t) (tokens.trigger_tokens t)
trigger_gives t s = same_gives (append_assoc (spec.change_text t.add) (spec.kind_text t.kind) (literal_text t.lit)) refl (change_gives t.add t.kind t.lit s)

colon_gives : (e : Expr) → spelled.is_spelled_expr e ≡ true → Gives Stop (codes " : " ++ text e) (mark sign.Colon ∷ tokens.expr_tokens e)
colon_gives e s = next space (then signs.colon (next space (expr_gives e s)) (λ rest q. signs.blank_free))

abbrev ContextGives : Expr → Type 0
ContextGives e = spelled.is_spelled_expr e ≡ true → Gives Stop (spec.context_text e) (tokens.context_tokens e)

context_gives : (e : Expr) → ContextGives e
context_gives = by_cases ContextGives (record {
  at_true = λ s. gives_nothing Stop;
  at_false = colon_gives expr.False;
  at_holds = λ l. colon_gives (expr.Holds l);
  at_rel = λ r. colon_gives (expr.Rel r);
  at_inner = λ c args. colon_gives (expr.Inner c);
  at_not = λ a f. colon_gives (expr.Not a);
  at_and = λ a b f g. colon_gives (expr.And a b);
  at_or = λ a b f g. colon_gives (expr.Or a b);
})

abbrev ContextStops : Expr → Type 0
ContextStops e = (rest : List ℕ) → Stop rest → Stop (spec.context_text e ++ rest)

context_stops : (e : Expr) → ContextStops e
context_stops = by_cases ContextStops (record {
  at_true = λ rest q. q;
  at_false = λ rest q. refl;
  at_holds = λ l rest q. refl;
  at_rel = λ r rest q. refl;
  at_inner = λ c args rest q. refl;
  at_not = λ a f rest q. refl;
  at_and = λ a b f g rest q. refl;
  at_or = λ a b f g rest q. refl;
})

items_stop : (fs : List Formula) (rest : List ℕ) → Stop rest → Stop (flat_map (λ g. codes "; " ++ formula_text g) fs ++ rest)
items_stop [] rest q = q
items_stop (f ∷ fs) rest q = refl

items_give : (fs : List Formula) → list_all spelled.is_spelled_formula fs ≡ true
    → Gives Stop (flat_map (λ g. codes "; " ++ formula_text g) fs) (flat_map (λ g. mark sign.Semicolon ∷ tokens.formula_tokens g) fs)
items_give [] s = gives_nothing Stop
items_give (f ∷ fs) s =
    let h = both (spelled.is_spelled_formula f) (list_all spelled.is_spelled_formula fs) s in
    let one : Gives Stop (codes "; " ++ formula_text f) (mark sign.Semicolon ∷ tokens.formula_tokens f) =
    next signs.semicolon (next space (formula_gives f h.0)) in
    then one (items_give fs h.1) (items_stop fs)

body_gives : (fs : List Formula) → list_all spelled.is_spelled_formula fs ≡ true → Gives Stop (spec.body_text fs) (tokens.body_tokens fs)
body_gives [] s = gives_nothing Stop
body_gives (f ∷ fs) s =
    let h = both (spelled.is_spelled_formula f) (list_all spelled.is_spelled_formula fs) s in
    let first : Gives Stop (codes " <- " ++ formula_text f) (mark sign.LeftArrow ∷ tokens.formula_tokens f) =
    next space (next signs.left_arrow (next space (formula_gives f h.0))) in
    then first (items_give fs h.1) (items_stop fs)

body_stops : (fs : List Formula) (rest : List ℕ) → Stop rest → Stop (spec.body_text fs ++ rest)
body_stops [] rest q = q
body_stops (f ∷ fs) rest q = refl

-- the parts of a plan before what ends it
module _ (p : Plan) (end : List ℕ) (Q : List ℕ → Type 0) where
  abbrev behind_trigger : List ℕ
  behind_trigger = spec.context_text p.context ++ (spec.body_text p.body ++ end)

  parts_give : spelled.is_spelled_plan p ≡ true → Gives Q end (bares.stop ∷ []) → ((rest : List ℕ) → Stop (end ++ rest))
      → Gives Q (spec.label_text p.label ++ (spec.trigger_text p.trigger ++ behind_trigger)) (tokens.plan_tokens p)
  parts_give s ends stops =
      let h = both _ _ s in
      let g = both _ _ h.1 in
      let k = both _ _ g.1 in
      let last : Gives Q (spec.body_text p.body ++ end) (tokens.body_tokens p.body ++ bares.stop ∷ []) =
      then (body_gives p.body k.1) ends (λ rest q. stops rest) in
      let behind : (rest : List ℕ) → Stop ((spec.body_text p.body ++ end) ++ rest) =
      λ rest. subst Stop (sym (append_assoc (spec.body_text p.body) end rest)) (body_stops p.body (end ++ rest) (stops rest)) in
      let after_trigger : (rest : List ℕ) → Stop (behind_trigger ++ rest) =
      λ rest. subst Stop (sym (append_assoc (spec.context_text p.context) (spec.body_text p.body ++ end) rest))
      (context_stops p.context _ (behind rest)) in
      next (label_gives p.label h.0) (then (trigger_gives p.trigger g.0) (then (context_gives p.context k.0) last (λ rest q. behind rest))
      (λ rest q. after_trigger rest))

pub plan_gives : (p : Plan) → spelled.is_spelled_plan p ≡ true → Gives Any (spec.plan_text p) (tokens.plan_tokens p)
plan_gives p s =
    same_gives (from_five (spec.label_text p.label) (spec.trigger_text p.trigger) (spec.context_text p.context) (spec.body_text p.body) (codes ".\n")) refl
    (parts_give p (codes ".\n") Any s line_end (λ rest. refl))

-- before what begins no name
pub line_gives : (p : Plan) → spelled.is_spelled_plan p ≡ true → Gives NoName (spec.plan_line p) (tokens.plan_tokens p)
line_gives p s =
    same_gives (from_five (spec.label_text p.label) (spec.trigger_text p.trigger) (spec.context_text p.context) (spec.body_text p.body) (codes ".")) refl
    (parts_give p (codes ".") NoName s stop_gives (λ rest. refl))

no_name : (rest : List ℕ) → Stop rest → NoName rest
no_name [] q = refl
no_name (b ∷ rest) q = no_lower (is_lower b) (is_upper b) (is_digit b) q where
  no_lower : (l u d : Bool) → not ((l || u) || d) ≡ true → l ≡ false
  no_lower false u d e = refl
  no_lower true u d e = cc

pub line_stops : (p : Plan) → spelled.is_spelled_plan p ≡ true → Gives Stop (spec.plan_line p) (tokens.plan_tokens p)
line_stops p s = narrower no_name (line_gives p s)

pub lines_lex : LinesLex
lines_lex p s = whole (line_stops p s)

pub lines_end : LinesEnd
lines_end p = append-nil (spec.plan_text p) ∙ sym (append_assoc _ (codes ".") (codes "\n"))

-- ---- agents

all_give : {A : Type 0} (t : A → List ℕ) (x : A → List Bare) (ok : A → Bool) → ((a : A) → ok a ≡ true → Gives Any (t a) (x a)) → (all : List A)
    → list_all ok all ≡ true → Gives Any (flat_map t all) (flat_map x all)
all_give t x ok h [] s = gives_nothing Any
all_give t x ok h (a ∷ all) s = let k = both (ok a) (list_all ok all) s in next (h a k.0) (all_give t x ok h all k.1)

pub agent_gives : (a : AgentText) → spelled.is_spelled_agent a ≡ true → Gives Any (spec.agent_text a) (tokens.agent_tokens a)
agent_gives a s =
    let h = both _ _ s in
    let g = both _ _ h.1 in
    let k = both _ _ g.1 in
    let beliefs = all_give spec.belief_text tokens.belief_tokens spelled.is_spelled_literal belief_gives a.beliefs h.0 in
    let rules = all_give spec.rule_text tokens.rule_tokens spelled.is_spelled_rule rule_gives a.rules g.0 in
    let goals = all_give spec.goal_text tokens.goal_tokens spelled.is_spelled_literal goal_gives a.goals k.0 in
    let plans = all_give spec.plan_text tokens.plan_tokens spelled.is_spelled_plan plan_gives a.plans k.1 in
    same_gives (from_four (flat_map spec.belief_text a.beliefs) (flat_map spec.rule_text a.rules) (flat_map spec.goal_text a.goals)
    (flat_map spec.plan_text a.plans)) refl
    (next beliefs (next rules (next goals plans)))
