-- Clauses that are read say what is so, and a source is made of these.
use Rattle.std.proofs.Common.{◌≡◌, ℕ, Bool, true, false, cond, if◌then◌else◌, List, [], ◌∷◌, ◌++◌, Ok, Option, Some, None, IfSome, refl, sym, ◌∙◌, subst, arith}
use Rattle.std.specs.List.{AllByRecursion, list_any}
use Rattle.asl_lexer.specs.declared.token.Tok.{Tok}
use Rattle.asl_term.specs.declared.syntax.AgentText.{AgentText}
use Rattle.asl_term.specs.declared.syntax.ArgOf.{ArgOf}
use Rattle.asl_term.specs.declared.syntax.ArgOf.TheVariants.{Plain, Logic}
use Rattle.asl_term.specs.declared.syntax.Expr.{Expr}
use Rattle.asl_term.specs.declared.syntax.Expr.TheVariants as expr
use Rattle.asl_term.specs.declared.syntax.Formula.{Formula}
use Rattle.asl_term.specs.declared.syntax.Formula.TheVariants as formula
use Rattle.asl_term.specs.declared.syntax.LiteralOf.{LiteralOf}
use Rattle.asl_term.specs.declared.syntax.Plan.{Plan}
use Rattle.asl_term.specs.declared.syntax.Term.{Term}
use Rattle.asl_term.specs.declared.syntax.Trigger.{Trigger}
use Rattle.asl_term.specs.declared.syntax.Var.{Var}
use Rattle.asl_term.specs.Exprs.{is_ground_literal}
use Rattle.asl_term.specs.Same.{same_tree}
use Rattle.asl_term.specs.Variables.{occurs}
use Rattle.asl_term.proofs.Exprs.{fold_true}
use Rattle.asl_unify.specs.Facts.{Rule}
use Rattle.asl_unify.specs.inner.Costs.{weight}
use Rattle.asl_unify.proofs.Cuts.{all_push}
use Rattle.asl_unify.proofs.General.{and_true}
use Rattle.asl_unify.proofs.Marks.{weighs-inside}
use Rattle.asl_lint_laws.specs.Fresh.{late, expr_count_step, ExprBelow, FactBelow}
use Rattle.asl_lint_laws.proofs.Exprs.{count_rel}
use Rattle.asl_parser_tree.specs.declared.lexeme.Lexeme.{Lexeme}
use Rattle.asl_parser_tree.specs.declared.meaning.Meaning.{Meaning}
use Rattle.asl_parser_tree.specs.declared.meaning.Meaning.TheVariants as meaning
use Rattle.asl_parser_tree.specs.Plain.{is_plain, are_plain, is_plain_literal, is_action}
use Rattle.asl_parser.specs.declared.sentence.ItemSign.{ItemSign}
use Rattle.asl_parser.specs.declared.sentence.ItemSign.TheVariants as deed
use Rattle.asl_parser.specs.declared.sentence.Sentence.{Sentence}
use Rattle.asl_parser.specs.declared.sentence.Sentence.TheVariants as sentence
use Rattle.asl_parser.specs.Sentences.{once_behind, kept_once, fact, done, item_of, before}
use Rattle.asl_parser.specs.Sentences.{ReadsFormula, a_formula, ReadsHead, a_head, ReadsTrigger, a_trigger, ReadsContext, no_context, a_context}
use Rattle.asl_parser.specs.Sentences.{ReadsItem, with_sign, without_sign, ReadsItemList, only_item, more_items, ReadsBody, no_body, a_body}
use Rattle.asl_parser.specs.Sentences.{Says, says_fact, says_rule, says_goal, says_plan}
use Rattle.asl_parser.specs.Agents.{nothing, added, all_added, Answers, is_read, all_read}
use Rattle.asl_lint_laws.specs.Written.{AreWritten}
use Rattle.asl_lint_laws.specs.Served.{HasWritten}
use Rattle.asl_lint_laws.proofs.Fresh.{flat_is_tidy}
use Rattle.asl_lint_laws.specs.Linted.{IsMergedArg}
use Rattle.asl_lint_laws.specs.Agendas.{IsOlder, FormulaBelow}
use Rattle.asl_lint_laws.specs.Read.{HasMerged, IsReadPlan, IsRead}
use Rattle.asl_lint_laws.proofs.Ages.{late_below}
use Rattle.asl_lint_laws.proofs.Later.{each_weaker}
use Rattle.mas_top_laws.proofs.Good.{Good, AllGood, GoodLit, lit_below, lit_merged}
use Rattle.mas_top_laws.proofs.Meant.{some_is, GoodArg, IsGood, call_below, good_formula, reads_good, literal_good}
use Rattle.mas_top_laws.specs.Read.{SourcesAreRead}

-- ---- heads

older : (l : LiteralOf Term) → GoodLit l → IsOlder 1 l
older l g = record { below = lit_below l g; merged = lit_merged l g }

unnumbered : (t : Term) → weight (late 1) t ≡ 0 → (x : Var) → occurs x t ≡ true → x.number ≡ 0
unnumbered t b x o = let w = weighs-inside (late 1) x t o in let a = late_below 1 x (omega (arith, w, b)) in omega (arith, a)

written : (ts : List Term) → AllGood ts → are_plain ts ≡ true → AreWritten ts
written [] a p = tt
written (t ∷ ts) a p =
    let s = and_true (is_plain t) (are_plain ts) p in
    (record { unnumbered = unnumbered t a.0.below; tidy = flat_is_tidy t a.0.merged; plain = s.0 }, written ts a.1 s.1)

record GoodHead (l : LiteralOf Term) : Type 0 where
  good : GoodLit l
  plain : is_plain_literal l ≡ true

head_good : {n : ℕ} {xs ys : List Lexeme} {l : LiteralOf Term} → ReadsHead n xs ys l → GoodHead l
head_good (a_head r p) = record { good = literal_good r; plain = p }

trigger_good : {n : ℕ} {xs ys : List Lexeme} {t : Trigger} → ReadsTrigger n xs ys t → GoodHead t.lit
trigger_good (a_trigger a k h) = head_good h

has_written : (p : Plan) → GoodHead p.trigger.lit → HasWritten p
has_written p h =
    let s = and_true (are_plain p.trigger.lit.args) (are_plain p.trigger.lit.annots) h.plain in
    record { args = written p.trigger.lit.args h.good.args s.0; annots = written p.trigger.lit.annots h.good.annots s.1 }

-- ---- formulas

formula_below : {n : ℕ} {xs ys : List Lexeme} {e : Expr} → ReadsFormula n xs ys e → ExprBelow 1 e
formula_below (a_formula {m = m} {e = e} r f) = good_formula m (reads_good r) e f

context_below : {n : ℕ} {xs ys : List Lexeme} {e : Expr} → ReadsContext n xs ys e → ExprBelow 1 e
context_below no_context = fold_true ℕ (expr_count_step (late 1))
context_below (a_context r) = formula_below r

-- ---- items

record GoodItem (f : Formula) : Type 0 where
  below : FormulaBelow 1 f
  merged : HasMerged f

abbrev GoodBody : List Formula → Type 0
GoodBody = AllByRecursion GoodItem

done_good : (d : ItemSign) (l : LiteralOf Term) → GoodLit l → GoodItem (done d l)
done_good deed.Achieve l g = record { below = lit_below l g; merged = lit_merged l g }
done_good deed.Spawn l g = record { below = lit_below l g; merged = lit_merged l g }
done_good deed.Test l g = record { below = lit_below l g; merged = lit_merged l g }
done_good deed.Add l g = record { below = lit_below l g; merged = tt }
done_good deed.Del l g = record { below = lit_below l g; merged = tt }
done_good deed.Replace l g = record { below = lit_below l g; merged = tt }

args_merged : (args : List (ArgOf Expr)) → AllByRecursion GoodArg args → AllByRecursion IsMergedArg args
args_merged [] a = tt
args_merged (Plain t ∷ args) a = (a.0.merged, args_merged args a.1)
args_merged (Logic e ∷ args) a = (tt, args_merged args a.1)

abbrev GoodIfAny : Option Formula → Type 0
GoodIfAny o = IfSome o GoodItem

item_good : (m : Meaning) → IsGood m → (o : Option Formula) → item_of m ≡ Some o → GoodIfAny o
item_good (meaning.Truth b l) g o e = go b e where
  go : (b : Bool) → (if b then Some None else None) ≡ Some o → GoodIfAny o
  go true e = subst GoodIfAny (some_is None o e) tt
  go false e = cc
item_good (meaning.Literal l) g o e = go (is_action l) e where
  go : (b : Bool) → (if b then Some (Some (formula.Act l)) else None) ≡ Some o → GoodIfAny o
  go true e = subst GoodIfAny (some_is (Some (formula.Act l)) o e) (record { below = lit_below l g; merged = tt })
  go false e = cc
item_good (meaning.Term t) g o e = cc
item_good (meaning.Relation r) g o e =
    let one = g.0.below in
    let two = g.1.below in
    let both : ExprBelow 1 (expr.Rel r) = count_rel (late 1) r ∙ omega (arith, one, two) in
    subst GoodIfAny (some_is (Some (formula.Rel r)) o e) (record { below = both; merged = tt })
item_good (meaning.Call c) g o e =
    subst GoodIfAny (some_is (Some (formula.Inner c)) o e) (record { below = call_below c g; merged = (args_merged c.args g.args, g.arity) })
item_good (meaning.Formula f) g o e = cc

item_read : {n : ℕ} {xs ys : List Lexeme} {o : Option Formula} → ReadsItem n xs ys o → GoodIfAny o
item_read (with_sign {d = d} {l = l} s r e) = subst GoodItem e (done_good d l (literal_good r))
item_read (without_sign {m = m} {o = o} s r e) = item_good m (reads_good r) o e

before_good : (o : Option Formula) (fs : List Formula) → GoodIfAny o → GoodBody fs → GoodBody (before o fs)
before_good None fs a b = b
before_good (Some f) fs a b = (a, b)

list_read : {n : ℕ} {xs ys : List Lexeme} {fs : List Formula} → ReadsItemList n xs ys fs → GoodBody fs
list_read (only_item {o = o} r e) = subst GoodBody e (before_good o [] (item_read r) tt)
list_read (more_items {o = o} {fs = fs} r s e) = subst GoodBody e (before_good o fs (item_read r) (list_read s))

body_read : {n : ℕ} {xs ys : List Lexeme} {fs : List Formula} → ReadsBody n xs ys fs → GoodBody fs
body_read no_body = tt
body_read (a_body r) = list_read r

-- ---- clauses

abbrev IsSo : Sentence → Type 0
IsSo (sentence.Belief l) = is_ground_literal l ≡ true
IsSo (sentence.Rule c) = FactBelow (Rule c)
IsSo (sentence.Goal l) = IsOlder 1 l
IsSo (sentence.Plan p) = IsReadPlan p

once_good : (front ts : List Term) → AllGood front → AllGood ts → AllGood (once_behind front ts)
once_good front [] a b = a
once_good front (t ∷ ts) a b =
    go (list_any (same_tree t) front) (once_good front ts a b.1) (once_good (front ++ t ∷ []) ts (all_push Good front t a b.0) b.1) where
      go : (c : Bool) → AllGood (once_behind front ts) → AllGood (once_behind (front ++ t ∷ []) ts)
          → AllGood (cond c (once_behind front ts) (once_behind (front ++ t ∷ []) ts))
      go true seen other = seen
      go false seen other = other

kept_good : (l : LiteralOf Term) → GoodLit l → GoodLit (kept_once l)
kept_good l g = record { args = g.args; annots = once_good [] l.annots tt g.annots }

fact_is : (l : LiteralOf Term) → GoodLit l → IsSo (fact l)
fact_is l g = go (kept_once l) (is_ground_literal (kept_once l)) refl (kept_good l g) where
  go : (m : LiteralOf Term) (b : Bool) → is_ground_literal m ≡ b → GoodLit m
      → IsSo (cond b (sentence.Belief m) (sentence.Rule (record { head = m; body = expr.True })))
  go m true e h = e
  go m false e h = (lit_below m h, fold_true ℕ (expr_count_step (late 1)))

says_is : {n : ℕ} {xs : List Lexeme} {s : Sentence} → Says n xs s → IsSo s
says_is (says_fact {l = l} h e) = subst IsSo e (fact_is l (head_good h).good)
says_is (says_rule {l = l} h r) = (lit_below l (head_good h).good, formula_below r)
says_is (says_goal {l = l} h) = older l (head_good h).good
says_is (says_plan {label = label} {t = t} {e = e} {fs = fs} l h c b) =
    let items = body_read b in
    record {
      trigger = has_written (record { label = label; trigger = t; context = e; body = fs }) (trigger_good h);
      context = context_below c;
      below = each_weaker GoodItem (FormulaBelow 1) (λ f i. i.below) fs items;
      merged = each_weaker GoodItem HasMerged (λ f i. i.merged) fs items;
    }

-- ---- sources

answers_are : {k : ℕ} {ps : List (List Tok)} {ss : List Sentence} → Answers k ps (Ok ss) → AllByRecursion IsSo ss
answers_are all_read = tt
answers_are (is_read d h w a) = (says_is h, answers_are a)

added_is : (text : AgentText) (s : Sentence) → IsRead text → IsSo s → IsRead (added text s)
added_is text (sentence.Belief l) r h =
    let more = all_push (λ b. is_ground_literal b ≡ true) text.beliefs l r.beliefs h in
    record { beliefs = more; rules = r.rules; goals = r.goals; plans = r.plans }
added_is text (sentence.Rule c) r h =
    let more = all_push (λ c. FactBelow (Rule c)) text.rules c r.rules h in
    record { beliefs = r.beliefs; rules = more; goals = r.goals; plans = r.plans }
added_is text (sentence.Goal l) r h = record { beliefs = r.beliefs; rules = r.rules; goals = all_push (IsOlder 1) text.goals l r.goals h; plans = r.plans }
added_is text (sentence.Plan p) r h = record { beliefs = r.beliefs; rules = r.rules; goals = r.goals; plans = all_push IsReadPlan text.plans p r.plans h }

all_added_are : (text : AgentText) (ss : List Sentence) → IsRead text → AllByRecursion IsSo ss → IsRead (all_added text ss)
all_added_are text [] r a = r
all_added_are text (s ∷ ss) r a = all_added_are (added text s) ss (added_is text s r a.0) a.1

pub sources_are_read : SourcesAreRead
sources_are_read text s =
    subst IsRead (sym s.is.together)
    (all_added_are nothing s.is.sentences (record { beliefs = tt; rules = tt; goals = tt; plans = tt }) (answers_are s.is.said.read))
