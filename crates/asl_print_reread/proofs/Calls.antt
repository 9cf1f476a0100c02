-- Calls of internal actions read as themselves.
use Rattle.std.proofs.Common.{◌≡◌, ℕ, suc, Bool, true, false, cond, List, [], ◌∷◌, map, length, Option, Some, None, refl, ap, sym, ◌∙◌, subst}
use Rattle.std.specs.Prelude.{◌||◌}
use Rattle.std.specs.Option.{option_map}
use Rattle.std.proofs.lemmas.Bool.{and_from}
use Rattle.asl_lexer.specs.Bare.{Bare, is_atom}
use Rattle.asl_term.specs.declared.syntax.ArgOf.{ArgOf}
use Rattle.asl_term.specs.declared.syntax.ArgOf.TheVariants.{Plain, Logic}
use Rattle.asl_term.specs.declared.syntax.CallOf.{CallOf}
use Rattle.asl_term.specs.declared.syntax.Term.{Term}
use Rattle.asl_term.specs.declared.syntax.Expr.{Expr}
use Rattle.asl_term.specs.Trees.{all}
use Rattle.asl_term.specs.Exprs.{map_arg}
use Rattle.asl_term.proofs.Exprs.{fold_inner}
use Rattle.asl_parser_tree.specs.declared.lexeme.Lexeme.{Lexeme}
use Rattle.asl_parser_tree.specs.declared.meaning.Meaning.{Meaning}
use Rattle.asl_parser_tree.specs.declared.meaning.Meaning.TheVariants as meaning
use Rattle.asl_parser_tree.specs.Meanings.{◌>>=◌, is_pure, is_deed, wants_formula, as_term, as_formula, as_arg, as_args, called}
use Rattle.asl_parser_expr.specs.Grammar.{disjunction, a_call}
use Rattle.asl_parser_tree.proofs.Options.{some_is}
use Rattle.asl_print.specs.Tokens as tokens
use Rattle.asl_print.specs.Tokens.{expr_tokens, arg_tokens}
use Rattle.asl_print.specs.Spelled.{is_spelled_expr, is_spelled_arg, spelled_expr_step}
use Rattle.asl_print_reread.specs.Shown.{expr_step, expr_shown, arg_shown}
use Rattle.asl_print_reread.proofs.Turns.{turn_next, turn_inner}
use Rattle.asl_print_reread.proofs.Back.{Back, same_back, back_lifted, negation_or}
use Rattle.asl_print_reread.proofs.Listed.{Each, each_none, each_next, round}
use Rattle.asl_print_reread.proofs.Meant.{shown_of, Good, good_term, good_expr}
use Rattle.asl_print_reread.proofs.Literals.{AllGood, good_none, good_next}

-- what means m is printed as the argument a
pub record GoodArg (m : Meaning) (a : ArgOf Expr) : Type 0 where
  pub back : Back disjunction (arg_tokens (map_arg expr_tokens a)) (arg_shown (map_arg expr_shown a)) m
  pub spelled : is_spelled_arg (map_arg is_spelled_expr a) ≡ true
  pub shown : arg_shown (map_arg expr_shown a) ≡ shown_of m

good_arg : (wanted : Bool) (m : Meaning) (a : ArgOf Expr) → Good m → as_arg wanted m ≡ Some a → GoodArg m a
good_arg true m a g e = go (as_formula m) refl e
  where
    go : (p : Option Expr) → as_formula m ≡ p → option_map Logic p ≡ Some a → GoodArg m a
    go None d f = absurd cc
    go (Some x) d f =
        let b = good_expr m x g d in
        subst (GoodArg m) (some_is (Logic x) a f) (record { back = negation_or b.back; spelled = b.spelled; shown = b.shown })
good_arg false m a g e = go (as_term m) refl e
  where
    go : (p : Option Term) → as_term m ≡ p → option_map Plain p ≡ Some a → GoodArg m a
    go None d f = absurd cc
    go (Some x) d f =
        let b = good_term m x g d in
        subst (GoodArg m) (some_is (Plain x) a f) (record { back = back_lifted disjunction b.back; spelled = b.spelled; shown = b.shown })

pub record GoodArgs (ms : List Meaning) (args : List (ArgOf Expr)) : Type 0 where
  pub each : Each disjunction (map arg_tokens (map (map_arg expr_tokens) args)) (map arg_shown (map (map_arg expr_shown) args)) ms
  pub spelled : all (map is_spelled_arg (map (map_arg is_spelled_expr) args)) ≡ true
  pub shown : map arg_shown (map (map_arg expr_shown) args) ≡ map shown_of ms

args_next : (m : Meaning) (ms : List Meaning) (a : ArgOf Expr) (args : List (ArgOf Expr)) → GoodArg m a → GoodArgs ms args → GoodArgs (m ∷ ms) (a ∷ args)
args_next m ms a args g gs = record {
  each = each_next g.back gs.each;
  spelled = and_from (is_spelled_arg (map_arg is_spelled_expr a)) (all (map is_spelled_arg (map (map_arg is_spelled_expr) args))) g.spelled gs.spelled;
  shown = λ i. g.shown i ∷ gs.shown i;
}

pub good_args : (name : List ℕ) (place : ℕ) {ms : List Meaning} → AllGood ms → (args : List (ArgOf Expr)) → as_args name place ms ≡ Some args
    → GoodArgs ms args
unfolding as_args
good_args name place good_none args e = subst (GoodArgs []) (some_is [] args e) (record { each = each_none; spelled = refl; shown = refl })
good_args name place (good_next {m = m} {ms = ms} g gs) args e = go (as_arg (wants_formula name place) m) (as_args name (suc place) ms) refl refl e
    (good_args name (suc place) gs)
  where
    go : (p : Option (ArgOf Expr)) (q : Option (List (ArgOf Expr))) → as_arg (wants_formula name place) m ≡ p → as_args name (suc place) ms ≡ q
        → (p >>= λ a. q >>= λ others. Some (a ∷ others)) ≡ Some args
        → ((others : List (ArgOf Expr)) → as_args name (suc place) ms ≡ Some others → GoodArgs ms others) → GoodArgs (m ∷ ms) args
    go None q d k f more = absurd cc
    go (Some a) None d k f more = absurd cc
    go (Some a) (Some others) d k f more = subst (GoodArgs (m ∷ ms)) (some_is (a ∷ others) args f)
        (args_next m ms a others (good_arg (wants_formula name place) m a g d) (more others k))

-- ---- calls

abbrev pub call_of : List ℕ → List (ArgOf Expr) → CallOf Expr
call_of name args = record { name = name; args = args }

made_call : (name : List ℕ) (ms : List Meaning) (args : List (ArgOf Expr)) → is_atom name ≡ true → GoodArgs ms args
    → called name ms ≡ Some (meaning.Call (call_of name args)) → Good (meaning.Call (call_of name args))
made_call name ms args w g e =
    let parts = round g.each in
    record {
      back = same_back (fold_inner (List Bare) tokens.expr_step (call_of name args)) (fold_inner (List Lexeme) expr_step (call_of name args)) (record {
        need = parts.need;
        reads = λ n rest le. a_call (parts.reads n rest le) e;
        turns = turn_next (turn_inner name) parts.turns;
      });
      spelled = fold_inner Bool spelled_expr_step (call_of name args)
          ∙ and_from (is_atom name) (all (map is_spelled_arg (map (map_arg is_spelled_expr) args))) w g.spelled;
      a_word = tt;
    }

pub good_call : (name : List ℕ) {ms : List Meaning} (m : Meaning) → is_atom name ≡ true → AllGood ms → called name ms ≡ Some m → Good m
unfolding called
good_call name {ms} m w gs e = go (is_pure name (length ms) || is_deed name (length ms)) (as_args name 0 ms) refl e
  where
    go : (b : Bool) (p : Option (List (ArgOf Expr))) → as_args name 0 ms ≡ p
        → cond b (p >>= λ args. Some (meaning.Call (call_of name args))) None ≡ Some m → Good m
    go false p d f = absurd cc
    go true None d f = absurd cc
    go true (Some args) d f =
        let is : meaning.Call (call_of name args) ≡ m = some_is _ m f in
        subst Good is (made_call name ms args w (good_args name 0 gs args d) (e ∙ ap Some (sym is)))
