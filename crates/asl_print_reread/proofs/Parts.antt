-- Heads, labels, triggers, contexts and conditions of clauses read as themselves.
use Rattle.std.proofs.Common.{◌≡◌, ◌≤◌, ℕ, Bool, true, false, List, ◌∷◌, ◌++◌, Option, Some, refl, ap, sym, subst}
use Rattle.std.specs.Prelude.{codes}
use Rattle.std.specs.List.{list_all}
use Rattle.asl_lexer.specs.declared.token.Sign.TheVariants as sign
use Rattle.asl_lexer.specs.Bare as bares
use Rattle.asl_lexer.specs.Bare.{Bare, is_atom}
use Rattle.asl_lexer.specs.Words.{atom_word}
use Rattle.asl_lexer.proofs.Bytes.{both}
use Rattle.asl_term.specs.declared.syntax.LiteralOf.{LiteralOf}
use Rattle.asl_term.specs.declared.syntax.Term.{Term}
use Rattle.asl_term.specs.declared.syntax.Expr.{Expr}
use Rattle.asl_term.specs.declared.syntax.Expr.TheVariants as expr
use Rattle.asl_term.specs.declared.syntax.Kind.{Kind}
use Rattle.asl_term.specs.declared.syntax.Kind.TheVariants as kind
use Rattle.asl_term.specs.declared.syntax.Trigger.{Trigger}
use Rattle.asl_term.proofs.Exprs.{by_cases, fold_true}
use Rattle.asl_parser_tree.specs.declared.lexeme.Lexeme.{Lexeme}
use Rattle.asl_parser_tree.specs.declared.lexeme.Lexeme.TheVariants as lexeme
use Rattle.asl_parser_tree.specs.Lexemes.{lexeme_of}
use Rattle.asl_parser_tree.specs.declared.meaning.Meaning.{Meaning}
use Rattle.asl_parser_tree.specs.Plain.{is_plain_literal}
use Rattle.asl_parser_tree.proofs.Options.{some_is}
use Rattle.asl_parser.specs.Sentences.{label_of, adds_of, ReadsFormula, a_formula, ReadsHead, a_head, ReadsLabel, no_label, a_label, ReadsKind, a_belief, an_achievement, a_test, ReadsTrigger, a_trigger, ReadsContext, no_context, a_context}
use Rattle.asl_print.specs.Tokens.{label_tokens, change_token, kind_tokens, trigger_tokens, context_tokens, expr_tokens, literal_tokens}
use Rattle.asl_print.specs.Spelled.{is_functor_word, is_spelled_literal, is_spelled_expr, spelled_expr_step, is_spelled_label}
use Rattle.asl_print_reread.specs.Shown.{mark, word, literal_shown, expr_shown, label_shown, change_shown, kind_shown, trigger_shown, context_shown}
use Rattle.asl_print_reread.proofs.Turns.{Turn, Turns, turn_none, turn_next, turn_one, turn_mark, turn_word}
use Rattle.asl_print_reread.proofs.Back.{negation_or}
use Rattle.asl_print_reread.proofs.Meant.{word_is, GoodExpr, good_expr}
use Rattle.asl_print_reread.proofs.Literals.{LiteralParts, made_literal}
use Rattle.asl_print_reread.proofs.Rereads.{AllFine, fine, fine_behind, good, literal}

-- ---- heads

pub record GoodHead (l : LiteralOf Term) : Type 0 where
  pub parts : LiteralParts l
  pub plain : is_plain_literal l ≡ true

pub good_head : {n : ℕ} {xs ys : List Lexeme} {l : LiteralOf Term} → ReadsHead n xs ys l → AllFine xs → GoodHead l × AllFine ys
good_head (a_head r e) f = let g = literal r f in (record { parts = g.0; plain = e }, g.1)

pub record HeadBack (l : LiteralOf Term) : Type 0 where
  pub need : ℕ
  pub reads : (n : ℕ) (rest : List Lexeme) → need ≤ n → ReadsHead n (literal_shown l ++ rest) rest l
  pub turns : Turns (literal_tokens l) (literal_shown l)
  pub spelled : is_spelled_literal l ≡ true

pub head_back : (l : LiteralOf Term) → GoodHead l → HeadBack l
head_back l g =
    let b = made_literal l g.parts in
    record { need = b.need; reads = λ n rest le. a_head (b.reads n rest le) g.plain; turns = b.turns; spelled = b.spelled }

-- ---- labels

pub record GoodLabel (o : Option (List ℕ)) : Type 0 where
  pub reads : (rest : List Lexeme) → ReadsLabel (label_shown o ++ rest) rest o
  pub turns : Turns (label_tokens o) (label_shown o)
  pub spelled : is_spelled_label o ≡ true

named : (name : List ℕ) → label_of (word name) ≡ Some name → is_atom name ≡ true → GoodLabel (Some name)
named name e w = record {
  reads = λ rest. a_label e;
  turns = turn_next (turn_mark sign.At) (turn_one (turn_word name));
  spelled = w;
}

some_name : (text name : List ℕ) → Some text ≡ Some name → label_of (word text) ≡ Some text → is_atom text ≡ true → GoodLabel (Some name)
some_name text name e l w = subst (λ (t : List ℕ). GoodLabel (Some t)) (some_is text name e) (named text l w)

good_name : (x : Lexeme) (name : List ℕ) → label_of x ≡ Some name → fine x ≡ true → GoodLabel (Some name)
unfolding lexeme_of atom_word
good_name (lexeme.Atom text) name e f = some_name text name e (ap label_of (word_is text f)) (both (is_atom text) (is_functor_word false (atom_word text)) f).0
good_name lexeme.Not name e f = some_name (codes "not") name e refl refl
good_name lexeme.Div name e f = some_name (codes "div") name e refl refl
good_name lexeme.Mod name e f = some_name (codes "mod") name e refl refl
good_name (lexeme.Truth true) name e f = some_name (codes "true") name e refl refl
good_name (lexeme.Truth false) name e f = some_name (codes "false") name e refl refl
good_name _ name e f = absurd cc

pub good_label : {xs ys : List Lexeme} {o : Option (List ℕ)} → ReadsLabel xs ys o → AllFine xs → GoodLabel o × AllFine ys
good_label no_label f = (record { reads = λ rest. no_label; turns = turn_none; spelled = refl }, f)
good_label (a_label {x = x} {xs = xs} {name = name} e) f =
    let h = both (fine x) (list_all fine xs) f in (good_name x name e h.0, h.1)

-- ---- triggers

kind_reads : (k : Kind) (ls rest : List Lexeme) → ReadsKind ((kind_shown k ++ ls) ++ rest) (ls ++ rest) k
kind_reads kind.Belief ls rest = a_belief
kind_reads kind.Achieve ls rest = an_achievement
kind_reads kind.Test ls rest = a_test

kind_turns : (k : Kind) {xs : List Bare} {ls : List Lexeme} → Turns xs ls → Turns (kind_tokens k ++ xs) (kind_shown k ++ ls)
kind_turns kind.Belief t = t
kind_turns kind.Achieve t = turn_next (turn_mark sign.Bang) t
kind_turns kind.Test t = turn_next (turn_mark sign.Question) t

adds : (add : Bool) → adds_of (change_shown add) ≡ Some add
adds true = refl
adds false = refl

change_turn : (add : Bool) → Turn (change_token add) (change_shown add)
change_turn true = turn_mark sign.Plus
change_turn false = turn_mark sign.Minus

pub kind_fine : {xs ys : List Lexeme} {k : Kind} → ReadsKind xs ys k → AllFine xs → AllFine ys
kind_fine a_belief f = f
kind_fine an_achievement f = f
kind_fine a_test f = f

pub record TriggerBack (t : Trigger) : Type 0 where
  pub need : ℕ
  pub reads : (n : ℕ) (rest : List Lexeme) → need ≤ n → ReadsTrigger n (trigger_shown t ++ rest) rest t
  pub turns : Turns (trigger_tokens t) (trigger_shown t)
  pub spelled : is_spelled_literal t.lit ≡ true

trigger_back : (t : Trigger) → GoodHead t.lit → TriggerBack t
trigger_back t g =
    let h = head_back t.lit g in
    record {
      need = h.need;
      reads = λ n rest le. a_trigger (adds t.add) (kind_reads t.kind (literal_shown t.lit) rest) (h.reads n rest le);
      turns = turn_next (change_turn t.add) (kind_turns t.kind h.turns);
      spelled = h.spelled;
    }

pub good_trigger : {n : ℕ} {xs ys : List Lexeme} {t : Trigger} → ReadsTrigger n xs ys t → AllFine xs → TriggerBack t × AllFine ys
good_trigger (a_trigger {x = x} {add = add} {k = k} {xs = xs} {l = l} e r h) f =
    let g = good_head h (kind_fine r (fine_behind x xs f)) in
    (trigger_back (record { add = add; kind = k; lit = l }) g.0, g.1)

-- ---- conditions and contexts

pub record ConditionBack (e : Expr) : Type 0 where
  pub need : ℕ
  pub reads : (n : ℕ) (rest : List Lexeme) → need ≤ n → ReadsFormula n (expr_shown e ++ rest) rest e
  pub turns : Turns (expr_tokens e) (expr_shown e)
  pub spelled : is_spelled_expr e ≡ true

pub condition_back : {m : Meaning} {e : Expr} → GoodExpr m e → ConditionBack e
condition_back g =
    let b = negation_or g.back in
    record { need = b.need; reads = λ n rest le. a_formula (b.reads n rest le) g.is; turns = b.turns; spelled = g.spelled }

pub good_condition : {n : ℕ} {xs ys : List Lexeme} {e : Expr} → ReadsFormula n xs ys e → AllFine xs → ConditionBack e × AllFine ys
good_condition (a_formula {m = m} {e = e} r h) f = let g = good r f in (condition_back (good_expr m e g.0 h), g.1)

pub record ContextBack (e : Expr) : Type 0 where
  pub need : ℕ
  pub reads : (n : ℕ) (rest : List Lexeme) → need ≤ n → ReadsContext n (context_shown e ++ rest) rest e
  pub turns : Turns (context_tokens e) (context_shown e)
  pub spelled : is_spelled_expr e ≡ true

true_context : ContextBack expr.True
true_context = record { need = 0; reads = λ n rest le. no_context; turns = turn_none; spelled = fold_true Bool spelled_expr_step }

-- an expression that is printed behind `:`
record IsPrinted (e : Expr) : Type 0 where
  tokens : context_tokens e ≡ bares.mark sign.Colon ∷ expr_tokens e
  shown : context_shown e ≡ mark sign.Colon ∷ expr_shown e

behind_colon : (e : Expr) → IsPrinted e → ConditionBack e → ContextBack e
behind_colon e p b = record {
  need = b.need;
  reads = λ n rest le. subst (λ (zs : List Lexeme). ReadsContext n (zs ++ rest) rest e) (sym p.shown) (a_context (b.reads n rest le));
  turns = subst (λ (xs : List Bare). Turns xs (context_shown e)) (sym p.tokens)
      (subst (λ (zs : List Lexeme). Turns (bares.mark sign.Colon ∷ expr_tokens e) zs) (sym p.shown) (turn_next (turn_mark sign.Colon) b.turns));
  spelled = b.spelled;
}

abbrev ContextFrom : Expr → Type 0
ContextFrom e = ConditionBack e → ContextBack e

context_from : (e : Expr) → ContextFrom e
context_from = by_cases ContextFrom (record {
  at_true = λ b. true_context;
  at_false = behind_colon expr.False (record { tokens = refl; shown = refl });
  at_holds = λ l. behind_colon (expr.Holds l) (record { tokens = refl; shown = refl });
  at_rel = λ r. behind_colon (expr.Rel r) (record { tokens = refl; shown = refl });
  at_inner = λ c args. behind_colon (expr.Inner c) (record { tokens = refl; shown = refl });
  at_not = λ a f. behind_colon (expr.Not a) (record { tokens = refl; shown = refl });
  at_and = λ a b f g. behind_colon (expr.And a b) (record { tokens = refl; shown = refl });
  at_or = λ a b f g. behind_colon (expr.Or a b) (record { tokens = refl; shown = refl });
})

pub good_context : {n : ℕ} {xs ys : List Lexeme} {e : Expr} → ReadsContext n xs ys e → AllFine xs → ContextBack e × AllFine ys
good_context no_context f = (true_context, f)
good_context (a_context {e = e} r) f = let g = good_condition r f in (context_from e g.0, g.1)
