-- A formula of a body reads as itself.
use Rattle.std.proofs.Common.{◌≡◌, ◌≤◌, ℕ, Bool, true, false, cond, List, [], ◌∷◌, ◌++◌, map, Some, None, refl, ap, sym, ◌∙◌, subst}
use Rattle.asl_lexer.specs.declared.token.Sign.TheVariants as sign
use Rattle.asl_lexer.specs.Bare.{Bare}
use Rattle.asl_lexer.proofs.Bytes.{both}
use Rattle.asl_term.specs.declared.syntax.LiteralOf.{LiteralOf}
use Rattle.asl_term.specs.declared.syntax.CallOf.{CallOf}
use Rattle.asl_term.specs.declared.syntax.Relation.{Relation}
use Rattle.asl_term.specs.declared.syntax.Term.{Term}
use Rattle.asl_term.specs.declared.syntax.Term.TheVariants as term
use Rattle.asl_term.specs.declared.syntax.Expr.{Expr}
use Rattle.asl_term.specs.declared.syntax.Formula.{Formula}
use Rattle.asl_term.specs.declared.syntax.Formula.TheVariants as formula
use Rattle.asl_term.specs.Exprs.{map_arg}
use Rattle.asl_term.proofs.Exprs.{fold_rel, fold_inner}
use Rattle.asl_parser_tree.specs.declared.lexeme.Lexeme.{Lexeme}
use Rattle.asl_parser_tree.specs.declared.lexeme.Lexeme.TheVariants as lexeme
use Rattle.asl_parser_tree.specs.declared.meaning.Meaning.{Meaning}
use Rattle.asl_parser_tree.specs.declared.meaning.Meaning.TheVariants as meaning
use Rattle.asl_parser_tree.specs.Plain.{is_none, is_action}
use Rattle.asl_parser_expr.specs.Grammar.{Reads, disjunction, primary}
use Rattle.asl_parser.specs.declared.sentence.ItemSign.{ItemSign}
use Rattle.asl_parser.specs.declared.sentence.ItemSign.TheVariants as deed
use Rattle.asl_parser.specs.Sentences.{deed_of, done, item_of, ReadsItem, with_sign, without_sign}
use Rattle.asl_print.specs.Tokens as tokens
use Rattle.asl_print.specs.Tokens.{formula_tokens, body_tokens, relation_tokens, rel_sign}
use Rattle.asl_print.specs.Spelled.{is_functor, is_spelled, is_spelled_formula, spelled_expr_step}
use Rattle.asl_print_reread.specs.Shown.{mark, between_shown, sign_shown, literal_shown, relation_shown, arg_shown, term_shown, expr_step, expr_shown, formula_shown}
use Rattle.asl_print_reread.proofs.Turns.{Turns, turn_next, turn_mark}
use Rattle.asl_print_reread.proofs.Back.{Back, up, same_back}
use Rattle.asl_print_reread.proofs.Meant.{Good}
use Rattle.asl_print_reread.proofs.Literals.{GoodLiteral, shown_literal, round_of, square_of}

-- ---- one formula

pub record GoodFormula (f : Formula) : Type 0 where
  pub need : ℕ
  pub reads : (n : ℕ) (rest : List Lexeme) → need ≤ n → ReadsItem n (formula_shown f ++ rest) rest (Some f)
  pub turns : Turns (formula_tokens f) (formula_shown f)
  pub spelled : is_spelled_formula f ≡ true

-- the literal behind a sign
pub good_done : (d : ItemSign) (l : LiteralOf Term) → GoodLiteral l → GoodFormula (done d l)
good_done deed.Achieve l g = record {
  need = g.need;
  reads = λ n rest le. with_sign {d = deed.Achieve} refl (g.reads n rest le) refl;
  turns = turn_next (turn_mark sign.Bang) g.turns;
  spelled = g.spelled;
}
good_done deed.Spawn l g = record {
  need = g.need;
  reads = λ n rest le. with_sign {d = deed.Spawn} refl (g.reads n rest le) refl;
  turns = turn_next (turn_mark sign.Bangs) g.turns;
  spelled = g.spelled;
}
good_done deed.Test l g = record {
  need = g.need;
  reads = λ n rest le. with_sign {d = deed.Test} refl (g.reads n rest le) refl;
  turns = turn_next (turn_mark sign.Question) g.turns;
  spelled = g.spelled;
}
good_done deed.Add l g = record {
  need = g.need;
  reads = λ n rest le. with_sign {d = deed.Add} refl (g.reads n rest le) refl;
  turns = turn_next (turn_mark sign.Plus) g.turns;
  spelled = g.spelled;
}
good_done deed.Del l g = record {
  need = g.need;
  reads = λ n rest le. with_sign {d = deed.Del} refl (g.reads n rest le) refl;
  turns = turn_next (turn_mark sign.Minus) g.turns;
  spelled = g.spelled;
}
good_done deed.Replace l g = record {
  need = g.need;
  reads = λ n rest le. with_sign {d = deed.Replace} refl (g.reads n rest le) refl;
  turns = turn_next (turn_mark sign.MinusPlus) g.turns;
  spelled = g.spelled;
}

-- ---- a formula without a sign

-- it begins with no sign of an item
record Begins (ls : List Lexeme) : Type 0 where
  first : Lexeme
  others : List Lexeme
  whole : ls ≡ first ∷ others
  no_deed : deed_of first ≡ None

unsigned_reads : {n : ℕ} {ls rest : List Lexeme} {m : Meaning} {f : Formula} → Begins ls → item_of m ≡ Some (Some f)
    → Reads n disjunction (ls ++ rest) rest m → ReadsItem n (ls ++ rest) rest (Some f)
unsigned_reads {n} {ls} {rest} {m} {f} b e r =
    subst (λ (zs : List Lexeme). ReadsItem n (zs ++ rest) rest (Some f)) (sym b.whole)
    (without_sign b.no_deed (subst (λ (zs : List Lexeme). Reads n disjunction (zs ++ rest) rest m) b.whole r) e)

action_begins : (l : LiteralOf Term) → is_functor false l.functor ≡ true → is_action l ≡ true → Begins (literal_shown l)
action_begins l f a = go l.neg refl a
  where
    go : (neg : Bool) → l.neg ≡ neg → cond neg false (is_none l.annots) ≡ true → Begins (literal_shown l)
    go true e h = absurd cc
    go false e h = record {
      first = lexeme.Atom l.functor;
      others = round_of l.args ++ square_of l.annots;
      whole = shown_literal l f ∙ ap (λ (b : Bool). sign_shown b ++ lexeme.Atom l.functor ∷ (round_of l.args ++ square_of l.annots)) e;
      no_deed = refl;
    }

pub good_act : (l : LiteralOf Term) → Good (meaning.Literal l) → is_action l ≡ true → GoodFormula (formula.Act l)
good_act l g a =
    let f = (both (is_functor false l.functor) (is_spelled (term.Lit l)) g.spelled).0 in
    record {
      need = g.back.need;
      reads = λ n rest le. unsigned_reads (action_begins l f a)
          (ap (λ (b : Bool). cond b (Some (Some (formula.Act l))) None) a) (up primary (g.back.reads n rest le));
      turns = g.back.turns;
      spelled = g.spelled;
    }

pub good_relation : (r : Relation) → Good (meaning.Relation r) → GoodFormula (formula.Rel r)
good_relation r g =
    let b : Back primary (relation_tokens r) (relation_shown r) (meaning.Relation r) =
    same_back (sym (fold_rel (List Bare) tokens.expr_step r)) (sym (fold_rel (List Lexeme) expr_step r)) g.back in
    record {
      need = b.need;
      reads = λ n rest le. unsigned_reads (record {
        first = mark sign.Open;
        others = term_shown r.left ++ mark (rel_sign r.op) ∷ (term_shown r.right ++ mark sign.Close ∷ []);
        whole = refl;
        no_deed = refl;
      }) refl (up primary (b.reads n rest le));
      turns = b.turns;
      spelled = sym (fold_rel Bool spelled_expr_step r) ∙ g.spelled;
    }

pub good_inner : (c : CallOf Expr) → Good (meaning.Call c) → GoodFormula (formula.Inner c)
good_inner c g = record {
  need = g.back.need;
  reads = λ n rest le. unsigned_reads (record {
    first = lexeme.Inner c.name;
    others = between_shown sign.Open sign.Close (map arg_shown (map (map_arg expr_shown) c.args));
    whole = fold_inner (List Lexeme) expr_step c;
    no_deed = refl;
  })
      refl (up primary (g.back.reads n rest le));
  turns = g.back.turns;
  spelled = g.spelled;
}
