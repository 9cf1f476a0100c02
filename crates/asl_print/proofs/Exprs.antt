-- The tokens of the texts of literals, expressions and formulas.
use Rattle.std.proofs.Common.{◌≡◌, ℕ, Bool, true, false, List, [], ◌∷◌, ◌++◌, map, refl, sym, ap, subst, ◌∙◌}
use Rattle.std.specs.Prelude.{codes}
use Rattle.std.specs.List.{list_all, AllByRecursion}
use Rattle.asl_term.specs.declared.syntax.LiteralOf.{LiteralOf}
use Rattle.asl_term.specs.declared.syntax.Relation.{Relation}
use Rattle.asl_term.specs.declared.syntax.RelOp.{RelOp}
use Rattle.asl_term.specs.declared.syntax.RelOp.TheVariants.{Less, LessEq, More, MoreEq, Same, Differ, Unify}
use Rattle.asl_term.specs.declared.syntax.ArgOf.{ArgOf}
use Rattle.asl_term.specs.declared.syntax.ArgOf.TheVariants.{Plain, Logic}
use Rattle.asl_term.specs.declared.syntax.Term.{Term}
use Rattle.asl_term.specs.declared.syntax.Term.TheVariants as term
use Rattle.asl_term.specs.declared.syntax.Expr.{Expr}
use Rattle.asl_term.specs.declared.syntax.Expr.TheVariants as expr
use Rattle.asl_term.specs.declared.syntax.Formula.{Formula}
use Rattle.asl_term.specs.declared.syntax.Formula.TheVariants as formula
use Rattle.asl_term.specs.Trees.{all}
use Rattle.asl_term.specs.Texts as texts
use Rattle.asl_term.specs.Exprs.{map_arg, literal_text, rel_text, relation_text, arg_text, text_step, text, formula_text}
use Rattle.asl_term.proofs.Terms.{fold_lit}
use Rattle.asl_term.proofs.Exprs.{OfArg, by_cases, fold_true, fold_false, fold_holds, fold_rel, fold_inner, fold_not, fold_and, fold_or}
use Rattle.asl_lexer.specs.Spelling.{is_lower, is_word}
use Rattle.asl_lexer.specs.declared.token.Sign.TheVariants as sign
use Rattle.asl_lexer.specs.Seams.{Gives, Any, Stop}
use Rattle.asl_lexer.specs.Bare.{Bare, mark}
use Rattle.asl_print.specs.Tokens.{rel_sign, literal_tokens, relation_tokens, arg_tokens, expr_step, expr_tokens, formula_tokens}
use Rattle.asl_lexer.specs.Bare.{is_atom}
use Rattle.asl_print.specs.Spelled.{is_functor, is_spelled, is_spelled_literal, is_spelled_relation, is_spelled_arg, spelled_expr_step}
use Rattle.asl_print.specs.Spelled.{is_spelled_expr, is_spelled_formula}
use Rattle.asl_lexer.proofs.Bytes.{both}
use Rattle.asl_lexer.proofs.Seams.{names_give, inners_give, then, next, before_stop, same_gives, from_five, from_seven}
use Rattle.asl_lexer.proofs.SignTexts as signs
use Rattle.asl_lexer.proofs.SignTexts.{space}
use Rattle.asl_print.proofs.Lists.{AllGive, gives_round, round_stops}
use Rattle.asl_print.proofs.Terms.{term_gives}

-- ---- literals and relations

pub literal_gives : (l : LiteralOf Term) → is_spelled_literal l ≡ true → Gives Stop (literal_text l) (literal_tokens l)
literal_gives l s = term_gives (term.Lit l) (both (is_functor false l.functor) (is_spelled (term.Lit l)) s).1

-- a relation's operator between its spaces
with_rel : (o : RelOp) (t : List ℕ) (xs : List Bare) → Gives Any t xs → Gives Any (codes " " ++ (rel_text o ++ (codes " " ++ t))) (mark (rel_sign o) ∷ xs)
with_rel Less t xs g = next space (then signs.less (next space g) (λ rest q. signs.blank_free))
with_rel LessEq t xs g = next space (next signs.less_eq (next space g))
with_rel More t xs g = next space (then signs.more (next space g) (λ rest q. signs.blank_free))
with_rel MoreEq t xs g = next space (next signs.more_eq (next space g))
with_rel Same t xs g = next space (next signs.same (next space g))
with_rel Differ t xs g = next space (next signs.differ (next space g))
with_rel Unify t xs g = next space (then signs.unify (next space g) (λ rest q. signs.blank_free))

pub relation_gives : (r : Relation) → is_spelled_relation r ≡ true → Gives Stop (relation_text r) (relation_tokens r)
relation_gives r s =
    let h = both (is_spelled r.left) (is_spelled r.right) s in
    same_gives (from_seven (codes "(") (texts.text r.left) (codes " ") (rel_text r.op) (codes " ") (texts.text r.right) (codes ")")) refl
    (before_stop (next signs.round_open (then (term_gives r.left h.0) (with_rel r.op _ _ (then (term_gives r.right h.1) signs.round_close (λ rest q. refl)))
    (λ rest q. refl))))

-- ---- expressions

abbrev pub ExprGives : Expr → Type 0
ExprGives e = is_spelled_expr e ≡ true → Gives Stop (text e) (expr_tokens e)

args_give : (args : List (ArgOf Expr)) → AllByRecursion (OfArg ExprGives) args → all (map is_spelled_arg (map (map_arg is_spelled_expr) args)) ≡ true
    → AllGive (map arg_text (map (map_arg text) args)) (map arg_tokens (map (map_arg expr_tokens) args))
args_give [] a s = tt
args_give (Plain t ∷ args) a s = let h = both (is_spelled t) (all (map is_spelled_arg (map (map_arg is_spelled_expr) args))) s in
    (term_gives t h.0, args_give args a.1 h.1)
args_give (Logic e ∷ args) a s = let h = both (is_spelled_expr e) (all (map is_spelled_arg (map (map_arg is_spelled_expr) args))) s in
    (a.0 h.0, args_give args a.1 h.1)

-- two expressions in brackets, with a sign between them
joined_give : (m : List ℕ) (x : Bare) → Gives Any m (x ∷ []) → (a b : List ℕ) (xs ys : List Bare) → Gives Stop a xs → Gives Stop b ys
    → Gives Stop (codes "(" ++ (a ++ (codes " " ++ (m ++ (codes " " ++ (b ++ codes ")")))))) (mark sign.Open ∷ (xs ++ x ∷ (ys ++ mark sign.Close ∷ [])))
joined_give m x h a b xs ys f g = before_stop
    (next signs.round_open (then f (next space (next h (next space (then g signs.round_close (λ rest q. refl))))) (λ rest q. refl)))

pub expr_gives : (e : Expr) → ExprGives e
expr_gives = by_cases ExprGives (record {
  at_true = λ e. same_gives (fold_true (List ℕ) text_step) (fold_true (List Bare) expr_step) (names_give (codes "true") refl);
  at_false = λ e. same_gives (fold_false (List ℕ) text_step) (fold_false (List Bare) expr_step) (names_give (codes "false") refl);
  at_holds = λ l e. same_gives (fold_holds (List ℕ) text_step l) (fold_holds (List Bare) expr_step l)
      (literal_gives l (sym (fold_holds Bool spelled_expr_step l) ∙ e));
  at_rel = λ r e. same_gives (fold_rel (List ℕ) text_step r) (fold_rel (List Bare) expr_step r)
      (relation_gives r (sym (fold_rel Bool spelled_expr_step r) ∙ e));
  at_inner = λ c args e.
      let h = both _ _ (sym (fold_inner Bool spelled_expr_step c) ∙ e) in
      same_gives (fold_inner (List ℕ) text_step c) (fold_inner (List Bare) expr_step c)
      (then (inners_give c.name h.0) (gives_round _ _ (args_give c.args args h.1)) (round_stops _));
  at_not = λ a h e. same_gives (fold_not (List ℕ) text_step a) (fold_not (List Bare) expr_step a)
      (then (names_give (codes "not") refl) (next space (h (sym (fold_not Bool spelled_expr_step a) ∙ e))) (λ rest q. refl));
  at_and = λ a b f g e.
      let h = both _ _ (sym (fold_and Bool spelled_expr_step a b) ∙ e) in
      same_gives (fold_and (List ℕ) text_step a b ∙ from_five (codes "(") (text a) (codes " & ") (text b) (codes ")")) (fold_and (List Bare) expr_step a b)
      (joined_give (codes "&") (mark sign.Ampersand) signs.ampersand (text a) (text b) (expr_tokens a) (expr_tokens b) (f h.0) (g h.1));
  at_or = λ a b f g e.
      let h = both _ _ (sym (fold_or Bool spelled_expr_step a b) ∙ e) in
      same_gives (fold_or (List ℕ) text_step a b ∙ from_five (codes "(") (text a) (codes " | ") (text b) (codes ")")) (fold_or (List Bare) expr_step a b)
      (joined_give (codes "|") (mark sign.Bar) signs.bar (text a) (text b) (expr_tokens a) (expr_tokens b) (f h.0) (g h.1));
})

-- ---- formulas

-- a literal begins with `~` or a letter
atom_free : (f rest : List ℕ) → is_atom f ≡ true → signs.Free (f ++ rest)
atom_free [] rest a = absurd cc
atom_free (b ∷ w) rest a = signs.lower_free b (both (is_lower b) (list_all is_word w) a).0

signed_free : (neg : Bool) (f rest : List ℕ) → is_atom f ≡ true → signs.Free (texts.sign_text neg ++ (f ++ rest))
signed_free true f rest a = signs.tilde_free
signed_free false f rest a = atom_free f rest a

pub literal_free : (l : LiteralOf Term) → is_spelled_literal l ≡ true → (rest : List ℕ) → signs.Free (literal_text l ++ rest)
literal_free l s rest =
    let f = both _ _ (both (is_functor false l.functor) (is_spelled (term.Lit l)) s).0 in
    let args = texts.between 40 41 (map texts.text l.args) in
    let annots = texts.between 91 93 (map texts.text l.annots) in
    let whole : literal_text l ++ rest ≡ texts.sign_text l.neg ++ (l.functor ++ (args ++ (annots ++ rest))) =
    ap (λ t. t ++ rest) (fold_lit (List ℕ) texts.text_step l) ∙ from_five (texts.sign_text l.neg) l.functor args annots rest in
    subst signs.Free (sym whole) (signed_free l.neg l.functor (args ++ (annots ++ rest)) f.0)

pub formula_gives : (f : Formula) → is_spelled_formula f ≡ true → Gives Stop (formula_text f) (formula_tokens f)
formula_gives (formula.Achieve l) s = then signs.bang (literal_gives l s) (λ rest q. literal_free l s rest)
formula_gives (formula.Spawn l) s = next signs.bangs (literal_gives l s)
formula_gives (formula.Test l) s = next signs.question (literal_gives l s)
formula_gives (formula.Add l) s = next signs.plus (literal_gives l s)
formula_gives (formula.Del l) s = then signs.minus (literal_gives l s) (λ rest q. signs.free_minus _ (literal_free l s rest))
formula_gives (formula.Replace l) s = next signs.minus_plus (literal_gives l s)
formula_gives (formula.Act l) s = literal_gives l s
formula_gives (formula.Inner c) s = expr_gives (expr.Inner c) s
formula_gives (formula.Rel r) s = relation_gives r s
