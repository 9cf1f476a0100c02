-- The tokens of the texts of terms.
use Rattle.std.proofs.Common.{◌≡◌, ℕ, Bool, true, false, cond, List, [], ◌∷◌, ◌++◌, map, Option, Some, None, refl, sym, subst, ◌∙◌, append_assoc}
use Rattle.std.specs.Prelude.{◌&&◌, ◌||◌, ◌==◌, not, codes}
use Rattle.std.specs.List.{AllByRecursion}
use Rattle.std.specs.Str.{bytes_eq}
use Rattle.std.specs.Option.{option_map}
use Rattle.asl_term.specs.declared.syntax.Var.{Var}
use Rattle.asl_term.specs.declared.syntax.Op.{Op}
use Rattle.asl_term.specs.declared.syntax.Op.TheVariants.{Add, Sub, Mul, Div, Mod}
use Rattle.asl_term.specs.declared.syntax.LiteralOf.{LiteralOf}
use Rattle.asl_term.specs.declared.syntax.Term.{Term}
use Rattle.asl_term.specs.declared.syntax.Term.TheOpen as layer
use Rattle.asl_term.specs.Trees.{all, or_true}
use Rattle.asl_term.specs.Texts.{text, text_step, var_text, is_unnamed, op_text, sign_text, tail_text, commas, between}
use Rattle.asl_term.proofs.Terms.{OfTail, by_cases, map_literal, fold_num, fold_str, fold_var, fold_lit, fold_list, fold_op}
use Rattle.asl_lexer.specs.declared.token.Sign.TheVariants as sign
use Rattle.asl_lexer.specs.Seams.{Gives, Any, Stop}
use Rattle.asl_lexer.specs.Bare.{Bare, mark, var}
use Rattle.asl_print.specs.Tokens.{term_tokens, term_step, op_token, sign_tokens, tail_tokens}
use Rattle.asl_lexer.specs.Bare.{is_atom, is_var}
use Rattle.asl_print.specs.Spelled.{is_written_var, is_spelled, spelled_step}
use Rattle.asl_lexer.proofs.Bytes.{both}
use Rattle.asl_lexer.proofs.Seams.{names_give, variables_give, then, next, before_stop, same_gives, from_four, from_seven}
use Rattle.asl_lexer.proofs.SignTexts.{round_open, round_close, square_open, square_close, bar, tilde, plus, minus, star, space}
use Rattle.asl_lexer.proofs.StringTexts.{strings_give}
use Rattle.asl_lexer.proofs.NumberTexts.{numbers_give}
use Rattle.asl_print.proofs.Lists.{AllGive, gives_commas, gives_round, gives_square, round_stops, square_stops}

-- ---- names

pub var_source : (v : Var) → (v.number == 0) ≡ true → (u : Bool) → is_unnamed v.name ≡ u → var_text v ≡ cond u (codes "_") v.name
var_source v n true e = rw (e, n) refl
var_source v n false e = rw (e, n) refl

gives_variable : (v : Var) → is_written_var v ≡ true → Gives Stop (var_text v) (var (var_text v) ∷ [])
gives_variable v w =
    let h = both (v.number == 0) (is_unnamed v.name || (is_var v.name && not (bytes_eq v.name (codes "_")))) w in
    go (is_unnamed v.name) (var_source v h.0 (is_unnamed v.name) refl) h.1
  where
    go : (u : Bool) → var_text v ≡ cond u (codes "_") v.name → (u || (is_var v.name && not (bytes_eq v.name (codes "_")))) ≡ true
        → Gives Stop (var_text v) (var (var_text v) ∷ [])
    go true e h = subst (λ (t : List ℕ). Gives Stop t (var t ∷ [])) (sym e) (variables_give (codes "_") refl)
    go false e h = subst (λ (t : List ℕ). Gives Stop t (var t ∷ [])) (sym e)
        (variables_give v.name (both (is_var v.name) (not (bytes_eq v.name (codes "_"))) h).0)

-- ---- parts

abbrev pub TermGives : Term → Type 0
TermGives t = is_spelled t ≡ true → Gives Stop (text t) (term_tokens t)

all_give : (ts : List Term) → AllByRecursion TermGives ts → all (map is_spelled ts) ≡ true → AllGive (map text ts) (map term_tokens ts)
all_give [] a s = tt
all_give (t ∷ ts) a s = let h = both (is_spelled t) (all (map is_spelled ts)) s in (a.0 h.0, all_give ts a.1 h.1)

-- what comes behind the functor of a literal
gives_sign : (neg : Bool) (t : List ℕ) (xs : List Bare) → Gives Stop t xs → Gives Stop (sign_text neg ++ t) (sign_tokens neg ++ xs)
gives_sign true t xs g = next tilde g
gives_sign false t xs g = g

literal_gives : (l : LiteralOf Term) → is_atom l.functor ≡ true → AllGive (map text l.args) (map term_tokens l.args)
    → AllGive (map text l.annots) (map term_tokens l.annots)
    → Gives Stop (text_step (layer.Lit (map_literal text l))) (term_step (layer.Lit (map_literal term_tokens l)))
literal_gives l f args annots =
    same_gives (from_four (sign_text l.neg) l.functor (between 40 41 (map text l.args)) (between 91 93 (map text l.annots))) refl (gives_sign l.neg _ _
    (then (names_give l.functor f)
    (then (gives_round (map text l.args) (map term_tokens l.args) args) (gives_square (map text l.annots) (map term_tokens l.annots) annots)
    (square_stops (map text l.annots)))
    (λ rest s. go (map text l.args) (between 91 93 (map text l.annots)) rest (square_stops (map text l.annots) rest s))))
  where
    go : (ts : List (List ℕ)) (u rest : List ℕ) → Stop (u ++ rest) → Stop ((between 40 41 ts ++ u) ++ rest)
    go ts u rest s = subst Stop (sym (append_assoc (between 40 41 ts) u rest)) (round_stops ts (u ++ rest) s)

tail_gives : (t : Option Term) → OfTail TermGives t → or_true (option_map is_spelled t) ≡ true
    → Gives Any (tail_text (option_map text t) ++ codes "]") (tail_tokens (option_map term_tokens t) ++ mark sign.CloseSquare ∷ [])
tail_gives None h s = square_close
tail_gives (Some t) h s = next bar (then (h s) square_close (λ rest q. refl))

tail_stops : (t : Option Term) (rest : List ℕ) → Stop ((tail_text (option_map text t) ++ codes "]") ++ rest)
tail_stops None rest = refl
tail_stops (Some t) rest = refl

-- an operator between its spaces
with_op : (o : Op) (t : List ℕ) (xs : List Bare) → Gives Any t xs → Gives Any (codes " " ++ (op_text o ++ (codes " " ++ t))) (op_token o ∷ xs)
with_op Add t xs g = next space (next plus (next space g))
with_op Sub t xs g = next space (then minus (next space g) (λ rest q. (refl, refl)))
with_op Mul t xs g = next space (next star (next space g))
with_op Div t xs g = next space (then (names_give (codes "div") refl) (next space g) (λ rest q. refl))
with_op Mod t xs g = next space (then (names_give (codes "mod") refl) (next space g) (λ rest q. refl))

-- ---- terms

pub term_gives : (t : Term) → TermGives t
term_gives = by_cases TermGives (record {
  at_num = λ n e. same_gives (fold_num (List ℕ) text_step n) (fold_num (List Bare) term_step n) (numbers_give n (sym (fold_num Bool spelled_step n) ∙ e));
  at_str = λ s e. same_gives (fold_str (List ℕ) text_step s) (fold_str (List Bare) term_step s)
      (before_stop (strings_give s (sym (fold_str Bool spelled_step s) ∙ e)));
  at_var = λ v e. same_gives (fold_var (List ℕ) text_step v) (fold_var (List Bare) term_step v) (gives_variable v (sym (fold_var Bool spelled_step v) ∙ e));
  at_lit = λ l args annots e.
      let h = both _ _ (sym (fold_lit Bool spelled_step l) ∙ e) in
      let f = both _ _ h.0 in
      let parts = both _ _ h.1 in
      same_gives (fold_lit (List ℕ) text_step l) (fold_lit (List Bare) term_step l)
      (literal_gives l f.0 (all_give l.args args parts.0) (all_give l.annots annots parts.1));
  at_list = λ l items tail e.
      let h = both _ _ (sym (fold_list Bool spelled_step l) ∙ e) in
      same_gives (fold_list (List ℕ) text_step l ∙ from_four (codes "[") (commas (map text l.items)) (tail_text (option_map text l.tail)) (codes "]"))
      (fold_list (List Bare) term_step l)
      (before_stop (next square_open (then (gives_commas _ _ (all_give l.items items h.0)) (tail_gives l.tail tail h.1)
      (λ rest q. tail_stops l.tail rest))));
  at_op = λ a left right e.
      let h = both _ _ (sym (fold_op Bool spelled_step a) ∙ e) in
      same_gives (fold_op (List ℕ) text_step a ∙ from_seven (codes "(") (text a.left) (codes " ") (op_text a.op) (codes " ") (text a.right) (codes ")"))
      (fold_op (List Bare) term_step a)
      (before_stop (next round_open (then (left h.0) (with_op a.op _ _ (then (right h.1) round_close (λ rest q. refl))) (λ rest q. refl))));
})
