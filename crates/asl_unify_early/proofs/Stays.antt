-- To settle leaves what holds no operation.
use Rattle.std.proofs.Common.{◌≡◌, Bool, true, List, [], ◌∷◌, map, Option, Some, None, refl, ap, sym, ◌∙◌}
use Rattle.std.specs.Prelude.{Ok}
use Rattle.std.specs.List.{AllByRecursion}
use Rattle.std.specs.Option.{option_map}
use Rattle.std.proofs.lemmas.Bool.{false≢true}
use Rattle.asl_term.specs.declared.syntax.LiteralOf.{LiteralOf}
use Rattle.asl_term.specs.declared.syntax.Term.{Term}
use Rattle.asl_term.specs.declared.syntax.Term.TheVariants as term
use Rattle.asl_term.specs.Trees.{all, or_true}
use Rattle.asl_term.proofs.Terms.{OfTail, by_cases, fold_num, fold_str, fold_var, fold_lit, fold_list, fold_op}
use Rattle.asl_unify.specs.Settling.{Settled, and_then, each, if_any, with_parts, settle, settle_step, settle_literal}
use Rattle.asl_unify_early.specs.inner.Plain.{is_plain, is_plain_literal, plain_step}
use Rattle.asl_unify.proofs.General.{and_true}

abbrev Stays : Term → Type 0
Stays t = is_plain t ≡ true → settle t ≡ Ok t

all_stay : (ts : List Term) → AllByRecursion Stays ts → all (map is_plain ts) ≡ true → each (map settle ts) ≡ Ok ts
all_stay [] a e = refl
all_stay (t ∷ ts) a e =
    let both = and_true (is_plain t) (all (map is_plain ts)) e in
    ap (λ z. and_then z (λ x. and_then (each (map settle ts)) (λ xs. Ok (x ∷ xs)))) (a.0 both.0)
    ∙ ap (λ z. and_then z (λ xs. Ok (t ∷ xs))) (all_stay ts a.1 both.1)

tail_stays : (t : Option Term) → OfTail Stays t → or_true (option_map is_plain t) ≡ true → if_any (option_map settle t) ≡ Ok t
tail_stays None a e = refl
tail_stays (Some t) a e = ap (λ z. and_then z (λ x. Ok (Some x))) (a e)

plain_stays : (t : Term) → is_plain t ≡ true → settle t ≡ Ok t
plain_stays = by_cases Stays (record {
  at_num = λ n e. fold_num (Settled Term) settle_step n;
  at_str = λ b e. fold_str (Settled Term) settle_step b;
  at_var = λ v e. fold_var (Settled Term) settle_step v;
  at_lit = λ l args annots e.
      let both = and_true (all (map is_plain l.args)) (all (map is_plain l.annots)) (sym (fold_lit Bool plain_step l) ∙ e) in
      fold_lit (Settled Term) settle_step l
      ∙ ap (λ z. and_then (with_parts l z (each (map settle l.annots))) (λ m. Ok (term.Lit m))) (all_stay l.args args both.0)
      ∙ ap (λ z. and_then (with_parts l (Ok l.args) z) (λ m. Ok (term.Lit m))) (all_stay l.annots annots both.1);
  at_list = λ l items tail e.
      let both = and_true (all (map is_plain l.items)) (or_true (option_map is_plain l.tail)) (sym (fold_list Bool plain_step l) ∙ e) in
      fold_list (Settled Term) settle_step l
      ∙ ap (λ z. and_then z (λ xs. and_then (if_any (option_map settle l.tail)) (λ t. Ok (term.List (record { items = xs; tail = t })))))
      (all_stay l.items items both.0)
      ∙ ap (λ z. and_then z (λ t. Ok (term.List (record { items = l.items; tail = t })))) (tail_stays l.tail tail both.1);
  at_op = λ a left right e. absurd (false≢true (sym (fold_op Bool plain_step a) ∙ e));
})

every : (ts : List Term) → AllByRecursion Stays ts
every [] = tt
every (t ∷ ts) = (plain_stays t, every ts)

-- a literal that holds no operation
pub literal_stays : (l : LiteralOf Term) → is_plain_literal l ≡ true → settle_literal l ≡ Ok l
literal_stays l e =
    let both = and_true (all (map is_plain l.args)) (all (map is_plain l.annots)) e in
    ap (λ z. with_parts l z (each (map settle l.annots))) (all_stay l.args (every l.args) both.0)
    ∙ ap (λ z. with_parts l (Ok l.args) z) (all_stay l.annots (every l.annots) both.1)
