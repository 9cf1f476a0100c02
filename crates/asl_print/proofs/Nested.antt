-- The brackets that are open in printed terms, expressions and clauses.
use Rattle.std.proofs.Common.{◌≡◌, ◌≤◌, ℕ, ℤ, pos, negsuc, zero, suc, ◌+◌, Bool, true, false, List, [], ◌∷◌, ◌++◌, map, max, Option, Some, None, refl, ap}
use Rattle.std.proofs.Common.{sym, subst, append_assoc, arith}
use Rattle.std.specs.Prelude.{codes}
use Rattle.std.specs.List.{AllByRecursion}
use Rattle.std.specs.Option.{option_map}
use Rattle.asl_term.specs.declared.syntax.Op.{Op}
use Rattle.asl_term.specs.declared.syntax.Op.TheVariants.{Add, Sub, Mul, Div, Mod}
use Rattle.asl_term.specs.declared.syntax.LiteralOf.{LiteralOf}
use Rattle.asl_term.specs.declared.syntax.ListingOf.{ListingOf}
use Rattle.asl_term.specs.declared.syntax.ArithOf.{ArithOf}
use Rattle.asl_term.specs.declared.syntax.Term.{Term}
use Rattle.asl_term.specs.Trees as tree
use Rattle.asl_term.proofs.Terms as terms
use Rattle.asl_term.proofs.Terms.{OfTail}
use Rattle.asl_lexer.specs.declared.token.Sign.TheVariants as sign
use Rattle.asl_print.specs.Tokens as tokens
use Rattle.asl_lexer.specs.Bare as bares
use Rattle.asl_lexer.specs.Bare.{Bare}
use Rattle.asl_print.specs.Tokens.{term_tokens, term_step, literal_tokens, expr_tokens, expr_step, arg_tokens}
use Rattle.asl_print.proofs.Nesting.{Nests, IsFlat, AllNest, nest_none, nest_then, nest_next, nest_one, nest_round, nest_square, nest_commas, nest_args}
use Rattle.asl_print.proofs.Nesting.{nest_annots, flat_atom, flat_mark}

pub nests_same : (k : ℕ) (xs ys : List Bare) → xs ≡ ys → Nests k ys → Nests k xs
nests_same k xs ys e h = subst (Nests k) (sym e) h

-- ---- terms

abbrev pub TermNests : Term → Type 0
TermNests t = (k : ℕ) → tree.depth t ≤ k → Nests k (term_tokens t)

flat_op : (o : Op) → IsFlat (tokens.op_token o)
flat_op Add = flat_mark sign.Plus refl
flat_op Sub = flat_mark sign.Minus refl
flat_op Mul = flat_mark sign.Star refl
flat_op Div = flat_atom (codes "div")
flat_op Mod = flat_atom (codes "mod")

num_nests : (k : ℕ) (n : ℤ) → Nests k (bares.num_tokens n)
num_nests k (pos n) = nest_one k (bares.number n) (record { same = λ m. refl; goes = refl })
num_nests k (negsuc n) = nest_next k (bares.mark sign.Minus) (bares.number (suc n) ∷ []) (flat_mark sign.Minus refl)
    (nest_one k (bares.number (suc n)) (record { same = λ m. refl; goes = refl }))

all_nest : (k : ℕ) (ts : List Term) → AllByRecursion TermNests ts → tree.greatest (map tree.depth ts) ≤ k → AllNest k (map term_tokens ts)
all_nest k [] a le = tt
all_nest k (t ∷ ts) a le = (a.0 k (omega arith), all_nest k ts a.1 (omega arith))

sign_nests : (k : ℕ) (neg : Bool) (xs : List Bare) → Nests k xs → Nests k (tokens.sign_tokens neg ++ xs)
sign_nests k true xs h = nest_next k (bares.mark sign.Tilde) xs (flat_mark sign.Tilde refl) h
sign_nests k false xs h = h

lit_nests : (l : LiteralOf Term) → AllByRecursion TermNests l.args → AllByRecursion TermNests l.annots → (k : ℕ)
    → 1 + max (tree.greatest (map tree.depth l.args)) (tree.greatest (map tree.depth l.annots)) ≤ k
    → Nests k (tokens.sign_tokens l.neg ++ bares.atom l.functor ∷ (tokens.between_tokens sign.Open sign.Close
    (map term_tokens l.args) ++ tokens.between_tokens sign.OpenSquare sign.CloseSquare (map term_tokens l.annots)))
lit_nests l args annots zero le = absurd (omega arith)
lit_nests l args annots (suc k) le =
    let front = nest_args k (map term_tokens l.args) (all_nest k l.args args (omega arith)) in
    let behind = nest_annots k (map term_tokens l.annots) (all_nest k l.annots annots (omega arith)) in
    sign_nests (suc k) l.neg _ (nest_next (suc k) (bares.atom l.functor) _ (flat_atom l.functor) (nest_then (suc k) _ _ front behind))

tail_nests : (t : Option Term) → OfTail TermNests t → (k : ℕ) → tree.or_zero (option_map tree.depth t) ≤ k
    → Nests k (tokens.tail_tokens (option_map term_tokens t))
tail_nests None h k le = nest_none k
tail_nests (Some t) h k le = nest_next k (bares.mark sign.Bar) (term_tokens t) (flat_mark sign.Bar refl) (h k le)

list_nests : (l : ListingOf Term) → AllByRecursion TermNests l.items → OfTail TermNests l.tail → (k : ℕ)
    → 1 + max (tree.greatest (map tree.depth l.items)) (tree.or_zero (option_map tree.depth l.tail)) ≤ k
    → Nests k (bares.mark sign.OpenSquare ∷ (tokens.comma_tokens
    (map term_tokens l.items) ++ (tokens.tail_tokens (option_map term_tokens l.tail) ++ bares.mark sign.CloseSquare ∷ [])))
list_nests l items tail zero le = absurd (omega arith)
list_nests l items tail (suc k) le =
    let xs = tokens.comma_tokens (map term_tokens l.items) in
    let ys = tokens.tail_tokens (option_map term_tokens l.tail) in
    nests_same (suc k) _ (bares.mark sign.OpenSquare ∷ ((xs ++ ys) ++ bares.mark sign.CloseSquare ∷ []))
    (ap (λ z. bares.mark sign.OpenSquare ∷ z) (sym (append_assoc xs ys (bares.mark sign.CloseSquare ∷ []))))
    (nest_square k (xs ++ ys) (nest_then k xs ys (nest_commas k (map term_tokens l.items) (all_nest k l.items items (omega arith)))
    (tail_nests l.tail tail k (omega arith))))

-- two parts in round brackets, with a token between them
pub joined_nests : (k : ℕ) (x : Bare) (xs ys : List Bare) → IsFlat x → Nests k xs → Nests k ys
    → Nests (suc k) (bares.mark sign.Open ∷ (xs ++ x ∷ (ys ++ bares.mark sign.Close ∷ [])))
joined_nests k x xs ys f g h =
    nests_same (suc k) _ (bares.mark sign.Open ∷ ((xs ++ x ∷ ys) ++ bares.mark sign.Close ∷ []))
    (ap (λ z. bares.mark sign.Open ∷ z) (sym (append_assoc xs (x ∷ ys) (bares.mark sign.Close ∷ []))))
    (nest_round k (xs ++ x ∷ ys) (nest_then k xs (x ∷ ys) g (nest_next k x ys f h)))

op_nests : (a : ArithOf Term) → TermNests a.left → TermNests a.right → (k : ℕ) → 1 + max (tree.depth a.left) (tree.depth a.right) ≤ k
    → Nests k (bares.mark sign.Open ∷ (term_tokens a.left ++ tokens.op_token a.op ∷ (term_tokens a.right ++ bares.mark sign.Close ∷ [])))
op_nests a left right zero le = absurd (omega arith)
op_nests a left right (suc k) le = joined_nests k (tokens.op_token a.op) (term_tokens a.left) (term_tokens a.right) (flat_op a.op) (left k (omega arith))
    (right k (omega arith))

pub term_nests : (t : Term) → TermNests t
term_nests = terms.by_cases TermNests (record {
  at_num = λ n k le. nests_same k _ _ (terms.fold_num (List Bare) term_step n) (num_nests k n);
  at_str = λ s k le. nests_same k _ _ (terms.fold_str (List Bare) term_step s) (nest_one k (bares.string s) (record { same = λ m. refl; goes = refl }));
  at_var = λ v k le. nests_same k _ _ (terms.fold_var (List Bare) term_step v) (nest_one k _ (record { same = λ m. refl; goes = refl }));
  at_lit = λ l args annots k le. nests_same k _ _ (terms.fold_lit (List Bare) term_step l)
      (lit_nests l args annots k (omega (arith, terms.fold_lit ℕ tree.depth_step l)));
  at_list = λ l items tail k le. nests_same k _ _ (terms.fold_list (List Bare) term_step l)
      (list_nests l items tail k (omega (arith, terms.fold_list ℕ tree.depth_step l)));
  at_op = λ a left right k le. nests_same k _ _ (terms.fold_op (List Bare) term_step a)
      (op_nests a left right k (omega (arith, terms.fold_op ℕ tree.depth_step a)));
})
