-- Annotations that are dropped, since they repeat others, hold no unnamed variable.
use Rattle.std.proofs.Common.{◌≡◌, ◌≤◌, ◌<◌, ℕ, suc, ◌+◌, Bool, true, false, cond, leb, List, [], ◌∷◌, ◌++◌, length, refl, ap, sym, ◌∙◌, subst, append_assoc, arith}
use Rattle.std.specs.Prelude.{◌||◌}
use Rattle.std.specs.List.{list_any}
use Rattle.std.specs.Fmt.{decimal}
use Rattle.std.proofs.lemmas.Fmt.{decimal_injective}
use Rattle.std.proofs.lemmas.Bool.{leb-true}
use Rattle.std.proofs.lemmas.Grind.{flat_map-append}
use Rattle.std.proofs.lemmas.List.{append-nil, length-append}
use Rattle.asl_lexer.proofs.Bytes.{both}
use Rattle.asl_term.specs.declared.syntax.LiteralOf.{LiteralOf}
use Rattle.asl_term.specs.declared.syntax.Term.{Term}
use Rattle.asl_term.specs.declared.syntax.Term.TheVariants as term
use Rattle.asl_term.specs.Same.{same_tree}
use Rattle.asl_term.specs.Exprs.{literal_size, literal_depth}
use Rattle.asl_term.proofs.Same.{same_true}
use Rattle.asl_parser_tree.specs.Limits.{within_literal}
use Rattle.asl_parser.specs.Sentences.{once_behind, kept_once}
use Rattle.asl_print_reread.specs.Shown.{term_shown, literal_shown}
use Rattle.asl_print_reread.proofs.Names.{nth_name, names, AreCounted}
use Rattle.asl_print_reread.proofs.NamesOf.{terms_names, literal_names, few}

abbrev Lists : Type 0
Lists = List (List ℕ)

-- ---- names that are counted are distinct

counted_behind : (xs : Lists) (k : ℕ) (ys : Lists) → AreCounted k (xs ++ ys) → AreCounted (k + length xs) ys
counted_behind [] k ys c = let e : k ≡ k + 0 = omega arith in subst (λ (j : ℕ). AreCounted j ys) e c
counted_behind (x ∷ xs) k ys c =
    let e : suc k + length xs ≡ k + length (x ∷ xs) = omega arith in
    subst (λ (j : ℕ). AreCounted j ys) e (counted_behind xs (suc k) ys c.1)

nth_differ : (x : List ℕ) (i j : ℕ) → x ≡ nth_name i → x ≡ nth_name j → i < j → j ≤ 20001 → ⊥
nth_differ x i j e f lt le =
    let same : nth_name i ≡ nth_name j = sym e ∙ f in
    let digits : decimal i ≡ decimal j = cc in
    let equal = decimal_injective i j (omega arith) (omega arith) digits in
    absurd (omega (arith, equal))

twice : (j : ℕ) (f n g r : Lists) → AreCounted j ((f ++ (n ++ g)) ++ (n ++ r)) → j ≤ 10001 → length (f ++ (n ++ g)) ≤ 10000 → n ≡ []
twice j f [] g r c le short = refl
twice j f (x ∷ n) g r c le short =
    let first = counted_behind f j (((x ∷ n) ++ g) ++ ((x ∷ n) ++ r)) (subst (AreCounted j) (append_assoc f ((x ∷ n) ++ g) ((x ∷ n) ++ r)) c) in
    let second = counted_behind (f ++ ((x ∷ n) ++ g)) j ((x ∷ n) ++ r) c in
    absurd (nth_differ x (j + length f) (j + length (f ++ ((x ∷ n) ++ g))) first.0 second.0
    (omega (arith, length-append f ((x ∷ n) ++ g))) (omega (arith, le, short)))

-- ---- a term that is there already

record IsAmong (t : Term) (front : List Term) : Type 0 where
  before : List Term
  behind : List Term
  whole : front ≡ before ++ t ∷ behind

among : (t : Term) (front : List Term) → list_any (same_tree t) front ≡ true → IsAmong t front
among t [] e = absurd cc
among t (f ∷ front) e = go (same_tree t f) refl e (among t front)
  where
    go : (b : Bool) → same_tree t f ≡ b → (b || list_any (same_tree t) front) ≡ true
        → (list_any (same_tree t) front ≡ true → IsAmong t front) → IsAmong t (f ∷ front)
    go true d e more = record { before = []; behind = front; whole = ap (λ u. u ∷ front) (sym (same_true t f d)) }
    go false d e more = let m = more e in record { before = f ∷ m.before; behind = m.behind; whole = ap (λ us. f ∷ us) m.whole }

abbrev own : Term → Lists
own t = names (term_shown t)

none_in : (j : ℕ) (t : Term) (front : List Term) (r : Lists) → list_any (same_tree t) front ≡ true → AreCounted j (terms_names front ++ (own t ++ r))
    → j ≤ 10001 → length (terms_names front) ≤ 10000 → own t ≡ []
none_in j t front r e c le short =
    let a = among t front e in
    let parts : terms_names front ≡ terms_names a.before ++ (own t ++ terms_names a.behind) =
    ap terms_names a.whole ∙ flat_map-append own a.before (t ∷ a.behind) in
    twice j (terms_names a.before) (own t) (terms_names a.behind) r (subst (λ (ns : Lists). AreCounted j (ns ++ (own t ++ r))) parts c) le
    (omega (arith, ap length parts, short))

-- ---- what is kept has all names

abbrev next : Bool → List Term → Term → List Term → List Term
next b front t ts = cond b (once_behind front ts) (once_behind (front ++ t ∷ []) ts)

front_short : (front ts : List Term) → length (terms_names front) ≤ length (terms_names (once_behind front ts))
front_short front [] = omega arith
front_short front (t ∷ ts) = go (list_any (same_tree t) front) (front_short front ts) (front_short (front ++ t ∷ []) ts)
  where
    go : (b : Bool) → length (terms_names front) ≤ length (terms_names (once_behind front ts))
        → length (terms_names (front ++ t ∷ [])) ≤ length (terms_names (once_behind (front ++ t ∷ []) ts))
        → length (terms_names front) ≤ length (terms_names (next b front t ts))
    go true h k = h
    go false h k = omega (arith, k, ap length (flat_map-append own front (t ∷ [])), length-append (terms_names front) (own t ++ []))

abbrev KeepsNames : ℕ → List Term → List Term → Type 0
KeepsNames j front ts = AreCounted j (terms_names front ++ terms_names ts) → length (terms_names (once_behind front ts)) ≤ 10000
    → terms_names (once_behind front ts) ≡ terms_names front ++ terms_names ts

one_more : (front : List Term) (t : Term) (r : Lists) → terms_names (front ++ t ∷ []) ++ r ≡ terms_names front ++ (own t ++ r)
one_more front t r =
    ap (λ ns. ns ++ r) (flat_map-append own front (t ∷ []) ∙ ap (λ ns. terms_names front ++ ns) (append-nil (own t)))
    ∙ append_assoc (terms_names front) (own t) r

kept_names : (j : ℕ) → j ≤ 10001 → (front ts : List Term) → KeepsNames j front ts
kept_names j le front [] = λ c short. sym (append-nil (terms_names front))
kept_names j le front (t ∷ ts) = go (list_any (same_tree t) front) refl (kept_names j le front ts) (kept_names j le (front ++ t ∷ []) ts)
  where
    go : (b : Bool) → list_any (same_tree t) front ≡ b → KeepsNames j front ts → KeepsNames j (front ++ t ∷ []) ts
        → AreCounted j (terms_names front ++ (own t ++ terms_names ts)) → length (terms_names (next b front t ts)) ≤ 10000
        → terms_names (next b front t ts) ≡ terms_names front ++ (own t ++ terms_names ts)
    go true e h k c short =
        let none = none_in j t front (terms_names ts) e c le (omega (arith, front_short front ts, short)) in
        let same = ap (λ (ns : Lists). terms_names front ++ (ns ++ terms_names ts)) none in
        h (subst (AreCounted j) same c) short ∙ sym same
    go false e h k c short =
        let same = one_more front t (terms_names ts) in
        k (subst (AreCounted j) (sym same) c) short ∙ same

-- ---- literals

pub kept_literal : (l : LiteralOf Term) → within_literal (kept_once l) ≡ true → AreCounted 1 (terms_names l.args ++ terms_names l.annots)
    → names (literal_shown (kept_once l)) ≡ terms_names l.args ++ terms_names l.annots
kept_literal l w c =
    let kept = kept_once l in
    let small = leb-true (literal_size kept) 10000 (both (leb (literal_size kept) 10000) (leb (literal_depth kept) 250) w).0 in
    let total = few (term.Lit kept) in
    let parts = ap length (literal_names kept) in
    let sizes = length-append (terms_names l.args) (terms_names kept.annots) in
    literal_names kept
    ∙ ap (λ ns. terms_names l.args ++ ns) (kept_names (1 + length (terms_names l.args)) (omega (arith, small, total, parts, sizes)) [] l.annots
    (counted_behind (terms_names l.args) 1 (terms_names l.annots) c) (omega (arith, small, total, parts, sizes)))
