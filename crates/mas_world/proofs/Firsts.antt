-- Walks over lists for the first of what their items give.
use Rattle.std.proofs.Common.{◌≡◌, ◌<◌, ◌+◌, ℕ, List, [], ◌∷◌, ◌++◌, drop, get_or, length, slice_get, Some, None, refl, sym, ap, ◌∙◌}
use Rattle.std.specs.List.{flat_map}
use Rattle.std.proofs.lemmas.List.{drop_more}
use Rattle.asl_term.specs.declared.syntax.LiteralOf.{LiteralOf}
use Rattle.asl_term.specs.declared.syntax.Term.{Term}
use Rattle.asl_term.specs.declared.syntax.Expr.{Expr}
use Rattle.asl_term.specs.declared.syntax.Expr.TheVariants as expr
use Rattle.asl_term.specs.declared.syntax.Expr.TheVariants.{rolls-Holds}
use Rattle.asl_term.specs.declared.syntax.Expr.TheOpen as layer
use Rattle.asl_term.specs.declared.syntax.Expr.TheViews.{out-Expr, out-roll-Expr}
use Rattle.asl_unify.specs.declared.subst.Pair.{Pair}
use Rattle.mas_world.specs.Guards.{first_of, found, if_none, if_ready, part_solutions, ready, solutions}

pub front : {A : Type 0} (xs : List A) → slice_get xs 0 ≡ first_of xs
front [] = refl
front (x ∷ xs) = refl

some_none : (ms ys : List (List Pair)) (s t : List Pair) → Some t ≡ slice_get ms 0 → if_none (ms ++ ys) s ≡ []
some_none [] ys s t e = cc
some_none (m ∷ ms) ys s t e = refl

-- an item that gives something leaves nothing to `not`
pub refutes : {A : Type 0} (f : A → List (List Pair)) (xs : List A) (i : ℕ) (x : A) (s t : List Pair) (o : List (List Pair)) → i < length xs → x ≡ get_or xs i x → Some t ≡ slice_get (f x) 0 → if_none (flat_map f (drop i xs)) s ≡ o → o ≡ []
refutes f xs i x s t o h at e before =
    sym before ∙ ap (λ l. if_none (flat_map f l) s) (drop_more xs i x h)
    ∙ some_none (f (get_or xs i x)) (flat_map f (drop (i + 1) xs)) s t (e ∙ ap (λ y. slice_get (f y) 0) at)

none_left : (ms ys : List (List Pair)) (s : List Pair) → None ≡ slice_get ms 0 → if_none (ms ++ ys) s ≡ if_none ys s
none_left [] ys s e = refl
none_left (m ∷ ms) ys s e = cc

-- an item that gives nothing is passed
pub passes : {A : Type 0} (f : A → List (List Pair)) (xs : List A) (i : ℕ) (x : A) (s : List Pair) (o : List (List Pair)) → i < length xs → x ≡ get_or xs i x → None ≡ slice_get (f x) 0 → if_none (flat_map f (drop i xs)) s ≡ o → if_none (flat_map f (drop (i + 1) xs)) s ≡ o
passes f xs i x s o h at e before =
    sym (none_left (f (get_or xs i x)) (flat_map f (drop (i + 1) xs)) s (e ∙ ap (λ y. slice_get (f y) 0) at))
    ∙ ap (λ l. if_none (flat_map f l) s) (sym (drop_more xs i x h)) ∙ before

-- a literal that is ready goes on with the facts that it matches
pub held : (facts : List (LiteralOf Term)) (p : Expr) (rest : List Expr) (s : List Pair) (l g : LiteralOf Term) → p ≡ expr.Holds l → Some g ≡ ready s l → solutions facts (p ∷ rest) s ≡ flat_map (solutions facts rest) (found facts s g)
held facts p rest s l g e r =
    ap (λ y. flat_map (solutions facts rest) (part_solutions facts s y)) (ap out-Expr e ∙ ap out-Expr (sym (rolls-Holds l)) ∙ out-roll-Expr (layer.Holds l))
    ∙ ap (λ o. flat_map (solutions facts rest) (if_ready (found facts s) o)) (sym r)
