-- A formula has simple parts exactly where it has the parts of a guard.
use Rattle.std.proofs.Common.{◌≡◌, Bool, true, false, ◌&&◌, List, [], ◌∷◌, ◌++◌, Option, Some, None, refl, sym, ap, ◌∙◌}
use Rattle.std.specs.Option.{is_some}
use Rattle.asl_term.specs.declared.syntax.Expr.{Expr}
use Rattle.asl_term.specs.declared.syntax.Expr.TheVariants as expr
use Rattle.asl_term.proofs.Exprs.{fold_true, fold_false, fold_holds, fold_rel, fold_inner, fold_not, fold_and, fold_or, by_cases}
use Rattle.asl_parser_tree.specs.Meanings.{◌>>=◌}
use Rattle.asl_parser_tree.specs.Conjuncts.{Parts, no_parts, has_parts}
use Rattle.asl_parser_tree.specs.Conjuncts as conjuncts
use Rattle.env_file.specs.declared.statement.Part.{Part}
use Rattle.env_file.specs.declared.statement.Part.TheVariants.{Holds, Denied, Related}
use Rattle.env_file.specs.Guards.{denied, both, parts_step, parts}

-- the parts are one literal
abbrev one_literal : Option (List Part) → Bool
one_literal (Some (Holds l ∷ [])) = true
one_literal _ = false

-- there is a part, if there are parts
abbrev not_empty : Option (List Part) → Bool
not_empty None = true
not_empty (Some []) = false
not_empty (Some (p ∷ ps)) = true

-- what is told of a formula, and its parts
record Agrees (told : Parts) (o : Option (List Part)) : Type 0 where
  literal : told.literal ≡ one_literal o
  simple : told.simple ≡ is_some o
  some : not_empty o ≡ true

abbrev told : Bool → Bool → Parts
told literal simple = record { literal = literal; simple = simple }

abbrev AreAgreed : Expr → Type 0
AreAgreed e = Agrees (conjuncts.parts e) (parts e)

at : (e : Expr) (p : Parts) (o : Option (List Part)) → conjuncts.parts e ≡ p → parts e ≡ o → Agrees p o → AreAgreed e
at e p o h k a = record {
  literal = ap (λ (q : Parts). q.literal) h ∙ a.literal ∙ sym (ap one_literal k);
  simple = ap (λ (q : Parts). q.simple) h ∙ a.simple ∙ sym (ap (λ (x : Option (List Part)). is_some x) k);
  some = ap not_empty k ∙ a.some;
}

none : (e : Expr) → conjuncts.parts e ≡ no_parts → parts e ≡ None → AreAgreed e
none e h k = at e no_parts None h k (record { literal = refl; simple = refl; some = refl })

-- ---- `not`

denied_agrees : (p : Parts) (o : Option (List Part)) → Agrees p o → Agrees (told false p.literal) (o >>= denied)
denied_agrees p None a = record { literal = refl; simple = a.literal; some = refl }
denied_agrees p (Some []) a = record { literal = refl; simple = a.literal; some = refl }
denied_agrees p (Some (Holds l ∷ [])) a = record { literal = refl; simple = a.literal; some = refl }
denied_agrees p (Some (Holds l ∷ q ∷ qs)) a = record { literal = refl; simple = a.literal; some = refl }
denied_agrees p (Some (Denied l ∷ qs)) a = record { literal = refl; simple = a.literal; some = refl }
denied_agrees p (Some (Related r ∷ qs)) a = record { literal = refl; simple = a.literal; some = refl }

-- ---- `&`

-- some parts and some more are not one literal
more : (p q : Part) (ps qs : List Part) → (one_literal (Some (p ∷ (ps ++ q ∷ qs))) ≡ false)
more (Holds l) q [] qs = refl
more (Holds l) q (p ∷ ps) qs = refl
more (Denied l) q ps qs = refl
more (Related r) q ps qs = refl

both_agrees : (p q : Parts) (a b : Option (List Part)) → Agrees p a → Agrees q b → Agrees (told false (p.simple && q.simple)) (both a b)
both_agrees p q None b r s = record { literal = refl; simple = ap (λ (x : Bool). x && q.simple) r.simple; some = refl }
both_agrees p q (Some ps) None r s = record { literal = refl; simple = ap (λ (x : Bool). x && q.simple) r.simple ∙ s.simple; some = refl }
both_agrees p q (Some []) (Some qs) r s = absurd cc
both_agrees p q (Some (x ∷ xs)) (Some []) r s = absurd cc
both_agrees p q (Some (x ∷ xs)) (Some (y ∷ ys)) r s =
    record { literal = sym (more x y xs ys); simple = ap (λ (x : Bool). x && q.simple) r.simple ∙ s.simple; some = refl }

-- ---- all formulas

agreed : (e : Expr) → AreAgreed e
agreed =
    by_cases AreAgreed (record {
      at_true = none expr.True (fold_true Parts conjuncts.parts_step) (fold_true (Option (List Part)) parts_step);
      at_false = none expr.False (fold_false Parts conjuncts.parts_step) (fold_false (Option (List Part)) parts_step);
      at_holds = λ l. at (expr.Holds l) (told true true) (Some (Holds l ∷ [])) (fold_holds Parts conjuncts.parts_step l) (fold_holds (Option (List Part)) parts_step l) (record { literal = refl; simple = refl; some = refl });
      at_rel = λ r. at (expr.Rel r) (told false true) (Some (Related r ∷ [])) (fold_rel Parts conjuncts.parts_step r) (fold_rel (Option (List Part)) parts_step r) (record { literal = refl; simple = refl; some = refl });
      at_inner = λ c h. none (expr.Inner c) (fold_inner Parts conjuncts.parts_step c) (fold_inner (Option (List Part)) parts_step c);
      at_not = λ a h. at (expr.Not a) (told false (conjuncts.parts a).literal) (parts a >>= denied) (fold_not Parts conjuncts.parts_step a) (fold_not (Option (List Part)) parts_step a) (denied_agrees (conjuncts.parts a) (parts a) h);
      at_and = λ a b h k. at (expr.And a b) (told false (has_parts a && has_parts b)) (both (parts a) (parts b)) (fold_and Parts conjuncts.parts_step a b) (fold_and (Option (List Part)) parts_step a b) (both_agrees (conjuncts.parts a) (conjuncts.parts b) (parts a) (parts b) h k);
      at_or = λ a b h k. none (expr.Or a b) (fold_or Parts conjuncts.parts_step a b) (fold_or (Option (List Part)) parts_step a b);
    })

-- a formula has simple parts exactly where it has the parts of a guard
pub parts_are : (e : Expr) → has_parts e ≡ is_some (parts e)
parts_are e = (agreed e).simple

pub parts_some : (e : Expr) → has_parts e ≡ true → (ps : List Part) × (parts e ≡ Some ps)
parts_some e h = go (parts e) (sym (parts_are e) ∙ h)
  where
    go : (o : Option (List Part)) → is_some o ≡ true → (ps : List Part) × (o ≡ Some ps)
    go None f = absurd cc
    go (Some ps) f = (ps, refl)

pub parts_told : (e : Expr) (ps : List Part) → parts e ≡ Some ps → has_parts e ≡ true
parts_told e ps h = parts_are e ∙ ap (λ (o : Option (List Part)). is_some o) h
