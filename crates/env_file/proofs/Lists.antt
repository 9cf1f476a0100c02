-- Lists, as loops make them.
use Rattle.std.proofs.Common.{◌≡◌, ℕ, Bool, List, [], ◌∷◌, ◌++◌, length, sym, ◌∙◌, append_assoc, arith}
use Rattle.std.specs.Option.{option_to_list}
use Rattle.std.proofs.lemmas.List.{append-nil}
use Rattle.asl_term.specs.declared.syntax.Var.{Var}
use Rattle.asl_term.specs.declared.syntax.LiteralOf.{LiteralOf}
use Rattle.asl_term.specs.declared.syntax.Term.{Term}
use Rattle.asl_term.specs.declared.syntax.Expr.{Expr}
use Rattle.env_file.specs.declared.statement.Part.{Part}
use Rattle.env_file.specs.declared.statement.Effect.{Effect}
use Rattle.env_file.specs.Guards.{expr_of, exprs_of}
use Rattle.env_file.specs.Binding.{variables_in, effect_variables}
use Rattle.env_file.specs.Worlds.{change, changes, drops}

pub mapped_more : (front : List Expr) (p : Part) (ps : List Part) (total : List Expr) → front ++ exprs_of (p ∷ ps) ≡ total → (front ++ expr_of p ∷ []) ++ exprs_of ps ≡ total
mapped_more front p ps total h = append_assoc front (expr_of p ∷ []) (exprs_of ps) ∙ h

pub mapped_all : (front : List Expr) (ps : List Part) (total : List Expr) → length ps ≡ 0 → front ++ exprs_of ps ≡ total → front ≡ total
mapped_all front [] total e h = sym (append-nil front) ∙ h
mapped_all front (p ∷ ps) total e h = absurd (omega arith)

pub flat_more : (front : List Var) (e : Effect) (es : List Effect) (total : List Var) → front ++ effect_variables (e ∷ es) ≡ total → (front ++ variables_in e) ++ effect_variables es ≡ total
flat_more front e es total h = append_assoc front (variables_in e) (effect_variables es) ∙ h

pub flat_all : (front : List Var) (es : List Effect) (total : List Var) → length es ≡ 0 → front ++ effect_variables es ≡ total → front ≡ total
flat_all front [] total e h = sym (append-nil front) ∙ h
flat_all front (x ∷ es) total e h = absurd (omega arith)

pub changes_more : (add : Bool) (front : List (LiteralOf Term)) (e : Effect) (es : List Effect) (total : List (LiteralOf Term)) → front ++ changes add (e ∷ es) ≡ total → (front ++ option_to_list (change add e)) ++ changes add es ≡ total
changes_more add front e es total h = append_assoc front (option_to_list (change add e)) (changes add es) ∙ h

pub changes_all : (add : Bool) (front : List (LiteralOf Term)) (es : List Effect) (total : List (LiteralOf Term)) → length es ≡ 0 → front ++ changes add es ≡ total → front ≡ total
changes_all add front [] total e h = sym (append-nil front) ∙ h
changes_all add front (x ∷ es) total e h = absurd (omega arith)

pub drops_all : (names : List (List ℕ)) (es : List Effect) (total : List (List ℕ)) → length es ≡ 0 → drops names es ≡ total → names ≡ total
drops_all names [] total e h = h
drops_all names (x ∷ es) total e h = absurd (omega arith)
