-- The variables that stand in a term.
use Rattle.std.specs.Prelude.{Bool, false, ◌||◌, List, [], ◌∷◌, ◌++◌, unwrap_or, cond}
use Rattle.std.specs.List.{list_any, flat_map}
use Rattle.asl_term.specs.declared.syntax.Var.{Var}
use Rattle.asl_term.specs.declared.syntax.Term.{Term}
use Rattle.asl_term.specs.declared.syntax.Term.TheOpen.{Term-F}
use Rattle.asl_term.specs.declared.syntax.Term.TheOpen as layer
use Rattle.asl_term.specs.declared.syntax.Term.TheFolds.{fold-Term}
use Rattle.asl_term.specs.Trees.{same_var}

abbrev pub any : List Bool → Bool
any = list_any (λ b. b)

abbrev pub occurs_step : Var → Term-F Bool → Bool
occurs_step x (layer.Var y) = same_var y x
occurs_step x (layer.Lit l) = any l.args || any l.annots
occurs_step x (layer.List l) = any l.items || unwrap_or l.tail false
occurs_step x (layer.Op a) = a.left || a.right
occurs_step x leaf = false

-- whether a variable stands in a term
abbrev pub occurs : Var → Term → Bool
occurs x = fold-Term Bool (occurs_step x)

abbrev pub joined : {A : Type 0} → List (List A) → List A
joined = flat_map (λ x. x)

abbrev pub vars_step : Term-F (List Var) → List Var
vars_step (layer.Var v) = v ∷ []
vars_step (layer.Lit l) = joined l.args ++ joined l.annots
vars_step (layer.List l) = joined l.items ++ unwrap_or l.tail []
vars_step (layer.Op a) = a.left ++ a.right
vars_step leaf = []

-- the variables of a term from left to right, one for each place: arguments before annotations, items before the tail
abbrev pub vars : Term → List Var
vars = fold-Term (List Var) vars_step

-- a variable goes last, unless it is there
abbrev pub with_var : List Var → Var → List Var
with_var found x = cond (list_any (λ y. same_var y x) found) found (found ++ x ∷ [])

-- the variables found so far and, in order, those of the second list that are not yet among them
abbrev pub noted : List Var → List Var → List Var
noted found [] = found
noted found (x ∷ xs) = noted (with_var found x) xs

-- the distinct variables of a term, in order of first occurrence
abbrev pub variables : Term → List Var
variables t = noted [] (vars t)
