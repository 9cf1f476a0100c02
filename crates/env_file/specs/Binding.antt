-- Which variables of an act are bound when its effects are made.
use Rattle.std.specs.Prelude.{ℕ, Bool, List, [], ◌∷◌, ◌++◌, Option, Some, None, if◌then◌else◌}
use Rattle.std.specs.List.{list_any, list_all, flat_map}
use Rattle.asl_term.specs.declared.syntax.Var.{Var}
use Rattle.asl_term.specs.declared.syntax.LiteralOf.{LiteralOf}
use Rattle.asl_term.specs.declared.syntax.Term.{Term}
use Rattle.asl_term.specs.declared.syntax.Term.TheVariants as term
use Rattle.asl_term.specs.declared.syntax.Term.TheOpen.{Term-F}
use Rattle.asl_term.specs.declared.syntax.Term.TheOpen as layer
use Rattle.asl_term.specs.declared.syntax.Term.TheViews.{out-Term}
use Rattle.asl_term.specs.declared.syntax.RelOp.{RelOp}
use Rattle.asl_term.specs.declared.syntax.RelOp.TheVariants.{Unify}
use Rattle.asl_term.specs.declared.syntax.Relation.{Relation}
use Rattle.asl_term.specs.Trees.{same_var}
use Rattle.asl_term.specs.Variables.{variables}
use Rattle.env_file.specs.declared.statement.Part.{Part}
use Rattle.env_file.specs.declared.statement.Part.TheVariants.{Holds, Denied, Related}
use Rattle.env_file.specs.declared.statement.Effect.{Effect}
use Rattle.env_file.specs.declared.statement.Effect.TheVariants.{Added, Deleted, Dropped}
use Rattle.env_file.specs.declared.statement.WrittenAct.{WrittenAct}

abbrev pub literal_variables : LiteralOf Term → List Var
literal_variables l = variables (term.Lit l)

abbrev pub is_bound : List Var → Var → Bool
is_bound bound v = list_any (λ y. same_var y v) bound

abbrev pub layer_variable : Term-F Term → List Var
layer_variable (layer.Var v) = v ∷ []
layer_variable other = []

-- the term itself, where it is a variable
abbrev pub variable_of : Term → List Var
variable_of t = layer_variable (out-Term t)

-- the left side of `=`, where it is a variable
abbrev pub target : RelOp → Term → List Var
target Unify left = variable_of left
target op left = []

-- `V = t` binds V where all of t is bound
abbrev pub related : List Var → Relation → List Var
related bound r = if list_all (is_bound bound) (variables r.right) then bound ++ target r.op r.left else bound

-- what is bound behind a part, and behind all parts
abbrev pub with_part : List Var → Part → List Var
with_part bound (Holds l) = bound ++ literal_variables l
with_part bound (Denied l) = bound
with_part bound (Related r) = related bound r

abbrev pub with_parts : List Var → List Part → List Var
with_parts bound [] = bound
with_parts bound (p ∷ ps) = with_parts (with_part bound p) ps

-- the name of the first variable that is not bound
abbrev pub first_free : List Var → List Var → Option (List ℕ)
first_free bound [] = None
first_free bound (v ∷ vs) = if is_bound bound v then first_free bound vs else Some v.name

abbrev pub variables_in : Effect → List Var
variables_in (Added l) = literal_variables l
variables_in (Deleted l) = literal_variables l
variables_in (Dropped name) = []

abbrev pub effect_variables : List Effect → List Var
effect_variables = flat_map variables_in

abbrev pub bound_at_first : WrittenAct → List Var
bound_at_first a = literal_variables a.head ++ variables a.by

-- rule: the first variable of the effects, in their order, that neither the act's literal, nor `by`, nor the guard binds
abbrev pub unbound : WrittenAct → List Part → Option (List ℕ)
unbound a ps = first_free (with_parts (bound_at_first a) ps) (effect_variables a.effects)
