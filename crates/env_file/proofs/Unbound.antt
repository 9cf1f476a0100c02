-- No effect of an act keeps a variable, where its variables are bound.
use Rattle.std.proofs.Common.{◌≡◌, ℕ, Bool, true, false, cond, List, [], ◌∷◌, ◌++◌, Option, Some, None, Result, Ok, Err, refl, ap, sym, ◌∙◌, subst}
use Rattle.std.specs.List.{AllByRecursion, list_all}
use Rattle.std.specs.Option.{option_to_list}
use Rattle.asl_lexer.specs.declared.token.Tok.{Tok}
use Rattle.asl_term.specs.declared.syntax.Var.{Var}
use Rattle.asl_term.specs.declared.syntax.LiteralOf.{LiteralOf}
use Rattle.asl_term.specs.declared.syntax.RelOp.{RelOp}
use Rattle.asl_term.specs.declared.syntax.RelOp.TheVariants.{Less, LessEq, More, MoreEq, Same, Differ, Unify}
use Rattle.asl_term.specs.declared.syntax.Relation.{Relation}
use Rattle.asl_term.specs.declared.syntax.Term.{Term}
use Rattle.asl_term.specs.declared.syntax.Term.TheVariants as term
use Rattle.asl_term.specs.declared.syntax.Term.TheOpen.{Term-F}
use Rattle.asl_term.specs.declared.syntax.Term.TheOpen as layer
use Rattle.asl_term.specs.declared.syntax.Expr.TheVariants as expr
use Rattle.asl_term.specs.declared.syntax.Expr.TheVariants.{rolls-Holds, rolls-Not, rolls-Rel}
use Rattle.asl_term.specs.declared.syntax.Expr.TheOpen as expr_layer
use Rattle.asl_term.specs.declared.syntax.Expr.TheViews.{out-Expr, out-roll-Expr}
use Rattle.asl_term.specs.Exprs.{is_ground_literal}
use Rattle.asl_term.specs.Layers.{made as layered}
use Rattle.asl_term.specs.Variables.{vars, vars_step, variables}
use Rattle.asl_term.proofs.Terms.{fold_var, out_made}
use Rattle.asl_unify.specs.declared.subst.Pair.{Pair}
use Rattle.asl_unify.specs.Comparing.{holds, Holding, Gives, Fails, Passes}
use Rattle.asl_unify.specs.Puts.{value_of, IsSubst}
use Rattle.asl_unify.proofs.Views.{by_layers}
use Rattle.mas_world.specs.declared.acts.WorldText.{WorldText}
use Rattle.mas_world.specs.Acts.{effect}
use Rattle.mas_world.specs.Guards.{ready, if_holds, refuted, part_solutions, solutions}
use Rattle.env_file.specs.declared.statement.Part.{Part}
use Rattle.env_file.specs.declared.statement.Part.TheVariants.{Holds, Denied, Related}
use Rattle.env_file.specs.declared.fault.WorldFault.{WorldFault}
use Rattle.env_file.specs.declared.fault.WorldFault.TheVariants.{Clause, UnknownArtifact}
use Rattle.env_file.specs.declared.statement.Effect.{Effect}
use Rattle.env_file.specs.declared.statement.Effect.TheVariants.{Added, Deleted, Dropped}
use Rattle.env_file.specs.declared.statement.WrittenAct.{WrittenAct}
use Rattle.env_file.specs.declared.statement.Statement.{Statement}
use Rattle.env_file.specs.declared.statement.Statement.TheVariants as statement
use Rattle.env_file.specs.Binding.{is_bound, layer_variable, variable_of, target, related, literal_variables, with_part, with_parts, first_free, variables_in, effect_variables, bound_at_first, unbound}
use Rattle.env_file.specs.Guards.{expr_of, exprs_of, said_parts}
use Rattle.env_file.specs.Worlds.{change, changes, act_of, has_name, with_use, bound_made, made, Answers, all_read, is_read}
use Rattle.env_file.specs.Laws.{LeavesNone, BoundEffects, GroundEffects}
use Rattle.env_file.proofs.Values.{both_true, both_are, all_parts, all_joined, has_value, among_all, all_variables}
use Rattle.env_file.proofs.Known.{Known, At, all_append, all_flat, all_weaker, each_passes, holds_known, denied_known, relation_at, equal_known, entered_known, effect_ready}

-- ---- what is bound is known

bound_known : (s : List Pair) (bound vs : List Var) → Known s bound → list_all (is_bound bound) vs ≡ true → Known s vs
bound_known s bound [] k e = refl
bound_known s bound (v ∷ vs) k e =
    let p = has_value (value_of s) in
    let both = both_true (is_bound bound v) (list_all (is_bound bound) vs) e in
    both_are (p v) (list_all p vs) (among_all p bound v both.0 k) (bound_known s bound vs k both.1)

bound_term : (s : List Pair) (bound : List Var) (t : Term) → Known s bound → list_all (is_bound bound) (variables t) ≡ true → Known s (vars t)
bound_term s bound t k e = bound_known s bound (vars t) k (all_variables (is_bound bound) t e)

-- ---- the parts of a guard

variable_known : (t : List Pair) (left : Term) → Known t (vars left) → Known t (variable_of left)
variable_known t = by_layers (λ left. Known t (vars left) → Known t (variable_of left)) at where
  as_layer : (y : Term-F Term) → Known t (layer_variable y) → Known t (variable_of (layered y))
  as_layer y = subst (λ z. Known t (layer_variable z)) (sym (out_made y))

  at : (y : Term-F Term) → Known t (vars (layered y)) → Known t (variable_of (layered y))
  at (layer.Var v) k = as_layer (layer.Var v) (subst (Known t) (fold_var (List Var) vars_step v) k)
  at (layer.Num n) k = as_layer (layer.Num n) refl
  at (layer.Str n) k = as_layer (layer.Str n) refl
  at (layer.Lit n) k = as_layer (layer.Lit n) refl
  at (layer.List n) k = as_layer (layer.List n) refl
  at (layer.Op n) k = as_layer (layer.Op n) refl

target_known : (op : RelOp) (left right : Term) (s t : List Pair) → IsSubst s → holds (record { op = op; left = left; right = right }) s ≡ Gives (Some t) → Known s (vars right) → Known t (target op left)
target_known Unify left right s t i e k = variable_known t left (equal_known left right s t i e k)
target_known Same left right s t i e k = refl
target_known Differ left right s t i e k = refl
target_known Less left right s t i e k = refl
target_known LessEq left right s t i e k = refl
target_known More left right s t i e k = refl
target_known MoreEq left right s t i e k = refl

module _ (r : Relation) (bound : List Var) (s : List Pair) (at : At bound s) where
  given_known : (t : List Pair) → holds r s ≡ Gives (Some t) → At (related bound r) t
  given_known t e = go (list_all (is_bound bound) (variables r.right)) refl where
    go : (b : Bool) → list_all (is_bound bound) (variables r.right) ≡ b → At (cond b (bound ++ target r.op r.left) bound) t
    go true h =
        let after = relation_at r bound s t at e in
        let new = target_known r.op r.left r.right s t at.is e (bound_term s bound r.right at.known h) in
        record { is = after.is; known = all_joined (has_value (value_of t)) bound (target r.op r.left) after.known new }
    go false h = relation_at r bound s t at e

  related_known : AllByRecursion (At (related bound r)) (if_holds (holds r s))
  related_known = go (holds r s) refl where
    go : (h : Holding) → holds r s ≡ h → AllByRecursion (At (related bound r)) (if_holds h)
    go (Gives None) e = tt
    go (Gives (Some t)) e = (given_known t e, tt)
    go (Fails f) e = tt
    go Passes e = tt

module _ (facts : List (LiteralOf Term)) (ground : AllByRecursion (λ f. is_ground_literal f ≡ true) facts) where
  out_holds : (l : LiteralOf Term) → out-Expr (expr.Holds l) ≡ expr_layer.Holds l
  out_holds l = ap out-Expr (sym (rolls-Holds l)) ∙ out-roll-Expr (expr_layer.Holds l)

  part_known : (p : Part) (bound : List Var) (s : List Pair) → At bound s → AllByRecursion (At (with_part bound p)) (part_solutions facts s (out-Expr (expr_of p)))
  part_known (Holds l) bound s at =
      subst (λ y. AllByRecursion (At (bound ++ literal_variables l)) (part_solutions facts s y)) (sym (out_holds l)) (holds_known facts ground bound s at l)
  part_known (Denied l) bound s at =
      let out : out-Expr (expr.Not (expr.Holds l)) ≡ expr_layer.Not (expr.Holds l) = ap out-Expr (sym (rolls-Not (expr.Holds l))) ∙ out-roll-Expr (expr_layer.Not (expr.Holds l)) in
      subst (λ y. AllByRecursion (At bound) (part_solutions facts s y)) (sym out)
      (subst (λ y. AllByRecursion (At bound) (refuted facts s y)) (sym (out_holds l)) (denied_known facts ground bound s at l))
  part_known (Related r) bound s at =
      subst (λ y. AllByRecursion (At (related bound r)) (part_solutions facts s y)) (sym (ap out-Expr (sym (rolls-Rel r)) ∙ out-roll-Expr (expr_layer.Rel r))) (related_known r bound s at)

  parts_known : (ps : List Part) (bound : List Var) (s : List Pair) → At bound s → AllByRecursion (At (with_parts bound ps)) (solutions facts (exprs_of ps) s)
  parts_known [] bound s at = (at, tt)
  parts_known (p ∷ ps) bound s at =
      all_flat (At (with_part bound p)) (At (with_parts (with_part bound p) ps)) (solutions facts (exprs_of ps)) (part_solutions facts s (out-Expr (expr_of p)))
      (part_known p bound s at) (λ t k. parts_known ps (with_part bound p) t k)

-- ---- the effects

none_free : (bound vs : List Var) → first_free bound vs ≡ None → list_all (is_bound bound) vs ≡ true
none_free bound [] e = refl
none_free bound (v ∷ vs) e = go (none_free bound vs) (is_bound bound v) refl e
  where
    go : (first_free bound vs ≡ None → list_all (is_bound bound) vs ≡ true) → (b : Bool) → is_bound bound v ≡ b → cond b (first_free bound vs) (Some v.name) ≡ None
        → list_all (is_bound bound) (v ∷ vs) ≡ true
    go more true h e = both_are (is_bound bound v) (list_all (is_bound bound) vs) h (more e)
    go more false h e = absurd cc

-- of the literal of an effect, where it has one
InEffect : (LiteralOf Term → Type 0) → Effect → Type 0
InEffect P (Added l) = P l
InEffect P (Deleted l) = P l
InEffect P (Dropped name) = Unit {0}

effect_known : (e : Effect) (bound : List Var) (s : List Pair) → Known s bound → list_all (is_bound bound) (variables_in e) ≡ true → InEffect (λ l. effect s l ≡ ready s l) e
unfolding InEffect
effect_known (Added l) bound s k h = effect_ready s l (bound_term s bound (term.Lit l) k h)
effect_known (Deleted l) bound s k h = effect_ready s l (bound_term s bound (term.Lit l) k h)
effect_known (Dropped name) bound s k h = tt

effects_known : (es : List Effect) (bound : List Var) (s : List Pair) → Known s bound → list_all (is_bound bound) (effect_variables es) ≡ true
    → AllByRecursion (InEffect (λ l. effect s l ≡ ready s l)) es
effects_known [] bound s k h = tt
effects_known (e ∷ es) bound s k h =
    let parts = all_parts (is_bound bound) (variables_in e) (effect_variables es) h in
    (effect_known e bound s k parts.0, effects_known es bound s k parts.1)

-- those that are added, or taken away
change_all : (P : LiteralOf Term → Type 0) (add : Bool) (e : Effect) → InEffect P e → AllByRecursion P (option_to_list (change add e))
unfolding InEffect
change_all P true (Added l) a = (a, tt)
change_all P false (Added l) a = tt
change_all P true (Deleted l) a = tt
change_all P false (Deleted l) a = (a, tt)
change_all P add (Dropped name) a = tt

changes_all : (P : LiteralOf Term → Type 0) (add : Bool) (es : List Effect) → AllByRecursion (InEffect P) es → AllByRecursion P (changes add es)
changes_all P add [] a = tt
changes_all P add (e ∷ es) a = all_append P (option_to_list (change add e)) (changes add es) (change_all P add e a.0) (changes_all P add es a.1)

pub bound_effects : BoundEffects
bound_effects a ps free facts agent action start ground asked entered =
    let bound = with_parts (bound_at_first a) ps in
    let at = entered_known (act_of a ps) agent action start asked entered in
    all_weaker (At bound) (λ s. AllByRecursion (λ l. effect s l ≡ ready s l) (changes false a.effects ++ changes true a.effects))
    (λ s k.
    let P : LiteralOf Term → Type 0 = λ l. effect s l ≡ ready s l in
    let each = effects_known a.effects bound s k.known (none_free bound (effect_variables a.effects) free) in
    all_append P (changes false a.effects) (changes true a.effects) (changes_all P false a.effects each) (changes_all P true a.effects each))
    (solutions facts (exprs_of ps) start)
    (parts_known facts (each_passes is_ground_literal facts ground) ps (bound_at_first a) start at)

-- ---- the acts of a world file

abbrev ActsAre : Result WorldText WorldFault → Type 0
ActsAre (Ok v) = AllByRecursion LeavesNone v.acts
ActsAre (Err fault) = Unit {0}

module _ (artifacts : List (List ℕ)) (w : WorldText) (h : AllByRecursion LeavesNone w.acts) (k : ℕ) (t : Tok) where
  bound_act : (a : WrittenAct) (ps : List Part) (o : Option (List ℕ)) → unbound a ps ≡ o → ActsAre (bound_made w k a ps o)
  bound_act a ps None e = all_append LeavesNone w.acts (act_of a ps ∷ []) h (bound_effects a ps e, tt)
  bound_act a ps (Some name) e = tt

  use_acts : (name : List ℕ) (used known : Bool) → ActsAre (cond used (Err (Clause k t.line t.column)) (cond known (Ok (with_use w name)) (Err (UnknownArtifact k name))))
  use_acts name true known = tt
  use_acts name false true = h
  use_acts name false false = tt

  made_acts : (s : Statement) → ActsAre (made artifacts w k t s)
  made_acts (statement.Fact l) = h
  made_acts (statement.Hide name) = h
  made_acts (statement.Use name) = use_acts name (has_name w.uses name) (has_name artifacts name)
  made_acts (statement.Act a) = bound_act a (said_parts a.guard) (unbound a (said_parts a.guard)) refl

read_acts : {artifacts : List (List ℕ)} {k : ℕ} {w : WorldText} {ps : List (List Tok)} {text : WorldText} → Answers artifacts k w ps (Ok text) →
    AllByRecursion LeavesNone w.acts → AllByRecursion LeavesNone text.acts
read_acts all_read h = h
read_acts {artifacts} {k} {w} (is_read {t = t} {s = s} d r e m a) h = read_acts a (subst ActsAre m (made_acts artifacts w h k t s))

pub ground_effects : GroundEffects
ground_effects artifacts bytes text h = read_acts h.answers tt
