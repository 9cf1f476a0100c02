-- Terms and the values of their variables.
use Rattle.std.proofs.Common.{◌≡◌, ℤ, Bool, true, false, ◌&&◌, ◌||◌, cond, List, [], ◌∷◌, ◌++◌, map, Option, Some, None, unwrap_or, refl, ap, sym, ◌∙◌}
use Rattle.std.specs.Prelude.{Ok, Err}
use Rattle.std.specs.Option.{option_map}
use Rattle.std.specs.List.{AllByRecursion, list_all, list_any}
use Rattle.std.proofs.lemmas.Bool.{false≢true}
use Rattle.std.proofs.lemmas.List.Folds.{list_all-append}
use Rattle.asl_term.specs.declared.syntax.Var.{Var}
use Rattle.asl_term.specs.declared.syntax.ArithOf.{ArithOf}
use Rattle.asl_term.specs.declared.syntax.LiteralOf.{LiteralOf}
use Rattle.asl_term.specs.declared.syntax.ListingOf.{ListingOf}
use Rattle.asl_term.specs.declared.syntax.Term.{Term}
use Rattle.asl_term.specs.declared.syntax.Term.TheVariants as term
use Rattle.asl_term.specs.declared.syntax.Term.TheOpen.{Term-F}
use Rattle.asl_term.specs.declared.syntax.Term.TheOpen as layer
use Rattle.asl_term.specs.Layers.{made}
use Rattle.asl_term.specs.Trees.{all, or_true, is_ground, same_var}
use Rattle.asl_term.specs.Variables.{joined, vars, vars_step, with_var, noted, variables}
use Rattle.asl_term.proofs.Same.{same_var_true}
use Rattle.asl_term.proofs.Terms.{OfTail, by_cases, fold_num, fold_str, fold_var, fold_lit, fold_list, fold_op, out_made}
use Rattle.asl_term.proofs.Grounds.{ground_num, ground_str, ground_var, ground_lit, ground_list, ground_op}
use Rattle.asl_unify.specs.Puts.{nil, ending, cons, cons_list, as_list, merged, put, put_step}
use Rattle.asl_unify.specs.Settling.{Settled, and_then, each, if_any, number_in, number_of, or_failing, value, value_if, operation, with_parts, settle, settle_step, settle_literal, Failing}
use Rattle.asl_unify.proofs.General.{put-lit, put-op}
use Rattle.asl_unify.proofs.Laws.{put-var}
use Rattle.asl_unify.proofs.Puts.{put-list, put-nil, list_of-made}
use Rattle.asl_unify.proofs.Views.{by_layers}

-- ---- tests of all

true_right : (b : Bool) → b ≡ (b && true)
true_right true = refl
true_right false = refl

and_assoc : (a b c : Bool) → ((a && b) && c) ≡ (a && (b && c))
and_assoc true b c = refl
and_assoc false b c = refl

pub both_true : (a b : Bool) → (a && b) ≡ true → (a ≡ true) × (b ≡ true)
both_true true b e = (refl, e)
both_true false b e = absurd (false≢true e)

pub both_are : (a b : Bool) → a ≡ true → b ≡ true → (a && b) ≡ true
both_are a b e f = ap (λ z. z && b) e ∙ f

module _ {X : Type 0} (p : X → Bool) where
  pub all_parts : (xs ys : List X) → list_all p (xs ++ ys) ≡ true → (list_all p xs ≡ true) × (list_all p ys ≡ true)
  all_parts xs ys e = both_true (list_all p xs) (list_all p ys) (sym (list_all-append p xs ys) ∙ e)

  pub all_joined : (xs ys : List X) → list_all p xs ≡ true → list_all p ys ≡ true → list_all p (xs ++ ys) ≡ true
  all_joined xs ys a b = list_all-append p xs ys ∙ both_are (list_all p xs) (list_all p ys) a b

-- ---- the variables of a term without any

abbrev none : Var → Bool
none v = false

abbrev IsGround : Term → Type 0
IsGround t = is_ground t ≡ list_all none (vars t)

grounds : (ts : List Term) → AllByRecursion IsGround ts → all (map is_ground ts) ≡ list_all none (joined (map vars ts))
grounds [] a = refl
grounds (t ∷ ts) a = (λ i. a.0 i && grounds ts a.1 i) ∙ sym (list_all-append none (vars t) (joined (map vars ts)))

tail_ground : (t : Option Term) → OfTail IsGround t → or_true (option_map is_ground t) ≡ list_all none (unwrap_or (option_map vars t) [])
tail_ground None a = refl
tail_ground (Some t) a = a

pub no_vars : (t : Term) → IsGround t
no_vars = by_cases IsGround (record {
  at_num = λ n. ground_num n ∙ ap (list_all none) (sym (fold_num (List Var) vars_step n));
  at_str = λ b. ground_str b ∙ ap (list_all none) (sym (fold_str (List Var) vars_step b));
  at_var = λ v. ground_var v ∙ ap (list_all none) (sym (fold_var (List Var) vars_step v));
  at_lit = λ l args annots.
      ground_lit l ∙ (λ i. grounds l.args args i && grounds l.annots annots i)
      ∙ sym (list_all-append none (joined (map vars l.args)) (joined (map vars l.annots)))
      ∙ ap (list_all none) (sym (fold_lit (List Var) vars_step l));
  at_list = λ l items tail.
      ground_list l ∙ (λ i. grounds l.items items i && tail_ground l.tail tail i)
      ∙ sym (list_all-append none (joined (map vars l.items)) (unwrap_or (option_map vars l.tail) []))
      ∙ ap (list_all none) (sym (fold_list (List Var) vars_step l));
  at_op = λ a left right.
      ground_op a ∙ (λ i. left i && right i) ∙ sym (list_all-append none (vars a.left) (vars a.right)) ∙ ap (list_all none) (sym (fold_op (List Var) vars_step a));
})

-- so any test holds of all of them
none_any : (p : Var → Bool) (vs : List Var) → list_all none vs ≡ true → list_all p vs ≡ true
none_any p [] e = refl
none_any p (v ∷ vs) e = absurd (false≢true e)

pub ground_any : (p : Var → Bool) (t : Term) → is_ground t ≡ true → list_all p (vars t) ≡ true
ground_any p t e = none_any p (vars t) (sym (no_vars t) ∙ e)

-- ---- the variables of a term under a substitution

ground_nil : is_ground nil ≡ true
ground_nil = ground_list (record { items = []; tail = None })

single_ground : (x t : Term) → is_ground (term.List (record { items = x ∷ []; tail = Some t })) ≡ (is_ground x && is_ground t)
single_ground x t = ground_list (record { items = x ∷ []; tail = Some t }) ∙ ap (λ b. b && is_ground t) (sym (true_right (is_ground x)))

layer_cons : (x : Term) (y : Term-F Term) → is_ground (cons_list x (made y) (as_list y)) ≡ (is_ground x && is_ground (made y))
layer_cons x (layer.List l) =
    ground_list (record { items = x ∷ l.items; tail = l.tail })
    ∙ and_assoc (is_ground x) (all (map is_ground l.items)) (or_true (option_map is_ground l.tail))
    ∙ ap (λ b. is_ground x && b) (sym (ground_list l))
layer_cons x (layer.Num n) = single_ground x (term.Num n)
layer_cons x (layer.Str n) = single_ground x (term.Str n)
layer_cons x (layer.Var n) = single_ground x (term.Var n)
layer_cons x (layer.Lit n) = single_ground x (term.Lit n)
layer_cons x (layer.Op n) = single_ground x (term.Op n)

ground_cons : (x t : Term) → is_ground (cons x t) ≡ (is_ground x && is_ground t)
ground_cons x = by_layers (λ t. is_ground (cons x t) ≡ (is_ground x && is_ground t)) (λ y. ap (λ o. is_ground (cons_list x (made y) o)) (list_of-made y) ∙ layer_cons x y)

ground_merged : (xs : List Term) (t : Term) → is_ground (merged xs t) ≡ (all (map is_ground xs) && is_ground t)
ground_merged [] t = refl
ground_merged (x ∷ xs) t =
    ground_cons x (merged xs t) ∙ ap (λ b. is_ground x && b) (ground_merged xs t) ∙ sym (and_assoc (is_ground x) (all (map is_ground xs)) (is_ground t))

module _ (h : Var → Term) where
  abbrev pub has_value : Var → Bool
  has_value v = is_ground (h v)

  abbrev IsPut : Term → Type 0
  IsPut t = is_ground (put h t) ≡ list_all has_value (vars t)

  puts : (ts : List Term) → AllByRecursion IsPut ts → all (map is_ground (map (put h) ts)) ≡ list_all has_value (joined (map vars ts))
  puts [] a = refl
  puts (t ∷ ts) a = (λ i. a.0 i && puts ts a.1 i) ∙ sym (list_all-append has_value (vars t) (joined (map vars ts)))

  end_put : (t : Option Term) → OfTail IsPut t → is_ground (put h (ending t)) ≡ list_all has_value (unwrap_or (option_map vars t) [])
  end_put None a = ap is_ground (put-nil h) ∙ ground_nil
  end_put (Some t) a = a

  -- it is without variables where the value of each of its variables is
  pub put_ground : (t : Term) → IsPut t
  put_ground = by_cases IsPut (record {
    at_num = λ n. ap is_ground (fold_num Term (put_step h) n) ∙ ground_num n ∙ ap (list_all has_value) (sym (fold_num (List Var) vars_step n));
    at_str = λ b. ap is_ground (fold_str Term (put_step h) b) ∙ ground_str b ∙ ap (list_all has_value) (sym (fold_str (List Var) vars_step b));
    at_var = λ v. ap is_ground (put-var h v) ∙ true_right (has_value v) ∙ ap (list_all has_value) (sym (fold_var (List Var) vars_step v));
    at_lit = λ l args annots.
        ap is_ground (put-lit h l) ∙ ground_lit (record l { args = map (put h) l.args; annots = map (put h) l.annots })
        ∙ (λ i. puts l.args args i && puts l.annots annots i)
        ∙ sym (list_all-append has_value (joined (map vars l.args)) (joined (map vars l.annots)))
        ∙ ap (list_all has_value) (sym (fold_lit (List Var) vars_step l));
    at_list = λ l items tail.
        ap is_ground (put-list h l) ∙ ground_merged (map (put h) l.items) (put h (ending l.tail))
        ∙ (λ i. puts l.items items i && end_put l.tail tail i)
        ∙ sym (list_all-append has_value (joined (map vars l.items)) (unwrap_or (option_map vars l.tail) []))
        ∙ ap (list_all has_value) (sym (fold_list (List Var) vars_step l));
    at_op = λ a left right.
        ap is_ground (put-op h a) ∙ ground_op (record a { left = put h a.left; right = put h a.right })
        ∙ (λ i. left i && right i) ∙ sym (list_all-append has_value (vars a.left) (vars a.right)) ∙ ap (list_all has_value) (sym (fold_op (List Var) vars_step a));
  })

  -- a term without variables stays one
  pub ground_put : (t : Term) → is_ground t ≡ true → is_ground (put h t) ≡ true
  ground_put t e = put_ground t ∙ ground_any has_value t e

-- ---- a term whose operations became numbers has its variables

term_is : {x y : Term} → ◌≡◌ {A = Settled Term} (Ok x) (Ok y) → x ≡ y
term_is e = cc

terms_are : {x y : List Term} → ◌≡◌ {A = Settled (List Term)} (Ok x) (Ok y) → x ≡ y
terms_are e = cc

literal_is : {x y : LiteralOf Term} → ◌≡◌ {A = Settled (LiteralOf Term)} (Ok x) (Ok y) → x ≡ y
literal_is e = cc

tail_is : {x y : Option Term} → ◌≡◌ {A = Settled (Option Term)} (Ok x) (Ok y) → x ≡ y
tail_is e = cc

failed : {A : Type 0} {f : Failing} {x : Term} → ◌≡◌ {A = Settled Term} (Err f) (Ok x) → A
failed e = absurd cc

failed_all : {A : Type 0} {f : Failing} {x : List Term} → ◌≡◌ {A = Settled (List Term)} (Err f) (Ok x) → A
failed_all e = absurd cc

failed_tail : {A : Type 0} {f : Failing} {x : Option Term} → ◌≡◌ {A = Settled (Option Term)} (Err f) (Ok x) → A
failed_tail e = absurd cc

abbrev Keeps : Term → Type 0
Keeps t = (u : Term) → settle t ≡ Ok u → vars u ≡ vars t

all_keep : (ts us : List Term) → AllByRecursion Keeps ts → each (map settle ts) ≡ Ok us → joined (map vars us) ≡ joined (map vars ts)
all_keep [] us a e = ap (λ xs. joined (map vars xs)) (sym (terms_are e))
all_keep (t ∷ ts) us a e = go (λ xs q. all_keep ts xs a.1 q) (settle t) refl (each (map settle ts)) refl e
  where
    go : ((xs : List Term) → each (map settle ts) ≡ Ok xs → joined (map vars xs) ≡ joined (map vars ts)) → (r : Settled Term) → settle t ≡ r → (rs : Settled (List Term)) → each (map settle ts) ≡ rs → and_then r (λ x. and_then rs (λ xs. Ok (x ∷ xs))) ≡ Ok us → joined (map vars us) ≡ joined (map vars (t ∷ ts))
    go more (Err f) p rs q e = failed_all e
    go more (Ok x) p (Err f) q e = failed_all e
    go more (Ok x) p (Ok xs) q e = ap (λ zs. joined (map vars zs)) (sym (terms_are e)) ∙ (λ i. a.0 x p i ++ more xs q i)

tail_keeps : (t u : Option Term) → OfTail Keeps t → if_any (option_map settle t) ≡ Ok u → unwrap_or (option_map vars u) [] ≡ unwrap_or (option_map vars t) []
tail_keeps None u a e = ap (λ z. unwrap_or (option_map vars z) []) (sym (tail_is e))
tail_keeps (Some t) u a e = go (settle t) refl e
  where
    go : (r : Settled Term) → settle t ≡ r → and_then r (λ x. Ok (Some x)) ≡ Ok u → unwrap_or (option_map vars u) [] ≡ vars t
    go (Err f) p e = failed_tail e
    go (Ok x) p e = ap (λ z. unwrap_or (option_map vars z) []) (sym (tail_is e)) ∙ a x p

-- a number has none
number_vars : (t : Term) (n : _) → number_of t ≡ Some n → vars t ≡ []
number_vars = by_layers (λ t. (n : _) → number_of t ≡ Some n → vars t ≡ []) at where
  at : (y : Term-F Term) (n : _) → number_of (made y) ≡ Some n → vars (made y) ≡ []
  at (layer.Num m) n e = fold_num (List Var) vars_step m
  at (layer.Str m) n e = let f = sym (ap number_in (out_made (layer.Str m))) ∙ e in absurd cc
  at (layer.Var m) n e = let f = sym (ap number_in (out_made (layer.Var m))) ∙ e in absurd cc
  at (layer.Lit m) n e = let f = sym (ap number_in (out_made (layer.Lit m))) ∙ e in absurd cc
  at (layer.List m) n e = let f = sym (ap number_in (out_made (layer.List m))) ∙ e in absurd cc
  at (layer.Op m) n e = let f = sym (ap number_in (out_made (layer.Op m))) ∙ e in absurd cc

no_operand : {A : Type 0} {f : Failing} {u : Term} → and_then (or_failing f None) (λ n. Ok (term.Num n)) ≡ Ok u → A
no_operand e = absurd cc

module _ (a : ArithOf Term) (left : Keeps a.left) (right : Keeps a.right) where
  operands : (x y : Term) → settle a.left ≡ Ok x → settle a.right ≡ Ok y → (m n : Option ℤ) → number_of x ≡ m → number_of y ≡ n → (u : Term)
      → and_then (or_failing (record { op = a.op; left = number_of x; right = number_of y }) (value_if a.op m n)) (λ n. Ok (term.Num n)) ≡ Ok u → vars u ≡ vars (term.Op a)
  operands x y p q None n i j u e = no_operand e
  operands x y p q (Some m) None i j u e = no_operand e
  operands x y p q (Some m) (Some n) i j u e = go (value a.op m n) e
    where
      inner : vars (term.Op a) ≡ []
      inner = fold_op (List Var) vars_step a ∙ sym (λ k. left x p k ++ right y q k) ∙ (λ k. number_vars x m i k ++ number_vars y n j k)

      go : (o : Option ℤ) → and_then (or_failing (record { op = a.op; left = number_of x; right = number_of y }) o) (λ n. Ok (term.Num n)) ≡ Ok u → vars u ≡ vars (term.Op a)
      go None e = no_operand e
      go (Some k) e = ap vars (sym (term_is e)) ∙ fold_num (List Var) vars_step k ∙ sym inner

settled_literal : (l : LiteralOf Term) (args annots : Settled (List Term)) → AllByRecursion Keeps l.args → AllByRecursion Keeps l.annots → each (map settle l.args) ≡ args
    → each (map settle l.annots) ≡ annots → (m : LiteralOf Term) → with_parts l args annots ≡ Ok m → vars (term.Lit m) ≡ vars (term.Lit l)
settled_literal l (Err f) annots a b p q m e = absurd cc
settled_literal l (Ok xs) (Err f) a b p q m e = absurd cc
settled_literal l (Ok xs) (Ok ys) a b p q m e =
    let same : record { neg = l.neg; functor = l.functor; args = xs; annots = ys } ≡ m = literal_is e in
    ap (λ z. vars (term.Lit z)) (sym same)
    ∙ fold_lit (List Var) vars_step (record { neg = l.neg; functor = l.functor; args = xs; annots = ys })
    ∙ (λ i. all_keep l.args xs a p i ++ all_keep l.annots ys b q i)
    ∙ sym (fold_lit (List Var) vars_step l)

-- settling keeps the variables
pub settled_vars : (t : Term) → Keeps t
settled_vars = by_cases Keeps (record {
  at_num = λ n u e. ap vars (sym (term_is (sym (fold_num (Settled Term) settle_step n) ∙ e)));
  at_str = λ b u e. ap vars (sym (term_is (sym (fold_str (Settled Term) settle_step b) ∙ e)));
  at_var = λ v u e. ap vars (sym (term_is (sym (fold_var (Settled Term) settle_step v) ∙ e)));
  at_lit = λ l args annots u e. of_literal l args annots (with_parts l (each (map settle l.args)) (each (map settle l.annots))) refl u (sym (fold_lit (Settled Term) settle_step l) ∙ e);
  at_list = λ l items tail u e. of_list l items tail (each (map settle l.items)) refl (if_any (option_map settle l.tail)) refl u (sym (fold_list (Settled Term) settle_step l) ∙ e);
  at_op = λ a left right u e. of_op a left right (settle a.left) refl (settle a.right) refl u (sym (fold_op (Settled Term) settle_step a) ∙ e);
}) where
  of_literal : (l : LiteralOf Term) → AllByRecursion Keeps l.args → AllByRecursion Keeps l.annots → (r : Settled (LiteralOf Term))
      → with_parts l (each (map settle l.args)) (each (map settle l.annots)) ≡ r → (u : Term) → and_then r (λ m. Ok (term.Lit m)) ≡ Ok u → vars u ≡ vars (term.Lit l)
  of_literal l a b (Err f) p u e = failed e
  of_literal l a b (Ok m) p u e = ap vars (sym (term_is e)) ∙ settled_literal l (each (map settle l.args)) (each (map settle l.annots)) a b refl refl m p

  of_list : (l : ListingOf Term) → AllByRecursion Keeps l.items → OfTail Keeps l.tail → (r : Settled (List Term)) → each (map settle l.items) ≡ r → (o : Settled (Option Term))
      → if_any (option_map settle l.tail) ≡ o → (u : Term) → and_then r (λ xs. and_then o (λ t. Ok (term.List (record { items = xs; tail = t })))) ≡ Ok u → vars u ≡ vars (term.List l)
  of_list l a b (Err f) p o q u e = failed e
  of_list l a b (Ok xs) p (Err f) q u e = failed e
  of_list l a b (Ok xs) p (Ok t) q u e =
      ap vars (sym (term_is e))
      ∙ fold_list (List Var) vars_step (record { items = xs; tail = t })
      ∙ (λ i. all_keep l.items xs a p i ++ tail_keeps l.tail t b q i)
      ∙ sym (fold_list (List Var) vars_step l)

  of_op : (a : ArithOf Term) → Keeps a.left → Keeps a.right → (r : Settled Term) → settle a.left ≡ r → (s : Settled Term) → settle a.right ≡ s → (u : Term)
      → and_then r (λ x. and_then s (λ y. and_then (operation a.op x y) (λ n. Ok (term.Num n)))) ≡ Ok u → vars u ≡ vars (term.Op a)
  of_op a left right (Err f) p s q u e = failed e
  of_op a left right (Ok x) p (Err f) q u e = failed e
  of_op a left right (Ok x) p (Ok y) q u e = operands a left right x y p q (number_of x) (number_of y) refl refl u e

pub settled_literal_vars : (l m : LiteralOf Term) → settle_literal l ≡ Ok m → vars (term.Lit m) ≡ vars (term.Lit l)
settled_literal_vars l m e = settled_vars (term.Lit l) (term.Lit m) (fold_lit (Settled Term) settle_step l ∙ ap (λ r. and_then r (λ m. Ok (term.Lit m))) e)

-- ---- the distinct variables

module _ (p : Var → Bool) where
  -- what holds of each of these holds of one that is among them
  pub among_all : (found : List Var) (x : Var) → list_any (λ y. same_var y x) found ≡ true → list_all p found ≡ true → p x ≡ true
  among_all [] x e a = absurd (false≢true e)
  among_all (y ∷ found) x e a = go (among_all found x) (same_var y x) refl e
    where
      go : (list_any (λ y. same_var y x) found ≡ true → list_all p found ≡ true → p x ≡ true) → (b : Bool) → same_var y x ≡ b → (b || list_any (λ y. same_var y x) found) ≡ true → p x ≡ true
      go later true h e = ap p (sym (same_var_true y x h)) ∙ (both_true (p y) (list_all p found) a).0
      go later false h e = later e (both_true (p y) (list_all p found) a).1

  with_all : (found : List Var) (x : Var) (b : Bool) → list_all p found ≡ true → p x ≡ true → list_all p (cond b found (found ++ x ∷ [])) ≡ true
  with_all found x true a h = a
  with_all found x false a h = all_joined p found (x ∷ []) a (both_are (p x) true h refl)

  -- and of the distinct ones
  pub noted_all : (found vs : List Var) → list_all p found ≡ true → list_all p vs ≡ true → list_all p (noted found vs) ≡ true
  noted_all found [] a h = a
  noted_all found (x ∷ vs) a h =
      let both = both_true (p x) (list_all p vs) h in
      noted_all (with_var found x) vs (with_all found x (list_any (λ y. same_var y x) found) a both.0) both.1

  found_all : (found : List Var) (x : Var) (b : Bool) → list_any (λ y. same_var y x) found ≡ b → list_all p (cond b found (found ++ x ∷ [])) ≡ true → (list_all p found ≡ true) × (p x ≡ true)
  found_all found x true e a = (a, among_all found x e a)
  found_all found x false e a = let parts = all_parts p found (x ∷ []) a in (parts.0, (both_true (p x) true parts.1).0)

  -- what holds of the distinct ones holds of all
  pub all_noted : (vs found : List Var) → list_all p (noted found vs) ≡ true → (list_all p found ≡ true) × (list_all p vs ≡ true)
  all_noted [] found a = (a, refl)
  all_noted (x ∷ vs) found a =
      let later = all_noted vs (with_var found x) a in
      let here = found_all found x (list_any (λ y. same_var y x) found) refl later.0 in
      (here.0, both_are (p x) (list_all p vs) here.1 later.1)

  pub variables_all : (t : Term) → list_all p (vars t) ≡ true → list_all p (variables t) ≡ true
  variables_all t a = noted_all [] (vars t) refl a

  pub all_variables : (t : Term) → list_all p (variables t) ≡ true → list_all p (vars t) ≡ true
  all_variables t a = (all_noted (vars t) [] a).1
