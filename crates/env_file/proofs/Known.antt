-- What the solutions of a guard bind.
use Rattle.std.proofs.Common.{◌≡◌, ℕ, zero, suc, ◌<◌, Bool, true, false, ◌&&◌, cond, eqb, List, [], ◌∷◌, ◌++◌, length, map, get_or, Option, Some, None, refl, ap, sym, ◌∙◌, subst, arith}
use Rattle.std.specs.Prelude.{Ok, Err}
use Rattle.std.specs.Option.{option_and_then}
use Rattle.std.specs.Result.{result_ok}
use Rattle.std.specs.List.{AllByRecursion, Contains, list_all, flat_map}
use Rattle.std.proofs.lemmas.Bool.{eqb-true}
use Rattle.std.specs.Str.{bytes_eq}
use Rattle.asl_term.specs.declared.syntax.Var.{Var}
use Rattle.asl_term.specs.declared.syntax.LiteralOf.{LiteralOf}
use Rattle.asl_term.specs.declared.syntax.RelOp.{RelOp}
use Rattle.asl_term.specs.declared.syntax.RelOp.TheVariants.{Less, LessEq, More, MoreEq, Same, Differ, Unify}
use Rattle.asl_term.specs.declared.syntax.Relation.{Relation}
use Rattle.asl_term.specs.declared.syntax.Term.{Term}
use Rattle.asl_term.specs.declared.syntax.Term.TheVariants as term
use Rattle.asl_term.specs.Exprs.{is_ground_literal}
use Rattle.asl_term.specs.Trees.{all, is_ground}
use Rattle.asl_term.specs.Variables.{vars, variables}
use Rattle.asl_term.proofs.Grounds.{ground_lit}
use Rattle.asl_unify.specs.declared.subst.Pair.{Pair}
use Rattle.asl_unify.specs.Applied.{applied_literal, within_literal}
use Rattle.asl_unify.specs.Compare.{ask, asks, same_frame, same_sign, Outcome, Unified, Failed}
use Rattle.asl_unify.specs.Comparing.{holds, Gives}
use Rattle.asl_unify.specs.Matches.{agreed, matches}
use Rattle.asl_unify.specs.Puts.{put, apply, value_of, IsSubst, Extends, MostGeneral}
use Rattle.asl_unify.specs.Settling.{Settled, and_then, settle, settle_literal}
use Rattle.asl_unify.specs.Unified.{unified}
use Rattle.asl_unify.specs.Unifiers.{UnifiesAll, IsMatch, IsGiven, IsGivenBy}
use Rattle.asl_unify.proofs.General.{put-lit, extension-solves}
use Rattle.asl_unify.proofs.Laws.{put-var, put-apply}
use Rattle.asl_unify.proofs.Matched.{matches-general, holds-given}
use Rattle.asl_unify.proofs.Unified.{unified_general}
use Rattle.mas_world.specs.declared.acts.Act.{Act}
use Rattle.mas_world.specs.Acts.{atom, entered, if_ground, effect}
use Rattle.mas_world.specs.Guards.{first_of, ready, found, if_none, if_ready}
use Rattle.env_file.proofs.Values.{both_true, both_are, all_joined, no_vars, has_value, put_ground, ground_put, settled_vars, settled_literal_vars, variables_all}

-- ---- lists

module _ {A : Type 0} (P : A → Type 0) where
  pub all_append : (xs ys : List A) → AllByRecursion P xs → AllByRecursion P ys → AllByRecursion P (xs ++ ys)
  all_append [] ys a b = b
  all_append (x ∷ xs) ys a b = (a.0, all_append xs ys a.1 b)

pub all_flat : {A B : Type 0} (P : A → Type 0) (Q : B → Type 0) (f : A → List B) (xs : List A) → AllByRecursion P xs → ((x : A) → P x → AllByRecursion Q (f x)) → AllByRecursion Q (flat_map f xs)
all_flat P Q f [] a g = tt
all_flat P Q f (x ∷ xs) a g = all_append Q (f x) (flat_map f xs) (g x a.0) (all_flat P Q f xs a.1 g)

pub all_weaker : {A : Type 0} (P Q : A → Type 0) → ((x : A) → P x → Q x) → (xs : List A) → AllByRecursion P xs → AllByRecursion Q xs
all_weaker P Q f [] a = tt
all_weaker P Q f (x ∷ xs) a = (f x a.0, all_weaker P Q f xs a.1)

pub each_passes : {A : Type 0} (p : A → Bool) (xs : List A) → list_all p xs ≡ true → AllByRecursion (λ x. p x ≡ true) xs
each_passes p [] e = tt
each_passes p (x ∷ xs) e = let both = both_true (p x) (list_all p xs) e in (both.0, each_passes p xs both.1)

-- ---- a match with a literal without variables

contained_ground : (held : List Term) (c : Term) (k : ℕ) → k < length held → get_or held k c ≡ c → all (map is_ground held) ≡ true → is_ground c ≡ true
contained_ground [] c k lt e a = absurd (omega (arith, lt))
contained_ground (y ∷ held) c zero lt e a = ap is_ground (sym e) ∙ (both_true (is_ground y) (all (map is_ground held)) a).0
contained_ground (y ∷ held) c (suc k) lt e a = contained_ground held c k (omega (arith, lt)) e (both_true (is_ground y) (all (map is_ground held)) a).1

choice_ground : (held choice : List Term) → AllByRecursion (Contains held) choice → all (map is_ground held) ≡ true → all (map is_ground choice) ≡ true
choice_ground held [] c a = refl
choice_ground held (x ∷ choice) c a =
    both_are (is_ground x) (all (map is_ground choice)) (contained_ground held x c.0.0 c.0.1 c.0.2 a) (choice_ground held choice c.1 a)

asked_ground : (t : List Pair) (xs ys : List Term) (w : List _) → length xs ≡ length ys → all (map is_ground ys) ≡ true → UnifiesAll (asks xs ys w) t
    → (all (map is_ground (map (put (value_of t)) xs)) ≡ true) × UnifiesAll w t
asked_ground t [] [] w l a u = (refl, u)
asked_ground t [] (y ∷ ys) w l a u = absurd (omega (arith, l))
asked_ground t (x ∷ xs) [] w l a u = absurd (omega (arith, l))
asked_ground t (x ∷ xs) (y ∷ ys) w l a u =
    let b = both_true (is_ground y) (all (map is_ground ys)) a in
    let more = asked_ground t xs ys w (omega (arith, l)) b.1 u.1 in
    let h = value_of t in
    (both_are (is_ground (put h x)) (all (map is_ground (map (put h) xs))) (ap is_ground u.0 ∙ ground_put h y b.0) more.0, more.1)

frame_args : (g f : LiteralOf Term) → same_frame g f ≡ true → length g.args ≡ length f.args
frame_args g f e = eqb-true (length g.args) (length f.args) (both_true (same_sign g.neg f.neg && bytes_eq g.functor f.functor) (eqb (length g.args) (length f.args)) e).1

match_ground : (g f : LiteralOf Term) (s t : List Pair) → IsMatch g f s t → is_ground_literal f ≡ true → is_ground (apply t (term.Lit g)) ≡ true
match_ground g f s t m e =
    let h = value_of t in
    let parts = both_true (all (map is_ground f.args)) (all (map is_ground f.annots)) (sym (ground_lit f) ∙ e) in
    let args = asked_ground t g.args f.args (asks g.annots m.1 []) (frame_args g f m.0) parts.0 m.3.unifies in
    let annots = asked_ground t g.annots m.1 [] (sym m.2.0) (choice_ground f.annots m.1 m.2.1 parts.1) args.1 in
    ap is_ground (put-lit h g) ∙ ground_lit (record g { args = map (put h) g.args; annots = map (put h) g.annots })
    ∙ both_are (all (map is_ground (map (put h) g.args))) (all (map is_ground (map (put h) g.annots))) args.0 annots.0

-- ---- variables whose values have none

abbrev pub Known : List Pair → List Var → Type 0
Known s vs = list_all (has_value (value_of s)) vs ≡ true

pub record At (bound : List Var) (s : List Pair) : Type 0 where
  pub is : IsSubst s
  pub known : Known s bound

module _ (s t : List Pair) (is : IsSubst t) (ext : Extends s t) where
  value_later : (v : Var) → is_ground (value_of s v) ≡ true → is_ground (value_of t v) ≡ true
  value_later v e =
      let k = value_of t in
      let same : put k (value_of s v) ≡ value_of t v = ap (put k) (sym (put-var (value_of s) v)) ∙ put-apply k s (extension-solves s t is ext) (term.Var v) ∙ put-var k v in
      ap is_ground (sym same) ∙ ground_put k (value_of s v) e

  pub known_later : (vs : List Var) → Known s vs → Known t vs
  known_later [] e = refl
  known_later (v ∷ vs) e =
      let both = both_true (is_ground (value_of s v)) (list_all (has_value (value_of s)) vs) e in
      both_are (is_ground (value_of t v)) (list_all (has_value (value_of t)) vs) (value_later v both.0) (known_later vs both.1)

  -- the variables of a term, where what it becomes has none
  term_known : (x g : Term) → vars g ≡ vars (apply s x) → is_ground (apply t g) ≡ true → Known t (vars x)
  term_known x g same e =
      let k = value_of t in
      sym (put_ground k x) ∙ ap is_ground (sym (put-apply k s (extension-solves s t is ext) x)) ∙ put_ground k (apply s x)
      ∙ ap (list_all (has_value k)) (sym same) ∙ sym (put_ground k g) ∙ e

-- ---- a literal of a guard

some_is : {A : Type 0} {x y : A} → Some x ≡ Some y → x ≡ y
some_is e = cc

none_is : {A B : Type 0} {x : A} → None ≡ Some x → B
none_is e = absurd cc

pub ready_settled : (s : List Pair) (l g : LiteralOf Term) → ready s l ≡ Some g → settle_literal (applied_literal s l) ≡ Ok g
ready_settled s l g = go (within_literal (applied_literal s l)) (settle_literal (applied_literal s l)) where
  go : (b : Bool) (r : Settled (LiteralOf Term)) → cond b (result_ok r) None ≡ Some g → r ≡ Ok g
  go true (Ok m) e = ap Ok (some_is e)
  go true (Err f) e = none_is e
  go false r e = none_is e

pub ready_vars : (s : List Pair) (l g : LiteralOf Term) → ready s l ≡ Some g → vars (term.Lit g) ≡ vars (apply s (term.Lit l))
ready_vars s l g e = settled_literal_vars (applied_literal s l) g (ready_settled s l g e) ∙ ap vars (sym (put-lit (value_of s) l))

module _ (facts : List (LiteralOf Term)) (ground : AllByRecursion (λ f. is_ground_literal f ≡ true) facts) (bound : List Var) (s : List Pair) (at : At bound s) where
  found_known : (l g : LiteralOf Term) → ready s l ≡ Some g → AllByRecursion (At (bound ++ variables (term.Lit l))) (found facts s g)
  found_known l g e =
      all_flat (λ f. is_ground_literal f ≡ true) (At (bound ++ variables (term.Lit l))) (λ f. matches g f s) facts ground
      (λ f h. all_weaker (IsMatch g f s) (At (bound ++ variables (term.Lit l))) (λ t m. of_match f h t m) (matches g f s) (matches-general g f s at.is))
    where
      of_match : (f : LiteralOf Term) → is_ground_literal f ≡ true → (t : List Pair) → IsMatch g f s t → At (bound ++ variables (term.Lit l)) t
      of_match f h t m =
          let is = m.3.is_subst in
          let ext = m.3.extends in
          let new = term_known s t is ext (term.Lit l) (term.Lit g) (ready_vars s l g e) (match_ground g f s t m h) in
          record {
            is = is;
            known = all_joined (has_value (value_of t)) bound (variables (term.Lit l)) (known_later s t is ext bound at.known) (variables_all (has_value (value_of t)) (term.Lit l) new);
          }

  pub holds_known : (l : LiteralOf Term) → AllByRecursion (At (bound ++ variables (term.Lit l))) (if_ready (found facts s) (ready s l))
  holds_known l = go (ready s l) refl where
    go : (o : Option (LiteralOf Term)) → ready s l ≡ o → AllByRecursion (At (bound ++ variables (term.Lit l))) (if_ready (found facts s) o)
    go None e = tt
    go (Some g) e = found_known l g e

  -- and one that is denied binds nothing
  pub denied_known : (l : LiteralOf Term) → AllByRecursion (At bound) (if_ready (λ g. if_none (found facts s g) s) (ready s l))
  denied_known l = go (ready s l) where
    none : (ts : List (List Pair)) → AllByRecursion (At bound) (if_none ts s)
    none [] = (at, tt)
    none (t ∷ ts) = tt

    go : (o : Option (LiteralOf Term)) → AllByRecursion (At bound) (if_ready (λ g. if_none (found facts s g) s) o)
    go None = tt
    go (Some g) = none (found facts s g)

-- ---- a relation

given_at : (op : RelOp) (a b : Term) (s t : List Pair) → IsSubst s → IsGiven op a b s t → IsSubst t × ((bound : List Var) → Known s bound → Known t bound)
given_at Unify a b s t i m = (m.is_subst, λ bound k. known_later s t m.is_subst m.extends bound k)
given_at Same a b s t i e = (subst IsSubst (sym e) i, λ bound k. subst (λ z. Known z bound) (sym e) k)
given_at Differ a b s t i e = (subst IsSubst (sym e) i, λ bound k. subst (λ z. Known z bound) (sym e) k)
given_at Less a b s t i e = (subst IsSubst (sym e) i, λ bound k. subst (λ z. Known z bound) (sym e) k)
given_at LessEq a b s t i e = (subst IsSubst (sym e) i, λ bound k. subst (λ z. Known z bound) (sym e) k)
given_at More a b s t i e = (subst IsSubst (sym e) i, λ bound k. subst (λ z. Known z bound) (sym e) k)
given_at MoreEq a b s t i e = (subst IsSubst (sym e) i, λ bound k. subst (λ z. Known z bound) (sym e) k)

-- both sides as they are compared
record Sides (r : Relation) (s t : List Pair) : Type 0 where
  left : Term
  right : Term
  left_is : settle (apply s r.left) ≡ Ok left
  right_is : settle (apply s r.right) ≡ Ok right
  given : IsGiven r.op left right s t

sides : (r : Relation) (s t : List Pair) → IsSubst s → holds r s ≡ Gives (Some t) → Sides r s t
sides r s t i e = go (settle (apply s r.left)) refl (settle (apply s r.right)) refl (holds-given r s t i e) where
  go : (x : Settled Term) → settle (apply s r.left) ≡ x → (y : Settled Term) → settle (apply s r.right) ≡ y
      → IsGivenBy (and_then x (λ a. and_then y (λ b. Ok (record { op = r.op; left = a; right = b })))) s t → Sides r s t
  go (Err f) p y q g = absurd g
  go (Ok x) p (Err f) q g = absurd g
  go (Ok x) p (Ok y) q g = record { left = x; right = y; left_is = p; right_is = q; given = g }

pub relation_at : (r : Relation) (bound : List Var) (s t : List Pair) → At bound s → holds r s ≡ Gives (Some t) → At bound t
relation_at r bound s t at e =
    let d = sides r s t at.is e in
    let g = given_at r.op d.left d.right s t at.is d.given in
    record { is = g.0; known = g.1 bound at.known }

-- a variable that is made one with a term without variables
unified_known : (left right a b : Term) (s t : List Pair) → settle (apply s left) ≡ Ok a → settle (apply s right) ≡ Ok b → MostGeneral (λ u. apply u a ≡ apply u b) s t
    → Known s (vars right) → Known t (vars left)
unified_known left right a b s t p q m k =
    let b_ground : is_ground b ≡ true = no_vars b ∙ ap (list_all (λ v. false)) (settled_vars (apply s right) b q) ∙ sym (no_vars (apply s right)) ∙ put_ground (value_of s) right ∙ k in
    let a_ground : is_ground (apply t a) ≡ true = ap is_ground m.unifies ∙ ground_put (value_of t) b b_ground in
    term_known s t m.is_subst m.extends left a (settled_vars (apply s left) a p) a_ground

pub equal_known : (left right : Term) (s t : List Pair) → IsSubst s → holds (record { op = Unify; left = left; right = right }) s ≡ Gives (Some t) → Known s (vars right) → Known t (vars left)
equal_known left right s t i e k =
    let d = sides (record { op = Unify; left = left; right = right }) s t i e in
    unified_known left right d.left d.right s t d.left_is d.right_is d.given k

-- ---- an act that is entered

atom_ground : (agent : List ℕ) → is_ground (atom agent) ≡ true
atom_ground agent = ground_lit (record { neg = false; functor = agent; args = []; annots = [] })

module _ (a : Act) (agent : List ℕ) (action : LiteralOf Term) (start : List Pair) (ground : is_ground_literal action ≡ true) where
  abbrev head : Term
  head = term.Lit a.head

  by_known : (s : List Pair) → At (variables head) s → unified s (ask a.by (atom agent) ∷ []) ≡ Unified start → At (variables head ++ variables a.by) start
  by_known s at e =
      let m = unified_general s start (ask a.by (atom agent) ∷ []) at.is e in
      let h = value_of start in
      let by : Known start (vars a.by) = sym (put_ground h a.by) ∙ ap is_ground m.unifies.0 ∙ ground_put h (atom agent) (atom_ground agent) in
      record {
        is = m.is_subst;
        known = all_joined (has_value h) (variables head) (variables a.by) (known_later s start m.is_subst m.extends (variables head) at.known) (variables_all (has_value h) a.by by);
      }

  agreed_known : (s : List Pair) → At (variables head) s → (o : Outcome) → unified s (ask a.by (atom agent) ∷ []) ≡ o → agreed o ≡ Some start → At (variables head ++ variables a.by) start
  agreed_known s at (Unified t) e f = by_known s at (e ∙ ap Unified (some_is f))
  agreed_known s at (Failed x) e f = none_is f

  head_known : (s : List Pair) → IsMatch a.head action [] s → At (variables head) s
  head_known s m = record {
    is = m.3.is_subst;
    known = variables_all (has_value (value_of s)) head (sym (put_ground (value_of s) head) ∙ match_ground a.head action [] s m ground);
  }

  first_known : (ms : List (List Pair)) → AllByRecursion (IsMatch a.head action []) ms → option_and_then (λ s. agreed (unified s (ask a.by (atom agent) ∷ []))) (first_of ms) ≡ Some start
      → At (variables head ++ variables a.by) start
  first_known [] m e = none_is e
  first_known (s ∷ ms) m e = agreed_known s (head_known s m.0) (unified s (ask a.by (atom agent) ∷ [])) refl e

  pub entered_known : entered a agent action ≡ Some start → At (variables head ++ variables a.by) start
  entered_known e = first_known (matches a.head action []) (matches-general a.head action [] tt) e

-- ---- an effect

pub effect_ready : (s : List Pair) (l : LiteralOf Term) → Known s (vars (term.Lit l)) → effect s l ≡ ready s l
effect_ready s l k = go (ready s l) refl where
  go : (o : Option (LiteralOf Term)) → ready s l ≡ o → option_and_then if_ground o ≡ o
  go None e = refl
  go (Some m) e =
      let g : is_ground_literal m ≡ true = no_vars (term.Lit m) ∙ ap (list_all (λ v. false)) (ready_vars s l m e) ∙ sym (no_vars (apply s (term.Lit l))) ∙ put_ground (value_of s) (term.Lit l) ∙ k in
      ap (λ b. cond b (Some m) None) g
