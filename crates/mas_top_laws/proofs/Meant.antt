-- What is read means terms, formulas and calls that are so.
use Rattle.std.proofs.Common.{◌≡◌, ◌||◌, ℕ, suc, Bool, true, false, not, cond, if◌then◌else◌, List, [], ◌∷◌, ◌++◌, map, length, Option, Some, None, refl}
use Rattle.std.proofs.Common.{sym, ap, ◌∙◌, subst, pos}
use Rattle.std.proofs.Common as common
use Rattle.std.specs.List.{AllByRecursion}
use Rattle.std.specs.Option.{option_map, option_map_or}
use Rattle.asl_term.specs.declared.syntax.ArgOf.{ArgOf}
use Rattle.asl_term.specs.declared.syntax.ArgOf.TheVariants.{Plain, Logic}
use Rattle.asl_term.specs.declared.syntax.CallOf.{CallOf}
use Rattle.asl_term.specs.declared.syntax.Expr.{Expr}
use Rattle.asl_term.specs.declared.syntax.Expr.TheVariants as expr
use Rattle.asl_term.specs.declared.syntax.ListingOf.{ListingOf}
use Rattle.asl_term.specs.declared.syntax.LiteralOf.{LiteralOf}
use Rattle.asl_term.specs.declared.syntax.Op.TheVariants.{Sub}
use Rattle.asl_term.specs.declared.syntax.RelOp.{RelOp}
use Rattle.asl_term.specs.declared.syntax.Term.{Term}
use Rattle.asl_term.specs.declared.syntax.Term.TheVariants as term
use Rattle.asl_term.specs.Exprs.{map_arg}
use Rattle.asl_term.proofs.Exprs.{fold_true, fold_false}
use Rattle.asl_term_actions.specs.declared.action.Action.{Action}
use Rattle.asl_term_actions.specs.declared.action.Action.TheVariants as action
use Rattle.asl_term_actions.specs.declared.action.Deed.TheVariants as deed
use Rattle.asl_term_actions.specs.Actions.{named}
use Rattle.asl_term_actions.specs.Actions as actions
use Rattle.asl_unify.specs.inner.Costs.{total}
use Rattle.asl_lint_laws.specs.Fresh.{late, arg_count, expr_count, expr_count_step, ExprBelow}
use Rattle.asl_lint_laws.proofs.Exprs.{count_holds, count_rel, count_inner, count_not, count_and, count_or}
use Rattle.asl_parser_tree.specs.declared.lexeme.Lexeme.{Lexeme}
use Rattle.asl_parser_tree.specs.declared.meaning.Joint.{Joint}
use Rattle.asl_parser_tree.specs.declared.meaning.Joint.TheVariants as joint
use Rattle.asl_parser_tree.specs.declared.meaning.Meaning.{Meaning}
use Rattle.asl_parser_tree.specs.declared.meaning.Meaning.TheVariants as meaning
use Rattle.asl_parser_tree.specs.declared.meaning.Prefix.{Prefix}
use Rattle.asl_parser_tree.specs.declared.meaning.Prefix.TheVariants as prefix
use Rattle.asl_parser_tree.specs.declared.leaves.BracketShape.{BracketShape}
use Rattle.asl_parser_tree.specs.Meanings.{◌>>=◌, arith, atom, truth_name, is_pure, is_deed, wants_formula, as_term, as_formula, as_terms}
use Rattle.asl_parser_tree.specs.Meanings.{both_terms, both_formulas, joined, compared, prefixed, as_arg, as_args, called}
use Rattle.asl_parser_expr.specs.Grammar.{Rule, Reads, just_or, just_and, just_negation, just_relation, just_sum, just_product, just_signed, chained, related}
use Rattle.asl_parser_expr.specs.Grammar.{negated, subtracted, a_number, a_negative, a_string, a_variable, a_truth, a_literal, a_list, in_brackets, a_call}
use Rattle.asl_parser_expr.specs.Grammar.{ReadsItems, last_item, next_item, ReadsParts, no_parts, round_parts, square_parts, ReadsAtom, an_atom, ReadsLiteral}
use Rattle.asl_parser_expr.specs.Grammar.{is_held, is_denied, ReadsList, empty_list, some_list, ReadsTail, no_tail, variable_tail, list_tail}
use Rattle.asl_lint_laws.specs.Linted.{HasArity}
use Rattle.mas_top_laws.proofs.Good.{Good, AllGood, GoodLit, lit_below, good_num, good_str, good_variable, good_lit, good_op, EndsWell, closed, open_end}
use Rattle.mas_top_laws.proofs.Good.{good_list}

-- ---- one after another

record Binds {A B : Type 0} (o : Option A) (f : A → Option B) (b : B) : Type 0 where
  value : A
  is : o ≡ Some value
  rest : f value ≡ Some b

binds : {A B : Type 0} (o : Option A) (f : A → Option B) (b : B) → (o >>= f) ≡ Some b → Binds o f b
binds None f b e = cc
binds (Some x) f b e = record { value = x; is = refl; rest = e }

pub some_is : {A : Type 0} (a b : A) → Some a ≡ Some b → a ≡ b
some_is a b e = cc

-- ---- what is meant

abbrev pub GoodArg : ArgOf Expr → Type 0
GoodArg (Plain t) = Good t
GoodArg (Logic e) = ExprBelow 1 e

pub record GoodCall (c : CallOf Expr) : Type 0 where
  pub args : AllByRecursion GoodArg c.args
  pub arity : HasArity c

abbrev pub IsGood : Meaning → Type 0
IsGood (meaning.Truth b l) = GoodLit l
IsGood (meaning.Literal l) = GoodLit l
IsGood (meaning.Term t) = Good t
IsGood (meaning.Relation r) = Good r.left × Good r.right
IsGood (meaning.Call c) = GoodCall c
IsGood (meaning.Formula e) = ExprBelow 1 e

good_term : (m : Meaning) → IsGood m → (t : Term) → as_term m ≡ Some t → Good t
good_term (meaning.Truth b l) g t e = subst Good (some_is (term.Lit l) t e) (good_lit l g)
good_term (meaning.Literal l) g t e = subst Good (some_is (term.Lit l) t e) (good_lit l g)
good_term (meaning.Term u) g t e = subst Good (some_is u t e) g
good_term (meaning.Relation r) g t e = cc
good_term (meaning.Call c) g t e = cc
good_term (meaning.Formula f) g t e = cc

args_below : (args : List (ArgOf Expr)) → AllByRecursion GoodArg args → total (map (arg_count (late 1)) (map (map_arg (expr_count (late 1))) args)) ≡ 0
args_below [] a = refl
args_below (Plain t ∷ args) a = let one = a.0.below in let more = args_below args a.1 in omega (common.arith, one, more)
args_below (Logic x ∷ args) a = let one = a.0 in let more = args_below args a.1 in omega (common.arith, one, more)

pub call_below : (c : CallOf Expr) → GoodCall c → ExprBelow 1 (expr.Inner c)
call_below c g = count_inner (late 1) c ∙ args_below c.args g.args

pub good_formula : (m : Meaning) → IsGood m → (e : Expr) → as_formula m ≡ Some e → ExprBelow 1 e
good_formula (meaning.Truth b l) g e h = subst (ExprBelow 1) (some_is _ e h) (go b) where
  go : (b : Bool) → ExprBelow 1 (if b then expr.True else expr.False)
  go true = fold_true ℕ (expr_count_step (late 1))
  go false = fold_false ℕ (expr_count_step (late 1))
good_formula (meaning.Literal l) g e h = subst (ExprBelow 1) (some_is (expr.Holds l) e h) (count_holds (late 1) l ∙ lit_below l g)
good_formula (meaning.Term t) g e h = cc
good_formula (meaning.Relation r) g e h =
    let one = g.0.below in let two = g.1.below in subst (ExprBelow 1) (some_is (expr.Rel r) e h) (count_rel (late 1) r ∙ omega (common.arith, one, two))
good_formula (meaning.Call c) g e h = go (is_pure c.name (length c.args)) h where
  go : (b : Bool) → (if b then Some (expr.Inner c) else None) ≡ Some e → ExprBelow 1 e
  go true h = subst (ExprBelow 1) (some_is (expr.Inner c) e h) (call_below c g)
  go false h = cc
good_formula (meaning.Formula f) g e h = subst (ExprBelow 1) (some_is f e h) g

good_terms : (ms : List Meaning) → AllByRecursion IsGood ms → (ts : List Term) → as_terms ms ≡ Some ts → AllGood ts
good_terms [] g ts e = subst AllGood (some_is [] ts e) tt
good_terms (m ∷ ms) g ts e =
    let a = binds (as_term m) (λ t. as_terms ms >>= λ us. Some (t ∷ us)) ts e in
    let b = binds (as_terms ms) (λ us. Some (a.value ∷ us)) ts a.rest in
    subst AllGood (some_is (a.value ∷ b.value) ts b.rest) (good_term m g.0 a.value a.is, good_terms ms g.1 b.value b.is)

-- ---- what is made of parts

record TwoTerms (p : Term × Term) : Type 0 where
  left : Good p.0
  right : Good p.1

two_terms : (l r : Meaning) → IsGood l → IsGood r → (p : Term × Term) → both_terms l r ≡ Some p → TwoTerms p
two_terms l r g h p e =
    let a = binds (as_term l) (λ x. as_term r >>= λ y. Some (x, y)) p e in
    let b = binds (as_term r) (λ y. Some (a.value, y)) p a.rest in
    subst TwoTerms (some_is (a.value, b.value) p b.rest) (record { left = good_term l g a.value a.is; right = good_term r h b.value b.is })

record TwoFormulas (p : Expr × Expr) : Type 0 where
  left : ExprBelow 1 p.0
  right : ExprBelow 1 p.1

two_formulas : (l r : Meaning) → IsGood l → IsGood r → (p : Expr × Expr) → both_formulas l r ≡ Some p → TwoFormulas p
two_formulas l r g h p e =
    let a = binds (as_formula l) (λ x. as_formula r >>= λ y. Some (x, y)) p e in
    let b = binds (as_formula r) (λ y. Some (a.value, y)) p a.rest in
    subst TwoFormulas (some_is (a.value, b.value) p b.rest) (record { left = good_formula l g a.value a.is; right = good_formula r h b.value b.is })

joined_good : (o : Joint) (l r m : Meaning) → IsGood l → IsGood r → joined o l r ≡ Some m → IsGood m
unfolding joined
joined_good joint.Or l r m g h e =
    let a = binds (both_formulas l r) (λ x. Some (meaning.Formula (expr.Or x.0 x.1))) m e in
    let p = two_formulas l r g h a.value a.is in
    let one = p.left in
    let two = p.right in
    subst IsGood (some_is (meaning.Formula (expr.Or a.value.0 a.value.1)) m a.rest) (count_or (late 1) a.value.0 a.value.1 ∙ omega (common.arith, one, two))
joined_good joint.And l r m g h e =
    let a = binds (both_formulas l r) (λ x. Some (meaning.Formula (expr.And x.0 x.1))) m e in
    let p = two_formulas l r g h a.value a.is in
    let one = p.left in
    let two = p.right in
    subst IsGood (some_is (meaning.Formula (expr.And a.value.0 a.value.1)) m a.rest) (count_and (late 1) a.value.0 a.value.1 ∙ omega (common.arith, one, two))
joined_good (joint.Arith op) l r m g h e =
    let a = binds (both_terms l r) (λ x. Some (meaning.Term (term.Op (record { op = op; left = x.0; right = x.1 })))) m e in
    let p = two_terms l r g h a.value a.is in
    subst IsGood (some_is (meaning.Term (term.Op (record { op = op; left = a.value.0; right = a.value.1 }))) m a.rest)
    (good_op (record { op = op; left = a.value.0; right = a.value.1 }) p.left p.right)

compared_good : (o : RelOp) (l r m : Meaning) → IsGood l → IsGood r → compared o l r ≡ Some m → IsGood m
unfolding compared
compared_good o l r m g h e =
    let a = binds (both_terms l r) (λ x. Some (meaning.Relation (record { op = o; left = x.0; right = x.1 }))) m e in
    let p = two_terms l r g h a.value a.is in
    subst IsGood (some_is (meaning.Relation (record { op = o; left = a.value.0; right = a.value.1 })) m a.rest) (p.left, p.right)

prefixed_good : (x : Prefix) (r m : Meaning) → IsGood r → prefixed x r ≡ Some m → IsGood m
unfolding prefixed
prefixed_good prefix.Not r m g e =
    let a = binds (as_formula r) (λ f. Some (meaning.Formula (expr.Not f))) m e in
    subst IsGood (some_is (meaning.Formula (expr.Not a.value)) m a.rest) (count_not (late 1) a.value ∙ good_formula r g a.value a.is)
prefixed_good prefix.Minus r m g e =
    let a = binds (as_term r) (λ t. Some (meaning.Term (arith Sub (term.Num (pos 0)) t))) m e in
    subst IsGood (some_is (meaning.Term (arith Sub (term.Num (pos 0)) a.value)) m a.rest)
    (good_op (record { op = Sub; left = term.Num (pos 0); right = a.value }) (good_num (pos 0)) (good_term r g a.value a.is))

-- ---- calls

arg_good : (b : Bool) (m : Meaning) → IsGood m → (x : ArgOf Expr) → as_arg b m ≡ Some x → GoodArg x
arg_good true m g x e = go (as_formula m) refl e where
  go : (o : Option Expr) → as_formula m ≡ o → option_map Logic o ≡ Some x → GoodArg x
  go None i e = cc
  go (Some f) i e = subst GoodArg (some_is (Logic f) x e) (good_formula m g f i)
arg_good false m g x e = go (as_term m) refl e where
  go : (o : Option Term) → as_term m ≡ o → option_map Plain o ≡ Some x → GoodArg x
  go None i e = cc
  go (Some t) i e = subst GoodArg (some_is (Plain t) x e) (good_term m g t i)

record ArgsGood (n : ℕ) (xs : List (ArgOf Expr)) : Type 0 where
  args : AllByRecursion GoodArg xs
  count : length xs ≡ n

args_good : (name : List ℕ) (place : ℕ) (ms : List Meaning) → AllByRecursion IsGood ms → (xs : List (ArgOf Expr)) → as_args name place ms ≡ Some xs → ArgsGood (length ms) xs
unfolding as_args
args_good name place [] g xs e = subst (ArgsGood 0) (some_is [] xs e) (record { args = tt; count = refl })
args_good name place (m ∷ ms) g xs e =
    let a = binds (as_arg (wants_formula name place) m) (λ x. as_args name (suc place) ms >>= λ ys. Some (x ∷ ys)) xs e in
    let b = binds (as_args name (suc place) ms) (λ ys. Some (a.value ∷ ys)) xs a.rest in
    let r = args_good name (suc place) ms g.1 b.value b.is in
    subst (ArgsGood (length (m ∷ ms))) (some_is (a.value ∷ b.value) xs b.rest)
    (record { args = (arg_good (wants_formula name place) m g.0 a.value a.is, r.args); count = ap suc r.count })

-- it stands in formulas, or in bodies alone
abbrev stands : Option Action → Bool
stands o = option_map_or actions.stands_in_formula o false || option_map_or (λ x. not (actions.stands_in_formula x)) o false

-- what is known with so many arguments takes so many
takes : (name : List ℕ) (n : ℕ) (a : Action) → (is_pure name n || is_deed name n) ≡ true → named name ≡ Some a → actions.takes a n ≡ true
unfolding is_pure is_deed
takes name n a e is = go (actions.takes a n) (subst (λ o. stands (actions.if_takes o n) ≡ true) is e) where
  go : (b : Bool) → stands (cond b (Some a) None) ≡ true → b ≡ true
  go true h = refl
  go false h = h

has_arity : (name : List ℕ) (args : List (ArgOf Expr)) → (is_pure name (length args) || is_deed name (length args)) ≡ true → HasArity (record { name = name; args = args })
has_arity name args e = record {
  send = takes name (length args) (action.Does deed.Send) e;
  broadcast = takes name (length args) (action.Does deed.Broadcast) e;
}

called_good : (name : List ℕ) (ms : List Meaning) (m : Meaning) → AllByRecursion IsGood ms → called name ms ≡ Some m → IsGood m
unfolding called
called_good name ms m g e = go (is_pure name (length ms) || is_deed name (length ms)) refl e where
  go : (b : Bool) → (is_pure name (length ms) || is_deed name (length ms)) ≡ b
      → (if b then (as_args name 0 ms >>= λ args. Some (meaning.Call (record { name = name; args = args }))) else None) ≡ Some m → IsGood m
  go false d e = cc
  go true d e =
      let a = binds (as_args name 0 ms) (λ args. Some (meaning.Call (record { name = name; args = args }))) m e in
      let r = args_good name 0 ms g a.value a.is in
      subst IsGood (some_is (meaning.Call (record { name = name; args = a.value })) m a.rest)
      (record { args = r.args; arity = has_arity name a.value (subst (λ n. (is_pure name n || is_deed name n) ≡ true) (sym r.count) d) })

-- ---- the grammar

record GoodList (l : ListingOf Term) : Type 0 where
  items : AllGood l.items
  end : EndsWell l.items l.tail

-- what stands behind items: behind one at least it ends a list well
record GoodTail (l : ListingOf Term) : Type 0 where
  items : AllGood l.items
  end : (t : Term) (ts : List Term) → EndsWell (t ∷ (ts ++ l.items)) l.tail

behind : (l : ListingOf Term) → GoodList l → GoodTail l
behind l g = record { items = g.items; end = λ t ts. go g.end t ts } where
  go : {items : List Term} {tail : Option Term} → EndsWell items tail → (t : Term) (ts : List Term) → EndsWell (t ∷ (ts ++ items)) tail
  go closed t ts = closed
  go open_end t ts = open_end

all_append : (xs ys : List Term) → AllGood xs → AllGood ys → AllGood (xs ++ ys)
all_append [] ys a b = b
all_append (x ∷ xs) ys a b = (a.0, all_append xs ys a.1 b)

-- items that are read are some
some_terms : {n : ℕ} {rule : Rule} {xs ys : List Lexeme} {ms : List Meaning} → ReadsItems n rule xs ys ms → (ts : List Term) → as_terms ms ≡ Some ts → ts ≡ [] → ⊥
some_terms (last_item {m = m} r) ts e z =
    let a = binds (as_term m) (λ t. as_terms [] >>= λ us. Some (t ∷ us)) ts e in
    let b = binds (as_terms []) (λ us. Some (a.value ∷ us)) ts a.rest in let d : a.value ∷ b.value ≡ [] = some_is (a.value ∷ b.value) ts b.rest ∙ z in cc
some_terms (next_item {m = m} {ms = ms} r s) ts e z =
    let a = binds (as_term m) (λ t. as_terms ms >>= λ us. Some (t ∷ us)) ts e in
    let b = binds (as_terms ms) (λ us. Some (a.value ∷ us)) ts a.rest in let d : a.value ∷ b.value ≡ [] = some_is (a.value ∷ b.value) ts b.rest ∙ z in cc

with_tail : (ts : List Term) (l : ListingOf Term) → (ts ≡ [] → ⊥) → GoodTail l → EndsWell (ts ++ l.items) l.tail
with_tail [] l f g = absurd (f refl)
with_tail (t ∷ ts) l f g = g.end t ts

good_truth : (b : Bool) → GoodLit (atom (truth_name b))
good_truth b = record { args = tt; annots = tt }

mutual
  pub reads_good : {n : ℕ} {rule : Rule} {xs ys : List Lexeme} {m : Meaning} → Reads n rule xs ys m → IsGood m
  reads_good (just_or r) = reads_good r
  reads_good (just_and r) = reads_good r
  reads_good (just_negation r) = reads_good r
  reads_good (just_relation r) = reads_good r
  reads_good (just_sum r) = reads_good r
  reads_good (just_product r) = reads_good r
  reads_good (just_signed r) = reads_good r
  reads_good (chained {o = o} {l = l} {r = r} {m = m} j a b f) = joined_good o l r m (reads_good a) (reads_good b) f
  reads_good (related {o = o} {l = l} {r = r} {m = m} j a b f) = compared_good o l r m (reads_good a) (reads_good b) f
  reads_good (negated {r = r} {m = m} a f) = prefixed_good prefix.Not r m (reads_good a) f
  reads_good (subtracted {r = r} {m = m} s a f) = prefixed_good prefix.Minus r m (reads_good a) f
  reads_good (a_number {z = z} f) = good_num z
  reads_good (a_negative {z = z} f) = good_num z
  reads_good (a_string {s = s}) = good_str s
  reads_good (a_variable {name = name}) = good_variable name
  reads_good (a_truth {b = b}) = good_truth b
  reads_good (a_literal r) = literal_good r
  reads_good (a_list {l = l} r) = let g = list_good r in good_list l.items l.tail g.items g.end
  reads_good (in_brackets r) = reads_good r
  reads_good (a_call {name = name} {ms = ms} {m = m} r f) = called_good name ms m (parts_good r) f

  items_good : {n : ℕ} {rule : Rule} {xs ys : List Lexeme} {ms : List Meaning} → ReadsItems n rule xs ys ms → AllByRecursion IsGood ms
  items_good (last_item r) = (reads_good r, tt)
  items_good (next_item r s) = (reads_good r, items_good s)

  parts_good : {n : ℕ} {rule : Rule} {s : BracketShape} {xs ys : List Lexeme} {ms : List Meaning} → ReadsParts n rule s xs ys ms → AllByRecursion IsGood ms
  parts_good no_parts = tt
  parts_good (round_parts r) = items_good r
  parts_good (square_parts r) = items_good r

  atom_good : {n : ℕ} {neg : Bool} {xs ys : List Lexeme} {l : LiteralOf Term} → ReadsAtom n neg xs ys l → GoodLit l
  atom_good (an_atom {ms = ms} {ns = ns} {args = args} {annots = annots} r e s f) = record {
    args = good_terms ms (parts_good r) args e;
    annots = good_terms ns (parts_good s) annots f;
  }

  pub literal_good : {n : ℕ} {xs ys : List Lexeme} {l : LiteralOf Term} → ReadsLiteral n xs ys l → GoodLit l
  literal_good (is_held r) = atom_good r
  literal_good (is_denied r) = atom_good r

  list_good : {n : ℕ} {xs ys : List Lexeme} {l : ListingOf Term} → ReadsList n xs ys l → GoodList l
  list_good empty_list = record { items = tt; end = closed }
  list_good (some_list {ms = ms} {ts = ts} {l = l} r e s) =
      let t = tail_good s in
      record {
        items = all_append ts l.items (good_terms ms (items_good r) ts e) t.items;
        end = with_tail ts l (some_terms r ts e) t;
      }

  tail_good : {n : ℕ} {xs ys : List Lexeme} {l : ListingOf Term} → ReadsTail n xs ys l → GoodTail l
  tail_good no_tail = record { items = tt; end = λ t ts. closed }
  tail_good variable_tail = record { items = tt; end = λ t ts. open_end }
  tail_good (list_tail {l = l} r) = behind l (list_good r)
