-- What a clause says has no annotations.
use Rattle.std.proofs.Common.{◌≡◌, ℕ, pos, Bool, true, false, ◌&&◌, ◌||◌, cond, List, [], ◌∷◌, ◌++◌, map, length, Option, Some, None, refl, sym, ap, subst, ◌∙◌}
use Rattle.std.specs.List.{list_all}
use Rattle.std.specs.Option.{option_map}
use Rattle.asl_lexer.specs.declared.token.Sign.TheVariants as sign
use Rattle.asl_term.specs.declared.syntax.Op.{Op}
use Rattle.asl_term.specs.declared.syntax.Op.TheVariants.{Sub}
use Rattle.asl_term.specs.declared.syntax.RelOp.{RelOp}
use Rattle.asl_term.specs.declared.syntax.Relation.{Relation}
use Rattle.asl_term.specs.declared.syntax.LiteralOf.{LiteralOf}
use Rattle.asl_term.specs.declared.syntax.ListingOf.{ListingOf}
use Rattle.asl_term.specs.declared.syntax.Term.{Term}
use Rattle.asl_term.specs.declared.syntax.Term.TheVariants as term
use Rattle.asl_term.specs.declared.syntax.Expr.{Expr}
use Rattle.asl_term.specs.declared.syntax.Expr.TheVariants as expr
use Rattle.asl_term.specs.Trees.{all, or_true}
use Rattle.asl_term.proofs.Terms.{fold_num, fold_str, fold_var, fold_lit, fold_list, fold_op}
use Rattle.asl_term.proofs.Exprs.{fold_true, fold_false, fold_holds, fold_rel, fold_inner, fold_not, fold_and, fold_or}
use Rattle.asl_parser_tree.specs.declared.lexeme.Lexeme.{Lexeme}
use Rattle.asl_parser_tree.specs.declared.lexeme.Lexeme.TheVariants.{Atom, Truth, Sign}
use Rattle.asl_parser_tree.specs.declared.meaning.Meaning.{Meaning}
use Rattle.asl_parser_tree.specs.declared.meaning.Meaning.TheVariants as meaning
use Rattle.asl_parser_tree.specs.declared.meaning.Joint.{Joint}
use Rattle.asl_parser_tree.specs.declared.meaning.Joint.TheVariants as joint
use Rattle.asl_parser_tree.specs.declared.meaning.Prefix.{Prefix}
use Rattle.asl_parser_tree.specs.declared.meaning.Prefix.TheVariants as prefix
use Rattle.asl_parser_tree.specs.declared.leaves.BracketShape.TheVariants as shape
use Rattle.asl_parser_tree.specs.Meanings.{◌>>=◌, as_term, as_terms, as_formula, as_args, both_terms, both_formulas, arith, either_of, both_of, truth_name, joined, compared, prefixed, called, is_pure, is_deed}
use Rattle.asl_parser_expr.specs.Grammar.{Rule, Reads, just_or, just_and, just_negation, just_relation, just_sum, just_product, just_signed, chained, related, negated, subtracted, a_number, a_negative, a_string, a_variable, a_truth, a_literal, a_list, in_brackets, a_call, ReadsItems, last_item, next_item, ReadsParts, no_parts, round_parts, square_parts, ReadsAtom, an_atom, ReadsLiteral, is_held, is_denied, ReadsList, empty_list, some_list, ReadsTail, no_tail, variable_tail, list_tail}
use Rattle.asl_parser_expr.proofs.Sound.{bind_some}
use Rattle.asl_parser_tree.proofs.Options.{some_is}
use Rattle.asl_parser.specs.Sentences.{ReadsHead, a_head, a_formula}
use Rattle.env_file.specs.declared.statement.Part.{Part}
use Rattle.env_file.specs.declared.statement.Part.TheVariants.{Holds, Denied, Related}
use Rattle.env_file.specs.declared.statement.Effect.{Effect}
use Rattle.env_file.specs.declared.statement.Statement.{Statement}
use Rattle.env_file.specs.Statements.{ends_literal, opens_square, has_annots, before, ReadsGuard, no_guard, a_guard, ReadsEffect, a_change, a_drop, no_change, ReadsEffects, only_effect, more_effects, States, a_fact, a_hide, a_use, an_act, Says}
use Rattle.env_file.specs.Guards.{denied, parts_step, parts, guard_parts}
use Rattle.env_file.specs.Bare.{bare_step, is_bare, is_bare_literal, is_bare_part, is_bare_effect, IsBare}

-- no annotations are among these tokens
abbrev Free : List Lexeme → Type 0
Free xs = has_annots xs ≡ false

-- none begin behind the first token, and none are among the others
behind : (x : Lexeme) (xs : List Lexeme) → Free (x ∷ xs) → ((ends_literal x && opens_square xs) ≡ false) × Free xs
unfolding has_annots
behind x xs e = go (ends_literal x && opens_square xs) e
  where
    go : (b : Bool) → (b || has_annots xs) ≡ false → (b ≡ false) × Free xs
    go true e = absurd cc
    go false e = (refl, e)

both_hold : {a b : Bool} → a ≡ true → b ≡ true → (a && b) ≡ true
both_hold {a} {b} e f = ap (λ (x : Bool). x && b) e ∙ f

-- ---- trees

abbrev AllBare : List Term → Type 0
AllBare ts = all (map is_bare ts) ≡ true

abbrev BareList : ListingOf Term → Type 0
BareList l = AllBare l.items × (or_true (option_map is_bare l.tail) ≡ true)

abbrev BareParts : List Part → Type 0
BareParts ps = list_all is_bare_part ps ≡ true

-- the parts of an expression have none, where it has parts
abbrev BareExpr : Expr → Type 0
BareExpr e = (ps : List Part) → parts e ≡ Some ps → BareParts ps

literal_bare : (neg : Bool) (name : List ℕ) (args : List Term) → AllBare args → is_bare_literal (record { neg = neg; functor = name; args = args; annots = [] }) ≡ true
literal_bare neg name args g = fold_lit Bool bare_step (record { neg = neg; functor = name; args = args; annots = [] }) ∙ both_hold g refl

listing_bare : (l : ListingOf Term) → BareList l → is_bare (term.List l) ≡ true
listing_bare l g = fold_list Bool bare_step l ∙ both_hold g.0 g.1

arith_bare : (op : Op) (a b : Term) → is_bare a ≡ true → is_bare b ≡ true → is_bare (arith op a b) ≡ true
arith_bare op a b g h = fold_op Bool bare_step (record { op = op; left = a; right = b }) ∙ both_hold g h

abbrev StatementParts : Type 0
StatementParts = Option (List Part)

holds_bare : (l : LiteralOf Term) → is_bare_literal l ≡ true → BareExpr (expr.Holds l)
holds_bare l g ps e = subst BareParts (some_is (Holds l ∷ []) ps (sym (fold_holds StatementParts parts_step l) ∙ e)) (both_hold g refl)

rel_bare : (r : Relation) → is_bare r.left ≡ true → is_bare r.right ≡ true → BareExpr (expr.Rel r)
rel_bare r g h ps e = subst BareParts (some_is (Related r ∷ []) ps (sym (fold_rel StatementParts parts_step r) ∙ e)) (both_hold (both_hold g h) refl)

no_parts_in : {x : StatementParts} → x ≡ None → (ps : List Part) → x ≡ Some ps → BareParts ps
no_parts_in e ps f = let g : ◌≡◌ {A = StatementParts} None (Some ps) = sym e ∙ f in absurd cc

denied_bare : (qs ps : List Part) → denied qs ≡ Some ps → BareParts qs → BareParts ps
denied_bare (Holds l ∷ []) ps e g = subst BareParts (some_is (Denied l ∷ []) ps e) g
denied_bare _ ps e g = absurd cc

not_bare : (a : Expr) → BareExpr a → BareExpr (expr.Not a)
not_bare a g ps e =
    let x = bind_some (parts a) denied ps (sym (fold_not StatementParts parts_step a) ∙ e) in
    denied_bare x.0 ps x.2 (g x.0 x.1)

all_parts : (ps qs : List Part) → BareParts ps → BareParts qs → BareParts (ps ++ qs)
all_parts [] qs g h = h
all_parts (p ∷ ps) qs g h = go (is_bare_part p) refl g (λ k. all_parts ps qs k h)
  where
    go : (b : Bool) → is_bare_part p ≡ b → (b && list_all is_bare_part ps) ≡ true → (BareParts ps → BareParts (ps ++ qs)) → (is_bare_part p && list_all is_bare_part (ps ++ qs)) ≡ true
    go true e g again = both_hold e (again g)
    go false e g again = absurd cc

and_bare : (a b : Expr) → BareExpr a → BareExpr b → BareExpr (both_of a b)
and_bare a b g h ps e =
    let x = bind_some (parts a) _ ps (sym (fold_and StatementParts parts_step a b) ∙ e) in
    let y = bind_some (parts b) _ ps x.2 in
    subst BareParts (some_is (x.0 ++ y.0) ps y.2) (all_parts x.0 y.0 (g x.0 x.1) (h y.0 y.1))

-- ---- meanings

abbrev BareMeaning : Meaning → Type 0
BareMeaning (meaning.Truth b l) = is_bare_literal l ≡ true
BareMeaning (meaning.Literal l) = is_bare_literal l ≡ true
BareMeaning (meaning.Term t) = is_bare t ≡ true
BareMeaning (meaning.Relation r) = (is_bare r.left ≡ true) × (is_bare r.right ≡ true)
BareMeaning (meaning.Call c) = Unit {0}
BareMeaning (meaning.Formula e) = BareExpr e

abbrev BareMeanings : List Meaning → Type 0
BareMeanings [] = Unit {0}
BareMeanings (m ∷ ms) = BareMeaning m × BareMeanings ms

term_bare : (m : Meaning) (t : Term) → as_term m ≡ Some t → BareMeaning m → is_bare t ≡ true
term_bare (meaning.Truth b l) t e g = subst (λ (z : Term). is_bare z ≡ true) (some_is (term.Lit l) t e) g
term_bare (meaning.Literal l) t e g = subst (λ (z : Term). is_bare z ≡ true) (some_is (term.Lit l) t e) g
term_bare (meaning.Term u) t e g = subst (λ (z : Term). is_bare z ≡ true) (some_is u t e) g
term_bare (meaning.Relation r) t e g = absurd cc
term_bare (meaning.Call c) t e g = absurd cc
term_bare (meaning.Formula x) t e g = absurd cc

truth_bare : (b : Bool) → BareExpr (cond b expr.True expr.False)
truth_bare true = no_parts_in (fold_true StatementParts parts_step)
truth_bare false = no_parts_in (fold_false StatementParts parts_step)

formula_bare : (m : Meaning) (x : Expr) → as_formula m ≡ Some x → BareMeaning m → BareExpr x
formula_bare (meaning.Truth b l) x e g = subst BareExpr (some_is (cond b expr.True expr.False) x e) (truth_bare b)
formula_bare (meaning.Literal l) x e g = subst BareExpr (some_is (expr.Holds l) x e) (holds_bare l g)
formula_bare (meaning.Term t) x e g = absurd cc
formula_bare (meaning.Relation r) x e g = subst BareExpr (some_is (expr.Rel r) x e) (rel_bare r g.0 g.1)
formula_bare (meaning.Call c) x e g = go (is_pure c.name (length c.args)) e
  where
    go : (b : Bool) → cond b (Some (expr.Inner c)) None ≡ Some x → BareExpr x
    go true e = subst BareExpr (some_is (expr.Inner c) x e) (no_parts_in (fold_inner StatementParts parts_step c))
    go false e = absurd cc
formula_bare (meaning.Formula y) x e g = subst BareExpr (some_is y x e) g

terms_bare : (ms : List Meaning) (ts : List Term) → as_terms ms ≡ Some ts → BareMeanings ms → AllBare ts
terms_bare [] ts e g = subst AllBare (some_is [] ts e) refl
terms_bare (m ∷ ms) ts e g =
    let a = bind_some (as_term m) _ ts e in
    let b = bind_some (as_terms ms) _ ts a.2 in
    subst AllBare (some_is (a.0 ∷ b.0) ts b.2) (both_hold (term_bare m a.0 a.1 g.0) (terms_bare ms b.0 b.1 g.1))

-- two terms that were read
both_bare : (l r : Meaning) (x : Term × Term) → both_terms l r ≡ Some x → BareMeaning l → BareMeaning r → (is_bare x.0 ≡ true) × (is_bare x.1 ≡ true)
both_bare l r x e g h =
    let a = bind_some (as_term l) _ x e in
    let b = bind_some (as_term r) _ x a.2 in
    subst (λ (z : Term × Term). (is_bare z.0 ≡ true) × (is_bare z.1 ≡ true)) (some_is (a.0, b.0) x b.2) (term_bare l a.0 a.1 g, term_bare r b.0 b.1 h)

and_read : (l r : Meaning) (x : Expr × Expr) → both_formulas l r ≡ Some x → BareMeaning l → BareMeaning r → BareExpr x.0 × BareExpr x.1
and_read l r x e g h =
    let a = bind_some (as_formula l) _ x e in
    let b = bind_some (as_formula r) _ x a.2 in
    subst (λ (z : Expr × Expr). BareExpr z.0 × BareExpr z.1) (some_is (a.0, b.0) x b.2) (formula_bare l a.0 a.1 g, formula_bare r b.0 b.1 h)

joined_bare : (o : Joint) (l r m : Meaning) → joined o l r ≡ Some m → BareMeaning l → BareMeaning r → BareMeaning m
unfolding joined
joined_bare joint.Or l r m e g h =
    let a = bind_some (both_formulas l r) _ m e in
    subst BareMeaning (some_is (meaning.Formula (either_of a.0.0 a.0.1)) m a.2) (no_parts_in (fold_or StatementParts parts_step a.0.0 a.0.1))
joined_bare joint.And l r m e g h =
    let a = bind_some (both_formulas l r) _ m e in
    let p = and_read l r a.0 a.1 g h in
    subst BareMeaning (some_is (meaning.Formula (both_of a.0.0 a.0.1)) m a.2) (and_bare a.0.0 a.0.1 p.0 p.1)
joined_bare (joint.Arith op) l r m e g h =
    let a = bind_some (both_terms l r) _ m e in
    let p = both_bare l r a.0 a.1 g h in
    subst BareMeaning (some_is (meaning.Term (arith op a.0.0 a.0.1)) m a.2) (arith_bare op a.0.0 a.0.1 p.0 p.1)

compared_bare : (op : RelOp) (l r m : Meaning) → compared op l r ≡ Some m → BareMeaning l → BareMeaning r → BareMeaning m
unfolding compared
compared_bare op l r m e g h =
    let a = bind_some (both_terms l r) _ m e in
    subst BareMeaning (some_is (meaning.Relation (record { op = op; left = a.0.0; right = a.0.1 })) m a.2) (both_bare l r a.0 a.1 g h)

prefixed_bare : (p : Prefix) (r m : Meaning) → prefixed p r ≡ Some m → BareMeaning r → BareMeaning m
unfolding prefixed
prefixed_bare prefix.Not r m e g =
    let a = bind_some (as_formula r) _ m e in
    subst BareMeaning (some_is (meaning.Formula (expr.Not a.0)) m a.2) (not_bare a.0 (formula_bare r a.0 a.1 g))
prefixed_bare prefix.Minus r m e g =
    let a = bind_some (as_term r) _ m e in
    subst BareMeaning (some_is (meaning.Term (arith Sub (term.Num (pos 0)) a.0)) m a.2) (arith_bare Sub (term.Num (pos 0)) a.0 (fold_num Bool bare_step (pos 0)) (term_bare r a.0 a.1 g))

called_bare : (name : List ℕ) (ms : List Meaning) (m : Meaning) → called name ms ≡ Some m → BareMeaning m
unfolding called
called_bare name ms m e = go (is_pure name (length ms) || is_deed name (length ms)) e
  where
    go : (b : Bool) → cond b (as_args name 0 ms >>= λ args. Some (meaning.Call (record { name = name; args = args }))) None ≡ Some m → BareMeaning m
    go true e = let a = bind_some (as_args name 0 ms) _ m e in subst BareMeaning (some_is (meaning.Call (record { name = name; args = a.0 })) m a.2) tt
    go false e = absurd cc

all_joined : (ts us : List Term) → AllBare ts → AllBare us → AllBare (ts ++ us)
all_joined [] us g h = h
all_joined (t ∷ ts) us g h = go (is_bare t) refl g (λ k. all_joined ts us k h)
  where
    go : (b : Bool) → is_bare t ≡ b → (b && all (map is_bare ts)) ≡ true → (AllBare ts → AllBare (ts ++ us)) → (is_bare t && all (map is_bare (ts ++ us))) ≡ true
    go true e g again = both_hold e (again g)
    go false e g again = absurd cc

-- ---- readings

mutual
  unfolding has_annots

  bare : {n : ℕ} {rule : Rule} {xs ys : List Lexeme} {m : Meaning} → Reads n rule xs ys m → Free xs → BareMeaning m × Free ys
  bare (just_or r) f = bare r f
  bare (just_and r) f = bare r f
  bare (just_negation r) f = bare r f
  bare (just_relation r) f = bare r f
  bare (just_sum r) f = bare r f
  bare (just_product r) f = bare r f
  bare (just_signed r) f = bare r f
  bare (chained {x = x} {o = o} {ys = ys} {l = l} {r = r} {m = m} j a b e) f =
      let p = bare a f in
      let q = bare b (behind x ys p.1).1 in
      (joined_bare o l r m e p.0 q.0, q.1)
  bare (related {x = x} {o = o} {ys = ys} {l = l} {r = r} {m = m} j a b e) f =
      let p = bare a f in
      let q = bare b (behind x ys p.1).1 in
      (compared_bare o l r m e p.0 q.0, q.1)
  bare (negated {r = r} {m = m} a e) f = let p = bare a f in (prefixed_bare prefix.Not r m e p.0, p.1)
  bare (subtracted {r = r} {m = m} s a e) f = let p = bare a f in (prefixed_bare prefix.Minus r m e p.0, p.1)
  bare (a_number {z = z} e) f = (fold_num Bool bare_step z, f)
  bare (a_negative {z = z} e) f = (fold_num Bool bare_step z, f)
  bare (a_string {s = s}) f = (fold_str Bool bare_step s, f)
  bare (a_variable {name = name}) f = (fold_var Bool bare_step (record { name = name; number = 0 }), f)
  bare (a_truth {b = b}) f = (literal_bare false (truth_name b) [] refl, f)
  bare (a_literal r) f = bare_literal r f
  bare (a_list {l = l} r) f = let p = bare_list r f in (listing_bare l p.0, p.1)
  bare (in_brackets {ys = ys} r) f = let p = bare r f in (p.0, (behind (Sign sign.Close) ys p.1).1)
  bare (a_call {name = name} {ms = ms} {m = m} r e) f = (called_bare name ms m e, call_free r f)

  bare_items : {n : ℕ} {rule : Rule} {xs ys : List Lexeme} {ms : List Meaning} → ReadsItems n rule xs ys ms → Free xs → BareMeanings ms × Free ys
  bare_items (last_item r) f = let p = bare r f in ((p.0, tt), p.1)
  bare_items (next_item r rs) f = let p = bare r f in let q = bare_items rs p.1 in ((p.0, q.0), q.1)

  -- what follows a call
  call_free : {n : ℕ} {rule : Rule} {xs ys : List Lexeme} {ms : List Meaning} → ReadsParts n rule shape.Round xs ys ms → Free xs → Free ys
  call_free no_parts f = f
  call_free (round_parts {ys = ys} r) f = (behind (Sign sign.Close) ys (bare_items r f).1).1

  -- the arguments of a literal, behind which no annotations begin
  bare_args : {n : ℕ} {rule : Rule} {xs ys : List Lexeme} {ms : List Meaning} → ReadsParts n rule shape.Round xs ys ms → opens_square xs ≡ false → Free xs → BareMeanings ms × (opens_square ys ≡ false) × Free ys
  bare_args no_parts h f = (tt, h, f)
  bare_args (round_parts {ys = ys} r) h f = let p = bare_items r f in let q = behind (Sign sign.Close) ys p.1 in (p.0, q.0, q.1)

  -- and so there are none
  no_annots : {n : ℕ} {rule : Rule} {xs ys : List Lexeme} {ms : List Meaning} → ReadsParts n rule shape.Square xs ys ms → opens_square xs ≡ false → Free xs → (ms ≡ []) × Free ys
  no_annots no_parts h f = (refl, f)
  no_annots (square_parts r) h f = absurd cc

  bare_atom : {n : ℕ} {neg : Bool} {xs ys : List Lexeme} {l : LiteralOf Term} → ReadsAtom n neg xs ys l → Free xs → (is_bare_literal l ≡ true) × Free ys
  bare_atom (an_atom {neg = neg} {name = name} {xs = xs} {ms = ms} {ns = ns} {args = args} {annots = annots} r d s e) f =
      let first = behind (Atom name) xs f in
      let p = bare_args r first.0 first.1 in
      let q = no_annots s p.1 p.2 in
      let none : [] ≡ annots = some_is [] annots (ap as_terms (sym q.0) ∙ e) in
      (subst (λ (z : List Term). is_bare_literal (record { neg = neg; functor = name; args = args; annots = z }) ≡ true) none (literal_bare neg name args (terms_bare ms args d p.0)), q.1)

  bare_literal : {n : ℕ} {xs ys : List Lexeme} {l : LiteralOf Term} → ReadsLiteral n xs ys l → Free xs → (is_bare_literal l ≡ true) × Free ys
  bare_literal (is_held r) f = bare_atom r f
  bare_literal (is_denied r) f = bare_atom r f

  bare_list : {n : ℕ} {xs ys : List Lexeme} {l : ListingOf Term} → ReadsList n xs ys l → Free xs → BareList l × Free ys
  bare_list empty_list f = ((refl, refl), f)
  bare_list (some_list {zs = zs} {ms = ms} {ts = ts} {l = l} r e t) f =
      let p = bare_items r f in
      let q = bare_tail t p.1 in
      ((all_joined ts l.items (terms_bare ms ts e p.0) q.0.0, q.0.1), q.1)

  bare_tail : {n : ℕ} {xs ys : List Lexeme} {l : ListingOf Term} → ReadsTail n xs ys l → Free xs → BareList l × Free ys
  bare_tail no_tail f = ((refl, refl), f)
  bare_tail (variable_tail {name = name}) f = ((refl, fold_var Bool bare_step (record { name = name; number = 0 })), f)
  bare_tail (list_tail r) f = bare_list r f

-- ---- clauses

bare_head : {n : ℕ} {xs ys : List Lexeme} {l : LiteralOf Term} → ReadsHead n xs ys l → Free xs → (is_bare_literal l ≡ true) × Free ys
bare_head (a_head r e) f = bare_literal r f

bare_guard : {n : ℕ} {xs ys : List Lexeme} {g : Option Expr} → ReadsGuard n xs ys g → Free xs → ((ps : List Part) → guard_parts g ≡ Some ps → BareParts ps) × Free ys
bare_guard no_guard f = (λ ps e. subst BareParts (some_is [] ps e) refl, f)
bare_guard (a_guard {xs = xs} (a_formula {m = m} {e = e} r h) k) f = let p = bare r (behind (Sign sign.Colon) xs f).1 in (formula_bare m e h p.0, p.1)

BareOne : Option Effect → Type 0
BareOne None = Unit {0}
BareOne (Some e) = is_bare_effect e ≡ true

bare_effect : {n : ℕ} {xs ys : List Lexeme} {o : Option Effect} → ReadsEffect n xs ys o → Free xs → BareOne o × Free ys
unfolding BareOne
bare_effect (a_change {x = x} {add = true} {xs = xs} e r) f = bare_literal r (behind x xs f).1
bare_effect (a_change {x = x} {add = false} {xs = xs} e r) f = bare_literal r (behind x xs f).1
bare_effect (a_drop {x = x} {y = y} {xs = xs} e g) f = (refl, (behind y xs (behind x (y ∷ xs) f).1).1)
bare_effect (no_change {xs = xs}) f = (tt, (behind (Truth true) xs f).1)

before_bare : (o : Option Effect) (es : List Effect) → BareOne o → list_all is_bare_effect es ≡ true → list_all is_bare_effect (before o es) ≡ true
unfolding BareOne
before_bare None es g h = h
before_bare (Some e) es g h = both_hold g h

bare_effects : {n : ℕ} {xs ys : List Lexeme} {es : List Effect} → ReadsEffects n xs ys es → Free xs → list_all is_bare_effect es ≡ true
bare_effects (only_effect {o = o} r e) f = subst (λ (z : List Effect). list_all is_bare_effect z ≡ true) e (before_bare o [] (bare_effect r f).0 refl)
bare_effects (more_effects {ys = ys} {o = o} {es = es} r t e) f =
    let p = bare_effect r f in
    subst (λ (z : List Effect). list_all is_bare_effect z ≡ true) e (before_bare o es p.0 (bare_effects t (behind (Sign sign.Comma) ys p.1).1))

states_bare : {n : ℕ} {xs : List Lexeme} {s : Statement} → States n xs s → Free xs → IsBare s
states_bare (a_fact h e) f = (bare_head h f).0
states_bare (a_hide e g) f = tt
states_bare (a_use e g) f = tt
states_bare (an_act {w = w} {x = x} {y = y} {xs = xs} {ys = ys} {zs = zs} a h p b d g t) f =
    let head = bare_head h (behind w xs f).1 in
    let guard = bare_guard g (behind y ys (behind x (y ∷ ys) head.1).1).1 in
    (head.0, bare_effects t (behind (Sign sign.RightArrow) zs guard.1).1, guard.0)

pub no_annotations : (n : ℕ) (xs : List Lexeme) (s : Statement) → Says n xs s → IsBare s
no_annotations n xs s h = states_bare h.stated h.bare
