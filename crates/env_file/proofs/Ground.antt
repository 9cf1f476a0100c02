-- The facts of a world file have no variables, no arithmetic, and none stands twice.
use Rattle.std.proofs.Common.{◌≡◌, ℕ, Bool, true, false, ◌&&◌, ◌||◌, cond, if◌then◌else◌, List, [], ◌∷◌, ◌++◌, map, length, Option, Some, None, Result, Ok, Err, refl, ap, subst, ◌∙◌}
use Rattle.std.specs.List.{list_any, list_all}
use Rattle.std.specs.Option.{option_map}
use Rattle.asl_lexer.specs.declared.token.Tok.{Tok}
use Rattle.std.proofs.Common.{pos}
use Rattle.asl_term.specs.declared.syntax.Op.{Op}
use Rattle.asl_term.specs.declared.syntax.Op.TheVariants.{Sub}
use Rattle.asl_term.specs.declared.syntax.Expr.TheVariants as expr
use Rattle.asl_term.specs.declared.syntax.LiteralOf.{LiteralOf}
use Rattle.asl_term.specs.declared.syntax.ListingOf.{ListingOf}
use Rattle.asl_term.specs.declared.syntax.Term.{Term}
use Rattle.asl_term.specs.declared.syntax.Term.TheVariants as term
use Rattle.asl_term.specs.Trees.{all, or_true, is_ground}
use Rattle.asl_term.specs.Exprs.{is_ground_literal}
use Rattle.asl_term.proofs.Grounds.{ground_num, ground_str, ground_lit, ground_list, ground_op}
use Rattle.asl_parser_tree.specs.declared.lexeme.Lexeme.{Lexeme}
use Rattle.asl_parser_tree.specs.declared.meaning.Meaning.{Meaning}
use Rattle.asl_parser_tree.specs.declared.meaning.Meaning.TheVariants as meaning
use Rattle.asl_parser_tree.specs.declared.meaning.Joint.{Joint}
use Rattle.asl_parser_tree.specs.declared.meaning.Joint.TheVariants as joint
use Rattle.asl_parser_tree.specs.declared.meaning.Prefix.{Prefix}
use Rattle.asl_parser_tree.specs.declared.meaning.Prefix.TheVariants as prefix
use Rattle.asl_term.specs.declared.syntax.RelOp.{RelOp}
use Rattle.asl_parser_tree.specs.declared.leaves.BracketShape.{BracketShape}
use Rattle.asl_parser_tree.specs.Meanings.{◌>>=◌, as_term, as_terms, as_formula, as_args, both_terms, both_formulas, arith, either_of, both_of, truth_name, joined, compared, prefixed, called, is_pure, is_deed}
use Rattle.asl_parser_tree.specs.Plain.{is_plain_literal}
use Rattle.asl_parser_expr.specs.Grammar.{Rule, Reads, just_or, just_and, just_negation, just_relation, just_sum, just_product, just_signed, chained, related, negated, subtracted, a_number, a_negative, a_string, a_variable, a_truth, a_literal, a_list, in_brackets, a_call, ReadsItems, last_item, next_item, ReadsParts, no_parts, round_parts, square_parts, ReadsAtom, an_atom, ReadsLiteral, is_held, is_denied, ReadsList, empty_list, some_list, ReadsTail, no_tail, variable_tail, list_tail}
use Rattle.asl_parser_expr.proofs.Sound.{bind_some}
use Rattle.asl_parser_tree.proofs.Options.{some_is}
use Rattle.asl_parser.specs.Sentences.{ReadsHead, a_head}
use Rattle.mas_world.specs.declared.acts.WorldText.{WorldText}
use Rattle.env_file.specs.declared.fault.WorldFault.{WorldFault}
use Rattle.env_file.specs.declared.fault.WorldFault.TheVariants.{Clause, UnknownArtifact}
use Rattle.env_file.specs.declared.statement.Part.{Part}
use Rattle.env_file.specs.declared.statement.WrittenAct.{WrittenAct}
use Rattle.env_file.specs.declared.statement.Statement.{Statement}
use Rattle.env_file.specs.declared.statement.Statement.TheVariants as statement
use Rattle.env_file.specs.Statements.{is_variable, States, a_fact, a_hide, a_use, an_act}
use Rattle.env_file.specs.Guards.{said_parts}
use Rattle.env_file.specs.Binding.{unbound}
use Rattle.mas_world.specs.Facts.{same_fact}
use Rattle.mas_world.proofs.Sound.{fact_equiv}
use Rattle.env_file.specs.Worlds.{with_fact, with_use, has_name, bound_made, made, Answers, all_read, is_read, IsWorld}

-- no two are the same
abbrev pub are_once : List (LiteralOf Term) → Bool
are_once [] = true
are_once (l ∷ ls) = (if list_any (same_fact l) ls then false else true) && are_once ls

-- what the facts that are read are
pub record AreRead (facts : List (LiteralOf Term)) : Type 0 where
  pub ground : list_all is_ground_literal facts ≡ true
  pub plain : list_all is_plain_literal facts ≡ true
  pub once : are_once facts ≡ true

-- no variable is among these tokens
abbrev Free : List Lexeme → Type 0
Free xs = list_any is_variable xs ≡ false

behind : (x : Lexeme) (xs : List Lexeme) → Free (x ∷ xs) → Free xs
behind x xs e = go (is_variable x) e
  where
    go : (b : Bool) → (b || list_any is_variable xs) ≡ false → list_any is_variable xs ≡ false
    go true e = absurd cc
    go false e = e

both_hold : {a b : Bool} → a ≡ true → b ≡ true → (a && b) ≡ true
both_hold {a} {b} e f = ap (λ (x : Bool). x && b) e ∙ f

-- a term, or what may stand as one, has no variable
abbrev IsGround : Meaning → Type 0
IsGround (meaning.Truth b l) = is_ground_literal l ≡ true
IsGround (meaning.Literal l) = is_ground_literal l ≡ true
IsGround (meaning.Term t) = is_ground t ≡ true
IsGround (meaning.Relation r) = Unit {0}
IsGround (meaning.Call c) = Unit {0}
IsGround (meaning.Formula e) = Unit {0}

abbrev AreGround : List Meaning → Type 0
AreGround [] = Unit {0}
AreGround (m ∷ ms) = IsGround m × AreGround ms

abbrev AllGround : List Term → Type 0
AllGround ts = all (map is_ground ts) ≡ true

abbrev GroundList : ListingOf Term → Type 0
GroundList l = AllGround l.items × (or_true (option_map is_ground l.tail) ≡ true)

term_ground : (m : Meaning) (t : Term) → as_term m ≡ Some t → IsGround m → is_ground t ≡ true
term_ground (meaning.Truth b l) t e g = subst (λ (z : Term). is_ground z ≡ true) (some_is (term.Lit l) t e) g
term_ground (meaning.Literal l) t e g = subst (λ (z : Term). is_ground z ≡ true) (some_is (term.Lit l) t e) g
term_ground (meaning.Term u) t e g = subst (λ (z : Term). is_ground z ≡ true) (some_is u t e) g
term_ground (meaning.Relation r) t e g = absurd cc
term_ground (meaning.Call c) t e g = absurd cc
term_ground (meaning.Formula x) t e g = absurd cc

terms_ground : (ms : List Meaning) (ts : List Term) → as_terms ms ≡ Some ts → AreGround ms → AllGround ts
terms_ground [] ts e g = subst AllGround (some_is [] ts e) refl
terms_ground (m ∷ ms) ts e g =
    let a = bind_some (as_term m) _ ts e in
    let b = bind_some (as_terms ms) _ ts a.2 in
    subst AllGround (some_is (a.0 ∷ b.0) ts b.2) (both_hold (term_ground m a.0 a.1 g.0) (terms_ground ms b.0 b.1 g.1))

arith_ground : (op : Op) (a b : Term) → is_ground a ≡ true → is_ground b ≡ true → is_ground (arith op a b) ≡ true
arith_ground op a b g h = ground_op (record { op = op; left = a; right = b }) ∙ both_hold g h

literal_ground : (neg : Bool) (name : List ℕ) (args annots : List Term) → AllGround args → AllGround annots → is_ground_literal (record { neg = neg; functor = name; args = args; annots = annots }) ≡ true
literal_ground neg name args annots g h = ground_lit (record { neg = neg; functor = name; args = args; annots = annots }) ∙ both_hold g h

listing_ground : (l : ListingOf Term) → GroundList l → is_ground (term.List l) ≡ true
listing_ground l g = ground_list l ∙ both_hold g.0 g.1

joined_ground : (o : Joint) (l r m : Meaning) → joined o l r ≡ Some m → IsGround l → IsGround r → IsGround m
unfolding joined
joined_ground joint.Or l r m e g h = let a = bind_some (both_formulas l r) _ m e in subst IsGround (some_is (meaning.Formula (either_of a.0.0 a.0.1)) m a.2) tt
joined_ground joint.And l r m e g h = let a = bind_some (both_formulas l r) _ m e in subst IsGround (some_is (meaning.Formula (both_of a.0.0 a.0.1)) m a.2) tt
joined_ground (joint.Arith op) l r m e g h =
    let a = bind_some (both_terms l r) _ m e in
    let b = bind_some (as_term l) _ a.0 a.1 in
    let c = bind_some (as_term r) _ a.0 b.2 in
    let P : Term × Term → Type 0 = λ x. is_ground (arith op x.0 x.1) ≡ true in
    let made : P (b.0, c.0) = arith_ground op b.0 c.0 (term_ground l b.0 b.1 g) (term_ground r c.0 c.1 h) in
    subst IsGround (some_is (meaning.Term (arith op a.0.0 a.0.1)) m a.2) (subst P (some_is (b.0, c.0) a.0 c.2) made)

compared_ground : (op : RelOp) (l r m : Meaning) → compared op l r ≡ Some m → IsGround m
unfolding compared
compared_ground op l r m e = let a = bind_some (both_terms l r) _ m e in subst IsGround (some_is (meaning.Relation (record { op = op; left = a.0.0; right = a.0.1 })) m a.2) tt

prefixed_ground : (p : Prefix) (r m : Meaning) → prefixed p r ≡ Some m → IsGround r → IsGround m
unfolding prefixed
prefixed_ground prefix.Not r m e g = let a = bind_some (as_formula r) _ m e in subst IsGround (some_is (meaning.Formula (expr.Not a.0)) m a.2) tt
prefixed_ground prefix.Minus r m e g =
    let a = bind_some (as_term r) _ m e in
    subst IsGround (some_is (meaning.Term (arith Sub (term.Num (pos 0)) a.0)) m a.2) (arith_ground Sub (term.Num (pos 0)) a.0 (ground_num (pos 0)) (term_ground r a.0 a.1 g))

called_ground : (name : List ℕ) (ms : List Meaning) (m : Meaning) → called name ms ≡ Some m → IsGround m
unfolding called
called_ground name ms m e = go (is_pure name (length ms) || is_deed name (length ms)) e
  where
    go : (b : Bool) → cond b (as_args name 0 ms >>= λ args. Some (meaning.Call (record { name = name; args = args }))) None ≡ Some m → IsGround m
    go true e = let a = bind_some (as_args name 0 ms) _ m e in subst IsGround (some_is (meaning.Call (record { name = name; args = a.0 })) m a.2) tt
    go false e = absurd cc

all_joined : (ts us : List Term) → AllGround ts → AllGround us → AllGround (ts ++ us)
all_joined [] us g h = h
all_joined (t ∷ ts) us g h = go (is_ground t) refl g (λ k. all_joined ts us k h)
  where
    go : (b : Bool) → is_ground t ≡ b → (b && all (map is_ground ts)) ≡ true → (AllGround ts → AllGround (ts ++ us)) → (is_ground t && all (map is_ground (ts ++ us))) ≡ true
    go true e g again = both_hold e (again g)
    go false e g again = absurd cc

mutual
  ground : {n : ℕ} {rule : Rule} {xs ys : List Lexeme} {m : Meaning} → Reads n rule xs ys m → Free xs → IsGround m × Free ys
  ground (just_or r) f = ground r f
  ground (just_and r) f = ground r f
  ground (just_negation r) f = ground r f
  ground (just_relation r) f = ground r f
  ground (just_sum r) f = ground r f
  ground (just_product r) f = ground r f
  ground (just_signed r) f = ground r f
  ground (chained {x = x} {o = o} {ys = ys} {l = l} {r = r} {m = m} j a b e) f =
      let p = ground a f in
      let q = ground b (behind x ys p.1) in
      (joined_ground o l r m e p.0 q.0, q.1)
  ground (related {x = x} {o = o} {ys = ys} {l = l} {r = r} {m = m} j a b e) f =
      let p = ground a f in
      let q = ground b (behind x ys p.1) in
      (compared_ground o l r m e, q.1)
  ground (negated {r = r} {m = m} a e) f = let p = ground a f in (prefixed_ground prefix.Not r m e p.0, p.1)
  ground (subtracted {r = r} {m = m} s a e) f = let p = ground a f in (prefixed_ground prefix.Minus r m e p.0, p.1)
  ground (a_number {z = z} e) f = (ground_num z, f)
  ground (a_negative {z = z} e) f = (ground_num z, f)
  ground (a_string {s = s}) f = (ground_str s, f)
  ground a_variable f = absurd cc
  ground (a_truth {b = b}) f = (literal_ground false (truth_name b) [] [] refl refl, f)
  ground (a_literal r) f = ground_literal r f
  ground (a_list {l = l} r) f = let p = ground_list_of r f in (listing_ground l p.0, p.1)
  ground (in_brackets {ys = ys} r) f = ground r f
  ground (a_call {name = name} {ms = ms} {m = m} r e) f = (called_ground name ms m e, (ground_parts r f).1)

  ground_items : {n : ℕ} {rule : Rule} {xs ys : List Lexeme} {ms : List Meaning} → ReadsItems n rule xs ys ms → Free xs → AreGround ms × Free ys
  ground_items (last_item r) f = let p = ground r f in ((p.0, tt), p.1)
  ground_items (next_item r rs) f = let p = ground r f in let q = ground_items rs p.1 in ((p.0, q.0), q.1)

  ground_parts : {n : ℕ} {rule : Rule} {s : BracketShape} {xs ys : List Lexeme} {ms : List Meaning} → ReadsParts n rule s xs ys ms → Free xs → AreGround ms × Free ys
  ground_parts no_parts f = (tt, f)
  ground_parts (round_parts r) f = ground_items r f
  ground_parts (square_parts r) f = ground_items r f

  ground_atom : {n : ℕ} {neg : Bool} {xs ys : List Lexeme} {l : LiteralOf Term} → ReadsAtom n neg xs ys l → Free xs → (is_ground_literal l ≡ true) × Free ys
  ground_atom (an_atom {neg = neg} {name = name} {ms = ms} {ns = ns} {args = args} {annots = annots} r d s e) f =
      let p = ground_parts r f in
      let q = ground_parts s p.1 in
      (literal_ground neg name args annots (terms_ground ms args d p.0) (terms_ground ns annots e q.0), q.1)

  ground_literal : {n : ℕ} {xs ys : List Lexeme} {l : LiteralOf Term} → ReadsLiteral n xs ys l → Free xs → (is_ground_literal l ≡ true) × Free ys
  ground_literal (is_held r) f = ground_atom r f
  ground_literal (is_denied r) f = ground_atom r f

  ground_list_of : {n : ℕ} {xs ys : List Lexeme} {l : ListingOf Term} → ReadsList n xs ys l → Free xs → GroundList l × Free ys
  ground_list_of empty_list f = ((refl, refl), f)
  ground_list_of (some_list {ms = ms} {ts = ts} {l = l} r e t) f =
      let p = ground_items r f in
      let q = ground_tail t p.1 in
      ((all_joined ts l.items (terms_ground ms ts e p.0) q.0.0, q.0.1), q.1)

  ground_tail : {n : ℕ} {xs ys : List Lexeme} {l : ListingOf Term} → ReadsTail n xs ys l → Free xs → GroundList l × Free ys
  ground_tail no_tail f = ((refl, refl), f)
  ground_tail variable_tail f = absurd cc
  ground_tail (list_tail r) f = ground_list_of r f

-- ---- facts

-- a fact has no variable and no arithmetic
abbrev IsGood : Statement → Type 0
IsGood (statement.Fact l) = (is_ground_literal l ≡ true) × (is_plain_literal l ≡ true)
IsGood (statement.Hide name) = Unit {0}
IsGood (statement.Use name) = Unit {0}
IsGood (statement.Act a) = Unit {0}

head_good : {n : ℕ} {xs ys : List Lexeme} {l : LiteralOf Term} → ReadsHead n xs ys l → Free xs → IsGood (statement.Fact l)
head_good (a_head r e) f = ((ground_literal r f).0, e)

states_good : {n : ℕ} {xs : List Lexeme} {s : Statement} → States n xs s → IsGood s
states_good (a_fact h f) = head_good h f
states_good (a_hide e f) = tt
states_good (a_use e f) = tt
states_good (an_act a h p b d g t) = tt

all_last : (p : LiteralOf Term → Bool) (ls : List (LiteralOf Term)) (l : LiteralOf Term) → list_all p ls ≡ true → p l ≡ true → list_all p (ls ++ l ∷ []) ≡ true
all_last p [] l h e = both_hold e refl
all_last p (m ∷ ls) l h e = go (p m) refl h (λ k. all_last p ls l k e)
  where
    go : (b : Bool) → p m ≡ b → (b && list_all p ls) ≡ true → (list_all p ls ≡ true → list_all p (ls ++ l ∷ []) ≡ true) → (p m && list_all p (ls ++ l ∷ [])) ≡ true
    go true f h again = both_hold f (again h)
    go false f h again = absurd cc

abbrev opposite : Bool → Bool
opposite b = cond b false true

any_last : (p : LiteralOf Term → Bool) (ls : List (LiteralOf Term)) (l : LiteralOf Term) → p l ≡ false → list_any p (ls ++ l ∷ []) ≡ list_any p ls
any_last p [] l e = ap (λ (b : Bool). b || false) e
any_last p (m ∷ ls) l e = ap (λ (b : Bool). p m || b) (any_last p ls l e)

once_last : (ls : List (LiteralOf Term)) (l : LiteralOf Term) → are_once ls ≡ true → list_any (same_fact l) ls ≡ false → are_once (ls ++ l ∷ []) ≡ true
once_last [] l h e = refl
once_last (m ∷ ls) l h e = go (same_fact l m) refl (list_any (same_fact m) ls) refl e h (λ k f. once_last ls l k f)
  where
    go : (b : Bool) → same_fact l m ≡ b → (c : Bool) → list_any (same_fact m) ls ≡ c → (b || list_any (same_fact l) ls) ≡ false → (opposite c && are_once ls) ≡ true
        → (are_once ls ≡ true → list_any (same_fact l) ls ≡ false → are_once (ls ++ l ∷ []) ≡ true) → (opposite (list_any (same_fact m) (ls ++ l ∷ [])) && are_once (ls ++ l ∷ [])) ≡ true
    go true f c g e h again = absurd cc
    go false f true g e h again = absurd cc
    go false f false g e h again = both_hold (ap opposite (any_last (same_fact m) ls l (fact_equiv.symm m l ∙ f) ∙ g)) (again h e)

fact_kept : (ls : List (LiteralOf Term)) (l : LiteralOf Term) → AreRead ls → IsGood (statement.Fact l) → AreRead (with_fact ls l)
fact_kept ls l h g = go (list_any (same_fact l) ls) refl
  where
    go : (b : Bool) → list_any (same_fact l) ls ≡ b → AreRead (cond b ls (ls ++ l ∷ []))
    go true e = h
    go false e = record { ground = all_last is_ground_literal ls l h.ground g.0; plain = all_last is_plain_literal ls l h.plain g.1; once = once_last ls l h.once e }

-- what a clause makes of a world
abbrev Kept : Result WorldText WorldFault → Type 0
Kept (Ok v) = AreRead v.facts
Kept (Err fault) = Unit {0}

module _ (w : WorldText) (h : AreRead w.facts) (k : ℕ) (t : Tok) where
  bound_kept : (a : WrittenAct) (ps : List Part) (o : Option (List ℕ)) → Kept (bound_made w k a ps o)
  bound_kept a ps None = h
  bound_kept a ps (Some name) = tt

  use_kept : (name : List ℕ) (b c : Bool) → Kept (cond b (Err (Clause k t.line t.column)) (cond c (Ok (with_use w name)) (Err (UnknownArtifact k name))))
  use_kept name true c = tt
  use_kept name false true = h
  use_kept name false false = tt

  made_kept : (artifacts : List (List ℕ)) (s : Statement) → IsGood s → Kept (made artifacts w k t s)
  made_kept artifacts (statement.Fact l) g = fact_kept w.facts l h g
  made_kept artifacts (statement.Hide name) g = h
  made_kept artifacts (statement.Use name) g = use_kept name (has_name w.uses name) (has_name artifacts name)
  made_kept artifacts (statement.Act a) g = bound_kept a (said_parts a.guard) (unbound a (said_parts a.guard))

read_good : {artifacts : List (List ℕ)} {k : ℕ} {w : WorldText} {ps : List (List Tok)} {text : WorldText} → Answers artifacts k w ps (Ok text) → AreRead w.facts → AreRead text.facts
read_good all_read h = h
read_good {artifacts} {k} {w} (is_read {t = t} {s = s} d r e m a) h = read_good a (subst Kept m (made_kept w h k t artifacts s (states_good r.stated)))

pub read_facts : (artifacts : List (List ℕ)) (bytes : List ℕ) (text : WorldText) → IsWorld artifacts bytes text → AreRead text.facts
read_facts artifacts bytes text a = read_good a.answers (record { ground = refl; plain = refl; once = refl })
