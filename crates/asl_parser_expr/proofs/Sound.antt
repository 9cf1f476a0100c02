-- What is read is in the grammar.
use Rattle.std.proofs.Common.{◌≡◌, ℕ, ℤ, zero, suc, ◌<◌, Bool, true, false, cond, List, [], ◌∷◌, length, Option, Some, None, refl, sym, ap, subst, ◌∙◌}
use Rattle.std.specs.Option.{option_map, option_map_or}
use Rattle.asl_lexer.specs.declared.token.Sign.TheVariants as sign
use Rattle.asl_term.specs.declared.syntax.RelOp.{RelOp}
use Rattle.asl_term.specs.declared.syntax.Term.TheVariants as term
use Rattle.asl_parser_tree.specs.declared.lexeme.Lexeme.{Lexeme}
use Rattle.asl_parser_tree.specs.declared.lexeme.Lexeme.TheVariants.{Num, Str, Var, Inner, Atom, Truth, Not, Sign}
use Rattle.asl_parser_tree.specs.declared.lexeme.Lexeme.TheVariants as lexeme
use Rattle.asl_parser_tree.specs.declared.meaning.Meaning.TheVariants as meaning
use Rattle.asl_parser_tree.specs.declared.meaning.Joint.{Joint}
use Rattle.asl_parser_tree.specs.declared.meaning.Prefix.{Prefix}
use Rattle.asl_parser_tree.specs.declared.meaning.Prefix.TheVariants as prefix
use Rattle.asl_parser_tree.specs.declared.leaves.OperatorLevel.{OperatorLevel}
use Rattle.asl_parser_tree.specs.declared.leaves.OperatorLevel.TheVariants as levels
use Rattle.asl_parser_tree.specs.declared.leaves.BracketShape.{BracketShape}
use Rattle.asl_parser_tree.specs.declared.leaves.BracketShape.TheVariants as shape
use Rattle.asl_parser_tree.specs.declared.leaves.Start.{Start}
use Rattle.asl_parser_tree.specs.declared.leaves.Start.TheVariants as start
use Rattle.asl_parser_tree.specs.declared.bounded.Bounded.TheVariants.{Within}
use Rattle.asl_parser_tree.specs.Meanings.{◌>>=◌, truth}
use Rattle.asl_parser_tree.specs.Holding.{Bounds, Kept, KeptTerms, KeptListing, KeptLiteral, joined, compared, prefixed, as_terms, listed, literal_of, literal_held, listing_held, called}
use Rattle.asl_parser_tree.specs.Leaves.{positive, negative, starts_number, Front, Read, after_comma, after_bar, after_tilde, after_open, after_close, name_at, variable_at, inner_at, joint_of, joint_at, relation_of, relation_at, is_prefix, start_of, number_by, negative_by, plain_by, truth_at, string_at, string_of, variable_of, token_by}
use Rattle.asl_parser_expr.specs.Grammar.{Rule, disjunction, conjunction, negation, relation, sum, product, signed, primary, Joins, or, and, plus, minus, times, over, modulo, Relates, less, less_same, more, more_same, same, differ, unify, operand}
use Rattle.asl_parser_expr.proofs.Built.{Reads, just_or, just_and, just_negation, just_relation, just_sum, just_product, just_signed, chained, related, negated, subtracted, a_number, a_negative, a_string, a_variable, a_truth, a_literal, a_list, in_brackets, a_call, ReadsItems, last_item, next_item, ReadsParts, no_parts, round_parts, square_parts, ReadsAtom, an_atom, ReadsLiteral, is_held, is_denied, ReadsList, empty_list, some_list, ReadsTail, no_tail, variable_tail, list_tail}
use Rattle.asl_parser_expr.specs.Reading.{step_by, more_by, chain_by, wrap, prefix_by, items_by, Inside, bracketed_by, filled_by, parts_by, terms_by, atom_by, literal_by, list_by, call_by, as_literal, as_list, primary_from, primary_by, signed_by, product_by, sum_by, compared_by, relation_by, negation_by, and_by, operand_by, level_by, no_items, open_tail, tail_after, tail_by, some_by, body_by, inside}
use Rattle.asl_parser_tree.proofs.Options.{some_is}
use Rattle.asl_parser_expr.proofs.Shorter.{shorter}

pub bind_some : {A B : Type 0} (r : Option A) (f : A → Option B) (y : B) → (r >>= f) ≡ Some y → (x : A) × (r ≡ Some x) × (f x ≡ Some y)
bind_some None f y e = absurd cc
bind_some (Some x) f y e = (x, refl, e)

abbrev pub rule_of : OperatorLevel → Rule
rule_of levels.Or = disjunction
rule_of levels.And = conjunction
rule_of levels.Sum = sum
rule_of levels.Product = product

pub joint_only : (level : OperatorLevel) (x : Lexeme) (o : Joint) → joint_of level x ≡ Some o → Joins (rule_of level) x o
joint_only levels.Or (Sign sign.Bar) o e = subst (Joins disjunction (Sign sign.Bar)) (some_is _ o e) or
joint_only levels.And (Sign sign.Ampersand) o e = subst (Joins conjunction (Sign sign.Ampersand)) (some_is _ o e) and
joint_only levels.Sum (Sign sign.Plus) o e = subst (Joins sum (Sign sign.Plus)) (some_is _ o e) plus
joint_only levels.Sum (Sign sign.Minus) o e = subst (Joins sum (Sign sign.Minus)) (some_is _ o e) minus
joint_only levels.Product (Sign sign.Star) o e = subst (Joins product (Sign sign.Star)) (some_is _ o e) times
joint_only levels.Product lexeme.Div o e = subst (Joins product lexeme.Div) (some_is _ o e) over
joint_only levels.Product lexeme.Mod o e = subst (Joins product lexeme.Mod) (some_is _ o e) modulo
joint_only _ _ o e = absurd cc

pub relates_only : (x : Lexeme) (o : RelOp) → relation_of x ≡ Some o → Relates x o
relates_only (Sign sign.Less) o e = subst (Relates (Sign sign.Less)) (some_is _ o e) less
relates_only (Sign sign.LessEq) o e = subst (Relates (Sign sign.LessEq)) (some_is _ o e) less_same
relates_only (Sign sign.More) o e = subst (Relates (Sign sign.More)) (some_is _ o e) more
relates_only (Sign sign.MoreEq) o e = subst (Relates (Sign sign.MoreEq)) (some_is _ o e) more_same
relates_only (Sign sign.Same) o e = subst (Relates (Sign sign.Same)) (some_is _ o e) same
relates_only (Sign sign.Differ) o e = subst (Relates (Sign sign.Differ)) (some_is _ o e) differ
relates_only (Sign sign.Unify) o e = subst (Relates (Sign sign.Unify)) (some_is _ o e) unify
relates_only _ o e = absurd cc

-- a first token that means something, and what is behind it
abbrev pub Begins : {A : Type 0} → (Lexeme → Option A) → List Lexeme → A → List Lexeme → Type 0
Begins {A} f ts o us = (x : Lexeme) × (ts ≡ x ∷ us) × (f x ≡ Some o)

pub mapped : {A : Type 0} (f : Lexeme → Option A) (x : Lexeme) (ts : List Lexeme) (o : A) (us : List Lexeme) → option_map {T = A} {U = A × List Lexeme} (λ a. (a, ts)) (f x) ≡ Some (o, us) → Begins f (x ∷ ts) o us
mapped {A} f x ts o us e = go (f x) refl e
  where
    go : (j : Option A) → f x ≡ j → option_map {T = A} {U = A × List Lexeme} (λ a. (a, ts)) j ≡ Some (o, us) → Begins f (x ∷ ts) o us
    go None h e = absurd cc
    go (Some j) h e = let p = some_is (j, ts) (o, us) e in (x, ap (λ (y : A × List Lexeme). x ∷ y.1) p, h ∙ ap (λ (y : A × List Lexeme). Some y.0) p)

pub joint_begins : (level : OperatorLevel) (ts : List Lexeme) (o : Joint) (us : List Lexeme) → joint_at level ts ≡ Some (o, us) → Begins (joint_of level) ts o us
joint_begins level [] o us e = absurd cc
joint_begins level (t ∷ ts) o us e = mapped (joint_of level) t ts o us e

pub relation_begins : (ts : List Lexeme) (o : RelOp) (us : List Lexeme) → relation_at ts ≡ Some (o, us) → Begins relation_of ts o us
relation_begins [] o us e = absurd cc
relation_begins (t ∷ ts) o us e = mapped relation_of t ts o us e

-- ---- single tokens

pub comma_only : (ts us : List Lexeme) → after_comma ts ≡ Some us → ts ≡ Sign sign.Comma ∷ us
comma_only (Sign sign.Comma ∷ ts) us e = ap (λ (x : List Lexeme). Sign sign.Comma ∷ x) (some_is ts us e)
comma_only _ us e = absurd cc

pub bar_only : (ts us : List Lexeme) → after_bar ts ≡ Some us → ts ≡ Sign sign.Bar ∷ us
bar_only (Sign sign.Bar ∷ ts) us e = ap (λ (x : List Lexeme). Sign sign.Bar ∷ x) (some_is ts us e)
bar_only _ us e = absurd cc

pub tilde_only : (ts us : List Lexeme) → after_tilde ts ≡ Some us → ts ≡ Sign sign.Tilde ∷ us
tilde_only (Sign sign.Tilde ∷ ts) us e = ap (λ (x : List Lexeme). Sign sign.Tilde ∷ x) (some_is ts us e)
tilde_only _ us e = absurd cc

abbrev pub opening : BracketShape → Lexeme
opening shape.Round = Sign sign.Open
opening shape.Square = Sign sign.OpenSquare

abbrev pub closing : BracketShape → Lexeme
closing shape.Round = Sign sign.Close
closing shape.Square = Sign sign.CloseSquare

pub open_only : (s : BracketShape) (ts us : List Lexeme) → after_open s ts ≡ Some us → ts ≡ opening s ∷ us
open_only shape.Round (Sign sign.Open ∷ ts) us e = ap (λ (x : List Lexeme). Sign sign.Open ∷ x) (some_is ts us e)
open_only shape.Square (Sign sign.OpenSquare ∷ ts) us e = ap (λ (x : List Lexeme). Sign sign.OpenSquare ∷ x) (some_is ts us e)
open_only _ _ us e = absurd cc

pub close_only : (s : BracketShape) (ts us : List Lexeme) → after_close s ts ≡ Some us → ts ≡ closing s ∷ us
close_only shape.Round (Sign sign.Close ∷ ts) us e = ap (λ (x : List Lexeme). Sign sign.Close ∷ x) (some_is ts us e)
close_only shape.Square (Sign sign.CloseSquare ∷ ts) us e = ap (λ (x : List Lexeme). Sign sign.CloseSquare ∷ x) (some_is ts us e)
close_only _ _ us e = absurd cc

pub name_only : (ts : List Lexeme) (name : List ℕ) (us : List Lexeme) → name_at ts ≡ Some (name, us) → ts ≡ Atom name ∷ us
name_only (Atom k ∷ ts) name us e = ap (λ (x : List ℕ × List Lexeme). Atom x.0 ∷ x.1) (some_is (k, ts) (name, us) e)
name_only _ name us e = absurd cc

pub variable_only : (ts : List Lexeme) (name : List ℕ) (us : List Lexeme) → variable_at ts ≡ Some (name, us) → ts ≡ Var name ∷ us
variable_only (Var k ∷ ts) name us e = ap (λ (x : List ℕ × List Lexeme). Var x.0 ∷ x.1) (some_is (k, ts) (name, us) e)
variable_only _ name us e = absurd cc

pub inner_only : (ts : List Lexeme) (name : List ℕ) (us : List Lexeme) → inner_at ts ≡ Some (name, us) → ts ≡ Inner name ∷ us
inner_only (Inner k ∷ ts) name us e = ap (λ (x : List ℕ × List Lexeme). Inner x.0 ∷ x.1) (some_is (k, ts) (name, us) e)
inner_only _ name us e = absurd cc

-- what is true of a value that was read is true of the same value
pub moved : {A : Type 0} (P : List Lexeme → A → Type 0) (x : A) (us : List Lexeme) (y : A) (vs : List Lexeme) → ◌≡◌ {A = Front A} (Some (x, us)) (Some (y, vs)) → P us x → P vs y
moved {A} P x us y vs e p = let Q : A × List Lexeme → Type 0 = λ z. P z.1 z.0 in subst Q (some_is (x, us) (y, vs) e) p

module _ (bs : Bounds) where
  -- ---- loops

  abbrev pub IsSound : ℕ → Rule → (List Lexeme → Read) → Type 0
  IsSound n rule read = (xs ys : List Lexeme) (m : Kept) → read xs ≡ Some (m, ys) → Reads bs n rule xs ys m

  -- a step joins what was read to one more operand
  sound_step : (n : ℕ) (item : List Lexeme → Read) (level : OperatorLevel) → IsSound n (operand (rule_of level)) item → (left : Kept) (xs us ws : List Lexeme) (o : Joint) (m : Kept) (vs : List Lexeme) → Reads bs n (rule_of level) xs us left → joint_at level us ≡ Some (o, ws) → step_by bs item left (o, ws) ≡ Some (m, vs) → Reads bs n (rule_of level) xs vs m
  unfolding step_by
  sound_step n item level sound left xs us ws o m vs r j e =
      let b = joint_begins level us o ws j in
      let a = bind_some (item ws) _ (m, vs) e in
      let c = bind_some (joined bs o left a.0.0) _ (m, vs) a.2 in
      let whole = subst (λ (z : List Lexeme). Reads bs n (rule_of level) xs z left) b.1 r in
      moved (λ z w. Reads bs n (rule_of level) xs z w) c.0 a.0.1 m vs c.2 (chained bs (joint_only level b.0 o b.2) whole (sound ws a.0.1 a.0.0 a.1) c.1)

  sound_more : (n : ℕ) (item : List Lexeme → Read) (level : OperatorLevel) → IsSound n (operand (rule_of level)) item → (k : ℕ) (left : Kept) (xs us ys : List Lexeme) (m : Kept) → Reads bs n (rule_of level) xs us left → more_by bs item level k left us ≡ Some (m, ys) → Reads bs n (rule_of level) xs ys m
  unfolding more_by
  sound_more n item level sound zero left xs us ys m r e = moved (λ z w. Reads bs n (rule_of level) xs z w) left us m ys e r
  sound_more n item level sound (suc k) left xs us ys m r e = go (joint_at level us) refl e (λ left us r e. sound_more n item level sound k left xs us ys m r e)
    where
      go : (j : Front Joint) → joint_at level us ≡ j → option_map_or (λ o. step_by bs item left o >>= λ s. more_by bs item level k s.0 s.1) j (Some (left, us)) ≡ Some (m, ys) → ((left : Kept) (us : List Lexeme) → Reads bs n (rule_of level) xs us left → more_by bs item level k left us ≡ Some (m, ys) → Reads bs n (rule_of level) xs ys m) → Reads bs n (rule_of level) xs ys m
      go None h e again = moved (λ z w. Reads bs n (rule_of level) xs z w) left us m ys e r
      go (Some o) h e again =
          let a = bind_some (step_by bs item left o) _ (m, ys) e in
          again a.0.0 a.0.1 (sound_step n item level sound left xs us o.1 o.0 a.0.0 a.0.1 r h a.1) a.2

  just : (n : ℕ) (level : OperatorLevel) (xs ys : List Lexeme) (m : Kept) → Reads bs n (operand (rule_of level)) xs ys m → Reads bs n (rule_of level) xs ys m
  just n levels.Or xs ys m r = just_or bs r
  just n levels.And xs ys m r = just_and bs r
  just n levels.Sum xs ys m r = just_sum bs r
  just n levels.Product xs ys m r = just_product bs r

  sound_chain : (n : ℕ) (item : List Lexeme → Read) (level : OperatorLevel) → IsSound n (operand (rule_of level)) item → IsSound n (rule_of level) (chain_by bs item level)
  unfolding chain_by
  sound_chain n item level sound xs ys m e =
      let a = bind_some (item xs) _ (m, ys) e in
      sound_more n item level sound (length a.0.1) a.0.0 xs a.0.1 ys m (just n level xs a.0.1 a.0.0 (sound xs a.0.1 a.0.0 a.1)) a.2

  abbrev prefix_rule : Prefix → Rule
  prefix_rule prefix.Not = negation
  prefix_rule prefix.Minus = signed

  no_number : (ts : List Lexeme) → cond (starts_number ts) false true ≡ true → starts_number ts ≡ false
  no_number ts e = go (starts_number ts) e
    where
      go : (b : Bool) → cond b false true ≡ true → b ≡ false
      go true e = absurd cc
      go false e = refl

  one_prefix : (n : ℕ) (p : Prefix) (t : Lexeme) (ts ys : List Lexeme) (r m : Kept) → is_prefix p t ts ≡ true → Reads bs n (prefix_rule p) ts ys r → prefixed bs p r ≡ Some m → Reads bs n (prefix_rule p) (t ∷ ts) ys m
  one_prefix n prefix.Not Not ts ys r m i h e = negated bs h e
  one_prefix n prefix.Minus (Sign sign.Minus) ts ys r m i h e = subtracted bs (no_number ts i) h e
  one_prefix n _ _ ts ys r m i h e = absurd cc

  just_base : (n : ℕ) (p : Prefix) (xs ys : List Lexeme) (m : Kept) → Reads bs n (operand (prefix_rule p)) xs ys m → Reads bs n (prefix_rule p) xs ys m
  just_base n prefix.Not xs ys m r = just_negation bs r
  just_base n prefix.Minus xs ys m r = just_signed bs r

  sound_prefix : (n : ℕ) (p : Prefix) (item : List Lexeme → Read) → IsSound n (operand (prefix_rule p)) item → IsSound n (prefix_rule p) (prefix_by bs p item)
  unfolding prefix_by
  sound_prefix n p item sound [] ys m e = just_base n p [] ys m (sound [] ys m e)
  sound_prefix n p item sound (t ∷ ts) ys m e = go (is_prefix p t ts) refl e (λ ys m e. sound_prefix n p item sound ts ys m e)
    where
      go : (b : Bool) → is_prefix p t ts ≡ b → cond b (prefix_by bs p item ts >>= wrap bs p) (item (t ∷ ts)) ≡ Some (m, ys) → ((ys : List Lexeme) (m : Kept) → prefix_by bs p item ts ≡ Some (m, ys) → Reads bs n (prefix_rule p) ts ys m) → Reads bs n (prefix_rule p) (t ∷ ts) ys m
      go false h e again = just_base n p (t ∷ ts) ys m (sound (t ∷ ts) ys m e)
      go true h e again =
          let a = bind_some (prefix_by bs p item ts) (wrap bs p) (m, ys) e in
          let c = bind_some (prefixed bs p a.0.0) _ (m, ys) a.2 in
          moved (λ z w. Reads bs n (prefix_rule p) (t ∷ ts) z w) c.0 a.0.1 m ys c.2 (one_prefix n p t ts a.0.1 a.0.0 c.0 h (again a.0.1 a.0.0 a.1) c.1)

  sound_items : (n : ℕ) (rule : Rule) (item : List Lexeme → Read) → IsSound n rule item → (k : ℕ) (xs ys : List Lexeme) (ms : List Kept) → items_by item k xs ≡ Some (ms, ys) → ReadsItems bs n rule xs ys ms
  unfolding items_by
  sound_items n rule item h zero xs ys ms e = absurd cc
  sound_items n rule item h (suc k) xs ys ms e =
      let a = bind_some (item xs) _ (ms, ys) e in
      go a.0.0 a.0.1 (h xs a.0.1 a.0.0 a.1) (after_comma a.0.1) refl a.2 (λ us ys ms e. sound_items n rule item h k us ys ms e)
    where
      go : (m : Kept) (us : List Lexeme) → Reads bs n rule xs us m → (o : Option (List Lexeme)) → after_comma us ≡ o → option_map_or {U = Front (List Kept)} (λ vs. items_by item k vs >>= λ r. Some (m ∷ r.0, r.1)) o (Some (m ∷ [], us)) ≡ Some (ms, ys) → ((us ys : List Lexeme) (ms : List Kept) → items_by item k us ≡ Some (ms, ys) → ReadsItems bs n rule us ys ms) → ReadsItems bs n rule xs ys ms
      go m us r None f e again = moved (λ z w. ReadsItems bs n rule xs z w) (m ∷ []) us ms ys e (last_item bs r)
      go m us r (Some vs) f e again =
          let b = bind_some (items_by item k vs) _ (ms, ys) e in
          let whole = subst (λ (z : List Lexeme). Reads bs n rule xs z m) (comma_only us vs f) r in
          moved (λ z w. ReadsItems bs n rule xs z w) (m ∷ b.0.0) b.0.1 ms ys b.2 (next_item bs whole (again vs b.0.1 b.0.0 b.1))

  -- ---- what is in brackets

  -- what is read in brackets is within one less
  pub record IsInside (n : ℕ) (inner : Inside) : Type 0 where
    pub expression : (level : OperatorLevel) (xs ys : List Lexeme) (m : Kept) → inner.expression level xs ≡ Some (m, ys) → (k : ℕ) × (n ≡ suc k) × Reads bs k (rule_of level) xs ys m
    pub items : (level : OperatorLevel) (j : ℕ) (xs ys : List Lexeme) (ms : List Kept) → items_by (inner.expression level) j xs ≡ Some (ms, ys) → (k : ℕ) × (n ≡ suc k) × ReadsItems bs k (rule_of level) xs ys ms
    pub body : (xs ys : List Lexeme) (l : KeptListing) → inner.body xs ≡ Some (l, ys) → ReadsList bs n (Sign sign.OpenSquare ∷ xs) ys l

  sound_bracketed : (n : ℕ) (inner : Inside) → IsInside n inner → IsSound n primary (bracketed_by inner)
  unfolding bracketed_by
  sound_bracketed n inner h xs ys m e =
      let o = bind_some (after_open shape.Round xs) _ (m, ys) e in
      let a = bind_some (inner.expression levels.Or o.0) _ (m, ys) o.2 in
      let b = bind_some (after_close shape.Round a.0.1) _ (m, ys) a.2 in
      let r = h.expression levels.Or o.0 a.0.1 a.0.0 a.1 in
      let inner_part = subst (λ (z : List Lexeme). Reads bs r.0 disjunction o.0 z a.0.0) (close_only shape.Round a.0.1 b.0 b.1) r.2 in
      let part = subst (λ (k : ℕ). Reads bs k primary (Sign sign.Open ∷ o.0) b.0 a.0.0) (sym r.1) (in_brackets bs inner_part) in
      let all = subst (λ (z : List Lexeme). Reads bs n primary z b.0 a.0.0) (sym (open_only shape.Round xs o.0 o.1)) part in
      moved (λ z w. Reads bs n primary xs z w) a.0.0 b.0 m ys b.2 all

  some_parts : (n : ℕ) (level : OperatorLevel) (s : BracketShape) (xs ys : List Lexeme) (ms : List Kept) → ReadsItems bs n (rule_of level) xs (closing s ∷ ys) ms → ReadsParts bs (suc n) (rule_of level) s (opening s ∷ xs) ys ms
  some_parts n level shape.Round xs ys ms r = round_parts bs r
  some_parts n level shape.Square xs ys ms r = square_parts bs r

  sound_filled : (n : ℕ) (inner : Inside) → IsInside n inner → (level : OperatorLevel) (s : BracketShape) (us ys : List Lexeme) (ms : List Kept) → filled_by inner level s us ≡ Some (ms, ys) → ReadsParts bs n (rule_of level) s (opening s ∷ us) ys ms
  unfolding filled_by
  sound_filled n inner h level s us ys ms e =
      let a = bind_some (items_by (inner.expression level) (length us) us) _ (ms, ys) e in
      let b = bind_some (after_close s a.0.1) _ (ms, ys) a.2 in
      let r = h.items level (length us) us a.0.1 a.0.0 a.1 in
      let inner_part = subst (λ (z : List Lexeme). ReadsItems bs r.0 (rule_of level) us z a.0.0) (close_only s a.0.1 b.0 b.1) r.2 in
      let part = subst (λ (k : ℕ). ReadsParts bs k (rule_of level) s (opening s ∷ us) b.0 a.0.0) (sym r.1) (some_parts r.0 level s us b.0 a.0.0 inner_part) in
      moved (λ z w. ReadsParts bs n (rule_of level) s (opening s ∷ us) z w) a.0.0 b.0 ms ys b.2 part

  sound_parts : (n : ℕ) (inner : Inside) → IsInside n inner → (level : OperatorLevel) (s : BracketShape) (xs ys : List Lexeme) (ms : List Kept) → parts_by inner level s xs ≡ Some (ms, ys) → ReadsParts bs n (rule_of level) s xs ys ms
  unfolding parts_by
  sound_parts n inner h level s xs ys ms e = go (after_open s xs) refl e
    where
      go : (o : Option (List Lexeme)) → after_open s xs ≡ o → option_map_or (filled_by inner level s) o (Some ([], xs)) ≡ Some (ms, ys) → ReadsParts bs n (rule_of level) s xs ys ms
      go None f e = moved (λ z w. ReadsParts bs n (rule_of level) s xs z w) [] xs ms ys e (no_parts bs)
      go (Some us) f e = subst (λ (z : List Lexeme). ReadsParts bs n (rule_of level) s z ys ms) (sym (open_only s xs us f)) (sound_filled n inner h level s us ys ms e)

  -- terms in brackets
  pub record HasTerms (n : ℕ) (s : BracketShape) (xs ys : List Lexeme) (ts : KeptTerms) : Type 0 where
    pub parts : List Kept
    pub reads : ReadsParts bs n sum s xs ys parts
    pub are : as_terms bs parts ≡ Some ts

  sound_terms : (n : ℕ) (inner : Inside) → IsInside n inner → (s : BracketShape) (xs ys : List Lexeme) (ts : KeptTerms) → terms_by bs inner s xs ≡ Some (ts, ys) → HasTerms n s xs ys ts
  unfolding terms_by
  sound_terms n inner h s xs ys ts e =
      let a = bind_some (parts_by inner levels.Sum s xs) _ (ts, ys) e in
      let b = bind_some (as_terms bs a.0.0) _ (ts, ys) a.2 in
      moved (λ z w. HasTerms n s xs z w) b.0 a.0.1 ts ys b.2 (record { parts = a.0.0; reads = sound_parts n inner h levels.Sum s xs a.0.1 a.0.0 a.1; are = b.1 })

  sound_atom : (n : ℕ) (inner : Inside) → IsInside n inner → (neg : Bool) (xs ys : List Lexeme) (l : KeptLiteral) → atom_by bs inner neg xs ≡ Some (l, ys) → ReadsAtom bs n neg xs ys l
  unfolding atom_by
  sound_atom n inner h neg xs ys l e =
      let a = bind_some (name_at xs) _ (l, ys) e in
      let b = bind_some (terms_by bs inner shape.Round a.0.1) _ (l, ys) a.2 in
      let c = bind_some (terms_by bs inner shape.Square b.0.1) _ (l, ys) b.2 in
      let args = sound_terms n inner h shape.Round a.0.1 b.0.1 b.0.0 b.1 in
      let annots = sound_terms n inner h shape.Square b.0.1 c.0.1 c.0.0 c.1 in
      let made : KeptLiteral = literal_of neg a.0.0 b.0.0 c.0.0 in
      let part = an_atom bs {neg = neg} {name = a.0.0} args.reads args.are annots.reads annots.are in
      let all = subst (λ (z : List Lexeme). ReadsAtom bs n neg z c.0.1 made) (sym (name_only xs a.0.0 a.0.1 a.1)) part in
      moved (λ z w. ReadsAtom bs n neg xs z w) made c.0.1 l ys c.2 all

  pub sound_literal_by : (n : ℕ) (inner : Inside) → IsInside n inner → (xs ys : List Lexeme) (l : KeptLiteral) → literal_by bs inner xs ≡ Some (l, ys) → ReadsLiteral bs n xs ys l
  unfolding literal_by
  sound_literal_by n inner h xs ys l e = go (after_tilde xs) refl e
    where
      go : (o : Option (List Lexeme)) → after_tilde xs ≡ o → option_map_or (atom_by bs inner true) o (atom_by bs inner false xs) ≡ Some (l, ys) → ReadsLiteral bs n xs ys l
      go None f e = is_held bs (sound_atom n inner h false xs ys l e)
      go (Some us) f e = subst (λ (z : List Lexeme). ReadsLiteral bs n z ys l) (sym (tilde_only xs us f)) (is_denied bs (sound_atom n inner h true us ys l e))

  sound_list : (n : ℕ) (inner : Inside) → IsInside n inner → (xs ys : List Lexeme) (l : KeptListing) → list_by inner xs ≡ Some (l, ys) → ReadsList bs n xs ys l
  unfolding list_by
  sound_list n inner h xs ys l e =
      let a = bind_some (after_open shape.Square xs) inner.body (l, ys) e in
      subst (λ (z : List Lexeme). ReadsList bs n z ys l) (sym (open_only shape.Square xs a.0 a.1)) (h.body a.0 ys l a.2)

  sound_call : (n : ℕ) (inner : Inside) → IsInside n inner → IsSound n primary (call_by bs inner)
  unfolding call_by
  sound_call n inner h xs ys m e =
      let a = bind_some (inner_at xs) _ (m, ys) e in
      let b = bind_some (parts_by inner levels.Or shape.Round a.0.1) _ (m, ys) a.2 in
      let c = bind_some (called bs a.0.0 b.0.0) _ (m, ys) b.2 in
      let part = a_call bs (sound_parts n inner h levels.Or shape.Round a.0.1 b.0.1 b.0.0 b.1) c.1 in
      let all = subst (λ (z : List Lexeme). Reads bs n primary z b.0.1 c.0) (sym (inner_only xs a.0.0 a.0.1 a.1)) part in
      moved (λ z w. Reads bs n primary xs z w) c.0 b.0.1 m ys c.2 all

  -- ---- a token or two

  sound_number : (n : ℕ) (xs us : List Lexeme) (o : Option ℤ) → ((z : ℤ) → o ≡ Some z → Reads bs n primary xs us (Within (meaning.Term (term.Num z)))) → (ys : List Lexeme) (m : Kept) → number_by o us ≡ Some (m, ys) → Reads bs n primary xs ys m
  sound_number n xs us None f ys m e = absurd cc
  sound_number n xs us (Some z) f ys m e = moved (λ a w. Reads bs n primary xs a w) (Within (meaning.Term (term.Num z))) us m ys e (f z refl)

  sound_negative : (n : ℕ) (xs ys : List Lexeme) (m : Kept) → negative_by xs ≡ Some (m, ys) → Reads bs n primary (Sign sign.Minus ∷ xs) ys m
  sound_negative n (Num k ∷ xs) ys m e = sound_number n (Sign sign.Minus ∷ Num k ∷ xs) xs (negative k) (λ z h. a_negative bs h) ys m e
  sound_negative n _ ys m e = absurd cc

  sound_plain : (n : ℕ) → IsSound n primary plain_by
  sound_plain n (Num k ∷ xs) ys m e = sound_number n (Num k ∷ xs) xs (positive k) (λ z h. a_number bs h) ys m e
  sound_plain n (Sign sign.Minus ∷ xs) ys m e = sound_negative n xs ys m e
  sound_plain n _ ys m e = absurd cc

  string_only : (ts : List Lexeme) (s : List ℕ) (us : List Lexeme) → string_at ts ≡ Some (s, us) → ts ≡ Str s ∷ us
  string_only (Str k ∷ ts) s us e = ap (λ (x : List ℕ × List Lexeme). Str x.0 ∷ x.1) (some_is (k, ts) (s, us) e)
  string_only _ s us e = absurd cc

  truth_only : (ts : List Lexeme) (b : Bool) (us : List Lexeme) → truth_at ts ≡ Some (b, us) → ts ≡ Truth b ∷ us
  truth_only (Truth k ∷ ts) b us e = ap (λ (x : Bool × List Lexeme). Truth x.0 ∷ x.1) (some_is (k, ts) (b, us) e)
  truth_only _ b us e = absurd cc

  sound_token : (n : ℕ) → IsSound n primary token_by
  unfolding token_by
  sound_token n xs ys m e = go (string_at xs) refl (variable_at xs) refl (truth_at xs) refl e
    where
      go : (s : Front (List ℕ)) → string_at xs ≡ s → (v : Front (List ℕ)) → variable_at xs ≡ v → (t : Front Bool) → truth_at xs ≡ t → option_map_or (λ x. Some (string_of x.0, x.1)) s (option_map_or (λ x. Some (variable_of x.0, x.1)) v (option_map_or (λ x. Some (Within (truth x.0), x.1)) t (plain_by xs))) ≡ Some (m, ys) → Reads bs n primary xs ys m
      go (Some s) f v g t h e = moved (λ a w. Reads bs n primary xs a w) (string_of s.0) s.1 m ys e (subst (λ (z : List Lexeme). Reads bs n primary z s.1 (string_of s.0)) (sym (string_only xs s.0 s.1 f)) (a_string bs))
      go None f (Some v) g t h e = moved (λ a w. Reads bs n primary xs a w) (variable_of v.0) v.1 m ys e (subst (λ (z : List Lexeme). Reads bs n primary z v.1 (variable_of v.0)) (sym (variable_only xs v.0 v.1 g)) (a_variable bs))
      go None f None g (Some t) h e = moved (λ a w. Reads bs n primary xs a w) (Within (truth t.0)) t.1 m ys e (subst (λ (z : List Lexeme). Reads bs n primary z t.1 (Within (truth t.0))) (sym (truth_only xs t.0 t.1 h)) (a_truth bs))
      go None f None g None h e = sound_plain n xs ys m e

  -- ---- the levels

  sound_primary : (n : ℕ) (inner : Inside) → IsInside n inner → IsSound n primary (primary_by bs inner)
  unfolding primary_by
  sound_primary n inner h xs ys m e = go (start_of xs) e
    where
      go : (s : Start) → primary_from bs s inner xs ≡ Some (m, ys) → Reads bs n primary xs ys m
      go start.Bracket e = sound_bracketed n inner h xs ys m e
      go start.Square e = let a = bind_some (list_by inner xs) (as_list bs) (m, ys) e in moved (λ z w. Reads bs n primary xs z w) (listing_held bs a.0.0) a.0.1 m ys a.2 (a_list bs (sound_list n inner h xs a.0.1 a.0.0 a.1))
      go start.Name e = let a = bind_some (literal_by bs inner xs) (as_literal bs) (m, ys) e in moved (λ z w. Reads bs n primary xs z w) (literal_held bs a.0.0) a.0.1 m ys a.2 (a_literal bs (sound_literal_by n inner h xs a.0.1 a.0.0 a.1))
      go start.Dotted e = sound_call n inner h xs ys m e
      go start.Other e = sound_token n xs ys m e

  sound_signed : (n : ℕ) (inner : Inside) → IsInside n inner → IsSound n signed (signed_by bs inner)
  sound_signed n inner h = sound_prefix n prefix.Minus (primary_by bs inner) (sound_primary n inner h)

  sound_product : (n : ℕ) (inner : Inside) → IsInside n inner → IsSound n product (product_by bs inner)
  sound_product n inner h = sound_chain n (signed_by bs inner) levels.Product (sound_signed n inner h)

  sound_sum : (n : ℕ) (inner : Inside) → IsInside n inner → IsSound n sum (sum_by bs inner)
  sound_sum n inner h = sound_chain n (product_by bs inner) levels.Sum (sound_product n inner h)

  sound_relation : (n : ℕ) (inner : Inside) → IsInside n inner → IsSound n relation (relation_by bs inner)
  unfolding relation_by compared_by
  sound_relation n inner h xs ys m e =
      let a = bind_some (sum_by bs inner xs) _ (m, ys) e in
      go a.0 (sound_sum n inner h xs a.0.1 a.0.0 a.1) (relation_at a.0.1) refl a.2
    where
      go : (l : Kept × List Lexeme) → Reads bs n sum xs l.1 l.0 → (o : Front RelOp) → relation_at l.1 ≡ o → option_map_or (compared_by bs (sum_by bs inner) l.0) o (Some l) ≡ Some (m, ys) → Reads bs n relation xs ys m
      go l r None f e = moved (λ z w. Reads bs n relation xs z w) l.0 l.1 m ys e (just_relation bs r)
      go l r (Some o) f e =
          let b = relation_begins l.1 o.0 o.1 f in
          let a = bind_some (sum_by bs inner o.1) _ (m, ys) e in
          let c = bind_some (compared bs o.0 l.0 a.0.0) _ (m, ys) a.2 in
          let whole = subst (λ (z : List Lexeme). Reads bs n sum xs z l.0) b.1 r in
          moved (λ z w. Reads bs n relation xs z w) c.0 a.0.1 m ys c.2 (related bs (relates_only b.0 o.0 b.2) whole (sound_sum n inner h o.1 a.0.1 a.0.0 a.1) c.1)

  sound_negation : (n : ℕ) (inner : Inside) → IsInside n inner → IsSound n negation (negation_by bs inner)
  sound_negation n inner h = sound_prefix n prefix.Not (relation_by bs inner) (sound_relation n inner h)

  sound_and : (n : ℕ) (inner : Inside) → IsInside n inner → IsSound n conjunction (and_by bs inner)
  sound_and n inner h = sound_chain n (negation_by bs inner) levels.And (sound_negation n inner h)

  sound_operand : (n : ℕ) (inner : Inside) → IsInside n inner → (level : OperatorLevel) → IsSound n (operand (rule_of level)) (operand_by bs inner level)
  sound_operand n inner h levels.Or = sound_and n inner h
  sound_operand n inner h levels.And = sound_negation n inner h
  sound_operand n inner h levels.Sum = sound_product n inner h
  sound_operand n inner h levels.Product = sound_signed n inner h

  sound_level : (n : ℕ) (inner : Inside) → IsInside n inner → (level : OperatorLevel) → IsSound n (rule_of level) (level_by bs inner level)
  sound_level n inner h level = sound_chain n (operand_by bs inner level) level (sound_operand n inner h level)

  -- ---- lists

  sound_tail : (n : ℕ) (inner : Inside) → IsInside n inner → (xs ys : List Lexeme) (l : KeptListing) → tail_by inner xs ≡ Some (l, ys) → ReadsTail bs n xs ys l
  unfolding tail_by tail_after
  sound_tail n inner h xs ys l e = go (after_bar xs) refl e
    where
      after : (us : List Lexeme) (v : Front (List ℕ)) → variable_at us ≡ v → option_map_or (λ v. Some (open_tail v.0, v.1)) v (list_by inner us) ≡ Some (l, ys) → ReadsTail bs n (Sign sign.Bar ∷ us) ys l
      after us None f e = list_tail bs (sound_list n inner h us ys l e)
      after us (Some v) f e = moved (λ z w. ReadsTail bs n (Sign sign.Bar ∷ us) z w) (open_tail v.0) v.1 l ys e (subst (λ (z : List Lexeme). ReadsTail bs n (Sign sign.Bar ∷ z) v.1 (open_tail v.0)) (sym (variable_only us v.0 v.1 f)) (variable_tail bs))

      go : (o : Option (List Lexeme)) → after_bar xs ≡ o → option_map_or (tail_after inner) o (Some (no_items, xs)) ≡ Some (l, ys) → ReadsTail bs n xs ys l
      go None f e = moved (λ z w. ReadsTail bs n xs z w) no_items xs l ys e (no_tail bs)
      go (Some us) f e = subst (λ (z : List Lexeme). ReadsTail bs n z ys l) (sym (bar_only xs us f)) (after us (variable_at us) refl e)

  sound_some : (n : ℕ) (inner : Inside) → IsInside n inner → (xs ys : List Lexeme) (l : KeptListing) → some_by bs inner xs ≡ Some (l, ys) → ReadsList bs (suc n) (Sign sign.OpenSquare ∷ xs) ys l
  unfolding some_by
  sound_some n inner h xs ys l e =
      let a = bind_some (items_by (sum_by bs inner) (length xs) xs) _ (l, ys) e in
      let b = bind_some (as_terms bs a.0.0) _ (l, ys) a.2 in
      let c = bind_some (tail_by inner a.0.1) _ (l, ys) b.2 in
      let d = bind_some (after_close shape.Square c.0.1) _ (l, ys) c.2 in
      let items = sound_items n sum (sum_by bs inner) (sound_sum n inner h) (length xs) xs a.0.1 a.0.0 a.1 in
      let end = subst (λ (z : List Lexeme). ReadsTail bs n a.0.1 z c.0.0) (close_only shape.Square c.0.1 d.0 d.1) (sound_tail n inner h a.0.1 c.0.1 c.0.0 c.1) in
      moved (λ z w. ReadsList bs (suc n) (Sign sign.OpenSquare ∷ xs) z w) (listed b.0 c.0.0) d.0 l ys d.2 (some_list bs items b.1 end)

  sound_body : (n : ℕ) (inner : Inside) → IsInside n inner → (xs ys : List Lexeme) (l : KeptListing) → body_by bs inner xs ≡ Some (l, ys) → ReadsList bs (suc n) (Sign sign.OpenSquare ∷ xs) ys l
  unfolding body_by
  sound_body n inner h xs ys l e = go (after_close shape.Square xs) refl e
    where
      go : (o : Option (List Lexeme)) → after_close shape.Square xs ≡ o → option_map_or (λ us. Some (no_items, us)) o (some_by bs inner xs) ≡ Some (l, ys) → ReadsList bs (suc n) (Sign sign.OpenSquare ∷ xs) ys l
      go None f e = sound_some n inner h xs ys l e
      go (Some us) f e = moved (λ z w. ReadsList bs (suc n) (Sign sign.OpenSquare ∷ xs) z w) no_items us l ys e (subst (λ (z : List Lexeme). ReadsList bs (suc n) (Sign sign.OpenSquare ∷ z) us no_items) (sym (close_only shape.Square xs us f)) (empty_list bs))

  none_items : (j : ℕ) (xs : List Lexeme) (r : List Kept × List Lexeme) → items_by (λ ts. None) j xs ≡ Some r → ⊥
  unfolding items_by
  none_items zero xs r e = absurd cc
  none_items (suc j) xs r e = absurd cc

  pub sound_inside : (n : ℕ) → IsInside n (inside bs n)
  unfolding inside
  sound_inside zero = record { expression = λ level xs ys m e. absurd cc; items = λ level j xs ys ms e. absurd (none_items j xs (ms, ys) e); body = λ xs ys l e. absurd cc }
  sound_inside (suc n) = record {
    expression = λ level xs ys m e. (n, refl, sound_level n (inside bs n) (sound_inside n) level xs ys m e);
    items = λ level j xs ys ms e. (n, refl, sound_items n (rule_of level) (level_by bs (inside bs n) level) (sound_level n (inside bs n) (sound_inside n) level) j xs ys ms e);
    body = λ xs ys l e. sound_body n (inside bs n) (sound_inside n) xs ys l e;
  }

  -- what is read is in the grammar
  pub sound : (n : ℕ) → IsSound n disjunction (level_by bs (inside bs n) levels.Or)
  sound n = sound_level n (inside bs n) (sound_inside n) levels.Or

  pub sound_literal : (n : ℕ) (xs ys : List Lexeme) (l : KeptLiteral) → literal_by bs (inside bs n) xs ≡ Some (l, ys) → ReadsLiteral bs n xs ys l
  sound_literal n = sound_literal_by n (inside bs n) (sound_inside n)

  -- an operand and an item take at least one token
  pub step_shorter : (n : ℕ) (level : OperatorLevel) (left : Kept) (o : Joint) (ws : List Lexeme) (m : Kept) (vs : List Lexeme) → step_by bs (operand_by bs (inside bs n) level) left (o, ws) ≡ Some (m, vs) → length vs < length ws
  unfolding step_by
  step_shorter n level left o ws m vs e =
      let a = bind_some (operand_by bs (inside bs n) level ws) _ (m, vs) e in
      let c = bind_some (joined bs o left a.0.0) _ (m, vs) a.2 in
      moved (λ z w. length z < length ws) c.0 a.0.1 m vs c.2 (shorter (sound_operand n (inside bs n) (sound_inside n) level ws a.0.1 a.0.0 a.1).holds)

  pub item_shorter : (n : ℕ) (level : OperatorLevel) (ts : List Lexeme) (m : Kept) (us : List Lexeme) → level_by bs (inside bs n) level ts ≡ Some (m, us) → length us < length ts
  item_shorter n level ts m us e = shorter (sound_level n (inside bs n) (sound_inside n) level ts us m e).holds
