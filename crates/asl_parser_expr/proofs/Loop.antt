-- Reading a chain, and prefixes before an operand, as loops do.
use Rattle.std.proofs.Common.{◌≡◌, ℕ, zero, suc, ◌+◌, ◌-◌, ◌<◌, ◌≤◌, Bool, true, false, cond, List, [], ◌∷◌, length, Option, Some, None, refl, sym, ap, ◌∙◌, add-one, arith}
use Rattle.std.specs.Option.{option_map, option_map_or}
use Rattle.asl_parser_tree.specs.declared.lexeme.Lexeme.{Lexeme}
use Rattle.asl_parser_tree.specs.Holding.{Bounds, Kept, prefixed}
use Rattle.asl_parser_tree.specs.declared.meaning.Joint.{Joint}
use Rattle.asl_parser_tree.specs.declared.meaning.Prefix.{Prefix}
use Rattle.asl_parser_tree.specs.declared.meaning.Prefix.TheVariants as prefix
use Rattle.asl_parser_tree.specs.declared.leaves.OperatorLevel.{OperatorLevel}
use Rattle.asl_parser_tree.specs.declared.leaves.OperatorLevel.TheVariants as levels
use Rattle.asl_parser_tree.specs.Meanings.{◌>>=◌}
use Rattle.asl_parser_tree.specs.Leaves.{Front, Read, joint_of, joint_at, after_comma, is_prefix, after_prefix}
use Rattle.asl_parser_tree.proofs.Options.{some_is}
use Rattle.asl_parser_expr.specs.Reading.{step_by, more_by, chain_by, wrap, wrapped, prefix_by}

-- how a level stands among those of its depth
abbrev pub rank : OperatorLevel → ℕ
rank levels.Product = 8
rank levels.Sum = 11
rank levels.And = 18
rank levels.Or = 21

abbrev pub prefix_rank : Prefix → ℕ
prefix_rank prefix.Minus = 6
prefix_rank prefix.Not = 16

pub joint_shorter : (level : OperatorLevel) (ts : List Lexeme) (o : Joint) (us : List Lexeme) → joint_at level ts ≡ Some (o, us) → length us < length ts
joint_shorter level [] o us e = absurd cc
joint_shorter level (t ∷ ts) o us e = go (joint_of level t) e
  where
    go : (j : Option Joint) → option_map {T = Joint} {U = Joint × List Lexeme} (λ o. (o, ts)) j ≡ Some (o, us) → length us < suc (length ts)
    go None e = absurd cc
    go (Some j) e = omega (arith, ap (λ (x : Joint × List Lexeme). length x.1) (some_is (j, ts) (o, us) e))

pub comma_shorter : (us vs : List Lexeme) → after_comma us ≡ Some vs → length vs < length us
comma_shorter [] vs e = absurd cc
comma_shorter (u ∷ us) vs e = go u e
  where
    go : (u : Lexeme) → after_comma (u ∷ us) ≡ Some vs → length vs < suc (length us)
    go u e = grind arith

-- the first token is a prefix
pub record Passes (p : Prefix) (ts us : List Lexeme) : Type 0 where
  pub first : Lexeme
  pub whole : ts ≡ first ∷ us
  pub is : is_prefix p first us ≡ true

pub prefix_only : (p : Prefix) (ts us : List Lexeme) → after_prefix p ts ≡ Some us → Passes p ts us
prefix_only p [] us e = absurd cc
prefix_only p (t ∷ ts) us e = go (is_prefix p t ts) refl e
  where
    go : (b : Bool) → is_prefix p t ts ≡ b → cond b (Some ts) None ≡ Some us → Passes p (t ∷ ts) us
    go true h e = let same : ts ≡ us = some_is ts us e in record { first = t; whole = ap (λ (x : List Lexeme). t ∷ x) same; is = ap (is_prefix p t) (sym same) ∙ h }
    go false h e = absurd cc

module _ (bs : Bounds) where
  -- ---- chains

  -- what is left of a chain gives the whole
  pub record Continues (item : List Lexeme → Read) (level : OperatorLevel) (left : Kept) (ts : List Lexeme) (total : Read) : Type 0 where
    pub count : ℕ
    pub enough : length ts ≤ count
    pub same : more_by bs item level count left ts ≡ total

  pub begins : (item : List Lexeme → Read) (level : OperatorLevel) (ts : List Lexeme) (left : Kept) (us : List Lexeme) → item ts ≡ Some (left, us) → Continues item level left us (chain_by bs item level ts)
  unfolding chain_by
  begins item level ts left us e = record { count = length us; enough = omega arith; same = rw e refl }

  pub begins_not : (item : List Lexeme → Read) (level : OperatorLevel) (ts : List Lexeme) → item ts ≡ None → chain_by bs item level ts ≡ None
  unfolding chain_by
  begins_not item level ts e = rw e refl

  -- the rest of a chain, by what stands there
  abbrev more_from : (List Lexeme → Read) → OperatorLevel → ℕ → Kept → List Lexeme → Front Joint → Read
  more_from item level k left us o = option_map_or (λ o. step_by bs item left o >>= λ s. more_by bs item level k s.0 s.1) o (Some (left, us))

  pub goes_on : (item : List Lexeme → Read) (level : OperatorLevel) (left : Kept) (us : List Lexeme) (o : Joint) (ws : List Lexeme) (m : Kept) (vs : List Lexeme) (total : Read) → joint_at level us ≡ Some (o, ws) → step_by bs item left (o, ws) ≡ Some (m, vs) → length vs < length us → Continues item level left us total → Continues item level m vs total
  unfolding more_by
  goes_on item level left us o ws m vs total j e lt h = go h.count h.enough h.same
    where
      go : (k : ℕ) → length us ≤ k → more_by bs item level k left us ≡ total → Continues item level m vs total
      go zero le s = absurd (omega arith)
      go (suc k) le s = record { count = k; enough = omega arith; same = sym (ap (λ (x : Front Joint). more_from item level k left us x) j ∙ ap (λ (x : Read). x >>= λ s. more_by bs item level k s.0 s.1) e) ∙ s }

  pub fails : (item : List Lexeme → Read) (level : OperatorLevel) (left : Kept) (us : List Lexeme) (o : Joint) (ws : List Lexeme) (total : Read) → joint_at level us ≡ Some (o, ws) → step_by bs item left (o, ws) ≡ None → Continues item level left us total → total ≡ None
  unfolding more_by
  fails item level left us o ws total j e h = go h.count h.enough h.same
    where
      go : (k : ℕ) → length us ≤ k → more_by bs item level k left us ≡ total → total ≡ None
      go zero le s = absurd (omega (arith, joint_shorter level us o ws j))
      go (suc k) le s = sym s ∙ ap (λ (x : Front Joint). more_from item level k left us x) j ∙ ap (λ (x : Read). x >>= λ s. more_by bs item level k s.0 s.1) e

  pub ends : (item : List Lexeme → Read) (level : OperatorLevel) (left : Kept) (us : List Lexeme) (total : Read) → joint_at level us ≡ None → Continues item level left us total → total ≡ Some (left, us)
  unfolding more_by
  ends item level left us total e h = sym h.same ∙ go h.count
    where
      go : (k : ℕ) → more_by bs item level k left us ≡ Some (left, us)
      go zero = refl
      go (suc k) = ap (λ (x : Front Joint). more_from item level k left us x) e

  -- ---- prefixes

  pub wrapped_none : (p : Prefix) (n : ℕ) → wrapped bs p n None ≡ None
  wrapped_none p zero = refl
  wrapped_none p (suc n) = wrapped_none p n

  -- without a prefix it is an operand
  pub no_prefix : (p : Prefix) (item : List Lexeme → Read) (ts : List Lexeme) → after_prefix p ts ≡ None → prefix_by bs p item ts ≡ item ts
  unfolding prefix_by
  no_prefix p item [] e = refl
  no_prefix p item (t ∷ ts) e = go (is_prefix p t ts) e
    where
      go : (b : Bool) → cond b (Some ts) None ≡ None → cond b (prefix_by bs p item ts >>= wrap bs p) (item (t ∷ ts)) ≡ item (t ∷ ts)
      go true e = absurd cc
      go false e = refl

  one_prefix : (p : Prefix) (item : List Lexeme → Read) (t : Lexeme) (us : List Lexeme) → is_prefix p t us ≡ true → prefix_by bs p item (t ∷ us) ≡ (prefix_by bs p item us >>= wrap bs p)
  unfolding prefix_by
  one_prefix p item t us e = ap (λ (b : Bool). cond b (prefix_by bs p item us >>= wrap bs p) (item (t ∷ us))) e

  -- this many prefixes were passed
  pub record Passed (p : Prefix) (item : List Lexeme → Read) (count : ℕ) (ts all : List Lexeme) : Type 0 where
    pub length : count + length ts ≡ length all
    pub same : wrapped bs p count (prefix_by bs p item ts) ≡ prefix_by bs p item all

  pub passes : (p : Prefix) (item : List Lexeme → Read) (n : ℕ) (ts us all : List Lexeme) → after_prefix p ts ≡ Some us → Passed p item n ts all → Passed p item (n + 1) us all
  passes p item n ts us all e h =
      let x = prefix_only p ts us e in
      let one : wrapped bs p (suc n) (prefix_by bs p item us) ≡ wrapped bs p n (prefix_by bs p item ts) = ap (wrapped bs p n) (sym (one_prefix p item x.first us x.is)) ∙ ap (λ (ys : List Lexeme). wrapped bs p n (prefix_by bs p item ys)) (sym x.whole) in
      record { length = omega (arith, h.length, ap length x.whole); same = rw add-one (one ∙ h.same) }

  pub passed_none : (p : Prefix) (item : List Lexeme → Read) (n : ℕ) (ts all : List Lexeme) → Passed p item n ts all → after_prefix p ts ≡ None → item ts ≡ None → prefix_by bs p item all ≡ None
  passed_none p item n ts all h e r = sym h.same ∙ ap (wrapped bs p n) (no_prefix p item ts e ∙ r) ∙ wrapped_none p n

  pub passed_some : (p : Prefix) (item : List Lexeme → Read) (n : ℕ) (ts all : List Lexeme) (m : Kept) (us : List Lexeme) → Passed p item n ts all → after_prefix p ts ≡ None → item ts ≡ Some (m, us) → wrapped bs p n (Some (m, us)) ≡ prefix_by bs p item all
  passed_some p item n ts all m us h e r = sym (ap (wrapped bs p n) (no_prefix p item ts e ∙ r)) ∙ h.same

  pub wrap_stops : (p : Prefix) (n i : ℕ) (m : Kept) (us : List Lexeme) (total : Read) → i < n → prefixed bs p m ≡ None → wrapped bs p (n - i) (Some (m, us)) ≡ total → total ≡ None
  wrap_stops p n i m us total lt f h =
      let k : n - i ≡ suc (n - (i + 1)) = omega arith in
      let one : wrapped bs p (n - i) (Some (m, us)) ≡ None = ap (λ (x : ℕ). wrapped bs p x (Some (m, us))) k ∙ ap (λ (o : Option Kept). wrapped bs p (n - (i + 1)) (o >>= λ w. Some (w, us))) f ∙ wrapped_none p (n - (i + 1)) in
      sym h ∙ one

  pub wrap_more : (p : Prefix) (n i : ℕ) (m w : Kept) (us : List Lexeme) (total : Read) → i < n → prefixed bs p m ≡ Some w → wrapped bs p (n - i) (Some (m, us)) ≡ total → wrapped bs p (n - (i + 1)) (Some (w, us)) ≡ total
  wrap_more p n i m w us total lt f h =
      let k : n - i ≡ suc (n - (i + 1)) = omega arith in
      let one : wrapped bs p (n - i) (Some (m, us)) ≡ wrapped bs p (n - (i + 1)) (Some (w, us)) = ap (λ (x : ℕ). wrapped bs p x (Some (m, us))) k ∙ ap (λ (o : Option Kept). wrapped bs p (n - (i + 1)) (o >>= λ w. Some (w, us))) f in
      sym one ∙ h

-- what a turn of the loop over a chain asks
pub ruleset links = (begins, begins_not, goes_on, fails, ends, joint_shorter)
