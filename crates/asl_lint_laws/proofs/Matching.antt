-- A trigger that takes a goal from any source matches every goal that is an instance of it.
use Rattle.std.proofs.Common.{◌≡◌, ◌==◌, ℕ, eqb, Bool, true, false, not, ◌&&◌, ◌||◌, cond, if◌then◌else◌, List, [], ◌∷◌, ◌++◌, map, length, Option, Some, None, refl, sym, ap, ◌∙◌, subst, codes, arith}
use Rattle.std.proofs.lemmas.Bool.{false≢true, eqb-true}
use Rattle.std.proofs.lemmas.List.{length-map}
use Rattle.std.proofs.lemmas.Slice.Eq.{bytes_eq-Decides}
use Rattle.std.specs.List.{AllByRecursion, list_any, flat_map}
use Rattle.std.specs.Str.{bytes_eq}
use Rattle.asl_term.specs.declared.syntax.Var.{Var}
use Rattle.asl_term.specs.declared.syntax.LiteralOf.{LiteralOf}
use Rattle.asl_term.specs.declared.syntax.Term.{Term}
use Rattle.asl_term.specs.declared.syntax.Term.TheVariants as term
use Rattle.asl_term.specs.declared.syntax.Term.TheOpen.{Term-F}
use Rattle.asl_term.specs.declared.syntax.Term.TheOpen as layer
use Rattle.asl_term.specs.declared.syntax.Term.TheViews.{out-Term}
use Rattle.asl_term.specs.Layers.{made}
use Rattle.asl_term.specs.Trees.{all, same_var}
use Rattle.asl_term.specs.Variables.{occurs}
use Rattle.asl_term.proofs.Same.{same_var_self, same_var_true}
use Rattle.asl_term.proofs.Terms.{made_out}
use Rattle.asl_unify.specs.declared.subst.Pair.{Pair}
use Rattle.asl_unify.specs.Puts.{put}
use Rattle.asl_unify.specs.Compare.{Question, ask, asks, Fault, Outcome, Unified, Failed, Leads, same_sign, same_frame}
use Rattle.asl_unify.specs.Unified.{unified}
use Rattle.asl_unify.specs.Unifiers.{is_tidy, AreTidy, IsTidySubst}
use Rattle.asl_unify.specs.Renamed.{numbered, renamed, renamed_literal}
use Rattle.asl_unify.specs.Matches.{on_unified, annots, matches}
use Rattle.asl_unify.proofs.Agree.{put-agree}
use Rattle.asl_unify.proofs.Answers.{Answers, to_asks}
use Rattle.asl_unify.proofs.General.{and_true, put-lit}
use Rattle.asl_unify.proofs.Laws.{put-var, flat-var, flat-put, Flat, FlatValues}
use Rattle.asl_unify.proofs.Unified.{unified_leads, unified_reaches}
use Rattle.asl_beliefs.specs.Sources.{plain, is_source, layer_is_source}
use Rattle.asl_lint.specs.Covers.{var_in, only_var, is_source_of, source_in, stands_in, is_free_source, from_any}
use Rattle.asl_lint.proofs.Becoming.{Values}
use Rattle.asl_lint_laws.specs.Written.{IsWritten, IsFresh, IsApart, IsSourced}
use Rattle.asl_unify.proofs.Failing.{fails, leads-tidy}
use Rattle.asl_lint_laws.proofs.Fresh.{back, flat_back, put-back, put-fresh, vars-tidy, flat_is_tidy, flats_are_tidy}

-- the questions of tidy terms are tidy
pub asks-tidy : (xs ys : List Term) (w : List Question) → all (map is_tidy xs) ≡ true → all (map is_tidy ys) ≡ true → AreTidy w → AreTidy (asks xs ys w)
asks-tidy [] [] w a b c = c
asks-tidy [] (y ∷ ys) w a b c = c
asks-tidy (x ∷ xs) [] w a b c = c
asks-tidy (x ∷ xs) (y ∷ ys) w a b c =
    let p = and_true (is_tidy x) _ a in
    let q = and_true (is_tidy y) _ b in ((p.0, q.0), asks-tidy xs ys w p.1 q.1 c)

-- a list with an item
abbrev pub Has : {A : Type 0} → List A → Type 0
Has [] = ⊥
Has (x ∷ xs) = Unit {0}

pub has_front : {A : Type 0} (xs ys : List A) → Has xs → Has (xs ++ ys)
has_front [] ys h = absurd h
has_front (x ∷ xs) ys h = tt

pub has_back : {A : Type 0} (xs ys : List A) → Has ys → Has (xs ++ ys)
has_back [] ys h = h
has_back (x ∷ xs) ys h = tt

-- ---- sources

abbrev source_of : Term → Term
source_of t = plain (codes "source") (t ∷ [])

record OneItem (ts : List Term) : Type 0 where
  item : Term
  is : ts ≡ item ∷ []

one_item : (ts : List Term) → (length ts == 1) ≡ true → OneItem ts
one_item [] e = let d = eqb-true 0 1 e in absurd (omega (arith, d))
one_item (t ∷ []) e = record { item = t; is = refl }
one_item (t ∷ u ∷ ts) e = let d = eqb-true (length (t ∷ u ∷ ts)) 1 e in absurd (omega (arith, d))

no_item : (ts : List Term) → (length ts == 0) ≡ true → ts ≡ []
no_item [] e = refl
no_item (t ∷ ts) e = let d = eqb-true (length (t ∷ ts)) 0 e in absurd (omega (arith, d))

record Named (q : Term) : Type 0 where
  item : Term
  is : q ≡ source_of item

literal_is : (l : LiteralOf Term) (t : Term) → l.neg ≡ false → l.functor ≡ codes "source" → l.args ≡ t ∷ [] → l.annots ≡ [] → term.Lit l ≡ source_of t
literal_is l t a b c d = (λ i. term.Lit (record { neg = a i; functor = b i; args = c i; annots = d i }))

named_layer : (y : Term-F Term) → layer_is_source y ≡ true → Named (made y)
named_layer (layer.Lit l) e = go l.neg refl e where
  go : (b : Bool) → l.neg ≡ b → (if b then false else bytes_eq l.functor (codes "source") && (length l.args == 1) && (length l.annots == 0)) ≡ true → Named (term.Lit l)
  go true n e = absurd (false≢true e)
  go false n e =
      let a = and_true (bytes_eq l.functor (codes "source") && (length l.args == 1)) _ e in
      let b = and_true (bytes_eq l.functor (codes "source")) _ a.0 in
      let one = one_item l.args b.1 in
      record { item = one.item; is = literal_is l one.item n ((bytes_eq-Decides l.functor (codes "source")).0 b.0) one.is (no_item l.annots a.1) }
named_layer (layer.Num n) e = absurd (false≢true e)
named_layer (layer.Str n) e = absurd (false≢true e)
named_layer (layer.Var n) e = absurd (false≢true e)
named_layer (layer.List n) e = absurd (false≢true e)
named_layer (layer.Op n) e = absurd (false≢true e)

named : (q : Term) → is_source q ≡ true → Named q
named q e = subst Named (made_out q) (named_layer (out-Term q) e)

-- `source(V)` with a variable that stands in none of the arguments
record FreeSource (args : List Term) (a : Term) : Type 0 where
  var : Var
  is : a ≡ source_of (term.Var var)
  free : list_any (occurs var) args ≡ false

is_not : (b : Bool) → not b ≡ true → b ≡ false
is_not true e = absurd (false≢true e)
is_not false e = refl

var_layer : (y : Term-F Term) (x : Var) → var_in y ≡ Some x → made y ≡ term.Var x
var_layer (layer.Var z) x e = let same : z ≡ x = cc in ap term.Var same
var_layer (layer.Num n) x e = cc
var_layer (layer.Str n) x e = cc
var_layer (layer.Lit n) x e = cc
var_layer (layer.List n) x e = cc
var_layer (layer.Op n) x e = cc

only_is : (ts : List Term) (x : Var) → only_var ts ≡ Some x → ts ≡ term.Var x ∷ []
only_is [] x e = cc
only_is (t ∷ []) x e = ap (λ u. u ∷ []) (sym (made_out t) ∙ var_layer (out-Term t) x e)
only_is (t ∷ u ∷ ts) x e = cc

not_stands : (args : List Term) (o : Option Var) → stands_in args o ≡ false → (x : Var) × ((o ≡ Some x) × (list_any (occurs x) args ≡ false))
not_stands args None e = absurd (false≢true (sym e))
not_stands args (Some x) e = (x, (refl, e))

source_layer : (y : Term-F Term) (x : Var) → source_in y ≡ Some x → made y ≡ source_of (term.Var x)
source_layer (layer.Lit l) x e = go (is_source_of l) refl e where
  go : (b : Bool) → is_source_of l ≡ b → cond b (only_var l.args) None ≡ Some x → term.Lit l ≡ source_of (term.Var x)
  go false d e = cc
  go true d e =
      let a = and_true (not l.neg && bytes_eq l.functor (codes "source")) _ d in
      let b = and_true (not l.neg) _ a.0 in
      literal_is l (term.Var x) (is_not l.neg b.0) ((bytes_eq-Decides l.functor (codes "source")).0 b.1) (only_is l.args x e) (no_item l.annots a.1)
source_layer (layer.Num n) x e = cc
source_layer (layer.Str n) x e = cc
source_layer (layer.Var n) x e = cc
source_layer (layer.List n) x e = cc
source_layer (layer.Op n) x e = cc

free_source : (args : List Term) (a : Term) → is_free_source args a ≡ true → FreeSource args a
free_source args a e =
    let s = not_stands args (source_in (out-Term a)) (is_not (stands_in args (source_in (out-Term a))) e) in
    record { var = s.0; is = sym (made_out a) ∙ source_layer (out-Term a) s.0 s.1.0; free = s.1.1 }

-- ---- one variable with another value

abbrev at_var : Var → Term → (Var → Term) → Var → Term
at_var x u v y = cond (same_var y x) u (v y)

flat_at : (x : Var) (u : Term) (v : Var → Term) → Flat u → FlatValues v → FlatValues (at_var x u v)
flat_at x u v f g y = go (same_var y x) where
  go : (b : Bool) → Flat (cond b u (v y))
  go true = f
  go false = g y

other_var : (x : Var) (u : Term) (v : Var → Term) (t : Term) → occurs x t ≡ false → (y : Var) → occurs y t ≡ true → at_var x u v y ≡ v y
other_var x u v t n y o = go (same_var y x) refl where
  go : (b : Bool) → same_var y x ≡ b → cond b u (v y) ≡ v y
  go true e = absurd (false≢true (sym n ∙ ap (λ z. occurs z t) (sym (same_var_true y x e)) ∙ o))
  go false e = refl

or_false : (a b : Bool) → (a || b) ≡ false → (a ≡ false) × (b ≡ false)
or_false true b e = absurd (false≢true (sym e))
or_false false b e = (refl, e)

puts_at : (x : Var) (u : Term) (v : Var → Term) (ts : List Term) → list_any (occurs x) ts ≡ false → map (put (at_var x u v)) ts ≡ map (put v) ts
puts_at x u v [] e = refl
puts_at x u v (t ∷ ts) e =
    let s = or_false (occurs x t) _ e in
    let one = put-agree (at_var x u v) v t (other_var x u v t s.0) in
    let more = puts_at x u v ts s.1 in (λ i. one i ∷ more i)

value_at : (x : Var) (u : Term) (v : Var → Term) → at_var x u v x ≡ u
value_at x u v = ap (λ b. cond b u (v x)) (same_var_self x)

-- ---- the arguments

lefts : (n : ℕ) (v : Var → Term) (hs : List Term) → AllByRecursion IsWritten hs → map (put (back n v)) (map (renamed n) hs) ≡ map (put v) hs
lefts n v [] a = refl
lefts n v (h ∷ hs) a = let one = put-back n v h a.0.unnumbered in let more = lefts n v hs a.1 in (λ i. one i ∷ more i)

rights : (n : ℕ) (v : Var → Term) (gs : List Term) → AllByRecursion (IsFresh n) gs → map (put (back n v)) gs ≡ map (put term.Var) gs
rights n v [] a = refl
rights n v (g ∷ gs) a = let one = put-fresh n v g a.0 in let more = rights n v gs a.1 in (λ i. one i ∷ more i)

pub written_tidy : (n : ℕ) (hs : List Term) → AllByRecursion IsWritten hs → all (map is_tidy (map (renamed n) hs)) ≡ true
written_tidy n [] a = refl
written_tidy n (h ∷ hs) a = both (is_tidy (renamed n h)) _ (vars-tidy (numbered n) h ∙ a.0.tidy) (written_tidy n hs a.1) where
  both : (a b : Bool) → a ≡ true → b ≡ true → (a && b) ≡ true
  both a b e d = cc

module _ (n : ℕ) (hs gs : List Term) (written : AllByRecursion IsWritten hs) (fresh : AllByRecursion (IsFresh n) gs) (merged : map (put term.Var) gs ≡ gs) where
  abbrev questions : List Question
  questions = asks (map (renamed n) hs) gs []

  tidy : AreTidy questions
  tidy = asks-tidy (map (renamed n) hs) gs [] (written_tidy n hs written) (flats_are_tidy gs merged) tt

  answered : (v : Var → Term) → map (put v) hs ≡ map (put term.Var) gs → Answers (back n v) questions
  answered v same = to_asks (back n v) (map (renamed n) hs) gs [] (lefts n v hs written ∙ same ∙ sym (rights n v gs fresh)) tt

  not_failed : (v : Var → Term) → FlatValues v → map (put v) hs ≡ map (put term.Var) gs → (f : Fault) → unified [] questions ≡ Failed f → ⊥
  not_failed v flat same f e =
      fails (subst (Leads questions [] 0) e (unified_leads [] questions tt)) tt tidy tt (back n v) (flat_back n v flat) tt (answered v same)

  tidy_result : (t : List Pair) → unified [] questions ≡ Unified t → IsTidySubst t
  tidy_result t e = leads-tidy (subst (Leads questions [] 0) e (unified_leads [] questions tt)) tt tidy tt

  -- the annotation `source(V)` meets each held annotation that names a source
  meets_source : (v : Var → Term) → FlatValues v → map (put v) hs ≡ map (put term.Var) gs → (t : List Pair) → unified [] questions ≡ Unified t
      → (a : Term) → IsWritten a → FreeSource hs a → (q : Term) → Named q → IsFresh n q → Flat q → (f : Fault) → unified t (ask (renamed n a) q ∷ []) ≡ Failed f → ⊥
  meets_source v flat same t e a w s q m fresh_q flat_q f d =
      let u = put term.Var m.item in
      let k = at_var s.var u v in
      let flat_k = flat_at s.var u v (flat-put term.Var flat-var m.item) flat in
      let same_k = puts_at s.var u v hs s.free ∙ same in
      let r = unified_reaches [] t questions tt e in
      let solves = r.forth (back n k) (flat_back n k flat_k) tt (answered k same_k) in
      let left : put (back n k) (renamed n a) ≡ source_of u =
      put-back n k a w.unnumbered ∙ ap (put k) s.is ∙ put-lit k (record { neg = false; functor = codes "source"; args = term.Var s.var ∷ []; annots = [] })
      ∙ ap source_of (put-var k s.var ∙ value_at s.var u v) in
      let right : put (back n k) q ≡ source_of u =
      put-fresh n k q fresh_q ∙ ap (put term.Var) m.is ∙ put-lit term.Var (record { neg = false; functor = codes "source"; args = m.item ∷ []; annots = [] }) in
      fails (subst (Leads (ask (renamed n a) q ∷ []) t 0) d (unified_leads t (ask (renamed n a) q ∷ []) r.sound)) r.sound
      ((vars-tidy (numbered n) a ∙ w.tidy, flat_is_tidy q flat_q), tt) (tidy_result t e) (back n k) (flat_back n k flat_k) solves (left ∙ sym right, tt)

-- ---- the annotations

module _ (n : ℕ) (t : List Pair) (p : Term) (whole : List Term) where
  abbrev tries : Term → List (List Pair)
  tries q = on_unified (annots [] whole) (unified t (ask p q ∷ []))

  one_try : (q : Term) → ((f : Fault) → unified t (ask p q ∷ []) ≡ Failed f → ⊥) → Has (tries q)
  one_try q meet = go (unified t (ask p q ∷ [])) meet where
    go : (o : Outcome) → ((f : Fault) → o ≡ Failed f → ⊥) → Has (on_unified (annots [] whole) o)
    go (Unified s) meet = tt
    go (Failed f) meet = meet f refl

  some_try : (held : List Term) → list_any is_source held ≡ true → AllByRecursion (IsFresh n) held → map (put term.Var) held ≡ held
      → ((q : Term) → is_source q ≡ true → IsFresh n q → Flat q → (f : Fault) → unified t (ask p q ∷ []) ≡ Failed f → ⊥) → Has (flat_map tries held)
  some_try [] e fresh flat meet = absurd (false≢true e)
  some_try (q ∷ held) e fresh flat meet =
      let one : put term.Var q ≡ q = cc in
      let rest : map (put term.Var) held ≡ held = cc in
      go (is_source q) refl (λ d. some_try held d fresh.1 rest meet) one where
        go : (b : Bool) → is_source q ≡ b → (list_any is_source held ≡ true → Has (flat_map tries held)) → Flat q → Has (tries q ++ flat_map tries held)
        go true d more one = has_front (tries q) (flat_map tries held) (one_try q (meet q d fresh.0 one))
        go false d more one = has_back (tries q) (flat_map tries held) (more (ap (λ b. b || list_any is_source held) (sym d) ∙ e))

-- ---- a literal

pub frame_renamed : (n : ℕ) (h g : LiteralOf Term) → same_frame (renamed_literal n h) g ≡ same_frame h g
frame_renamed n h g = ap (λ m. same_sign h.neg g.neg && bytes_eq h.functor g.functor && eqb m (length g.args)) (length-map h.args (renamed n))

-- the questions of the arguments, and the matches of the annotations
abbrev asked : ℕ → LiteralOf Term → LiteralOf Term → List Question
asked n h g = asks (map (renamed n) h.args) g.args []

abbrev ways : ℕ → LiteralOf Term → LiteralOf Term → Outcome → List (List Pair)
ways n h g o = on_unified (annots (map (renamed n) h.annots) g.annots) o

module _ (n : ℕ) (h g : LiteralOf Term) (i : Values h.args g.args) (written : AllByRecursion IsWritten h.args) (p : IsApart n g) (sourced : IsSourced g) where
  held_match : (t : List Pair) → unified [] (asked n h g) ≡ Unified t
      → (notes : List Term) → AllByRecursion IsWritten notes → from_any h.args notes ≡ true → Has (annots (map (renamed n) notes) g.annots t)
  held_match t e [] w any = tt
  held_match t e (a ∷ []) w any =
      let s = free_source h.args a any in
      some_try n t (renamed n a) g.annots g.annots sourced p.annots p.merged_annots
      (λ q d fresh flat. meets_source n h.args g.args written p.args p.merged_args i.values i.flat i.same t e a w.0 s q (named q d) fresh flat)
  held_match t e (a ∷ b ∷ notes) w any = absurd (false≢true any)

  has_ways : AllByRecursion IsWritten h.annots → from_any h.args h.annots ≡ true → (o : Outcome) → unified [] (asked n h g) ≡ o → Has (ways n h g o)
  has_ways notes any (Unified t) e = held_match t e h.annots notes any
  has_ways notes any (Failed f) e = absurd (not_failed n h.args g.args written p.args p.merged_args i.values i.flat i.same f e)

  pub has_match : same_frame h g ≡ true → AllByRecursion IsWritten h.annots → from_any h.args h.annots ≡ true → Has (matches (renamed_literal n h) g [])
  has_match frame notes any =
      subst (λ b. Has (cond b (ways n h g (unified [] (asked n h g))) [])) (sym (frame_renamed n h g ∙ frame))
      (has_ways notes any (unified [] (asked n h g)) refl)
