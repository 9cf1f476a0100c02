-- Literals whose first arguments have other numbers have no match.
use Rattle.std.proofs.Common.{◌≡◌, ℕ, Bool, true, false, List, [], ◌∷◌, map, cond, refl, sym, ap, subst, ◌∙◌}
use Rattle.std.specs.Prelude.{◌==◌}
use Rattle.std.proofs.lemmas.Bool.{true≢false, eq-eqb}
use Rattle.std.proofs.lemmas.List.{length-map}
use Rattle.asl_term.specs.Trees.{with_terms_step}
use Rattle.asl_term.specs.Layers.{made}
use Rattle.asl_term.specs.declared.syntax.Var.{Var}
use Rattle.asl_term.specs.declared.syntax.LiteralOf.{LiteralOf}
use Rattle.asl_term.specs.declared.syntax.Term.{Term}
use Rattle.asl_term.specs.declared.syntax.Term.TheVariants as term
use Rattle.asl_term.specs.declared.syntax.Term.TheOpen.{Term-F}
use Rattle.asl_term.specs.declared.syntax.Term.TheOpen as layer
use Rattle.asl_term.specs.declared.syntax.Term.TheViews.{out-Term}
use Rattle.asl_term.proofs.Terms.{fold_num, fold_str, fold_lit}
use Rattle.asl_unify.specs.declared.subst.Pair.{Pair}
use Rattle.asl_unify.specs.Puts.{IsSubst, Unifies, put, put_step, value_of}
use Rattle.asl_unify.specs.Compare.{same_frame, asks, Outcome, Unified, Failed}
use Rattle.asl_unify.specs.Unified.{unified}
use Rattle.asl_unify.specs.Unifiers.{UnifiesAll}
use Rattle.asl_unify.specs.Matches.{matches, annots, on_unified}
use Rattle.asl_unify.specs.Renamed.{numbered, renamed, renamed_literal}
use Rattle.asl_unify.proofs.Views.{made_out, out_made}
use Rattle.asl_unify.proofs.General.{put-lit}
use Rattle.asl_unify.proofs.Unified.{unified_general}
use Rattle.asl_index_tables.specs.Prints.{mix, mixed}
use Rattle.asl_index_tables.specs.Firsts.{layer_print, print_of, first_print, may_agree}

-- the number of a term
abbrev number : Term → ℕ
number t = layer_print (out-Term t)

-- a number that tells something stays, whatever is put for the variables
abbrev Stays : (Term → Term) → Term → Type 0
Stays f t = (number t ≡ 0 → ⊥) → number (f t) ≡ number t

made_stays : (h : Var → Term) (y : Term-F Term) → Stays (put h) (made y)
made_stays h (layer.Num n) e = ap number (fold_num Term (put_step h) n)
made_stays h (layer.Str s) e = ap number (fold_str Term (put_step h) s)
made_stays h (layer.Var v) e = absurd (e (ap layer_print (out_made (layer.Var v))))
made_stays h (layer.Lit l) e =
    ap number (put-lit h l)
    ∙ ap layer_print (out_made (layer.Lit (record l { args = map (put h) l.args; annots = map (put h) l.annots })))
    ∙ ap (λ k. mix (mixed 4 l.functor) k) (length-map l.args (put h))
    ∙ sym (ap layer_print (out_made (layer.Lit l)))
made_stays h (layer.List l) e = absurd (e (ap layer_print (out_made (layer.List l))))
made_stays h (layer.Op a) e = absurd (e (ap layer_print (out_made (layer.Op a))))

put_stays : (h : Var → Term) (t : Term) → Stays (put h) t
put_stays h t = subst (Stays (put h)) (made_out t) (made_stays h (out-Term t))

-- nor does a new number of the variables change it
made_renamed : (n : ℕ) (y : Term-F Term) → Stays (renamed n) (made y)
made_renamed n (layer.Num k) e = ap number (fold_num Term (with_terms_step (λ v. term.Var (numbered n v))) k)
made_renamed n (layer.Str s) e = ap number (fold_str Term (with_terms_step (λ v. term.Var (numbered n v))) s)
made_renamed n (layer.Var v) e = absurd (e (ap layer_print (out_made (layer.Var v))))
made_renamed n (layer.Lit l) e =
    ap number (fold_lit Term (with_terms_step (λ v. term.Var (numbered n v))) l)
    ∙ ap layer_print (out_made (layer.Lit (renamed_literal n l)))
    ∙ ap (λ k. mix (mixed 4 l.functor) k) (length-map l.args (renamed n))
    ∙ sym (ap layer_print (out_made (layer.Lit l)))
made_renamed n (layer.List l) e = absurd (e (ap layer_print (out_made (layer.List l))))
made_renamed n (layer.Op a) e = absurd (e (ap layer_print (out_made (layer.Op a))))

renamed_stays : (n : ℕ) (t : Term) → Stays (renamed n) t
renamed_stays n t = subst (Stays (renamed n)) (made_out t) (made_renamed n (out-Term t))

-- of numbers that can't agree none is 0, and they differ
record Differ (a b : ℕ) : Type 0 where
  left : a ≡ 0 → ⊥
  right : b ≡ 0 → ⊥
  apart : a ≡ b → ⊥

differ : (a b : ℕ) → may_agree a b ≡ false → Differ a b
differ a b e = record {
  left = λ z. true≢false (sym (ap (λ t. cond t true (cond (b == 0) true (a == b))) (eq-eqb a 0 z)) ∙ e);
  right = λ z. go (a == 0) (λ t. cond t true (cond (b == 0) true (a == b)) ≡ false) e z;
  apart = λ z. same (a == 0) (b == 0) e (eq-eqb a b z);
} where
  go : (t : Bool) (P : Bool → Type 0) → cond t true (cond (b == 0) true (a == b)) ≡ false → b ≡ 0 → ⊥
  go true P f z = true≢false f
  go false P f z = true≢false (sym (ap (λ u. cond u true (a == b)) (eq-eqb b 0 z)) ∙ f)

  same : (t u : Bool) → cond t true (cond u true (a == b)) ≡ false → (a == b) ≡ true → ⊥
  same true u f g = true≢false f
  same false true f g = true≢false f
  same false false f g = true≢false (sym g ∙ f)

terms_apart : (a b : Term) → Differ (number a) (number b) → (t : List Pair) → Unifies t a b → ⊥
terms_apart a b d t u =
    d.apart (sym (put_stays (value_of t) a d.left) ∙ ap number u ∙ put_stays (value_of t) b d.right)

renamed_apart : (n : ℕ) (a b : Term) → Differ (number a) (number b) → (t : List Pair) → Unifies t a (renamed n b) → ⊥
renamed_apart n a b d =
    terms_apart a (renamed n b) (subst (Differ (number a)) (sym (renamed_stays n b d.right)) d)

none_unifies : (n : ℕ) (xs ys : List Term) → Differ (print_of xs) (print_of ys) → (t : List Pair) → UnifiesAll (asks xs (map (renamed n) ys) []) t → ⊥
none_unifies n [] ys d t u = d.left refl
none_unifies n (x ∷ xs) [] d t u = d.right refl
none_unifies n (x ∷ xs) (y ∷ ys) d t u = renamed_apart n x y d t u.0

no_match : (p q : LiteralOf Term) → ((t : List Pair) → UnifiesAll (asks p.args q.args []) t → ⊥) → (s : List Pair) → IsSubst s → matches p q s ≡ []
no_match p q none s i = go (unified s (asks p.args q.args [])) refl (same_frame p q) where
  go : (o : Outcome) → unified s (asks p.args q.args []) ≡ o → (b : Bool) → cond b (on_unified (annots p.annots q.annots) o) [] ≡ []
  go (Unified t) e b = absurd (none t (unified_general s t (asks p.args q.args []) i e).unifies)
  go (Failed f) e true = refl
  go (Failed f) e false = refl

-- where the numbers of two first arguments can't agree there is no match, whatever number the variables of the second get
pub other_firsts : (p q : LiteralOf Term) → may_agree (first_print p) (first_print q) ≡ false
    → (n : ℕ) (s : List Pair) → IsSubst s → matches p (renamed_literal n q) s ≡ []
other_firsts p q e n = no_match p (renamed_literal n q) (none_unifies n p.args q.args (differ (first_print p) (first_print q) e))
