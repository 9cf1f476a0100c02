-- Terms without numbers in their variables, none of whose lists ends in a list.
use Rattle.std.proofs.Common.{◌≡◌, ℕ, ℤ, List, [], ◌∷◌, Option, Some, None, refl, ap, ◌∙◌, arith}
use Rattle.std.specs.List.{AllByRecursion}
use Rattle.asl_term.specs.declared.syntax.ArithOf.{ArithOf}
use Rattle.asl_term.specs.declared.syntax.ListingOf.{ListingOf}
use Rattle.asl_term.specs.declared.syntax.LiteralOf.{LiteralOf}
use Rattle.asl_term.specs.declared.syntax.Term.{Term}
use Rattle.asl_term.specs.declared.syntax.Term.TheVariants as term
use Rattle.asl_term.specs.declared.syntax.Term.TheOpen as layer
use Rattle.asl_term.proofs.Terms.{fold_num, fold_str, fold_var, fold_lit, fold_list, fold_op}
use Rattle.asl_unify.specs.inner.Costs.{weight, weight_step}
use Rattle.asl_unify.specs.Puts.{nil, cons, cons_list, merged, put, put_step}
use Rattle.asl_unify.proofs.General.{put-lit, put-op}
use Rattle.asl_unify.proofs.Laws.{put-var}
use Rattle.asl_unify.proofs.Puts.{put-nil, put-list, list_of-made}
use Rattle.asl_parser_tree.specs.Leaves.{variable}
use Rattle.asl_lint_laws.specs.Fresh.{late, TermsBelow, LiteralBelow}
use Rattle.asl_lint.specs.Instances.{AreMerged}
use Rattle.asl_lint_laws.specs.Agendas.{IsMerged}

pub record Good (t : Term) : Type 0 where
  pub below : weight (late 1) t ≡ 0
  pub merged : put term.Var t ≡ t

abbrev pub AllGood : List Term → Type 0
AllGood = AllByRecursion Good

pub record GoodLit (l : LiteralOf Term) : Type 0 where
  pub args : AllGood l.args
  pub annots : AllGood l.annots

pub terms_below : (ts : List Term) → AllGood ts → TermsBelow 1 ts
terms_below [] a = refl
terms_below (t ∷ ts) a = let one = a.0.below in let more = terms_below ts a.1 in omega (arith, one, more)

pub terms_merged : (ts : List Term) → AllGood ts → AreMerged ts
terms_merged [] a = refl
terms_merged (t ∷ ts) a = let one = a.0.merged in let more = terms_merged ts a.1 in (λ i. one i ∷ more i)

pub lit_below : (l : LiteralOf Term) → GoodLit l → LiteralBelow 1 l
lit_below l g = let one = terms_below l.args g.args in let two = terms_below l.annots g.annots in omega (arith, one, two)

pub lit_merged : (l : LiteralOf Term) → GoodLit l → IsMerged l
lit_merged l g = record { args = terms_merged l.args g.args; annots = terms_merged l.annots g.annots }

-- ---- at each variant

pub good_num : (n : ℤ) → Good (term.Num n)
good_num n = record { below = fold_num ℕ (weight_step (late 1)) n; merged = fold_num Term (put_step term.Var) n }

pub good_str : (s : List ℕ) → Good (term.Str s)
good_str s = record { below = fold_str ℕ (weight_step (late 1)) s; merged = fold_str Term (put_step term.Var) s }

pub good_variable : (name : List ℕ) → Good (variable name)
good_variable name = record {
  below = fold_var ℕ (weight_step (late 1)) (record { name = name; number = 0 });
  merged = put-var term.Var (record { name = name; number = 0 });
}

pub good_lit : (l : LiteralOf Term) → GoodLit l → Good (term.Lit l)
good_lit l g =
    let b = lit_below l g in
    let m = lit_merged l g in
    let args = m.args in
    let annots = m.annots in
    record {
      below = fold_lit ℕ (weight_step (late 1)) l ∙ b;
      merged = put-lit term.Var l ∙ (λ i. term.Lit (record l { args = args i; annots = annots i }));
    }

pub good_op : (a : ArithOf Term) → Good a.left → Good a.right → Good (term.Op a)
good_op a l r =
    let one = l.below in
    let two = r.below in
    let left = l.merged in
    let right = r.merged in
    record {
      below = fold_op ℕ (weight_step (late 1)) a ∙ omega (arith, one, two);
      merged = put-op term.Var a ∙ (λ i. term.Op (record a { left = left i; right = right i }));
    }

-- ---- lists

-- a list ends with nothing or with a variable, which has items before it
pub data EndsWell : List Term → Option Term → Type 0 where
  closed : {ts : List Term} → EndsWell ts None
  open_end : {t : Term} {ts : List Term} {name : List ℕ} → EndsWell (t ∷ ts) (Some (variable name))

list_at : (x : Term) (l : ListingOf Term) → cons x (term.List l) ≡ term.List (record { items = x ∷ l.items; tail = l.tail })
list_at x l = ap (cons_list x (term.List l)) (list_of-made (layer.List l))

merged_nil : (xs : List Term) → merged xs nil ≡ term.List (record { items = xs; tail = None })
merged_nil [] = refl
merged_nil (x ∷ xs) = ap (cons x) (merged_nil xs) ∙ list_at x (record { items = xs; tail = None })

merged_var : (x : Term) (xs : List Term) (name : List ℕ) → merged (x ∷ xs) (variable name) ≡ term.List (record { items = x ∷ xs; tail = Some (variable name) })
merged_var x [] name = ap (cons_list x (variable name)) (list_of-made (layer.Var (record { name = name; number = 0 })))
merged_var x (y ∷ ys) name = ap (cons x) (merged_var y ys name) ∙ list_at x (record { items = y ∷ ys; tail = Some (variable name) })

pub good_list : (items : List Term) (tail : Option Term) → AllGood items → EndsWell items tail → Good (term.List (record { items = items; tail = tail }))
good_list items tail g (closed {ts = ts}) =
    let b = terms_below ts g in
    let m = terms_merged ts g in
    record {
      below = fold_list ℕ (weight_step (late 1)) (record { items = ts; tail = None }) ∙ omega (arith, b);
      merged = put-list term.Var (record { items = ts; tail = None }) ∙ (λ i. merged (m i) (put-nil term.Var i)) ∙ merged_nil ts;
    }
good_list items tail g (open_end {t = t} {ts = ts} {name = name}) =
    let b = terms_below (t ∷ ts) g in
    let m = terms_merged (t ∷ ts) g in
    let v = good_variable name in
    let vb = v.below in
    let vm = v.merged in
    record {
      below = fold_list ℕ (weight_step (late 1)) (record { items = t ∷ ts; tail = Some (variable name) }) ∙ omega (arith, b, vb);
      merged = put-list term.Var (record { items = t ∷ ts; tail = Some (variable name) }) ∙ (λ i. merged (m i) (vm i)) ∙ merged_var t ts name;
    }
