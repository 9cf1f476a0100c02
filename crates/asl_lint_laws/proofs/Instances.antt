-- What is made of an instance of a trigger is an instance of it.
use Rattle.std.proofs.Common.{◌≡◌, eqb, Bool, true, false, ◌&&◌, List, [], ◌∷◌, map, length, Ok, sym, ap, ◌∙◌, refl}
use Rattle.std.proofs.lemmas.Bool.{eq-eqb}
use Rattle.std.proofs.lemmas.List.{length-map}
use Rattle.std.proofs.lemmas.Slice.Eq.{bytes_eq-Decides}
use Rattle.std.specs.Str.{bytes_eq}
use Rattle.asl_term.specs.declared.syntax.Var.{Var}
use Rattle.asl_term.specs.declared.syntax.LiteralOf.{LiteralOf}
use Rattle.asl_term.specs.declared.syntax.Term.{Term}
use Rattle.asl_term.specs.declared.syntax.Term.TheVariants as term
use Rattle.asl_unify.specs.Puts.{put}
use Rattle.asl_unify.specs.Compare.{same_sign, same_frame}
use Rattle.asl_unify.specs.Renamed.{with_vars}
use Rattle.asl_unify.specs.Settling.{settle_literal}
use Rattle.asl_unify.proofs.Puts.{put-put}
use Rattle.asl_unify.proofs.Laws.{flat-var, flat-put}
use Rattle.asl_lint.specs.Instances.{IsInstance, IsCovered, AreMerged}
use Rattle.asl_lint.proofs.Becoming.{Values}
use Rattle.asl_lint_laws.specs.Written.{AreWritten}
use Rattle.asl_lint_laws.specs.Stays.{PutStays, VariedStays, SettledStays, VariedStaysMerged, SettledStaysMerged}
use Rattle.asl_lint_laws.proofs.Varied.{put-vars, merged_varied}
use Rattle.asl_lint_laws.proofs.Flattens.{merged_settled}
use Rattle.asl_lint_laws.proofs.Settling.{settled_by}
use Rattle.asl_lint_laws.proofs.Settles.{all_come, settled_parts}

-- ---- frames

sign_same : (a b : Bool) → a ≡ b → same_sign a b ≡ true
sign_same true b e = sym e
sign_same false true e = cc
sign_same false false e = refl

both_true : (a b : Bool) → a ≡ true → b ≡ true → (a && b) ≡ true
both_true a b e d = cc

-- an instance has the frame of the trigger
pub frame_of : (h g : LiteralOf Term) → IsInstance h g → same_frame h g ≡ true
frame_of h g i =
    both_true (same_sign h.neg g.neg && bytes_eq h.functor g.functor) _ (both_true (same_sign h.neg g.neg) _ (sign_same h.neg g.neg i.sign)
    ((bytes_eq-Decides h.functor g.functor).1 i.functor)) (eq-eqb _ _ (sym (length-map h.args (put i.values)) ∙ ap length i.args))

-- ---- values

all_same : (f k : Term → Term) → ((t : Term) → f t ≡ k t) → (ts : List Term) → map f ts ≡ map k ts
all_same f k e [] = refl
all_same f k e (t ∷ ts) = let one = e t in let more = all_same f k e ts in (λ i. one i ∷ more i)

map_twice : (f k : Term → Term) (ts : List Term) → map f (map k ts) ≡ map (λ t. f (k t)) ts
map_twice f k [] = refl
map_twice f k (t ∷ ts) = ap (λ us. f (k t) ∷ us) (map_twice f k ts)

-- terms put into what values make of a list
put_values : (k v : Var → Term) (hs gs : List Term) → map (put v) hs ≡ gs → map (put (λ x. put k (v x))) hs ≡ map (put k) gs
put_values k v hs gs e =
    all_same (put (λ x. put k (v x))) (λ t. put k (put v t)) (λ t. sym (put-put k v t)) hs
    ∙ sym (map_twice (put k) (put v) hs) ∙ ap (map (put k)) e

-- values without lists that end in lists
pub values_of : (h g : LiteralOf Term) → IsInstance h g → Values h.args g.args
values_of h g i = record {
  values = λ x. put term.Var (i.values x);
  flat = λ x. flat-put term.Var flat-var (i.values x);
  same = put_values term.Var i.values h.args g.args i.args;
}

-- ---- what is made of an instance

pub instance_put : PutStays
instance_put k h g i = record {
  sign = i.sign;
  functor = i.functor;
  values = λ x. put k (i.values x);
  args = put_values k i.values h.args g.args i.args;
}

-- other variables are terms put in place of variables, where lists are merged
varied_put : (f : Var → Var) (ts : List Term) → AreMerged ts → map (put (λ x. term.Var (f x))) ts ≡ map (with_vars f) ts
varied_put f ts m =
    all_same (put (λ x. term.Var (f x))) (λ t. put term.Var (with_vars f t)) (λ t. sym (put-vars term.Var f t)) ts
    ∙ sym (map_twice (put term.Var) (with_vars f) ts) ∙ merged_varied f ts m

pub instance_varied : VariedStays
instance_varied f h g m i = record {
  sign = i.sign;
  functor = i.functor;
  values = λ x. put (λ y. term.Var (f y)) (i.values x);
  args = put_values (λ y. term.Var (f y)) i.values h.args g.args i.args ∙ varied_put f g.args m;
}

pub varied_merged : VariedStaysMerged
varied_merged f g m = merged_varied f g.args m

pub settled_merged : SettledStaysMerged
settled_merged g m merged e = let s = settled_parts g m e in merged_settled g.args m.args s.args merged

pub instance_settled : SettledStays
instance_settled h g m written merged i e =
    let s = settled_parts g m e in record {
      sign = i.sign ∙ sym s.neg;
      functor = i.functor ∙ sym s.functor;
      values = settled_by i.values;
      args = all_come i.values h.args written g.args m.args i.args s.args ∙ merged_settled g.args m.args s.args merged;
    }

-- with other annotations: an instance says nothing of them
pub instance_annots : (h g : LiteralOf Term) (annots : List Term) → IsInstance h g → IsInstance h (record g { annots = annots })
instance_annots h g annots i = record { sign = i.sign; functor = i.functor; values = i.values; args = i.args }
