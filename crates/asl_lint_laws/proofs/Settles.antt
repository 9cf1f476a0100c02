-- What settling makes of an instance of a trigger, part by part.
use Rattle.std.proofs.Common.{◌≡◌, List, [], ◌∷◌, map, Ok, sym, ap, ◌∙◌}
use Rattle.asl_term.specs.declared.syntax.Var.{Var}
use Rattle.asl_term.specs.declared.syntax.LiteralOf.{LiteralOf}
use Rattle.asl_term.specs.declared.syntax.Term.{Term}
use Rattle.asl_term.specs.declared.syntax.Term.TheVariants as term
use Rattle.asl_unify.specs.Puts.{put}
use Rattle.asl_unify.specs.Settling.{and_then, each, settle, settle_literal}
use Rattle.asl_lint_laws.specs.Written.{AreWritten}
use Rattle.asl_lint_laws.proofs.Settling.{goes, parted, comes, settled_by, settled_values}

settled_come : (v : Var → Term) (hs : List Term) → AreWritten hs → (us : List Term) → each (map settle (map (put v) hs)) ≡ Ok us
    → map (put (settled_by v)) hs ≡ map (put term.Var) us
settled_come v [] a us e = let same : [] ≡ us = cc in ap (map (put term.Var)) same
settled_come v (h ∷ hs) a us e =
    let s = parted (settle (put v h)) (each (map settle (map (put v) hs))) us e in
    let one = comes v (settled_by v) (settled_values v) h a.0.plain s.first s.is_first in
    let more = settled_come v hs a.1 s.more s.are_more in
    (λ i. one i ∷ more i) ∙ ap (map (put term.Var)) (sym s.whole)

-- what values make of terms, settled
pub all_come : (v : Var → Term) (hs : List Term) → AreWritten hs → (gs us : List Term) → map (put v) hs ≡ gs → each (map settle gs) ≡ Ok us
    → map (put (settled_by v)) hs ≡ map (put term.Var) us
all_come v hs a gs us same e = settled_come v hs a us (ap (λ ts. each (map settle ts)) same ∙ e)

-- the settled parts of a literal
pub record SettledParts (l m : LiteralOf Term) : Type 0 where
  pub neg : m.neg ≡ l.neg
  pub functor : m.functor ≡ l.functor
  pub args : each (map settle l.args) ≡ Ok m.args
  pub annots : each (map settle l.annots) ≡ Ok m.annots

pub settled_parts : (l m : LiteralOf Term) → settle_literal l ≡ Ok m → SettledParts l m
settled_parts l m e =
    let xs = goes (each (map settle l.args)) (λ xs. and_then (each (map settle l.annots)) (λ ys. Ok (record { neg = l.neg; functor = l.functor; args = xs; annots = ys }))) m e in
    let ys = goes (each (map settle l.annots)) (λ ys. Ok (record { neg = l.neg; functor = l.functor; args = xs.value; annots = ys })) m xs.rest in
    let n : LiteralOf Term = record { neg = l.neg; functor = l.functor; args = xs.value; annots = ys.value } in
    let same : n ≡ m = cc in
    record {
      neg = ap (λ z. z.neg) (sym same);
      functor = ap (λ z. z.functor) (sym same);
      args = xs.is ∙ ap (λ z. Ok z.args) same;
      annots = ys.is ∙ ap (λ z. Ok z.annots) same;
    }
