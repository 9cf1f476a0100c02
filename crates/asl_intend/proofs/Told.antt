-- What is told of a trigger, with what is put into it.
use Rattle.std.proofs.Common.{◌≡◌, List, [], ◌∷◌, ◌++◌, map, drop, refl, sym, ap, false}
use Rattle.std.proofs.lemmas.List.{length-map}
use Rattle.asl_term.specs.declared.syntax.Term.{Term}
use Rattle.asl_term.specs.declared.syntax.Trigger.{Trigger}
use Rattle.asl_term.specs.declared.syntax.Var.{Var}
use Rattle.asl_unify.specs.Applied.{put_trigger}
use Rattle.asl_unify.specs.Puts.{put}
use Rattle.asl_unify.specs.Turns.{value_in}
use Rattle.asl_unify.specs.declared.subst.Pair.{Pair}
use Rattle.asl_intend.specs.declared.entry.StackEntry.{StackEntry}
use Rattle.asl_intend.specs.Entries.{seen}
use Rattle.asl_intend.specs.EventTriggers.{told, HasFrameOf, Stays}

last_stays : (h : Var → Term) (error : Term) → Stays error → (ts : List Term) → map (put h) (ts ++ error ∷ []) ≡ map (put h) ts ++ error ∷ []
last_stays h error s [] = ap (λ z. z ∷ []) (s h)
last_stays h error s (t ∷ ts) = ap (λ l. put h t ∷ l) (last_stays h error s ts)

pub told_put : (h : Var → Term) (error : Term) (t : Trigger) → Stays error → put_trigger h (told error t) ≡ told error (put_trigger h t)
told_put h error t s = λ i. record {
  add = false;
  kind = t.kind;
  lit = record { neg = t.lit.neg; functor = t.lit.functor; args = map (put h) t.lit.args; annots = last_stays h error s t.lit.annots i };
}

-- what is put into a trigger leaves its frame
pub frame_of : (log : List (List Pair)) (e : StackEntry) → HasFrameOf e.trigger.lit (seen log e).trigger.lit
frame_of log e = (refl, refl, sym (length-map e.trigger.lit.args (put (value_in e.own (drop e.since log)))))
