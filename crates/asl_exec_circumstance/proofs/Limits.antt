-- Which row applies where the popped trigger is within the limits.
use Rattle.std.proofs.Common.{◌≡◌, ◌<◌, List, ◌∷◌, [], length, drop, Some, true, ap, subst, arith}
use Rattle.std.specs.Prelude.{cond}
use Rattle.asl_term.specs.declared.syntax.Trigger.{Trigger}
use Rattle.asl_intend.specs.declared.entry.Means.{Means}
use Rattle.asl_intend.specs.declared.agenda.Error.TheVariants as error
use Rattle.asl_intend.specs.Stacks.{trigger_at, is_bounded_trigger}
use Rattle.asl_exec_circumstance.specs.declared.rows.Row.TheVariants as row
use Rattle.asl_exec_circumstance.specs.Circumstance.{Surroundings, Circumstance, failed}
use Rattle.asl_exec_circumstance.specs.Emptied.{emptied, popped}

pub within : (k : Surroundings) (p : Circumstance) (cur : List Means) (t : Trigger) → 1 < length cur → Some t ≡ trigger_at cur 0 → is_bounded_trigger t ≡ true
    → emptied k p cur ≡ popped k p t.lit (drop 1 cur)
within k p [] t long e b = absurd (omega arith)
within k p (m ∷ []) t long e b = absurd (omega arith)
within k p (m ∷ n ∷ below) t long e b =
    let same : t ≡ m.trigger = cc in
    subst (λ (s : Trigger). cond (is_bounded_trigger s) (popped k p s.lit (n ∷ below)) (failed k row.ClrLimit error.TermLimit p (n ∷ below))
    ≡ popped k p t.lit (n ∷ below)) same (ap (λ q. cond q (popped k p t.lit (n ∷ below)) (failed k row.ClrLimit error.TermLimit p (n ∷ below))) b)
