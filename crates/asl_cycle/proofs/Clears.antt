-- One more row of Clr.
use Rattle.std.proofs.Common.{◌≡◌, ℕ, suc, ◌-◌, ◌<◌, List, arith, refl, sym, ◌∙◌, subst}
use Rattle.asl_intend.specs.declared.entry.Means.{Means}
use Rattle.asl_exec_circumstance.specs.Circumstance.{Surroundings, Circumstance}
use Rattle.asl_cycle.specs.declared.rows.Sofar.{Sofar}
use Rattle.asl_cycle.specs.declared.config.After.{After}
use Rattle.asl_cycle.specs.declared.config.After.TheVariants as after
use Rattle.asl_cycle.specs.Steps.{Stepped, Onward, onward, Wrought, clear_step}
use Rattle.asl_cycle.specs.Cycle.{Ran, and_then, goes_on, from_clr}

-- where the row leads to Clr again, the rest is from there on
again : (k : Surroundings) (n : ℕ) (w : Stepped Onward) (q : Circumstance) (s t : Sofar) (cur : List Means) (a : After) → Wrought w q s t (onward cur a) → a ≡ after.Clears → and_then s w (goes_on k (from_clr k n)) ≡ from_clr k n q t cur
again k n w q s t cur a made is =
    let e : w.next ≡ onward cur after.Clears = cc in
    rw (e, ← made.changed, ← made.wrote) refl

pub more : (k : Surroundings) (left : ℕ) (p q : Circumstance) (s t : Sofar) (cur next : List Means) (a : After) (r : Ran) → 0 < left → Wrought (clear_step k p cur) q s t (onward next a) → a ≡ after.Clears → from_clr k (suc left) p s cur ≡ r → from_clr k (suc (left - 1)) q t next ≡ r
more k left p q s t cur next a r some made is e =
    let d : suc (left - 1) ≡ left = omega arith in
    let P : ℕ → Type 0 = λ n. from_clr k n q t next ≡ r in
    subst P (sym d) (sym (again k left (clear_step k p cur) q s t next a made is) ∙ e)
