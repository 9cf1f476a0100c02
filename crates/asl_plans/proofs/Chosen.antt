-- The relevant plans are chosen among the places of their sign, kind and frame.
use Rattle.std.proofs.Common.{◌≡◌, ℕ, zero, suc, ◌+◌, ◌&&◌, eqb, Bool, true, false, List, [], ◌∷◌, ◌++◌, map, length, drop, Option, Some, None, cond, refl, ap, sym, ◌∙◌, append_assoc, arith}
use Rattle.std.specs.Prelude.{◌==◌, option_to_list}
use Rattle.std.specs.List.{slice_get}
use Rattle.std.specs.Str.{bytes_eq}
use Rattle.std.proofs.lemmas.Bool.{false≢true, eqb-true, eq-eqb}
use Rattle.std.proofs.lemmas.List.{length-map, append-nil}
use Rattle.std.proofs.lemmas.Slice.Eq.{bytes_eq-Decides}
use Rattle.asl_term.specs.declared.syntax.LiteralOf.{LiteralOf}
use Rattle.asl_term.specs.declared.syntax.Term.{Term}
use Rattle.asl_term.specs.declared.syntax.Trigger.{Trigger}
use Rattle.asl_plans.specs.declared.entry.OwnedPlan.{OwnedPlan}
use Rattle.asl_unify.specs.declared.subst.Pair.{Pair}
use Rattle.asl_unify.specs.Compare.{same_sign, same_frame, asks}
use Rattle.asl_unify.specs.Unified.{unified}
use Rattle.asl_unify.specs.Renamed.{renamed_literal}
use Rattle.asl_unify.specs.Matches.{matches, on_unified, annots}
use Rattle.asl_index_tables.specs.declared.frames.Frames.{Frames}
use Rattle.asl_index_tables.specs.Frames.{has_frame, filed}
use Rattle.asl_index_tables.specs.Slots.{places}
use Rattle.asl_term.specs.declared.syntax.Kind.{Kind}
use Rattle.asl_term.specs.declared.syntax.Kind.TheVariants as kind
use Rattle.asl_plans.specs.Plans.{alike, first_way, kept, relevant_from, same_kind, ways}
use Rattle.asl_plans.specs.FiledPlaces.{AreOf, has_trigger, way_of, way_at, chosen}
use Rattle.asl_plans.specs.declared.library.Choice.{Choice}

sign_same : (a b : Bool) → same_sign a b ≡ true → a ≡ b
sign_same true b e = sym e
sign_same false true e = e
sign_same false false e = refl

sign_self : (a : Bool) → same_sign a a ≡ true
sign_self true = refl
sign_self false = refl

three : (a b c : Bool) → (a && b && c) ≡ true → (a ≡ true) × (b ≡ true) × (c ≡ true)
three true true true e = (refl, refl, refl)
three true true false e = absurd (false≢true e)
three true false c e = absurd (false≢true e)
three false b c e = absurd (false≢true e)

all_three : (a b c : Bool) → a ≡ true → b ≡ true → c ≡ true → (a && b && c) ≡ true
all_three true true c x y z = z
all_three true false c x y z = absurd (false≢true y)
all_three false b c x y z = absurd (false≢true x)

-- the frame of a renamed trigger is that of the event only where the trigger has the event's frame
has_its_frame : (n : ℕ) (l m : LiteralOf Term) → same_frame (renamed_literal n l) m ≡ true → has_frame m.neg m.functor (length m.args) l ≡ true
has_its_frame n l m e =
    let r = renamed_literal n l in
    let t = three (same_sign r.neg m.neg) (bytes_eq r.functor m.functor) (eqb (length r.args) (length m.args)) e in
    let long = eqb-true (length r.args) (length m.args) t.2 in
    let signs = sign_same l.neg m.neg t.0 in
    let names = (bytes_eq-Decides l.functor m.functor).0 t.1 in
    all_three (same_sign m.neg l.neg) (bytes_eq m.functor l.functor) (length m.args == length l.args)
    (ap (λ s. same_sign m.neg s) signs ∙ sign_self m.neg)
    ((bytes_eq-Decides m.functor l.functor).1 (sym names))
    (eq-eqb (length m.args) (length l.args) (sym long ∙ length-map l.args _))

sign_turned : (a b : Bool) → same_sign a b ≡ same_sign b a
sign_turned true true = refl
sign_turned true false = refl
sign_turned false true = refl
sign_turned false false = refl

kind_turned : (a b : Kind) → same_kind a b ≡ same_kind b a
kind_turned kind.Belief kind.Belief = refl
kind_turned kind.Belief kind.Achieve = refl
kind_turned kind.Belief kind.Test = refl
kind_turned kind.Achieve kind.Belief = refl
kind_turned kind.Achieve kind.Achieve = refl
kind_turned kind.Achieve kind.Test = refl
kind_turned kind.Test kind.Belief = refl
kind_turned kind.Test kind.Achieve = refl
kind_turned kind.Test kind.Test = refl

two : (a b : Bool) → (a && b) ≡ true → (a ≡ true) × (b ≡ true)
two true b e = (refl, e)
two false b e = absurd (false≢true e)

-- a trigger of another sign, kind or frame has no way
pub no_way : (n : ℕ) (p : Trigger) (t : Trigger) → has_trigger t.add t.kind t.lit.neg t.lit.functor (length t.lit.args) p ≡ false → first_way n p t ≡ None
no_way n p t e = go (alike p t) refl (same_frame (renamed_literal n p.lit) t.lit) refl where
  go : (a : Bool) → alike p t ≡ a → (s : Bool) → same_frame (renamed_literal n p.lit) t.lit ≡ s
      → slice_get (cond a (matches (renamed_literal n p.lit) t.lit []) []) 0 ≡ None
  go true a true u =
      let both = two (same_sign p.add t.add) (same_kind p.kind t.kind) a in
      absurd (false≢true (sym e ∙ all_three (same_sign t.add p.add) (same_kind t.kind p.kind) (has_frame t.lit.neg t.lit.functor (length t.lit.args) p.lit)
      (sign_turned t.add p.add ∙ both.0) (kind_turned t.kind p.kind ∙ both.1) (has_its_frame n p.lit t.lit u)))
  go true a false u =
      ap (λ z. slice_get (cond z (on_unified (annots (renamed_literal n p.lit).annots t.lit.annots)
      (unified [] (asks (renamed_literal n p.lit).args t.lit.args []))) []) 0) u
  go false a s u = refl

-- one of the same has those in which its literal matches
pub filed_ways : (n : ℕ) (p t : Trigger) → has_trigger t.add t.kind t.lit.neg t.lit.functor (length t.lit.args) p ≡ true
    → ways n p t ≡ matches (renamed_literal n p.lit) t.lit []
filed_ways n p t e =
    let both = three (same_sign t.add p.add) (same_kind t.kind p.kind) (has_frame t.lit.neg t.lit.functor (length t.lit.args) p.lit) e in
    ap (λ b. cond (b && same_kind p.kind t.kind) (matches (renamed_literal n p.lit) t.lit []) []) (sign_turned p.add t.add ∙ both.0)
    ∙ ap (λ b. cond b (matches (renamed_literal n p.lit) t.lit []) []) (kind_turned p.kind t.kind ∙ both.1)

module _ (n : ℕ) (t : Trigger) where
  abbrev own : OwnedPlan → Bool
  own e = has_trigger t.add t.kind t.lit.neg t.lit.functor (length t.lit.args) e.plan.trigger

  pub chosen_from : (way : ℕ → Option (List Pair)) (i : ℕ) (lib : List OwnedPlan)
      → ((j : ℕ) (e : OwnedPlan) → slice_get lib j ≡ Some e → way (i + j) ≡ first_way n e.plan.trigger t)
      → relevant_from i lib n t ≡ chosen way (places own i (map Some lib))
  chosen_from way i [] h = refl
  chosen_from way i (e ∷ more) h =
      let next : i + 1 ≡ suc i = omega arith in
      let here : i + 0 ≡ i = omega arith in
      let rest = chosen_from way (suc i) more (λ j q is. let step : suc i + j ≡ i + suc j = omega arith in ap way step ∙ h (suc j) q is) in
      ap (λ k. kept i (first_way n e.plan.trigger t) (relevant_from k more n t)) next
      ∙ ap (kept i (first_way n e.plan.trigger t)) rest
      ∙ go (own e) refl (ap way (sym here) ∙ h 0 e refl)
    where
      go : (b : Bool) → own e ≡ b → way i ≡ first_way n e.plan.trigger t
          → kept i (first_way n e.plan.trigger t) (chosen way (places own (suc i) (map Some more)))
          ≡ chosen way (cond (own e) (i ∷ places own (suc i) (map Some more)) (places own (suc i) (map Some more)))
      go true u w =
          ap (λ z. kept i z (chosen way (places own (suc i) (map Some more)))) (sym w)
          ∙ sym (ap (λ z. chosen way (cond z (i ∷ places own (suc i) (map Some more)) (places own (suc i) (map Some more)))) u)
      go false u w =
          ap (λ z. kept i z (chosen way (places own (suc i) (map Some more)))) (no_way n e.plan.trigger t u)
          ∙ sym (ap (λ z. chosen way (cond z (i ∷ places own (suc i) (map Some more)) (places own (suc i) (map Some more)))) u)

  pub all_chosen : (lib : List OwnedPlan) (frames : Frames) → AreOf t.add t.kind lib frames
      → relevant_from 0 lib n t ≡ chosen (way_at lib n t) (filed frames t.lit.neg t.lit.functor (length t.lit.args))
  all_chosen lib frames a =
      chosen_from (way_at lib n t) 0 lib
      (λ j e is. let same : 0 + j ≡ j = omega arith in ap (way_at lib n t) same ∙ ap (way_of n t) is)
      ∙ ap (chosen (way_at lib n t)) (sym (a t.lit.neg t.lit.functor (length t.lit.args)))

-- the places from one on
chosen_append : (way : ℕ → Option (List Pair)) (xs ys : List ℕ) → chosen way (xs ++ ys) ≡ chosen way xs ++ chosen way ys
chosen_append way [] ys = refl
chosen_append way (k ∷ xs) ys = ap (kept k (way k)) (chosen_append way xs ys) ∙ go (way k) where
  go : (w : Option (List Pair)) → kept k w (chosen way xs ++ chosen way ys) ≡ kept k w (chosen way xs) ++ chosen way ys
  go None = refl
  go (Some s) = refl

drop_step : (xs : List ℕ) (k : ℕ) → drop k xs ≡ option_to_list (slice_get xs k) ++ drop (suc k) xs
drop_step [] zero = refl
drop_step [] (suc k) = refl
drop_step (x ∷ xs) zero = refl
drop_step (x ∷ xs) (suc k) = drop_step xs k

-- one more place is looked at
pub chosen_next : (way : ℕ → Option (List Pair)) (r new all : List Choice) (xs : List ℕ) (k : ℕ) → r ++ chosen way (drop k xs) ≡ all
    → new ≡ r ++ chosen way (option_to_list (slice_get xs k)) → new ++ chosen way (drop (k + 1) xs) ≡ all
chosen_next way r new all xs k h e =
    let next : k + 1 ≡ suc k = omega arith in
    ap (λ z. z ++ chosen way (drop (k + 1) xs)) e
    ∙ ap (λ m. (r ++ chosen way (option_to_list (slice_get xs k))) ++ chosen way (drop m xs)) next
    ∙ append_assoc r (chosen way (option_to_list (slice_get xs k))) (chosen way (drop (suc k) xs))
    ∙ ap (λ z. r ++ z) (sym (chosen_append way (option_to_list (slice_get xs k)) (drop (suc k) xs)) ∙ ap (chosen way) (sym (drop_step xs k)))
    ∙ h

-- a place without a plan, or with one that is not relevant, gives nothing
pub none_kept : (r : List Choice) (k : ℕ) (w : Option (List Pair)) → w ≡ None → r ≡ r ++ kept k w []
none_kept r k w e = sym (ap (λ z. r ++ kept k z []) e ∙ append-nil r)

pub none_chosen : (r : List Choice) (way : ℕ → Option (List Pair)) (o : Option ℕ) → o ≡ None → r ≡ r ++ chosen way (option_to_list o)
none_chosen r way o e = sym (ap (λ z. r ++ chosen way (option_to_list z)) e ∙ append-nil r)
