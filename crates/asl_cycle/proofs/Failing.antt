-- What becomes of a stack that fails, and of one whose top is done.
use Rattle.std.proofs.Common.{◌≡◌, ℕ, zero, suc, ◌+◌, ◌≤◌, Bool, true, false, cond, if◌then◌else◌, List, [], ◌∷◌, ◌++◌, length, map, Option, None, Some, refl, arith}
use Rattle.asl_plans.specs.declared.entry.OwnedPlan.{OwnedPlan}
use Rattle.asl_unify.specs.declared.subst.Pair.{Pair}
use Rattle.asl_intend.specs.declared.entry.Means.{Means}
use Rattle.asl_intend.specs.declared.agenda.Agenda.{Agenda}
use Rattle.asl_intend.specs.declared.agenda.Error.{Error}
use Rattle.asl_intend.specs.declared.agenda.Error.TheVariants as error
use Rattle.asl_intend.specs.Means.{applied_means}
use Rattle.asl_intend.specs.Stacks.{head, has_head, without_head, is_bounded, is_bounded_trigger}
use Rattle.asl_fail.specs.Fails.{fails, is_raised, failure_event, raised, popped_one, dropped}
use Rattle.asl_exec_circumstance.specs.declared.rows.Row.TheVariants as row
use Rattle.asl_exec_circumstance.specs.declared.went.Went.TheVariants as went
use Rattle.asl_exec_circumstance.specs.Circumstance.{Surroundings, Circumstance, Made, made, failed}
use Rattle.asl_exec.specs.Clear as clearing
use Rattle.asl_exec_circumstance.specs.Emptied as emptying
use Rattle.asl_exec_circumstance.specs.Emptied.{answer, bound_by}
use Rattle.asl_exec.specs.Clear.{clear}
use Rattle.asl_cycle.specs.declared.rows.Sofar.{Sofar}
use Rattle.asl_cycle.specs.Steps.{of_made, written}
use Rattle.asl_cycle.specs.Cycle as spec
use Rattle.asl_cycle.specs.Intentions.{Intention, held, one_or_none, Becomes, Failed, Over, GoesOn, Clears}
use Rattle.asl_cycle.proofs.Sums.{posted_held, ready_held, becomes, becomes_as}

-- ---- failing

pub record Fell (plans : List OwnedPlan) (n : ℕ) (e : Error) (a after : Agenda) (s : List Means) : Type 0 where
  pub is : Option Intention
  pub fate : Failed plans n e s is
  pub sums : (f : Intention → ℕ) → held after f ≡ held a f + one_or_none f is

module _ (plans : List OwnedPlan) (n : ℕ) (e : Error) (a : Agenda) where
  fell_raised : (m : Means) (below : List Means) → is_raised plans n e m.trigger ≡ true → Fell plans n e a (raised e a m below).agenda (m ∷ below)
  fell_raised m below h = record {
    is = Some (Intention.Waits (failure_event e m.trigger below));
    fate = Failed.Raises m below h;
    sums = λ f. posted_held f a (failure_event e m.trigger below);
  }

  fell_last : (m : Means) (b : Bool) → is_raised plans n e m.trigger ≡ b → Fell plans n e a (if b then raised e a m [] else dropped a).agenda (m ∷ [])
  fell_last m true h = fell_raised m [] h
  fell_last m false h = record { is = None; fate = Failed.Pops m [] None h Failed.Falls; sums = λ f. omega arith }

  fell_more : (m c : Means) (below : List Means) (b : Bool) → is_raised plans n e m.trigger ≡ b → Fell plans n e a (fails plans n e a (c ∷ below)).agenda (c ∷ below)
      → Fell plans n e a (if b then raised e a m (c ∷ below) else popped_one (fails plans n e a (c ∷ below))).agenda (m ∷ c ∷ below)
  fell_more m c below true h g = fell_raised m (c ∷ below) h
  fell_more m c below false h g = record { is = g.is; fate = Failed.Pops m (c ∷ below) g.is h g.fate; sums = g.sums }

  pub fell : (s : List Means) → Fell plans n e a (fails plans n e a s).agenda s
  fell [] = record { is = None; fate = Failed.Falls; sums = λ f. omega arith }
  fell (m ∷ []) = fell_last m (is_raised plans n e m.trigger) refl
  fell (m ∷ c ∷ below) = fell_more m c below (is_raised plans n e m.trigger) refl (fell (c ∷ below))

-- as a fate of what was taken out
pub fell_as : (Fate : Option Intention → Type 0) (plans : List OwnedPlan) (n : ℕ) (e : Error) (a : Agenda) (s : List Means)
    → ((x : Option Intention) → Failed plans n e s x → Fate x) → Becomes Fate (held a) (held (fails plans n e a s).agenda)
fell_as Fate plans n e a s h =
    let g = fell plans n e a s in becomes Fate g.is (held a) (held (fails plans n e a s).agenda) (h g.is g.fate) g.sums

-- ---- after a formula

length_map : {A B : Type 0} (f : A → B) (xs : List A) → length (map f xs) ≡ length xs
length_map f [] = refl
length_map f (x ∷ xs) = let h = length_map f xs in omega arith

pub length_popped : (s : Option (List Pair)) (c : Means) (below : List Means) → length (without_head (bound_by s (c ∷ below))) ≡ length (c ∷ below)
length_popped None c below = refl
length_popped (Some s) c below = let h = length_map (applied_means s) below in omega arith

module _ (k : Surroundings) where
  -- what is after the row of a stack that is cleared
  abbrev after_clear : ℕ → Sofar → Made → spec.Ran
  after_clear n s x = let w = of_made x in spec.goes_on k (spec.from_clr k n) w.parts (written s w) w.next

  abbrev Cleared : Circumstance → List Means → spec.Ran → Type 0
  Cleared p cur r = Becomes (Clears k.plans p.number cur) (held p.agenda) (held r.parts.agenda)

  -- so far as so many rows are enough
  abbrev Enough : ℕ → Type 0
  Enough n = (p : Circumstance) (s : Sofar) (cur : List Means) → length cur ≤ n → Cleared p cur (spec.from_clr k (suc n) p s cur)

  limited : (n : ℕ) (p : Circumstance) (s : Sofar) (m c : Means) (below : List Means) → has_head (m ∷ c ∷ below) ≡ false
      → Cleared p (m ∷ c ∷ below) (after_clear n s (failed k row.ClrLimit error.TermLimit p (c ∷ below)))
  limited n p s m c below none =
      fell_as (Clears k.plans p.number (m ∷ c ∷ below)) k.plans p.number error.TermLimit p.agenda (c ∷ below)
      (λ x h. Clears.Ends (m ∷ c ∷ below) x none (Over.Limit m c below x h))

  goes : (n : ℕ) → Enough n → (p : Circumstance) (s : Sofar) (m c : Means) (below : List Means) (b : Bool) → has_head (m ∷ c ∷ below) ≡ false
      → length (c ∷ below) ≤ n
      → Cleared p (m ∷ c ∷ below) (after_clear (suc n) s (cond b (emptying.done_below p m.trigger.lit (c ∷ below)) (failed k row.ClrLimit error.TermLimit p (c ∷ below))))
  goes n h p s m c below false none le = limited (suc n) p s m c below none
  goes n h p s m c below true none le =
      let u = answer m.trigger.lit (head (c ∷ below)) in
      let t = without_head (bound_by u (c ∷ below)) in
      let w = of_made (made p t (went.Row row.ClrInt2)) in
      let same = length_popped u c below in
      let r = spec.from_clr k (suc n) p (written s w) t in
      becomes_as (Clears k.plans p.number t) (Clears k.plans p.number (m ∷ c ∷ below)) (held p.agenda) (held p.agenda) (held r.parts.agenda) []
      (λ x g. Clears.Goes (m ∷ c ∷ below) t x none (GoesOn.Pops m c below u) g) (λ f. omega arith) (h p (written s w) t (omega arith))

  two : (n : ℕ) → Enough n → (p : Circumstance) (s : Sofar) (m c : Means) (below : List Means) (b : Bool) → has_head (m ∷ c ∷ below) ≡ false
      → length (c ∷ below) ≤ n
      → Cleared p (m ∷ c ∷ below) (after_clear (suc n) s (cond b (emptying.popped k p m.trigger.lit (c ∷ below)) (failed k row.ClrLimit error.TermLimit p (c ∷ below))))
  two n h p s m c below false none le = limited (suc n) p s m c below none
  two n h p s m c below true none le = goes n h p s m c below (is_bounded (head (c ∷ below))) none le

  turn : (n : ℕ) (p : Circumstance) (s : Sofar) (cur : List Means) → has_head cur ≡ true → Cleared p cur (after_clear n s (clearing.waits p cur))
  turn n p s cur h =
      becomes (Clears k.plans p.number cur) (Some (Intention.Runs cur)) (held p.agenda) (held (record p.agenda { running = p.agenda.running ++ cur ∷ [] }))
      (Clears.Turn cur h) (λ f. let e = ready_held f p.agenda (cur ∷ []) in omega arith)

  over : (n : ℕ) (p : Circumstance) (s : Sofar) (cur : List Means) → has_head cur ≡ false → Over k.plans p.number cur None
      → Becomes (Clears k.plans p.number cur) (held p.agenda) (held p.agenda)
  over n p s cur none h = becomes (Clears k.plans p.number cur) None (held p.agenda) (held p.agenda) (Clears.Ends cur None none h) (λ f. omega arith)

  one_by : (n : ℕ) (p : Circumstance) (s : Sofar) (m : Means) (b : Bool) → has_head (m ∷ []) ≡ b
      → Cleared p (m ∷ []) (after_clear n s (cond b (clearing.waits p (m ∷ [])) (emptying.emptied k p (m ∷ []))))
  one_by n p s m true h = turn n p s (m ∷ []) h
  one_by n p s m false h = over n p s (m ∷ []) h (Over.Last m)

  two_by : (n : ℕ) → Enough n → (p : Circumstance) (s : Sofar) (m c : Means) (below : List Means) (b : Bool) → has_head (m ∷ c ∷ below) ≡ b
      → length (c ∷ below) ≤ n
      → Cleared p (m ∷ c ∷ below) (after_clear (suc n) s (cond b (clearing.waits p (m ∷ c ∷ below)) (emptying.emptied k p (m ∷ c ∷ below))))
  two_by n h p s m c below true e le = turn (suc n) p s (m ∷ c ∷ below) e
  two_by n h p s m c below false e le = two n h p s m c below (is_bounded_trigger m.trigger) e le

  clr : (n : ℕ) → Enough n
  unfolding clear
  clr zero p s [] le = over zero p s [] refl Over.Empty
  clr zero p s (m ∷ below) le = absurd (omega arith)
  clr (suc n) p s [] le = over (suc n) p s [] refl Over.Empty
  clr (suc n) p s (m ∷ []) le = one_by (suc n) p s m (has_head (m ∷ [])) refl
  clr (suc n) p s (m ∷ c ∷ below) le = two_by n (clr n) p s m c below (has_head (m ∷ c ∷ below)) refl (omega arith)

  pub cleared : (p : Circumstance) (s : Sofar) (cur : List Means) → Cleared p cur (spec.clears k p s cur)
  cleared p s cur = clr (length cur) p s cur (omega arith)
