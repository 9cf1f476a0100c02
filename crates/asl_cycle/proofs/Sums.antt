-- What is counted of agendas.
use Rattle.std.proofs.Common.{◌≡◌, ℕ, ◌+◌, List, [], ◌∷◌, ◌++◌, map, Option, None, refl, ap, arith}
use Rattle.asl_term.specs.declared.syntax.Trigger.{Trigger}
use Rattle.asl_intend.specs.declared.entry.Means.{Means}
use Rattle.asl_intend.specs.declared.agenda.Agenda.{Agenda}
use Rattle.asl_intend.specs.declared.agenda.Event.{Event}
use Rattle.asl_intend.specs.Agendas.{external, external_event}
use Rattle.asl_fail.specs.Fails.{posted}
use Rattle.asl_exec_circumstance.specs.Circumstance.{told}
use Rattle.asl_cycle.specs.Intentions.{Intention, Heap, total, held, one_or_none, begin, Becomes, IsNone}

pub total_append : {A : Type 0} (f : A → ℕ) (xs ys : List A) → total f (xs ++ ys) ≡ total f xs + total f ys
total_append f [] ys = omega arith
total_append f (x ∷ xs) ys = let h = total_append f xs ys in omega arith

pub total_map : {A B : Type 0} (f : B → ℕ) (g : A → B) (xs : List A) → total f (map g xs) ≡ total (λ x. f (g x)) xs
total_map f g [] = refl
total_map f g (x ∷ xs) = ap (λ n. f (g x) + n) (total_map f g xs)

abbrev events : (Intention → ℕ) → List Event → ℕ
events f = total (λ v. f (Intention.Waits v))

-- an event goes last
pub posted_held : (f : Intention → ℕ) (a : Agenda) (v : Event) → held (posted a v) f ≡ held a f + f (Intention.Waits v)
posted_held f a v =
    let e : events f (a.events ++ v ∷ []) ≡ events f a.events + (f (Intention.Waits v) + 0) = total_append (λ w. f (Intention.Waits w)) a.events (v ∷ []) in
    omega (arith, e)

-- external events go last
pub told_held : (f : Intention → ℕ) (a : Agenda) (ts : List Trigger) → held (told a ts) f ≡ held a f + begin f ts
told_held f a ts =
    let e : events f (a.events ++ external ts) ≡ events f a.events + events f (external ts) = total_append (λ w. f (Intention.Waits w)) a.events (external ts) in
    let m : events f (external ts) ≡ begin f ts = total_map (λ w. f (Intention.Waits w)) external_event ts in
    omega (arith, e, m)

abbrev pub runs : (Intention → ℕ) → List (List Means) → ℕ
runs f = total (λ s. f (Intention.Runs s))

-- stacks go to the back
pub ready_held : (f : Intention → ℕ) (a : Agenda) (stacks : List (List Means))
    → held (record a { running = a.running ++ stacks }) f ≡ held a f + runs f stacks
ready_held f a stacks =
    let e : runs f (a.running ++ stacks) ≡ runs f a.running + runs f stacks = total_append (λ s. f (Intention.Runs s)) a.running stacks in
    omega (arith, e)

-- ---- what becomes of what was taken out

pub becomes : (Fate : Option Intention → Type 0) (x : Option Intention) (rest after : Heap) → Fate x
    → ((f : Intention → ℕ) → after f ≡ rest f + one_or_none f x) → Becomes Fate rest after
becomes Fate x rest after h e = record { is = x; fate = h; begun = []; sums = λ f. let g = e f in omega arith }

pub begins : (rest after : Heap) (ts : List Trigger) → ((f : Intention → ℕ) → after f ≡ rest f + begin f ts) → Becomes IsNone rest after
begins rest after ts e = record { is = None; fate = refl; begun = ts; sums = λ f. let g = e f in omega arith }

-- as another fate, where more began before
pub becomes_as : (Fate Other : Option Intention → Type 0) (before rest after : Heap) (ts : List Trigger) → ((x : Option Intention) → Fate x → Other x)
    → ((f : Intention → ℕ) → rest f ≡ before f + begin f ts) → Becomes Fate rest after → Becomes Other before after
becomes_as Fate Other before rest after ts g e b = record {
  is = b.is;
  fate = g b.is b.fate;
  begun = ts ++ b.begun;
  sums = λ f.
      let h = e f in
      let i = b.sums f in
      let j = total_append (λ t. f (Intention.Waits (external_event t))) ts b.begun in
      omega (arith, h, i, j);
}
