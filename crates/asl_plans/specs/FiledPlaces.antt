-- Plans that are filed by their triggers: by sign, kind, and the frame of the literal.
use Rattle.std.specs.Prelude.{◌≡◌, ℕ, Bool, true, false, ◌&&◌, ◌==◌, if◌then◌else◌, List, [], ◌∷◌, ◌++◌, length, map, Option, Some, None}
use Rattle.std.specs.List.{filter, slice_get}
use Rattle.asl_term.specs.declared.syntax.Kind.{Kind}
use Rattle.asl_term.specs.declared.syntax.Kind.TheVariants as kind
use Rattle.asl_term.specs.declared.syntax.LiteralOf.{LiteralOf}
use Rattle.asl_term.specs.declared.syntax.Term.{Term}
use Rattle.asl_term.specs.declared.syntax.ArgOf.{ArgOf}
use Rattle.asl_term.specs.declared.syntax.ArgOf.TheVariants as arg
use Rattle.asl_term.specs.declared.syntax.Expr.{Expr}
use Rattle.asl_term.specs.declared.syntax.Formula.{Formula}
use Rattle.asl_term.specs.declared.syntax.Formula.TheVariants as formula
use Rattle.asl_term.specs.declared.syntax.Trigger.{Trigger}
use Rattle.asl_term.specs.declared.syntax.Plan.{Plan}
use Rattle.asl_unify.specs.Compare.{same_sign}
use Rattle.asl_unify.specs.declared.subst.Pair.{Pair}
use Rattle.asl_index_tables.specs.declared.frames.Frames.{Frames}
use Rattle.asl_index_tables.specs.Frames.{has_frame, filed, without}
use Rattle.asl_index_tables.specs.Slots.{places}
use Rattle.asl_index_tables.specs.Prints.{key_print, mix, mixed, print}
use Rattle.asl_index_tables.specs.Keys.{listed}
use Rattle.asl_index_tables.specs.declared.keys.Keys.{Keys}
use Rattle.asl_plans.specs.Plans.{first_way, kept, same_kind}
use Rattle.asl_plans.specs.Same.{same_plan}
use Rattle.asl_plans.specs.Libraries.{has_plan}
use Rattle.asl_plans.specs.declared.filing.Kinds.{Kinds}
use Rattle.asl_plans.specs.declared.filing.FiledPlaces.{FiledPlaces}
use Rattle.asl_plans.specs.declared.entry.OwnedPlan.{OwnedPlan}
use Rattle.asl_plans.specs.declared.library.Choice.{Choice}

-- what a library is: its plans, each with those who it is from
pub record Held : Type 0 where
  pub plans : List OwnedPlan

abbrev pub of_kind : Kind → Kinds → Frames
of_kind kind.Belief f = f.belief
of_kind kind.Achieve f = f.achieve
of_kind kind.Test f = f.test

abbrev pub frames_of : Bool → Kind → FiledPlaces → Frames
frames_of true k f = of_kind k f.plus
frames_of false k f = of_kind k f.minus

-- whether a trigger is of this sign and kind, and its literal has this frame
abbrev pub has_trigger : Bool → Kind → Bool → List ℕ → ℕ → Trigger → Bool
has_trigger add k neg functor count t = same_sign add t.add && same_kind k t.kind && has_frame neg functor count t.lit

-- the same of a plan, by the frame of a literal
abbrev pub is_filed : Bool → Kind → LiteralOf Term → OwnedPlan → Bool
is_filed add k l e = has_trigger add k l.neg l.functor (length l.args) e.plan.trigger

-- and the plans of which it holds, in order
abbrev pub filed_plans : Bool → Kind → LiteralOf Term → List OwnedPlan → List OwnedPlan
filed_plans add k l = filter (is_filed add k l)

-- among kinds: a place was put last, or taken out, under a kind and the frame of a literal, and all else is as before

abbrev pub IsPutOf : Kind → LiteralOf Term → ℕ → Kinds → Kinds → Type 0
IsPutOf own l place old new = (k : Kind) (neg : Bool) (functor : List ℕ) (count : ℕ) → let before = filed (of_kind k old) neg functor count in
    filed (of_kind k new) neg functor count ≡ if same_kind k own && has_frame neg functor count l then before ++ place ∷ [] else before

abbrev pub IsTakenOf : Kind → LiteralOf Term → ℕ → Kinds → Kinds → Type 0
IsTakenOf own l place old new = (k : Kind) (neg : Bool) (functor : List ℕ) (count : ℕ) → let before = filed (of_kind k old) neg functor count in
    filed (of_kind k new) neg functor count ≡ if same_kind k own && has_frame neg functor count l then without place before else before

abbrev pub IsSameOf : Kinds → Kinds → Type 0
IsSameOf old new = (k : Kind) (neg : Bool) (functor : List ℕ) (count : ℕ) → filed (of_kind k new) neg functor count ≡ filed (of_kind k old) neg functor count

-- the same under a trigger

abbrev pub IsPut : Trigger → ℕ → FiledPlaces → FiledPlaces → Type 0
IsPut t place old new = (add : Bool) (k : Kind) (neg : Bool) (functor : List ℕ) (count : ℕ) → let before = filed (frames_of add k old) neg functor count in
    filed (frames_of add k new) neg functor count ≡ if has_trigger add k neg functor count t then before ++ place ∷ [] else before

abbrev pub IsTaken : Trigger → ℕ → FiledPlaces → FiledPlaces → Type 0
IsTaken t place old new = (add : Bool) (k : Kind) (neg : Bool) (functor : List ℕ) (count : ℕ) → let before = filed (frames_of add k old) neg functor count in
    filed (frames_of add k new) neg functor count ≡ if has_trigger add k neg functor count t then without place before else before

abbrev pub IsSame : FiledPlaces → FiledPlaces → Type 0
IsSame old new = (add : Bool) (k : Kind) (neg : Bool) (functor : List ℕ) (count : ℕ)
    → filed (frames_of add k new) neg functor count ≡ filed (frames_of add k old) neg functor count

-- under each frame stand the plans that are of this sign and kind and have this frame, in order
abbrev pub AreOf : Bool → Kind → List OwnedPlan → Frames → Type 0
AreOf add k lib frames = (neg : Bool) (functor : List ℕ) (count : ℕ)
    → filed frames neg functor count ≡ places (λ e. has_trigger add k neg functor count e.plan.trigger) 0 (map Some lib)

-- and so it is for each sign and kind
abbrev pub AreFiled : List OwnedPlan → FiledPlaces → Type 0
AreFiled lib f = (add : Bool) (k : Kind) → AreOf add k lib (frames_of add k f)

-- ---- plans that are listed by a number of their triggers and bodies, which is the same for the same plans

abbrev pub literal_key : LiteralOf Term → ℕ
literal_key l = key_print l.functor l.args

abbrev pub arg_key : ArgOf Expr → ℕ
arg_key (arg.Plain t) = print t
arg_key (arg.Logic e) = 0

abbrev pub formula_key : Formula → ℕ
formula_key (formula.Achieve l) = literal_key l
formula_key (formula.Spawn l) = literal_key l
formula_key (formula.Test l) = literal_key l
formula_key (formula.Add l) = literal_key l
formula_key (formula.Del l) = literal_key l
formula_key (formula.Replace l) = literal_key l
formula_key (formula.Act l) = literal_key l
formula_key (formula.Inner c) = mixed 8 (map arg_key c.args)
formula_key (formula.Rel r) = mix (print r.left) (print r.right)

abbrev pub plan_key : Plan → ℕ
plan_key p = mixed (literal_key p.trigger.lit) (map formula_key p.body)

abbrev pub AreListed : List OwnedPlan → Keys → Type 0
AreListed lib keys = (key : ℕ) → listed keys key ≡ places (λ e. key == plan_key e.plan) 0 (map Some lib)

-- both, which is how the plans of a library are found
pub record IsIndex (lib : List OwnedPlan) (f : FiledPlaces) (keys : Keys) : Type 0 where
  pub filed : AreFiled lib f
  pub listed : AreListed lib keys

-- and so many they are
pub record IsCounted (lib : List OwnedPlan) (n : ℕ) (f : FiledPlaces) (keys : Keys) : Type 0 where
  pub index : IsIndex lib f keys
  pub count : n ≡ length lib

-- ---- what is found

abbrev pub is_plan : Plan → Option OwnedPlan → Bool
is_plan p None = false
is_plan p (Some e) = same_plan p e.plan

-- the place of the entry with a plan, or that there is none
abbrev pub IsFound : Plan → List OwnedPlan → Option ℕ → Type 0
IsFound p lib None = has_plan p lib ≡ false
IsFound p lib (Some k) = (e : OwnedPlan) × (slice_get lib k ≡ Some e) × (same_plan p e.plan ≡ true)

abbrev pub way_of : ℕ → Trigger → Option OwnedPlan → Option (List Pair)
way_of n event None = None
way_of n event (Some e) = first_way n e.plan.trigger event

-- the first way in which the plan at a place matches an event
abbrev pub way_at : List OwnedPlan → ℕ → Trigger → ℕ → Option (List Pair)
way_at lib n event k = way_of n event (slice_get lib k)

-- the choices among the plans at these places
abbrev pub chosen : (ℕ → Option (List Pair)) → List ℕ → List Choice
chosen way [] = []
chosen way (k ∷ more) = kept k (way k) (chosen way more)
