-- Stacks as lists of means, the top first.
use Rattle.std.specs.Prelude.{◌≡◌, ◌≤◌, ℕ, nat_le, Bool, true, false, ◌&&◌, ◌||◌, cond, List, [], ◌∷◌, ◌++◌, map, drop, slice_get, Option, None, Some, is_some}
use Rattle.std.specs.Option.{option_map}
use Rattle.asl_term.specs.Trees.{size, depth}
use Rattle.asl_term.specs.declared.syntax.LiteralOf.{LiteralOf}
use Rattle.asl_term.specs.declared.syntax.Term.{Term}
use Rattle.asl_term.specs.declared.syntax.Term.TheVariants as term
use Rattle.asl_term.specs.declared.syntax.Formula.{Formula}
use Rattle.asl_term.specs.declared.syntax.Kind.{Kind}
use Rattle.asl_term.specs.declared.syntax.Kind.TheVariants as kind
use Rattle.asl_term.specs.declared.syntax.Trigger.{Trigger}
use Rattle.asl_term.specs.declared.syntax.Var.{Var}
use Rattle.asl_unify.specs.declared.subst.Pair.{Pair}
use Rattle.asl_unify.specs.Applied.{merged_formula, put_trigger, within_literal, within_formula}
use Rattle.asl_unify.specs.Matches.{matches}
use Rattle.asl_intend.specs.declared.entry.Means.{Means}
use Rattle.asl_intend.specs.Means.{applied_means}
use Rattle.asl_intend.specs.Entries.{is_achieve}

-- rule: a substitution put into all means
abbrev pub bound : List Pair → List Means → List Means
bound s = map (applied_means s)

-- the first formula of means
abbrev pub first : Means → Option Formula
first m = slice_get m.body 0

abbrev pub has_first : Means → Bool
has_first m = is_some (first m)

abbrev pub without_first : Means → Means
without_first m = record { trigger = m.trigger; body = drop 1 m.body }

abbrev pub replaced : Formula → List Formula → List Formula
replaced f [] = []
replaced f (g ∷ gs) = f ∷ gs

-- a formula in the place of the first one: lists in it that end in lists are merged with them
abbrev pub with_first : Formula → Means → Means
with_first f m = record { trigger = m.trigger; body = replaced (merged_formula f) m.body }

-- the same of the top

-- rule: the first formula of the top
abbrev pub head : List Means → Option Formula
head [] = None
head (m ∷ below) = first m

abbrev pub has_head : List Means → Bool
has_head [] = false
has_head (m ∷ below) = has_first m

abbrev pub without_head : List Means → List Means
without_head [] = []
without_head (m ∷ below) = without_first m ∷ below

abbrev pub with_head : Formula → List Means → List Means
with_head f [] = []
with_head f (m ∷ below) = with_first f m ∷ below

abbrev pub has_means : List Means → Bool
has_means [] = false
has_means (m ∷ below) = true

-- the trigger of the means at a place
abbrev pub trigger_at : List Means → ℕ → Option Trigger
trigger_at stack k = option_map (λ m. m.trigger) (slice_get stack k)

-- the trigger at a place is this one, with terms put in place of variables
abbrev pub ComesFrom : Trigger → Option Trigger → Type 0
ComesFrom pushed t = (h : Var → Term) × (t ≡ Some (put_trigger h pushed))

-- whether what is there stays within the limits

abbrev pub is_bounded : Option Formula → Bool
is_bounded None = true
is_bounded (Some f) = within_formula f

abbrev pub Bounded : Option Formula → Type 0
Bounded f = is_bounded f ≡ true

abbrev pub is_bounded_trigger : Trigger → Bool
is_bounded_trigger t = within_literal t.lit

abbrev pub BoundedTrigger : Trigger → Type 0
BoundedTrigger t = is_bounded_trigger t ≡ true

abbrev pub is_bounded_at : Option Trigger → Bool
is_bounded_at None = true
is_bounded_at (Some t) = is_bounded_trigger t

abbrev pub BoundedAt : Option Trigger → Type 0
BoundedAt t = is_bounded_at t ≡ true

-- rule: at most 1,000,000 nodes and 1,000 levels: a trigger with more is not built
abbrev pub IsBuildable : Trigger → Type 0
IsBuildable t = (size (term.Lit t.lit) ≤ 1000000) × (depth (term.Lit t.lit) ≤ 1000)

-- whether it is so
abbrev pub is_buildable : Trigger → Bool
is_buildable t = nat_le (size (term.Lit t.lit)) 1000000 && nat_le (depth (term.Lit t.lit)) 1000

-- a literal with more annotations behind its own
abbrev pub with_annots : List Term → LiteralOf Term → LiteralOf Term
with_annots more l = record { neg = l.neg; functor = l.functor; args = l.args; annots = l.annots ++ more }

abbrev pub any_match : List (List Pair) → Bool
any_match [] = false
any_match (s ∷ more) = true

-- whether g matches h where the trigger is +!h
abbrev pub is_goal : LiteralOf Term → Bool → Kind → LiteralOf Term → Bool
is_goal g false k h = false
is_goal g true kind.Achieve h = any_match (matches g h [])
is_goal g true kind.Belief h = false
is_goal g true kind.Test h = false

-- rule: g names the goal of a trigger where it matches h and the trigger is +!h
abbrev pub names_goal : LiteralOf Term → Trigger → Bool
names_goal g t = is_goal g t.add t.kind t.lit

-- rule: whether g names the goal of some means
abbrev pub has_goal : LiteralOf Term → List Means → Bool
has_goal g [] = false
has_goal g (m ∷ below) = names_goal g m.trigger || has_goal g below

-- whether it names that of the means at a place
abbrev pub names_at : LiteralOf Term → Option Trigger → Bool
names_at g None = false
names_at g (Some t) = names_goal g t

-- rule: the first match of g with h, where the trigger is +!h
abbrev pub goal_match : LiteralOf Term → Trigger → Option (List Pair)
goal_match g t = cond (t.add && is_achieve t.kind) (slice_get (matches g t.lit []) 0) None

-- that of the means at a place
abbrev pub match_at : LiteralOf Term → Option Trigger → Option (List Pair)
match_at g None = None
match_at g (Some t) = goal_match g t

-- whether a literal matches that of the means at a place, with more annotations behind its own
abbrev pub matched_at : LiteralOf Term → List Term → Option Trigger → Bool
matched_at g more None = false
matched_at g more (Some t) = any_match (matches g (with_annots more t.lit) [])
