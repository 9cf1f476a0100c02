-- What is found and lost in slots.
use Rattle.std.specs.Prelude.{◌≡◌, ◌≤◌, ℕ, Bool, false, not, if◌then◌else◌, List, ◌++◌, option_to_list, length, drop, filter, Option, Some, None}
use Rattle.std.specs.Option.{option_map_or}
use Rattle.asl_term.specs.declared.syntax.LiteralOf.{LiteralOf}
use Rattle.asl_term.specs.declared.syntax.Term.{Term}
use Rattle.asl_unify.specs.declared.subst.Pair.{Pair}
use Rattle.asl_beliefs.specs.Sources.{names_source, with_annots}
use Rattle.asl_beliefs.specs.Changes.{is_held, is_unseen}
use Rattle.asl_beliefs.specs.Laws.{are_perceived}
use Rattle.asl_beliefs.specs.inner.Places.{hit_from}
use Rattle.asl_index.specs.declared.taking.Hit.{Hit}
use Rattle.asl_index_tables.specs.Slots.{at_slot, kept, rank}

-- what is left in a slot whose belief loses the annotations of a list
abbrev pub left_slot : List Term → LiteralOf Term → Option (LiteralOf Term)
left_slot taken b =
    let left = filter (λ a. not (is_held taken a)) b.annots in
    if names_source left then Some (with_annots b left) else None

-- what is found of a pattern: the first belief that it matches, with the first match, or that there is none
pub record IsHitAt (p : LiteralOf Term) (s : List Pair) (slots : List (Option (LiteralOf Term))) (h : Hit) : Type 0 where
  pub here : LiteralOf Term
  pub at : at_slot slots h.slot ≡ Some here
  pub first : hit_from 0 p s (kept slots) ≡ Some (record { place = rank slots h.slot; subst = h.subst })

abbrev pub IsHit : LiteralOf Term → List Pair → List (Option (LiteralOf Term)) → Option Hit → Type 0
IsHit p s slots None = hit_from 0 p s (kept slots) ≡ None
IsHit p s slots (Some h) = IsHitAt p s slots h

-- whether the belief of a slot was perceived, and is not among the percepts
abbrev pub is_unseen_at : List (LiteralOf Term) → List (Option (LiteralOf Term)) → ℕ → Bool
is_unseen_at percepts slots k = option_map_or (is_unseen percepts) (at_slot slots k) false

-- where the beliefs from a slot on are compared with the percepts behind so many: they are not the same, or it is those behind the slot and behind so
-- many percepts
abbrev pub IsPassed : Option (LiteralOf Term) → List (LiteralOf Term) → ℕ → Option ℕ → Type 0
IsPassed slot percepts next None = (more : List (LiteralOf Term)) → are_perceived (drop next percepts) (option_to_list slot ++ more) ≡ false
IsPassed slot percepts next (Some n) = (n ≤ length percepts)
    × ((more : List (LiteralOf Term)) → are_perceived (drop next percepts) (option_to_list slot ++ more) ≡ are_perceived (drop n percepts) more)
