-- A world goes on having facts without variables.
use Rattle.std.proofs.Common.{◌≡◌, true, List, [], ◌∷◌, Option, Some, None, ℕ, refl}
use Rattle.std.specs.Prelude.{Bool, false, cond, filter, not}
use Rattle.std.specs.List.{AllByRecursion, list_all}
use Rattle.asl_term.specs.declared.syntax.LiteralOf.{LiteralOf}
use Rattle.asl_term.specs.declared.syntax.Term.{Term}
use Rattle.asl_term.specs.Exprs.{is_ground_literal}
use Rattle.asl_unify.proofs.General.{and_true}
use Rattle.mas_mind.specs.declared.mind.Feedback.{Feedback}
use Rattle.mas_mind.specs.declared.mind.Feedback.TheVariants.{Done, Failed}
use Rattle.mas_world.specs.declared.facts.Deed.{Deed}
use Rattle.mas_world.specs.Acts.{decided}
use Rattle.mas_world.specs.Facts.{AreFacts}
use Rattle.mas_world.specs.Seen.{seen}
use Rattle.mas_world.specs.Worlds.{World, Used, Segment, HasFacts, is_named, without_artifact, dropped, after, segment_acted, or_later, used_acted, or_used, acted}
use Rattle.mas_world.proofs.Deeds.{decided_plain}
use Rattle.mas_world.proofs.Sights.{seen_are}
use Rattle.mas_world.proofs.Sound.{done_are}
use Rattle.mas_board.specs.Boards.{acted_as}
use Rattle.asl_lint_laws.specs.Read.{AreGround}

abbrev AreUsed : List Used → Type 0
AreUsed = AllByRecursion (λ u. AreFacts u.segment.facts)

kept : (p : Used → Bool) (us : List Used) → AreUsed us → AreUsed (filter p us)
kept p [] a = tt
kept p (u ∷ us) a = go (p u) (kept p us a.1) where
  go : (b : Bool) → AreUsed (filter p us) → AreUsed (cond b (u ∷ filter p us) (filter p us))
  go true later = (a.0, later)
  go false later = later

dropped_are : (names : List (List ℕ)) (us : List Used) → AreUsed us → AreUsed (dropped names us)
dropped_are [] us a = a
dropped_are (name ∷ more) us a = dropped_are more (without_artifact name us) (kept (λ u. not (is_named name u)) us a)

module _ (agent : List ℕ) (action : LiteralOf Term) where
  after_are : (s : Segment) → AreFacts s.facts → AreFacts (segment_acted s agent action).1.facts
  after_are s a = go (decided s.facts s.acts agent action) refl where
    go : (o : Option Deed) → decided s.facts s.acts agent action ≡ o → AreFacts (after s o).1.facts
    go None e = a
    go (Some d) e = let p = decided_plain s.facts s.acts agent action d e in done_are d s.facts a p.ground p.settled

  used_are : (us : List Used) → AreUsed us → AreUsed (used_acted us agent action).1
  used_are [] a = tt
  used_are (u ∷ us) a =
      go (segment_acted u.segment agent action).0 (segment_acted u.segment agent action).1 (after_are u.segment a.0) (used_are us a.1) where
        go : (f : Feedback) (s : Segment) → AreFacts s.facts → AreUsed (used_acted us agent action).1 → AreUsed (or_later u us (f, s) (used_acted us agent action)).1
        go Done s b later = (b, a.1)
        go Failed s b later = (a.0, later)

  acted_has : (w : World) → HasFacts w → HasFacts (acted w agent action).1
  acted_has w h = go (decided w.file.facts w.file.acts agent action) refl where
    go : (o : Option Deed) → decided w.file.facts w.file.acts agent action ≡ o → HasFacts (or_used w o (used_acted w.used agent action)).1
    go None e = record { file = h.file; used = used_are w.used h.used }
    go (Some d) e =
        let p = decided_plain w.file.facts w.file.acts agent action d e in
        record { file = done_are d w.file.facts h.file p.ground p.settled; used = dropped_are d.drops w.used h.used }

pub acts_have : (w : World) (agent : List ℕ) (o : Option (LiteralOf Term)) → HasFacts w → HasFacts (acted_as w agent o).1
acts_have w agent None h = h
acts_have w agent (Some action) h = acted_has agent action w h

all_ground : (ls : List (LiteralOf Term)) → list_all is_ground_literal ls ≡ true → AreGround ls
all_ground [] e = tt
all_ground (l ∷ ls) e = let s = and_true (is_ground_literal l) _ e in (s.0, all_ground ls s.1)

-- what an agent sees has no variables
pub seen_ground : (w : World) (agent : List ℕ) → HasFacts w → AreGround (seen w agent)
seen_ground w agent h = all_ground (seen w agent) (seen_are w agent h).grounded
