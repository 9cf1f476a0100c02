-- Worlds by their numbers: that of the start, and those that came of it by actions.
use Rattle.std.specs.Prelude.{ℕ, ◌≡◌, ◌<◌, ◌+◌, true, List, [], ◌∷◌, length, slice_get, Option, None, Some}
use Rattle.asl_term.specs.Exprs.{is_ground_literal}
use Rattle.asl_term.specs.Names.{name_at}
use Rattle.asl_term.specs.declared.syntax.LiteralOf.{LiteralOf}
use Rattle.asl_term.specs.declared.syntax.Term.{Term}
use Rattle.mas_mind.specs.declared.mind.Feedback.{Feedback}
use Rattle.mas_mind.specs.declared.mind.Feedback.TheVariants.{Failed, Done}
use Rattle.mas_world.specs.Worlds.{World, acted}
use Rattle.mas_world.specs.Seen.{seen}
use Rattle.mas_explore_tables.specs.Histories.{all_from, AreLinked}
use Rattle.mas_explore_tables.specs.declared.history.Link.{Link}
use Rattle.mas_explore_worlds.specs.declared.worlds.Doing.{Doing}
use Rattle.mas_explore_worlds.specs.declared.worlds.Acted.{Acted}

abbrev pub name_or_none : Option (List ℕ) → List ℕ
name_or_none None = []
name_or_none (Some name) = name

abbrev pub name_of : List (List ℕ) → ℕ → List ℕ
name_of names agent = name_or_none (name_at names agent)

-- what the action makes of the world, and the world after it
abbrev pub after : List (List ℕ) → World → Doing → Feedback × World
after names w d = acted w (name_of names d.agent) d.action

abbrev pub done_on : List (List ℕ) → World → Doing → World
done_on names w d = (after names w d).1

-- all worlds in the order of their numbers
abbrev pub worlds_in : List (List ℕ) → World → List (Link Doing) → List World
worlds_in names start links = all_from (done_on names) (start ∷ []) links

-- each link names an earlier world, and its action has no variables
pub record Fits (links : List (Link Doing)) : Type 0 where
  pub linked : AreLinked 1 links
  pub ground : (j : ℕ) (link : Link Doing) → slice_get links j ≡ Some link → is_ground_literal link.what.action ≡ true

-- what is there keeps its number
pub record Grows (names : List (List ℕ)) (start : World) (old new : List (Link Doing)) : Type 0 where
  pub fits : Fits new
  pub stay : (i : ℕ) (w : World) → slice_get (worlds_in names start old) i ≡ Some w → slice_get (worlds_in names start new) i ≡ Some w

-- there is a number of the world after this action
pub record HasLinked (names : List (List ℕ)) (start : World) (old new : List (Link Doing)) (from : ℕ) (d : Doing) (n : ℕ) : Type 0 where
  pub grows : Grows names start old new
  pub leads : (w : World) → slice_get (worlds_in names start old) from ≡ Some w →
      slice_get (worlds_in names start new) n ≡ Some (done_on names w d)

-- this became of the action on the world of this number, which stays as it was where it was not done
pub record DoesAs (names : List (List ℕ)) (start : World) (links : List (Link Doing)) (from : ℕ) (d : Doing) (feedback : Feedback) : Type 0 where
  pub told : (w : World) → slice_get (worlds_in names start links) from ≡ Some w → feedback ≡ (after names w d).0
  pub still : feedback ≡ Failed → (w : World) → slice_get (worlds_in names start links) from ≡ Some w → done_on names w d ≡ w

-- there are numbers of what the action made of the world; where it was not done the world keeps its number, and there is no new one
pub record HasActed (names : List (List ℕ)) (start : World) (old new : List (Link Doing))
    (from agent : ℕ) (action : LiteralOf Term) (r : Acted) : Type 0 where
  pub grows : Grows names start old new
  pub feedback : (w : World) → slice_get (worlds_in names start old) from ≡ Some w →
      r.feedback ≡ (acted w (name_of names agent) action).0
  pub leads : (w : World) → slice_get (worlds_in names start old) from ≡ Some w →
      slice_get (worlds_in names start new) r.world ≡ Some (acted w (name_of names agent) action).1
  pub kept : r.feedback ≡ Failed → r.world ≡ from
  pub unchanged : r.feedback ≡ Failed → new ≡ old

abbrev pub IsSeen : List (List ℕ) → World → List (Link Doing) → ℕ → ℕ → List (LiteralOf Term) → Type 0
IsSeen names start links n agent percepts = (w : World) → slice_get (worlds_in names start links) n ≡ Some w → percepts ≡ seen w (name_of names agent)
