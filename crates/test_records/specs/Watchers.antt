-- The meaning of a mind that does nothing, and its laws.
use Rattle.std.specs.Prelude.{ℕ, ◌≡◌, ◌+◌, true, false, refl, List, [], ◌∷◌, length, Option, None}
use Rattle.mas_mind.specs.declared.mind.Input.{Input}
use Rattle.mas_mind.specs.declared.mind.Feedback.{Feedback}
use Rattle.mas_mind.specs.declared.mind.Outs.{Outs}
use Rattle.mas_mind.specs.declared.mind.Thought.TheVariants.{Outs as Acts}
use Rattle.mas_mind.specs.Minds.{Kind, is_quiet, SendsNothing, Grows}
use Rattle.mas_board.specs.Boards.{Noted, seat_at}
use Rattle.test_records.specs.declared.watching.Watching.{Watching}
use Rattle.test_records.specs.Growths.{same_lines, no_cycle}

abbrev pub nothing : Outs
nothing = record { action = None; messages = []; stop = false; quiet = false }

abbrev pub watcher_kind : Kind Watching
watcher_kind = record {
  cycle = λ m i. record { mind = record m { made = m.made + 1; waits = false }; thought = Acts nothing };
  took = λ m f. record m { waits = false };
  awaits = λ m. m.waits;
  made = λ m. m.made;
  lines = λ m. m.text;
  me = λ m. m.me;
  agents = λ m. 3;
}

pub quiet_sends_nothing : (m : Watching) (i : Input) → is_quiet (watcher_kind.cycle m i).thought ≡ true → SendsNothing (watcher_kind.cycle m i).thought
quiet_sends_nothing m i e = record { action = refl; messages = refl; stop = refl }

pub quiet_again :
    (m : Watching) (i j : Input) → is_quiet (watcher_kind.cycle m i).thought ≡ true → j.percepts ≡ i.percepts →
    j.message ≡ None → is_quiet (watcher_kind.cycle (watcher_kind.cycle m i).mind j).thought ≡ true
quiet_again m i j e p n = e

pub goes_on : (m : Watching) (i : Input) → Grows watcher_kind m (watcher_kind.cycle m i).mind 1
goes_on m i = record { made = refl; new_lines = []; lines = same_lines m.text; me = refl; agents = refl }

pub is_told : (m : Watching) (f : Feedback) → Grows watcher_kind m (watcher_kind.took m f) 0
is_told m f = record { made = no_cycle m.made; new_lines = []; lines = same_lines m.text; me = refl; agents = refl }

-- a mind before its first cycle
pub record IsFresh (me : ℕ) (m : Watching) : Type 0 where
  pub me_is : m.me ≡ me
  pub unmade : m.made ≡ 0
  pub free : m.waits ≡ false

-- three minds, in order
pub record AreThree (minds : List Watching) : Type 0 where
  pub x : Watching
  pub y : Watching
  pub z : Watching
  pub are : minds ≡ x ∷ y ∷ z ∷ []
  pub first : IsFresh 1 x
  pub second : IsFresh 2 y
  pub third : IsFresh 3 z

-- a board of three agents, on which no turn was made
pub record IsOpened (b : Noted) : Type 0 where
  pub unplayed : b.schedule ≡ []
  pub running : b.halted ≡ false
  pub agents : length b.state.seats ≡ 3
  pub unbegun : (a : ℕ) → (seat_at b.state a).cycle ≡ 0
