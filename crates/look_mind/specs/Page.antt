-- The page of a report.
use Rattle.std.specs.Prelude.{ℕ, ◌≡◌, ◌<◌, List, [], None, length}
use Rattle.std.specs.List.{All}
use Rattle.chart_page.specs.Refused.{IsPage, ShowsText}
use Rattle.chart_page.specs.Texts.{Holds}
use Rattle.chart_page.specs.declared.choice.Choice.{Choice}
use Rattle.look_mind.specs.Rows.{change_at}
use Rattle.look_mind.specs.declared.changes.MindChanges.{MindChanges}

-- each line of the change of each turn stands there, escaped
abbrev pub HoldsChanges : MindChanges → List ℕ → Type 0
HoldsChanges told text = (t : ℕ) → t < length told.turns → All (λ l. Holds text l.text) (change_at told t)

-- a whole page in which each line of the report stands, of all agents and turns, and each line of these changes
pub record IsPageOf (bytes : List ℕ) (told : MindChanges) (text : List ℕ) : Type 0 where
  pub choice : Choice
  pub all_agents : choice.names.now ≡ []
  pub all_turns : choice.turns ≡ None
  pub whole : IsPage text
  pub shown : ShowsText choice bytes text
  pub changed : HoldsChanges told text
