-- What a page tells of minds.
use Rattle.std.specs.Prelude.{ℕ, List, map}
use Rattle.chart_page.specs.declared.minds.Minds.{Minds}
use Rattle.chart_page.specs.declared.minds.MindLine.{MindLine}
use Rattle.chart_page.specs.Texts.{HoldsAll}

abbrev pub texts_of : List MindLine → List (List ℕ)
texts_of lines = map (λ l. l.text.now) lines

-- the text of each line stands there, escaped
abbrev pub TellsMinds : Minds → List ℕ → Type 0
TellsMinds minds made = HoldsAll made (texts_of minds.lines.now)
