-- The lines of a trace, as an outcome tells them.
use Rattle.std.specs.Prelude.{ℕ, nat_eq, Bool, true, false, not, List, [], ◌∷◌}
use Rattle.mas_free.specs.declared.view.View.{View}
use Rattle.mas_free.specs.declared.view.View.TheVariants.{Ends, Lines}

-- a blank, and a line feed
abbrev pub is_blank : ℕ → Bool
is_blank c = nat_eq c 32

abbrev pub is_line_feed : ℕ → Bool
is_line_feed c = nat_eq c 10

-- of each line all up to its first blank goes, and that blank; whether this is within what goes
abbrev pub unnumbered_from : Bool → List ℕ → List ℕ
unnumbered_from within [] = []
unnumbered_from true (c ∷ text) = unnumbered_from (not (is_blank c)) text
unnumbered_from false (c ∷ text) = c ∷ unnumbered_from (is_line_feed c) text

-- the lines of a trace without the numbers of their cycles
abbrev pub unnumbered : List ℕ → List ℕ
unnumbered text = unnumbered_from true text

-- whether a text ends where a line may begin, where this tells it of its front
abbrev pub front_after : Bool → List ℕ → Bool
front_after front [] = front
front_after front (c ∷ text) = front_after (is_line_feed c) text

-- nothing, or lines of which the last one is ended too
abbrev pub are_lines : List ℕ → Bool
are_lines text = front_after true text

-- what an outcome tells of the lines that a mind has shown
abbrev pub viewed : View → List ℕ → List ℕ
viewed Ends text = []
viewed Lines text = unnumbered text
