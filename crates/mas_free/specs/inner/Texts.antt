-- Lines behind whole lines, without their numbers.
use Rattle.std.specs.Prelude.{ℕ, ◌≡◌, Bool, true, false, not, List, [], ◌∷◌, ◌++◌, refl}
use Rattle.std.proofs.Common.{ap, ◌∙◌}
use Rattle.std.proofs.lemmas.Bool.{eqb-true}
use Rattle.mas_free.specs.Lines.{is_blank, is_line_feed, unnumbered_from, unnumbered, front_after, are_lines}

-- whether a text ends within what goes
abbrev within_after : Bool → List ℕ → Bool
within_after within [] = within
within_after true (c ∷ text) = within_after (not (is_blank c)) text
within_after false (c ∷ text) = within_after (is_line_feed c) text

behind : (within : Bool) (text more : List ℕ) →
    unnumbered_from within (text ++ more) ≡ unnumbered_from within text ++ unnumbered_from (within_after within text) more
behind within [] more = refl
behind true (c ∷ text) more = behind (not (is_blank c)) text more
behind false (c ∷ text) more = ap (λ (t : List ℕ). c ∷ t) (behind (is_line_feed c) text more)

-- a line feed is no blank
no-blank : (c : ℕ) → is_line_feed c ≡ true → not (is_blank c) ≡ true
no-blank c e = ap (λ (x : ℕ). not (is_blank x)) (eqb-true c 10 e)

at-front : (front within : Bool) (text : List ℕ) → (front ≡ true → within ≡ true) → front_after front text ≡ true → within_after within text ≡ true
at-front front within [] h e = h e
at-front front true (c ∷ text) h e = at-front (is_line_feed c) (not (is_blank c)) text (no-blank c) e
at-front front false (c ∷ text) h e = at-front (is_line_feed c) (is_line_feed c) text (λ x. x) e

pub behind_lines : (text more : List ℕ) → are_lines text ≡ true → unnumbered (text ++ more) ≡ unnumbered text ++ unnumbered more
behind_lines text more e =
    behind true text more ∙ ap (λ (b : Bool). unnumbered_from true text ++ unnumbered_from b more) (at-front true true text (λ x. x) e)
