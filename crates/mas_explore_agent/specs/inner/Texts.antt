-- The lines of a cycle whose number may be another.
use Rattle.std.specs.Prelude.{ℕ, zero, suc, ◌≡◌, ◌+◌, ◌/◌, ◌%◌, ◌==◌, nat_lt, Bool, true, false, not, ◌&&◌, if◌then◌else◌, List, [], ◌∷◌, ◌++◌, refl, codes}
use Rattle.std.specs.List.{list_all}
use Rattle.std.specs.Fmt.{decimal, digits, digits_onto, digit_glyph}
use Rattle.std.proofs.Common.{ap, sym, ◌∙◌, append_assoc, arith}
use Rattle.std.proofs.lemmas.Grind.{common_steps}
use Rattle.mas_mind.specs.declared.mind.Level.{Level}
use Rattle.asl_cycle.specs.declared.rows.TraceLine.{TraceLine}
use Rattle.asl_cycle.specs.Trace.{line_text, shows, shown}
use Rattle.mas_free.specs.Lines.{is_blank, is_line_feed, unnumbered_from, unnumbered, front_after, are_lines}

-- ---- a number has no blank

abbrev is_solid : ℕ → Bool
is_solid c = not (is_blank c)

abbrev AreSolid : List ℕ → Type 0
AreSolid text = list_all is_solid text ≡ true

glyph_solid : (b : Bool) (d : ℕ) → is_solid (if b then 48 + d else 87 + d) ≡ true
glyph_solid true d = grind (arith, common_steps)
glyph_solid false d = grind (arith, common_steps)

both : (a b : Bool) → a ≡ true → b ≡ true → (a && b) ≡ true
both a b e f = cc

either : (b : Bool) (text other : List ℕ) → AreSolid text → AreSolid other → AreSolid (if b then text else other)
either true text other h g = h
either false text other h g = g

onto_solid : (k n : ℕ) (more : List ℕ) → AreSolid more → AreSolid (digits_onto k 10 false n more)
onto_solid zero n more h = h
onto_solid (suc k) n more h =
    let c = digit_glyph false (n % 10) in
    let front : AreSolid (c ∷ more) = both (is_solid c) (list_all is_solid more) (glyph_solid (nat_lt (n % 10) 10) (n % 10)) h in
    either (n / 10 == 0) (c ∷ more) (digits_onto k 10 false (n / 10) (c ∷ more)) front (onto_solid k (n / 10) (c ∷ more) front)

number_solid : (n : ℕ) → AreSolid (decimal n)
unfolding digits
number_solid n = onto_solid 64 n [] refl

-- ---- behind a number

solid_goes : (c : ℕ) (ds more : List ℕ) (b : Bool) → is_solid c ≡ b → (b && list_all is_solid ds) ≡ true
    → (AreSolid ds → unnumbered_from true (ds ++ 32 ∷ more) ≡ unnumbered_from false more)
    → unnumbered_from true (c ∷ (ds ++ 32 ∷ more)) ≡ unnumbered_from false more
solid_goes c ds more true e h next = ap (λ (x : Bool). unnumbered_from x (ds ++ 32 ∷ more)) e ∙ next h
solid_goes c ds more false e h next = cc

goes : (ds more : List ℕ) → AreSolid ds → unnumbered_from true (ds ++ 32 ∷ more) ≡ unnumbered_from false more
goes [] more h = refl
goes (c ∷ ds) more h = solid_goes c ds more (is_solid c) refl h (goes ds more)

number_goes : (n : ℕ) (more : List ℕ) → unnumbered (decimal n ++ 32 ∷ more) ≡ unnumbered_from false more
number_goes n more = goes (decimal n) more (number_solid n)

-- ---- behind a line feed

same_behind : (within : Bool) (text more other : List ℕ) → unnumbered more ≡ unnumbered other
    → unnumbered_from within (text ++ 10 ∷ more) ≡ unnumbered_from within (text ++ 10 ∷ other)
same_behind true [] more other e = e
same_behind false [] more other e = ap (λ (t : List ℕ). 10 ∷ t) e
same_behind true (c ∷ text) more other e = same_behind (not (is_blank c)) text more other e
same_behind false (c ∷ text) more other e = ap (λ (t : List ℕ). c ∷ t) (same_behind (is_line_feed c) text more other e)

ended : (front : Bool) (text more : List ℕ) → are_lines more ≡ true → front_after front (text ++ 10 ∷ more) ≡ true
ended front [] more h = h
ended front (c ∷ text) more h = ended (is_line_feed c) text more h

pub whole_behind : (front : Bool) (text more : List ℕ) → front_after front text ≡ true → are_lines more ≡ true → front_after front (text ++ more) ≡ true
whole_behind front [] more h g = ap (λ (b : Bool). front_after b more) h ∙ g
whole_behind front (c ∷ text) more h g = whole_behind (is_line_feed c) text more h g

-- ---- a line

apart : (number text more : List ℕ) → ((number ++ codes " " ++ text ++ codes "\n") ++ more) ≡ number ++ 32 ∷ (text ++ 10 ∷ more)
apart number text more =
    append_assoc (number ++ codes " " ++ text) (codes "\n") more
    ∙ (append_assoc (number ++ codes " ") text (10 ∷ more) ∙ append_assoc number (codes " ") (text ++ 10 ∷ more))

line_goes : (n : ℕ) (text more : List ℕ) → unnumbered ((decimal n ++ codes " " ++ text ++ codes "\n") ++ more) ≡ unnumbered_from false (text ++ 10 ∷ more)
line_goes n text more = ap unnumbered (apart (decimal n) text more) ∙ number_goes n (text ++ 10 ∷ more)

line_same : (is_shown : Bool) (m n : ℕ) (text more other : List ℕ) → unnumbered more ≡ unnumbered other
    → unnumbered ((if is_shown then decimal m ++ codes " " ++ text ++ codes "\n" else []) ++ more)
    ≡ unnumbered ((if is_shown then decimal n ++ codes " " ++ text ++ codes "\n" else []) ++ other)
line_same true m n text more other e = line_goes m text more ∙ (same_behind false text more other e ∙ sym (line_goes n text other))
line_same false m n text more other e = e

line_whole : (is_shown : Bool) (number text more : List ℕ) → are_lines more ≡ true
    → are_lines ((if is_shown then number ++ codes " " ++ text ++ codes "\n" else []) ++ more) ≡ true
line_whole true number text more h =
    ap are_lines (apart number text more ∙ sym (append_assoc number (32 ∷ text) (10 ∷ more))) ∙ ended true (number ++ 32 ∷ text) more h
line_whole false number text more h = h

-- ---- the lines of a cycle

pub shown_same : (v : Level) (m n : ℕ) (ls : List TraceLine) → unnumbered (shown v m ls) ≡ unnumbered (shown v n ls)
shown_same v m n [] = refl
shown_same v m n (l ∷ ls) = line_same (shows v l) m n (line_text l) (shown v m ls) (shown v n ls) (shown_same v m n ls)

pub shown_whole : (v : Level) (n : ℕ) (ls : List TraceLine) → are_lines (shown v n ls) ≡ true
shown_whole v n [] = refl
shown_whole v n (l ∷ ls) = line_whole (shows v l) (decimal n) (line_text l) (shown v n ls) (shown_whole v n ls)
