-- The rows of clap's matches.
use Rattle.std.proofs.Common.{◌≡◌, ◌∙◌, ℕ, Bool, true, false, not, cond, List, [], ◌∷◌, ◌++◌, Option, None, Some, ◌&&◌, ◌||◌, refl, ap, arith, append-nil}
use Rattle.std.specs.Str.{bytes_eq}
use Rattle.std.specs.List.{find}
use Rattle.clap.specs.Walk.{Row, Text, at_row, has_row, more_values, used}
use Rattle.clap.specs.Takes.{use_passes}
use Rattle.clap.specs.Values.{reading_of}
use Rattle.clap.specs.declared.builder.value_parser.ValueParser.TheVariants as parser
use Rattle.clap.specs.declared.parser.matches.ValueSource.TheVariants.{CommandLine}
use Rattle.mas_top_words.proofs.Rules.{one_text}

-- the row of an id
abbrev pub row_in : Text → List Row → Option Row
row_in id rows = find (λ r. bytes_eq r.id id) rows

-- the row of an argument with one text
abbrev pub text_row : Text → Text → Row
text_row id v = record { id = id; values = v ∷ []; count = None; source = Some CommandLine; reading = reading_of parser.String }

later : (b : Bool) (r : Row) (m : Option Row) → cond b (Some r) m ≡ None → (b ≡ false) × (m ≡ None)
later true r m e = absurd (grind arith)
later false r m e = (refl, e)

at_row_absent : (id : Text) (change : Row → List Row) (missing rows : List Row) → row_in id rows ≡ None → at_row id change missing rows ≡ rows ++ missing
at_row_absent id change missing [] e = refl
at_row_absent id change missing (r ∷ rs) e =
    ap (λ b. cond b (change r ++ rs) (r ∷ at_row id change missing rs)) (later (bytes_eq r.id id) r (row_in id rs) e).0
    ∙ ap (λ z. r ∷ z) (at_row_absent id change missing rs (later (bytes_eq r.id id) r (row_in id rs) e).1)

-- a first use puts its row behind the others
pub used_new : (id : Text) (long : Option Text) (index : Option ℕ) (v : Text) (rows : List Row) → row_in id rows ≡ None
    → used (one_text id long index) (v ∷ []) rows ≡ rows ++ text_row id v ∷ []
used_new id long index v rows e =
    ap (λ z. used_in z) (at_row_absent id (λ _. []) [] rows e ∙ append-nil rows) ∙ at_row_absent id more (text_row id v ∷ []) rows e
  where
    more : Row → List Row
    more = more_values CommandLine (v ∷ [])

    used_in : List Row → List Row
    used_in z = at_row id more (text_row id v ∷ []) z

-- another id's row is found as before
pub found_before : (id : Text) (rows : List Row) (r : Row) → bytes_eq r.id id ≡ false → row_in id (rows ++ r ∷ []) ≡ row_in id rows
found_before id [] r e = ap (λ b. cond b (Some r) None) e
found_before id (q ∷ qs) r e = ap (λ m. cond (bytes_eq q.id id) (Some q) m) (found_before id qs r e)

-- the row behind the others is found where there was none
pub found_last : (id : Text) (rows : List Row) (r : Row) → row_in id rows ≡ None → bytes_eq r.id id ≡ true → row_in id (rows ++ r ∷ []) ≡ Some r
found_last id [] r e f = ap (λ b. cond b (Some r) None) f
found_last id (q ∷ qs) r e f =
    ap (λ b. cond b (Some q) (row_in id (qs ++ r ∷ []))) (later (bytes_eq q.id id) q (row_in id qs) e).0
    ∙ found_last id qs r (later (bytes_eq q.id id) q (row_in id qs) e).1 f

has_no_row : (id : Text) (rows : List Row) → row_in id rows ≡ None → has_row id rows ≡ false
has_no_row id [] e = refl
has_no_row id (q ∷ qs) e =
    ap (λ b. b || has_row id qs) (later (bytes_eq q.id id) q (row_in id qs) e).0 ∙ has_no_row id qs (later (bytes_eq q.id id) q (row_in id qs) e).1

-- a first use passes
pub first_passes : (again : Bool) (id : Text) (long : Option Text) (index : Option ℕ) (v : Text) (rows : List Row) → row_in id rows ≡ None
    → use_passes again (one_text id long index) (v ∷ []) rows ≡ true
first_passes again id long index v rows e = ap (λ b. (not b || again) && true) (has_no_row id rows e)
