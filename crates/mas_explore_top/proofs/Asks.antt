-- What the words ask for, by what was read of them.
use Rattle.std.proofs.Common.{◌≡◌, ◌∙◌, ◌&&◌, ◌||◌, ℕ, Bool, true, false, cond, List, [], ◌∷◌, map, length, Option, None, Some, refl, sym, ap, subst, arith}
use Rattle.std.proofs.lemmas.Bool.Decides.{nat_tests}
use Rattle.std.specs.Option.{IfSome}
use Rattle.std.specs.Str.{bytes_eq}
use Rattle.std.specs.Prelude.{codes, nat_le, option_map}
use Rattle.clap.specs.Faults.{fault_of}
use Rattle.clap.specs.Simple.{matches_of}
use Rattle.clap.specs.Walk.{Row, Text, first_of, is_empty}
use Rattle.mas_report.specs.Limits.{IsFrom, defaults}
use Rattle.mas_top_words.specs.Asked.{number_for}
use Rattle.mas_top_words.specs.Numbers.{digits_from, number_in, starts_number, within}
use Rattle.mas_explore_listing.specs.declared.answers.Question.{Question}
use Rattle.mas_explore_top.specs.declared.detail.Detail.{Detail}
use Rattle.mas_explore_top.specs.declared.words.ExploreWords as code
use Rattle.mas_explore_top.specs.Apps.{explore_app}
use Rattle.mas_explore_top.specs.Asked.{Exploring, IsPermitted, is_alone, detail_for, claimed_for, exploring_with, exploring_among, exploring, exploring_of}
use Rattle.program_words.specs.Texts.{is_set}

-- ---- a word alone

pub no_word : {X : Type 0} (f : X → List ℕ) (long short : List ℕ) (words : List X) → length words ≡ 0 → is_alone long short (map f words) ≡ false
no_word f long short [] e = refl
no_word f long short (x ∷ xs) e = absurd (grind arith)

pub one_word : {X : Type 0} (f : X → List ℕ) (long short : List ℕ) (words : List X) (x : X) (rest : List X) → words ≡ x ∷ rest → length rest ≡ 0 →
    is_alone long short (map f words) ≡ (bytes_eq (f x) long || bytes_eq (f x) short)
one_word f long short words x [] w e = ap (λ ws. is_alone long short (map f ws)) w
one_word f long short words x (y ∷ ys) w e = absurd (grind arith)

pub more_words : {X : Type 0} (f : X → List ℕ) (long short : List ℕ) (words : List X) (x y : X) (rest more : List X) → words ≡ x ∷ rest → rest ≡ y ∷ more →
    is_alone long short (map f words) ≡ false
more_words f long short words x y rest more w r = ap (λ ws. is_alone long short (map f ws)) (w ∙ ap (λ rs. x ∷ rs) r)

-- ---- by clap's matches

pub exploring_taken : (words : List Text) (rows : List Row) → is_empty (fault_of explore_app words) ≡ true → rows ≡ matches_of explore_app words →
    exploring_among rows ≡ exploring words
exploring_taken words rows e r =
    ap exploring_among r ∙ sym (ap (λ (b : Bool). cond b (exploring_among (matches_of explore_app words)) None) e)

pub exploring_refused : (words : List Text) → is_empty (fault_of explore_app words) ≡ false → exploring words ≡ None
exploring_refused words e = ap (λ (b : Bool). cond b (exploring_among (matches_of explore_app words)) None) e

-- ---- the numbers are permitted

between : (low high n : ℕ) → (nat_le low n && nat_le n high) ≡ true → IsFrom low high n
between low high n e = grind (arith, nat_tests)

number_within : (low high : ℕ) (text : List ℕ) → IfSome (number_in low high text) (IsFrom low high)
number_within low high text = go (starts_number text && nat_le (length text) 8) (digits_from 0 text)
  where
    here : (n : ℕ) (b : Bool) → (nat_le low n && nat_le n high) ≡ b → IfSome (cond b (Some n) None) (IsFrom low high)
    here n true q = between low high n q
    here n false q = tt

    go : (b : Bool) (m : Option ℕ) → IfSome (cond b (within low high m) None) (IsFrom low high)
    go true None = tt
    go true (Some n) = here n (nat_le low n && nat_le n high) refl
    go false m = tt

for_within : (usual low high : ℕ) (text : Option (List ℕ)) → IsFrom low high usual → IfSome (number_for usual low high text) (IsFrom low high)
for_within usual low high None u = u
for_within usual low high (Some text) u = number_within low high text

with_within : (p : Option (List ℕ)) (d : Option Detail) (a b c : Option ℕ) (q : Option (Option Question)) (f : Bool) → IfSome a (IsFrom 1 10000) →
    IfSome b (IsFrom 1 10000000) → IfSome c (IsFrom 1 1000000) → IfSome (exploring_with p d a b c q f) IsPermitted
with_within None d a b c q f x y z = tt
with_within (Some p) None a b c q f x y z = tt
with_within (Some p) (Some d) None b c q f x y z = tt
with_within (Some p) (Some d) (Some a) None c q f x y z = tt
with_within (Some p) (Some d) (Some a) (Some b) None q f x y z = tt
with_within (Some p) (Some d) (Some a) (Some b) (Some c) None f x y z = tt
with_within (Some p) (Some d) (Some a) (Some b) (Some c) (Some q) f x y z = record { depth = x; tries = y; states = z }

among_within : (rows : List Row) → IfSome (exploring_among rows) IsPermitted
among_within rows = with_within (first_of (codes "project") rows) (detail_for (first_of (codes "level") rows))
    (number_for defaults.depth 1 10000 (first_of (codes "depth") rows)) (number_for defaults.tries 1 10000000 (first_of (codes "tries") rows))
    (number_for 1000000 1 1000000 (first_of (codes "states") rows)) (claimed_for (first_of (codes "never") rows) (first_of (codes "always") rows))
    (is_set (first_of (codes "progress") rows))
    (for_within defaults.depth 1 10000 (first_of (codes "depth") rows) (omega arith, omega arith))
    (for_within defaults.tries 1 10000000 (first_of (codes "tries") rows) (omega arith, omega arith))
    (for_within 1000000 1 1000000 (first_of (codes "states") rows) (omega arith, omega arith))

words_within : (words : List Text) → IfSome (exploring words) IsPermitted
words_within words = go (is_empty (fault_of explore_app words))
  where
    go : (b : Bool) → IfSome (cond b (exploring_among (matches_of explore_app words)) None) IsPermitted
    go true = among_within (matches_of explore_app words)
    go false = tt

of_map : (r : Option code.ExploreWords) → IfSome (option_map exploring_of r) IsPermitted → IfSome r (λ w. IsPermitted (exploring_of w))
of_map None h = tt
of_map (Some w) h = h

-- what is asked for is permitted
pub permitted : (words : List Text) (r : Option code.ExploreWords) → option_map exploring_of r ≡ exploring words → IfSome r (λ w. IsPermitted (exploring_of w))
permitted words r e = of_map r (subst (λ (m : Option Exploring). IfSome m IsPermitted) (sym e) (words_within words))
