-- The names of agents.
use Rattle.std.proofs.Common.{
  ◌≡◌,
  ℕ,
  zero,
  suc,
  ◌+◌,
  Bool,
  true,
  false,
  cond,
  ◌||◌,
  List,
  [],
  ◌∷◌,
  ◌++◌,
  map,
  length,
  Option,
  Some,
  None,
  refl,
  sym,
  ap,
  subst,
  ◌∙◌,
  append_assoc,
  arith,
}
use Rattle.std.proofs.lemmas.List.{append-nil, length-append, map-append}
use Rattle.std.proofs.lemmas.Map.Keys.{IsDistinct-push}
use Rattle.std.specs.Cmp.{IsEquivalence}
use Rattle.std.specs.Cmp.Lexicographic.{nat_list_eq_equiv}
use Rattle.std.specs.List.{range_with_len, list_any, AllByRecursion, IsDistinct}
use Rattle.std.specs.Option.{option_map, is_some}
use Rattle.std.specs.Prelude.{IsSome}
use Rattle.std.specs.Str.{bytes_eq}
use Rattle.asl_term.specs.Names.{place_of, with_name}
use Rattle.mas_project.specs.declared.syntax.AgentLine.{AgentLine}
use Rattle.mas_project.specs.Names.{numbered_name, names_in, names_of, IsTwice}

range_last : (a n : ℕ) → range_with_len a (suc n) ≡ range_with_len a n ++ (a + n) ∷ []
range_last a zero = ap (λ (x : ℕ). x ∷ []) (omega arith)
range_last a (suc n) = ap (λ (x : List ℕ). a ∷ x) (range_last (a + 1) n ∙ ap (λ (x : ℕ). range_with_len (a + 1) n ++ x ∷ []) (omega arith))

pub one_more : (name : List ℕ) (k : ℕ)
    → map (numbered_name name) (range_with_len 1 (k + 1)) ≡ map (numbered_name name) (range_with_len 1 k) ++ numbered_name name (k + 1) ∷ []
one_more name k =
    let succ : k + 1 ≡ suc k = omega arith in
    let end : 1 + k ≡ k + 1 = omega arith in
    let next : range_with_len 1 (k + 1) ≡ range_with_len 1 k ++ (k + 1) ∷ [] = ap (range_with_len 1) succ ∙ range_last 1 k
    ∙ ap (λ (x : ℕ). range_with_len 1 k ++ x ∷ []) end in
    ap (map (numbered_name name)) next ∙ map-append (numbered_name name) (range_with_len 1 k) ((k + 1) ∷ [])

-- the names before, and those of the lines that are left
pub names_end : (all : List (List ℕ)) (lines : List AgentLine) → length lines ≡ 0 → all ++ names_of lines ≡ all
names_end all [] e = append-nil all
names_end all (l ∷ lines) e = absurd (omega arith)

pub names_more : (all : List (List ℕ)) (line : AgentLine) (lines : List AgentLine) → (all ++ names_in line) ++ names_of lines ≡ all ++ names_of (line ∷ lines)
names_more all line lines = append_assoc all (names_in line) (names_of lines)

-- ---- distinct names

laws : IsEquivalence bytes_eq
laws = nat_list_eq_equiv

-- what `find` tells
pub found : (names : List (List ℕ)) (name : List ℕ) → is_some (place_of names name) ≡ list_any (bytes_eq name) names
found [] name = refl
found (n ∷ names) name = go (bytes_eq name n) (place_of names name) (found names name)
  where
    go : (b : Bool) (o : Option ℕ) → is_some o ≡ list_any (bytes_eq name) names
        → is_some (cond b (Some 1) (option_map (λ k. k + 1) o)) ≡ (b || list_any (bytes_eq name) names)
    go true o e = refl
    go false None e = e
    go false (Some k) e = e

-- the names before are distinct and are kept, and these are left
pub record Seen (names seen rest : List (List ℕ)) : Type 0 where
  pub parts : names ≡ seen ++ rest
  pub distinct : IsDistinct bytes_eq seen

pub none_seen : (names : List (List ℕ)) → Seen names [] names
unfolding IsDistinct
none_seen names = record { parts = refl; distinct = tt }

not_there : (seen : List (List ℕ)) (name : List ℕ) → place_of seen name ≡ None → list_any (bytes_eq name) seen ≡ false
not_there seen name e = sym (found seen name) ∙ ap is_some e

kept_new : (seen : List (List ℕ)) (name : List ℕ) → list_any (bytes_eq name) seen ≡ false → with_name seen name ≡ seen ++ name ∷ []
kept_new seen name e = ap (λ (b : Bool). cond b seen (seen ++ name ∷ [])) e

pub one_seen : (names seen more rest : List (List ℕ)) (name : List ℕ) → Seen names seen (name ∷ rest) → place_of seen name ≡ None
    → more ≡ with_name seen name → Seen names more rest
one_seen names seen more rest name h e w =
    let new = not_there seen name e in
    let same : more ≡ seen ++ name ∷ [] = w ∙ kept_new seen name new in
    subst (λ (x : List (List ℕ)). Seen names x rest) (sym same) (record {
      parts = h.parts
          ∙ sym (append_assoc seen (name ∷ []) rest);
      distinct = IsDistinct-push laws seen name h.distinct new;
    })

pub one_twice : (names seen rest : List (List ℕ)) (name : List ℕ) (place : ℕ) → Seen names seen (name ∷ rest) → place ≡ length seen + 1
    → IsSome (place_of seen name) → IsTwice names place name
one_twice names seen rest name place h e s = record {
  before = seen;
  behind = rest;
  parts = h.parts;
  count = e;
  distinct = h.distinct;
  twice = sym (found seen name) ∙ s;
}

pub all_seen : (names seen rest : List (List ℕ)) → Seen names seen rest → length rest ≡ 0 → IsDistinct bytes_eq names
all_seen names seen [] h e = subst (IsDistinct bytes_eq) (sym (h.parts ∙ append-nil seen)) h.distinct
all_seen names seen (n ∷ rest) h e = absurd (omega arith)

pub seen_length : (names seen rest : List (List ℕ)) → Seen names seen rest → length seen + length rest ≡ length names
seen_length names seen rest h = omega (arith, ap length h.parts, length-append seen rest)

pub one_longer : (seen more : List (List ℕ)) (name : List ℕ) → place_of seen name ≡ None → more ≡ with_name seen name → length more ≡ length seen + 1
one_longer seen more name e w = ap length (w ∙ kept_new seen name (not_there seen name e)) ∙ length-append seen (name ∷ [])

-- ---- names that are known to be distinct

pub apart : (kept : List (List ℕ)) (name : List ℕ) (rest : List (List ℕ)) → IsDistinct bytes_eq (kept ++ name ∷ rest) → list_any (bytes_eq name) kept ≡ false
unfolding IsDistinct
apart [] name rest h = refl
apart (n ∷ kept) name rest h =
    let first : bytes_eq name n ≡ false = laws.symm name n ∙ all_apart kept h.0 in
    ap (λ (b : Bool). b || list_any (bytes_eq name) kept) first ∙ apart kept name rest h.1
  where
    all_apart : (xs : List (List ℕ)) → AllByRecursion (λ (y : List ℕ). bytes_eq n y ≡ false) (xs ++ name ∷ rest) → bytes_eq n name ≡ false
    all_apart [] h = h.0
    all_apart (x ∷ xs) h = all_apart xs h.1

pub keeps : (names kept more rest : List (List ℕ)) (name : List ℕ) → IsDistinct bytes_eq names → kept ++ name ∷ rest ≡ names
    → more ≡ with_name kept name → more ++ rest ≡ names
keeps names kept more rest name d h w =
    let new = apart kept name rest (subst (IsDistinct bytes_eq) (sym h) d) in
    ap (λ (x : List (List ℕ)). x ++ rest) (w ∙ kept_new kept name new) ∙ append_assoc kept (name ∷ []) rest ∙ h

pub kept_length : (names kept rest : List (List ℕ)) → kept ++ rest ≡ names → length kept + length rest ≡ length names
kept_length names kept rest h = omega (arith, ap length h, length-append kept rest)

pub kept_all : (names kept rest : List (List ℕ)) → kept ++ rest ≡ names → length rest ≡ 0 → kept ≡ names
kept_all names kept [] h e = sym (append-nil kept) ∙ h
kept_all names kept (n ∷ rest) h e = absurd (omega arith)

-- ---- for the loops

pub ruleset line_turns = (names_end, names_more)

pub ruleset search_turns = (none_seen, one_seen, one_longer, one_twice, all_seen, seen_length)

pub ruleset copy_turns = (keeps, kept_length, kept_all)
