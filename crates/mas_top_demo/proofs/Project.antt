-- The tokens of the demo's project.
use Rattle.std.proofs.Common.{◌≡◌, ℕ, zero, suc, ◌+◌, Bool, true, false, List, [], ◌∷◌, ◌++◌, refl, arith}
use Rattle.std.specs.Prelude.{codes, ◌||◌}
use Rattle.std.specs.Fmt.{decimal}
use Rattle.std.specs.List.{list_all, flat_map, range_with_len}
use Rattle.std.specs.Str.Parse.{AllDigits}
use Rattle.std.proofs.lemmas.Bool.{le-leb, and_from}
use Rattle.std.proofs.lemmas.Fmt.{decimal_is_IsNumeral}
use Rattle.std.proofs.lemmas.Str.Parse.{digit_from_value}
use Rattle.asl_lexer.specs.declared.token.Sign.TheVariants as sign
use Rattle.asl_lexer.specs.Spelling.{sign_of, is_lower, is_upper, is_digit, is_word}
use Rattle.asl_lexer.specs.Bare.{Bare, mark, atom, var, is_atom}
use Rattle.asl_lexer.specs.Seams.{Gives, Any}
use Rattle.asl_lexer.proofs.Seams.{names_give, variables_give, gives_nothing, then, next}
use Rattle.asl_lexer.proofs.SignTexts.{Free, signs_give, semicolon, colon, space, feed, blank_free}
use Rattle.mas_top_demo.specs.Files.{agent_name, entry_text, project_front, project_back, project_source}
use Rattle.mas_top_demo.proofs.Tokens.{Few}

-- ---- the names of the agents

all_words : (ds : List ℕ) → AllDigits 10 ds → list_all is_word ds ≡ true
all_words [] d = refl
all_words (c ∷ cs) d =
    let k = digit_from_value c d.0 in
    let low : is_digit c ≡ true = and_from _ _ (le-leb 48 c (omega (arith, k))) (le-leb c 57 (omega (arith, k))) in
    and_from (is_word c) (list_all is_word cs) (or_last (is_lower c || is_upper c) (is_digit c) low) (all_words cs d.1)
  where
    or_last : (a b : Bool) → b ≡ true → (a || b) ≡ true
    or_last true b e = refl
    or_last false b e = e

pub name_is_atom : (i : ℕ) → Few i → is_atom (agent_name i) ≡ true
name_is_atom i le = all_words (decimal i) (decimal_is_IsNumeral i (omega (arith, le))).0.1

-- ---- tokens

-- the tokens before the first entry: those of the first piece, and those before the first agent
abbrev pub title_tokens : List Bare
title_tokens = var (codes "MAS") ∷ atom (codes "demo") ∷ mark sign.OpenBrace ∷ []

abbrev pub option_tokens : List Bare
option_tokens = atom (codes "environment") ∷ mark sign.Colon ∷ atom (codes "demo") ∷ atom (codes "agents") ∷ mark sign.Colon ∷ []

abbrev pub entry_tokens : ℕ → List Bare
entry_tokens i = atom (agent_name i) ∷ mark sign.Semicolon ∷ []

abbrev pub last_token : List Bare
last_token = mark sign.CloseBrace ∷ []

title_given : Gives Any (codes "MAS demo { ") title_tokens
unfolding sign_of
title_given = then (variables_give (codes "MAS") refl) (next space (then (names_give (codes "demo") refl) (next space
    (then (signs_give sign.OpenBrace) space (λ rest q. refl))) (λ rest q. refl))) (λ rest q. refl)

option_given : Gives Free (codes "environment: demo agents:") option_tokens
option_given = then (names_give (codes "environment") refl) (then colon (next space (then (names_give (codes "demo") refl) (next space
    (then (names_give (codes "agents") refl) colon (λ rest q. refl))) (λ rest q. refl))) (λ rest q. blank_free)) (λ rest q. refl)

entry_given : (i : ℕ) → Few i → Gives Any (entry_text i) (entry_tokens i)
entry_given i le = next space (then (names_give (agent_name i) (name_is_atom i le)) semicolon (λ rest q. refl))

entries_given : (a n : ℕ) → Few (a + n) → Gives Any (flat_map entry_text (range_with_len a n)) (flat_map entry_tokens (range_with_len a n))
entries_given a zero le = gives_nothing Any
entries_given a (suc n) le = next (entry_given a (omega (arith, le))) (entries_given (a + 1) n (omega (arith, le)))

last_given : Gives Any (codes " }\n") last_token
unfolding sign_of
last_given = next space (then (signs_give sign.CloseBrace) feed (λ rest q. refl))

abbrev pub project_tokens : ℕ → List Bare
project_tokens k = title_tokens ++ (option_tokens ++ (flat_map entry_tokens (range_with_len 1 k) ++ last_token))

-- a blank comes behind the options
blank_next : (ns : List ℕ) (rest : List ℕ) → Free ((flat_map entry_text ns ++ codes " }\n") ++ rest)
blank_next [] rest = blank_free
blank_next (n ∷ ns) rest = blank_free

pub project_given : (k : ℕ) → Few (1 + k) → Gives Any (project_source k) (project_tokens k)
unfolding project_front project_back
project_given k le = next title_given (then option_given (next (entries_given 1 k le) last_given) (λ rest q. blank_next (range_with_len 1 k) rest))
