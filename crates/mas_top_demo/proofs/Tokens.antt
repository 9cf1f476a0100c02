-- The tokens of the demo's files.
use Rattle.std.proofs.Common.{◌≤◌, ℕ, pos, List, [], ◌∷◌, ◌++◌, refl, arith}
use Rattle.std.specs.Prelude.{codes}
use Rattle.std.specs.Fmt.{decimal, digits}
use Rattle.std.proofs.lemmas.Bool.{le-leb}
use Rattle.asl_lexer.specs.declared.token.Sign.TheVariants as sign
use Rattle.asl_lexer.specs.Bare.{Bare, mark, atom, var, inner, number, string, stop}
use Rattle.asl_lexer.specs.Seams.{Gives, Any, Stop}
use Rattle.asl_lexer.proofs.Seams.{names_give, variables_give, inners_give, then, next}
use Rattle.asl_lexer.proofs.SignTexts.{round_open, round_close, semicolon, plus, minus, more, left_arrow, colon, space, line_end, bang, lower_free, blank_free}
use Rattle.asl_lexer.proofs.StringTexts.{strings_give}
use Rattle.asl_lexer.proofs.NumberTexts.{numbers_give}
use Rattle.mas_top_demo.specs.Files.{source_front, source_back, agent_source, world_source}

-- a number of 63 bits
abbrev pub Few : ℕ → Type 0
Few n = n ≤ 9223372036854775807

-- a number gives its token before what goes on with no number
pub number_given : (n : ℕ) → Few n → Gives Stop (decimal n) (number n ∷ [])
number_given n le = numbers_give (pos n) (le-leb n 9223372036854775807 le)

-- ---- the agent: its goal, its last plan, and the plan that adds

abbrev going : List Bare
going = mark sign.Bang ∷ atom (codes "go") ∷ mark sign.Open ∷ []

going_given : Gives Any (codes "!go(") going
going_given = then bang (then (names_give (codes "go") refl) round_open (λ rest q. refl)) (λ rest q. lower_free 103 refl)

abbrev pub goal_tokens : List Bare
goal_tokens = going ++ number 50 ∷ mark sign.Close ∷ stop ∷ []

goal_given : Gives Any (codes "!go(50).\n") goal_tokens
unfolding digits
goal_given = next going_given (then (number_given 50 (omega arith)) (next round_close line_end) (λ rest q. refl))

abbrev pub last_tokens : List Bare
last_tokens =
    mark sign.Plus ∷ (going ++ number 0 ∷ mark sign.Close ∷ mark sign.LeftArrow ∷ inner (codes "print") ∷ mark sign.Open ∷ string (codes "ready")
    ∷ mark sign.Close ∷ stop ∷ [])

arrow_given : Gives Any (codes " <- ") (mark sign.LeftArrow ∷ [])
arrow_given = next space (next left_arrow space)

print_given : Gives Any (codes ".print(\"ready\").\n") (inner (codes "print") ∷ mark sign.Open ∷ string (codes "ready") ∷ mark sign.Close ∷ stop ∷ [])
print_given = then (inners_give (codes "print") refl) (next round_open (next (strings_give (codes "ready") refl) (next round_close line_end))) (λ rest q. refl)

last_given : Gives Any (codes "+!go(0) <- .print(\"ready\").\n") last_tokens
unfolding digits
last_given = next plus (next going_given (then (number_given 0 (omega arith)) (next round_close (next arrow_given print_given)) (λ rest q. refl)))

-- up to the number of the agent
abbrev step_front : List Bare
step_front =
    mark sign.Plus ∷ (going ++ var (codes "N") ∷ mark sign.Close ∷ mark sign.Colon ∷ var (codes "N") ∷ mark sign.More ∷ number 0 ∷ mark sign.LeftArrow
    ∷ atom (codes "tally_add") ∷ mark sign.Open ∷ [])

context_given : Gives Any (codes " : N > 0 <- ") (mark sign.Colon ∷ var (codes "N") ∷ mark sign.More ∷ number 0 ∷ mark sign.LeftArrow ∷ [])
unfolding digits
context_given = next space (then colon (next space (then (variables_give (codes "N") refl) (next space (then more (next space
    (then (number_given 0 (omega arith)) arrow_given (λ rest q. refl))) (λ rest q. blank_free))) (λ rest q. refl))) (λ rest q. blank_free))

step_front_given : Gives Any (codes "+!go(N) : N > 0 <- tally_add(") step_front
step_front_given = next plus (next going_given (then (variables_give (codes "N") refl) (next round_close (next context_given
    (then (names_give (codes "tally_add") refl) round_open (λ rest q. refl)))) (λ rest q. refl)))

-- and behind it
abbrev step_back : List Bare
step_back =
    mark sign.Close ∷ mark sign.Semicolon ∷ (going ++ var (codes "N") ∷ mark sign.Minus ∷ number 1 ∷ mark sign.Close ∷ stop ∷ [])

less_one_given : Gives Any (codes "N - 1).\n") (var (codes "N") ∷ mark sign.Minus ∷ number 1 ∷ mark sign.Close ∷ stop ∷ [])
unfolding digits
less_one_given = then (variables_give (codes "N") refl) (next space (then minus (next space
    (then (number_given 1 (omega arith)) (next round_close line_end) (λ rest q. refl))) (λ rest q. (refl, refl)))) (λ rest q. refl)

back_given : Gives Any source_back step_back
unfolding source_back
back_given = next round_close (next semicolon (next space (next going_given less_one_given)))

abbrev pub step_tokens : ℕ → List Bare
step_tokens i = step_front ++ number i ∷ step_back

front_given : Gives Any source_front (goal_tokens ++ (last_tokens ++ step_front))
unfolding source_front
front_given = next goal_given (next last_given step_front_given)

abbrev pub agent_tokens : ℕ → List Bare
agent_tokens i = goal_tokens ++ (last_tokens ++ step_tokens i)

pub agent_given : (i : ℕ) → Few i → Gives Any (agent_source i) (agent_tokens i)
unfolding source_back
agent_given i le = next front_given (then (number_given i le) back_given (λ rest q. refl))

-- ---- the world

abbrev pub world_tokens : List Bare
world_tokens = atom (codes "use") ∷ atom (codes "tally") ∷ stop ∷ atom (codes "hide") ∷ atom (codes "tally") ∷ stop ∷ []

-- a word and the name behind it
line_given : (word : List ℕ) → Gives Stop word (atom word ∷ []) → Gives Any (word ++ codes " tally.\n") (atom word ∷ atom (codes "tally") ∷ stop ∷ [])
line_given word g = then g (next space (then (names_give (codes "tally") refl) line_end (λ rest q. refl))) (λ rest q. refl)

pub world_given : Gives Any world_source world_tokens
unfolding world_source
world_given = next (line_given (codes "use") (names_give (codes "use") refl)) (line_given (codes "hide") (names_give (codes "hide") refl))
