-- The file of each agent of the demo is the source of an agent.
use Rattle.std.proofs.Common.{◌≡◌, ℕ, suc, true, false, List, [], ◌∷◌, map, Option, Some, None, Ok, refl, ap, sym, ◌∙◌, subst, arith}
use Rattle.std.specs.Prelude.{codes, decimal}
use Rattle.std.specs.Option.{option_map_or}
use Rattle.std.proofs.lemmas.Bool.{and_from}
use Rattle.asl_lexer.specs.declared.token.Tok.{Tok}
use Rattle.asl_lexer.specs.declared.token.Sign.TheVariants as sign
use Rattle.asl_lexer.specs.Spelling.{sign_of}
use Rattle.asl_lexer.specs.Scan.{value}
use Rattle.asl_lexer.specs.Words.{atom_word, is_end, pieces}
use Rattle.asl_lexer.specs.Bare.{Bare, bare}
use Rattle.asl_lexer.proofs.NumberTexts.{numbers_read}
use Rattle.asl_lexer.proofs.Seams.{before_stop, whole}
use Rattle.asl_term.specs.declared.syntax.AgentText.{AgentText}
use Rattle.asl_term.specs.declared.syntax.Expr.TheVariants as expr
use Rattle.asl_term.specs.declared.syntax.Formula.TheVariants as formula
use Rattle.asl_term.specs.declared.syntax.Kind.TheVariants as kind
use Rattle.asl_parser_tree.specs.declared.lexeme.Lexeme.{Lexeme}
use Rattle.asl_parser_tree.specs.declared.lexeme.Lexeme.TheVariants.{Atom, Var, Num, Str, Inner, Sign, End, Other}
use Rattle.asl_parser_tree.specs.Lexemes.{lexeme_of, lexemes}
use Rattle.asl_parser_tree.specs.Limits.{too_deep}
use Rattle.asl_parser_expr.specs.Grammar.{a_literal}
use Rattle.asl_parser.specs.declared.sentence.Sentence.{Sentence}
use Rattle.asl_parser.specs.declared.sentence.Sentence.TheVariants as sentence
use Rattle.asl_parser.specs.Limits.{is_within}
use Rattle.asl_parser.specs.Sentences.{Says, says_goal, says_plan, a_head, no_label, a_trigger, an_achievement, no_context, a_context, a_formula, a_body, only_item, more_items, with_sign, without_sign}
use Rattle.asl_parser.specs.Agents.{Answers, all_read, is_read, IsAgent, AreSentences, nothing, all_added}
use Rattle.mas_top_demo.specs.Files.{agent_source}
use Rattle.mas_top_demo.proofs.Tokens.{Few, goal_tokens, last_tokens, step_tokens, agent_tokens, agent_given}
use Rattle.mas_top_demo.proofs.Cut.{cut, cut_same, lexed_from, lexed_same}
use Rattle.mas_top_demo.proofs.Reading.{number_term, n_term, less_one, with_term, print_ready, above_zero, as_all, number_read, n_read, less_one_read, literal_read, above_zero_read, print_read}
use Rattle.mas_top_demo.proofs.Reading.{number_sized, n_sized, less_one_sized, literal_within, true_within, above_zero_within, print_within, number_head, n_head}

-- ---- what the tokens are to the grammar

abbrev num : Option ℕ → Lexeme
num o = option_map_or Num o Other

-- `!go(`
abbrev going : List Lexeme → List Lexeme
going xs = Sign sign.Bang ∷ Atom (codes "go") ∷ Sign sign.Open ∷ xs

abbrev goal_by : Lexeme → List Lexeme
goal_by n = going (n ∷ Sign sign.Close ∷ End ∷ [])

goal_lexed : lexed_from 1 goal_tokens ≡ goal_by (Num 50)
unfolding lexeme_of sign_of atom_word
goal_lexed = ap (λ o. goal_by (num o)) (numbers_read 50 (omega arith))

abbrev last_by : Lexeme → List Lexeme
last_by n =
    Sign sign.Plus ∷ going (n ∷ Sign sign.Close ∷ Sign sign.LeftArrow ∷ Inner (codes "print") ∷ Sign sign.Open ∷ Str (codes "ready") ∷ Sign sign.Close
    ∷ End ∷ [])

last_lexed : lexed_from 1 last_tokens ≡ last_by (Num 0)
unfolding lexeme_of sign_of atom_word
last_lexed = ap (λ o. last_by (num o)) (numbers_read 0 (omega arith))

abbrev step_by : Lexeme → Lexeme → Lexeme → List Lexeme
step_by zero_n i one_n =
    Sign sign.Plus ∷ going (Var (codes "N") ∷ Sign sign.Close ∷ Sign sign.Colon ∷ Var (codes "N") ∷ Sign sign.More ∷ zero_n ∷ Sign sign.LeftArrow
    ∷ Atom (codes "tally_add") ∷ Sign sign.Open ∷ i ∷ Sign sign.Close ∷ Sign sign.Semicolon
    ∷ going (Var (codes "N") ∷ Sign sign.Minus ∷ one_n ∷ Sign sign.Close ∷ End ∷ []))

step_lexed : (i : ℕ) → Few i → lexed_from 1 (step_tokens i) ≡ step_by (Num 0) (Num i) (Num 1)
unfolding lexeme_of sign_of atom_word
step_lexed i le =
    let zero_read : value (decimal 0) ≡ Some 0 = numbers_read 0 (omega arith) in
    let one_read : value (decimal 1) ≡ Some 1 = numbers_read 1 (omega arith) in
    λ j. step_by (num (zero_read j)) (num (numbers_read i le j)) (num (one_read j))

-- ---- what they say

abbrev goal_said : Sentence
goal_said = sentence.Goal (with_term (codes "go") (number_term 50))

goal_says : (n : ℕ) → Says (suc n) (goal_by (Num 50)) goal_said
goal_says n = says_goal (a_head (literal_read (number_read 50 (omega arith))) (number_head (codes "go") 50))

abbrev last_said : Sentence
last_said = sentence.Plan (record {
  label = None;
  trigger = record { add = true; kind = kind.Achieve; lit = with_term (codes "go") (number_term 0) };
  context = expr.True;
  body = formula.Inner print_ready ∷ [];
})

last_says : (n : ℕ) → Says (suc n) (last_by (Num 0)) last_said
last_says n =
    says_plan no_label (a_trigger refl an_achievement (a_head (literal_read (number_read 0 (omega arith))) (number_head (codes "go") 0))) no_context
    (a_body (only_item (without_sign refl print_read refl) refl))

abbrev step_said : ℕ → Sentence
step_said i = sentence.Plan (record {
  label = None;
  trigger = record { add = true; kind = kind.Achieve; lit = with_term (codes "go") n_term };
  context = expr.Rel above_zero;
  body = formula.Act (with_term (codes "tally_add") (number_term i)) ∷ formula.Achieve (with_term (codes "go") less_one) ∷ [];
})

step_says : (n i : ℕ) → Few i → Says (suc n) (step_by (Num 0) (Num i) (Num 1)) (step_said i)
step_says n i le =
    says_plan no_label (a_trigger refl an_achievement (a_head (literal_read n_read) (n_head (codes "go"))))
    (a_context (a_formula above_zero_read refl))
    (a_body (more_items (without_sign refl (as_all (a_literal (literal_read (number_read i le)))) refl)
    (only_item (with_sign refl (literal_read less_one_read) refl) refl) refl))

-- ---- within the limits

goal_within : is_within goal_said ≡ true
goal_within = literal_within (codes "go") (number_term 50) (number_sized 50) refl

last_within : is_within last_said ≡ true
last_within = and_from _ _ (literal_within (codes "go") (number_term 0) (number_sized 0) refl)
    (and_from _ _ true_within (and_from _ _ print_within refl))

step_within : (i : ℕ) → is_within (step_said i) ≡ true
step_within i = and_from _ _ (literal_within (codes "go") n_term n_sized refl) (and_from _ _ above_zero_within
    (and_from _ _ (literal_within (codes "tally_add") (number_term i) (number_sized i) refl)
    (and_from _ _ (literal_within (codes "go") less_one less_one_sized refl) refl)))

-- ---- the clauses of a file

-- a clause of these tokens says this
record Clause (c : List Bare) (s : Sentence) : Type 0 where
  shallow : too_deep 250 0 (lexed_from 1 c) ≡ false
  says : Says 250 (lexed_from 1 c) s
  within : is_within s ≡ true

clause : (c : List Bare) (ls : List Lexeme) (s : Sentence) → lexed_from 1 c ≡ ls → too_deep 250 0 ls ≡ false → Says 250 ls s → is_within s ≡ true → Clause c s
clause c ls s e d r w = record {
  shallow = ap (too_deep 250 0) e ∙ d;
  says = subst (λ (xs : List Lexeme). Says 250 xs s) (sym e) r;
  within = w;
}

data Clauses : List (List Bare) → List Sentence → Type 0 where
  no_clauses : Clauses [] []
  next_clause : {c : List Bare} {s : Sentence} {cs : List (List Bare)} {ss : List Sentence} → Clause c s → Clauses cs ss → Clauses (c ∷ cs) (s ∷ ss)

answers : (k : ℕ) (ps : List (List Tok)) {cs : List (List Bare)} {ss : List Sentence} → Clauses cs ss → map (map bare) ps ≡ cs → Answers k ps (Ok ss)
answers k [] no_clauses e = all_read
answers k (p ∷ ps) no_clauses e = absurd cc
answers k [] (next_clause h hs) e = absurd cc
answers k (p ∷ ps) (next_clause {c = c} {s = s} {cs = cs} h hs) e =
    let first : map bare p ≡ c = cc in
    let others : map (map bare) ps ≡ cs = cc in
    let same : lexemes p ≡ lexed_from 1 c = lexed_same 1 p ∙ ap (lexed_from 1) first in
    is_read (ap (too_deep 250 0) same ∙ h.shallow) (subst (λ (xs : List Lexeme). Says 250 xs s) (sym same) h.says) h.within (answers (suc k) ps hs others)

abbrev pub all_said : ℕ → List Sentence
all_said i = goal_said ∷ last_said ∷ step_said i ∷ []

all_clauses : (i : ℕ) → Few i → Clauses (goal_tokens ∷ last_tokens ∷ step_tokens i ∷ []) (all_said i)
unfolding too_deep
all_clauses i le =
    next_clause (clause goal_tokens (goal_by (Num 50)) goal_said goal_lexed refl (goal_says 249) goal_within)
    (next_clause (clause last_tokens (last_by (Num 0)) last_said last_lexed refl (last_says 249) last_within)
    (next_clause (clause (step_tokens i) (step_by (Num 0) (Num i) (Num 1)) (step_said i) (step_lexed i le) refl (step_says 249 i le) (step_within i))
    no_clauses))

all_cut : (i : ℕ) → cut is_end (agent_tokens i) ≡ goal_tokens ∷ last_tokens ∷ step_tokens i ∷ []
unfolding sign_of atom_word
all_cut i = refl

-- ---- the whole

abbrev pub demo_agent : ℕ → AgentText
demo_agent i = all_added nothing (all_said i)

pub agent_said : (i : ℕ) → Few i → AreSentences (agent_source i) (all_said i)
agent_said i le =
    let t = whole (before_stop (agent_given i le)) in
    record {
      tokens = t.toks;
      lexed = t.lexed;
      read = answers 1 (pieces is_end t.toks) (all_clauses i le) (cut_same is_end t.toks ∙ ap (cut is_end) t.same ∙ all_cut i);
    }

-- the file of the agent of this number is its source
pub is_agent : (i : ℕ) → Few i → IsAgent (agent_source i) (demo_agent i)
is_agent i le = record { sentences = all_said i; said = agent_said i le; together = refl }
