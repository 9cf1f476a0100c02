-- The text of the agent of a source is a source of it.
use Rattle.std.proofs.Common.{◌≡◌, ℕ, suc, Bool, true, false, List, [], ◌∷◌, ◌++◌, map, Ok, refl, ap, sym, ◌∙◌, subst}
use Rattle.std.specs.List.{list_all}
use Rattle.std.proofs.lemmas.Bool.{and_from}
use Rattle.std.proofs.lemmas.List.{append-nil}
use Rattle.asl_lexer.specs.declared.token.Tok.{Tok}
use Rattle.asl_lexer.specs.Words.{pieces, is_end}
use Rattle.asl_lexer.specs.Bare.{Bare, bare}
use Rattle.asl_lexer.specs.Seams.{Gives, Stop}
use Rattle.asl_lexer.proofs.Bytes.{both}
use Rattle.asl_lexer.proofs.Seams.{whole, before_stop}
use Rattle.asl_lexer.proofs.SpelledTokens.{tokens_spelled}
use Rattle.asl_term.specs.declared.syntax.AgentText.{AgentText}
use Rattle.asl_term.specs.declared.syntax.Plan.{Plan}
use Rattle.asl_parser_tree.specs.declared.lexeme.Lexeme.{Lexeme}
use Rattle.asl_parser_tree.specs.Lexemes.{lexemes}
use Rattle.asl_parser_tree.specs.Limits.{too_deep}
use Rattle.asl_parser.specs.declared.sentence.Sentence.{Sentence}
use Rattle.asl_parser.specs.declared.sentence.Sentence.TheVariants as sentence
use Rattle.asl_parser.specs.Limits.{is_within}
use Rattle.asl_parser.specs.Sentences.{Says}
use Rattle.asl_parser.specs.Agents.{Answers, all_read, is_read, IsAgent}
use Rattle.asl_parser.proofs.Bounded.{says_within}
use Rattle.asl_print.specs.Agents.{alone, plan_line, agent_text}
use Rattle.asl_print.specs.Tokens.{plan_tokens, agent_tokens}
use Rattle.asl_print.specs.Spelled.{is_spelled_literal, is_spelled_rule, is_spelled_plan, is_spelled_agent}
use Rattle.asl_print.proofs.Agents.{agent_gives, line_stops}
use Rattle.asl_print.proofs.Pieces.{clauses_cut}
use Rattle.asl_print_reread.proofs.Turns.{again, bare_lexemes, by_bares, turned}
use Rattle.asl_print_reread.proofs.Clauses.{sentence_tokens, sentence_shown, is_spelled_sentence, GoodSentence, good_sentence}
use Rattle.asl_print_reread.proofs.FineTokens.{spelled_tok, all_spelled, fine_tokens, spelled_all, spelled_pieces}
use Rattle.asl_print_reread.proofs.Opened.{not_deep, sentence_opens}
use Rattle.asl_print_reread.proofs.Gathered.{sentences_of, gathered, their_tokens, Every, every_none, every_next, in_order}

-- the unnamed variables of what was read are counted in the order in which they are printed
abbrev pub Counts : Type 0
Counts = (p : List Tok) (s : Sentence) → list_all spelled_tok p ≡ true → Says 250 (lexemes p) s → is_within s ≡ true
    → again 1 (sentence_shown s) ≡ sentence_shown s

record Kept (s : Sentence) : Type 0 where
  good : GoodSentence s
  within : is_within s ≡ true
  counted : again 1 (sentence_shown s) ≡ sentence_shown s

all_kept : Counts → {k : ℕ} {ps : List (List Tok)} {ss : List Sentence} → Answers k ps (Ok ss) → spelled_all ps ≡ true → Every Kept ss
all_kept c all_read f = every_none
all_kept c (is_read {p = p} {ps = ps} {s = s} d h w a) f =
    let e = both (list_all spelled_tok p) (spelled_all ps) f in
    every_next (record { good = good_sentence h (fine_tokens 1 p e.0); within = w; counted = c p s e.0 h w }) (all_kept c a e.1)

-- ---- it is spelled

spelled_kind : {A : Type 0} (f : A → Sentence) (ok : A → Bool) → ((x : A) → is_spelled_sentence (f x) ≡ true → ok x ≡ true) → (xs : List A)
    → (ss : List Sentence) → Every Kept (map f xs ++ ss) → (list_all ok xs ≡ true) × Every Kept ss
spelled_kind f ok h [] ss k = (refl, k)
spelled_kind f ok h (x ∷ xs) ss (every_next p g) =
    let r = spelled_kind f ok h xs ss g in
    (and_from (ok x) (list_all ok xs) (h x p.good.spelled) r.0, r.1)

spelled_last : {A : Type 0} (f : A → Sentence) (ok : A → Bool) → ((x : A) → is_spelled_sentence (f x) ≡ true → ok x ≡ true) → (xs : List A)
    → Every Kept (map f xs) → list_all ok xs ≡ true
spelled_last f ok h [] k = refl
spelled_last f ok h (x ∷ xs) (every_next p g) = and_from (ok x) (list_all ok xs) (h x p.good.spelled) (spelled_last f ok h xs g)

all_spelled_agent : (a : AgentText) → Every Kept (sentences_of a) → is_spelled_agent a ≡ true
all_spelled_agent a k =
    let b = spelled_kind sentence.Belief is_spelled_literal (λ x e. e) a.beliefs _ k in
    let r = spelled_kind sentence.Rule is_spelled_rule (λ x e. e) a.rules _ b.1 in
    let g = spelled_kind sentence.Goal is_spelled_literal (λ x e. e) a.goals _ r.1 in
    let p = spelled_last sentence.Plan is_spelled_plan (λ x e. e) a.plans g.1 in
    and_from (list_all is_spelled_literal a.beliefs) _ b.0
    (and_from (list_all is_spelled_rule a.rules) _ r.0 (and_from (list_all is_spelled_literal a.goals) (list_all is_spelled_plan a.plans) g.0 p))

-- ---- its pieces say the same

piece_lexemes : (p : List Tok) (s : Sentence) → Kept s → map bare p ≡ sentence_tokens s → lexemes p ≡ sentence_shown s
piece_lexemes p s k e = by_bares 1 p ∙ ap (bare_lexemes 1) e ∙ turned k.good.turns 1 ∙ k.counted

piece_fits : (p : List Tok) (s : Sentence) → Kept s → map bare p ≡ sentence_tokens s → too_deep 250 0 (lexemes p) ≡ false
piece_fits p s k e =
    ap (too_deep 250 0) (by_bares 1 p ∙ ap (bare_lexemes 1) e) ∙ not_deep 250 1 (sentence_tokens s) 0 (sentence_opens s k.within)

piece_says : (p : List Tok) (s : Sentence) → Kept s → map bare p ≡ sentence_tokens s → Says 250 (lexemes p) s
piece_says p s k e =
    says_within k.good.need (lexemes p) s (piece_fits p s k e)
    (subst (λ (xs : List Lexeme). Says k.good.need xs s) (sym (piece_lexemes p s k e)) k.good.says)

answers : (k : ℕ) (ps : List (List Tok)) {ss : List Sentence} → Every Kept ss → map (map bare) ps ≡ map sentence_tokens ss → Answers k ps (Ok ss)
answers k [] every_none e = all_read
answers k (p ∷ ps) every_none e = absurd cc
answers k [] (every_next h hs) e = absurd cc
answers k (p ∷ ps) (every_next {s = s} {ss = ss} h hs) e =
    let first : map bare p ≡ sentence_tokens s = cc in
    let others : map (map bare) ps ≡ map sentence_tokens ss = cc in
    is_read (piece_fits p s h first) (piece_says p s h first) h.within (answers (suc k) ps hs others)

-- a text that gives the tokens of the agent is a source of it
printed_as : (text : List ℕ) (a : AgentText) → Every Kept (sentences_of a) → (is_spelled_agent a ≡ true → Gives Stop text (agent_tokens a)) → IsAgent text a
printed_as text a k gives =
    let t = whole (gives (all_spelled_agent a k)) in
    record {
      sentences = sentences_of a;
      said = record {
        tokens = t.toks;
        lexed = t.lexed;
        read = answers 1 (pieces is_end t.toks) k (clauses_cut a t.toks t.same ∙ sym (their_tokens a));
      };
      together = sym (gathered a);
    }

kept_of : Counts → (bytes : List ℕ) (a : AgentText) → IsAgent bytes a → Every Kept (sentences_of a)
kept_of c bytes a is =
    let toks = is.said.tokens in
    let spelled = spelled_pieces is_end toks (all_spelled toks (tokens_spelled bytes toks is.said.lexed)) in
    let every = in_order Kept (all_kept c is.said.read spelled) in
    subst (λ (b : AgentText). Every Kept (sentences_of b)) (sym is.together) every

pub printed_is_read : Counts → (bytes : List ℕ) (a : AgentText) → IsAgent bytes a → IsAgent (agent_text a) a
printed_is_read c bytes a is = printed_as (agent_text a) a (kept_of c bytes a is) (λ s. before_stop (agent_gives a s))

-- the tokens of an agent with one plan are those of the plan
plan_spelled : (p : Plan) → is_spelled_agent (alone p) ≡ true → is_spelled_plan p ≡ true
plan_spelled p s = (both (is_spelled_plan p) true s).0

alone_tokens : (p : Plan) → plan_tokens p ≡ agent_tokens (alone p)
alone_tokens p = sym (append-nil (plan_tokens p))

pub line_is_read : Counts → (bytes : List ℕ) (p : Plan) → IsAgent bytes (alone p) → IsAgent (plan_line p) (alone p)
line_is_read c bytes p is =
    printed_as (plan_line p) (alone p) (kept_of c bytes (alone p) is)
    (λ s. subst (λ (ts : List Bare). Gives Stop (plan_line p) ts) (alone_tokens p) (line_stops p (plan_spelled p s)))
