-- Bytes have one answer.
use Rattle.std.proofs.Common.{◌≡◌, ℕ, suc, ◌<◌, Bool, true, false, cond, List, [], ◌∷◌, Option, Some, None, Result, Ok, Err, refl, sym, ap, ◌∙◌, length, arith}
use Rattle.asl_lexer.specs.declared.token.Tok.{Tok}
use Rattle.asl_lexer.specs.declared.token.LexFault.{LexFault}
use Rattle.asl_lexer.specs.Words.{pieces, is_end}
use Rattle.asl_lexer.specs.Lexing.{Lexes, start}
use Rattle.asl_lexer.proofs.One as lexer
use Rattle.asl_term.specs.declared.syntax.LiteralOf.{LiteralOf}
use Rattle.asl_term.specs.declared.syntax.Term.{Term}
use Rattle.asl_term.specs.declared.syntax.Trigger.{Trigger}
use Rattle.asl_term.specs.declared.syntax.AgentText.{AgentText}
use Rattle.asl_parser_expr.specs.declared.fault.TextFault.{TextFault}
use Rattle.asl_parser_expr.specs.declared.fault.TextFault.TheVariants.{Memory, Lex, Clause, Limit}
use Rattle.asl_parser_tree.specs.Lexemes.{lexemes_from, lexemes}
use Rattle.asl_parser_tree.specs.Limits.{too_deep}
use Rattle.asl_parser.specs.declared.sentence.Sentence.{Sentence}
use Rattle.asl_parser_tree.specs.declared.lexeme.Lexeme.{Lexeme}
use Rattle.asl_parser_expr.proofs.Shorter.{shorter_literal}
use Rattle.asl_parser.specs.Sentences.{ReadsHead, a_head, ReadsLabel, no_label, a_label, ReadsTrigger, a_trigger, Says, says_fact, says_rule, says_goal, says_plan}
use Rattle.asl_parser.specs.Speaking.{sentence_by}
use Rattle.asl_parser_tree.specs.Holding.{limited}
use Rattle.asl_parser.specs.Limits.{is_within}
use Rattle.asl_parser.specs.Holding.{KeptSentence, hold_sentence}
use Rattle.asl_parser.proofs.Answered.{limited_by, said_kept, ok_is}
use Rattle.asl_parser.specs.Agents.{nothing, all_added, Answers, all_read, brackets, no_clause, large, is_read, is_later, IsRefused, IsAgent, IsAnswer}
use Rattle.asl_parser.specs.Answering.{said, piece_by, onto, answer_by}
use Rattle.asl_parser.proofs.Spoken.{sound_sentence}
use Rattle.asl_parser.proofs.Spelled.{complete_sentence}

-- ---- a clause has tokens

head_some : {n : ℕ} {xs ys : List Lexeme} {l : LiteralOf Term} → ReadsHead n xs ys l → 0 < length xs
head_some (a_head r e) = omega (arith, shorter_literal r)

plan_some : {n : ℕ} {xs ys zs : List Lexeme} {o : Option (List ℕ)} {t : Trigger} → ReadsLabel xs ys o → ReadsTrigger n ys zs t → 0 < length xs
plan_some no_label (a_trigger e k h) = omega arith
plan_some (a_label e) t = omega arith

says_some : {n : ℕ} {xs : List Lexeme} {s : Sentence} → Says n xs s → 0 < length xs
says_some (says_fact h e) = head_some h
says_some (says_rule h r) = head_some h
says_some (says_goal h) = omega arith
says_some (says_plan l t c b) = plan_some l t

no_lexemes : lexemes [] ≡ []
unfolding lexemes_from
no_lexemes = refl

none_said : {A : Type 0} {n : ℕ} {s : Sentence} → Says n (lexemes []) s → A
none_said h = absurd (omega (arith, says_some h, ap length no_lexemes))

none_deep : {A : Type 0} → too_deep 250 0 (lexemes []) ≡ true → A
unfolding too_deep
none_deep e = let f : false ≡ true = ap (too_deep 250 0) (sym no_lexemes) ∙ e in absurd cc

not_said : (n : ℕ) (xs : List Lexeme) → ((s : Sentence) → Says n xs s → ⊥) → sentence_by limited n xs ≡ None
not_said n xs h = go (sentence_by limited n xs) refl
  where
    go : (o : Option KeptSentence) → sentence_by limited n xs ≡ o → o ≡ None
    go None e = refl
    go (Some s) e = let r = sound_sentence limited n xs s e in absurd (h r.value r.holds)

-- ---- the pieces have one answer

-- what comes before the rest, by the brackets, the reading and the trees of the first piece
abbrev first : ℕ → Tok → Result (List Sentence) TextFault → Bool → Option KeptSentence → Result (List Sentence) TextFault
first k t rest b o = onto (cond b (Err (Limit k)) (said k t o)) rest

sized : ℕ → Sentence → Result (List Sentence) TextFault → Bool → Result (List Sentence) TextFault
sized k s rest b = onto (limited_by k s b) rest

said_first : (k : ℕ) (t : Tok) (ts : List Tok) (ps : List (List Tok)) (s : Sentence) (b : Bool) → too_deep 250 0 (lexemes (t ∷ ts)) ≡ false → Says 250 (lexemes (t ∷ ts)) s → is_within s ≡ b → answer_by k ((t ∷ ts) ∷ ps) ≡ sized k s (answer_by (suc k) ps) b
unfolding answer_by piece_by sized
said_first k t ts ps s b d h w =
    let rest = answer_by (suc k) ps in
    ap (λ (b : Bool). first k t rest b (sentence_by limited 250 (lexemes (t ∷ ts)))) d
    ∙ ap (λ (o : Option KeptSentence). first k t rest false o) (complete_sentence limited 250 (lexemes (t ∷ ts)) s h)
    ∙ ap (λ (x : Result Sentence TextFault). onto x rest) (said_kept k t s)
    ∙ ap (sized k s rest) w

pub answers_only : {k : ℕ} {ps : List (List Tok)} {r : Result (List Sentence) TextFault} → Answers k ps r → answer_by k ps ≡ r
unfolding answer_by piece_by sized
answers_only all_read = refl
answers_only (brackets {p = []} d) = none_deep d
answers_only (brackets {k = k} {p = t ∷ ts} {ps = ps} d) = ap (λ (b : Bool). first k t (answer_by (suc k) ps) b (sentence_by limited 250 (lexemes (t ∷ ts)))) d
answers_only (no_clause {k = k} {t = t} {ts = ts} {ps = ps} d h) =
    ap (λ (b : Bool). first k t (answer_by (suc k) ps) b (sentence_by limited 250 (lexemes (t ∷ ts)))) d
    ∙ ap (λ (o : Option KeptSentence). first k t (answer_by (suc k) ps) false o) (not_said 250 (lexemes (t ∷ ts)) (h 250))
answers_only (large {p = []} d h w) = none_said h
answers_only (large {k = k} {p = t ∷ ts} {ps = ps} {s = s} d h w) = said_first k t ts ps s false d h w
answers_only (is_read {p = []} d h w a) = none_said h
answers_only (is_read {k = k} {p = t ∷ ts} {ps = ps} {s = s} d h w a) = said_first k t ts ps s true d h w ∙ ap (onto (Ok s)) (answers_only a)
answers_only (is_later {p = []} d h w a) = none_said h
answers_only (is_later {k = k} {p = t ∷ ts} {ps = ps} {s = s} d h w a) = said_first k t ts ps s true d h w ∙ ap (onto (Ok s)) (answers_only a)

-- ---- the bytes have one answer

answer_of : Result (List Tok) LexFault → Result (List Sentence) TextFault
answer_of (Ok ts) = answer_by 1 (pieces is_end ts)
answer_of (Err fault) = Err (Lex fault)

-- where an answer comes from
record Source (bytes : List ℕ) (r : Result (List Sentence) TextFault) : Type 0 where
  lexed : Result (List Tok) LexFault
  is : Lexes start bytes lexed
  gives : answer_of lexed ≡ r

refused_source : (bytes : List ℕ) (fault : TextFault) → IsRefused bytes fault → Source bytes (Err fault)
unfolding answer_of
refused_source bytes fault a = record { lexed = Ok a.tokens; is = a.lexed; gives = answers_only a.refused }

source : (bytes : List ℕ) (r : Result (List Sentence) TextFault) → IsAnswer bytes r → Source bytes r
unfolding answer_of
source bytes (Ok said) a = record { lexed = Ok a.tokens; is = a.lexed; gives = answers_only a.read }
source bytes (Err Memory) a = absurd a
source bytes (Err (Lex fault)) a = record { lexed = Err fault; is = a; gives = refl }
source bytes (Err (Clause number line column)) a = refused_source bytes (Clause number line column) a
source bytes (Err (Limit number)) a = refused_source bytes (Limit number) a

pub one_answer : (bytes : List ℕ) (r s : Result (List Sentence) TextFault) → IsAnswer bytes r → IsAnswer bytes s → r ≡ s
one_answer bytes r s a b =
    let x = source bytes r a in
    let y = source bytes s b in
    sym x.gives ∙ ap answer_of (lexer.one_answer bytes x.lexed y.lexed x.is y.is) ∙ y.gives

pub one_agent : (bytes : List ℕ) (a b : AgentText) → IsAgent bytes a → IsAgent bytes b → a ≡ b
one_agent bytes a b x y =
    x.together ∙ ap (all_added nothing) (ok_is (one_answer bytes (Ok x.sentences) (Ok y.sentences) x.said y.said)) ∙ sym y.together
