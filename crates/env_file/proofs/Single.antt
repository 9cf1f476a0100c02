-- Bytes have one answer.
use Rattle.std.proofs.Common.{◌≡◌, ℕ, ◌<◌, Bool, true, false, cond, List, [], ◌∷◌, Option, Some, None, Result, Ok, Err, refl, sym, ap, ◌∙◌, length, arith}
use Rattle.asl_lexer.specs.declared.token.Tok.{Tok}
use Rattle.asl_lexer.specs.declared.token.LexFault.{LexFault}
use Rattle.asl_lexer.specs.Words.{pieces, is_end}
use Rattle.asl_lexer.specs.Lexing.{Lexes, start}
use Rattle.asl_lexer.proofs.One as lexer
use Rattle.asl_term.specs.declared.syntax.LiteralOf.{LiteralOf}
use Rattle.asl_term.specs.declared.syntax.Term.{Term}
use Rattle.asl_parser_tree.specs.declared.lexeme.Lexeme.{Lexeme}
use Rattle.asl_parser_tree.specs.Lexemes.{lexemes_from, lexemes}
use Rattle.asl_parser_tree.specs.Limits.{too_deep}
use Rattle.asl_parser_tree.specs.Holding.{limited}
use Rattle.asl_parser_expr.proofs.Shorter.{shorter_literal}
use Rattle.asl_parser.specs.Sentences.{ReadsHead, a_head}
use Rattle.mas_world.specs.declared.acts.WorldText.{WorldText}
use Rattle.env_file.specs.declared.fault.WorldFault.{WorldFault}
use Rattle.env_file.specs.declared.fault.WorldFault.TheVariants.{Memory, Lex, Clause, Limit, Unbound, UnknownArtifact}
use Rattle.env_file.specs.declared.statement.Statement.{Statement}
use Rattle.env_file.specs.Statements.{States, a_fact, a_hide, a_use, an_act, Says}
use Rattle.env_file.specs.Limits.{is_within}
use Rattle.env_file.specs.Holding.{KeptStatement}
use Rattle.env_file.specs.Speaking.{statement_by}
use Rattle.env_file.specs.Worlds.{nothing, Answers, all_read, brackets, no_clause, large, is_refused, is_read, HasAnswer, IsAnswer}
use Rattle.env_file.specs.Answering.{said, piece_by, onward, answer_by}
use Rattle.env_file.proofs.Answered.{limited_by, said_kept, rest}
use Rattle.env_file.proofs.Spoken.{sound_statement}
use Rattle.env_file.proofs.Spelled.{complete_statement}

-- ---- a clause has tokens

head_some : {n : ℕ} {xs ys : List Lexeme} {l : LiteralOf Term} → ReadsHead n xs ys l → 0 < length xs
head_some (a_head r e) = omega (arith, shorter_literal r)

states_some : {n : ℕ} {xs : List Lexeme} {s : Statement} → States n xs s → 0 < length xs
states_some (a_fact h e) = head_some h
states_some (a_hide e f) = omega arith
states_some (a_use e f) = omega arith
states_some (an_act a h p b d g t) = omega arith

no_lexemes : lexemes [] ≡ []
unfolding lexemes_from
no_lexemes = refl

none_said : {A : Type 0} {n : ℕ} {s : Statement} → Says n (lexemes []) s → A
none_said h = absurd (omega (arith, states_some h.stated, ap length no_lexemes))

none_deep : {A : Type 0} → too_deep 250 0 (lexemes []) ≡ true → A
unfolding too_deep
none_deep e = let f : false ≡ true = ap (too_deep 250 0) (sym no_lexemes) ∙ e in absurd cc

not_said : (n : ℕ) (xs : List Lexeme) → ((s : Statement) → Says n xs s → ⊥) → statement_by limited n xs ≡ None
not_said n xs h = go (statement_by limited n xs) refl
  where
    go : (o : Option KeptStatement) → statement_by limited n xs ≡ o → o ≡ None
    go None e = refl
    go (Some s) e = let r = sound_statement limited n xs s e in absurd (h r.value r.holds)

-- ---- the pieces have one answer

module _ (artifacts : List (List ℕ)) where
  -- what comes before the rest, by the brackets and the reading of the first piece
  abbrev first : WorldText → ℕ → Tok → List (List Tok) → Bool → Option KeptStatement → Result WorldText WorldFault
  first w k t ps b o = onward (rest artifacts k ps) (cond b (Err (Limit k)) (said artifacts w k t o))

  said_first : (w : WorldText) (k : ℕ) (t : Tok) (ts : List Tok) (ps : List (List Tok)) (s : Statement) (b : Bool) → too_deep 250 0 (lexemes (t ∷ ts)) ≡ false → Says 250 (lexemes (t ∷ ts)) s → is_within s ≡ b → answer_by artifacts k w ((t ∷ ts) ∷ ps) ≡ onward (rest artifacts k ps) (limited_by artifacts w k t s b)
  unfolding answer_by piece_by
  said_first w k t ts ps s b d h e =
      ap (λ (b : Bool). first w k t ps b (statement_by limited 250 (lexemes (t ∷ ts)))) d
      ∙ ap (λ (o : Option KeptStatement). first w k t ps false o) (complete_statement limited 250 (lexemes (t ∷ ts)) s h)
      ∙ ap (onward (rest artifacts k ps)) (said_kept artifacts w k t s)
      ∙ ap (λ (b : Bool). onward (rest artifacts k ps) (limited_by artifacts w k t s b)) e

  pub answers_only : {k : ℕ} {w : WorldText} {ps : List (List Tok)} {r : Result WorldText WorldFault} → Answers artifacts k w ps r → answer_by artifacts k w ps ≡ r
  unfolding answer_by piece_by
  answers_only all_read = refl
  answers_only (brackets {p = []} d) = none_deep d
  answers_only (brackets {k = k} {w = w} {p = t ∷ ts} {ps = ps} d) = ap (λ (b : Bool). first w k t ps b (statement_by limited 250 (lexemes (t ∷ ts)))) d
  answers_only (no_clause {k = k} {w = w} {t = t} {ts = ts} {ps = ps} d h) =
      ap (λ (b : Bool). first w k t ps b (statement_by limited 250 (lexemes (t ∷ ts)))) d
      ∙ ap (λ (o : Option KeptStatement). first w k t ps false o) (not_said 250 (lexemes (t ∷ ts)) (h 250))
  answers_only (large {p = []} d h e) = none_said h
  answers_only (large {k = k} {w = w} {p = t ∷ ts} {ps = ps} {s = s} d h e) = said_first w k t ts ps s false d h e
  answers_only (is_refused {k = k} {w = w} {t = t} {ts = ts} {ps = ps} {s = s} d h e m) = said_first w k t ts ps s true d h e ∙ ap (onward (rest artifacts k ps)) m
  answers_only (is_read {k = k} {w = w} {t = t} {ts = ts} {ps = ps} {s = s} d h e m a) = said_first w k t ts ps s true d h e ∙ ap (onward (rest artifacts k ps)) m ∙ answers_only a

  -- ---- the bytes have one answer

  answer_of : Result (List Tok) LexFault → Result WorldText WorldFault
  answer_of (Ok ts) = answer_by artifacts 1 nothing (pieces is_end ts)
  answer_of (Err fault) = Err (Lex fault)

  -- where an answer comes from
  record Source (bytes : List ℕ) (r : Result WorldText WorldFault) : Type 0 where
    lexed : Result (List Tok) LexFault
    is : Lexes start bytes lexed
    gives : answer_of lexed ≡ r

  given_source : (bytes : List ℕ) (r : Result WorldText WorldFault) → HasAnswer artifacts bytes r → Source bytes r
  unfolding answer_of
  given_source bytes r a = record { lexed = Ok a.tokens; is = a.lexed; gives = answers_only a.answers }

  source : (bytes : List ℕ) (r : Result WorldText WorldFault) → IsAnswer artifacts bytes r → Source bytes r
  unfolding answer_of
  source bytes (Ok text) a = given_source bytes (Ok text) a
  source bytes (Err Memory) a = absurd a
  source bytes (Err (Lex fault)) a = record { lexed = Err fault; is = a; gives = refl }
  source bytes (Err (Clause number line column)) a = given_source bytes (Err (Clause number line column)) a
  source bytes (Err (Limit number)) a = given_source bytes (Err (Limit number)) a
  source bytes (Err (Unbound number name)) a = given_source bytes (Err (Unbound number name)) a
  source bytes (Err (UnknownArtifact number name)) a = given_source bytes (Err (UnknownArtifact number name)) a

pub one_world : (artifacts : List (List ℕ)) (bytes : List ℕ) (r s : Result WorldText WorldFault) → IsAnswer artifacts bytes r → IsAnswer artifacts bytes s → r ≡ s
one_world artifacts bytes r s a b =
    let x = source artifacts bytes r a in
    let y = source artifacts bytes s b in
    sym x.gives ∙ ap (answer_of artifacts) (lexer.one_answer bytes x.lexed y.lexed x.is y.is) ∙ y.gives
