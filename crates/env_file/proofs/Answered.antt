-- What the pieces answer.
use Rattle.std.proofs.Common.{◌≡◌, ℕ, suc, ◌+◌, ◌<◌, Bool, true, false, cond, List, [], ◌∷◌, length, Option, Some, None, Result, Ok, Err, refl, sym, ap, subst, ◌∙◌, add-one, IfOk, IfErr, length-append, arith}
use Rattle.asl_lexer.specs.declared.token.Tok.{Tok}
use Rattle.asl_lexer.specs.declared.token.LexFault.{LexFault}
use Rattle.asl_lexer.specs.Words.{pieces, is_end, IsCut}
use Rattle.asl_lexer.specs.Words as words
use Rattle.asl_lexer.specs.Lexing.{AreTokens}
use Rattle.asl_parser_tree.specs.declared.lexeme.Lexeme.{Lexeme}
use Rattle.asl_parser_tree.specs.Lexemes.{lexemes}
use Rattle.asl_parser_tree.specs.Limits.{too_deep}
use Rattle.asl_parser_tree.specs.declared.bounded.Bounded.TheVariants.{Within}
use Rattle.asl_parser_tree.specs.Holding.{limited, unlimited, keep_if}
use Rattle.asl_parser_tree.proofs.Options.{some_is}
use Rattle.mas_world.specs.declared.acts.WorldText.{WorldText}
use Rattle.env_file.specs.declared.fault.WorldFault.{WorldFault}
use Rattle.env_file.specs.declared.fault.WorldFault.TheVariants.{Memory, Lex, Clause, Limit, Unbound, UnknownArtifact}
use Rattle.env_file.specs.declared.statement.Part.{Part}
use Rattle.env_file.specs.declared.statement.WrittenAct.{WrittenAct}
use Rattle.env_file.specs.declared.statement.Statement.{Statement}
use Rattle.env_file.specs.declared.statement.Statement.TheVariants as statement
use Rattle.env_file.specs.Statements.{Says}
use Rattle.env_file.specs.Limits.{is_within}
use Rattle.env_file.specs.Guards.{said_parts}
use Rattle.env_file.specs.Binding.{unbound}
use Rattle.env_file.specs.Holding.{KeptStatement, hold_statement}
use Rattle.env_file.specs.Speaking.{statement_by}
use Rattle.env_file.specs.Worlds.{nothing, has_name, with_use, bound_made, made, Answers, all_read, brackets, no_clause, large, is_refused, is_read, HasAnswer, IsWorld, IsNone}
use Rattle.env_file.specs.Answering.{said, piece_by, piece_at, onward, answer_by, Told}
use Rattle.env_file.proofs.Spoken.{sound_statement}
use Rattle.env_file.proofs.Spelled.{complete_statement}
use Rattle.env_file.proofs.Bounded.{says_within}

none_is : {A : Type 0} {x : A} → None ≡ Some x → ⊥
none_is e = cc

-- no piece is empty
pub data NoneEmpty : List (List Tok) → Type 0 where
  no_piece : NoneEmpty []
  some_piece : {t : Tok} {ts : List Tok} {ps : List (List Tok)} → NoneEmpty ps → NoneEmpty ((t ∷ ts) ∷ ps)

module _ (artifacts : List (List ℕ)) where
  abbrev pub limited_by : WorldText → ℕ → Tok → Statement → Bool → Result WorldText WorldFault
  limited_by w k t s b = cond b (made artifacts w k t s) (Err (Limit k))

  -- what is kept of a statement tells whether it is within the limits
  pub said_kept : (w : WorldText) (k : ℕ) (t : Tok) (s : Statement) → said artifacts w k t (Some (hold_statement limited s)) ≡ limited_by w k t s (is_within s)
  said_kept w k t s = go (is_within s)
    where
      go : (b : Bool) → said artifacts w k t (Some (keep_if b s tt)) ≡ limited_by w k t s b
      go true = refl
      go false = refl

  -- the answer behind a piece
  abbrev pub rest : ℕ → List (List Tok) → WorldText → Result WorldText WorldFault
  rest k ps v = answer_by artifacts (suc k) v ps

  abbrev Later : ℕ → List (List Tok) → Type 0
  Later k ps = (v : WorldText) → Answers artifacts (suc k) v ps (rest k ps v)

  taken : (w : WorldText) (k : ℕ) (t : Tok) (ts : List Tok) (ps : List (List Tok)) (s : Statement) → too_deep 250 0 (lexemes (t ∷ ts)) ≡ false → Says 250 (lexemes (t ∷ ts)) s → is_within s ≡ true → Later k ps → (x : Result WorldText WorldFault) → made artifacts w k t s ≡ x → Answers artifacts k w ((t ∷ ts) ∷ ps) (onward (rest k ps) x)
  taken w k t ts ps s h r e again (Ok v) m = is_read h r e m (again v)
  taken w k t ts ps s h r e again (Err fault) m = is_refused h r e m

  sized : (w : WorldText) (k : ℕ) (t : Tok) (ts : List Tok) (ps : List (List Tok)) (s : Statement) (b : Bool) → too_deep 250 0 (lexemes (t ∷ ts)) ≡ false → Says 250 (lexemes (t ∷ ts)) s → is_within s ≡ b → Later k ps → Answers artifacts k w ((t ∷ ts) ∷ ps) (onward (rest k ps) (limited_by w k t s b))
  sized w k t ts ps s false h r e again = large h r e
  sized w k t ts ps s true h r e again = taken w k t ts ps s h r e again (made artifacts w k t s) refl

  answered : (w : WorldText) (k : ℕ) (t : Tok) (ts : List Tok) (ps : List (List Tok)) (b : Bool) → too_deep 250 0 (lexemes (t ∷ ts)) ≡ b → (o : Option KeptStatement) → statement_by limited 250 (lexemes (t ∷ ts)) ≡ o → Later k ps → Answers artifacts k w ((t ∷ ts) ∷ ps) (onward (rest k ps) (cond b (Err (Limit k)) (said artifacts w k t o)))
  answered w k t ts ps true h o e again = brackets h
  answered w k t ts ps false h None e again = no_clause h (λ n s r. none_is (sym e ∙ complete_statement limited 250 (lexemes (t ∷ ts)) s (says_within n (lexemes (t ∷ ts)) s h r)))
  answered w k t ts ps false h (Some o) e again =
      let r = sound_statement limited 250 (lexemes (t ∷ ts)) o e in
      let same : limited_by w k t r.value (is_within r.value) ≡ said artifacts w k t (Some o) = sym (said_kept w k t r.value) ∙ ap (λ (h : KeptStatement). said artifacts w k t (Some h)) r.same in
      subst (λ (x : Result WorldText WorldFault). Answers artifacts k w ((t ∷ ts) ∷ ps) (onward (rest k ps) x)) same (sized w k t ts ps r.value (is_within r.value) h r.holds refl again)

  pub answer_is : (k : ℕ) (w : WorldText) (ps : List (List Tok)) → NoneEmpty ps → Answers artifacts k w ps (answer_by artifacts k w ps)
  unfolding answer_by piece_by
  answer_is k w [] no_piece = all_read
  answer_is k w ([] ∷ ps) h = elim h [ ]
  answer_is k w ((t ∷ ts) ∷ ps) (some_piece h) = answered w k t ts ps (too_deep 250 0 (lexemes (t ∷ ts))) refl (statement_by limited 250 (lexemes (t ∷ ts))) refl (λ v. answer_is (suc k) v ps h)

  -- ---- as the loop does

  cut_answer : (k : ℕ) (w : WorldText) (ts p us : List Tok) → IsCut is_end ts p us → answer_by artifacts k w (pieces is_end ts) ≡ onward (rest k (pieces is_end us)) (piece_at artifacts w k p)
  unfolding answer_by
  cut_answer k w ts p us c = ap (answer_by artifacts k w) c.parts

  pub more : (k : ℕ) (w v : WorldText) (ts p us : List Tok) (total : Result WorldText WorldFault) → answer_by artifacts k w (pieces is_end ts) ≡ total → IsCut is_end ts p us → piece_at artifacts w k p ≡ Ok v → answer_by artifacts (k + 1) v (pieces is_end us) ≡ total
  more k w v ts p us total h c e = rw add-one (sym (cut_answer k w ts p us c ∙ ap (onward (rest k (pieces is_end us))) e) ∙ h)

  stop : (k : ℕ) (w : WorldText) (ts p us : List Tok) (fault : WorldFault) (total : Result WorldText WorldFault) → answer_by artifacts k w (pieces is_end ts) ≡ total → IsCut is_end ts p us → piece_at artifacts w k p ≡ Err fault → total ≡ Err fault
  stop k w ts p us fault total h c e = sym h ∙ cut_answer k w ts p us c ∙ ap (onward (rest k (pieces is_end us))) e

  pub stops : (k : ℕ) (w : WorldText) (ts p us : List Tok) (fault : WorldFault) (total : Result WorldText WorldFault) → answer_by artifacts k w (pieces is_end ts) ≡ total → IsCut is_end ts p us → Told (Err fault) (piece_at artifacts w k p) → Told (Err fault) total
  stops k w ts p us Memory total h c e = tt
  stops k w ts p us (Lex fault) total h c e = stop k w ts p us (Lex fault) total h c e
  stops k w ts p us (Clause number line column) total h c e = stop k w ts p us (Clause number line column) total h c e
  stops k w ts p us (Limit number) total h c e = stop k w ts p us (Limit number) total h c e
  stops k w ts p us (Unbound number name) total h c e = stop k w ts p us (Unbound number name) total h c e
  stops k w ts p us (UnknownArtifact number name) total h c e = stop k w ts p us (UnknownArtifact number name) total h c e

  pub ends : (k : ℕ) (w : WorldText) (ts : List Tok) (total : Result WorldText WorldFault) → answer_by artifacts k w (pieces is_end ts) ≡ total → ts ≡ [] → total ≡ Ok w
  unfolding answer_by pieces
  ends k w ts total h e = sym h ∙ ap (λ (us : List Tok). answer_by artifacts k w (pieces is_end us)) e

pub cut_shorter : (ts p us : List Tok) → IsCut is_end ts p us → length us < length ts
cut_shorter ts p us c = omega (arith, ap length c.whole, length-append p us, c.some)

onto_some : (t : Tok) (ps : List (List Tok)) → NoneEmpty ps → NoneEmpty (words.onto t ps)
onto_some t [] h = some_piece no_piece
onto_some t (p ∷ ps) (some_piece h) = some_piece h

cut_some : (b : Bool) (t : Tok) (ps : List (List Tok)) → NoneEmpty ps → NoneEmpty (cond b ((t ∷ []) ∷ ps) (words.onto t ps))
cut_some true t ps h = some_piece h
cut_some false t ps h = onto_some t ps h

none_empty : (ts : List Tok) → NoneEmpty (pieces is_end ts)
unfolding pieces
none_empty [] = no_piece
none_empty (t ∷ ts) = cut_some (is_end (words.word t)) t (pieces is_end ts) (none_empty ts)

-- ---- a clause says one thing at most

-- without the limits all is kept
within_is : (r s : Statement) → ◌≡◌ {A = KeptStatement} (Within r) (Within s) → r ≡ s
within_is r s e = cc

pub one_statement : (m n : ℕ) (xs : List Lexeme) (r s : Statement) → too_deep 250 0 xs ≡ false → Says m xs r → Says n xs s → r ≡ s
one_statement m n xs r s h p q = within_is r s (some_is (hold_statement unlimited r) (hold_statement unlimited s) (sym (complete_statement unlimited 250 xs r (says_within m xs r h p)) ∙ complete_statement unlimited 250 xs s (says_within n xs s h q)))

-- ---- the whole

pub answers : (artifacts : List (List ℕ)) (ts : List Tok) → Answers artifacts 1 nothing (pieces is_end ts) (answer_by artifacts 1 nothing (pieces is_end ts))
answers artifacts ts = answer_is artifacts 1 nothing (pieces is_end ts) (none_empty ts)

given : (artifacts : List (List ℕ)) (bytes : List ℕ) (ts : List Tok) → AreTokens bytes ts → (r : Result WorldText WorldFault) → answer_by artifacts 1 nothing (pieces is_end ts) ≡ r → HasAnswer artifacts bytes r
given artifacts bytes ts l r e = record { tokens = ts; lexed = l; answers = subst (Answers artifacts 1 nothing (pieces is_end ts)) e (answers artifacts ts) }

pub is_world_of : (artifacts : List (List ℕ)) (bytes : List ℕ) (ts : List Tok) (r : Result WorldText WorldFault) → AreTokens bytes ts → Told r (answer_by artifacts 1 nothing (pieces is_end ts)) → IfOk r (IsWorld artifacts bytes)
is_world_of artifacts bytes ts (Ok text) l e = given artifacts bytes ts l (Ok text) e
is_world_of artifacts bytes ts (Err fault) l e = tt

-- no clause is refused for its tokens
module _ (w : WorldText) (k : ℕ) (t : Tok) (fault : LexFault) where
  bound_lex : (a : WrittenAct) (ps : List Part) (o : Option (List ℕ)) → bound_made w k a ps o ≡ Err (Lex fault) → ⊥
  bound_lex a ps None e = cc
  bound_lex a ps (Some name) e = cc

  use_lex : (name : List ℕ) (b c : Bool) → ◌≡◌ {A = Result WorldText WorldFault} (cond b (Err (Clause k t.line t.column)) (cond c (Ok (with_use w name)) (Err (UnknownArtifact k name)))) (Err (Lex fault)) → ⊥
  use_lex name true c e = cc
  use_lex name false true e = cc
  use_lex name false false e = cc

  made_lex : (artifacts : List (List ℕ)) (s : Statement) → made artifacts w k t s ≡ Err (Lex fault) → ⊥
  made_lex artifacts (statement.Fact l) e = cc
  made_lex artifacts (statement.Hide name) e = cc
  made_lex artifacts (statement.Use name) e = use_lex name (has_name w.uses name) (has_name artifacts name) e
  made_lex artifacts (statement.Act a) e = bound_lex a (said_parts a.guard) (unbound a (said_parts a.guard)) e

pub never_lex : {artifacts : List (List ℕ)} {k : ℕ} {w : WorldText} {ps : List (List Tok)} {fault : LexFault} → Answers artifacts k w ps (Err (Lex fault)) → ⊥
never_lex {artifacts} {k} {w} {fault = fault} (is_refused {t = t} {s = s} h r e m) = made_lex w k t fault artifacts s m
never_lex (is_read h r e m a) = never_lex a

pub is_none_of : (artifacts : List (List ℕ)) (bytes : List ℕ) (ts : List Tok) (r : Result WorldText WorldFault) → AreTokens bytes ts → Told r (answer_by artifacts 1 nothing (pieces is_end ts)) → IfErr r (IsNone artifacts bytes)
is_none_of artifacts bytes ts (Ok said) l e = tt
is_none_of artifacts bytes ts (Err Memory) l e = tt
is_none_of artifacts bytes ts (Err (Lex fault)) l e = absurd (never_lex (given artifacts bytes ts l (Err (Lex fault)) e).answers)
is_none_of artifacts bytes ts (Err (Clause number line column)) l e = given artifacts bytes ts l (Err (Clause number line column)) e
is_none_of artifacts bytes ts (Err (Limit number)) l e = given artifacts bytes ts l (Err (Limit number)) e
is_none_of artifacts bytes ts (Err (Unbound number name)) l e = given artifacts bytes ts l (Err (Unbound number name)) e
is_none_of artifacts bytes ts (Err (UnknownArtifact number name)) l e = given artifacts bytes ts l (Err (UnknownArtifact number name)) e
