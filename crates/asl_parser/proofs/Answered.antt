-- What the pieces answer.
use Rattle.std.proofs.Common.{◌≡◌, ℕ, suc, ◌+◌, ◌<◌, Bool, true, false, cond, List, [], ◌∷◌, ◌++◌, length, All, Option, Some, None, Result, Ok, Err, refl, sym, ap, subst, ◌∙◌, add-one, IfErr, append_assoc, length-append, arith}
use Rattle.asl_lexer.specs.declared.token.Tok.{Tok}
use Rattle.asl_lexer.specs.declared.token.LexFault.{LexFault}
use Rattle.asl_lexer.specs.Words.{pieces, is_end, IsCut}
use Rattle.asl_lexer.specs.Words as words
use Rattle.asl_lexer.specs.Lexing.{AreTokens}
use Rattle.std.proofs.lemmas.List.{append-nil}
use Rattle.asl_parser_tree.specs.declared.lexeme.Lexeme.{Lexeme}
use Rattle.asl_parser.specs.declared.sentence.Sentence.{Sentence}
use Rattle.asl_parser_expr.specs.declared.fault.TextFault.{TextFault}
use Rattle.asl_parser_expr.specs.declared.fault.TextFault.TheVariants.{Memory, Lex, Clause, Limit}
use Rattle.asl_parser_tree.specs.Lexemes.{lexemes}
use Rattle.asl_parser.specs.Sentences.{Says}
use Rattle.asl_parser.specs.Speaking.{sentence_by}
use Rattle.asl_parser_tree.specs.Limits.{too_deep}
use Rattle.asl_parser_tree.specs.declared.bounded.Bounded.TheVariants.{Within}
use Rattle.asl_parser_tree.specs.Holding.{limited, unlimited, keep_if}
use Rattle.asl_parser.specs.Limits.{is_within}
use Rattle.asl_parser.specs.Holding.{KeptSentence, hold_sentence}
use Rattle.asl_parser.specs.Agents.{AreSentences, IsRefused, IsNone, Answers, all_read, brackets, no_clause, large, is_read, is_later}
use Rattle.asl_parser.specs.Answering.{said, piece_by, piece_at, onto, answer_by, behind, Told}
use Rattle.asl_parser_tree.proofs.Options.{some_is}
use Rattle.asl_parser.proofs.Spoken.{sound_sentence}
use Rattle.asl_parser.proofs.Spelled.{complete_sentence}
use Rattle.asl_parser.proofs.Bounded.{says_within}

none_is : {A : Type 0} {x : A} → None ≡ Some x → ⊥
none_is e = cc

-- no piece is empty
pub data NoneEmpty : List (List Tok) → Type 0 where
  no_piece : NoneEmpty []
  some_piece : {t : Tok} {ts : List Tok} {ps : List (List Tok)} → NoneEmpty ps → NoneEmpty ((t ∷ ts) ∷ ps)

abbrev pub limited_by : ℕ → Sentence → Bool → Result Sentence TextFault
limited_by k s b = cond b (Ok s) (Err (Limit k))

-- what is kept of a sentence tells whether it is within the limits
pub said_kept : (k : ℕ) (t : Tok) (s : Sentence) → said k t (Some (hold_sentence limited s)) ≡ limited_by k s (is_within s)
said_kept k t s = go (is_within s)
  where
    go : (b : Bool) → said k t (Some (keep_if b s tt)) ≡ limited_by k s b
    go true = refl
    go false = refl

sized : (k : ℕ) (t : Tok) (ts : List Tok) (ps : List (List Tok)) (s : Sentence) (b : Bool) → too_deep 250 0 (lexemes (t ∷ ts)) ≡ false → Says 250 (lexemes (t ∷ ts)) s → is_within s ≡ b → (rest : Result (List Sentence) TextFault) → Answers (suc k) ps rest → Answers k ((t ∷ ts) ∷ ps) (onto (limited_by k s b) rest)
sized k t ts ps s false h r e rest a = large h r e
sized k t ts ps s true h r e (Ok ss) a = is_read h r e a
sized k t ts ps s true h r e (Err fault) a = is_later h r e a

answered : (k : ℕ) (t : Tok) (ts : List Tok) (ps : List (List Tok)) (b : Bool) → too_deep 250 0 (lexemes (t ∷ ts)) ≡ b → (o : Option KeptSentence) → sentence_by limited 250 (lexemes (t ∷ ts)) ≡ o → (rest : Result (List Sentence) TextFault) → Answers (suc k) ps rest → Answers k ((t ∷ ts) ∷ ps) (onto (cond b (Err (Limit k)) (said k t o)) rest)
answered k t ts ps true h o e rest a = brackets h
answered k t ts ps false h None e rest a = no_clause h (λ n s r. none_is (sym e ∙ complete_sentence limited 250 (lexemes (t ∷ ts)) s (says_within n (lexemes (t ∷ ts)) s h r)))
answered k t ts ps false h (Some o) e rest a =
    let r = sound_sentence limited 250 (lexemes (t ∷ ts)) o e in
    let same : limited_by k r.value (is_within r.value) ≡ said k t (Some o) = sym (said_kept k t r.value) ∙ ap (λ (h : KeptSentence). said k t (Some h)) r.same in
    subst (λ (x : Result Sentence TextFault). Answers k ((t ∷ ts) ∷ ps) (onto x rest)) same (sized k t ts ps r.value (is_within r.value) h r.holds refl rest a)

pub answer_is : (k : ℕ) (ps : List (List Tok)) → NoneEmpty ps → Answers k ps (answer_by k ps)
unfolding answer_by piece_by
answer_is k [] no_piece = all_read
answer_is k ([] ∷ ps) h = elim h [ ]
answer_is k ((t ∷ ts) ∷ ps) (some_piece h) = answered k t ts ps (too_deep 250 0 (lexemes (t ∷ ts))) refl (sentence_by limited 250 (lexemes (t ∷ ts))) refl (answer_by (suc k) ps) (answer_is (suc k) ps h)

-- without the limits all is kept
within_is : (r s : Sentence) → ◌≡◌ {A = KeptSentence} (Within r) (Within s) → r ≡ s
within_is r s e = cc

pub one_sentence : (m n : ℕ) (xs : List Lexeme) (r s : Sentence) → too_deep 250 0 xs ≡ false → Says m xs r → Says n xs s → r ≡ s
one_sentence m n xs r s h p q = within_is r s (some_is (hold_sentence unlimited r) (hold_sentence unlimited s) (sym (complete_sentence unlimited 250 xs r (says_within m xs r h p)) ∙ complete_sentence unlimited 250 xs s (says_within n xs s h q)))

-- ---- as the loop does

cut_answer : (k : ℕ) (ts us : List Tok) (t : Tok) (p : List Tok) → IsCut is_end ts (t ∷ p) us → answer_by k (pieces is_end ts) ≡ onto (piece_by k t (t ∷ p)) (answer_by (suc k) (pieces is_end us))
unfolding answer_by
cut_answer k ts us t p c = ap (answer_by k) c.parts

onto_behind : (a : List Sentence) (s : Sentence) (r : Result (List Sentence) TextFault) → behind a (onto (Ok s) r) ≡ behind (a ++ s ∷ []) r
onto_behind a s (Ok ss) = ap (λ (x : List Sentence). Ok x) (sym (append_assoc a (s ∷ []) ss))
onto_behind a s (Err fault) = refl

pub more : (a : List Sentence) (k : ℕ) (ts p us : List Tok) (s : Sentence) (total : Result (List Sentence) TextFault) → behind a (answer_by k (pieces is_end ts)) ≡ total → IsCut is_end ts p us → piece_at k p ≡ Ok s → behind (a ++ s ∷ []) (answer_by (k + 1) (pieces is_end us)) ≡ total
more a k ts [] us s total h c e = absurd cc
more a k ts (x ∷ p) us s total h c e =
    rw add-one (sym (onto_behind a s (answer_by (suc k) (pieces is_end us))) ∙ sym (ap (behind a) (cut_answer k ts us x p c ∙ ap (λ (r : Result Sentence TextFault). onto r (answer_by (suc k) (pieces is_end us))) e)) ∙ h)

stop : (a : List Sentence) (k : ℕ) (ts p us : List Tok) (fault : TextFault) (total : Result (List Sentence) TextFault) → behind a (answer_by k (pieces is_end ts)) ≡ total → IsCut is_end ts p us → piece_at k p ≡ Err fault → total ≡ Err fault
stop a k ts [] us fault total h c e = absurd (omega (arith, c.some))
stop a k ts (x ∷ p) us fault total h c e = sym h ∙ ap (behind a) (cut_answer k ts us x p c ∙ ap (λ (r : Result Sentence TextFault). onto r (answer_by (suc k) (pieces is_end us))) e)

pub stops : (a : List Sentence) (k : ℕ) (ts p us : List Tok) (fault : TextFault) (total : Result (List Sentence) TextFault) → behind a (answer_by k (pieces is_end ts)) ≡ total → IsCut is_end ts p us → Told (Err fault) (piece_at k p) → Told (Err fault) total
stops a k ts p us Memory total h c e = tt
stops a k ts p us (Lex fault) total h c e = stop a k ts p us (Lex fault) total h c e
stops a k ts p us (Clause number line column) total h c e = stop a k ts p us (Clause number line column) total h c e
stops a k ts p us (Limit number) total h c e = stop a k ts p us (Limit number) total h c e

pub ends : (a : List Sentence) (k : ℕ) (ts : List Tok) (total : Result (List Sentence) TextFault) → behind a (answer_by k (pieces is_end ts)) ≡ total → ts ≡ [] → total ≡ Ok a
unfolding answer_by pieces
ends a k ts total h e = sym h ∙ ap (λ (us : List Tok). behind a (answer_by k (pieces is_end us))) e ∙ ap (λ (x : List Sentence). Ok x) (append-nil a)

pub cut_shorter : (ts p us : List Tok) → IsCut is_end ts p us → length us < length ts
cut_shorter ts p us c = omega (arith, ap length c.whole, length-append p us, c.some)

onto_some : (t : Tok) (ps : List (List Tok)) → NoneEmpty ps → NoneEmpty (words.onto t ps)
onto_some t [] h = some_piece no_piece
onto_some t (p ∷ ps) (some_piece h) = some_piece h

cut_some : (b : Bool) (t : Tok) (ps : List (List Tok)) → NoneEmpty ps → NoneEmpty (cond b ((t ∷ []) ∷ ps) (words.onto t ps))
cut_some true t ps h = some_piece h
cut_some false t ps h = onto_some t ps h

none_empty : (ts : List Tok) → NoneEmpty (pieces is_end ts)
unfolding pieces
none_empty [] = no_piece
none_empty (t ∷ ts) = cut_some (is_end (words.word t)) t (pieces is_end ts) (none_empty ts)

pub answers : (ts : List Tok) → Answers 1 (pieces is_end ts) (answer_by 1 (pieces is_end ts))
answers ts = answer_is 1 (pieces is_end ts) (none_empty ts)

pub ok_is : {X Y : Type 0} {x y : X} → ◌≡◌ {A = Result X Y} (Ok x) (Ok y) → x ≡ y
ok_is e = cc

err_is : {X Y : Type 0} {x y : Y} → ◌≡◌ {A = Result X Y} (Err x) (Err y) → x ≡ y
err_is e = cc

-- what the loop gave is the answer
told_ok : (ts : List Tok) (r : Result (List Sentence) TextFault) → Answers 1 (pieces is_end ts) r → (said : List Sentence) → behind [] r ≡ Ok said → Answers 1 (pieces is_end ts) (Ok said)
told_ok ts (Ok ss) h said e = subst (λ (x : List Sentence). Answers 1 (pieces is_end ts) (Ok x)) (ok_is e) h
told_ok ts (Err fault) h said e = absurd cc

told_err : (ts : List Tok) (r : Result (List Sentence) TextFault) → Answers 1 (pieces is_end ts) r → (fault : TextFault) → behind [] r ≡ Err fault → Answers 1 (pieces is_end ts) (Err fault)
told_err ts (Ok ss) h fault e = absurd cc
told_err ts (Err f) h fault e = subst (λ (g : TextFault). Answers 1 (pieces is_end ts) (Err g)) (err_is e) h

pub are_said : (bytes : List ℕ) (ts : List Tok) (said : List Sentence) → AreTokens bytes ts → behind [] (answer_by 1 (pieces is_end ts)) ≡ Ok said → AreSentences bytes said
are_said bytes ts said l e = record { tokens = ts; lexed = l; read = told_ok ts (answer_by 1 (pieces is_end ts)) (answers ts) said e }

pub is_refused : (bytes : List ℕ) (ts : List Tok) (fault : TextFault) → AreTokens bytes ts → behind [] (answer_by 1 (pieces is_end ts)) ≡ Err fault → IsRefused bytes fault
is_refused bytes ts fault l e = record { tokens = ts; lexed = l; refused = told_err ts (answer_by 1 (pieces is_end ts)) (answers ts) fault e }

pub never_lex : {k : ℕ} {ps : List (List Tok)} {fault : LexFault} → Answers k ps (Err (Lex fault)) → ⊥
never_lex (is_later h r e a) = never_lex a

pub is_none_of : (bytes : List ℕ) (ts : List Tok) (r : Result (List Sentence) TextFault) → AreTokens bytes ts → Told r (behind [] (answer_by 1 (pieces is_end ts))) → IfErr r (IsNone bytes)
is_none_of bytes ts (Ok said) l e = tt
is_none_of bytes ts (Err Memory) l e = tt
is_none_of bytes ts (Err (Lex fault)) l e = absurd (never_lex (told_err ts (answer_by 1 (pieces is_end ts)) (answers ts) (Lex fault) e))
is_none_of bytes ts (Err (Clause number line column)) l e = is_refused bytes ts (Clause number line column) l e
is_none_of bytes ts (Err (Limit number)) l e = is_refused bytes ts (Limit number) l e
