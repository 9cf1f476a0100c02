-- Bytes have an answer.
use Rattle.std.proofs.Common.{◌≡◌, ℕ, zero, suc, ◌+◌, ◌-◌, ◌≤◌, ◌<◌, List, [], ◌∷◌, ◌++◌, length, slice_get, Option, Some, None, Result, Ok, Err, ◌⊎◌, inl, inr, refl, sym, ap, subst, ◌∙◌, append_assoc, arith}
use Rattle.std.proofs.lemmas.List.{append-nil}
use Rattle.std.specs.List.{IsDistinct}
use Rattle.std.specs.Option.{is_some}
use Rattle.std.specs.Str.{bytes_eq}
use Rattle.asl_term.specs.Names.{place_of, with_name}
use Rattle.asl_lexer.specs.declared.token.Tok.{Tok}
use Rattle.asl_lexer.specs.declared.token.LexFault.{LexFault}
use Rattle.asl_lexer.specs.Lexing.{Lexes, start}
use Rattle.asl_lexer.proofs.Total as lexer
use Rattle.mas_project.specs.declared.lexeme.ProjectLexeme.{ProjectLexeme}
use Rattle.mas_project.specs.declared.piece.PieceMeaning.{PieceMeaning}
use Rattle.mas_project.specs.declared.piece.NextPiece.{NextPiece}
use Rattle.mas_project.specs.declared.piece.NextPiece.TheVariants as turn
use Rattle.mas_project.specs.declared.state.State.{State}
use Rattle.mas_project.specs.declared.state.State.TheVariants as state
use Rattle.mas_project.specs.declared.syntax.AgentLine.{AgentLine}
use Rattle.mas_project.specs.declared.syntax.ProjectText.{ProjectText}
use Rattle.mas_project.specs.declared.fault.ProjectFault.{ProjectFault}
use Rattle.mas_project.specs.declared.fault.ProjectFault.TheVariants as fault
use Rattle.mas_project.specs.Lexemes.{lexemes}
use Rattle.mas_project.specs.Grammar.{Reads, next_turn}
use Rattle.mas_project.specs.Pieces.{pieces, ReadsAll, none_left}
use Rattle.mas_project.specs.Names.{names_of, agents_of, IsTwice}
use Rattle.mas_project.specs.Faults.{clause_at, stop_fault, IsRefusedPiece, too_late, too_early, stops, FirstRefused, refused, missing}
use Rattle.mas_project.specs.Projects.{nothing, all_added, most_agents, saturated, SayProject, IsWithin, FailsTest, too_many, two_names, IsAnswer, of_token, of_piece, of_agents}
use Rattle.mas_project.specs.inner.Steps.{begin, run}
use Rattle.mas_project.specs.Laws.{SomeAnswer}
use Rattle.mas_project.proofs.Machine.{Breaks, breaks}
use Rattle.mas_project.proofs.Sound.{sound}
use Rattle.mas_project.proofs.Stops as machine
use Rattle.mas_project.proofs.Told.{reads_push}
use Rattle.mas_project.proofs.Named.{Seen, none_seen, one_seen, one_twice, all_seen}

-- ---- one piece

-- a piece in its turn says something, or is refused
abbrev PieceTold : NextPiece → List Tok → ℕ → Type 0
PieceTold at piece number = ((m : PieceMeaning) × Reads at (lexemes piece) m) ⊎ ((f : ProjectFault) × IsRefusedPiece piece number (Some at) f)

whole_or_early : (at : NextPiece) (piece : List Tok) (number : ℕ) (s : State) → run (begin at) (lexemes piece) ≡ Ok s → PieceTold at piece number
whole_or_early at piece number (state.Whole m) e = inl (m, sound at (lexemes piece) m e)
whole_or_early at piece number s e = inr (clause_at number (slice_get piece 0), too_early (machine.early at (lexemes piece) s e (λ m same. absurd cc)) refl)

no_break : (s : State) (ws : List ProjectLexeme) → run s ws ≡ Err [] → ⊥
no_break s ws e = go (breaks s ws [] e)
  where
    go : Breaks s ws [] → ⊥
    go b = let same : [] ≡ b.word ∷ b.rest = b.left in cc

piece_told : (at : NextPiece) (piece : List Tok) (number : ℕ) → PieceTold at piece number
piece_told at piece number = go (run (begin at) (lexemes piece)) refl
  where
    go : (r : Result State (List ProjectLexeme)) → run (begin at) (lexemes piece) ≡ r → PieceTold at piece number
    go (Ok s) e = whole_or_early at piece number s e
    go (Err []) e = absurd (no_break (begin at) (lexemes piece) e)
    go (Err (w ∷ us)) e = inr (stop_fault number piece w, stops w (machine.stops at (lexemes piece) us w e) refl)

-- ---- all pieces

-- they say a project, or one of them is refused first
abbrev PiecesTold : List Tok → Type 0
PiecesTold ts = ((p : ProjectText) × SayProject (pieces ts) p) ⊎ ((f : ProjectFault) × FirstRefused ts f)

all_said : (ts : List Tok) (ms : List PieceMeaning) (at : Option NextPiece) → ReadsAll (Some turn.Title) (pieces ts) ms at → PiecesTold ts
all_said ts ms None r = inl (all_added nothing ms, record { meant = ms; reads = r; says = refl })
all_said ts ms (Some at) r = inr (clause_at (length (pieces ts) + 1) (slice_get ts (length ts - 1)), missing ms at r refl)

told_from : (ts : List Tok) (rest before : List (List Tok)) (ms : List PieceMeaning) (at : Option NextPiece) → pieces ts ≡ before ++ rest
    → ReadsAll (Some turn.Title) before ms at → PiecesTold ts
told_from ts [] before ms at e r =
    let P : List (List Tok) → Type 0 = λ ps. ReadsAll (Some turn.Title) ps ms at in
    all_said ts ms at (subst P (sym (e ∙ append-nil before)) r)
told_from ts (p ∷ rest) before ms None e r = inr (clause_at (length before + 1) (slice_get p 0), refused before rest p ms None e r (too_late refl))
told_from ts (p ∷ rest) before ms (Some at) e r =
    elim (piece_told at p (length before + 1)) [
      | inl m ↦ told_from ts rest (before ++ p ∷ []) (ms ++ m.0 ∷ []) (next_turn m.0) (e ∙ sym (append_assoc before (p ∷ []) rest)) (reads_push p r m.1)
      | inr f ↦ inr (f.0, refused before rest p ms (Some at) e r f.1)
    ]

-- ---- the agents

pub few_or_many : (m n : ℕ) → (n ≤ m) ⊎ (m < n)
few_or_many m zero = inl (omega arith)
few_or_many zero (suc n) = inr (omega arith)
few_or_many (suc m) (suc n) = elim (few_or_many m n) [ inl h ↦ inl (omega (arith, h)) | inr h ↦ inr (omega (arith, h)) ]

abbrev NamesTold : List (List ℕ) → Type 0
NamesTold names = IsDistinct bytes_eq names ⊎ ((x : ℕ × List ℕ) × IsTwice names x.0 x.1)

names_from : (names rest seen : List (List ℕ)) → Seen names seen rest → NamesTold names
names_from names [] seen h = inl (all_seen names seen [] h refl)
names_from names (name ∷ rest) seen h = go (names_from names rest (with_name seen name)) (place_of seen name) refl
  where
    go : (Seen names (with_name seen name) rest → NamesTold names) → (o : Option ℕ) → place_of seen name ≡ o → NamesTold names
    go later None e = later (one_seen names seen (with_name seen name) rest name h e refl)
    go later (Some k) e = inr ((length seen + 1, name), one_twice names seen rest name (length seen + 1) h refl (ap is_some e))

tested : (lines : List AgentLine) → IsWithin lines ⊎ ((f : ProjectFault) × FailsTest lines f)
tested lines =
    elim (few_or_many most_agents (agents_of lines)) [
      | inr many ↦ inr (fault.TooMany (saturated (agents_of lines)), too_many many)
      | inl few ↦ elim (names_from (names_of lines) (names_of lines) [] (none_seen (names_of lines))) [
        | inl distinct ↦ inl (record { few = few; distinct = distinct })
        | inr twice ↦ inr (fault.TwoNames twice.0.0 twice.0.1, two_names few twice.1)
      ]
    ]

-- ---- the whole

abbrev Answer : List ℕ → Type 0
Answer bytes = (r : Result ProjectText ProjectFault) × IsAnswer bytes r

answered : (bytes : List ℕ) (lexed : Result (List Tok) LexFault) → Lexes start bytes lexed → Answer bytes
answered bytes (Err x) l = (Err (fault.Lex x), of_token l)
answered bytes (Ok ts) l =
    elim (told_from ts (pieces ts) [] [] (Some turn.Title) refl none_left) [
      | inr f ↦ (Err f.0, of_piece ts l f.1)
      | inl p ↦ elim (tested p.0.agents) [
        | inl within ↦ (Ok p.0, record { tokens = ts; lexed = l; says = p.1; within = within })
        | inr f ↦ (Err f.0, of_agents ts p.0 l p.1 f.1)
      ]
    ]

pub some_answer : SomeAnswer
some_answer bytes = let l = lexer.some_answer bytes in answered bytes l.0 l.1
