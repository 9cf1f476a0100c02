-- Pieces that read, and what they say, are not refused.
use Rattle.std.proofs.Common.{◌≡◌, ℕ, List, [], ◌∷◌, ◌++◌, Option, Some, None, refl, sym, ap, subst, ◌∙◌, append_assoc, arith, true≢false}
use Rattle.std.specs.List.{IsDistinct}
use Rattle.std.specs.Str.{bytes_eq}
use Rattle.asl_lexer.specs.declared.token.Tok.{Tok}
use Rattle.mas_project.specs.declared.lexeme.ProjectLexeme.{ProjectLexeme}
use Rattle.mas_project.specs.declared.piece.PieceMeaning.{PieceMeaning}
use Rattle.mas_project.specs.declared.piece.NextPiece.{NextPiece}
use Rattle.mas_project.specs.declared.syntax.AgentLine.{AgentLine}
use Rattle.mas_project.specs.declared.syntax.ProjectText.{ProjectText}
use Rattle.mas_project.specs.declared.fault.ProjectFault.{ProjectFault}
use Rattle.mas_project.specs.Lexemes.{lexemes}
use Rattle.mas_project.specs.Grammar.{Reads, next_turn}
use Rattle.mas_project.specs.Pieces.{pieces, ReadsAll, none_left, next_piece}
use Rattle.mas_project.specs.Faults.{IsRefusedPiece, too_early, stops, FirstRefused, refused, missing}
use Rattle.mas_project.specs.Projects.{all_added, nothing, SayProject, IsWithin, FailsTest, too_many, two_names}
use Rattle.mas_project.proofs.Complete.{one_reading}
use Rattle.mas_project.proofs.Named.{apart}

pub same_said : {at a b : Option NextPiece} {ps : List (List Tok)} {ms ns : List PieceMeaning} → ReadsAll at ps ms a → ReadsAll at ps ns b → (ms ≡ ns) × (a ≡ b)
same_said none_left none_left = (refl, refl)
same_said {b = b} (next_piece {at = at} {piece = p} {ps = ps} {meant = m} {rest = ms} r h) (next_piece {meant = n} {rest = ns} q k) =
    let same = one_reading at (lexemes p) n m q r in
    let more = same_said h (subst (λ (x : PieceMeaning). ReadsAll (next_turn x) ps ns b) same k) in
    (ap (λ (x : List PieceMeaning). m ∷ x) more.0 ∙ ap (λ (x : PieceMeaning). x ∷ ns) (sym same), more.1)

pub same_project : (ps : List (List Tok)) (p q : ProjectText) → SayProject ps p → SayProject ps q → p ≡ q
same_project ps p q a b = a.says ∙ ap (all_added nothing) (same_said a.reads b.reads).0 ∙ sym b.says

-- one of the pieces that read
record OneRead (at : Option NextPiece) (before : List (List Tok)) (piece : List Tok) : Type 0 where
  there : NextPiece
  said_before : List PieceMeaning
  meant : PieceMeaning
  came : ReadsAll at before said_before (Some there)
  reads : Reads there (lexemes piece) meant

one_read : {at end : Option NextPiece} {ms : List PieceMeaning} (before behind : List (List Tok)) (piece : List Tok) → ReadsAll at (before ++ piece ∷ behind) ms end
    → OneRead at before piece
one_read [] behind piece (next_piece {meant = m} r h) = record { there = _; said_before = []; meant = m; came = none_left; reads = r }
one_read (q ∷ before) behind piece (next_piece r h) =
    let o = one_read before behind piece h in
    record { there = o.there; said_before = _; meant = o.meant; came = next_piece r o.came; reads = o.reads }

piece_not_refused : {at : NextPiece} {piece : List Tok} {number : ℕ} {f : ProjectFault} (m : PieceMeaning) → Reads at (lexemes piece) m
    → IsRefusedPiece piece number (Some at) f → ⊥
piece_not_refused m r (too_early h e) = h.no_piece m r
piece_not_refused {at = at} m r (stops word h e) =
    h.stuck (record { more = h.rest; meant = m; reads = subst (λ (x : List ProjectLexeme). Reads at x m) (h.parts ∙ sym (append_assoc h.front (word ∷ []) h.rest)) r })

-- pieces that read hold none that is refused there
pub read_through : {at there end : Option NextPiece} {number : ℕ} {f : ProjectFault} (before behind all : List (List Tok)) (piece : List Tok) (ms ns : List PieceMeaning)
    → ReadsAll at all ms end → all ≡ before ++ piece ∷ behind → ReadsAll at before ns there → IsRefusedPiece piece number there f → ⊥
read_through {at = at} {end = end} {number = number} {f = f} before behind all piece ms ns r e b s =
    let o = one_read before behind piece (subst (λ (x : List (List Tok)). ReadsAll at x ms end) e r) in
    piece_not_refused o.meant o.reads (subst (λ (x : Option NextPiece). IsRefusedPiece piece number x f) (same_said b o.came).1 s)

some_none : (at : NextPiece) → Some at ≡ None → ⊥
some_none at e = cc

pub not_refused : (ts : List Tok) (p : ProjectText) (f : ProjectFault) → SayProject (pieces ts) p → FirstRefused ts f → ⊥
not_refused ts p f s (refused before behind piece meant at parts reads r) = read_through before behind (pieces ts) piece s.meant meant s.reads parts reads r
not_refused ts p f s (missing meant at reads e) = some_none at (same_said reads s.reads).1

pub not_failing : (lines : List AgentLine) (f : ProjectFault) → IsWithin lines → FailsTest lines f → ⊥
not_failing lines f w (too_many lt) = omega (arith, lt, w.few)
not_failing lines f w (two_names {name = name} le t) =
    let new = apart t.before name t.behind (subst (IsDistinct bytes_eq) t.parts w.distinct) in
    true≢false (sym t.twice ∙ new)
