-- Reading one piece after the other, as a loop does.
use Rattle.std.proofs.Common.{◌≡◌, ℕ, ◌+◌, ◌-◌, ◌<◌, List, [], ◌∷◌, ◌++◌, length, slice_get, Option, Some, None, refl, sym, ap, subst, ◌∙◌, append_assoc, arith}
use Rattle.std.proofs.lemmas.List.{append-nil, length-append}
use Rattle.asl_lexer.specs.declared.token.Tok.{Tok}
use Rattle.asl_lexer.specs.Words.{IsCut}
use Rattle.asl_lexer.specs.Words as words
use Rattle.mas_project.specs.declared.draft.Draft.{Draft}
use Rattle.mas_project.specs.declared.piece.PieceMeaning.{PieceMeaning}
use Rattle.mas_project.specs.declared.piece.NextPiece.{NextPiece}
use Rattle.mas_project.specs.declared.piece.NextPiece.TheVariants as turn
use Rattle.mas_project.specs.declared.fault.ProjectFault.{ProjectFault}
use Rattle.mas_project.specs.Lexemes.{lexemes}
use Rattle.mas_project.specs.Grammar.{Reads, next_turn}
use Rattle.mas_project.specs.Pieces.{ends_piece, pieces, ReadsAll, none_left, next_piece}
use Rattle.mas_project.specs.Faults.{UnlessMemory, clause_at, IsRefusedPiece, too_late, FirstRefused, refused, missing}
use Rattle.mas_project.specs.Projects.{all_added, nothing}
use Rattle.mas_project.specs.inner.Drafts.{no_draft, drafted, IsDraft, SayDraft}
use Rattle.mas_project.proofs.Refused.{unless_memory, carried}
use Rattle.mas_project.proofs.Drafting.{more_drafts, begins_draft, added_last}

-- the pieces before read, and a draft of what they say is kept
pub record Told (ts rest : List Tok) (number : ℕ) (at : Option NextPiece) (d : Draft) : Type 0 where
  pub before : List (List Tok)
  pub meant : List PieceMeaning
  pub parts : pieces ts ≡ before ++ pieces rest
  pub count : number ≡ length before
  pub reads : ReadsAll (Some turn.Title) before meant at
  pub drafts : IsDraft (all_added nothing meant) d

pub begins : (ts : List Tok) → Told ts ts 0 (Some turn.Title) no_draft
begins ts = record { before = []; meant = []; parts = refl; count = refl; reads = none_left; drafts = begins_draft }

pub reads_push : {a : Option NextPiece} {at : NextPiece} {ps : List (List Tok)} {ms : List PieceMeaning} {m : PieceMeaning} (p : List Tok) → ReadsAll a ps ms (Some at)
    → Reads at (lexemes p) m → ReadsAll a (ps ++ p ∷ []) (ms ++ m ∷ []) (next_turn m)
reads_push p none_left r = next_piece r none_left
reads_push p (next_piece q h) r = next_piece q (reads_push p h r)

pub more : (ts rest p us : List Tok) (number : ℕ) (at : NextPiece) (d : Draft) (m : PieceMeaning) → Told ts rest number (Some at) d → IsCut ends_piece rest p us
    → Reads at (lexemes p) m → Told ts us (number + 1) (next_turn m) (drafted d m)
more ts rest p us number at d m h c r = record {
  before = h.before ++ p ∷ [];
  meant = h.meant ++ m ∷ [];
  parts = h.parts ∙ ap (λ (x : List (List Tok)). h.before ++ x) c.parts ∙ sym (append_assoc h.before (p ∷ []) (pieces us));
  count = omega (arith, h.count, length-append h.before (p ∷ []));
  reads = reads_push p h.reads r;
  drafts = subst (λ (x : _). IsDraft x (drafted d m)) (sym (added_last nothing h.meant m)) (more_drafts (all_added nothing h.meant) d m h.drafts);
}

pub shorter : (rest p us : List Tok) → IsCut ends_piece rest p us → length us < length rest
shorter rest p us c = omega (arith, c.some, ap length c.whole, length-append p us)

here : (ts rest p us : List Tok) (number : ℕ) (at : Option NextPiece) (d : Draft) (f : ProjectFault) → Told ts rest number at d
    → IsCut ends_piece rest p us → IsRefusedPiece p (number + 1) at f → FirstRefused ts f
here ts rest p us number at d f h c s =
    refused h.before (pieces us) p h.meant at (h.parts
    ∙ ap (λ (x : List (List Tok)). h.before ++ x) c.parts) h.reads (subst (λ (x : ℕ). IsRefusedPiece p (x + 1) at f) h.count s)

pub stops : (ts rest p us : List Tok) (number : ℕ) (at : Option NextPiece) (d : Draft) (f : ProjectFault) → Told ts rest number at d
    → IsCut ends_piece rest p us → UnlessMemory (IsRefusedPiece p (number + 1) at) f → UnlessMemory (FirstRefused ts) f
stops ts rest p us number at d f h c s = carried (IsRefusedPiece p (number + 1) at) (FirstRefused ts) f (here ts rest p us number at d f h c) s

pub late : (ts rest p us : List Tok) (number : ℕ) (at : Option NextPiece) (d : Draft) (f : ProjectFault) → Told ts rest number at d → at ≡ None
    → IsCut ends_piece rest p us → f ≡ clause_at (number + 1) (slice_get p 0) → UnlessMemory (FirstRefused ts) f
late ts rest p us number at d f h n c e =
    unless_memory (FirstRefused ts) f (here ts rest p us number None d f (subst (λ (x : Option NextPiece). Told ts rest number x d) n h) c (too_late e))

-- no tokens are left
all_told : (ts rest : List Tok) (number : ℕ) (at : Option NextPiece) (d : Draft) → (h : Told ts rest number at d) → rest ≡ [] → pieces ts ≡ h.before
unfolding words.pieces
all_told ts rest number at d h e = h.parts ∙ ap (λ (x : List Tok). h.before ++ pieces x) e ∙ append-nil h.before

pub ends : (ts rest : List Tok) (number : ℕ) (at : Option NextPiece) (d : Draft) → Told ts rest number at d → rest ≡ [] → at ≡ None → SayDraft (pieces ts) d
ends ts rest number at d h e n = record {
  project = all_added nothing h.meant;
  says = record {
    meant = h.meant;
    reads =
        subst (λ (x : List (List Tok)). ReadsAll (Some turn.Title) x h.meant None) (sym (all_told ts rest number at d h e)) (subst
        (ReadsAll (Some turn.Title) h.before h.meant) n h.reads);
    says = refl;
  };
  drafts = h.drafts;
}

pub misses : (ts rest : List Tok) (number : ℕ) (at : Option NextPiece) (t : NextPiece) (d : Draft) (f : ProjectFault) → Told ts rest number at d → rest ≡ []
    → at ≡ Some t → f ≡ clause_at (number + 1) (slice_get ts (length ts - 1)) → UnlessMemory (FirstRefused ts) f
misses ts rest number at t d f h e n same =
    let all = all_told ts rest number at d h e in
    let reads = subst (λ (x : List (List Tok)). ReadsAll (Some turn.Title) x h.meant at) (sym all) h.reads in
    unless_memory (FirstRefused ts) f (missing h.meant t (subst (ReadsAll (Some turn.Title) (pieces ts) h.meant) n reads) (same
    ∙ ap (λ (x : ℕ). clause_at (x + 1) (slice_get ts (length ts - 1))) (h.count ∙ ap length (sym all))))

pub ruleset turns = (begins, more, shorter, stops, late, ends, misses)
