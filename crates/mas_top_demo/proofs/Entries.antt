-- The pieces of the demo's project read as its title, its entries and its end.
use Rattle.std.proofs.Common.{◌≡◌, ℕ, suc, Bool, true, false, List, [], ◌∷◌, ◌++◌, map, Option, Some, None, refl, ap, sym, ◌∙◌, subst, append_assoc, append-nil}
use Rattle.std.specs.Prelude.{codes}
use Rattle.std.specs.List.{list_all, flat_map, range_with_len}
use Rattle.asl_lexer.specs.declared.token.Tok.{Tok}
use Rattle.asl_lexer.specs.declared.token.TokKind.{TokKind}
use Rattle.asl_lexer.specs.declared.token.TokKind.TheVariants as kind
use Rattle.asl_lexer.specs.Spelling.{sign_of}
use Rattle.asl_lexer.specs.Words.{atom_word}
use Rattle.asl_lexer.specs.Bare.{Bare, bare}
use Rattle.asl_lexer.proofs.Bytes.{both}
use Rattle.mas_project.specs.declared.lexeme.ProjectLexeme.{ProjectLexeme}
use Rattle.mas_project.specs.declared.piece.AgentEntry.{AgentEntry}
use Rattle.mas_project.specs.declared.piece.PieceMeaning.{PieceMeaning}
use Rattle.mas_project.specs.declared.piece.PieceMeaning.TheVariants as said
use Rattle.mas_project.specs.declared.piece.NextPiece.{NextPiece}
use Rattle.mas_project.specs.declared.piece.NextPiece.TheVariants as turn
use Rattle.mas_project.specs.declared.syntax.AgentLine.{AgentLine}
use Rattle.mas_project.specs.declared.syntax.ProjectText.{ProjectText}
use Rattle.mas_project.specs.Lexemes as lexemes
use Rattle.mas_project.specs.Grammar.{Reads, asl, title, first_entry, next_entry, last, one_agent, own_file, environment_alone, by_atom}
use Rattle.mas_project.specs.Pieces.{ends_piece, pieces, ReadsAll, none_left, next_piece}
use Rattle.mas_project.specs.Projects.{SayProject, line_of, added, all_added}
use Rattle.mas_top_demo.specs.Files.{agent_name}
use Rattle.mas_top_demo.proofs.Cut.{cut, cut_same}
use Rattle.mas_top_demo.proofs.Project.{title_tokens, option_tokens, entry_tokens, last_token, project_tokens}

-- ---- tokens other than those of internal actions, to the grammar of projects

abbrev is_other : TokKind → Bool
is_other kind.Inner = false
is_other _ = true

abbrev other : Bare → Bool
other x = is_other x.kind

abbrev lexed : List Bare → List ProjectLexeme
lexed xs = map (λ (x : Bare). lexemes.lexeme_of x.kind x.text false) xs

same_lexeme : (k : TokKind) (text : List ℕ) (suffix : Bool) → is_other k ≡ true → lexemes.lexeme_of k text suffix ≡ lexemes.lexeme_of k text false
same_lexeme kind.Inner text suffix e = absurd cc
same_lexeme kind.Atom text suffix e = refl
same_lexeme kind.Var text suffix e = refl
same_lexeme kind.Str text suffix e = refl
same_lexeme kind.Number text suffix e = refl
same_lexeme kind.Sign text suffix e = refl
same_lexeme kind.End text suffix e = refl

lexed_from : (before : Option Tok) (ts : List Tok) → list_all other (map bare ts) ≡ true → lexemes.lexemes_from before ts ≡ lexed (map bare ts)
unfolding lexemes.lexeme lexemes.lexemes_from
lexed_from before [] e = refl
lexed_from before (t ∷ ts) e =
    let h = both (other (bare t)) (list_all other (map bare ts)) e in
    let first = same_lexeme t.kind t.text (lexemes.is_suffix before t) h.0 in
    let rest = lexed_from (Some t) ts h.1 in
    λ i. first i ∷ rest i

-- the tokens of a piece
piece_lexed : (p : List Tok) (xs : List Bare) → map bare p ≡ xs → list_all other xs ≡ true → lexemes.lexemes p ≡ lexed xs
piece_lexed p xs e o = lexed_from None p (ap (list_all other) e ∙ o) ∙ ap lexed e

piece_reads : (at : NextPiece) (s : PieceMeaning) (p : List Tok) (xs : List Bare) → map bare p ≡ xs → list_all other xs ≡ true → Reads at (lexed xs) s
    → Reads at (lexemes.lexemes p) s
piece_reads at s p xs e o r = subst (λ (ls : List ProjectLexeme). Reads at ls s) (sym (piece_lexed p xs e o)) r

-- ---- what the pieces say

abbrev pub entry : ℕ → AgentEntry
entry i = record { name = agent_name i; file = asl (agent_name i); count = None }

abbrev pub agent_line : ℕ → AgentLine
agent_line i = line_of (entry i)

title_reads : Reads turn.Title (lexed title_tokens) (said.Title (codes "demo"))
unfolding sign_of
title_reads = title

first_reads : (i : ℕ) → Reads turn.First (lexed (option_tokens ++ entry_tokens i)) (said.First (Some (codes "demo.env")) (entry i))
unfolding sign_of
first_reads i = first_entry (environment_alone by_atom) (one_agent own_file)

next_reads : (i : ℕ) → Reads turn.Later (lexed (entry_tokens i)) (said.Next (entry i))
unfolding sign_of
next_reads i = next_entry (one_agent own_file)

last_reads : Reads turn.Later (lexed last_token) said.End
unfolding sign_of
last_reads = last

-- the later entries and the end
abbrev later_said : List ℕ → List PieceMeaning
later_said ns = map (λ (n : ℕ). said.Next (entry n)) ns ++ said.End ∷ []

abbrev later_pieces : List ℕ → List (List Bare)
later_pieces ns = map entry_tokens ns ++ last_token ∷ []

later_read : (ns : List ℕ) (ps : List (List Tok)) → map (map bare) ps ≡ later_pieces ns → ReadsAll (Some turn.Later) ps (later_said ns) None
later_read [] [] e = absurd cc
later_read [] (p ∷ []) e = let same : map bare p ≡ last_token = cc in next_piece (piece_reads turn.Later said.End p last_token same refl last_reads) none_left
later_read [] (p ∷ q ∷ ps) e = absurd cc
later_read (n ∷ ns) [] e = absurd cc
later_read (n ∷ ns) (p ∷ ps) e =
    let first : map bare p ≡ entry_tokens n = cc in
    let rest : map (map bare) ps ≡ later_pieces ns = cc in
    next_piece (piece_reads turn.Later (said.Next (entry n)) p (entry_tokens n) first refl (next_reads n)) (later_read ns ps rest)

abbrev all_said : ℕ → List ℕ → List PieceMeaning
all_said n ns = said.Title (codes "demo") ∷ said.First (Some (codes "demo.env")) (entry n) ∷ later_said ns

abbrev all_pieces : ℕ → List ℕ → List (List Bare)
all_pieces n ns = title_tokens ∷ (option_tokens ++ entry_tokens n) ∷ later_pieces ns

all_read : (n : ℕ) (ns : List ℕ) (ps : List (List Tok)) → map (map bare) ps ≡ all_pieces n ns → ReadsAll (Some turn.Title) ps (all_said n ns) None
all_read n ns [] e = absurd cc
all_read n ns (p ∷ []) e = absurd cc
all_read n ns (p ∷ q ∷ ps) e =
    let first : map bare p ≡ title_tokens = cc in
    let second : map bare q ≡ option_tokens ++ entry_tokens n = cc in
    let rest : map (map bare) ps ≡ later_pieces ns = cc in
    next_piece (piece_reads turn.Title (said.Title (codes "demo")) p title_tokens first refl title_reads)
    (next_piece (piece_reads turn.First (said.First (Some (codes "demo.env")) (entry n)) q (option_tokens ++ entry_tokens n) second refl (first_reads n))
    (later_read ns ps rest))

-- ---- the tokens are cut so

later_cut : (ns : List ℕ) → cut ends_piece (flat_map entry_tokens ns ++ last_token) ≡ later_pieces ns
unfolding sign_of atom_word
later_cut [] = refl
later_cut (n ∷ ns) = ap (λ cs. entry_tokens n ∷ cs) (later_cut ns)

all_cut : (n : ℕ) (ns : List ℕ) → cut ends_piece (title_tokens ++ (option_tokens ++ (flat_map entry_tokens (n ∷ ns) ++ last_token))) ≡ all_pieces n ns
unfolding sign_of atom_word
all_cut n ns = ap (λ cs. title_tokens ∷ (option_tokens ++ entry_tokens n) ∷ cs) (later_cut ns)

-- ---- the project

abbrev pub demo_project : ℕ → ProjectText
demo_project k = record { name = codes "demo"; world = Some (codes "demo.env"); agents = map agent_line (range_with_len 1 k) }

later_added : (p : ProjectText) (ns : List ℕ)
    → all_added p (later_said ns) ≡ record { name = p.name; world = p.world; agents = p.agents ++ map agent_line ns }
later_added p [] = ap (λ agents. record { name = p.name; world = p.world; agents = agents }) (sym (append-nil p.agents))
later_added p (n ∷ ns) =
    later_added (added p (said.Next (entry n))) ns
    ∙ ap (λ agents. record { name = p.name; world = p.world; agents = agents }) (append_assoc p.agents (agent_line n ∷ []) (map agent_line ns))

pub say_project : (k : ℕ) (ts : List Tok) → map bare ts ≡ project_tokens (suc k) → SayProject (pieces ts) (demo_project (suc k))
say_project k ts e = record {
  meant = all_said 1 (range_with_len 2 k);
  reads = all_read 1 (range_with_len 2 k) (pieces ts) (cut_same ends_piece ts ∙ ap (cut ends_piece) e ∙ all_cut 1 (range_with_len 2 k));
  says =
      sym (later_added (record { name = codes "demo"; world = Some (codes "demo.env"); agents = agent_line 1 ∷ [] }) (range_with_len 2 k));
}
