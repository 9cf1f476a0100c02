-- A project has an agent.
use Rattle.std.proofs.Common.{◌≡◌, ℕ, ◌≤◌, List, [], ◌∷◌, Option, Some, None, refl, sym, ap, subst, arith}
use Rattle.asl_lexer.specs.declared.token.Tok.{Tok}
use Rattle.mas_project.specs.declared.lexeme.ProjectLexeme.{ProjectLexeme}
use Rattle.mas_project.specs.declared.piece.AgentEntry.{AgentEntry}
use Rattle.mas_project.specs.declared.piece.PieceMeaning.{PieceMeaning}
use Rattle.mas_project.specs.declared.piece.PieceMeaning.TheVariants as said
use Rattle.mas_project.specs.declared.piece.NextPiece.{NextPiece}
use Rattle.mas_project.specs.declared.piece.NextPiece.TheVariants as turn
use Rattle.mas_project.specs.declared.syntax.ProjectText.{ProjectText}
use Rattle.mas_project.specs.Grammar.{ReadsEntry, one_agent, some_agents as counted_agents, Reads, title, first_entry, next_turn}
use Rattle.mas_project.specs.Pieces.{ReadsAll, next_piece}
use Rattle.mas_project.specs.Names.{agents_of}
use Rattle.mas_project.specs.Projects.{count_of, added, all_added, nothing}
use Rattle.mas_project.specs.Laws.{SomeAgents}
use Rattle.mas_project.proofs.Drafting.{agents_push}

-- an entry is an agent at least
entry_some : {ts : List ProjectLexeme} {entry : AgentEntry} → ReadsEntry ts entry → 1 ≤ count_of entry
entry_some (one_agent f) = omega arith
entry_some (counted_agents n f) = n

-- no agent goes again
agents_stay : (p : ProjectText) (m : PieceMeaning) → agents_of p.agents ≤ agents_of (added p m).agents
agents_stay p (said.Title name) = omega arith
agents_stay p (said.First world entry) = omega (arith, agents_push p.agents entry)
agents_stay p (said.Next entry) = omega (arith, agents_push p.agents entry)
agents_stay p said.End = omega arith

all_stay : (p : ProjectText) (ms : List PieceMeaning) → agents_of p.agents ≤ agents_of (all_added p ms).agents
all_stay p [] = omega arith
all_stay p (m ∷ ms) = omega (arith, agents_stay p m, all_stay (added p m) ms)

-- what is said in the first two turns
title_is : {ts : List ProjectLexeme} {m : PieceMeaning} → Reads turn.Title ts m → (name : List ℕ) × (said.Title name ≡ m)
title_is (title {name = name}) = (name, refl)

record IsFirst (m : PieceMeaning) : Type 0 where
  world : Option (List ℕ)
  entry : AgentEntry
  some : 1 ≤ count_of entry
  same : said.First world entry ≡ m

first_is : {ts : List ProjectLexeme} {m : PieceMeaning} → Reads turn.First ts m → IsFirst m
first_is (first_entry {world = world} {entry = entry} o e) = record { world = world; entry = entry; some = entry_some e; same = refl }

first_some : {ps : List (List Tok)} {ms : List PieceMeaning} (p : ProjectText) → ReadsAll (Some turn.First) ps ms None → 1 ≤ agents_of (all_added p ms).agents
first_some p (next_piece {rest = ms} r h) =
    let f = first_is r in
    let grown = agents_push p.agents f.entry in
    let stay = all_stay (added p (said.First f.world f.entry)) ms in
    subst (λ (x : PieceMeaning). 1 ≤ agents_of (all_added (added p x) ms).agents) f.same (omega (arith, f.some, grown, stay))

said_some : {ps : List (List Tok)} {ms : List PieceMeaning} → ReadsAll (Some turn.Title) ps ms None → 1 ≤ agents_of (all_added nothing ms).agents
said_some (next_piece {ps = ps} {meant = m} {rest = ms} r h) =
    first_some (added nothing m) (subst (λ (x : Option NextPiece). ReadsAll x ps ms None) (sym (ap next_turn (title_is r).1)) h)

pub some_agents : SomeAgents
some_agents bytes p h = subst (λ (x : ProjectText). 1 ≤ agents_of x.agents) (sym h.says.says) (said_some h.says.reads)
