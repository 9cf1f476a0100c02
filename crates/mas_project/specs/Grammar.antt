-- The grammar of a project: what its pieces are, and where a piece leaves it.
use Rattle.std.specs.Prelude.{◌≡◌, ℕ, ◌≤◌, List, [], ◌∷◌, ◌++◌, Option, Some, None, codes}
use Rattle.mas_project.specs.declared.lexeme.ProjectLexeme.{ProjectLexeme}
use Rattle.mas_project.specs.declared.lexeme.ProjectLexeme.TheVariants.{Atom, Var, Str, Suffix, Number, Colon, Semicolon, Hash, OpenBrace, CloseBrace}
use Rattle.mas_project.specs.declared.piece.AgentEntry.{AgentEntry}
use Rattle.mas_project.specs.declared.piece.PieceMeaning.{PieceMeaning}
use Rattle.mas_project.specs.declared.piece.PieceMeaning.TheVariants as said
use Rattle.mas_project.specs.declared.piece.NextPiece.{NextPiece}
use Rattle.mas_project.specs.declared.piece.NextPiece.TheVariants as turn

-- ---- an entry: the name of an agent, its file, and how many there are

-- the file that a name of agents stands for
abbrev pub asl : List ℕ → List ℕ
asl name = name ++ codes ".asl"

-- rule: the file of an entry: `stem.asl` or a string; without both the agent's name with `.asl`
pub data ReadsFile (name : List ℕ) : List ProjectLexeme → List ProjectLexeme → List ℕ → Type 0 where
  own_file : {us : List ProjectLexeme} → ReadsFile name us us (asl name)
  named_file : {stem : List ℕ} {us : List ProjectLexeme} → ReadsFile name (Atom stem ∷ Suffix ∷ us) us (asl stem)
  quoted_file : {file : List ℕ} {us : List ProjectLexeme} → ReadsFile name (Str file ∷ us) us file

-- rule: an entry: `name file;` or `name file #n;` with n from 1
pub data ReadsEntry : List ProjectLexeme → AgentEntry → Type 0 where
  one_agent : {name file : List ℕ} {ts : List ProjectLexeme} → ReadsFile name ts (Semicolon ∷ []) file
      → ReadsEntry (Atom name ∷ ts) (record { name = name; file = file; count = None })
  some_agents : {name file : List ℕ} {n : ℕ} {ts : List ProjectLexeme} → 1 ≤ n → ReadsFile name ts (Hash ∷ Number n ∷ Semicolon ∷ []) file
      → ReadsEntry (Atom name ∷ ts) (record { name = name; file = file; count = Some n })

-- ---- the options

-- `infrastructure: Centralised` before these
abbrev pub infrastructure : List ProjectLexeme → List ProjectLexeme
infrastructure us = Atom (codes "infrastructure") ∷ Colon ∷ Var (codes "Centralised") ∷ us

-- the file that the name of an environment stands for
abbrev pub env : List ℕ → List ℕ
env name = name ++ codes ".env"

-- `environment: e` or `environment: E` before these
pub data ReadsEnvironment : List ProjectLexeme → List ProjectLexeme → List ℕ → Type 0 where
  by_atom : {name : List ℕ} {us : List ProjectLexeme} → ReadsEnvironment (Atom (codes "environment") ∷ Colon ∷ Atom name ∷ us) us (env name)
  by_var : {name : List ℕ} {us : List ProjectLexeme} → ReadsEnvironment (Atom (codes "environment") ∷ Colon ∷ Var name ∷ us) us (env name)

-- rule: the options: both in either order, each at most once
pub data ReadsOptions : List ProjectLexeme → List ProjectLexeme → Option (List ℕ) → Type 0 where
  no_option : {us : List ProjectLexeme} → ReadsOptions us us None
  infrastructure_alone : {us : List ProjectLexeme} → ReadsOptions (infrastructure us) us None
  environment_alone : {ts us : List ProjectLexeme} {file : List ℕ} → ReadsEnvironment ts us file → ReadsOptions ts us (Some file)
  infrastructure_first : {ts us : List ProjectLexeme} {file : List ℕ} → ReadsEnvironment ts us file → ReadsOptions (infrastructure ts) us (Some file)
  environment_first : {ts us : List ProjectLexeme} {file : List ℕ} → ReadsEnvironment ts (infrastructure us) file → ReadsOptions ts us (Some file)

-- ---- the pieces

-- rule: `MAS name {`, then the options and `agents:` with the first entry, then entries, then `}`
pub data Reads : NextPiece → List ProjectLexeme → PieceMeaning → Type 0 where
  title : {name : List ℕ} → Reads turn.Title (Var (codes "MAS") ∷ Atom name ∷ OpenBrace ∷ []) (said.Title name)
  first_entry : {ts us : List ProjectLexeme} {world : Option (List ℕ)} {entry : AgentEntry} → ReadsOptions ts (Atom (codes "agents") ∷ Colon ∷ us) world
      → ReadsEntry us entry → Reads turn.First ts (said.First world entry)
  next_entry : {ts : List ProjectLexeme} {entry : AgentEntry} → ReadsEntry ts entry → Reads turn.Later ts (said.Next entry)
  last : Reads turn.Later (CloseBrace ∷ []) said.End

-- which piece comes next; none behind the end
abbrev pub next_turn : PieceMeaning → Option NextPiece
next_turn (said.Title name) = Some turn.First
next_turn (said.First world entry) = Some turn.Later
next_turn (said.Next entry) = Some turn.Later
next_turn said.End = None

-- ---- where a piece leaves the grammar

-- a piece may begin so
pub record GoesOn (at : NextPiece) (front : List ProjectLexeme) : Type 0 where
  pub more : List ProjectLexeme
  pub meant : PieceMeaning
  pub reads : Reads at (front ++ more) meant

-- no piece begins so
abbrev pub Stuck : NextPiece → List ProjectLexeme → Type 0
Stuck at front = GoesOn at front → ⊥

-- rule: the first word with which no reading goes on
pub record StopsAt (at : NextPiece) (ts : List ProjectLexeme) (word : ProjectLexeme) : Type 0 where
  pub front : List ProjectLexeme
  pub rest : List ProjectLexeme
  pub parts : ts ≡ front ++ word ∷ rest
  pub goes_on : GoesOn at front
  pub stuck : Stuck at (front ++ word ∷ [])

-- a reading goes on to the end, and wants more
pub record EndsEarly (at : NextPiece) (ts : List ProjectLexeme) : Type 0 where
  pub goes_on : GoesOn at ts
  pub no_piece : (meant : PieceMeaning) → Reads at ts meant → ⊥
