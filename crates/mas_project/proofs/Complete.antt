-- Each reading is found, so there is one at most.
use Rattle.std.proofs.Common.{◌≡◌, ℕ, ◌≤◌, ◌==◌, Bool, true, false, cond, List, [], ◌∷◌, Option, Some, None, Ok, refl, sym, ap, ◌∙◌, arith}
use Rattle.std.specs.Prelude.{codes}
use Rattle.mas_project.specs.declared.lexeme.ProjectLexeme.{ProjectLexeme}
use Rattle.mas_project.specs.declared.lexeme.ProjectLexeme.TheVariants.{Atom, Var, Number, Colon, Semicolon, Hash}
use Rattle.mas_project.specs.declared.piece.AgentEntry.{AgentEntry}
use Rattle.mas_project.specs.declared.piece.PieceMeaning.{PieceMeaning}
use Rattle.mas_project.specs.declared.piece.PieceMeaning.TheVariants as said
use Rattle.mas_project.specs.declared.piece.NextPiece.{NextPiece}
use Rattle.mas_project.specs.declared.state.Before.{Before}
use Rattle.mas_project.specs.declared.state.Before.TheVariants as before
use Rattle.mas_project.specs.declared.state.State.TheVariants as state
use Rattle.mas_project.specs.Grammar.{
  asl,
  ReadsFile,
  own_file,
  named_file,
  quoted_file,
  ReadsEntry,
  one_agent,
  some_agents,
  ReadsEnvironment,
  by_atom,
  by_var,
  ReadsOptions,
  no_option,
  infrastructure_alone,
  environment_alone,
  infrastructure_first,
  environment_first,
  Reads,
  title,
  first_entry,
  next_entry,
  last,
}
use Rattle.mas_project.specs.Laws.{OneReading}
use Rattle.mas_project.specs.inner.Steps.{begin, said_of, step, run}
use Rattle.mas_project.proofs.Machine.{Run, then_run, whole_is}

-- a number from 1 is not 0
pub some_number : (n : ℕ) → 1 ≤ n → (n == 0) ≡ false
some_number n h = grind arith

-- behind the name, up to the file
file_read : (b : Before) {name file : List ℕ} {ts us : List ProjectLexeme} (w : ProjectLexeme) (r : Run) → ReadsFile name ts (w ∷ us) file
    → run (state.File b name file) (w ∷ us) ≡ r → run (state.Name b name) (w ∷ us) ≡ run (state.File b name (asl name)) (w ∷ us)
    → run (state.Name b name) ts ≡ r
unfolding run step
file_read b w r own_file e same = same ∙ e
file_read b w r named_file e same = e
file_read b w r quoted_file e same = e

entry_read : (b : Before) {name : List ℕ} {ts : List ProjectLexeme} {entry : AgentEntry} → ReadsEntry (Atom name ∷ ts) entry
    → run (state.Name b name) ts ≡ Ok (state.Whole (said_of b entry))
unfolding run step
entry_read b (one_agent f) = file_read b Semicolon _ f refl refl
entry_read b (some_agents {name = name} {file = file} {n = n} more f) =
    file_read b Hash _ f (ap (λ (x : Bool). then_run (cond x None (Some (state.Semicolon b (record {
      name = name;
      file = file;
      count = Some n;
    })))) (Number n) (Semicolon ∷ [])) (some_number n more)) refl

environment_read : (seen : Bool) {ts us : List ProjectLexeme} {file : List ℕ} → ReadsEnvironment ts us file
    → run (state.SeenOptions (record { infrastructure = seen; world = None })) ts ≡ run (state.SeenOptions (record { infrastructure = seen; world = Some file })) us
unfolding run step
environment_read seen by_atom = refl
environment_read seen by_var = refl

infrastructure_read : (w : Option (List ℕ)) (us : List ProjectLexeme)
    → run (state.SeenOptions (record {
      infrastructure = false;
      world = w;
    })) (Atom (codes "infrastructure") ∷ Colon ∷ Var (codes "Centralised") ∷ us) ≡ run (state.SeenOptions (record {
      infrastructure = true;
      world = w;
    })) us
unfolding run step
infrastructure_read w us = refl

-- both options were read, in some order
options_read : {ts us : List ProjectLexeme} {w : Option (List ℕ)} → ReadsOptions ts us w
    → (seen : Bool) × (run (state.SeenOptions (record { infrastructure = false; world = None })) ts ≡ run (state.SeenOptions (record { infrastructure = seen; world = w })) us)
options_read no_option = (false, refl)
options_read (infrastructure_alone {us = us}) = (true, infrastructure_read None us)
options_read (environment_alone r) = (false, environment_read false r)
options_read (infrastructure_first {ts = ts} r) = (true, infrastructure_read None ts ∙ environment_read true r)
options_read (environment_first {us = us} {file = file} r) = (true, environment_read false r ∙ infrastructure_read (Some file) us)

agents_read : (seen : Bool) (w : Option (List ℕ)) {us : List ProjectLexeme} {entry : AgentEntry} → ReadsEntry us entry
    → run (state.SeenOptions (record { infrastructure = seen; world = w })) (Atom (codes "agents") ∷ Colon ∷ us) ≡ Ok (state.Whole (said.First w entry))
unfolding run step
agents_read seen w (one_agent f) = entry_read (before.First w) (one_agent f)
agents_read seen w (some_agents n f) = entry_read (before.First w) (some_agents n f)

pub complete : {at : NextPiece} {ts : List ProjectLexeme} {meant : PieceMeaning} → Reads at ts meant → run (begin at) ts ≡ Ok (state.Whole meant)
unfolding run step
complete title = refl
complete (first_entry {world = w} o e) =
    let r = options_read o in
    r.1 ∙ agents_read r.0 w e
complete (next_entry (one_agent f)) = entry_read before.Next (one_agent f)
complete (next_entry (some_agents n f)) = entry_read before.Next (some_agents n f)
complete last = refl

pub one_reading : OneReading
one_reading at ts s t a b = whole_is s t (sym (complete a) ∙ complete b)
