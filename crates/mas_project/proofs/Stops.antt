-- Where a piece leaves the grammar.
use Rattle.std.proofs.Common.{◌≡◌, List, [], ◌∷◌, ◌++◌, None, Ok, Err, refl, sym, ap, subst, ◌∙◌, append_assoc}
use Rattle.std.specs.Prelude.{codes}
use Rattle.mas_project.specs.declared.lexeme.ProjectLexeme.{ProjectLexeme}
use Rattle.mas_project.specs.declared.lexeme.ProjectLexeme.TheVariants.{Atom, Var, Suffix, Number, Colon, Semicolon, OpenBrace, CloseBrace}
use Rattle.mas_project.specs.declared.piece.PieceMeaning.{PieceMeaning}
use Rattle.mas_project.specs.declared.piece.NextPiece.{NextPiece}
use Rattle.mas_project.specs.declared.state.State.{State}
use Rattle.mas_project.specs.declared.state.State.TheVariants as state
use Rattle.mas_project.specs.Grammar.{GoesOn, StopsAt, EndsEarly}
use Rattle.mas_project.specs.inner.Steps.{begin, step, run}
use Rattle.mas_project.proofs.Machine.{ok_is, ok_err, run_on, run_stop, breaks}
use Rattle.mas_project.proofs.Complete.{complete}
use Rattle.mas_project.proofs.Sound.{sound}

-- what may stand behind a state, up to the end of a piece
record Ending (s : State) : Type 0 where
  more : List ProjectLexeme
  meant : PieceMeaning
  found : run s more ≡ Ok (state.Whole meant)

-- behind each state a piece can end
can_end : (s : State) → Ending s
unfolding run step
can_end state.Start = record { more = Var (codes "MAS") ∷ Atom [] ∷ OpenBrace ∷ []; meant = _; found = refl }
can_end state.Title = record { more = Atom [] ∷ OpenBrace ∷ []; meant = _; found = refl }
can_end (state.Brace name) = record { more = OpenBrace ∷ []; meant = _; found = refl }
can_end (state.SeenOptions seen) = record { more = Atom (codes "agents") ∷ Colon ∷ Atom [] ∷ Semicolon ∷ []; meant = _; found = refl }
can_end (state.InfrastructureColon world) = record {
  more = Colon ∷ Var (codes "Centralised") ∷ Atom (codes "agents") ∷ Colon ∷ Atom [] ∷ Semicolon ∷ [];
  meant = _;
  found = refl;
}
can_end (state.Infrastructure world) = record { more = Var (codes "Centralised") ∷ Atom (codes "agents") ∷ Colon ∷ Atom [] ∷ Semicolon ∷ []; meant = _; found = refl }
can_end (state.EnvironmentColon seen) = record { more = Colon ∷ Atom [] ∷ Atom (codes "agents") ∷ Colon ∷ Atom [] ∷ Semicolon ∷ []; meant = _; found = refl }
can_end (state.Environment seen) = record { more = Atom [] ∷ Atom (codes "agents") ∷ Colon ∷ Atom [] ∷ Semicolon ∷ []; meant = _; found = refl }
can_end (state.AgentsColon world) = record { more = Colon ∷ Atom [] ∷ Semicolon ∷ []; meant = _; found = refl }
can_end (state.First world) = record { more = Atom [] ∷ Semicolon ∷ []; meant = _; found = refl }
can_end state.Later = record { more = CloseBrace ∷ []; meant = _; found = refl }
can_end (state.Name b name) = record { more = Semicolon ∷ []; meant = _; found = refl }
can_end (state.Stem b name stem) = record { more = Suffix ∷ Semicolon ∷ []; meant = _; found = refl }
can_end (state.File b name file) = record { more = Semicolon ∷ []; meant = _; found = refl }
can_end (state.Count b name file) = record { more = Number 1 ∷ Semicolon ∷ []; meant = _; found = refl }
can_end (state.Semicolon b entry) = record { more = Semicolon ∷ []; meant = _; found = refl }
can_end (state.Whole m) = record { more = []; meant = m; found = refl }

-- a reading goes on behind each state
goes_on : (at : NextPiece) (front : List ProjectLexeme) (s : State) → run (begin at) front ≡ Ok s → GoesOn at front
goes_on at front s e =
    let w = can_end s in
    record { more = w.more; meant = w.meant; reads = sound at (front ++ w.more) w.meant (run_on (begin at) s front w.more e ∙ w.found) }

-- none goes on with a word that has no step
stuck : (at : NextPiece) (front : List ProjectLexeme) (s : State) (w : ProjectLexeme) → run (begin at) front ≡ Ok s → step s w ≡ None → GoesOn at (front ++ w ∷ []) → ⊥
stuck at front s w e n g =
    let found = complete g.reads in
    let broken : run (begin at) (front ++ w ∷ g.more) ≡ Err (w ∷ g.more) = run_on (begin at) s front (w ∷ g.more) e ∙ run_stop s w g.more n in
    ok_err _ _ (sym found ∙ ap (run (begin at)) (append_assoc front (w ∷ []) g.more) ∙ broken)

pub stops : (at : NextPiece) (ts us : List ProjectLexeme) (w : ProjectLexeme) → run (begin at) ts ≡ Err (w ∷ us) → StopsAt at ts w
stops at ts us w e =
    let b = breaks (begin at) ts (w ∷ us) e in
    let same : w ∷ us ≡ b.word ∷ b.rest = b.left in
    subst (StopsAt at ts) (sym (head_is w b.word us b.rest same)) (record {
      front = b.front;
      rest = b.rest;
      parts = b.parts;
      goes_on = goes_on at b.front b.at b.came;
      stuck = stuck at b.front b.at b.word b.came b.none;
    })
  where
    head_is : (x y : ProjectLexeme) (xs ys : List ProjectLexeme) → x ∷ xs ≡ y ∷ ys → x ≡ y
    head_is x y xs ys e = cc

pub early : (at : NextPiece) (ts : List ProjectLexeme) (s : State) → run (begin at) ts ≡ Ok s → ((m : PieceMeaning) → s ≡ state.Whole m → ⊥) → EndsEarly at ts
early at ts s e n = record { goes_on = goes_on at ts s e; no_piece = λ m r. n m (ok_is _ _ (sym e ∙ complete r)) }
