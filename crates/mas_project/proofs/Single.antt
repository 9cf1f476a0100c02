-- Bytes have one first refusal.
use Rattle.std.proofs.Common.{◌≡◌, ℕ, ◌+◌, List, [], ◌∷◌, ◌++◌, length, Option, Some, None, refl, sym, ap, subst, ◌∙◌, append_assoc, arith, true≢false}
use Rattle.std.specs.List.{IsDistinct}
use Rattle.std.specs.Str.{bytes_eq}
use Rattle.asl_lexer.specs.declared.token.Tok.{Tok}
use Rattle.mas_project.specs.declared.lexeme.ProjectLexeme.{ProjectLexeme}
use Rattle.mas_project.specs.declared.piece.NextPiece.{NextPiece}
use Rattle.mas_project.specs.declared.piece.NextPiece.TheVariants as turn
use Rattle.mas_project.specs.declared.syntax.AgentLine.{AgentLine}
use Rattle.mas_project.specs.declared.fault.ProjectFault.{ProjectFault}
use Rattle.mas_project.specs.declared.fault.ProjectFault.TheVariants as fault
use Rattle.mas_project.specs.Lexemes.{lexemes}
use Rattle.mas_project.specs.Grammar.{Reads, GoesOn, StopsAt, EndsEarly}
use Rattle.mas_project.specs.Pieces.{pieces, ReadsAll}
use Rattle.mas_project.specs.Names.{names_of, IsTwice}
use Rattle.mas_project.specs.Faults.{stop_fault, IsRefusedPiece, too_late, too_early, stops, FirstRefused, refused, missing}
use Rattle.mas_project.specs.Projects.{too_many, two_names, FailsTest}
use Rattle.mas_project.proofs.Meets.{Meets, here, later, sooner, meets}
use Rattle.mas_project.proofs.Named.{apart}
use Rattle.mas_project.proofs.Readings.{same_said, read_through}

-- ---- where a piece stops

-- what begins a piece begins it with each front
front_goes_on : (at : NextPiece) (front : List ProjectLexeme) (w : ProjectLexeme) (rest : List ProjectLexeme) → GoesOn at (front ++ w ∷ rest) → GoesOn at (front ++ w ∷ [])
front_goes_on at front w rest g =
    let parts : (front ++ w ∷ rest) ++ g.more ≡ (front ++ w ∷ []) ++ (rest ++ g.more) = append_assoc front (w ∷ rest) g.more
    ∙ sym (append_assoc front (w ∷ []) (rest ++ g.more)) in
    record { more = rest ++ g.more; meant = g.meant; reads = subst (λ (x : List ProjectLexeme). Reads at x g.meant) parts g.reads }

same_stop : (at : NextPiece) (ts : List ProjectLexeme) (w v : ProjectLexeme) → StopsAt at ts w → StopsAt at ts v → w ≡ v
same_stop at ts w v a b = go (meets a.front b.front w v a.rest b.rest (sym a.parts ∙ b.parts))
  where
    go : Meets a.front b.front w v → w ≡ v
    go (here p q) = q
    go (later more p) = absurd (a.stuck (front_goes_on at a.front w more (subst (GoesOn at) p b.goes_on)))
    go (sooner more p) = absurd (b.stuck (front_goes_on at b.front v more (subst (GoesOn at) p a.goes_on)))

not_early : (at : NextPiece) (ts : List ProjectLexeme) (w : ProjectLexeme) → EndsEarly at ts → StopsAt at ts w → ⊥
not_early at ts w a b = b.stuck (front_goes_on at b.front w b.rest (subst (GoesOn at) b.parts a.goes_on))

same_piece : (at : Option NextPiece) (piece : List Tok) (number : ℕ) (f g : ProjectFault) → IsRefusedPiece piece number at f
    → IsRefusedPiece piece number at g → f ≡ g
same_piece None piece number f g (too_late e) (too_late q) = e ∙ sym q
same_piece (Some at) piece number f g (too_early o e) (too_early p q) = e ∙ sym q
same_piece (Some at) piece number f g (too_early o e) (stops w p q) = absurd (not_early at (lexemes piece) w o p)
same_piece (Some at) piece number f g (stops w o e) (too_early p q) = absurd (not_early at (lexemes piece) w p o)
same_piece (Some at) piece number f g (stops w o e) (stops v p q) = e ∙ ap (stop_fault number piece) (same_stop at (lexemes piece) w v o p) ∙ sym q

-- ---- the first piece that is refused

pub same_refusal : (ts : List Tok) (f g : ProjectFault) → FirstRefused ts f → FirstRefused ts g → f ≡ g
same_refusal ts f g (missing m at r e) (missing n to q h) = e ∙ sym h
same_refusal ts f g (missing m at r e) (refused b k p n to parts q s) = absurd (read_through b k (pieces ts) p m n r parts q s)
same_refusal ts f g (refused b k p n to parts q s) (missing m at r e) = absurd (read_through b k (pieces ts) p m n r parts q s)
same_refusal ts f g (refused b k p m at parts r s) (refused c l q n to parts2 t u) = go (meets b c p q k l (sym parts ∙ parts2))
  where
    go : Meets b c p q → f ≡ g
    go (later more e) = absurd (read_through b more c p n m t e r s)
    go (sooner more e) = absurd (read_through c more b q m n r e t u)
    go (here e h) =
        let same = (same_said r (subst (λ (x : List (List Tok)). ReadsAll (Some turn.Title) x n to) (sym e) t)).1 in
        let moved = subst (λ (x : List Tok). IsRefusedPiece x (length c + 1) to g) (sym h) u in
        let here_too = subst (λ (x : Option NextPiece). IsRefusedPiece p (length c + 1) x g) (sym same) moved in
        same_piece at p (length b + 1) f g s (subst (λ (x : List (List Tok)). IsRefusedPiece p (length x + 1) at g) (sym e) here_too)

-- ---- the tests

same_twice : (names : List (List ℕ)) (i j : ℕ) (m n : List ℕ) → IsTwice names i m → IsTwice names j n → fault.TwoNames i m ≡ fault.TwoNames j n
same_twice names i j m n a b = go (meets a.before b.before m n a.behind b.behind (sym a.parts ∙ b.parts))
  where
    go : Meets a.before b.before m n → fault.TwoNames i m ≡ fault.TwoNames j n
    go (here e h) = ap (λ (x : ℕ). fault.TwoNames x m) (a.count ∙ ap (λ (x : List (List ℕ)). length x + 1) e ∙ sym b.count)
        ∙ ap (λ (x : List ℕ). fault.TwoNames j x) h
    go (later more e) = absurd (true≢false (sym a.twice ∙ apart a.before m more (subst (IsDistinct bytes_eq) e b.distinct)))
    go (sooner more e) = absurd (true≢false (sym b.twice ∙ apart b.before n more (subst (IsDistinct bytes_eq) e a.distinct)))

pub same_failing : (lines : List AgentLine) (f g : ProjectFault) → FailsTest lines f → FailsTest lines g → f ≡ g
same_failing lines f g (too_many a) (too_many b) = refl
same_failing lines f g (too_many a) (two_names b t) = absurd (omega (arith, a, b))
same_failing lines f g (two_names b t) (too_many a) = absurd (omega (arith, a, b))
same_failing lines f g (two_names a t) (two_names b u) = same_twice (names_of lines) _ _ _ _ t u
