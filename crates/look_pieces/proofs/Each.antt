-- Findings of a piece, one after the other.
use Rattle.std.proofs.Common.{◌≡◌, List, [], ◌∷◌, ◌++◌, length, arith}
use Rattle.asl_lexer.specs.declared.token.Tok.{Tok}
use Rattle.look_pieces.specs.declared.findings.Finding.{Finding}
use Rattle.look_pieces.specs.Telling.{Each, AreIn, IsFirst, StandsIn}

pub each_more : {A : Type 0} (P : A → Type 0) (xs : List A) (x : A) → Each P xs → P x → Each P (xs ++ x ∷ [])
each_more P [] x h p = (p, tt)
each_more P (y ∷ xs) x h p = (h.0, each_more P xs x h.1 p)

pub one_more : (p : List Tok) (fs : List Finding) (f : Finding) → Each (StandsIn p) fs → StandsIn p f → Each (StandsIn p) (fs ++ f ∷ [])
one_more p fs f h s = each_more (StandsIn p) fs f h s

-- one finding at the first token
pub at_first : (t : Tok) (p : List Tok) (fs : List Finding) (f : Finding) → length fs ≡ 0 → IsFirst t p → f.line ≡ t.line → f.column ≡ t.column → AreIn p (fs ++ f ∷ [])
at_first t p [] f e h l c = record {
  some = omega arith;
  stand = (record { index = 0; token = t; there = h; line = l; column = omega arith }, tt);
}
at_first t p (g ∷ fs) f e h l c = absurd (omega arith)
