-- The findings of all pieces, as the loop makes them.
use Rattle.std.proofs.Common.{◌≡◌, ℕ, suc, ◌+◌, ◌<◌, Bool, true, false, cond, List, [], ◌∷◌, ◌++◌, length, Some, is_ok, refl, sym, ap, subst, ◌∙◌, add-one, append_assoc, length-append, arith}
use Rattle.std.proofs.lemmas.List.{append-nil}
use Rattle.asl_lexer.specs.declared.token.Tok.{Tok}
use Rattle.asl_lexer.specs.Lexing.{AreTokens}
use Rattle.asl_lexer.specs.Words.{pieces, is_end, IsCut}
use Rattle.asl_parser.specs.Answering.{piece_at}
use Rattle.look_pieces.specs.declared.findings.Finding.{Finding}
use Rattle.look_pieces.specs.Telling.{AreTold, none_told, more_told, IsFirst, refused, TellsPiece, TellsAgent, pieces_told}

-- where what is left of the pieces, the first of which has the number k, is told behind these findings, all is told
pub record Left (k : ℕ) (ps all : List (List Tok)) (fs : List Finding) : Type 0 where
  pub then : (gs : List Finding) → AreTold (refused k ps) gs → AreTold all (fs ++ gs)

pub none : (ps : List (List Tok)) → Left 1 ps (refused 1 ps) []
none ps = record { then = λ gs h. h }

module _ (k : ℕ) (ts p us : List Tok) (all : List (List Tok)) (fs : List Finding) where
  refused_cut : IsCut is_end ts p us → (b : Bool) → is_ok (piece_at k p) ≡ b →
      refused k (pieces is_end ts) ≡ cond b (refused (suc k) (pieces is_end us)) (p ∷ refused (suc k) (pieces is_end us))
  refused_cut c b e = ap (refused k) c.parts ∙ ap (λ (x : Bool). cond x (refused (suc k) (pieces is_end us)) (p ∷ refused (suc k) (pieces is_end us))) e

  pub skip : Left k (pieces is_end ts) all fs → IsCut is_end ts p us → is_ok (piece_at k p) ≡ true → Left (k + 1) (pieces is_end us) all fs
  skip h c e = record {
    then = λ gs t.
        let s : AreTold (refused (suc k) (pieces is_end us)) gs = subst (λ (n : ℕ). AreTold (refused n (pieces is_end us)) gs) (add-one k) t in
        h.then gs (subst (λ (qs : List (List Tok)). AreTold qs gs) (sym (refused_cut c true e)) s);
  }

  pub add : (own : List Finding) → Left k (pieces is_end ts) all fs → IsCut is_end ts p us → TellsPiece (is_ok (piece_at k p)) p (Some own) →
      Left (k + 1) (pieces is_end us) all (fs ++ own)
  add own h c e = record {
    then = λ gs t.
        let s : AreTold (refused (suc k) (pieces is_end us)) gs = subst (λ (n : ℕ). AreTold (refused n (pieces is_end us)) gs) (add-one k) t in
        let m : AreTold (p ∷ refused (suc k) (pieces is_end us)) (own ++ gs) = more_told e.1 s in
        subst (AreTold all) (sym (append_assoc fs own gs)) (h.then (own ++ gs) (subst (λ (qs : List (List Tok)). AreTold qs (own ++ gs)) (sym (refused_cut c false e.0)) m));
  }

pub ends : (k : ℕ) (ts : List Tok) (all : List (List Tok)) (fs : List Finding) → Left k (pieces is_end ts) all fs → ts ≡ [] → AreTold all fs
unfolding pieces
ends k ts all fs h e =
    subst (AreTold all) (append-nil fs) (h.then [] (subst (λ (us : List Tok). AreTold (refused k (pieces is_end us)) []) (sym e) none_told))

pub shorter : (ts p us : List Tok) → IsCut is_end ts p us → length us < length ts
shorter ts p us c = omega (arith, ap length c.whole, length-append p us, c.some)

pub told_pieces : (bytes : List ℕ) (ts : List Tok) (fs : List Finding) → AreTokens bytes ts → AreTold (refused 1 (pieces is_end ts)) fs → TellsAgent bytes fs
told_pieces bytes ts fs h t = pieces_told ts h t

pub is_first : (t : Tok) (ts : List Tok) → IsFirst t (t ∷ ts)
is_first t ts = refl
