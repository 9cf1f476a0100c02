-- Cutting the first piece off.
use Rattle.std.proofs.Common.{◌≡◌, ℕ, zero, suc, ◌<◌, Bool, true, false, cond, List, [], ◌∷◌, ◌++◌, length, take, drop, refl, sym, ap, arith}
use Rattle.std.proofs.lemmas.List.{take-append-drop}
use Rattle.asl_lexer.specs.declared.token.Tok.{Tok}
use Rattle.asl_lexer.specs.declared.token.Word.{Word}
use Rattle.asl_lexer.specs.Words.{word, onto, pieces, IsCut, piece_len}

last_cut : (b : Bool) (t : Tok) (ends : Word → Bool) → cond b ((t ∷ []) ∷ []) (onto t []) ≡ take (cond b 1 1) (t ∷ []) ∷ pieces ends (drop (cond b 1 1) (t ∷ []))
unfolding pieces
last_cut true t ends = refl
last_cut false t ends = refl

next_cut : (b : Bool) (t : Tok) (ts : List Tok) (n : ℕ) (ends : Word → Bool) → pieces ends ts ≡ take n ts ∷ pieces ends (drop n ts) → cond b ((t ∷ []) ∷ pieces ends ts) (onto t (pieces ends ts)) ≡ take (cond b 1 (suc n)) (t ∷ ts) ∷ pieces ends (drop (cond b 1 (suc n)) (t ∷ ts))
unfolding pieces
next_cut true t ts n ends h = refl
next_cut false t ts n ends h = ap (onto t) h

-- the first piece and the others
pieces_cut : (ends : Word → Bool) (t : Tok) (ts : List Tok) → pieces ends (t ∷ ts) ≡ take (piece_len ends (t ∷ ts)) (t ∷ ts) ∷ pieces ends (drop (piece_len ends (t ∷ ts)) (t ∷ ts))
unfolding pieces
pieces_cut ends t [] = last_cut (ends (word t)) t ends
pieces_cut ends t (u ∷ us) = next_cut (ends (word t)) t (u ∷ us) (piece_len ends (u ∷ us)) ends (pieces_cut ends u us)

take_drop : (n : ℕ) (ts : List Tok) → ts ≡ take n ts ++ drop n ts
take_drop n ts = sym (take-append-drop n ts)

front_some : (n : ℕ) (t : Tok) (ts : List Tok) → 0 < n → 0 < length (take n (t ∷ ts))
front_some zero t ts lt = absurd (omega arith)
front_some (suc n) t ts lt = omega arith

piece_some : (ends : Word → Bool) (t : Tok) (ts : List Tok) → 0 < piece_len ends (t ∷ ts)
piece_some ends t ts = go (ends (word t))
  where
    go : (b : Bool) → 0 < cond b 1 (suc (piece_len ends ts))
    go true = omega arith
    go false = omega arith

pub no_piece : (ts : List Tok) → length ts ≡ 0 → ts ≡ []
no_piece [] e = refl
no_piece (t ∷ ts) e = absurd (omega arith)

pub is_cut : (ends : Word → Bool) (ts : List Tok) → 0 < length ts → IsCut ends ts (take (piece_len ends ts) ts) (drop (piece_len ends ts) ts)
is_cut ends [] lt = absurd (omega arith)
is_cut ends (t ∷ ts) lt = record {
  some = front_some (piece_len ends (t ∷ ts)) t ts (piece_some ends t ts);
  whole = take_drop (piece_len ends (t ∷ ts)) (t ∷ ts);
  parts = pieces_cut ends t ts;
}
