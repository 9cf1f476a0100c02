-- Bytes have one answer.
use Rattle.std.proofs.Common.{◌≡◌, ℕ, ◌<◌, Bool, true, false, List, [], ◌∷◌, length, take, drop, Option, Some, None, Result, Ok, Err, refl, sym, ap, subst, ◌∙◌, arith}
use Rattle.asl_lexer.specs.declared.token.TokKind.{TokKind}
use Rattle.asl_lexer.specs.declared.token.Place.{Place}
use Rattle.asl_lexer.specs.declared.token.Tok.{Tok}
use Rattle.asl_lexer.specs.declared.token.LexFault.{LexFault}
use Rattle.asl_lexer.specs.declared.blanks.Blank.TheVariants as blanks
use Rattle.asl_lexer.specs.Spelling.{kind_of, IsLongest, NoToken}
use Rattle.asl_lexer.specs.Scan.{blank_at}
use Rattle.asl_lexer.proofs.BlankFacts.{none_is, blank_is}
use Rattle.asl_lexer.proofs.Faults.{Seen, seen_comment, seen_number, seen_none, seen}
use Rattle.asl_lexer.specs.Lexing.{after, is_allowed, tok_of, TokenAt, onto, Lexes, at_end, behind_blank, behind_token, stops, OneAnswer}

-- ---- the longest token is one

clash : {o : Option TokKind} {k : TokKind} → o ≡ None → o ≡ Some k → ⊥
clash e f = cc

longer : (bytes : List ℕ) (j k : TokKind) (m n : ℕ) → IsLongest bytes j m → IsLongest bytes k n → m < n → ⊥
longer bytes j k m n a b lt = clash (a.longest n lt b.within) b.spelled

same_len : (bytes : List ℕ) (j k : TokKind) (m n : ℕ) → IsLongest bytes j m → IsLongest bytes k n → m ≡ n
same_len bytes j k m n a b = omega (arith, longer bytes j k m n a b, longer bytes k j n m b a)

same_kind : (bytes : List ℕ) (j k : TokKind) (m n : ℕ) → IsLongest bytes j m → IsLongest bytes k n → j ≡ k
same_kind bytes j k m n a b = inside (sym a.spelled ∙ ap (λ (i : ℕ). kind_of (take i bytes)) (same_len bytes j k m n a b) ∙ b.spelled)
  where
    inside : {x y : TokKind} → Some x ≡ Some y → x ≡ y
    inside e = cc

none_longest : (bytes : List ℕ) (k : TokKind) (n : ℕ) → NoToken bytes → IsLongest bytes k n → ⊥
none_longest bytes k n h a = clash (h n a.within) a.spelled

-- ---- a place has one fault, and else no token and no blank

blank_fault : {at n : ℕ} {bytes : List ℕ} {f : LexFault} → blank_at bytes ≡ blanks.Bytes n → Seen at bytes f → ⊥
blank_fault e (seen_comment d) = cc
blank_fault {bytes = bytes} e (seen_number k n t a) = let d : blank_at bytes ≡ blanks.None = none_is bytes t.no_blank in cc
blank_fault e (seen_none lt d h q) = cc

blank_token : {n m : ℕ} {bytes : List ℕ} {k : TokKind} → blank_at bytes ≡ blanks.Bytes n → TokenAt bytes k m → ⊥
blank_token {bytes = bytes} e t = let d : blank_at bytes ≡ blanks.None = none_is bytes t.no_blank in cc

not_both : (b : Bool) → b ≡ true → b ≡ false → ⊥
not_both b e f = cc

token_fault : {at : ℕ} {bytes : List ℕ} {f : LexFault} (k : TokKind) (n : ℕ) → TokenAt bytes k n → is_allowed k (take n bytes) ≡ true → Seen at bytes f → ⊥
token_fault {bytes = bytes} k n t a (seen_comment d) = let e : blank_at bytes ≡ blanks.None = none_is bytes t.no_blank in cc
token_fault {bytes = bytes} k n t a (seen_number j m u b) =
    let kinds : j ≡ k = same_kind bytes j k m n u.longest t.longest in
    let lens : m ≡ n = same_len bytes j k m n u.longest t.longest in
    not_both (is_allowed k (take n bytes)) a (ap (λ (x : TokKind). is_allowed x (take n bytes)) (sym kinds) ∙ ap (λ (x : ℕ). is_allowed j (take x bytes)) (sym lens) ∙ b)
token_fault {bytes = bytes} k n t a (seen_none lt d h q) = none_longest bytes k n h t.longest

fault_fault : {at : ℕ} {bytes : List ℕ} {f g : LexFault} → Seen at bytes f → Seen at bytes g → f ≡ g
fault_fault (seen_comment d) (seen_comment e) = refl
fault_fault {bytes = bytes} (seen_comment d) (seen_number k n t a) = let e : blank_at bytes ≡ blanks.None = none_is bytes t.no_blank in absurd cc
fault_fault (seen_comment d) (seen_none lt e h q) = absurd cc
fault_fault {bytes = bytes} (seen_number k n t a) (seen_comment d) = let e : blank_at bytes ≡ blanks.None = none_is bytes t.no_blank in absurd cc
fault_fault (seen_number k n t a) (seen_number j m u b) = refl
fault_fault {bytes = bytes} (seen_number k n t a) (seen_none lt d h q) = absurd (none_longest bytes k n h t.longest)
fault_fault (seen_none lt e h q) (seen_comment d) = absurd cc
fault_fault {bytes = bytes} (seen_none lt d h q) (seen_number k n t a) = absurd (none_longest bytes k n h t.longest)
fault_fault (seen_none lt d h q) (seen_none le e k r) = q ∙ sym r

blank_end : blank_at [] ≡ blanks.None
unfolding blank_at
blank_end = refl

open_end : blank_at [] ≡ blanks.OpenComment → ⊥
open_end e = let d = blank_end in cc

bytes_end : {n : ℕ} → blank_at [] ≡ blanks.Bytes n → ⊥
bytes_end e = let d = blank_end in cc

fault_some : {at : ℕ} {f : LexFault} (bytes : List ℕ) → Seen at bytes f → 0 < length bytes
fault_some (b ∷ bytes) h = omega arith
fault_some [] (seen_comment e) = absurd (open_end e)
fault_some [] (seen_number k n t a) = absurd (omega (arith, t.longest.within, t.longest.some))
fault_some [] (seen_none lt d h q) = lt

-- ---- what one step fixes

end_only : {p : Place} {bytes : List ℕ} {r : Result (List Tok) LexFault} → length bytes ≡ 0 → Lexes p bytes r → r ≡ Ok []
end_only z at_end = refl
end_only {bytes = []} z (behind_blank n e h) = absurd (bytes_end (blank_is e))
end_only {bytes = b ∷ bytes} z (behind_blank n e h) = absurd (omega arith)
end_only z (behind_token k n t a h q) = absurd (omega (arith, t.longest.within, t.longest.some))
end_only {bytes = bytes} z (stops f) = absurd (omega (arith, fault_some bytes (seen f)))

of_blank : {p : Place} {bytes : List ℕ} {s : Result (List Tok) LexFault} (n : ℕ) → blank_at bytes ≡ blanks.Bytes n → Lexes p bytes s → Lexes (after p (take n bytes)) (drop n bytes) s
of_blank n e at_end = absurd (bytes_end e)
of_blank {p = p} {bytes = bytes} {s = s} n e (behind_blank m f h) = let found : blank_at bytes ≡ blanks.Bytes m = blank_is f in let same : m ≡ n = cc in subst (λ (x : ℕ). Lexes (after p (take x bytes)) (drop x bytes) s) same h
of_blank n e (behind_token k m t a h q) = absurd (blank_token e t)
of_blank n e (stops f) = absurd (blank_fault e (seen f))

-- what the bytes behind a token give
record Behind (p : Place) (bytes : List ℕ) (k : TokKind) (n : ℕ) (s : Result (List Tok) LexFault) : Type 0 where
  given : Result (List Tok) LexFault
  rest : Lexes (after p (take n bytes)) (drop n bytes) given
  whole : s ≡ onto (tok_of k (take n bytes) p) given

of_token : {p : Place} {bytes : List ℕ} {s : Result (List Tok) LexFault} (k : TokKind) (n : ℕ) → TokenAt bytes k n → is_allowed k (take n bytes) ≡ true → Lexes p bytes s → Behind p bytes k n s
of_token k n t a at_end = absurd (omega (arith, t.longest.within, t.longest.some))
of_token k n t a (behind_blank m e h) = absurd (blank_token (blank_is e) t)
of_token {p = p} {bytes = bytes} {s = s} k n t a (behind_token {r = r} j m u b h q) =
    let kinds : j ≡ k = same_kind bytes j k m n u.longest t.longest in
    let lens : m ≡ n = same_len bytes j k m n u.longest t.longest in
    record {
      given = r;
      rest = subst (λ (x : ℕ). Lexes (after p (take x bytes)) (drop x bytes) r) lens h;
      whole = q ∙ ap (λ (x : TokKind). onto (tok_of x (take m bytes) p) r) kinds ∙ ap (λ (x : ℕ). onto (tok_of k (take x bytes) p) r) lens;
    }
of_token k n t a (stops f) = absurd (token_fault k n t a (seen f))

of_fault : {p : Place} {bytes : List ℕ} {f : LexFault} {s : Result (List Tok) LexFault} → Seen p.at bytes f → Lexes p bytes s → s ≡ Err f
of_fault f at_end = absurd (omega (arith, fault_some [] f))
of_fault f (behind_blank n e h) = absurd (blank_fault (blank_is e) f)
of_fault f (behind_token k n t a h q) = absurd (token_fault k n t a f)
of_fault f (stops g) = ap Err (fault_fault (seen g) f)

-- ---- all

one : {p : Place} {bytes : List ℕ} {r s : Result (List Tok) LexFault} → Lexes p bytes r → Lexes p bytes s → r ≡ s
one at_end d = sym (end_only refl d)
one (behind_blank n e h) d = one h (of_blank n (blank_is e) d)
one {p = p} {bytes = bytes} (behind_token k n t a h q) d =
    let x = of_token k n t a d in
    q ∙ ap (onto (tok_of k (take n bytes) p)) (one h x.rest) ∙ sym x.whole
one (stops f) d = sym (of_fault (seen f) d)

pub one_answer : OneAnswer
one_answer bytes r s h k = one h k
