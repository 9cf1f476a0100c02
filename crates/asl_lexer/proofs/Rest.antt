-- Finding one token after the other, as a loop does.
use Rattle.std.proofs.Common.{◌≡◌, ℕ, ◌<◌, ◌≤◌, true, false, List, [], ◌∷◌, ◌++◌, length, take, drop, Some, None, Result, Ok, Err, refl, sym, ap, subst, append_assoc, arith}
use Rattle.std.proofs.lemmas.List.{append-nil}
use Rattle.asl_lexer.specs.declared.token.TokKind.{TokKind}
use Rattle.asl_lexer.specs.declared.blanks.Blank.TheVariants as blanks
use Rattle.asl_lexer.specs.declared.token.Place.{Place}
use Rattle.asl_lexer.specs.declared.token.Tok.{Tok}
use Rattle.asl_lexer.specs.declared.token.LexFault.{LexFault}
use Rattle.asl_lexer.specs.declared.token.LexFault.TheVariants.{Memory, BadByte, OpenString, OpenComment, NumberRange}
use Rattle.asl_lexer.specs.Spelling.{IsLongest}
use Rattle.asl_lexer.specs.Scan.{blank_at, token_at, fault_of}
use Rattle.asl_lexer.specs.Lexing.{start, after, is_allowed, tok_of, open_comment, big_number, onto, Lexes, at_end, behind_blank, behind_token, stops, IsFirstFault, IsFault}
use Rattle.asl_lexer.proofs.Longest.{Found, token_found}
use Rattle.asl_lexer.proofs.BlankFacts.{is_blank_at, is_open, is_none}
use Rattle.asl_lexer.proofs.Faults.{fault_stands}

-- the same, behind the tokens that were found before
abbrev pub behind : List Tok → Result (List Tok) LexFault → Result (List Tok) LexFault
behind front (Ok ts) = Ok (front ++ ts)
behind front (Err fault) = Err fault

-- what the rest gives, behind what was found, is what the whole gives
pub record Rest (front : List Tok) (p : Place) (ts bytes : List ℕ) : Type 0 where
  pub goes : (r : Result (List Tok) LexFault) → Lexes p ts r → Lexes start bytes (behind front r)

behind_nil : (r : Result (List Tok) LexFault) → behind [] r ≡ r
behind_nil (Ok ts) = refl
behind_nil (Err fault) = refl

behind_onto : (front : List Tok) (t : Tok) (r : Result (List Tok) LexFault) → behind front (onto t r) ≡ behind (front ++ t ∷ []) r
behind_onto front t (Ok ts) = ap Ok (sym (append_assoc front (t ∷ []) ts))
behind_onto front t (Err fault) = refl

pub starts : (bytes : List ℕ) → Rest [] start bytes bytes
starts bytes = record { goes = λ r h. subst (Lexes start bytes) (sym (behind_nil r)) h }

pub blank_more : (front : List Tok) (p : Place) (ts bytes : List ℕ) (n : ℕ) → Rest front p ts bytes → blank_at ts ≡ blanks.Bytes n → Rest front (after p (take n ts)) (drop n ts) bytes
blank_more front p ts bytes n h e = record { goes = λ r k. h.goes r (behind_blank n (is_blank_at ts n e) k) }

pub found_some : (ts : List ℕ) (kind : TokKind) (n : ℕ) → token_at ts ≡ Some (kind, n) → IsLongest ts kind n
found_some ts kind n e = subst (Found ts) e (token_found ts)

pub token_more : (front : List Tok) (p : Place) (ts bytes : List ℕ) (kind : TokKind) (n : ℕ) → Rest front p ts bytes → blank_at ts ≡ blanks.None → token_at ts ≡ Some (kind, n) → is_allowed kind (take n ts) ≡ true → Rest (front ++ tok_of kind (take n ts) p ∷ []) (after p (take n ts)) (drop n ts) bytes
token_more front p ts bytes kind n h b e f = record { goes = λ r k. go r k }
  where
    t : Tok
    t = tok_of kind (take n ts) p

    go : (r : Result (List Tok) LexFault) → Lexes (after p (take n ts)) (drop n ts) r → Lexes start bytes (behind (front ++ t ∷ []) r)
    go r k = subst (Lexes start bytes) (behind_onto front t r) (h.goes (onto t r) (behind_token {r = r} kind n (record { no_blank = is_none ts b; longest = found_some ts kind n e }) f k refl))

pub open_ends : (front : List Tok) (p : Place) (ts bytes : List ℕ) → Rest front p ts bytes → blank_at ts ≡ blanks.OpenComment → IsFirstFault bytes (OpenComment p.at)
open_ends front p ts bytes h e = h.goes (Err (OpenComment p.at)) (stops (open_comment (is_open ts e)))

pub number_ends : (front : List Tok) (p : Place) (ts bytes : List ℕ) (kind : TokKind) (n : ℕ) → Rest front p ts bytes → blank_at ts ≡ blanks.None → token_at ts ≡ Some (kind, n) → is_allowed kind (take n ts) ≡ false → IsFirstFault bytes (NumberRange p.at)
number_ends front p ts bytes kind n h b e f = h.goes (Err (NumberRange p.at)) (stops (big_number kind n (record { no_blank = is_none ts b; longest = found_some ts kind n e }) f))

as_fault : (bytes : List ℕ) (fault : LexFault) → IsFirstFault bytes fault → IsFault bytes fault
as_fault bytes Memory h = tt
as_fault bytes (BadByte at) h = h
as_fault bytes (OpenString at) h = h
as_fault bytes (OpenComment at) h = h
as_fault bytes (NumberRange at) h = h

pub byte_ends : (front : List Tok) (p : Place) (ts bytes : List ℕ) → Rest front p ts bytes → 0 < length ts → blank_at ts ≡ blanks.None → token_at ts ≡ None → IsFault bytes (fault_of p.at ts)
byte_ends front p ts bytes h lt b e = as_fault bytes (fault_of p.at ts) (h.goes (Err (fault_of p.at ts)) (stops (fault_stands p.at ts lt b e)))

pub all_ends : (front : List Tok) (p : Place) (ts bytes : List ℕ) → Rest front p ts bytes → length ts ≡ 0 → Lexes start bytes (Ok front)
all_ends front p [] bytes h e = subst (λ (x : List Tok). Lexes start bytes (Ok x)) (append-nil front) (h.goes (Ok []) at_end)
all_ends front p (t ∷ ts) bytes h e = absurd (omega arith)

pub token_within : (ts : List ℕ) (kind : TokKind) (n : ℕ) → token_at ts ≡ Some (kind, n) → (n ≤ length ts) × (0 < n)
token_within ts kind n e = let f = found_some ts kind n e in (f.within, f.some)

-- what a turn of the loop asks
pub ruleset turns = (starts, blank_more, token_more, open_ends, number_ends, byte_ends, all_ends, token_within)
