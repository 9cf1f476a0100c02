-- Bytes have an answer.
use Rattle.std.proofs.Common.{◌≡◌, ℕ, zero, suc, ◌<◌, ◌≤◌, Bool, true, false, List, [], ◌∷◌, length, take, drop, length-drop, Option, Some, None, Result, Ok, Err, refl, arith}
use Rattle.asl_lexer.specs.declared.token.TokKind.{TokKind}
use Rattle.asl_lexer.specs.declared.token.Place.{Place}
use Rattle.asl_lexer.specs.declared.token.Tok.{Tok}
use Rattle.asl_lexer.specs.declared.token.LexFault.{LexFault}
use Rattle.asl_lexer.specs.declared.token.LexFault.TheVariants.{OpenComment, NumberRange}
use Rattle.asl_lexer.specs.declared.blanks.Blank.{Blank}
use Rattle.asl_lexer.specs.declared.blanks.Blank.TheVariants as blanks
use Rattle.asl_lexer.specs.Blanks.{BlankAt, blank_byte, line, comment}
use Rattle.asl_lexer.specs.Scan.{blank_at, token_at, fault_of}
use Rattle.asl_lexer.specs.Lexing.{start, after, is_allowed, tok_of, TokenAt, open_comment, big_number, onto, Lexes, at_end, behind_blank, behind_token, stops}
use Rattle.asl_lexer.specs.Total.{SomeAnswer}
use Rattle.asl_lexer.proofs.BlankFacts.{is_blank_at, is_open, is_none}
use Rattle.asl_lexer.proofs.Faults.{fault_stands}
use Rattle.asl_lexer.proofs.Rest.{found_some, token_within}

abbrev Answer : Place → List ℕ → Type 0
Answer p bytes = (r : Result (List Tok) LexFault) × Lexes p bytes r

-- the bytes behind each blank and each token have one
abbrev Later : Place → List ℕ → Type 0
Later p bytes = (n : ℕ) → 0 < n → Answer (after p (take n bytes)) (drop n bytes)

blank_some : {bytes : List ℕ} {n : ℕ} → BlankAt bytes n → 0 < n
blank_some (blank_byte b rest e h) = omega arith
blank_some (line text rest e h k) = omega arith
blank_some (comment text rest e h) = omega arith

at_token : (bytes : List ℕ) (kind : TokKind) (n : ℕ) → blank_at bytes ≡ blanks.None → token_at bytes ≡ Some (kind, n) → TokenAt bytes kind n
at_token bytes kind n none found = record { no_blank = is_none bytes none; longest = found_some bytes kind n found }

module _ (p : Place) (bytes : List ℕ) (later : Later p bytes) where
  at_blank : (n : ℕ) → BlankAt bytes n → Answer p bytes
  at_blank n b = let r : Answer (after p (take n bytes)) (drop n bytes) = later n (blank_some b) in (r.0, behind_blank n b r.1)

  behind : (kind : TokKind) (n : ℕ) → TokenAt bytes kind n → is_allowed kind (take n bytes) ≡ true → Answer (after p (take n bytes)) (drop n bytes) → Answer p bytes
  behind kind n t e r = (onto (tok_of kind (take n bytes) p) r.0, behind_token {r = r.0} kind n t e r.1 refl)

  allowed : (kind : TokKind) (n : ℕ) → TokenAt bytes kind n → 0 < n → (ok : Bool) → is_allowed kind (take n bytes) ≡ ok → Answer p bytes
  allowed kind n t some true e = behind kind n t e (later n some)
  allowed kind n t some false e = (Err (NumberRange p.at), stops (big_number kind n t e))

  token : 0 < length bytes → blank_at bytes ≡ blanks.None → (o : Option (TokKind × ℕ)) → token_at bytes ≡ o → Answer p bytes
  token some none None e = (Err (fault_of p.at bytes), stops (fault_stands p.at bytes some none e))
  token some none (Some (kind, n)) e = allowed kind n (at_token bytes kind n none e) (token_within bytes kind n e).1 (is_allowed kind (take n bytes)) refl

  first : 0 < length bytes → (b : Blank) → blank_at bytes ≡ b → Answer p bytes
  first some blanks.None e = token some e (token_at bytes) refl
  first some (blanks.Bytes n) e = at_blank n (is_blank_at bytes n e)
  first some blanks.OpenComment e = (Err (OpenComment p.at), stops (open_comment (is_open bytes e)))

step : (p : Place) (bytes : List ℕ) → Later p bytes → Answer p bytes
step p [] later = (Ok [], at_end)
step p (b ∷ bytes) later = first p (b ∷ bytes) later (omega arith) (blank_at (b ∷ bytes)) refl

within : (m : ℕ) (p : Place) (bytes : List ℕ) → length bytes ≤ m → Answer p bytes
within zero p [] h = (Ok [], at_end)
within zero p (b ∷ bytes) h = absurd (omega (arith, h))
within (suc m) p bytes h = step p bytes (λ n some. within m (after p (take n bytes)) (drop n bytes) (omega (arith, length-drop n bytes, h, some)))

pub some_answer : SomeAnswer
some_answer bytes = within (length bytes) start bytes (omega arith)
