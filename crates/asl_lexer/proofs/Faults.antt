-- A fault at a place, as the scan sees it.
use Rattle.std.proofs.Common.{◌≡◌, ℕ, ◌+◌, ◌<◌, Bool, true, false, cond, List, [], ◌∷◌, length, take, Option, Some, None, refl, sym, ap, subst, ◌∙◌, arith}
use Rattle.std.specs.Prelude.{◌==◌}
use Rattle.std.specs.Option.{option_map_or, is_some}
use Rattle.std.proofs.lemmas.Bool.{eqb-true}
use Rattle.asl_lexer.specs.declared.token.TokKind.{TokKind}
use Rattle.asl_lexer.specs.declared.token.TokKind.TheVariants.{Str}
use Rattle.asl_lexer.specs.declared.blanks.Blank.TheVariants as blanks
use Rattle.asl_lexer.specs.declared.token.LexFault.{LexFault}
use Rattle.asl_lexer.specs.declared.token.LexFault.TheVariants.{BadByte, OpenString, OpenComment, NumberRange}
use Rattle.asl_lexer.specs.Spelling.{NoToken}
use Rattle.asl_lexer.specs.Quotes.{IsClosed, IsBadBehind}
use Rattle.asl_lexer.specs.Scan.{blank_at, close_len, bad_from, string_len, string_at, token_at, string_fault, fault_of}
use Rattle.asl_lexer.specs.Lexing.{is_allowed, TokenAt, FaultAt, open_comment, big_number, open_string, bad_string, bad_byte}
use Rattle.asl_lexer.proofs.Longest.{Found, token_found}
use Rattle.asl_lexer.proofs.BlankFacts.{none_is, is_none, open_is}
use Rattle.asl_lexer.proofs.QuoteFacts.{closed_len, never_closed, bad_closed, bad_found, bad_of}

pub data Seen (at : ℕ) (bytes : List ℕ) : LexFault → Type 0 where
  seen_comment : blank_at bytes ≡ blanks.OpenComment → Seen at bytes (OpenComment at)
  seen_number : (kind : TokKind) (n : ℕ) → TokenAt bytes kind n → is_allowed kind (take n bytes) ≡ false → Seen at bytes (NumberRange at)
  seen_none : {fault : LexFault} → 0 < length bytes → blank_at bytes ≡ blanks.None → NoToken bytes → fault ≡ fault_of at bytes → Seen at bytes fault

-- ---- strings

no_string : (text : List ℕ) → string_len text ≡ None → NoToken (34 ∷ text)
unfolding token_at
no_string text e = subst (Found (34 ∷ text)) (ap string_at e) (token_found (34 ∷ text))

quote_blank : (text : List ℕ) → blank_at (34 ∷ text) ≡ blanks.None
unfolding blank_at
quote_blank [] = refl
quote_blank (b ∷ text) = refl

open_fault : (at : ℕ) (text : List ℕ) → close_len false text ≡ None → OpenString at ≡ fault_of at (34 ∷ text)
open_fault at text e = sym
    (ap (λ (o : Option ℕ). option_map_or (λ _. option_map_or (λ k. BadByte (at + k)) (bad_from 1 false text) (OpenString at)) o (OpenString at)) e)

open_len : (text : List ℕ) → close_len false text ≡ None → string_len text ≡ None
open_len text e = ap (λ (o : Option ℕ). option_map_or (λ n. cond (is_some (bad_from 1 false text)) None (Some n)) o None) e

seen_open : (at : ℕ) (text : List ℕ) → (IsClosed text → ⊥) → Seen at (34 ∷ text) (OpenString at)
seen_open at text h =
    let e = never_closed text h in
    seen_none (omega arith) (quote_blank text) (no_string text (open_len text e)) (open_fault at text e)

bad_fault : (at k n : ℕ) (text : List ℕ) → close_len false text ≡ Some n → bad_from 1 false text ≡ Some (1 + k)
    → BadByte (at + 1 + k) ≡ fault_of at (34 ∷ text)
bad_fault at k n text e f =
    let place : at + 1 + k ≡ at + (1 + k) = omega arith in
    ap BadByte place
    ∙ sym (ap (λ (o : Option ℕ). option_map_or (λ k. BadByte (at + k)) o (OpenString at)) f)
    ∙ sym (ap (λ (o : Option ℕ). option_map_or (λ _. option_map_or (λ k. BadByte (at + k)) (bad_from 1 false text) (OpenString at)) o (OpenString at)) e)

bad_len : (k n : ℕ) (text : List ℕ) → close_len false text ≡ Some n → bad_from 1 false text ≡ Some k → string_len text ≡ None
bad_len k n text e f =
    ap (λ (o : Option ℕ). option_map_or (λ n. cond (is_some (bad_from 1 false text)) None (Some n)) o None) e
    ∙ ap (λ (o : Option ℕ). cond (is_some o) None (Some n)) f

seen_bad : (at k : ℕ) (text : List ℕ) → IsBadBehind text k → Seen at (34 ∷ text) (BadByte (at + 1 + k))
seen_bad at k text h =
    let c = closed_len text (bad_closed text k h) in
    let f = bad_found text k h 1 in
    seen_none (omega arith) (quote_blank text) (no_string text (bad_len (1 + k) c.0 text c.1 f)) (bad_fault at k c.0 text c.1 f)

-- ---- a fault is seen

other_fault : (at b : ℕ) (rest : List ℕ) → (b ≡ 34 → ⊥) → BadByte at ≡ fault_of at (b ∷ rest)
other_fault at b rest q = go (b == 34) refl
  where
    go : (x : Bool) → (b == 34) ≡ x → BadByte at ≡ cond x (string_fault at rest) (BadByte at)
    go true e = absurd (q (eqb-true b 34 e))
    go false e = refl

pub seen : {at : ℕ} {bytes : List ℕ} {fault : LexFault} → FaultAt at bytes fault → Seen at bytes fault
seen {bytes = bytes} (open_comment h) = seen_comment (open_is bytes h)
seen (big_number kind n t a) = seen_number kind n t a
seen {at = at} (open_string text e h) = subst (λ (bytes : List ℕ). Seen at bytes (OpenString at)) (sym e) (seen_open at text h)
seen {at = at} (bad_string text k e h) = subst (λ (bytes : List ℕ). Seen at bytes (BadByte (at + 1 + k))) (sym e) (seen_bad at k text h)
seen {at = at} {bytes = bytes} (bad_byte b rest e q n t) =
    seen_none (omega (arith, ap length e)) (none_is bytes n) t (other_fault at b rest q ∙ ap (fault_of at) (sym e))

-- ---- where the scan finds no token, a fault stands

closed_token : (n : ℕ) (text : List ℕ) → close_len false text ≡ Some n → bad_from 1 false text ≡ None → token_at (34 ∷ text) ≡ Some (Str, n + 1)
unfolding token_at
closed_token n text e f =
    ap string_at (ap (λ (o : Option ℕ). option_map_or (λ n. cond (is_some (bad_from 1 false text)) None (Some n)) o None) e
    ∙ ap (λ (o : Option ℕ). cond (is_some o) None (Some n)) f)

quote_fault : (at : ℕ) (text : List ℕ) → token_at (34 ∷ text) ≡ None → FaultAt at (34 ∷ text) (string_fault at text)
quote_fault at text t = go (close_len false text) refl (bad_from 1 false text) refl
  where
    go : (o : Option ℕ) → close_len false text ≡ o → (p : Option ℕ) → bad_from 1 false text ≡ p
        → FaultAt at (34 ∷ text) (option_map_or (λ _. option_map_or (λ k. BadByte (at + k)) p (OpenString at)) o (OpenString at))
    go None e p f = open_string text refl (λ c. let h = (closed_len text c).1 in cc)
    go (Some n) e (Some k) f =
        let h = bad_of text n 1 k e f in
        let place : at + 1 + h.0 ≡ at + k = omega (arith, h.1) in
        subst (λ (p : ℕ). FaultAt at (34 ∷ text) (BadByte p)) place (bad_string text h.0 refl h.2)
    go (Some n) e None f = let h = closed_token n text e f in absurd cc

pub fault_stands : (at : ℕ) (bytes : List ℕ) → 0 < length bytes → blank_at bytes ≡ blanks.None → token_at bytes ≡ None → FaultAt at bytes (fault_of at bytes)
fault_stands at [] lt n t = absurd (omega arith)
fault_stands at (b ∷ text) lt n t = go (b == 34) refl
  where
    go : (x : Bool) → (b == 34) ≡ x → FaultAt at (b ∷ text) (cond x (string_fault at text) (BadByte at))
    go true e =
        let quote : b ≡ 34 = eqb-true b 34 e in
        subst (λ (c : ℕ). FaultAt at (c ∷ text) (string_fault at text)) (sym quote)
        (quote_fault at text (ap (λ (c : ℕ). token_at (c ∷ text)) (sym quote) ∙ t))
    go false e = bad_byte b text refl (λ q. let f : (b == 34) ≡ true = ap (λ (c : ℕ). c == 34) q in cc) (is_none (b ∷ text) n)
        (subst (Found (b ∷ text)) t (token_found (b ∷ text)))
