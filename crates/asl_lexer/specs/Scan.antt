-- What stands at the front of bytes, as the code goes over them. Spelling, Blanks and Quotes say it without the scan; the
-- content of a string and the value of a number are here alone.
use Rattle.std.specs.Prelude.{ℕ, suc, ◌+◌, ◌-◌, ◌*◌, ◌<◌, ◌≤◌, Bool, true, false, ◌&&◌, ◌==◌, nat_le, List, [], ◌∷◌, drop, Option, Some, None}
use Rattle.std.specs.Prelude.{if◌then◌else◌}
use Rattle.std.specs.Borrow.{Bor}
use Rattle.std.specs.List.{prefix_len}
use Rattle.std.specs.Option.{option_map, option_map_or, is_some}
use Rattle.asl_lexer.specs.declared.token.TokKind.{TokKind}
use Rattle.asl_lexer.specs.declared.token.TokKind.TheVariants.{Atom, Var, Inner, Number, Str, Sign, End}
use Rattle.asl_lexer.specs.declared.token.LexFault.{LexFault}
use Rattle.asl_lexer.specs.declared.token.LexFault.TheVariants.{BadByte, OpenString}
use Rattle.asl_lexer.specs.declared.blanks.Blank.{Blank}
use Rattle.asl_lexer.specs.declared.blanks.Blank.TheVariants as blanks
use Rattle.asl_lexer.specs.Spelling.{is_lower, is_upper, is_digit, is_word, is_blank, is_no_feed, is_plain, is_escaped, is_sign}

-- ---- blanks and comments

-- `*/`
abbrev pub closes : List ℕ → Bool
closes [] = false
closes (a ∷ []) = false
closes (a ∷ b ∷ rest) = a == 42 && b == 47

-- the bytes up to the next `*/`, with it
abbrev pub comment_len : List ℕ → Option ℕ
comment_len [] = None
comment_len (a ∷ rest) = if closes (a ∷ rest) then Some 2 else option_map suc (comment_len rest)

abbrev pub comment_at : Option ℕ → Blank
comment_at None = blanks.OpenComment
comment_at (Some n) = blanks.Bytes (n + 2)

-- what is behind `//`
abbrev pub after_line_mark : List ℕ → Option (List ℕ)
after_line_mark [] = None
after_line_mark (a ∷ []) = None
after_line_mark (a ∷ b ∷ rest) = if a == 47 && b == 47 then Some rest else None

-- what is behind `/*`
abbrev pub after_comment_mark : List ℕ → Option (List ℕ)
after_comment_mark [] = None
after_comment_mark (a ∷ []) = None
after_comment_mark (a ∷ b ∷ rest) = if a == 47 && b == 42 then Some rest else None

abbrev pub starts_blank : List ℕ → Bool
starts_blank [] = false
starts_blank (a ∷ rest) = is_blank a

-- a blank byte, or a comment: from `//` up to the line feed or the end, or from `/*` up to the next `*/`
unfoldable pub blank_at : List ℕ → Blank
blank_at bytes =
    option_map_or (λ rest. blanks.Bytes (prefix_len is_no_feed rest + 2)) (after_line_mark bytes)
    (option_map_or (λ rest. comment_at (comment_len rest)) (after_comment_mark bytes) (if starts_blank bytes then blanks.Bytes 1 else blanks.None))

-- what stands at the front has some of so many bytes
abbrev pub IsWithin : Blank → ℕ → Type 0
IsWithin (blanks.Bytes n) len = (0 < n) × (n ≤ len)
IsWithin blanks.None len = Unit {0}
IsWithin blanks.OpenComment len = Unit {0}

abbrev pub view_rest : Option (Bor (List ℕ)) → Option (List ℕ)
view_rest o = option_map (λ x. x.now) o

-- ---- strings

-- behind the first quote: how many bytes there are up to the closing quote, with it, which is the first that no
-- backslash stands before; none where a line feed or the end comes first
abbrev pub close_len : Bool → List ℕ → Option ℕ
close_len escaped [] = None
close_len true (b ∷ text) = if b == 10 then None else option_map suc (close_len false text)
close_len false (b ∷ text) = if b == 10 then None else (if b == 34 then Some 1 else option_map suc (close_len (b == 92) text))

-- behind the first quote, up to the closing one: the place of the first byte that may not stand there, a control byte,
-- 127, or a backslash before a byte that it does not escape. A byte, with its backslash, begins at the place i
abbrev pub bad_from : ℕ → Bool → List ℕ → Option ℕ
bad_from i escaped [] = None
bad_from i true (b ∷ text) = if is_escaped b then bad_from (i + 2) false text else Some i
bad_from i false (b ∷ text) = if b == 34 then None else (if b == 92 then bad_from i true text else (if is_plain b then bad_from (i + 1) false text else Some i))

-- what an escaped byte means: a line feed, a tab or itself
abbrev pub meant : ℕ → ℕ
meant b = if b == 110 then 10 else (if b == 116 then 9 else b)

-- rule: the content of a string, without its first quote
abbrev pub content : Bool → List ℕ → List ℕ
content escaped [] = []
content true (b ∷ text) = meant b ∷ content false text
content false (b ∷ text) = if b == 34 then [] else (if b == 92 then content true text else b ∷ content false text)

abbrev pub starts_quote : List ℕ → Bool
starts_quote [] = false
starts_quote (b ∷ rest) = b == 34

-- ---- tokens

-- how many bytes a string has, behind its first quote
abbrev pub string_len : List ℕ → Option ℕ
string_len text = option_map_or (λ n. if is_some (bad_from 1 false text) then None else Some n) (close_len false text) None

abbrev pub string_at : Option ℕ → Option (TokKind × ℕ)
string_at o = option_map (λ n. (Str, n + 1)) o

-- how many bytes the longest sign at the front has
abbrev pub sign_len : List ℕ → ℕ
sign_len [] = 0
sign_len (a ∷ []) = if is_sign (a ∷ []) then 1 else 0
sign_len (a ∷ b ∷ []) = if is_sign (a ∷ b ∷ []) then 2 else (if is_sign (a ∷ []) then 1 else 0)
sign_len (a ∷ b ∷ c ∷ rest) = if is_sign (a ∷ b ∷ c ∷ []) then 3 else (if is_sign (a ∷ b ∷ []) then 2 else (if is_sign (a ∷ []) then 1 else 0))

abbrev pub starts_word : List ℕ → Bool
starts_word [] = false
starts_word (a ∷ rest) = is_lower a

abbrev pub sign_at : ℕ → Option (TokKind × ℕ)
sign_at n = if n == 0 then None else Some (Sign, n)

unfoldable pub token_at : List ℕ → Option (TokKind × ℕ)
token_at [] = None
token_at (b ∷ text) =
    if is_lower b then Some (Atom, prefix_len is_word text + 1)
    else (if is_upper b then Some (Var, prefix_len is_word text + 1)
    else (if is_digit b then Some (Number, prefix_len is_digit text + 1)
    else (if b == 46 then (if starts_word text then Some (Inner, prefix_len is_word text + 1) else Some (End, 1))
    else (if b == 34 then string_at (string_len text)
    else sign_at (sign_len (b ∷ text))))))

-- ---- numbers

-- the number that digits spell, behind others
abbrev pub value_from : ℕ → List ℕ → ℕ
value_from v [] = v
value_from v (d ∷ ds) = value_from (v * 10 + (d - 48)) ds

-- rule: the number that digits spell, unless it is above 9223372036854775807
abbrev pub value : List ℕ → Option ℕ
value digits = if nat_le (value_from 0 digits) 9223372036854775807 then Some (value_from 0 digits) else None

-- ---- faults

-- a string that is not closed in its line, at its quote; else its first bad byte
abbrev pub string_fault : ℕ → List ℕ → LexFault
string_fault at text = option_map_or (λ _. option_map_or (λ k. BadByte (at + k)) (bad_from 1 false text) (OpenString at)) (close_len false text) (OpenString at)

-- why no token stands here
abbrev pub fault_of : ℕ → List ℕ → LexFault
fault_of at bytes = if starts_quote bytes then string_fault at (drop 1 bytes) else BadByte at
