-- Single tokens: what they spell, and what the reader finds in them.
use Rattle.std.specs.Prelude.{◌≡◌, ℤ, ℕ, pos, ◌-ℤ◌, nat_le, Bool, true, false, List, [], ◌∷◌, Option, Some, None, Result, Ok, Err, if◌then◌else◌}
use Rattle.std.specs.Borrow.{Bor}
use Rattle.std.specs.Option.{option_map, option_map_or}
use Rattle.asl_lexer.specs.declared.token.Sign.TheVariants as sign
use Rattle.asl_term.specs.declared.sequence.Starved.{Starved}
use Rattle.asl_term.specs.declared.syntax.Op.TheVariants.{Add, Sub, Mul, Div, Mod}
use Rattle.asl_term.specs.declared.syntax.RelOp.{RelOp}
use Rattle.asl_term.specs.declared.syntax.RelOp.TheVariants as rel
use Rattle.asl_term.specs.declared.syntax.Term.{Term}
use Rattle.asl_term.specs.declared.syntax.Term.TheVariants as term
use Rattle.asl_parser_tree.specs.declared.lexeme.Lexeme.{Lexeme}
use Rattle.asl_parser_tree.specs.declared.lexeme.Lexeme.TheVariants.{Num, Str, Var, Inner, Atom, Truth, Not, Sign}
use Rattle.asl_parser_tree.specs.declared.lexeme.Lexeme.TheVariants as lexeme
use Rattle.asl_parser_tree.specs.declared.meaning.Meaning.TheVariants as meaning
use Rattle.asl_parser_tree.specs.declared.meaning.Joint.{Joint}
use Rattle.asl_parser_tree.specs.declared.meaning.Joint.TheVariants as joint
use Rattle.asl_parser_tree.specs.declared.meaning.Prefix.{Prefix}
use Rattle.asl_parser_tree.specs.declared.meaning.Prefix.TheVariants as prefix
use Rattle.asl_parser_tree.specs.declared.leaves.OperatorLevel.{OperatorLevel}
use Rattle.asl_parser_tree.specs.declared.leaves.OperatorLevel.TheVariants as levels
use Rattle.asl_parser_tree.specs.declared.leaves.Start.{Start}
use Rattle.asl_parser_tree.specs.declared.leaves.Start.TheVariants as start
use Rattle.asl_parser_tree.specs.declared.leaves.BracketShape.{BracketShape}
use Rattle.asl_parser_tree.specs.declared.leaves.BracketShape.TheVariants as shape
use Rattle.asl_parser_tree.specs.declared.bounded.Bounded.TheVariants.{Within}
use Rattle.asl_parser_tree.specs.Meanings.{truth}
use Rattle.asl_parser_tree.specs.Holding.{Kept}

-- ---- what tokens spell

-- the numbers of 64 bits that tokens spell, alone and behind `-`
abbrev pub positive : ℕ → Option ℤ
positive n = if nat_le n 9223372036854775807 then Some (pos n) else None

abbrev pub negative : ℕ → Option ℤ
negative n = if nat_le n 9223372036854775807 then Some (pos 0 -ℤ pos n) else None

-- `-` before a number belongs to the number
abbrev pub starts_number : List Lexeme → Bool
starts_number (Num n ∷ xs) = true
starts_number _ = false

abbrev pub variable : List ℕ → Term
variable name = term.Var (record { name = name; number = 0 })

-- ---- what is read at the front

-- a value and the tokens behind it
abbrev pub Front : Type 0 → Type 0
Front A = Option (A × List Lexeme)

abbrev pub Read : Type 0
Read = Front Kept

-- What a function returned is what reading gives, unless memory ran out.
abbrev pub Gives : {X Y : Type 0} → (X → Y) → Result (Option X) Starved → Option Y → Type 0
Gives view (Ok None) read = read ≡ None
Gives view (Ok (Some x)) read = read ≡ Some (view x)
Gives view (Err e) read = Unit {0}

-- the same as the program keeps them
abbrev pub view_rest : Option (Bor (List Lexeme)) → Option (List Lexeme)
view_rest o = option_map (λ x. x.now) o

abbrev pub view_front : {A : Type 0} → Option (A × Bor (List Lexeme)) → Front A
view_front o = option_map (λ x. (x.0, x.1.now)) o

abbrev pub view_text : Option (Bor (List ℕ) × Bor (List Lexeme)) → Front (List ℕ)
view_text o = option_map (λ x. (x.0.now, x.1.now)) o

-- ---- single tokens

abbrev pub after_comma : List Lexeme → Option (List Lexeme)
after_comma (Sign sign.Comma ∷ ts) = Some ts
after_comma _ = None

abbrev pub after_bar : List Lexeme → Option (List Lexeme)
after_bar (Sign sign.Bar ∷ ts) = Some ts
after_bar _ = None

abbrev pub after_tilde : List Lexeme → Option (List Lexeme)
after_tilde (Sign sign.Tilde ∷ ts) = Some ts
after_tilde _ = None

-- an opening and a closing bracket
abbrev pub after_open : BracketShape → List Lexeme → Option (List Lexeme)
after_open shape.Round (Sign sign.Open ∷ ts) = Some ts
after_open shape.Square (Sign sign.OpenSquare ∷ ts) = Some ts
after_open _ _ = None

abbrev pub after_close : BracketShape → List Lexeme → Option (List Lexeme)
after_close shape.Round (Sign sign.Close ∷ ts) = Some ts
after_close shape.Square (Sign sign.CloseSquare ∷ ts) = Some ts
after_close _ _ = None

abbrev pub name_at : List Lexeme → Front (List ℕ)
name_at (Atom name ∷ ts) = Some (name, ts)
name_at _ = None

abbrev pub variable_at : List Lexeme → Front (List ℕ)
variable_at (Var name ∷ ts) = Some (name, ts)
variable_at _ = None

abbrev pub inner_at : List Lexeme → Front (List ℕ)
inner_at (Inner name ∷ ts) = Some (name, ts)
inner_at _ = None

abbrev pub joint_of : OperatorLevel → Lexeme → Option Joint
joint_of levels.Or (Sign sign.Bar) = Some joint.Or
joint_of levels.And (Sign sign.Ampersand) = Some joint.And
joint_of levels.Sum (Sign sign.Plus) = Some (joint.Arith Add)
joint_of levels.Sum (Sign sign.Minus) = Some (joint.Arith Sub)
joint_of levels.Product (Sign sign.Star) = Some (joint.Arith Mul)
joint_of levels.Product lexeme.Div = Some (joint.Arith Div)
joint_of levels.Product lexeme.Mod = Some (joint.Arith Mod)
joint_of _ _ = None

abbrev pub joint_at : OperatorLevel → List Lexeme → Front Joint
joint_at level [] = None
joint_at level (t ∷ ts) = option_map (λ o. (o, ts)) (joint_of level t)

abbrev pub relation_of : Lexeme → Option RelOp
relation_of (Sign sign.Less) = Some rel.Less
relation_of (Sign sign.LessEq) = Some rel.LessEq
relation_of (Sign sign.More) = Some rel.More
relation_of (Sign sign.MoreEq) = Some rel.MoreEq
relation_of (Sign sign.Same) = Some rel.Same
relation_of (Sign sign.Differ) = Some rel.Differ
relation_of (Sign sign.Unify) = Some rel.Unify
relation_of _ = None

abbrev pub relation_at : List Lexeme → Front RelOp
relation_at [] = None
relation_at (t ∷ ts) = option_map (λ o. (o, ts)) (relation_of t)

-- `-` before a number is no prefix
abbrev pub is_prefix : Prefix → Lexeme → List Lexeme → Bool
is_prefix prefix.Not Not ts = true
is_prefix prefix.Minus (Sign sign.Minus) ts = if starts_number ts then false else true
is_prefix _ _ ts = false

abbrev pub after_prefix : Prefix → List Lexeme → Option (List Lexeme)
after_prefix p [] = None
after_prefix p (t ∷ ts) = if is_prefix p t ts then Some ts else None

-- how a primary begins
abbrev pub start_of : List Lexeme → Start
start_of (Sign sign.Open ∷ ts) = start.Bracket
start_of (Sign sign.OpenSquare ∷ ts) = start.Square
start_of (Sign sign.Tilde ∷ ts) = start.Name
start_of (Atom name ∷ ts) = start.Name
start_of (Inner name ∷ ts) = start.Dotted
start_of _ = start.Other

abbrev pub number_by : Option ℤ → List Lexeme → Read
number_by o ts = option_map (λ z. (Within (meaning.Term (term.Num z)), ts)) o

abbrev pub negative_by : List Lexeme → Read
negative_by (Num k ∷ ts) = number_by (negative k) ts
negative_by _ = None

abbrev pub plain_by : List Lexeme → Read
plain_by (Num k ∷ ts) = number_by (positive k) ts
plain_by (Sign sign.Minus ∷ ts) = negative_by ts
plain_by _ = None

abbrev pub truth_at : List Lexeme → Front Bool
truth_at (Truth b ∷ ts) = Some (b, ts)
truth_at _ = None

abbrev pub string_at : List Lexeme → Front (List ℕ)
string_at (Str s ∷ ts) = Some (s, ts)
string_at _ = None

abbrev pub string_of : List ℕ → Kept
string_of s = Within (meaning.Term (term.Str s))

abbrev pub variable_of : List ℕ → Kept
variable_of name = Within (meaning.Term (variable name))

-- what is a token or two
unfoldable pub token_by : List Lexeme → Read
token_by ts =
    option_map_or (λ x. Some (string_of x.0, x.1)) (string_at ts)
    (option_map_or (λ x. Some (variable_of x.0, x.1)) (variable_at ts)
    (option_map_or (λ x. Some (Within (truth x.0), x.1)) (truth_at ts) (plain_by ts)))
