-- The grammar of expressions.
use Rattle.std.specs.Prelude.{◌≡◌, ℕ, suc, ℤ, Bool, true, false, List, [], ◌∷◌, ◌++◌, Option, Some, None}
use Rattle.asl_lexer.specs.declared.token.Sign.TheVariants as sign
use Rattle.asl_term.specs.declared.syntax.Op.TheVariants.{Add, Sub, Mul, Div, Mod}
use Rattle.asl_term.specs.declared.syntax.RelOp.{RelOp}
use Rattle.asl_term.specs.declared.syntax.RelOp.TheVariants as rel
use Rattle.asl_term.specs.declared.syntax.LiteralOf.{LiteralOf}
use Rattle.asl_term.specs.declared.syntax.ListingOf.{ListingOf}
use Rattle.asl_term.specs.declared.syntax.Term.{Term}
use Rattle.asl_term.specs.declared.syntax.Term.TheVariants as term
use Rattle.asl_parser_tree.specs.declared.lexeme.Lexeme.{Lexeme}
use Rattle.asl_parser_tree.specs.declared.lexeme.Lexeme.TheVariants.{Num, Str, Var, Inner, Atom, Truth, Not, Sign}
use Rattle.asl_parser_tree.specs.declared.lexeme.Lexeme.TheVariants as lexeme
use Rattle.asl_parser_tree.specs.declared.meaning.Meaning.{Meaning}
use Rattle.asl_parser_tree.specs.declared.meaning.Meaning.TheVariants as meaning
use Rattle.asl_parser_tree.specs.declared.meaning.Joint.{Joint}
use Rattle.asl_parser_tree.specs.declared.meaning.Joint.TheVariants as joint
use Rattle.asl_parser_tree.specs.declared.meaning.Prefix.TheVariants as prefix
use Rattle.asl_parser_tree.specs.declared.leaves.BracketShape.{BracketShape}
use Rattle.asl_parser_tree.specs.declared.leaves.BracketShape.TheVariants as shape
use Rattle.asl_parser_tree.specs.Leaves.{starts_number, positive, negative, variable}
use Rattle.asl_parser_tree.specs.Meanings.{truth, as_terms, joined, compared, prefixed, called}

-- or, and, neg, rel, sum, prod, and prim with and without a sign before it
pub data Rule : Type 0 where
  disjunction : Rule
  conjunction : Rule
  negation : Rule
  relation : Rule
  sum : Rule
  product : Rule
  signed : Rule
  primary : Rule

-- rule: which tokens join two operands at a rule
pub data Joins : Rule → Lexeme → Joint → Type 0 where
  or : Joins disjunction (Sign sign.Bar) joint.Or
  and : Joins conjunction (Sign sign.Ampersand) joint.And
  plus : Joins sum (Sign sign.Plus) (joint.Arith Add)
  minus : Joins sum (Sign sign.Minus) (joint.Arith Sub)
  times : Joins product (Sign sign.Star) (joint.Arith Mul)
  over : Joins product lexeme.Div (joint.Arith Div)
  modulo : Joins product lexeme.Mod (joint.Arith Mod)

-- rule: which tokens relate two terms
pub data Relates : Lexeme → RelOp → Type 0 where
  less : Relates (Sign sign.Less) rel.Less
  less_same : Relates (Sign sign.LessEq) rel.LessEq
  more : Relates (Sign sign.More) rel.More
  more_same : Relates (Sign sign.MoreEq) rel.MoreEq
  same : Relates (Sign sign.Same) rel.Same
  differ : Relates (Sign sign.Differ) rel.Differ
  unify : Relates (Sign sign.Unify) rel.Unify

-- the rule of the operands
abbrev pub operand : Rule → Rule
operand disjunction = conjunction
operand conjunction = negation
operand negation = relation
operand relation = sum
operand sum = product
operand product = signed
operand signed = primary
operand primary = primary

abbrev pub listing : List Term → Option Term → ListingOf Term
listing items tail = record { items = items; tail = tail }

mutual
  -- rule: expressions: a front of xs is one by the rule, ys is behind it, it means m, and at most n brackets are open at one place of it
  pub data Reads : ℕ → Rule → List Lexeme → List Lexeme → Meaning → Type 0 where
    just_or : {n : ℕ} {xs ys : List Lexeme} {m : Meaning} → Reads n conjunction xs ys m → Reads n disjunction xs ys m
    just_and : {n : ℕ} {xs ys : List Lexeme} {m : Meaning} → Reads n negation xs ys m → Reads n conjunction xs ys m
    just_negation : {n : ℕ} {xs ys : List Lexeme} {m : Meaning} → Reads n relation xs ys m → Reads n negation xs ys m
    just_relation : {n : ℕ} {xs ys : List Lexeme} {m : Meaning} → Reads n sum xs ys m → Reads n relation xs ys m
    just_sum : {n : ℕ} {xs ys : List Lexeme} {m : Meaning} → Reads n product xs ys m → Reads n sum xs ys m
    just_product : {n : ℕ} {xs ys : List Lexeme} {m : Meaning} → Reads n signed xs ys m → Reads n product xs ys m
    just_signed : {n : ℕ} {xs ys : List Lexeme} {m : Meaning} → Reads n primary xs ys m → Reads n signed xs ys m
    -- to the left
    chained : {n : ℕ} {rule : Rule} {x : Lexeme} {o : Joint} {xs ys zs : List Lexeme} {l r m : Meaning} → Joins rule x o → Reads n rule xs (x ∷ ys) l
        → Reads n (operand rule) ys zs r → joined o l r ≡ Some m → Reads n rule xs zs m
    related : {n : ℕ} {x : Lexeme} {o : RelOp} {xs ys zs : List Lexeme} {l r m : Meaning} → Relates x o → Reads n sum xs (x ∷ ys) l
        → Reads n sum ys zs r → compared o l r ≡ Some m → Reads n relation xs zs m
    negated : {n : ℕ} {xs ys : List Lexeme} {r m : Meaning} → Reads n negation xs ys r → prefixed prefix.Not r ≡ Some m → Reads n negation (Not ∷ xs) ys m
    subtracted : {n : ℕ} {xs ys : List Lexeme} {r m : Meaning} → starts_number xs ≡ false → Reads n signed xs ys r → prefixed prefix.Minus r ≡ Some m
        → Reads n signed (Sign sign.Minus ∷ xs) ys m
    a_number : {n k : ℕ} {z : ℤ} {xs : List Lexeme} → positive k ≡ Some z → Reads n primary (Num k ∷ xs) xs (meaning.Term (term.Num z))
    a_negative : {n k : ℕ} {z : ℤ} {xs : List Lexeme} → negative k ≡ Some z → Reads n primary (Sign sign.Minus ∷ Num k ∷ xs) xs (meaning.Term (term.Num z))
    a_string : {n : ℕ} {s : List ℕ} {xs : List Lexeme} → Reads n primary (Str s ∷ xs) xs (meaning.Term (term.Str s))
    a_variable : {n : ℕ} {name : List ℕ} {xs : List Lexeme} → Reads n primary (Var name ∷ xs) xs (meaning.Term (variable name))
    a_truth : {n : ℕ} {b : Bool} {xs : List Lexeme} → Reads n primary (Truth b ∷ xs) xs (truth b)
    a_literal : {n : ℕ} {xs ys : List Lexeme} {l : LiteralOf Term} → ReadsLiteral n xs ys l → Reads n primary xs ys (meaning.Literal l)
    a_list : {n : ℕ} {xs ys : List Lexeme} {l : ListingOf Term} → ReadsList n xs ys l → Reads n primary xs ys (meaning.Term (term.List l))
    in_brackets : {n : ℕ} {xs ys : List Lexeme} {m : Meaning} → Reads n disjunction xs (Sign sign.Close ∷ ys) m
        → Reads (suc n) primary (Sign sign.Open ∷ xs) ys m
    a_call : {n : ℕ} {name : List ℕ} {xs ys : List Lexeme} {ms : List Meaning} {m : Meaning} → ReadsParts n disjunction shape.Round xs ys ms
        → called name ms ≡ Some m → Reads n primary (Inner name ∷ xs) ys m

  -- expressions by the rule with commas between them
  pub data ReadsItems : ℕ → Rule → List Lexeme → List Lexeme → List Meaning → Type 0 where
    last_item : {n : ℕ} {rule : Rule} {xs ys : List Lexeme} {m : Meaning} → Reads n rule xs ys m → ReadsItems n rule xs ys (m ∷ [])
    next_item : {n : ℕ} {rule : Rule} {xs ys zs : List Lexeme} {m : Meaning} {ms : List Meaning} → Reads n rule xs (Sign sign.Comma ∷ ys) m
        → ReadsItems n rule ys zs ms → ReadsItems n rule xs zs (m ∷ ms)

  -- the same in brackets, or nothing
  pub data ReadsParts : ℕ → Rule → BracketShape → List Lexeme → List Lexeme → List Meaning → Type 0 where
    no_parts : {n : ℕ} {rule : Rule} {s : BracketShape} {xs : List Lexeme} → ReadsParts n rule s xs xs []
    round_parts : {n : ℕ} {rule : Rule} {xs ys : List Lexeme} {ms : List Meaning} → ReadsItems n rule xs (Sign sign.Close ∷ ys) ms
        → ReadsParts (suc n) rule shape.Round (Sign sign.Open ∷ xs) ys ms
    square_parts : {n : ℕ} {rule : Rule} {xs ys : List Lexeme} {ms : List Meaning} → ReadsItems n rule xs (Sign sign.CloseSquare ∷ ys) ms
        → ReadsParts (suc n) rule shape.Square (Sign sign.OpenSquare ∷ xs) ys ms

  -- a literal behind its sign: the functor, arguments and annotations
  pub data ReadsAtom : ℕ → Bool → List Lexeme → List Lexeme → LiteralOf Term → Type 0 where
    an_atom : {n : ℕ} {neg : Bool} {name : List ℕ} {xs ys zs : List Lexeme} {ms ns : List Meaning} {args annots : List Term}
        → ReadsParts n sum shape.Round xs ys ms → as_terms ms ≡ Some args → ReadsParts n sum shape.Square ys zs ns → as_terms ns ≡ Some annots
        → ReadsAtom n neg (Atom name ∷ xs) zs (record { neg = neg; functor = name; args = args; annots = annots })

  pub data ReadsLiteral : ℕ → List Lexeme → List Lexeme → LiteralOf Term → Type 0 where
    is_held : {n : ℕ} {xs ys : List Lexeme} {l : LiteralOf Term} → ReadsAtom n false xs ys l → ReadsLiteral n xs ys l
    is_denied : {n : ℕ} {xs ys : List Lexeme} {l : LiteralOf Term} → ReadsAtom n true xs ys l → ReadsLiteral n (Sign sign.Tilde ∷ xs) ys l

  -- a list, whose tail is a variable or is joined to it
  pub data ReadsList : ℕ → List Lexeme → List Lexeme → ListingOf Term → Type 0 where
    empty_list : {n : ℕ} {xs : List Lexeme} → ReadsList (suc n) (Sign sign.OpenSquare ∷ Sign sign.CloseSquare ∷ xs) xs (listing [] None)
    some_list : {n : ℕ} {xs ys zs : List Lexeme} {ms : List Meaning} {ts : List Term} {l : ListingOf Term} → ReadsItems n sum xs ys ms
        → as_terms ms ≡ Some ts → ReadsTail n ys (Sign sign.CloseSquare ∷ zs) l
        → ReadsList (suc n) (Sign sign.OpenSquare ∷ xs) zs (listing (ts ++ l.items) l.tail)

  -- what stands behind the items of a list
  pub data ReadsTail : ℕ → List Lexeme → List Lexeme → ListingOf Term → Type 0 where
    no_tail : {n : ℕ} {xs : List Lexeme} → ReadsTail n xs xs (listing [] None)
    variable_tail : {n : ℕ} {name : List ℕ} {xs : List Lexeme} → ReadsTail n (Sign sign.Bar ∷ Var name ∷ xs) xs (listing [] (Some (variable name)))
    list_tail : {n : ℕ} {xs ys : List Lexeme} {l : ListingOf Term} → ReadsList n xs ys l → ReadsTail n (Sign sign.Bar ∷ xs) ys l
