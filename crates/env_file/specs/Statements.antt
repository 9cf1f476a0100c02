-- The grammar of the clauses of a world file.
use Rattle.std.specs.Prelude.{◌≡◌, ℕ, Bool, true, false, ◌&&◌, ◌||◌, List, [], ◌∷◌, Option, Some, None, codes}
use Rattle.std.specs.List.{list_any}
use Rattle.std.specs.Option.{option_map}
use Rattle.std.specs.Str.{bytes_eq}
use Rattle.asl_lexer.specs.declared.token.Sign.TheVariants as sign
use Rattle.asl_term.specs.declared.syntax.LiteralOf.{LiteralOf}
use Rattle.asl_term.specs.declared.syntax.Term.{Term}
use Rattle.asl_term.specs.declared.syntax.Term.TheVariants as term
use Rattle.asl_term.specs.declared.syntax.Expr.{Expr}
use Rattle.asl_parser_tree.specs.declared.lexeme.Lexeme.{Lexeme}
use Rattle.asl_parser_tree.specs.declared.lexeme.Lexeme.TheVariants.{Atom, Var, Truth, Sign, End}
use Rattle.asl_parser_tree.specs.Meanings.{atom}
use Rattle.asl_parser_tree.specs.Leaves.{variable}
use Rattle.asl_parser_expr.specs.Grammar.{ReadsLiteral}
use Rattle.asl_parser.specs.Sentences.{label_of, adds_of, ReadsFormula, ReadsHead}
use Rattle.env_file.specs.declared.statement.Part.{Part}
use Rattle.env_file.specs.declared.statement.Effect.{Effect}
use Rattle.env_file.specs.declared.statement.Effect.TheVariants.{Added, Deleted, Dropped}
use Rattle.env_file.specs.declared.statement.Statement.{Statement}
use Rattle.env_file.specs.declared.statement.Statement.TheVariants as statement
use Rattle.env_file.specs.Guards.{parts}

-- ---- single tokens

abbrev pub is_word : List ℕ → Lexeme → Bool
is_word text (Atom name) = bytes_eq name text
is_word text _ = false

abbrev pub is_variable : Lexeme → Bool
is_variable (Var name) = true
is_variable _ = false

-- whom an act is for: a variable or an atom; any word may be the atom
abbrev pub name_term : Lexeme → Option Term
name_term x = option_map (λ name. term.Lit (atom name)) (label_of x)

abbrev pub doer_of : Lexeme → Option Term
doer_of (Var name) = Some (variable name)
doer_of x = name_term x

-- ---- annotations

-- what stands directly before annotations: a functor, or the bracket that closes its arguments
abbrev pub ends_literal : Lexeme → Bool
ends_literal (Atom name) = true
ends_literal (Sign sign.Close) = true
ends_literal _ = false

abbrev pub opens_square : List Lexeme → Bool
opens_square (Sign sign.OpenSquare ∷ ts) = true
opens_square _ = false

-- a literal among these tokens has annotations; a list never begins behind a functor or a closing bracket
unfoldable pub has_annots : List Lexeme → Bool
has_annots [] = false
has_annots (t ∷ ts) = (ends_literal t && opens_square ts) || has_annots ts

-- ---- the clauses

-- the guard, as one formula, each part of which is a literal, `not` before a literal, or a relation
pub data ReadsGuard : ℕ → List Lexeme → List Lexeme → Option Expr → Type 0 where
  no_guard : {n : ℕ} {xs : List Lexeme} → ReadsGuard n xs xs None
  a_guard : {n : ℕ} {xs ys : List Lexeme} {e : Expr} {ps : List Part} → ReadsFormula n xs ys e → parts e ≡ Some ps
      → ReadsGuard n (Sign sign.Colon ∷ xs) ys (Some e)

abbrev pub changed : Bool → LiteralOf Term → Effect
changed true l = Added l
changed false l = Deleted l

-- an effect, None for `true`, which does nothing; any word may be dropped
pub data ReadsEffect : ℕ → List Lexeme → List Lexeme → Option Effect → Type 0 where
  a_change : {n : ℕ} {x : Lexeme} {add : Bool} {xs ys : List Lexeme} {l : LiteralOf Term} → adds_of x ≡ Some add → ReadsLiteral n xs ys l
      → ReadsEffect n (x ∷ xs) ys (Some (changed add l))
  a_drop : {n : ℕ} {x y : Lexeme} {xs : List Lexeme} {name : List ℕ} → is_word (codes "drop") x ≡ true → label_of y ≡ Some name
      → ReadsEffect n (x ∷ y ∷ xs) xs (Some (Dropped name))
  no_change : {n : ℕ} {xs : List Lexeme} → ReadsEffect n (Truth true ∷ xs) xs None

abbrev pub before : Option Effect → List Effect → List Effect
before None es = es
before (Some e) es = e ∷ es

pub data ReadsEffects : ℕ → List Lexeme → List Lexeme → List Effect → Type 0 where
  only_effect : {n : ℕ} {xs ys : List Lexeme} {o : Option Effect} {es : List Effect} → ReadsEffect n xs ys o → before o [] ≡ es → ReadsEffects n xs ys es
  more_effects : {n : ℕ} {xs ys zs : List Lexeme} {o : Option Effect} {es fs : List Effect} → ReadsEffect n xs (Sign sign.Comma ∷ ys) o
      → ReadsEffects n ys zs es → before o es ≡ fs → ReadsEffects n xs zs fs

-- facts are ground and without arithmetic, acts are positive and without it; any word may be hidden and used
pub data States : ℕ → List Lexeme → Statement → Type 0 where
  a_fact : {n : ℕ} {xs : List Lexeme} {l : LiteralOf Term} → ReadsHead n xs (End ∷ []) l → list_any is_variable xs ≡ false → States n xs (statement.Fact l)
  a_hide : {n : ℕ} {x y : Lexeme} {name : List ℕ} → is_word (codes "hide") x ≡ true → label_of y ≡ Some name
      → States n (x ∷ y ∷ End ∷ []) (statement.Hide name)
  a_use : {n : ℕ} {x y : Lexeme} {name : List ℕ} → is_word (codes "use") x ≡ true → label_of y ≡ Some name
      → States n (x ∷ y ∷ End ∷ []) (statement.Use name)
  an_act : {n : ℕ} {w x y : Lexeme} {xs ys zs : List Lexeme} {l : LiteralOf Term} {by : Term} {guard : Option Expr} {effects : List Effect}
      → is_word (codes "act") w ≡ true → ReadsHead n xs (x ∷ y ∷ ys) l → l.neg ≡ false → is_word (codes "by") x ≡ true → doer_of y ≡ Some by
      → ReadsGuard n ys (Sign sign.RightArrow ∷ zs) guard → ReadsEffects n zs (End ∷ []) effects
      → States n (w ∷ xs) (statement.Act (record { head = l; by = by; guard = guard; effects = effects }))

-- rule: the tokens are one clause, with its end, that says this; no literal has annotations
pub record Says (n : ℕ) (xs : List Lexeme) (s : Statement) : Type 0 where
  pub bare : has_annots xs ≡ false
  pub stated : States n xs s
