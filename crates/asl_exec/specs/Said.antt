-- What `.print` says.
use Rattle.std.specs.Prelude.{ℕ, ◌==◌, if◌then◌else◌, List, [], ◌∷◌}
use Rattle.std.specs.List.{flat_map}
use Rattle.asl_term.specs.declared.syntax.Term.{Term}
use Rattle.asl_term.specs.declared.syntax.Term.TheOpen.{Term-F}
use Rattle.asl_term.specs.declared.syntax.Term.TheOpen as layer
use Rattle.asl_term.specs.declared.syntax.Term.TheViews.{out-Term}
use Rattle.asl_term.specs.declared.syntax.Expr.{Expr}
use Rattle.asl_term.specs.declared.syntax.ArgOf.{ArgOf}
use Rattle.asl_term.specs.declared.syntax.ArgOf.TheVariants as arg
use Rattle.asl_term.specs.Texts.{text}

-- a byte of a line: a backslash, a line feed and a tab are escaped
abbrev pub escape : ℕ → List ℕ
escape b = if b == 92 then 92 ∷ 92 ∷ [] else (if b == 10 then 92 ∷ 110 ∷ [] else (if b == 9 then 92 ∷ 116 ∷ [] else b ∷ []))

abbrev pub unquoted : List ℕ → List ℕ
unquoted s = flat_map escape s

abbrev pub said_layer : Term → Term-F Term → List ℕ
said_layer t (layer.Str s) = unquoted s
said_layer t other = text t

-- a term as `.print` says it: a string has no quotes
abbrev pub said : Term → List ℕ
said t = said_layer t (out-Term t)

abbrev pub said_arg : ArgOf Expr → List ℕ
said_arg (arg.Plain t) = said t
said_arg (arg.Logic e) = []

-- rule .print: the arguments as `.print` says them, one behind the other
abbrev pub print_text : List (ArgOf Expr) → List ℕ
print_text args = flat_map said_arg args
