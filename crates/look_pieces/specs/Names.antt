-- Names: what is compared of literals.
use Rattle.std.specs.Prelude.{ℕ, ◌==◌, Bool, ◌&&◌, if◌then◌else◌, List, [], ◌∷◌, ◌++◌, length}
use Rattle.std.specs.Bool.{beq}
use Rattle.std.specs.List.{list_any}
use Rattle.std.specs.Str.{bytes_eq}
use Rattle.asl_term.specs.declared.syntax.LiteralOf.{LiteralOf}
use Rattle.asl_term.specs.declared.syntax.Term.{Term}
use Rattle.look_pieces.specs.declared.name.Name.{Name}

abbrev pub name_of : LiteralOf Term → Name
name_of l = record { neg = l.neg; functor = l.functor; count = length l.args }

-- the same sign, functor and number of arguments
abbrev pub is_named : LiteralOf Term → Name → Bool
is_named l n = beq n.neg l.neg && bytes_eq n.functor l.functor && (n.count == length l.args)

abbrev pub same_name : LiteralOf Term → LiteralOf Term → Bool
same_name a b = beq a.neg b.neg && bytes_eq a.functor b.functor && (length a.args == length b.args)

-- each name once
abbrev pub with_name : List Name → LiteralOf Term → List Name
with_name ns l = if list_any (is_named l) ns then ns else ns ++ name_of l ∷ []
