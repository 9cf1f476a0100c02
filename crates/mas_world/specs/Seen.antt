-- What an agent sees of the world.
use Rattle.std.specs.Prelude.{Bool, false, if◌then◌else◌, ℕ, List, [], ◌∷◌, Option, Some, None, codes}
use Rattle.std.specs.List.{flat_map, list_any}
use Rattle.std.specs.Str.{bytes_eq}
use Rattle.asl_term.specs.declared.syntax.LiteralOf.{LiteralOf}
use Rattle.asl_term.specs.declared.syntax.Term.{Term}
use Rattle.asl_term.specs.declared.syntax.Term.TheOpen.{Term-F}
use Rattle.asl_term.specs.declared.syntax.Term.TheOpen as layer
use Rattle.asl_term.specs.declared.syntax.Term.TheViews.{out-Term}
use Rattle.mas_world.specs.Facts.{news}
use Rattle.mas_world.specs.Worlds.{World, facts}

-- an atom's name
abbrev pub atom_named : Bool → List ℕ → List Term → List Term → Option (List ℕ)
atom_named false name [] [] = Some name
atom_named neg name args annots = None

abbrev pub atom_in : Term-F Term → Option (List ℕ)
atom_in (layer.Lit l) = atom_named l.neg l.functor l.args l.annots
atom_in other = None

abbrev pub literal_in : Term-F Term → Option (LiteralOf Term)
literal_in (layer.Lit l) = Some l
literal_in other = None

-- who alone sees a fact, and as what
pub record Private : Type 0 where
  pub agent : List ℕ
  pub fact : LiteralOf Term

abbrev pub private_of : Option (List ℕ) → Option (LiteralOf Term) → Option Private
private_of (Some a) (Some f) = Some (record { agent = a; fact = f })
private_of None f = None
private_of (Some a) None = None

-- of the two arguments the first is an atom and the second a literal
abbrev pub private_args : List Term → Option Private
private_args (a ∷ f ∷ []) = private_of (atom_in (out-Term a)) (literal_in (out-Term f))
private_args args = None

-- what a positive `for(a, f)`, with an atom and a literal, says
abbrev pub private_fact : LiteralOf Term → Option Private
private_fact l = if l.neg then None else (if bytes_eq l.functor (codes "for") then private_args l.args else None)

abbrev pub shown_to : List ℕ → LiteralOf Term → Option Private → List (LiteralOf Term)
shown_to agent l None = l ∷ []
shown_to agent l (Some p) = if bytes_eq p.agent agent then p.fact ∷ [] else []

-- what an agent sees of a fact: nothing where its functor is hidden
abbrev pub shown : List (List ℕ) → List ℕ → LiteralOf Term → List (LiteralOf Term)
shown hidden agent l = if list_any (bytes_eq l.functor) hidden then [] else shown_to agent l (private_fact l)

-- rule: what an agent sees: all facts as the agent sees them, each once, at its first place
abbrev pub seen : World → List ℕ → List (LiteralOf Term)
seen w agent = news [] (flat_map (shown w.hidden agent) (facts w))
