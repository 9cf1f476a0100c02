-- The places of beliefs that were perceived.
use Rattle.std.specs.Prelude.{◌≡◌, ℕ, Bool, false, List, Option, IfSome, codes}
use Rattle.std.specs.List.{slice_get}
use Rattle.std.specs.Option.{option_map_or}
use Rattle.std.specs.Str.{bytes_eq}
use Rattle.asl_term.specs.declared.syntax.LiteralOf.{LiteralOf}
use Rattle.asl_term.specs.declared.syntax.Term.{Term}
use Rattle.asl_term.specs.declared.syntax.Term.TheOpen.{Term-F}
use Rattle.asl_term.specs.declared.syntax.Term.TheOpen as layer
use Rattle.asl_term.specs.declared.syntax.Term.TheViews.{out-Term}
use Rattle.asl_beliefs.specs.Sources.{source_percept}
use Rattle.asl_beliefs.specs.Changes.{is_held}
use Rattle.asl_index_tables.specs.Slots.{places}

abbrev pub is_perceived : LiteralOf Term → Bool
is_perceived b = is_held b.annots source_percept

-- where places are noted they are those of all beliefs that were perceived, in order
abbrev pub AreNoted : List (Option (LiteralOf Term)) → Option (List ℕ) → Type 0
AreNoted slots noted = IfSome noted (λ ps. ps ≡ places is_perceived 0 slots)

-- whether a term is a literal of the name `percept`
abbrev pub layer_names_percept : Term-F Term → Bool
layer_names_percept (layer.Lit l) = bytes_eq l.functor (codes "percept")
layer_names_percept other = false

abbrev pub names_percept : Term → Bool
names_percept t = layer_names_percept (out-Term t)

-- whether a term is a literal whose first argument is such a literal: it may be `source(percept)`
abbrev pub first_names_percept : List Term → Bool
first_names_percept ts = option_map_or names_percept (slice_get ts 0) false

abbrev pub layer_may_be : Term-F Term → Bool
layer_may_be (layer.Lit l) = first_names_percept l.args
layer_may_be other = false

abbrev pub may_be_percept : Term → Bool
may_be_percept t = layer_may_be (out-Term t)
