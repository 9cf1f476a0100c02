-- A trigger that is counted is small enough.
use Rattle.std.proofs.Common.{◌≡◌, nat_le, true}
use Rattle.std.proofs.lemmas.Bool.{and_parts, leb-true}
use Rattle.asl_term.specs.Trees.{size, depth}
use Rattle.asl_term.specs.declared.syntax.Term.TheVariants as term
use Rattle.asl_term.specs.declared.syntax.Trigger.{Trigger}
use Rattle.asl_intend.specs.Stacks.{IsBuildable, is_buildable}

pub is_small : (t : Trigger) → is_buildable t ≡ true → IsBuildable t
is_small t h =
    let nodes = nat_le (size (term.Lit t.lit)) 1000000 in
    let levels = nat_le (depth (term.Lit t.lit)) 1000 in
    let both = and_parts nodes levels h in
    (leb-true (size (term.Lit t.lit)) 1000000 both.0, leb-true (depth (term.Lit t.lit)) 1000 both.1)
