-- The substitutions that a place in a log leaves.
use Rattle.std.specs.Prelude.{List, [], drop}
use Rattle.std.specs.Option.{option_map, unwrap_or}
use Rattle.asl_unify.specs.declared.subst.Pair.{Pair}
use Rattle.asl_unify.specs.declared.log.Later.{Later}

-- the substitutions that are left
abbrev pub later : Later → List (List Pair)
later l = unwrap_or (option_map (λ r. drop l.from r.now) l.log) []
