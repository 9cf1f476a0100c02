use Rattle.std.proofs.Common.{length}
use Rattle.asl_parser_tree.specs.Holding.{limited}
use Rattle.env_file.specs.Speaking.{effect_by, effect_list_by}
use Rattle.env_file.proofs.Effects.{EffectsLeft}
use Rattle.env_file.proofs.clauses.effect_list.Given as goal

abbrev pub invariant-effects : goal.invariant-effects
invariant-effects l = EffectsLeft (effect_by limited l.depth) l.all l.rest (effect_list_by (effect_by limited l.depth) (length l.tokens) l.tokens)

abbrev pub decreases-effects : goal.decreases-effects
decreases-effects l = length l.rest
