use Rattle.std.proofs.Common.{◌≡◌, length, reverse}
use Rattle.asl_parser.specs.Agents.{nothing, all_added}
use Rattle.asl_parser.proofs.agent.together.Given as goal

abbrev pub invariant-sentences : goal.invariant-sentences
invariant-sentences l = all_added l.text (reverse l.left) ≡ all_added nothing l.fn.sentences

abbrev pub decreases-sentences : goal.decreases-sentences
decreases-sentences l = length l.left
