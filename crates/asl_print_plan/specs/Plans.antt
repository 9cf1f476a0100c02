-- The plan that a text is.
use Rattle.std.specs.Prelude.{◌≡◌, ℕ, List, [], ◌∷◌, Option, None, Some, Result, Ok, Err}
use Rattle.asl_term.specs.declared.syntax.Plan.{Plan}
use Rattle.asl_parser_expr.specs.declared.fault.TextFault.{TextFault}
use Rattle.asl_parser.specs.declared.sentence.Sentence.{Sentence}
use Rattle.asl_parser.specs.declared.sentence.Sentence.TheVariants as sentence
use Rattle.asl_print.specs.Agents.{alone}
use Rattle.asl_parser.specs.Agents.{IsAgent}
use Rattle.asl_parser.proofs.Total.{some_answer}

-- rule: the bytes are this plan: as the source of an agent they say it, within the limits, and nothing else
abbrev pub IsPlan : List ℕ → Plan → Type 0
IsPlan bytes p = IsAgent bytes (alone p)

abbrev pub plan_said : Sentence → Option Plan
plan_said (sentence.Plan p) = Some p
plan_said other = None

abbrev pub only_said : List Sentence → Option Plan
only_said (s ∷ []) = plan_said s
only_said other = None

abbrev pub plan_answered : Result (List Sentence) TextFault → Option Plan
plan_answered (Ok said) = only_said said
plan_answered (Err fault) = None

-- the plan that the bytes are, where they are one: that of the one answer that bytes have
unfoldable pub plan_in : List ℕ → Option Plan
plan_in bytes = plan_answered (some_answer bytes).0
