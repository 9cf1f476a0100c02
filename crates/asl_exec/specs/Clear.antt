-- The rows for the current stack after a formula, in the order in which they are asked.
use Rattle.std.specs.Prelude.{cond, List, []}
use Rattle.asl_intend.specs.declared.entry.Means.{Means}
use Rattle.asl_intend.specs.Stacks.{has_head}
use Rattle.asl_exec_circumstance.specs.declared.rows.Row.TheVariants as row
use Rattle.asl_exec_circumstance.specs.declared.went.Went.TheVariants as went
use Rattle.asl_exec_circumstance.specs.Circumstance.{Surroundings, Circumstance, Made, made, running}
use Rattle.asl_exec_circumstance.specs.Emptied.{emptied}

-- rule ClrInt3: the stack goes to the back of those that run
abbrev pub waits : Circumstance → List Means → Made
waits p cur = made (running p cur) [] (went.Row row.ClrInt3)

-- (shut, so that proofs above do not look inside)
unfoldable pub clear : Surroundings → Circumstance → List Means → Made
clear k p cur = cond (has_head cur) (waits p cur) (emptied k p cur)
