-- AskAll and AskSpent, by the list of the goal over all solutions.
use Rattle.std.specs.Prelude.{ℕ}
use Rattle.asl_unify.specs.Puts.{nil}
use Rattle.asl_exec_circumstance.specs.Circumstance.{Circumstance}
use Rattle.asl_exec_circumstance.specs.declared.rows.Row.TheVariants as row
use Rattle.asl_resolve.specs.declared.answers.Listed.{Listed}
use Rattle.asl_resolve.specs.declared.answers.Listed.TheVariants as listed
use Rattle.mas_mind.specs.declared.mind.Message.{Message}
use Rattle.asl_kqml.specs.declared.took.Took.TheVariants as took
use Rattle.asl_kqml.specs.Receive.{Received, received, replies, reply}

abbrev pub ask_listed : ℕ → Message → Circumstance → Listed → Received
ask_listed me m p (listed.Spent b) = received p (took.Spent b)
ask_listed me m p (listed.List t) = replies row.AskAll p (reply me m t)
ask_listed me m p other = replies row.AskAll p (reply me m nil)
