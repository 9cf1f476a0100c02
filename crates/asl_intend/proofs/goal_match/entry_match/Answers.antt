use Rattle.std.proofs.Common.{rules, sym, ◌≡◌, false}
use Rattle.asl_intend.specs.Entries as entry
use Rattle.asl_intend.proofs.Logs as logs
use Rattle.asl_intend.proofs.goal_match.entry_match.Goals as goal

pub returns-then-not-can_name : goal.returns-then-not-can_name
returns-then-not-can_name c =
    let no : entry.can_name c.args.g.now c.args.e.now.trigger ≡ false = search rules in
    sym (logs.not_matched c.args.log.now c.args.e.now c.args.g.now no)
