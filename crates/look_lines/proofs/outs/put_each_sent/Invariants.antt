use Rattle.std.proofs.Common.{◌≡◌, ◌++◌, take}
use Rattle.std.specs.List.{flat_map}
use Rattle.look_lines.specs.Outs.{sent_line}
use Rattle.look_lines.proofs.outs.put_each_sent.Given as goal

abbrev pub invariant-messages : goal.invariant-messages
invariant-messages l = l.out ≡ l.initial.out ++ flat_map (sent_line l.names) (take l.m-index l.all)
