use Rattle.std.proofs.Common.{◌≡◌, take}
use Rattle.mas_mind.proofs.copying.copy_messages.Given as goal

abbrev pub invariant-loop-m : goal.invariant-loop-m
invariant-loop-m l = l.r ≡ take l.m-index l.messages
