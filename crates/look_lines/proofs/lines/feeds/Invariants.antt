use Rattle.std.proofs.Common.{◌≡◌, ◌+◌, ◌≤◌, drop}
use Rattle.look_lines.specs.Lines.{feeds}
use Rattle.look_lines.proofs.lines.feeds.Given as goal

abbrev pub invariant-loop-c : goal.invariant-loop-c
invariant-loop-c l = record {
  number : l.n + feeds (drop l.c-index l.text) ≡ feeds l.text;
  few : l.n ≤ l.c-index;
}
