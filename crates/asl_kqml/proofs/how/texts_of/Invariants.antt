use Rattle.std.proofs.Common.{◌≡◌, ◌≤◌, length, take}
use Rattle.asl_kqml.specs.Receive.{texts_of, string_items}
use Rattle.asl_kqml.proofs.how.texts_of.Given as goal

abbrev pub invariant-loop-c : goal.invariant-loop-c
invariant-loop-c l = record {
  texts : l.texts ≡ string_items (texts_of l.lib.plans (take l.c-index l.choices));
  few : length l.texts ≤ 9999;
}
