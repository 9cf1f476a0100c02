use Rattle.std.proofs.Common.{length, take, ◌-◌, ◌≡◌, ◌≤◌}
use Rattle.mas_io.specs.Sink.{grown}
use Rattle.mas_io.proofs.writing.write_all.Given as goal

abbrev pub invariant-puts : goal.invariant-puts
invariant-puts g l =
    let K = g.K.Sink in
    record {
      within : l.at ≤ length l.text;
      written : K.written l.sink ≡ grown (K.written l.fn.sink) (take l.at l.text);
      later : K.faults l.fn.sink ≤ K.faults l.sink;
    }

abbrev pub decreases-puts : goal.decreases-puts
decreases-puts g l = length l.text - l.at
