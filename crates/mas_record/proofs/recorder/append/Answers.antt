use Rattle.mas_record.proofs.RecorderRule.{either_now}
use Rattle.mas_record.proofs.recorder.append.Goals as goal

pub returns : goal.returns
returns g c =
    let e = c.append-written.ensures in
    record {
      whole = e.whole;
      ok = e.ok;
      refused = e.refused;
      ran = e.any_moment;
      there = e.there;
      either = either_now _ _ _ _ c.counts_now.ensures e.any_moment;
      cause = e.cause;
    }
