-- The ends of a wire.
use Rattle.crossbeam_queue.specs.SegTies.{IsSegPassOf}
use Rattle.mas_sites_wire.specs.declared.wire.Log.{Log}
use Rattle.mas_sites_wire.specs.declared.wire.Wire.{Wire}
use Rattle.mas_sites_wire.specs.declared.wire.WireEnd.{WireEnd}

-- it is an end of this wire
abbrev pub IsEndOf : Wire → WireEnd → Type 0
IsEndOf wire end = IsSegPassOf wire.queue end.pass

-- what it knows
abbrev pub log_of : WireEnd → Log
log_of end = end.pass.me.view.client
