-- The options of what is asked for.
use Rattle.std.proofs.Common.{◌≡◌, false, refl, arith}
use Rattle.asl_cycle.specs.Trace.{shows_rules}
use Rattle.mas_report.specs.Limits.{IsWithin}
use Rattle.mas_explore_top.specs.declared.detail.Detail.{Detail}
use Rattle.mas_explore_top.specs.declared.detail.Detail.TheVariants.{Ends, Say, Acts}
use Rattle.mas_explore_top.specs.Asked.{Exploring, IsPermitted}
use Rattle.mas_explore_top.specs.Explored.{level_of, options_of}

pub is_within : (e : Exploring) → IsPermitted e → IsWithin (options_of e)
is_within e p = record { cycles = (omega arith, omega arith); lead = (omega arith, omega arith); depth = p.depth; tries = p.tries }

plain_at : (d : Detail) → shows_rules (level_of d) ≡ false
plain_at Ends = refl
plain_at Say = refl
plain_at Acts = refl

pub is_plain : (e : Exploring) → shows_rules (options_of e).level ≡ false
is_plain e = plain_at e.detail
