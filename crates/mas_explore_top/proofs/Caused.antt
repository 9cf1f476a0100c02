-- What is written of what is told.
use Rattle.std.proofs.Common.{◌≡◌, ℕ, List, Option, None, Some, refl, subst}
use Rattle.mas_io.specs.Causes.{Rose}
use Rattle.mas_io.specs.Sink.{grown}
use Rattle.mas_io.specs.Told.{Told, IsUnwritten}
use Rattle.mas_io.specs.Writing.{Wrote, WroteSome, IsCut}
use Rattle.mas_world.specs.Worlds.{Used}
use Rattle.mas_top_status.specs.declared.status.Status.TheVariants.{Memory}
use Rattle.mas_explore_listing.specs.declared.telling.Told as told
use Rattle.mas_explore_top.specs.declared.ends.ExploreEnd.{ExploreEnd}
use Rattle.mas_explore_top.specs.declared.ends.ExploreEnd.TheVariants.{Refused}
use Rattle.mas_explore_top.specs.Asked.{Asked, Exploring, help, version, explore}
use Rattle.mas_explore_top.specs.Ends.{IsText, IsSomeText, AskedCaused}
use Rattle.mas_explore_top.specs.Explored.{IsToldIn}

pub written : (objects : List Used) (e : Exploring) (before after : Told) (t : told.Told) → IsToldIn objects before.held e t →
    after.written ≡ grown before.written t.text → Wrote (IsText objects e before.held t.code) before after
written objects e before after t i w = record { text = t.text; is = i; written = w }

pub cut : (objects : List Used) (e : Exploring) (before after : Told) (t : told.Told) → IsToldIn objects before.held e t →
    Rose before.sink_faults after.sink_faults → IsCut before.written after.written t.text → WroteSome (IsSomeText objects e before.held) before after
cut objects e before after t i r k = record { rose = r; text = t.text; is = record { code = t.code; is = i }; cut = k }

-- where memory was wanting, whatever the words ask for
pub starved : (objects : List Used) (m : Option Asked) (before after : Told) → IsUnwritten before after → AskedCaused objects m before after (Refused Memory)
starved objects None before after u = (refl, u)
starved objects (Some help) before after u = (refl, u)
starved objects (Some version) before after u = (refl, u)
starved objects (Some (explore e)) before after u = record { why = tt; unwritten = u }

-- the words ask for what was read
pub asked_so : (objects : List Used) (m n : Option Asked) (before after : Told) (end : ExploreEnd) → m ≡ n → AskedCaused objects m before after end →
    AskedCaused objects n before after end
asked_so objects m n before after end e h = subst (λ (x : Option Asked). AskedCaused objects x before after end) e h
