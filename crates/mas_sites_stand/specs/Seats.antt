-- What sits in the place of an agent: a mind of its own, of the meaning V, or a stand.
use Rattle.mas_mind.specs.declared.mind.Input.{Input}
use Rattle.mas_mind.specs.declared.mind.Feedback.{Feedback}
use Rattle.mas_mind.specs.Minds.{Cycled, Kind}
use Rattle.mas_sites_stand.specs.Stands.{Standing, stand_kind}
use Rattle.mas_sites_stand.specs.declared.seated.Seated.{Seated}
use Rattle.mas_sites_stand.specs.declared.seated.Seated.TheVariants as seat

abbrev pub own_cycled : {V : Type 0} → Cycled V → Cycled (Seated V)
own_cycled c = record { mind = seat.Own c.mind; thought = c.thought }

abbrev pub stand_cycled : {V : Type 0} → Cycled Standing → Cycled (Seated V)
stand_cycled c = record { mind = seat.Stand c.mind; thought = c.thought }

abbrev pub seated_cycle : {V : Type 0} → Kind V → Seated V → Input → Cycled (Seated V)
seated_cycle k (seat.Own m) i = own_cycled (k.cycle m i)
seated_cycle k (seat.Stand s) i = stand_cycled (stand_kind.cycle s i)

abbrev pub seated_told : {V : Type 0} → Kind V → Seated V → Feedback → Seated V
seated_told k (seat.Own m) f = seat.Own (k.took m f)
seated_told k (seat.Stand s) f = seat.Stand (stand_kind.took s f)

-- a reading of both
abbrev pub of_both : {V A : Type 0} → (V → A) → (Standing → A) → Seated V → A
of_both own stand (seat.Own m) = own m
of_both own stand (seat.Stand s) = stand s

abbrev pub seated : {V : Type 0} → Kind V → Kind (Seated V)
seated k = record {
  cycle = seated_cycle k;
  took = seated_told k;
  awaits = of_both k.awaits stand_kind.awaits;
  made = of_both k.made stand_kind.made;
  lines = of_both k.lines stand_kind.lines;
  me = of_both k.me stand_kind.me;
  agents = of_both k.agents stand_kind.agents;
}
