use Rattle.mas_record_rounds.specs.Dealing.{ArePlaces}
use Rattle.mas_record_rounds.proofs.dealing.places.Given as goal

abbrev pub invariant-loop : goal.invariant-loop
invariant-loop g l = ArePlaces l.counter l.places
