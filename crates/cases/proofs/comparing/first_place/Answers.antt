-- Behind the shorter text the two differ, since they are not the same.
use Rattle.std.proofs.Common.{rules, arith, ◌≡◌, min, length, take}
use Rattle.cases.proofs.Places.{differs_behind}
use Rattle.cases.proofs.comparing.first_place.Goals as goal

pub returns-clause-there : goal.returns-clause-there
returns-clause-there c =
    let differ : c.args.wanted.now ≡ c.args.got.now → ⊥ = search rules in
    let shorter : c.min-shorter.result ≡ min (length c.args.wanted.now) (length c.args.got.now) = search rules in
    let same : take c.min-shorter.result c.args.wanted.now ≡ take c.min-shorter.result c.args.got.now = search rules in
    differs_behind _ _ _ differ same shorter
