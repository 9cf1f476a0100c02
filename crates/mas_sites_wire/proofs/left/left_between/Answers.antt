use Rattle.mas_sites_wire.proofs.Lefts.{ends_number, firsts_here, seconds_here, left_of_pairs}
use Rattle.mas_sites_wire.proofs.left.left_between.Goals as goal

pub paired-requires : goal.paired-requires
paired-requires g c = ends_number c.args.wires.now c.args.here.now c.args.one c.args.two c.requires.one c.requires.two

pub left_on_all-requires-clause-one : goal.left_on_all-requires-clause-one
left_on_all-requires-clause-one g c = firsts_here c.args.wires.now c.args.here.now c.args.one c.args.two _ c.in_ok-pairs.ensures c.requires.one

pub left_on_all-requires-clause-two : goal.left_on_all-requires-clause-two
left_on_all-requires-clause-two g c = seconds_here c.args.wires.now c.args.here.now c.args.one c.args.two _ c.in_ok-pairs.ensures c.requires.two

pub returns : goal.returns
returns g c = left_of_pairs c.args.wires.now c.args.here.now c.args.one c.args.two _ c.in_ok-pairs.ensures _ c.in_ok-ways.ensures
