use Rattle.mas_world.proofs.Uses.{none_is, some_is}
use Rattle.mas_world.proofs.world.Artifacts.take_first.Goals as goal

pub returns-in-None-clause-value : goal.returns-in-None-clause-value
returns-in-None-clause-value g c = (none_is c.args.name.now c.find_name.result c.as_slice.result.now c.self.inside.kept.items c.args.self.now c.find_name.ensures c.as_slice.ensures.value c.self.view_is c.in-None.is).0

pub returns-in-None-clause-rest : goal.returns-in-None-clause-rest
returns-in-None-clause-rest g c = (none_is c.args.name.now c.find_name.result c.as_slice.result.now c.self.inside.kept.items c.args.self.now c.find_name.ensures c.as_slice.ensures.value c.self.view_is c.in-None.is).1

pub returns-in-Some-clause-value : goal.returns-in-Some-clause-value
returns-in-Some-clause-value g c =
    (some_is c.args.name.now c.find_name.result c.in-Some.k c.as_slice.result.now c.self.inside.kept.items c.args.self.now c.remove.new.self.items c.remove.result
    c.find_name.ensures c.as_slice.ensures.value c.self.view_is c.in-Some.is c.remove.ensures.value c.remove.ensures.items).0

pub returns-in-Some-clause-rest : goal.returns-in-Some-clause-rest
returns-in-Some-clause-rest g c =
    (some_is c.args.name.now c.find_name.result c.in-Some.k c.as_slice.result.now c.self.inside.kept.items c.args.self.now c.remove.new.self.items c.remove.result
    c.find_name.ensures c.as_slice.ensures.value c.self.view_is c.in-Some.is c.remove.ensures.value c.remove.ensures.items).1
