use Rattle.std.proofs.Common.{◌≡◌, ◌∙◌, ap, map, subst, rules}
use Rattle.asl_beliefs.specs.Bases.{all_ground}
use Rattle.asl_kqml.specs.Receive.{sourced}
use Rattle.asl_kqml.proofs.Grounds.{Closed, all_sourced_ground}
use Rattle.asl_kqml.proofs.believing.tell.Goals as goal

pub add_all-added-requires : goal.add_all-added-requires
add_all-added-requires g c =
    let made : c.as_slice.result.now ≡ map (sourced c.args.name.now) c.in-Some.ls = search rules in
    ap all_ground made ∙ all_sourced_ground c.args.name.now c.in-Some.ls (subst Closed c.in-Some.is c.requires)
