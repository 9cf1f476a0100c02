use Rattle.std.proofs.Common.{◌≡◌, ◌<◌, length, Some, None, rules, arith}
use Rattle.asl_parser_tree.specs.Holding.{limited}
use Rattle.asl_parser_tree.specs.Leaves.{after_comma}
use Rattle.asl_parser_expr.proofs.Loop.{comma_shorter}
use Rattle.env_file.specs.Holding.{put_effect}
use Rattle.env_file.specs.Speaking.{effect_by}
use Rattle.env_file.proofs.Effects.{effects_stop, effects_more, effects_end, effect_shorter}
use Rattle.env_file.proofs.clauses.effect_list.Goals as goal

pub returns-in_default : goal.returns-in_default
returns-in_default c =
    let none : effect_by limited c.args.depth c.effects.rest.now ≡ None = search rules in
    effects_stop (effect_by limited c.args.depth) c.effects.all c.effects.rest.now _ c.effects.invariant none

pub returns-in_default-after_comma : goal.returns-in_default-after_comma
returns-in_default-after_comma c =
    let read : effect_by limited c.args.depth c.effects.rest.now ≡ Some (c.in-Some.e, c.in-Some.after.now) = search rules in
    let none : after_comma c.in-Some.after.now ≡ None = search rules in
    let put : c.in_ok-all.all ≡ put_effect c.effects.all c.in-Some.e = search rules in
    rw put (effects_end (effect_by limited c.args.depth) c.effects.all c.effects.rest.now _ _ _ c.effects.invariant read (effect_shorter _ _ _ _ read) none)

pub effects-preserved : goal.effects-preserved
effects-preserved c =
    let read : effect_by limited c.args.depth c.effects.rest.now ≡ Some (c.in-Some.e, c.in-Some.after.now) = search rules in
    let next : after_comma c.in-Some.after.now ≡ Some c.in-Some-after_comma.next.now = search rules in
    let less : length c.in-Some-after_comma.next.now < length c.effects.rest.now = omega (arith, effect_shorter _ _ _ _ read, comma_shorter _ _ next) in
    let put : c.in_ok-all.all ≡ put_effect c.effects.all c.in-Some.e = search rules in
    rw put (effects_more (effect_by limited c.args.depth) c.effects.all c.effects.rest.now _ _ _ _ c.effects.invariant read less next)
