use Rattle.std.proofs.Common.{rules, ◌∙◌}
use Rattle.asl_index_tables.proofs.Groups.{place_out, place_none}
use Rattle.asl_index_tables.proofs.frames.take_place.Goals as goal

pub returns-in-Some : goal.returns-in-Some
returns-in-Some c = c.remove.ensures.rest ∙ place_out c.in-Some.k c.args.place c.args.places.now (search rules)

pub returns-in-None : goal.returns-in-None
returns-in-None c = place_none 0 c.args.place c.args.places.now (search rules)
