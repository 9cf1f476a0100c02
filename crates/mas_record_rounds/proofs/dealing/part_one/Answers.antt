use Rattle.std.proofs.Common.{ap, ◌∙◌, reverse}
use Rattle.std.proofs.lemmas.List.{reverse-reverse}
use Rattle.mas_record_rounds.proofs.Dealings.{parting_first, parting_more, parting_last, part_one, next_sharer, room_next, none_left}
use Rattle.mas_record_rounds.proofs.dealing.part_one.Goals as goal

pub loop-sharer-init : goal.loop-sharer-init
loop-sharer-init g c = parting_first _ _ _ _ (ap reverse c.reverse.ensures ∙ reverse-reverse _) c.requires.tickets c.requires.minds

pub put-requires : goal.put-requires
put-requires g c = (room_next _ _ _ _ _ _ _ _ c.in-Some.ensures.items c.loop-sharer.invariant).0

pub put-requires-in-Some : goal.put-requires-in-Some
put-requires-in-Some g c = (room_next _ _ _ _ _ _ _ _ c.in-Some.ensures.items c.loop-sharer.invariant).1

pub loop-sharer-preserved : goal.loop-sharer-preserved
loop-sharer-preserved g c =
    parting_more _ _ _ _ _ _ _ _ _ _ c.loop-sharer.invariant (next_sharer _ _ _ c.in-Some.ensures.items)
    (part_one c.in-Some.sharer _ _ _ _ c.put.ensures.list c.put.ensures.room c.put-in-Some.ensures.list c.put-in-Some.ensures.room)

pub returns : goal.returns
returns g c = parting_last _ _ _ _ _ _ c.loop-sharer.invariant (ap reverse (none_left c.loop-sharer.sharers _ c.pop.ensures.value c.in_default.is))
