use Rattle.std.proofs.Common.{ap, ◌∙◌, reverse}
use Rattle.std.proofs.lemmas.List.{reverse-reverse}
use Rattle.mas_record_rounds.specs.Dealing.{all_of}
use Rattle.mas_record_rounds.proofs.Dealings.{parting_first, parting_more, parting_last, next_share, room_in, none_left, last_tickets, last_minds}
use Rattle.mas_record_rounds.proofs.dealing.part.Goals as goal

pub loop-share-init : goal.loop-share-init
loop-share-init g c =
    parting_first _ _ _ _ (ap (λ l. all_of (reverse l)) c.reverse.ensures ∙ ap all_of (reverse-reverse _ ∙ c.from_vec-left.ensures)) c.requires.tickets.room_for
    c.requires.minds.room_for

pub part_one-requires-clause-tickets : goal.part_one-requires-clause-tickets
part_one-requires-clause-tickets g c κs within = (room_in _ _ _ _ _ _ _ _ c.loop-share.invariant (next_share _ _ _ c.in-Some.ensures.items)).0

pub part_one-requires-clause-minds : goal.part_one-requires-clause-minds
part_one-requires-clause-minds g c κs within = (room_in _ _ _ _ _ _ _ _ c.loop-share.invariant (next_share _ _ _ c.in-Some.ensures.items)).1

pub loop-share-preserved : goal.loop-share-preserved
loop-share-preserved g c = parting_more _ _ _ _ _ _ _ _ _ _ c.loop-share.invariant (next_share _ _ _ c.in-Some.ensures.items) c.part_one.ensures

pub returns-clause-tickets : goal.returns-clause-tickets
returns-clause-tickets g c =
    c.into_seq.ensures ∙ last_tickets _ _ _ _ _ (parting_last _ _ _ _ _ _ c.loop-share.invariant (ap (λ l. all_of (reverse l)) (none_left c.loop-share.left _ c.pop.ensures.value c.in_default.is))) c.requires.tickets.empty

pub returns-clause-minds : goal.returns-clause-minds
returns-clause-minds g c =
    c.into_seq-2.ensures ∙ last_minds _ _ _ _ _ (parting_last _ _ _ _ _ _ c.loop-share.invariant (ap (λ l. all_of (reverse l)) (none_left c.loop-share.left _ c.pop.ensures.value c.in_default.is))) c.requires.minds.empty
