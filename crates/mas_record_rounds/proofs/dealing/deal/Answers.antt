use Rattle.std.proofs.Common.{ap, ◌∙◌}
use Rattle.mas_record_rounds.specs.Dealing.{all_of}
use Rattle.mas_record_rounds.proofs.Dealings.{deal_first, waits_more, place_of, room_more, deal_more, deal_last, none_left}
use Rattle.mas_record_rounds.proofs.dealing.deal.Goals as goal

pub loop-ticket-init : goal.loop-ticket-init
loop-ticket-init g c = deal_first _ _ _ _ _ c.requires.room c.requires.count c.requires.places c.reverse.ensures c.reverse-2.ensures

pub unreachable-requires : goal.unreachable-requires
unreachable-requires g c = waits_more _ _ _ _ _ _ _ c.loop-ticket.invariant c.in-Some.ensures.items (none_left _ _ c.pop-in-Some.ensures.value c.in_default-pop.is)

pub share_of-requires-clause-place : goal.share_of-requires-clause-place
share_of-requires-clause-place g c κs within = place_of _ _ _ _ _ _ _ c.loop-ticket.invariant c.in-Some-pop.ensures.items

pub put-requires : goal.put-requires
put-requires g c = room_more _ _ _ _ _ _ _ c.loop-ticket.invariant c.in-Some.ensures.items

pub loop-ticket-preserved : goal.loop-ticket-preserved
loop-ticket-preserved g c =
    deal_more _ _ _ _ _ _ _ _ _ _ _ c.loop-ticket.invariant c.in-Some.ensures.items c.in-Some-pop.ensures.items c.share_of.ensures c.put.ensures.list c.put.ensures.room

pub returns : goal.returns
returns g c =
    ap all_of (c.into_vec.ensures ∙ c.into_seq.ensures)
    ∙ deal_last _ _ _ _ c.loop-ticket.shares c.loop-ticket.invariant (none_left c.loop-ticket.tickets _ c.pop.ensures.value c.in_default.is)
