use Rattle.std.proofs.Common.{ap, ◌∙◌, arith}
use Rattle.std.proofs.lemmas.List.{take_all}
use Rattle.asl_index_tables.specs.Slots.{places}
use Rattle.asl_index.specs.Noted.{is_perceived}
use Rattle.asl_index.proofs.Perceiving.{places_next}
use Rattle.asl_index.proofs.noted.marked_places.Goals as goal

pub loop-k-preserved : goal.loop-k-preserved
loop-k-preserved c =
    places_next is_perceived c.args.slots.now c.loop-k.k (omega (arith, c.loop-k-test.true)) c.is_marked-wanted.result c.is_marked-wanted.ensures
    c.loop-k.found c.put_if.new.found c.loop-k.invariant c.in_ok-put_if.ensures

pub returns : goal.returns
returns c =
    c.loop-k.invariant ∙ ap (places is_perceived 0) (take_all c.loop-k.k c.args.slots.now (omega (arith, c.loop-k-test.false)))
