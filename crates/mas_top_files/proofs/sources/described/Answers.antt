use Rattle.std.proofs.Common.{subst}
use Rattle.mas_top_files.specs.Sources.{LineRefused, UnlessMemory, HasWorld}
use Rattle.mas_top_files.proofs.Parts.{then_agents}
use Rattle.mas_top_files.proofs.sources.described.Goals as goal

-- src/sources.rt:112:1
pub returns-in-Err-clause-answer : goal.returns-in-Err-clause-answer
returns-in-Err-clause-answer g c =
    then_agents c.args.known.now (g.S.Shelf.holds c.args.shelf.now) c.args.p.now c.in_ok-world.world
    (g.S.Shelf.faults c.args.shelf.now) (g.S.Shelf.faults c.world_if.new.shelf) (g.S.Shelf.faults c.roles_of.new.shelf) c.in-Err.status
    c.in_ok-world.ensures.later
    (subst (λ name. HasWorld c.args.known.now (g.S.Shelf.holds c.args.shelf.now) name c.in_ok-world.world) c.as_ref.ensures.value c.in_ok-world.ensures.answer)
    (subst (λ held. UnlessMemory (LineRefused held c.args.p.now.agents (g.S.Shelf.faults c.world_if.new.shelf) (g.S.Shelf.faults c.roles_of.new.shelf)) c.in-Err.status)
    c.in_ok-world.ensures.same
    (subst (λ lines. UnlessMemory (LineRefused (g.S.Shelf.holds c.world_if.new.shelf) lines (g.S.Shelf.faults c.world_if.new.shelf)
    (g.S.Shelf.faults c.roles_of.new.shelf)) c.in-Err.status) c.as_slice.ensures c.in-Err.ensures.answer))
