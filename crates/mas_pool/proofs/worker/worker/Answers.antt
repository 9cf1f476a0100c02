use Rattle.std.proofs.Common.{List, ◌∷◌, ◌++◌, [], sym, ap, ◌∙◌, subst}
use Rattle.asl_term.specs.Spare.{WithSpare}
use Rattle.mas_pool_ready.specs.declared.rule.ReadyView.{ReadyView}
use Rattle.mas_pool_ready.specs.Rule.{CameOf}
use Rattle.mas_pool_ready.specs.Passes.{known}
use Rattle.mas_pool_task.specs.declared.going.Going.{Going}
use Rattle.mas_pool_task.specs.Goings.{Became}
use Rattle.mas_pool.specs.Workers.{PassOf, AreAt, number_of}
use Rattle.mas_pool.proofs.Workers.{taken_seat, goes_back, has_ended, work_kept, room_kept}
use Rattle.mas_pool.proofs.worker.worker.Goals as goal

pub cycle-requires-clause-seat : goal.cycle-requires-clause-seat
cycle-requires-clause-seat g c κs within =
    let home = subst (AreAt c.args.baton.now) (sym c.loop.invariant.2.first) c.requires.home in
    taken_seat g.M.Mind.kind c.args.baton.now (known c.loop.pass).first c.in-Some-take.going home c.in-Some-take.ensures.taken.came

pub put-requires-clause-came : goal.put-requires-clause-came
put-requires-clause-came g c =
    let t = c.in-Some-take.ensures.taken in
    let first = ap (λ (v : ReadyView (Going g.row.M.Denot g.row.A.Denot)). v.first) t.is in
    subst (λ (l : List (Going g.row.M.Denot g.row.A.Denot)). CameOf number_of (Became g.M.Mind.kind) l c.cycle.new.going) (sym first)
    (goes_back g.M.Mind.kind (known c.loop.pass).first c.in-Some-take.going c.cycle.new.going t.came c.if-cycle.ensures.went)

pub loop-preserved : goal.loop-preserved
loop-preserved g c =
    let t = c.in-Some-take.ensures.taken in
    let i = c.in-Some-take.ensures.pass in
    let same = c.in-Some-take.ensures.kept in
    let w = c.if-cycle.ensures.went in
    let now = c.loop.pass in
    let q : PassOf g.row.M.Denot g.row.A.Denot = record { ticket = c.take.new.pass.ticket; kept = c.keep.new.kept } in
    let h = c.cycle.new.going in (
      record { ticket = i.ticket; part = i.part },
      room_kept g.M.Mind.kind now q c.in-Some-take.going c.loop.invariant.1 t (c.keep.ensures.room ∙ ap (λ (r : WithSpare (Going g.row.M.Denot g.row.A.Denot)). r.spare) same),
      work_kept g.M.Mind.kind c.args.pass.now now q c.in-Some-take.going h c.loop.invariant.2 t w.same.number
          (c.keep.ensures.list ∙ ap (λ (r : WithSpare (Going g.row.M.Denot g.row.A.Denot)). r.list ++ h ∷ []) same)
          (has_ended g.M.Mind.kind (known now).first c.in-Some-take.going h t.came w),
    )
