use Rattle.std.proofs.Common.{◌+◌, sym, ◌∙◌, arith}
use Rattle.asl_index.proofs.Forgetting.{forgot_start, forgot_kept, forgot_lost, forgot_at, lost_sound}
use Rattle.asl_index.proofs.updating.forget.Goals as goal
use Rattle.asl_index.proofs.updating.forget.Goals.{then-is_unseen+in_ok-lose_at+in_ok-push, else-is_unseen}

pub loop-k-init : goal.loop-k-init
loop-k-init c = forgot_start c.args.percepts.now c.args.store.now c.args.store.now c.requires.sound c.new-events.result c.new-events.ensures

pub loop-k-preserved : goal.loop-k-preserved
loop-k-preserved c =
    let ps = c.args.percepts.now in
    let first = c.args.store.now in
    let s = c.loop-k.store in
    let k = c.loop-k.k in
    let events = c.loop-k.events in
    elim c.if-is_unseen.branch [
      | then-is_unseen+in_ok-lose_at+in_ok-push w ↦ forgot_at ps first (k + 1) w.lose_at.new.store c.if-is_unseen.store w.push.new.self c.if-is_unseen.events w.store-is w.events-is
          (forgot_lost ps first s k events w.push.new.self w.lose_at.new.store w.in_ok-lose_at.field-0 c.args.marks.now c.loop-k.invariant
          (sym c.is_unseen.ensures ∙ w.if-is_unseen.true) c.requires.mark w.in_ok-lose_at.ensures.slots w.in_ok-lose_at.ensures.event w.in_ok-push.ensures.ok)
      | else-is_unseen w ↦ forgot_at ps first (k + 1) s c.if-is_unseen.store events c.if-is_unseen.events w.store-is w.events-is
          (forgot_kept ps first s k events c.loop-k.invariant (omega (arith, c.loop-k-test.true, c.len-k-end.ensures)) (sym c.is_unseen.ensures ∙ w.if-is_unseen.false))
    ]

pub returns-in_err-push-clause-sound : goal.returns-in_err-push-clause-sound
returns-in_err-push-clause-sound c =
    lost_sound c.args.percepts.now c.loop-k.store c.lose_at.new.store c.loop-k.k c.args.marks.now c.loop-k.invariant.sound
    (sym c.is_unseen.ensures ∙ c.if-is_unseen.true) c.in_ok-lose_at.ensures.slots
