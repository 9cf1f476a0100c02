use Rattle.std.proofs.Common.{List, [], sym, subst}
use Rattle.asl_term.specs.declared.syntax.LiteralOf.{LiteralOf}
use Rattle.asl_term.specs.declared.syntax.Term.{Term}
use Rattle.mas_world.proofs.Sights.{Seeing, seeing_begins, agrees, seeing_more, all_seen}
use Rattle.mas_world.proofs.shown.first_seen.Goals as goal

pub loop-l-init : goal.loop-l-init
loop-l-init c =
    let S : List (LiteralOf Term) → Type 0 = λ s. Seeing c.args.hidden.now c.args.agent.now c.args.ls.now 0 s c.new-told.result in
    let T : List (LiteralOf Term) → Type 0 = λ t. Seeing c.args.hidden.now c.args.agent.now c.args.ls.now 0 [] t in
    subst S (sym c.new-seen.ensures) (subst T (sym c.new-told.ensures) (seeing_begins c.args.hidden.now c.args.agent.now c.args.ls.now))

pub loop-l-preserved : goal.loop-l-preserved
loop-l-preserved c =
    seeing_more c.args.hidden.now c.args.agent.now c.args.ls.now c.loop-l.l-index c.loop-l.seen c.loop-l.told c.l-item.result c.loop-l-test.true c.l-item.is c.loop-l.invariant
    c.see_fresh.new.seen c.see_fresh.new.told c.requires c.in_ok-see_fresh.ensures.seen c.in_ok-see_fresh.ensures.agree

pub see_fresh-requires : goal.see_fresh-requires
see_fresh-requires c =
    agrees c.args.hidden.now c.args.agent.now c.args.ls.now c.loop-l.l-index c.loop-l.seen c.loop-l.told c.l-item.result c.loop-l-test.true c.l-item.is c.loop-l.invariant

pub returns : goal.returns
returns c = all_seen c.args.hidden.now c.args.agent.now c.args.ls.now c.loop-l.l-index c.loop-l.seen c.loop-l.told c.loop-l-test.false c.loop-l.invariant
