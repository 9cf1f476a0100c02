use Rattle.std.proofs.Common.{ℕ, ◌-◌, List, [], ◌∷◌, ◌++◌, refl, sym, subst, arith}
use Rattle.mas_explore_tables.specs.Histories.{LeadsBack}
use Rattle.mas_explore_tables.proofs.Links.{linked_below, back_on}
use Rattle.mas_explore_tables.proofs.history.way_to.Goals as goal

pub loop-at-smaller : goal.loop-at-smaller
loop-at-smaller g c =
    let b = linked_below c.args.roots c.args.links.now (c.loop-at.at - c.args.roots) c.in-Some.link.now c.requires.linked (sym c.in-Some.ensures) in
    let t = c.loop-at-test.true in
    omega arith

pub loop-at-preserved : goal.loop-at-preserved
loop-at-preserved g c =
    let b = linked_below c.args.roots c.args.links.now (c.loop-at.at - c.args.roots) c.in-Some.link.now c.requires.linked (sym c.in-Some.ensures) in
    let t = c.loop-at-test.true in
    let w = c.loop-at.invariant.within in
    let P = λ (places : List ℕ). LeadsBack c.args.roots c.args.links.now c.args.n places c.in-Some.link.now.from in
    record {
      within = omega arith;
      leads = subst P (sym c.in_ok-push.ensures.ok)
          (back_on c.args.roots c.args.links.now c.args.n c.loop-at.places c.loop-at.at (c.loop-at.at - c.args.roots) c.in-Some.link.now.from c.loop-at.invariant.leads
          (record { number = omega arith; link = c.in-Some.link.now; at = sym c.in-Some.ensures; from_is = refl }));
    }
