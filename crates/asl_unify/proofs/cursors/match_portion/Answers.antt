use Rattle.std.proofs.Common.{rules, ◌≡◌, [], ◌++◌, Some, subst, sym}
use Rattle.std.specs.List.{AllByRecursion}
use Rattle.asl_unify.specs.Compare.{asks}
use Rattle.asl_unify.specs.Cursors.{annots_left}
use Rattle.asl_unify.specs.Matches.{agreed}
use Rattle.asl_unify.specs.Puts.{Extends}
use Rattle.asl_unify.specs.Unified.{unified}
use Rattle.asl_unify.proofs.Portions.{portion_extends}
use Rattle.asl_unify.proofs.cursors.match_portion.Goals as goal

pub all_behind-requires : goal.all_behind-requires
all_behind-requires c =
    let p = c.args.p.now in
    let q = c.args.q.now in
    let s = c.args.s.now in
    let hits = c.in_ok-hits.hits in
    let first = c.in-Some.first in
    let is : Some first ≡ agreed (unified s (asks p.args q.args [])) = search rules in
    let value : hits.found ++ annots_left p.annots q.annots first hits.rest ≡ annots_left p.annots q.annots first c.args.at.now = search rules in
    subst (AllByRecursion (Extends s)) (sym c.as_slice-5.ensures) (portion_extends p q s first is hits.found hits.rest c.args.at.now value
    c.in_ok-first.ensures.sound)
