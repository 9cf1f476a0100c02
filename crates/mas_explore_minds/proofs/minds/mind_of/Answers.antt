use Rattle.std.proofs.Common.{ℕ, ◌≡◌, ◌+◌, ◌-◌, length, slice_get, Some, arith, refl, ap, sym, ◌∙◌, subst}
use Rattle.std.proofs.lemmas.Option.{none-some, same_Some}
use Rattle.std.specs.Option.{option_copied}
use Rattle.mas_explore_tables.specs.Histories.{LeadsBack}
use Rattle.mas_explore_tables.specs.declared.history.Link.{Link}
use Rattle.mas_explore_minds.specs.declared.heard.Heard.{Heard}
use Rattle.mas_explore_minds.specs.Minds.{May, heard}
use Rattle.mas_explore_minds.proofs.Fitting.{StandsAt, goes_on, stands_first}
use Rattle.mas_explore_minds.proofs.minds.mind_of.Goals as goal

pub loop-place-init : goal.loop-place-init
loop-place-init g c =
    let first = g.F.Fresh.first c.args.fresh.now in
    let s = c.args.minds.now in
    let L = λ (r : ℕ). LeadsBack r s.links c.args.n c.in_ok-way.way.places c.in_ok-way.way.root in
    let A = λ (i : ℕ). slice_get first i ≡ Some c.in_ok-mind.mind in
    let e : c.in_ok-way.way.root + 1 - 1 ≡ c.in_ok-way.way.root = omega arith in
    stands_first g.M.Mind.kind first s c.args.n c.in_ok-way.way.root c.in_ok-way.way.places c.in_ok-mind.mind
    (subst L c.agents-agents.ensures c.in_ok-way.ensures.leads) (subst A e c.in_ok-mind.ensures)

pub unreachable-requires : goal.unreachable-requires
unreachable-requires g c =
    let go = goes_on g.M.Mind.kind (g.F.Fresh.first c.args.fresh.now) c.args.minds.now c.args.n c.loop-place.places c.pop.new.self c.in-Some.place c.loop-place.mind c.requires.fits c.loop-place.invariant
    c.in-Some.ensures.items in
    none-some go.link (sym (ap option_copied c.in_default-at.is) ∙ c.at.ensures ∙ go.at)

pub hear-requires : goal.hear-requires
hear-requires g c =
    let s = c.args.minds.now in
    let go = goes_on g.M.Mind.kind (g.F.Fresh.first c.args.fresh.now) s c.args.n c.loop-place.places c.pop.new.self c.in-Some.place c.loop-place.mind c.requires.fits c.loop-place.invariant
    c.in-Some.ensures.items in
    let e : go.link ≡ c.in-Some-at.link.now = same_Some go.link c.in-Some-at.link.now (sym go.at ∙ sym c.in-Some-at.ensures) in
    let P = λ (l : Link Heard). May g.M.Mind.kind s.sights s.boxes c.loop-place.mind l.what in
    subst P e go.may

pub loop-place-preserved : goal.loop-place-preserved
loop-place-preserved g c =
    let k = g.M.Mind.kind in
    let first = g.F.Fresh.first c.args.fresh.now in
    let s = c.args.minds.now in
    let go = goes_on k first s c.args.n c.loop-place.places c.pop.new.self c.in-Some.place c.loop-place.mind c.requires.fits c.loop-place.invariant c.in-Some.ensures.items in
    let e : go.link ≡ c.in-Some-at.link.now = same_Some go.link c.in-Some-at.link.now (sym go.at ∙ sym c.in-Some-at.ensures) in
    let P = λ (l : Link Heard). StandsAt k first s c.args.n c.pop.new.self (heard k s.sights s.boxes c.loop-place.mind l.what) in
    let Q = λ (m : g.row.M.Denot). StandsAt k first s c.args.n c.pop.new.self m in
    subst Q (sym c.in_ok-hear.ensures) (subst P e go.after)
