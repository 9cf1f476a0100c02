use Rattle.std.proofs.Common.{ℕ, ◌≡◌, List, slice_get, Some, true, ap, sym, ◌∙◌, subst}
use Rattle.std.proofs.lemmas.Option.{none-some, same_Some}
use Rattle.std.specs.Option.{option_copied}
use Rattle.asl_term.specs.Exprs.{is_ground_literal}
use Rattle.mas_mind.specs.declared.mind.Feedback.{Feedback}
use Rattle.mas_world.specs.Worlds.{World}
use Rattle.mas_explore_tables.specs.declared.history.Link.{Link}
use Rattle.mas_explore_worlds.specs.declared.worlds.Doing.{Doing}
use Rattle.mas_explore_worlds.specs.Worlds.{done_on}
use Rattle.mas_explore_worlds.proofs.Fitting.{StandsAt, goes_on, stands_first}
use Rattle.mas_explore_worlds.proofs.worlds.world_of.Goals as goal

pub loop-place-init : goal.loop-place-init
loop-place-init g c =
    stands_first (g.F.FreshWorld.agents c.args.fresh.now) (g.F.FreshWorld.start c.args.fresh.now) c.args.worlds.now c.args.n c.in_ok-way.way.root c.in_ok-way.way.places c.in_ok-world.world c.in_ok-way.ensures.root c.in_ok-way.ensures.leads c.in_ok-world.ensures

pub unreachable-requires : goal.unreachable-requires
unreachable-requires g c =
    let go = goes_on (g.F.FreshWorld.agents c.args.fresh.now) (g.F.FreshWorld.start c.args.fresh.now) c.args.worlds.now c.args.n c.loop-place.places c.pop.new.self c.in-Some.place c.loop-place.world c.requires.fits c.loop-place.invariant c.in-Some.ensures.items in
    none-some go.link (sym (ap option_copied c.in_default-at.is) ∙ c.at.ensures ∙ go.at)

pub do_once-requires : goal.do_once-requires
do_once-requires g c =
    let go = goes_on (g.F.FreshWorld.agents c.args.fresh.now) (g.F.FreshWorld.start c.args.fresh.now) c.args.worlds.now c.args.n c.loop-place.places c.pop.new.self c.in-Some.place c.loop-place.world c.requires.fits c.loop-place.invariant c.in-Some.ensures.items in
    let e : go.link ≡ c.in-Some-at.link.now = same_Some go.link c.in-Some-at.link.now (sym go.at ∙ sym c.in-Some-at.ensures) in
    let P = λ (l : Link Doing). is_ground_literal l.what.action ≡ true in
    subst P e go.ground

pub loop-place-preserved : goal.loop-place-preserved
loop-place-preserved g c =
    let agents = g.F.FreshWorld.agents c.args.fresh.now in
    let go = goes_on (g.F.FreshWorld.agents c.args.fresh.now) (g.F.FreshWorld.start c.args.fresh.now) c.args.worlds.now c.args.n c.loop-place.places c.pop.new.self c.in-Some.place c.loop-place.world c.requires.fits c.loop-place.invariant c.in-Some.ensures.items in
    let e : go.link ≡ c.in-Some-at.link.now = same_Some go.link c.in-Some-at.link.now (sym go.at ∙ sym c.in-Some-at.ensures) in
    let S = λ (w : World). StandsAt (g.F.FreshWorld.agents c.args.fresh.now) (g.F.FreshWorld.start c.args.fresh.now) c.args.worlds.now c.args.n c.pop.new.self w in
    let P = λ (l : Link Doing). S (done_on agents c.loop-place.world l.what) in
    let names = ap (λ (n : List (List ℕ)). done_on n c.loop-place.world c.in-Some-at.link.now.what) c.names.ensures in
    let new : c.do_once.new.world ≡ done_on agents c.loop-place.world c.in-Some-at.link.now.what = ap (λ (p : Feedback × World). p.1) c.in_ok-do_once.ensures.acted ∙ names in
    subst S (sym new) (subst P e go.after)
