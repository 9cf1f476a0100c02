use Rattle.std.proofs.Common.{◌≡◌, ◌∙◌, List, ap, sym}
use Rattle.std.specs.List.{list_any}
use Rattle.std.specs.Str.{bytes_eq}
use Rattle.mas_explore.specs.declared.listing.Shown.{Shown}
use Rattle.mas_explore.specs.Listings.{IsShown}
use Rattle.mas_explore.proofs.Lists.{if_some, now_listed, was_listed}
use Rattle.mas_explore.proofs.explore.list_one.Goals as goal

pub returns-then-is_listed : goal.returns-then-is_listed
returns-then-is_listed g c =
    let text = c.in_ok-text.text in
    let found = ap (λ (xs : List Shown). list_any (λ (e : Shown). bytes_eq e.text text) xs) c.as_slice.ensures in
    was_listed g.M.Mind.kind c.args.view (g.R.Runs.start c.args.runs.now) (g.S.Space.met c.args.space.now) c.args.state c.args.list.now c.requires.sound text c.in_ok-text.ensures
    (sym (c.is_listed.ensures ∙ found) ∙ c.if-is_listed.true)

pub returns : goal.returns
returns g c =
    let s = g.R.Runs.start c.args.runs.now in
    let shown = if_some (IsShown g.M.Mind.kind c.args.view s) c.in_ok-shown.field-0 c.in-Some.shown c.in-Some.is c.in_ok-shown.ensures.shown in
    let text = c.in_ok-text.text in
    let same = if_some (λ (e : Shown). e.text ≡ text) c.in_ok-shown.field-0 c.in-Some.shown c.in-Some.is c.in_ok-shown.ensures.same in
    let found = ap (λ (xs : List Shown). list_any (λ (e : Shown). bytes_eq e.text text) xs) c.as_slice.ensures in
    now_listed g.M.Mind.kind c.args.view s (g.S.Space.met c.args.space.now) c.args.state c.args.list.now c.requires.sound text c.in-Some.shown c.push.new.self
    c.in_ok-text.ensures shown same (sym (c.is_listed.ensures ∙ found) ∙ c.if-is_listed.false) c.in_ok-push.ensures.ok
