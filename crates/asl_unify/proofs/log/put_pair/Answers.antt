use Rattle.std.proofs.Common.{◌≡◌, ◌<◌, [], ◌∷◌, ◌++◌, length, set, refl, sym, ap, ◌∙◌, arith, Some}
use Rattle.std.specs.List.{slice_get}
use Rattle.std.proofs.lemmas.List.{get_or_read}
use Rattle.std.proofs.lemmas.Option.{slice_get_read, slice_get_within}
use Rattle.asl_unify.specs.inner.Slots.{slot}
use Rattle.asl_unify.proofs.Logged.{put_pair}
use Rattle.asl_unify.proofs.log.put_pair.Goals as goal

pub returns : goal.returns
returns c =
    let log = c.args.all.now in
    let t = c.args.index.now in
    let s = c.index-all-k.result in
    let p = c.index-pairs-i.result in
    let there = c.requires.there in
    let is : slice_get log c.args.k ≡ Some s =
    slice_get_read log (length log) c.args.k s refl (slice_get_within log c.args.k there.0 there.1) c.index-all-k.is in
    let one : there.0 ≡ s = (let both = sym there.1 ∙ is in cc) in
    let many = ap length one in
    let lt : c.args.i < length s = omega (arith, there.2, many) in
    let pairs = ap length c.pairs.ensures.value in
    let at_p : slice_get s c.args.i ≡ Some p =
    sym (ap (λ l. slice_get l c.args.i) c.pairs.ensures.value)
    ∙ slice_get_read c.pairs.result.now (length c.pairs.result.now) c.args.i p refl (omega (arith, lt, pairs)) c.index-pairs-i.is in
    let last = t.slots.last.items in
    let before = t.slots.before.items in
    let place = c.slot-place.result in
    let slots : c.len.result ≡ length last = omega (arith, c.len.ensures, t.slots.last.ok.0) in
    let within : place < length last = omega (arith, c.slot-place.ensures.within, slots) in
    let all : c.len-2.result ≡ length c.push-2.new.self.items = omega (arith, c.len-2.ensures, c.push-2.new.self.ok.0) in
    put_pair log c.args.k c.args.i place s p last before (set last place c.len-2.result) c.push.new.self.items t.of.items c.push-2.new.self.items
    is at_p lt (c.slot-place.ensures.value ∙ ap (λ n. slot n p.var) slots) within (ap (set last place) all)
    (c.in_ok-push.ensures.items ∙ ap (λ v. before ++ v ∷ []) (get_or_read last place c.index.result.now within c.index.ensures 0))
    c.in_ok-push-2.ensures.items c.requires.indexed
