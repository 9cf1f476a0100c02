use Rattle.std.proofs.Common.{rules, arith, refl, sym, ap, subst, ◌∙◌, ◌≡◌, ◌+◌, ◌++◌, [], ◌∷◌, List, vec_len, ℕ}
use Rattle.std.specs.List.{AllByRecursion}
use Rattle.asl_term.specs.Trees.{capped}
use Rattle.asl_unify.specs.Compare.{ask, step, Go}
use Rattle.asl_unify.specs.inner.Views.{seen, fresh_pairs, asked}
use Rattle.asl_unify.specs.inner.Repeats.{under, Passes, IsKnown, Kept}
use Rattle.asl_unify.specs.declared.subst.Pair.{Pair}
use Rattle.asl_unify.proofs.Loop.{at_some, sound-step}
use Rattle.asl_unify.proofs.Repeats.{led_start, kept_start, led_recall, kept_recall, led_stop, led_advance, led_back, less_advance, kept_advance}
use Rattle.asl_unify.proofs.rounds.long_round.Goals as goal

pub pairs-init : goal.pairs-init
pairs-init c =
    let s = c.args.old.now ++ fresh_pairs c.args.fresh.now.items in
    let w = asked c.args.work.now.items [] in
    record {
      sound = c.requires;
      leads = led_start w s c.args.count.now c.new-begun.result.items c.new-begun.ensures.items;
      kept = kept_start s c.new-begun.result.items c.new-known.result.items w c.args.count.now c.new-begun.ensures.items c.new-known.ensures.items (search (rules, arith));
      start = search rules;
      still = refl;
      same = refl;
    }

pub pairs-preserved-in-Some-recall : goal.pairs-preserved-in-Some-recall
pairs-preserved-in-Some-recall c =
    let s0 = c.args.old.now ++ fresh_pairs c.args.fresh.now.items in
    let w0 = asked c.args.work.now.items [] in
    let n0 = c.args.count.now in
    let s = c.args.old.now ++ fresh_pairs c.pairs.fresh.items in
    let n = c.pairs.count in
    let w = asked c.pairs.work.items [] in
    let u = under c.pairs.begun.items [] in
    let q = ask (seen c.in-Some.q.left) (seen c.in-Some.q.right) in
    let m = asked c.next.new.work.items [] in
    let is : w ≡ q ∷ m = at_some (w ≡ []) (λ p. w ≡ ask (seen p.left) (seen p.right) ∷ m) c.in_ok-q.field-0 c.in-Some.q c.in_ok-q.ensures.asks (search rules) in
    let d = c.in-Some-recall.pairs in
    let k = c.saturating_add.result in
    let p : Passes s n (q ∷ []) d [] = at_some (Unit {0}) (λ e. (z : List Pair) (j : ℕ) → AllByRecursion (IsKnown z j) c.as_slice.result.now → Passes z j (q ∷ []) e []) c.recall.result d
    c.recall.ensures (search rules) s n (subst (AllByRecursion (IsKnown s n)) (sym c.as_slice.ensures.value) c.pairs.invariant.kept.finished) in
    let e : k ≡ capped (n + d) = search rules in
    record {
      sound = c.pairs.invariant.sound;
      leads = led_recall w0 s0 n0 s n w u c.pairs.invariant.leads q m is d k p c.pairs.invariant.kept.fits e;
      kept = kept_recall s c.pairs.begun.items c.pairs.known.items q m n k d p e (subst (λ z. Kept s c.pairs.begun.items c.pairs.known.items z n) is c.pairs.invariant.kept);
      start = c.pairs.invariant.start;
      still = c.pairs.invariant.still;
      same = c.pairs.invariant.same;
    }

pub returns-in-Err-clause-fault : goal.returns-in-Err-clause-fault
returns-in-Err-clause-fault c =
    let s0 = c.args.old.now ++ fresh_pairs c.args.fresh.now.items in
    let w0 = asked c.args.work.now.items [] in
    let n0 = c.args.count.now in
    let s = c.args.old.now ++ fresh_pairs c.pairs.fresh.items in
    let n = c.pairs.count in
    let w = asked c.pairs.work.items [] in
    let u = under c.pairs.begun.items [] in
    let q = ask (seen c.in-Some.q.left) (seen c.in-Some.q.right) in
    let m = asked c.next.new.work.items [] in
    let is : w ≡ q ∷ m = at_some (w ≡ []) (λ p. w ≡ ask (seen p.left) (seen p.right) ∷ m) c.in_ok-q.field-0 c.in-Some.q c.in_ok-q.ensures.asks (search rules) in
    let x = asked c.begin.new.work.items [] in
    let v = under c.begin.new.begun.items [] in
    let same : x ++ v ≡ m ++ u = c.in_ok-begin.ensures.same in
    led_stop w0 s0 n0 s n w u c.pairs.invariant.leads q m is x v same c.in-Err.fault c.in-Err.ensures.fault

pub returns-then-len-start-clause-sound : goal.returns-then-len-start-clause-sound
returns-then-len-start-clause-sound c =
    let s = c.args.old.now ++ fresh_pairs c.pairs.fresh.items in
    let n = c.pairs.count in
    let q = ask (seen c.in-Some.q.left) (seen c.in-Some.q.right) in
    let x = asked c.begin.new.work.items [] in
    let y = asked c.advance.new.work.items [] in
    let t = c.args.old.now ++ fresh_pairs c.advance.new.fresh.items in
    let k = c.advance.new.count in
    let g : step q x s n ≡ Go y t k = c.in-Ok.ensures.ok in
    sound-step s t n k x y q c.pairs.invariant.sound g

pub returns-then-len-start-clause-leads : goal.returns-then-len-start-clause-leads
returns-then-len-start-clause-leads c =
    let s0 = c.args.old.now ++ fresh_pairs c.args.fresh.now.items in
    let w0 = asked c.args.work.now.items [] in
    let n0 = c.args.count.now in
    let s = c.args.old.now ++ fresh_pairs c.pairs.fresh.items in
    let n = c.pairs.count in
    let w = asked c.pairs.work.items [] in
    let u = under c.pairs.begun.items [] in
    let q = ask (seen c.in-Some.q.left) (seen c.in-Some.q.right) in
    let m = asked c.next.new.work.items [] in
    let is : w ≡ q ∷ m = at_some (w ≡ []) (λ p. w ≡ ask (seen p.left) (seen p.right) ∷ m) c.in_ok-q.field-0 c.in-Some.q c.in_ok-q.ensures.asks (search rules) in
    let x = asked c.begin.new.work.items [] in
    let v = under c.begin.new.begun.items [] in
    let same : x ++ v ≡ m ++ u = c.in_ok-begin.ensures.same in
    let y = asked c.advance.new.work.items [] in
    let t = c.args.old.now ++ fresh_pairs c.advance.new.fresh.items in
    let k = c.advance.new.count in
    let g : step q x s n ≡ Go y t k = c.in-Ok.ensures.ok in
    led_back w0 s0 n0 s n w u c.pairs.invariant.leads q m is x v same y t k g (asked c.put_back.new.work.items []) (search rules)

pub pairs-smaller : goal.pairs-smaller
pairs-smaller c =
    let s0 = c.args.old.now ++ fresh_pairs c.args.fresh.now.items in
    let w0 = asked c.args.work.now.items [] in
    let n0 = c.args.count.now in
    let s = c.args.old.now ++ fresh_pairs c.pairs.fresh.items in
    let n = c.pairs.count in
    let w = asked c.pairs.work.items [] in
    let u = under c.pairs.begun.items [] in
    let q = ask (seen c.in-Some.q.left) (seen c.in-Some.q.right) in
    let m = asked c.next.new.work.items [] in
    let is : w ≡ q ∷ m = at_some (w ≡ []) (λ p. w ≡ ask (seen p.left) (seen p.right) ∷ m) c.in_ok-q.field-0 c.in-Some.q c.in_ok-q.ensures.asks (search rules) in
    let x = asked c.begin.new.work.items [] in
    let v = under c.begin.new.begun.items [] in
    let same : x ++ v ≡ m ++ u = c.in_ok-begin.ensures.same in
    let y = asked c.advance.new.work.items [] in
    let t = c.args.old.now ++ fresh_pairs c.advance.new.fresh.items in
    let k = c.advance.new.count in
    let g : step q x s n ≡ Go y t k = c.in-Ok.ensures.ok in
    let e : vec_len c.advance.new.fresh ≡ vec_len c.pairs.fresh = omega (arith, c.in-Ok.ensures.grows, c.pairs.invariant.start, c.pairs.invariant.still, c.len.ensures, c.if-len-start.false) in
    let f = ap (λ z. c.args.old.now ++ fresh_pairs z) (c.in-Ok.ensures.kept e) in
    let less = less_advance w0 s0 n0 s n w u c.pairs.invariant.leads q m is x v same y t k g c.pairs.invariant.sound f in
    let more = c.in_ok-begin.ensures.more in
    omega (arith, less, more)

pub pairs-preserved : goal.pairs-preserved
pairs-preserved c =
    let s0 = c.args.old.now ++ fresh_pairs c.args.fresh.now.items in
    let w0 = asked c.args.work.now.items [] in
    let n0 = c.args.count.now in
    let s = c.args.old.now ++ fresh_pairs c.pairs.fresh.items in
    let n = c.pairs.count in
    let w = asked c.pairs.work.items [] in
    let u = under c.pairs.begun.items [] in
    let q = ask (seen c.in-Some.q.left) (seen c.in-Some.q.right) in
    let m = asked c.next.new.work.items [] in
    let is : w ≡ q ∷ m = at_some (w ≡ []) (λ p. w ≡ ask (seen p.left) (seen p.right) ∷ m) c.in_ok-q.field-0 c.in-Some.q c.in_ok-q.ensures.asks (search rules) in
    let x = asked c.begin.new.work.items [] in
    let v = under c.begin.new.begun.items [] in
    let same : x ++ v ≡ m ++ u = c.in_ok-begin.ensures.same in
    let y = asked c.advance.new.work.items [] in
    let t = c.args.old.now ++ fresh_pairs c.advance.new.fresh.items in
    let k = c.advance.new.count in
    let g : step q x s n ≡ Go y t k = c.in-Ok.ensures.ok in
    let e : vec_len c.advance.new.fresh ≡ vec_len c.pairs.fresh = omega (arith, c.in-Ok.ensures.grows, c.pairs.invariant.start, c.pairs.invariant.still, c.len.ensures, c.if-len-start.false) in
    let still = c.in-Ok.ensures.kept e in
    let f = ap (λ z. c.args.old.now ++ fresh_pairs z) still in
    let was = subst (λ z. Kept s c.pairs.begun.items c.pairs.known.items z n) is c.pairs.invariant.kept in
    record {
      sound = sound-step s t n k x y q c.pairs.invariant.sound g;
      leads = led_advance w0 s0 n0 s n w u c.pairs.invariant.leads q m is x v same y t k g;
      kept = kept_advance w0 s0 n0 s n w u c.pairs.invariant.leads q m is x v same y t k g c.begin.new.begun.items c.pairs.known.items f (c.in_ok-begin.ensures.keeps s c.pairs.known.items was);
      start = c.pairs.invariant.start;
      still = e ∙ c.pairs.invariant.still;
      same = still ∙ c.pairs.invariant.same;
    }
