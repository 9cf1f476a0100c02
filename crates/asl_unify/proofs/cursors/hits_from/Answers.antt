use Rattle.std.proofs.Common.{rules, arith, ◌≡◌, ◌++◌, [], Some, None, length, refl, sym, ap, ◌∙◌}
use Rattle.std.specs.List.{slice_get}
use Rattle.std.proofs.lemmas.Option.{slice_get_past, slice_get_read}
use Rattle.asl_unify.specs.Cursors.{annots_left}
use Rattle.asl_unify.specs.inner.Tries.{pending, places}
use Rattle.asl_unify.proofs.Tries as m
use Rattle.asl_unify.proofs.Portions.{stopped, done_linked, tried_linked}
use Rattle.asl_unify.proofs.cursors.hits_from.Goals as goal

pub turns-init : goal.turns-init
turns-init c = record {
  value = ap (λ z. z ++ pending c.args.patterns.now c.args.held.now c.in_ok-stack.stack.items) c.new-found.ensures ∙ c.in_ok-stack.ensures.left;
  linked = c.in_ok-stack.ensures.linked;
}

pub returns-in_default-clause-value : goal.returns-in_default-clause-value
returns-in_default-clause-value c =
    let a = c.args in
    let none : c.turns.stack.items ≡ [] = search rules in
    ap (λ z. c.turns.found ++ annots_left a.patterns.now a.held.now a.first z) c.new.ensures
    ∙ ap (λ z. c.turns.found ++ pending a.patterns.now a.held.now z) (sym none)
    ∙ c.turns.invariant.value

pub turns-smaller-in_default-get : goal.turns-smaller-in_default-get
turns-smaller-in_default-get c =
    let a = c.args in
    let fs = c.pop.new.self in
    let n : c.len-in-turns.result ≡ length fs.items = omega (arith, c.len-in-turns.ensures, fs.ok.0) in
    let past : slice_get a.patterns.now (length fs.items) ≡ None = slice_get_past a.patterns.now (length fs.items)
    (omega (arith, n, c.in_default-get.ensures.lookup.3)) in
    m.done_turns a.patterns.now a.held.now c.turns.stack.items fs.items c.in-Some.top c.in-Some.ensures.items past

pub turns-preserved-in_default-get : goal.turns-preserved-in_default-get
turns-preserved-in_default-get c =
    let a = c.args in
    let fs = c.pop.new.self in
    let is = c.in-Some.ensures.items in
    let n : c.len-in-turns.result ≡ length fs.items = omega (arith, c.len-in-turns.ensures, fs.ok.0) in
    let past : slice_get a.patterns.now (length fs.items) ≡ None = slice_get_past a.patterns.now (length fs.items)
    (omega (arith, n, c.in_default-get.ensures.lookup.3)) in
    record {
      value = m.done_pending a.patterns.now a.held.now c.turns.stack.items fs.items c.in-Some.top is past c.turns.found c.push.new.self _
          c.in_ok-push.ensures.ok c.turns.invariant.value;
      linked = done_linked a.patterns.now a.held.now (Some a.first) _ c.turns.stack.items fs.items c.in-Some.top is c.turns.invariant.linked.1;
    }

pub turns-smaller : goal.turns-smaller
turns-smaller c =
    let a = c.args in
    let fs = c.pop.new.self in
    let p = c.in-Some-get.p.now in
    let n : c.len-in-turns.result ≡ length fs.items = omega (arith, c.len-in-turns.ensures, fs.ok.0) in
    let at = c.in-Some-get.ensures.lookup in
    let is : slice_get a.patterns.now (length fs.items) ≡ Some p = ap (slice_get a.patterns.now) (sym n)
    ∙ slice_get_read a.patterns.now _ c.len-in-turns.result p refl at.3.0 at.1 in
    m.tried_turns a.patterns.now a.held.now c.turns.stack.items fs.items c.in-Some.top c.in-Some.ensures.items p is c.try_next.new.stack.items
    c.in_ok-try_next.ensures

pub turns-preserved : goal.turns-preserved
turns-preserved c =
    let a = c.args in
    let fs = c.pop.new.self in
    let p = c.in-Some-get.p.now in
    let n : c.len-in-turns.result ≡ length fs.items = omega (arith, c.len-in-turns.ensures, fs.ok.0) in
    let at = c.in-Some-get.ensures.lookup in
    let is : slice_get a.patterns.now (length fs.items) ≡ Some p = ap (slice_get a.patterns.now) (sym n)
    ∙ slice_get_read a.patterns.now _ c.len-in-turns.result p refl at.3.0 at.1 in
    let now = c.try_next.new.stack.items in
    record {
      value = m.tried_pending a.patterns.now a.held.now c.turns.stack.items fs.items c.in-Some.top c.in-Some.ensures.items p is now c.in_ok-try_next.ensures
          c.turns.found _ c.turns.invariant.value;
      linked = tried_linked a.patterns.now a.held.now (Some a.first) _ c.turns.stack.items fs.items c.in-Some.top c.in-Some.ensures.items
          c.turns.invariant.linked.1 p is now
          c.in_ok-try_next.ensures;
    }

pub returns-clause-value : goal.returns-clause-value
returns-clause-value c =
    let a = c.args in
    let rest : c.in_ok-rest.rest ≡ places c.turns.stack.items = search rules in
    stopped a.patterns.now a.held.now a.first c.turns.stack.items _ c.turns.found _ c.in_ok-rest.rest c.turns.invariant.linked.1 rest c.turns.invariant.value
