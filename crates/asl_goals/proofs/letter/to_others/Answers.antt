use Rattle.std.proofs.Common.{◌≡◌, ◌≢◌, ◌+◌, ◌<◌, ◌∷◌, [], ◌++◌, length, ap, arith, rules, sym, subst}
use Rattle.asl_goals.specs.Sending.{to_others}
use Rattle.asl_goals.proofs.Spread.{one, from_on, passes, sends}
use Rattle.asl_goals.proofs.letter.to_others.Goals as goal
use Rattle.asl_goals.proofs.letter.to_others.Goals.{then-is_other+in_ok-content+in_ok-push, else-is_other}

pub loop-k-preserved : goal.loop-k-preserved
loop-k-preserved c =
    let me = c.args.peers.now.me in
    let v = c.args.verb in
    let t = c.args.t.now in
    let names = c.args.peers.now.names in
    let k = c.loop-k.k in
    let all = to_others me v t 1 names in
    let got : length c.get.result.now ≡ length names = ap length c.get.ensures in
    let low : k < length names = omega (arith, c.len-k-end.ensures.number) in
    elim c.if-is_other.branch [
      | then-is_other+in_ok-content+in_ok-push w ↦
          let e : c.if-is_other.messages ≡ c.loop-k.messages ++ one me v t (k + 1) ∷ [] = search rules in
          let other : k + 1 ≢ me = search rules in
          subst (λ ms. ms ++ from_on me v t names (k + 1) ≡ all) (sym e) (sends me v t names k c.loop-k.messages all low other c.loop-k.invariant)
      | else-is_other w ↦
          let same : k + 1 ≡ me = search rules in
          subst (λ ms. ms ++ from_on me v t names (k + 1) ≡ all) (sym w.messages-is) (passes me v t names k c.loop-k.messages all low same c.loop-k.invariant)
    ]
