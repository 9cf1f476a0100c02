use Rattle.std.proofs.Common.{◌≡◌, ◌≤◌, ℕ, ◌+◌, ◌-◌, cond, length, drop, ap, ◌∙◌, arith}
use Rattle.mas_board.specs.Boards.{seat_at}
use Rattle.mas_top_demo.specs.Lines.{is_quiet, quiet_ends}
use Rattle.mas_top_demo.proofs.Counted.{quiet_next, quiet_few}
use Rattle.mas_top_demo.proofs.lines.quiet_ends.Goals as goal

pub agents-preserved : goal.agents-preserved
agents-preserved g c =
    let i = c.agents.invariant in
    let s = c.args.b.now.state in
    let a = c.agents.a in
    let more : ℕ = cond (is_quiet (seat_at s a).phase) 1 0 in
    let e : c.quiet_end-quiet.result ≡ more = c.quiet_end-quiet.ensures ∙ ap (λ p. cond (is_quiet p) 1 0) c.phase.ensures in
    let here : a ≤ length s.seats = omega (arith, c.agents-test.true, i.number) in
    let rest = quiet_ends (drop (a + 1 - 1) s.seats) in
    record {
      from_one = omega arith;
      most = omega (arith, c.agents-test.true);
      number = i.number;
      few = omega (arith, e, quiet_few (is_quiet (seat_at s a).phase), i.few);
      same = ap (λ x. c.agents.quiet + x + rest) e ∙ quiet_next s a c.agents.quiet (quiet_ends s.seats) i.from_one here i.same;
    }
