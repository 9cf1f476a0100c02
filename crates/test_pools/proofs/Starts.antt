-- How a run of three minds starts.
use Rattle.std.proofs.Common.{◌≡◌, ℕ, zero, suc, ◌-◌, ◌≤◌, true, false, List, [], ◌∷◌, length, replicate, IfSome, slice_get, sym, refl, ap, subst, ◌∙◌, arith}
use Rattle.std.specs.List.{IsDistinct}
use Rattle.asl_term.specs.declared.syntax.LiteralOf.{LiteralOf}
use Rattle.asl_term.specs.declared.syntax.Term.{Term}
use Rattle.mas_mind.specs.Minds.{IsAgent}
use Rattle.mas_world.specs.Facts.{AreFacts}
use Rattle.mas_world.specs.Worlds.{World}
use Rattle.mas_board.specs.declared.seats.AgentPlace as board
use Rattle.mas_board.specs.Boards.{Noted, State, seat_at, seat_or_none, no_seat, opening}
use Rattle.mas_core.specs.Fits.{Start, IsMindOf}
use Rattle.test_pools.specs.declared.hungry.Hungry.{Hungry}
use Rattle.test_pools.specs.Hungers.{hungry_kind, hungry, three, IsOpened}

no_seat_at : (n i : ℕ) → seat_or_none (slice_get (replicate n no_seat) i) ≡ no_seat
no_seat_at zero i = refl
no_seat_at (suc n) zero = refl
no_seat_at (suc n) (suc i) = no_seat_at n i

many : (n : ℕ) → length (replicate n no_seat) ≡ n
many zero = refl
many (suc n) = ap suc (many n)

at_opening : (names : List (List ℕ)) (world : World) → length names ≡ 3 → IsOpened (record { state = opening names world 10 3; schedule = []; halted = false })
at_opening names world e = record {
  unplayed = refl;
  running = refl;
  agents = many (length names) ∙ e;
  unbegun = λ a. ap (λ (x : board.AgentPlace). x.cycle) (no_seat_at (length names) (a - 1));
}

-- such a board is one of three agents
pub opened : (b : Noted) (names : List (List ℕ)) (world : World) → length names ≡ 3 → b ≡ record { state = opening names world 10 3; schedule = []; halted = false } → IsOpened b
opened b names world n e = subst IsOpened (sym e) (at_opening names world n)

-- no facts are facts
pub no_facts : (facts : List (LiteralOf Term)) → facts ≡ [] → AreFacts facts
unfolding IsDistinct
no_facts facts e = subst AreFacts (sym e) (record { grounded = refl; settled = refl; distinct = tt })

fits : (b : Noted) (me last : ℕ) → IsOpened b → IsMindOf hungry_kind b.state me (hungry me last)
fits b me last o = record { me = refl; agents = sym o.agents; made = sym (o.unbegun me); awaits = λ e. cc }

fit : (b : Noted) (last a : ℕ) → IsOpened b → 1 ≤ a → a ≤ 3 → IfSome (slice_get (three last) (a - 1)) (IsMindOf hungry_kind b.state a)
fit b last zero o one few = absurd (omega arith)
fit b last (suc zero) o one few = fits b 1 0 o
fit b last (suc (suc zero)) o one few = fits b 2 last o
fit b last (suc (suc (suc zero))) o one few = fits b 3 0 o
fit b last (suc (suc (suc (suc a)))) o one few = absurd (omega arith)

at_start : (b : Noted) (last : ℕ) → IsOpened b → Start hungry_kind b (three last)
at_start b last o = record {
  unplayed = o.unplayed;
  running = o.running;
  fit = record { number = sym o.agents; each = λ a agent. fit b last a o agent.from_one (let n = agent.named in let m = o.agents in omega arith) };
}

pub starts : (b : Noted) (minds : List Hungry) (last : ℕ) → IsOpened b → minds ≡ three last → Start hungry_kind b minds
starts b minds last o e = subst (Start hungry_kind b) (sym e) (at_start b last o)
