-- How a run of three minds starts.
use Rattle.std.proofs.Common.{◌≡◌, ℕ, zero, suc, ◌-◌, ◌≤◌, true, false, List, [], ◌∷◌, length, replicate, IfSome, slice_get, sym, refl, ap, subst, ◌∙◌, arith}
use Rattle.std.specs.List.{IsDistinct}
use Rattle.asl_term.specs.declared.syntax.LiteralOf.{LiteralOf}
use Rattle.asl_term.specs.declared.syntax.Term.{Term}
use Rattle.mas_mind.specs.Minds.{IsAgent}
use Rattle.mas_world.specs.Facts.{AreFacts}
use Rattle.mas_world.specs.Worlds.{World}
use Rattle.mas_board.specs.declared.seats.AgentPlace as board
use Rattle.mas_board.specs.Boards.{Noted, State, seat_at, seat_or_none, no_seat, opening}
use Rattle.mas_core.specs.Fits.{Start, IsMindOf}
use Rattle.test_records.specs.declared.watching.Watching.{Watching}
use Rattle.test_records.specs.Watchers.{watcher_kind, IsFresh, AreThree, IsOpened}

no_seat_at : (n i : ℕ) → seat_or_none (slice_get (replicate n no_seat) i) ≡ no_seat
no_seat_at zero i = refl
no_seat_at (suc n) zero = refl
no_seat_at (suc n) (suc i) = no_seat_at n i

many : (n : ℕ) → length (replicate n no_seat) ≡ n
many zero = refl
many (suc n) = ap suc (many n)

at_opening : (names : List (List ℕ)) (world : World) → length names ≡ 3 → IsOpened (record { state = opening names world 3 2; schedule = []; halted = false })
at_opening names world e = record {
  unplayed = refl;
  running = refl;
  agents = many (length names) ∙ e;
  unbegun = λ a. ap (λ (x : board.AgentPlace). x.cycle) (no_seat_at (length names) (a - 1));
}

-- such a board is one of three agents
pub opened : (b : Noted) (names : List (List ℕ)) (world : World) → length names ≡ 3 → b ≡ record { state = opening names world 3 2; schedule = []; halted = false } → IsOpened b
opened b names world n e = subst IsOpened (sym e) (at_opening names world n)

-- no facts are facts
pub no_facts : (facts : List (LiteralOf Term)) → facts ≡ [] → AreFacts facts
unfolding IsDistinct
no_facts facts e = subst AreFacts (sym e) (record { grounded = refl; settled = refl; distinct = tt })

fits : (b : Noted) (me : ℕ) (m : Watching) → IsOpened b → IsFresh me m → IsMindOf watcher_kind b.state me m
fits b me m o f = record { me = f.me_is; agents = sym o.agents; made = f.unmade ∙ sym (o.unbegun me); awaits = λ e. cc (sym f.free ∙ e) }

fit : (b : Noted) (x y z : Watching) (a : ℕ) → IsOpened b → IsFresh 1 x → IsFresh 2 y → IsFresh 3 z → 1 ≤ a → a ≤ 3
    → IfSome (slice_get (x ∷ y ∷ z ∷ []) (a - 1)) (IsMindOf watcher_kind b.state a)
fit b x y z zero o f g h one few = absurd (omega arith)
fit b x y z (suc zero) o f g h one few = fits b 1 x o f
fit b x y z (suc (suc zero)) o f g h one few = fits b 2 y o g
fit b x y z (suc (suc (suc zero))) o f g h one few = fits b 3 z o h
fit b x y z (suc (suc (suc (suc a)))) o f g h one few = absurd (omega arith)

pub starts : (b : Noted) (minds : List Watching) → IsOpened b → AreThree minds → Start watcher_kind b minds
starts b minds o t = subst (Start watcher_kind b) (sym t.are) (record {
  unplayed = o.unplayed;
  running = o.running;
  fit = record {
    number = sym o.agents;
    each = λ a agent. fit b t.x t.y t.z a o t.first t.second t.third agent.from_one (let n = agent.named in let m = o.agents in omega arith);
  };
})
