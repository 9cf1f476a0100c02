-- How the runs of the two sites start.
use Rattle.std.proofs.Common.{◌≡◌, ℕ, zero, suc, ◌-◌, ◌≤◌, ◌<◌, not, false, List, [], ◌∷◌, length, replicate, IfSome, slice_get, sym, refl, ap, subst, ◌∙◌, arith}
use Rattle.std.specs.List.{IsDistinct}
use Rattle.std.proofs.lemmas.List.Elements.{All-nil, All-cons}
use Rattle.asl_term.specs.declared.syntax.LiteralOf.{LiteralOf}
use Rattle.asl_term.specs.declared.syntax.Term.{Term}
use Rattle.mas_world.specs.Facts.{AreFacts}
use Rattle.mas_world.specs.Worlds.{World}
use Rattle.mas_board.specs.declared.seats.AgentPlace as board
use Rattle.mas_board.specs.Boards.{Noted, seat_or_none, no_seat, opening}
use Rattle.mas_core.specs.Fits.{Start, IsMindOf}
use Rattle.mas_sites_stand.specs.declared.seated.Seated.{Seated}
use Rattle.mas_sites_stand.specs.declared.seated.Seated.TheVariants as seat
use Rattle.mas_sites_stand.specs.Seats.{seated}
use Rattle.mas_sites_stand.specs.Stands.{Standing, stand_kind}
use Rattle.mas_sites_scripts.specs.Giving.{is_own}
use Rattle.mas_sites_scripts.specs.Sites.{AreFresh}
use Rattle.mas_sites_scripts.specs.Sites as sites
use Rattle.mas_sites_rounds.specs.Between.{AreApart}
use Rattle.test_sites.specs.Players.{IsOpened, IsNew, AreOfOne, AreOfTwo}

no_seat_at : (n i : ℕ) → seat_or_none (slice_get (replicate n no_seat) i) ≡ no_seat
no_seat_at zero i = refl
no_seat_at (suc n) zero = refl
no_seat_at (suc n) (suc i) = no_seat_at n i

many : (n : ℕ) → length (replicate n no_seat) ≡ n
many zero = refl
many (suc n) = ap suc (many n)

at_opening : (names : List (List ℕ)) (world : World) → length names ≡ 2 → IsOpened (record { state = opening names world 5 1; schedule = []; halted = false })
at_opening names world e = record {
  unplayed = refl;
  running = refl;
  agents = many (length names) ∙ e;
  unbegun = λ a. ap (λ (x : board.AgentPlace). x.cycle) (no_seat_at (length names) (a - 1));
}

-- such a board is one of two agents
pub opened : (b : Noted) (names : List (List ℕ)) (world : World) → length names ≡ 2 → b ≡ record { state = opening names world 5 1; schedule = []; halted = false } → IsOpened b
opened b names world n e = subst IsOpened (sym e) (at_opening names world n)

-- no facts are facts
pub no_facts : (facts : List (LiteralOf Term)) → facts ≡ [] → AreFacts facts
unfolding IsDistinct
no_facts facts e = subst AreFacts (sym e) (record { grounded = refl; settled = refl; distinct = tt })

-- ---- minds

own_fits : (b : Noted) (me : ℕ) (s : Standing) → IsOpened b → IsNew me s → IsMindOf (seated stand_kind) b.state me (seat.Own s)
own_fits b me s o h = record { me = h.is_me; agents = h.agents ∙ sym o.agents; made = h.unmade ∙ sym (o.unbegun me); awaits = λ e. cc }

stand_fits : (b : Noted) (me : ℕ) (s : Standing) → IsOpened b → IsNew me s → IsMindOf (seated stand_kind) b.state me (seat.Stand s)
stand_fits b me s o h = record { me = h.is_me; agents = h.agents ∙ sym o.agents; made = h.unmade ∙ sym (o.unbegun me); awaits = λ e. cc }

fit : (b : Noted) (x y : Seated Standing) (a : ℕ) → IsMindOf (seated stand_kind) b.state 1 x → IsMindOf (seated stand_kind) b.state 2 y → 1 ≤ a → a ≤ 2 →
    IfSome (slice_get (x ∷ y ∷ []) (a - 1)) (IsMindOf (seated stand_kind) b.state a)
fit b x y zero p q one few = absurd (omega arith)
fit b x y (suc zero) p q one few = p
fit b x y (suc (suc zero)) p q one few = q
fit b x y (suc (suc (suc a))) p q one few = absurd (omega arith)

start : (b : Noted) (x y : Seated Standing) → IsOpened b → IsMindOf (seated stand_kind) b.state 1 x → IsMindOf (seated stand_kind) b.state 2 y → Start (seated stand_kind) b (x ∷ y ∷ [])
start b x y o p q = record {
  unplayed = o.unplayed;
  running = o.running;
  fit = record { number = sym o.agents; each = λ a agent. fit b x y a p q agent.from_one (let n = agent.named in let m = o.agents in omega arith) };
}

pub start_one : (b : Noted) (minds : List (Seated Standing)) → IsOpened b → AreOfOne minds → Start (seated stand_kind) b minds
start_one b minds o h = rw h.are (start b (seat.Own h.alice) (seat.Stand h.bob) o (own_fits b 1 h.alice o h.alice_new) (stand_fits b 2 h.bob o h.bob_fresh.new))

pub start_two : (b : Noted) (minds : List (Seated Standing)) → IsOpened b → AreOfTwo minds → Start (seated stand_kind) b minds
start_two b minds o h = rw h.are (start b (seat.Stand h.alice) (seat.Own h.bob) o (stand_fits b 1 h.alice o h.alice_fresh.new) (own_fits b 2 h.bob o h.bob_new))

pub fresh_one : (minds : List (Seated Standing)) → AreOfOne minds → AreFresh minds
fresh_one minds h = rw h.are (All-cons sites.IsFresh (seat.Own h.alice) (seat.Stand h.bob ∷ []) tt
    (All-cons sites.IsFresh (seat.Stand h.bob) [] (h.bob_fresh.script, h.bob_fresh.taken) (All-nil sites.IsFresh)))

pub fresh_two : (minds : List (Seated Standing)) → AreOfTwo minds → AreFresh minds
fresh_two minds h = rw h.are (All-cons sites.IsFresh (seat.Stand h.alice) (seat.Own h.bob ∷ []) (h.alice_fresh.script, h.alice_fresh.taken)
    (All-cons sites.IsFresh (seat.Own h.bob) [] tt (All-nil sites.IsFresh)))

apart_at : (x y u v : Standing) (i : ℕ) → i < 2 → is_own (slice_get (seat.Stand u ∷ seat.Own v ∷ []) i) ≡ not (is_own (slice_get (seat.Own x ∷ seat.Stand y ∷ []) i))
apart_at x y u v zero l = refl
apart_at x y u v (suc zero) l = refl
apart_at x y u v (suc (suc i)) l = absurd (omega (arith, l))

pub apart : (one two : List (Seated Standing)) → AreOfOne one → AreOfTwo two → AreApart one two
apart one two h g = rw (h.are, g.are) (record { number = refl; each = apart_at h.alice h.bob g.alice g.bob })
