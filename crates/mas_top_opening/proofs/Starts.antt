-- The board and the minds of a source fit.
use Rattle.std.proofs.Common.{ℕ, zero, suc, ◌≡◌, ◌≤◌, ◌<◌, ◌-◌, true, false, replicate, List, [], length, Option, None, Some, IfSome, slice_get, refl, ap, sym, ◌∙◌, subst, arith}
use Rattle.std.proofs.lemmas.List.{length-replicate}
use Rattle.asl_cycle.specs.Agent.{Mindset, agent_kind}
use Rattle.mas_mind.specs.Minds.{IsAgent}
use Rattle.mas_board.specs.Boards as boards
use Rattle.mas_board.specs.Seating.{AreLimits}
use Rattle.mas_core.specs.Fits.{Start, IsMindOf}
use Rattle.mas_report.specs.declared.options.Options.{Options}
use Rattle.mas_report.specs.Limits.{IsWithin}
use Rattle.mas_top_files.specs.declared.sources.Source.{Source}
use Rattle.mas_top_files.specs.Sources.{texts_of}
use Rattle.mas_world.specs.Worlds.{Used}
use Rattle.mas_top_opening.specs.Fits.{CanRun}
use Rattle.mas_top_opening.specs.Opening.{Setup, setup, opening_board, opening_minds}
use Rattle.mas_top_opening.proofs.Opened.{mind_at, opened_length}

true_false : true ≡ false → ⊥
true_false e = cc

-- the board at the start
abbrev opens : Setup → Source → boards.Noted
opens u source = record { state = opening_board u source; schedule = []; halted = false }

seat_get : {A : Type 0} (n i : ℕ) (x : A) → i < n → slice_get (replicate n x) i ≡ Some x
seat_get zero i x l = absurd (omega arith)
seat_get (suc n) zero x l = refl
seat_get (suc n) (suc i) x l = let k : i < n = omega arith in seat_get n i x k

-- at the start every seat is one at which nothing has happened
fresh : (n a : ℕ) → IsAgent n a → boards.seat_of (replicate n boards.no_seat) a ≡ boards.no_seat
fresh n a i =
    let f = i.from_one in
    let l = i.named in
    let k : a - 1 < n = omega arith in
    ap boards.seat_or_none (seat_get n (a - 1) boards.no_seat k)

mind_fits : (u : Setup) (source : Source) (a : ℕ) (m : Option Mindset) → (boards.seat_at (opening_board u source) a).cycle ≡ 0 →
    length (opening_board u source).seats ≡ length source.names →
    IfSome m (λ m. (m.peers.me ≡ a) × ((length m.peers.names ≡ length source.names) × ((m.cycles ≡ 0) × (m.awaits ≡ false)))) →
    IfSome m (IsMindOf agent_kind (opening_board u source) a)
mind_fits u source a None c n h = tt
mind_fits u source a (Some m) c n h =
    record { me = h.0; agents = h.1.0 ∙ sym n; made = h.1.1.0 ∙ sym c; awaits = λ e. absurd (true_false (sym e ∙ h.1.1.1)) }

the_minds : (u : Setup) (source : Source) → CanRun u.objects source → (a : ℕ) → IsAgent (length (opening_board u source).seats) a →
    IfSome (slice_get (opening_minds u.options source) (a - 1)) (IsMindOf agent_kind (opening_board u source) a)
the_minds u source c a i =
    let n = length-replicate (length source.names) boards.no_seat in
    let j : IsAgent (length source.names) a = subst (λ x. IsAgent x a) n i in
    mind_fits u source a (slice_get (opening_minds u.options source) (a - 1)) (ap (λ s. s.cycle) (fresh (length source.names) a j)) n
    (mind_at u.options source.names a (texts_of source.roles) j.from_one (subst (λ x. a ≤ x) c.named j.named))

starts_here : (u : Setup) (source : Source) → CanRun u.objects source → Start agent_kind (opens u source) (opening_minds u.options source)
starts_here u source c = record {
  unplayed = refl;
  running = refl;
  fit = record {
    number = opened_length u.options source.names (texts_of source.roles) ∙ sym c.named ∙ sym (length-replicate (length source.names) boards.no_seat);
    each = the_minds u source c;
  };
}

-- board and minds of a source fit
pub starts : (o : Options) (objects : List Used) (source : Source) (board : boards.Noted) (minds : List Mindset) → CanRun objects source →
    board ≡ record { state = opening_board (setup o objects) source; schedule = []; halted = false } → minds ≡ opening_minds o source → Start agent_kind board minds
starts o objects source board minds c b m =
    let u = setup o objects in
    subst (λ x. Start agent_kind x minds) (sym b) (subst (λ x. Start agent_kind (opens u source) x) (sym m) (starts_here u source c))

-- the limits of the board
pub limits : (o : Options) (objects : List Used) (source : Source) → IsWithin o → CanRun objects source → AreLimits (length source.names) o.cycles o.lead
limits o objects source w c = record {
  some = c.some;
  few = let l = c.few in omega arith;
  cycle = w.cycles.0;
  short = w.cycles.1;
  ahead = w.lead.0;
  close = w.lead.1;
}
