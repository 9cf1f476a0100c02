-- A turn changes only what stands at its agent.
use Rattle.std.proofs.Common.{ℕ, ◌≡◌, ◌-◌, true, false, nat_eq, List, length, slice_get, Option, None, Some, refl, sym, ◌∙◌, subst}
use Rattle.std.proofs.lemmas.List.{length-set}
use Rattle.mas_mind.specs.declared.mind.Feedback.{Feedback}
use Rattle.mas_mind.specs.declared.mind.Thought.{Thought}
use Rattle.mas_mind.specs.Minds.{Kind, IsAgent}
use Rattle.mas_board.specs.declared.seats.AgentPlace.{AgentPlace}
use Rattle.mas_board.specs.declared.seats.Sensed.{Sensed}
use Rattle.mas_board.specs.Boards.{State, seat_at, seat_or_none}
use Rattle.mas_board.proofs.Places.{same_place}
use Rattle.mas_core.specs.Platform.{Platform, tell}
use Rattle.mas_core_laws.proofs.Places.{set_other}
use Rattle.mas_core_laws.proofs.Steps.{Turned, Leaves, Thinks, Emits, Spends}

pub record ChangedAt {V : Type 0} (p : Platform V) (a : ℕ) (q : Platform V) : Type 0 where
  pub names : q.board.names ≡ p.board.names
  pub cycles : q.board.cycles ≡ p.board.cycles
  pub lead : q.board.lead ≡ p.board.lead
  pub minds : length q.minds ≡ length p.minds
  pub number : length q.board.seats ≡ length p.board.seats
  pub seat : (b : ℕ) → nat_eq (a - 1) (b - 1) ≡ false → slice_get q.board.seats (b - 1) ≡ slice_get p.board.seats (b - 1)
  pub mind : (b : ℕ) → nat_eq (a - 1) (b - 1) ≡ false → slice_get q.minds (b - 1) ≡ slice_get p.minds (b - 1)
  pub thought : (b : ℕ) → nat_eq (a - 1) (b - 1) ≡ false → slice_get q.thoughts (b - 1) ≡ slice_get p.thoughts (b - 1)
  pub paired : length p.thoughts ≡ length p.minds → length q.thoughts ≡ length q.minds

tell-length : {V : Type 0} (k : Kind V) (minds : List V) (a : ℕ) (m : Option V) (f : Option Feedback) → length (tell k minds a m f) ≡ length minds
tell-length k minds a None f = refl
tell-length k minds a (Some m) None = refl
tell-length k minds a (Some m) (Some f) = length-set minds (a - 1) _

tell-other : {V : Type 0} (k : Kind V) (minds : List V) (a j : ℕ) (m : Option V) (f : Option Feedback) → nat_eq (a - 1) j ≡ false → slice_get (tell k minds a m f) j ≡ slice_get minds j
tell-other k minds a j None f e = refl
tell-other k minds a j (Some m) None e = refl
tell-other k minds a j (Some m) (Some f) e = set_other minds (a - 1) j _ e

pub changed : {V : Type 0} (k : Kind V) (p : Platform V) (a : ℕ) (r : Sensed × State) (q : Platform V) → Turned k p a r q → ChangedAt p a q
changed {V} k p a r q (Leaves t) = let P = λ (x : Platform V). ChangedAt p a x in subst P (sym t.is) (record {
  names = refl;
  cycles = refl;
  lead = refl;
  minds = refl;
  number = length-set p.board.seats (a - 1) _;
  seat = λ b e. set_other p.board.seats (a - 1) (b - 1) _ e;
  mind = λ b e. refl;
  thought = λ b e. refl;
  paired = λ e. e;
})
changed {V} k p a r q (Thinks t) = let P = λ (x : Platform V). ChangedAt p a x in subst P (sym t.is) (record {
  names = refl;
  cycles = refl;
  lead = refl;
  minds = length-set p.minds (a - 1) _;
  number = length-set p.board.seats (a - 1) _;
  seat = λ b e. set_other p.board.seats (a - 1) (b - 1) _ e;
  mind = λ b e. set_other p.minds (a - 1) (b - 1) _ e;
  thought = λ b e. set_other p.thoughts (a - 1) (b - 1) _ e;
  paired = λ e. length-set p.thoughts (a - 1) _ ∙ e ∙ sym (length-set p.minds (a - 1) _);
})
changed {V} k p a r q (Emits t) = let P = λ (x : Platform V). ChangedAt p a x in subst P (sym t.is) (record {
  names = refl;
  cycles = refl;
  lead = refl;
  minds = tell-length k p.minds a (slice_get p.minds (a - 1)) _;
  number = length-set p.board.seats (a - 1) _;
  seat = λ b e. set_other p.board.seats (a - 1) (b - 1) _ e;
  mind = λ b e. tell-other k p.minds a (b - 1) (slice_get p.minds (a - 1)) _ e;
  thought = λ b e. set_other p.thoughts (a - 1) (b - 1) None e;
  paired = λ e. length-set p.thoughts (a - 1) None ∙ e ∙ sym (tell-length k p.minds a (slice_get p.minds (a - 1)) _);
})
changed {V} k p a r q (Spends t) = let P = λ (x : Platform V). ChangedAt p a x in subst P (sym t.is) (record {
  names = refl;
  cycles = refl;
  lead = refl;
  minds = refl;
  number = length-set p.board.seats (a - 1) _;
  seat = λ b e. set_other p.board.seats (a - 1) (b - 1) _ e;
  mind = λ b e. refl;
  thought = λ b e. set_other p.thoughts (a - 1) (b - 1) None e;
  paired = λ e. length-set p.thoughts (a - 1) None ∙ e;
})

-- ---- what holds of each agent

said-other : {V : Type 0} (S : ℕ → AgentPlace → Option V → Option (Option Thought) → Type 0) (b : ℕ) (s t : Option AgentPlace) (m n : Option V) (x y : Option (Option Thought)) → t ≡ s → n ≡ m → y ≡ x →
    S b (seat_or_none s) m x → S b (seat_or_none t) n y
said-other {V} S b s t m n x y e f g h =
    let P = λ (o : Option AgentPlace). S b (seat_or_none o) m x in
    let Q = λ (o : Option V). S b (seat_or_none t) o x in
    let R = λ (o : Option (Option Thought)). S b (seat_or_none t) n o in
    subst R (sym g) (subst Q (sym f) (subst P (sym e) h))

-- what is said of all agents after a turn
pub said_of_each : {V : Type 0} (p : Platform V) (a : ℕ) (q : Platform V) (R S : ℕ → AgentPlace → Option V → Option (Option Thought) → Type 0) → ChangedAt p a q → IsAgent (length p.board.seats) a →
    ((b : ℕ) → IsAgent (length p.board.seats) b → R b (seat_at p.board b) (slice_get p.minds (b - 1)) (slice_get p.thoughts (b - 1))) →
    ((b : ℕ) (s : AgentPlace) (m : Option V) (t : Option (Option Thought)) → R b s m t → S b s m t) →
    S a (seat_at q.board a) (slice_get q.minds (a - 1)) (slice_get q.thoughts (a - 1)) →
    (b : ℕ) → IsAgent (length q.board.seats) b → S b (seat_at q.board b) (slice_get q.minds (b - 1)) (slice_get q.thoughts (b - 1))
said_of_each {V} p a q R S c i h others here b j =
    let N = λ (n : ℕ). IsAgent n b in
    let w : IsAgent (length p.board.seats) b = subst N c.number j in
    (elim (nat_eq (a - 1) (b - 1)) as (λ t. nat_eq (a - 1) (b - 1) ≡ t → S b (seat_at q.board b) (slice_get q.minds (b - 1)) (slice_get q.thoughts (b - 1))) [
      | true ↦ λ e. (let P = λ (x : ℕ). S x (seat_at q.board x) (slice_get q.minds (x - 1)) (slice_get q.thoughts (x - 1)) in subst P (same_place (length p.board.seats) a b i w e) here)
      | false ↦ λ e. said-other S b (slice_get p.board.seats (b - 1)) (slice_get q.board.seats (b - 1)) _ _ _ _ (c.seat b e) (c.mind b e) (c.thought b e) (others b _ _ _ (h b w))
    ]) refl
