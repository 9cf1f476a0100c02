-- Stages, and what a move changes.
use Rattle.std.proofs.Common.{ℕ, ◌≡◌, ◌-◌, Bool, true, false, not, nat_eq, ◌&&◌, if◌then◌else◌, is_some, List, [], ◌∷◌, length, slice_get, slice_set, Option, None, Some, refl, ap, sym, ◌∙◌}
use Rattle.std.proofs.lemmas.List.{length-set}
use Rattle.std.proofs.lemmas.Bool.{and_parts}
use Rattle.mas_mind.specs.declared.mind.Message.{Message}
use Rattle.mas_mind.specs.declared.mind.Outs.{Outs}
use Rattle.mas_mind.specs.declared.mind.Feedback.{Feedback}
use Rattle.mas_mind.specs.declared.mind.Thought.{Thought}
use Rattle.mas_mind.specs.declared.mind.Thought.TheVariants.{Outs as Acts, Spent as Over}
use Rattle.mas_mind.specs.Minds.{Cycled, Kind, IsAgent, is_quiet, AreEmpty, SendsNothing}
use Rattle.mas_world.specs.Worlds.{World}
use Rattle.mas_board.specs.declared.seats.Phase.{Phase}
use Rattle.mas_board.specs.declared.seats.AgentPlace.{AgentPlace}
use Rattle.mas_board.specs.Boards.{is_empty, seat_at, seat_or_none}
use Rattle.mas_board.proofs.Places.{below}
use Rattle.mas_core.specs.Platform.{Platform, tell}
use Rattle.mas_core.proofs.Goes.{agent-is}
use Rattle.mas_core_laws.proofs.Places.{set_here, set_other}
use Rattle.mas_free.specs.Free.{Free, Stage, Idle, Busy, staged, carry_nothing, stage_after, thought_by, carried, move_in, move}
use Rattle.mas_free.specs.Forgets.{stage_of}

-- ---- outs with nothing in them

pub nothing_in : (outs : Outs) → AreEmpty outs → carry_nothing outs ≡ true
nothing_in outs h = λ i. not (is_some (h.action i)) && (is_empty (h.messages i) && not (h.stop i))

no-action : {X : Type 0} (o : Option X) → not (is_some o) ≡ true → o ≡ None
no-action None e = refl
no-action (Some x) e = cc

no-messages : (ms : List Message) → is_empty ms ≡ true → ms ≡ []
no-messages [] e = refl
no-messages (m ∷ ms) e = cc

no-stop : (b : Bool) → not b ≡ true → b ≡ false
no-stop true e = cc
no-stop false e = refl

pub none_is : {X : Type 0} (o : Option X) → not (is_some o) ≡ true → o ≡ None
none_is o e = no-action o e

pub are_empty : (outs : Outs) → carry_nothing outs ≡ true → AreEmpty outs
are_empty outs e =
    let first = and_parts (not (is_some outs.action)) (is_empty outs.messages && not outs.stop) e in
    let rest = and_parts (is_empty outs.messages) (not outs.stop) first.1 in
    record { action = no-action outs.action first.0; messages = no-messages outs.messages rest.0; stop = no-stop outs.stop rest.1 }

-- after a quiet cycle an agent is idle
pub quiet_stage : (t : Thought) → is_quiet t ≡ true → SendsNothing t → stage_after t ≡ Idle
quiet_stage (Acts outs) q h = ap (λ (b : Bool). if b then Idle else Busy outs) (nothing_in outs h)
quiet_stage Over q h = cc

-- ---- the stage of an agent of a platform

module _ {V : Type 0} (p : Platform V) (stage : Option Stage) (a : ℕ) (at : Phase) (t : Option (Option Thought)) where
  pub stage_was : stage ≡ Some (stage_of (seat_at p.board a).phase (slice_get p.thoughts (a - 1))) → (seat_at p.board a).phase ≡ at → slice_get p.thoughts (a - 1) ≡ t →
      stage ≡ Some (stage_of at t)
  stage_was h e f = h ∙ (λ i. Some (stage_of (e i) (f i)))

  pub stage_is : stage ≡ Some (stage_of at t) → (seat_at p.board a).phase ≡ at → slice_get p.thoughts (a - 1) ≡ t →
      stage ≡ Some (stage_of (seat_at p.board a).phase (slice_get p.thoughts (a - 1)))
  stage_is h e f = h ∙ (λ i. Some (stage_of (sym e i) (sym f i)))

-- a seat that was put there
pub seat_set : {V : Type 0} (p q : Platform V) (a : ℕ) (x : AgentPlace) → IsAgent (length p.board.seats) a → q.board.seats ≡ slice_set p.board.seats (a - 1) x → seat_at q.board a ≡ x
seat_set p q a x i e =
    ap (λ (s : List AgentPlace). seat_or_none (slice_get s (a - 1))) e ∙ ap seat_or_none (set_here p.board.seats (a - 1) x (below (length p.board.seats) a i))

-- ---- what a move is

pub moves_in : {V : Type 0} (k : Kind V) (f : Free V) (a : ℕ) (stage : Option Stage) → IsAgent (length f.stages) a → slice_get f.stages (a - 1) ≡ stage → move k f a ≡ move_in k f a stage
moves_in k f a stage i e =
    ap (λ (b : Bool). if b then move_in k f a (slice_get f.stages (a - 1)) else None) (agent-is (length f.stages) a i) ∙ ap (move_in k f a) e

-- ---- what a move changes

pub record FreeAt {V : Type 0} (f : Free V) (a : ℕ) (g : Free V) : Type 0 where
  pub names : g.names ≡ f.names
  pub minds : length g.minds ≡ length f.minds
  pub number : length g.stages ≡ length f.stages
  pub stage : (b : ℕ) → nat_eq (a - 1) (b - 1) ≡ false → slice_get g.stages (b - 1) ≡ slice_get f.stages (b - 1)
  pub mind : (b : ℕ) → nat_eq (a - 1) (b - 1) ≡ false → slice_get g.minds (b - 1) ≡ slice_get f.minds (b - 1)

pub free_same : {V : Type 0} (f : Free V) (a : ℕ) → FreeAt f a f
free_same f a = record { names = refl; minds = refl; number = refl; stage = λ b e. refl; mind = λ b e. refl }

pub free_staged : {V : Type 0} (f : Free V) (a : ℕ) (stage : Stage) → FreeAt f a (staged f a stage)
free_staged f a stage = record {
  names = refl;
  minds = refl;
  number = length-set f.stages (a - 1) stage;
  stage = λ b e. set_other f.stages (a - 1) (b - 1) stage e;
  mind = λ b e. refl;
}

pub free_thought : {V : Type 0} (f : Free V) (a : ℕ) (c : Cycled V) → FreeAt f a (thought_by f a c)
free_thought f a c = record {
  names = refl;
  minds = length-set f.minds (a - 1) c.mind;
  number = length-set f.stages (a - 1) (stage_after c.thought);
  stage = λ b e. set_other f.stages (a - 1) (b - 1) (stage_after c.thought) e;
  mind = λ b e. set_other f.minds (a - 1) (b - 1) c.mind e;
}

tell-length : {V : Type 0} (k : Kind V) (minds : List V) (a : ℕ) (m : Option V) (f : Option Feedback) → length (tell k minds a m f) ≡ length minds
tell-length k minds a None f = refl
tell-length k minds a (Some m) None = refl
tell-length k minds a (Some m) (Some f) = length-set minds (a - 1) (k.took m f)

tell-other : {V : Type 0} (k : Kind V) (minds : List V) (a j : ℕ) (m : Option V) (f : Option Feedback) → nat_eq (a - 1) j ≡ false → slice_get (tell k minds a m f) j ≡ slice_get minds j
tell-other k minds a j None f e = refl
tell-other k minds a j (Some m) None e = refl
tell-other k minds a j (Some m) (Some f) e = set_other minds (a - 1) j (k.took m f) e

pub free_carried : {V : Type 0} (k : Kind V) (f : Free V) (a : ℕ) (outs : Outs) (after : Option Feedback × World) → FreeAt f a (carried k f a outs after)
free_carried k f a outs after = record {
  names = refl;
  minds = tell-length k f.minds a (slice_get f.minds (a - 1)) after.0;
  number = length-set f.stages (a - 1) Idle;
  stage = λ b e. set_other f.stages (a - 1) (b - 1) Idle e;
  mind = λ b e. tell-other k f.minds a (b - 1) (slice_get f.minds (a - 1)) after.0 e;
}
