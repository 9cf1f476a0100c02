-- What a cycle of a mind of a site asks for, and what it leaves.
use Rattle.std.proofs.Common.{ℕ, ◌≡◌, ◌-◌, ◌+◌, ◌<◌, arith, List, [], ◌∷◌, ◌++◌, true, false, IfSome, length, slice_get, slice_set, Option, None, Some, refl, ap, sym, ◌∙◌, subst, replicate, Bool, append-nil, if◌then◌else◌}
use Rattle.std.proofs.lemmas.List.{length-set, length-replicate}
use Rattle.mas_mind.specs.declared.mind.Input.{Input}
use Rattle.mas_mind.specs.declared.mind.Message.{Message}
use Rattle.mas_mind.specs.declared.mind.Thought.{Thought}
use Rattle.mas_mind.specs.declared.mind.Thought.TheVariants.{Outs as Acts, Spent}
use Rattle.mas_mind.specs.declared.mind.Feedback.{Feedback}
use Rattle.mas_mind.specs.declared.mind.Outs.{Outs}
use Rattle.mas_mind.specs.Minds.{Kind, IsAgent, IsFor, Grows, asks_feedback}
use Rattle.mas_board.specs.declared.seats.Phase.TheVariants.{Idle, Busy}
use Rattle.mas_board.specs.declared.seats.AgentPlace.{AgentPlace}
use Rattle.mas_board.specs.declared.seats.Sensed.TheVariants.{Input as Given, Ahead, Halted}
use Rattle.mas_board.specs.Boards.{State, Noted, seat_at, seat_of, sense, emit, leave}
use Rattle.mas_board.specs.Seating as noted
use Rattle.mas_core.specs.Platform.{Platform, thought_by, tell, after_emit, after_leave, opening_platform}
use Rattle.mas_core.specs.Fits.{AllFit}
use Rattle.mas_core.proofs.Fitting.{has_mind, is_free, is_short, is_sent, fit_given}
use Rattle.mas_sites_stand.specs.declared.seated.Seated.{Seated}
use Rattle.mas_sites_stand.specs.Seats.{seated, seated_cycle}
use Rattle.mas_sites_scripts.specs.Giving.{Placed, IsGiven}
use Rattle.mas_sites_scripts.specs.Sites.{Sited, opened, placed, with_minds, IsMade, IsFinished}
use Rattle.mas_sites_scripts.proofs.Seatings.{fit_given_by, given_lengths, thought_lengths}
use Rattle.mas_sites_scripts.proofs.Steps.{was_given, was_ahead, ahead_turn, was_emitted, was_spent}
use Rattle.mas_sites_rounds.specs.Cycles.{MayCycle, HasCycled}

-- ---- what the cycle asks for, of the minds after that

module _ {V C : Type 0} (k : Kind V) (got : C → ℕ → Option Message → C → Type 0) (put : C → Message → C → Type 0) (from to : C) (old new : Placed V)
    (thoughts : List (Option Thought)) (a : ℕ) (input : Input) (m : MayCycle k old thoughts a input) (g : IsGiven got put from to old new a input.message) where
  pub fit_after : AllFit (seated k) m.seats new.minds thoughts
  fit_after = fit_given_by k got put from to m.seats old new thoughts a input.message m.fit g

  pub after_place : IsAgent (length new.minds) a
  after_place = has_mind (seated k) m.seats new.minds thoughts a fit_after m.agent

  pub after_free : IfSome (slice_get new.minds (a - 1)) (λ x. (seated k).awaits x ≡ false)
  after_free = is_free (seated k) m.seats new.minds thoughts a fit_after m.agent m.idle

  pub after_short : IfSome (slice_get new.minds (a - 1)) (λ x. (seated k).made x < 1000000)
  after_short = is_short (seated k) m.seats new.minds thoughts a 1000000 fit_after m.agent m.short (omega arith)

  pub after_sent : IfSome (slice_get new.minds (a - 1)) (λ x. IfSome input.message (IsFor ((seated k).me x) ((seated k).agents x)))
  after_sent = is_sent (seated k) m.seats new.minds thoughts a input.message fit_after m.agent m.message

-- ---- the turn of an idle agent that was given an input

same_platform : {V : Type 0} (p q : Platform V) → q.board ≡ p.board → q.minds ≡ p.minds → q.thoughts ≡ p.thoughts → q ≡ p
same_platform p q e f g = λ i. record { board = e i; minds = f i; thoughts = g i }

pub begun : {V C : Type 0} (k : Kind V) (got : C → ℕ → Option Message → C → Type 0) (put : C → Message → C → Type 0) (from to : C) (old new : Sited V) (a : ℕ) (input : Input) →
    IsAgent (length old.platform.board.seats) a → (seat_at old.platform.board a).phase ≡ Idle → (Given input, new.platform.board) ≡ sense old.platform.board a →
    HasCycled k got put from to (placed old) (placed new) old.platform.thoughts new.platform.thoughts a input → new.schedule ≡ old.schedule ++ a ∷ [] → IsMade k got put from to old new a true
begun k got put from to old new a input j i e h s =
    let c = seated_cycle k h.thinks.mind input in
    let t : new.platform.thoughts ≡ slice_set old.platform.thoughts (a - 1) (Some c.thought) =
    h.thoughts ∙ ap (λ x. slice_set old.platform.thoughts (a - 1) (Some x)) h.thinks.thinks.thought in
    let m : new.platform.minds ≡ slice_set h.after.minds (a - 1) c.mind = h.thinks.minds ∙ ap (λ x. slice_set h.after.minds (a - 1) x) h.thinks.thinks.mind_is in
    was_given k got put from to old new h.after a input new.platform.board h.thinks.mind j i e h.given h.thinks.is
    (same_platform (thought_by (with_minds old.platform h.after.minds) a new.platform.board c) new.platform refl m t) s h.scripts

-- ---- minds, thoughts and scripts after the cycle

module _ {V C : Type 0} (k : Kind V) (got : C → ℕ → Option Message → C → Type 0) (put : C → Message → C → Type 0) (from to : C) (old new : Placed V)
    (was now : List (Option Thought)) (a : ℕ) (input : Input) (h : HasCycled k got put from to old new was now a input) where
  pub cycled_lengths : length old.scripts ≡ length old.minds → length new.scripts ≡ length new.minds
  cycled_lengths e =
      ap length h.scripts
      ∙ thought_lengths h.after.scripts h.after.minds new.minds (a - 1) _ (given_lengths got put from to old h.after a input.message h.given e) h.thinks.minds

  pub cycled_fit : (seats : List AgentPlace) (kept : ℕ) → ((m : Seated V) (i : Input) → (seated k).awaits ((seated k).cycle m i).mind ≡ asks_feedback ((seated k).cycle m i).thought) →
      ((m : Seated V) (i : Input) → Grows (seated k) m ((seated k).cycle m i).mind 1) → AllFit (seated k) seats old.minds was → IsAgent (length seats) a →
      AllFit (seated k) (slice_set seats (a - 1) (record { phase = Busy; cycle = (seat_of seats a).cycle + 1; mark = None; kept = kept })) new.minds now
  cycled_fit seats kept awaits grows f j =
      let fit = fit_given_by k got put from to seats old h.after was a input.message f h.given in
      let P = λ (x : List (Option Thought)). AllFit (seated k) (slice_set seats (a - 1) (record { phase = Busy; cycle = (seat_of seats a).cycle + 1; mark = None; kept = kept })) new.minds x in
      subst P (sym h.thoughts) (fit_given (seated k) seats h.after.minds new.minds was a kept input h.thought awaits grows fit j h.thinks)

-- ---- the answers of a Sense

-- of a board that was not halted
pub running_sense : (b : Noted) (a : ℕ) → b.halted ≡ false → noted.sense b a ≡ sense b.state a
running_sense b a e = ap (λ h. if h then (Halted, b.state) else sense b.state a) e

same_site : {V : Type 0} (old new : Sited V) → new.platform ≡ old.platform → new.schedule ≡ old.schedule → new.scripts ≡ old.scripts → new ≡ old
same_site old new e f g = λ i. record { platform = e i; schedule = f i; scripts = g i }

pub waited : {V C : Type 0} (k : Kind V) (got : C → ℕ → Option Message → C → Type 0) (put : C → Message → C → Type 0) (from : C) (old new : Sited V) (a cycle lowest : ℕ) →
    IsAgent (length old.platform.board.seats) a → (seat_at old.platform.board a).phase ≡ Idle → (Ahead cycle lowest, new.platform.board) ≡ sense old.platform.board a →
    new.platform.board ≡ old.platform.board → new.platform.minds ≡ old.platform.minds → new.platform.thoughts ≡ old.platform.thoughts → new.schedule ≡ old.schedule ++ [] →
    new.scripts ≡ old.scripts → IsMade k got put from from old new a false
waited k got put from old new a cycle lowest j i e b m t s c =
    was_ahead k got put from old new a (same_site old new (same_platform old.platform new.platform b m t) (s ∙ append-nil old.schedule) c)
    (ahead_turn (seated k) old.platform a cycle lowest new.platform.board j i e)

-- ---- the turn of a busy agent

told_length : {V : Type 0} (k : Kind V) (minds : List V) (a : ℕ) (m : Option V) (f : Option Feedback) → length (tell k minds a m f) ≡ length minds
told_length k minds a None f = refl
told_length k minds a (Some m) None = refl
told_length k minds a (Some m) (Some f) = length-set minds (a - 1) (k.took m f)

pub told_lengths : {V X : Type 0} (k : Kind V) (scripts : List X) (minds after : List V) (a : ℕ) (f : Option Feedback) → length scripts ≡ length minds →
    after ≡ tell k minds a (slice_get minds (a - 1)) f → length scripts ≡ length after
told_lengths k scripts minds after a f e t = e ∙ sym (told_length k minds a (slice_get minds (a - 1)) f) ∙ sym (ap length t)

pub emitted : {V : Type 0} (k : Kind V) (old new : Sited V) (a : ℕ) (outs : Outs) (feedback : Option Feedback) → IsAgent (length old.platform.board.seats) a →
    (seat_at old.platform.board a).phase ≡ Busy → slice_get old.platform.thoughts (a - 1) ≡ Some (Some (Acts outs)) → (feedback, new.platform.board) ≡ emit old.platform.board a outs →
    new.platform.minds ≡ tell (seated k) old.platform.minds a (slice_get old.platform.minds (a - 1)) feedback → new.platform.thoughts ≡ slice_set old.platform.thoughts (a - 1) None →
    new.schedule ≡ old.schedule ++ a ∷ [] → new.scripts ≡ old.scripts → IsFinished k old a new
emitted k old new a outs feedback j b t e m n s c =
    was_emitted k old new a outs feedback new.platform.board j b t e (same_platform (after_emit (seated k) old.platform a (feedback, new.platform.board)) new.platform refl m n) s c

pub spent : {V : Type 0} (k : Kind V) (old new : Sited V) (a : ℕ) → IsAgent (length old.platform.board.seats) a → (seat_at old.platform.board a).phase ≡ Busy →
    slice_get old.platform.thoughts (a - 1) ≡ Some (Some Spent) → new.platform.board ≡ leave old.platform.board a → new.platform.minds ≡ old.platform.minds →
    new.platform.thoughts ≡ slice_set old.platform.thoughts (a - 1) None → new.schedule ≡ old.schedule ++ a ∷ [] → new.scripts ≡ old.scripts → IsFinished k old a new
spent k old new a j b t e m n s c = was_spent k old new a j b t (same_platform (after_leave old.platform a (leave old.platform.board a)) new.platform e m n) s c

-- ---- at the start

pub opened_platform : {V : Type 0} (p : Platform V) (board : State) (minds : List V) → p.board ≡ board → p.minds ≡ minds → p.thoughts ≡ replicate (length minds) None → p ≡ opening_platform board minds
opened_platform p board minds e f g = same_platform (opening_platform board minds) p e f g

pub opened_site : {V : Type 0} (s : Sited V) (board : State) (minds : List (Seated V)) → s.platform ≡ opening_platform board minds → s.schedule ≡ [] → s.scripts ≡ replicate (length minds) [] → s ≡ opened board minds
opened_site s board minds e f g = same_site (opened board minds) s e f g

pub no_scripts : {X V : Type 0} (scripts : List (List X)) (minds : List V) → scripts ≡ replicate (length minds) [] → length scripts ≡ length minds
no_scripts scripts minds e = ap length e ∙ length-replicate (length minds) []

-- ---- the same of the site that a call was given

pub made_of : {V C : Type 0} (k : Kind V) (got : C → ℕ → Option Message → C → Type 0) (put : C → Message → C → Type 0) (from to : C) (parts old new : Sited V) (a : ℕ) (made : Bool) → parts ≡ old →
    IsMade k got put from to parts new a made → IsMade k got put from to old new a made
made_of k got put from to parts old new a made e h = let P = λ (x : Sited _). IsMade k got put from to x new a made in subst P e h

pub finished_of : {V : Type 0} (k : Kind V) (parts old new : Sited V) (a : ℕ) → parts ≡ old → IsFinished k parts a new → IsFinished k old a new
finished_of k parts old new a e h = let P = λ (x : Sited _). IsFinished k x a new in subst P e h
