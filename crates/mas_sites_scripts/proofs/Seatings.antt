-- Minds and thoughts fit the board when a stand was given an entry.
use Rattle.std.proofs.Common.{ℕ, ◌≡◌, ◌-◌, inl, inr, List, length, slice_get, slice_set, Option, None, Some, ap, sym, ◌∙◌, subst}
use Rattle.mas_mind.specs.declared.mind.Message.{Message}
use Rattle.mas_mind.specs.declared.mind.Thought.{Thought}
use Rattle.std.proofs.lemmas.List.{length-set}
use Rattle.mas_mind.specs.Minds.{Kind, IsAgent}
use Rattle.mas_board.specs.declared.seats.Phase.{Phase}
use Rattle.mas_board.specs.declared.seats.Phase.TheVariants.{Idle, Busy, Left as Gone}
use Rattle.mas_board.specs.declared.seats.AgentPlace.{AgentPlace}
use Rattle.mas_board.specs.Boards.{seat_of}
use Rattle.mas_core.specs.Fits.{ThoughtFits, MindFits, FitsAt, AllFit}
use Rattle.mas_core.proofs.Fitting.{agent_fits}
use Rattle.mas_sites_stand.specs.declared.seated.Seated.{Seated}
use Rattle.mas_sites_stand.specs.declared.seated.Seated.TheVariants as seat
use Rattle.mas_sites_stand.specs.Seats.{seated}
use Rattle.mas_sites_scripts.specs.Scripts.{given, change, longer}
use Rattle.mas_sites_scripts.specs.Giving.{Placed, IsGiven}
use Rattle.mas_sites_scripts.proofs.Changes.{same_or, change_length, get_changed, get_other}

-- what a platform asks of a mind is the same of a stand with an entry more
thought_given : {V : Type 0} (k : Kind V) (n a : ℕ) (phase : Phase) (e : Option Message) (m : Seated V) (t : Option Thought) → ThoughtFits (seated k) n a phase m t → ThoughtFits (seated k) n a phase (given e m) t
thought_given k n a phase e (seat.Own m) t h = h
thought_given k n a Idle e (seat.Stand s) t h = h
thought_given k n a Busy e (seat.Stand s) None h = h
thought_given k n a Busy e (seat.Stand s) (Some t) h = h
thought_given k n a (Gone end) e (seat.Stand s) t h = h

mind_given : {V : Type 0} (k : Kind V) (n a : ℕ) (s : AgentPlace) (e : Option Message) (m : Seated V) (t : Option Thought) → MindFits (seated k) n a s m t → MindFits (seated k) n a s (given e m) t
mind_given k n a s e (seat.Own m) t h = h
mind_given k n a s e (seat.Stand x) t h = record { me = h.me; agents_are = h.agents_are; made = h.made; thought = thought_given k n a s.phase e (seat.Stand x) t h.thought }

fit_at : {V : Type 0} (k : Kind V) (n b : ℕ) (s : AgentPlace) (m : V) (t : Option Thought) (o : Option V) (p : Option (Option Thought)) → o ≡ Some m → p ≡ Some t → MindFits k n b s m t → FitsAt k n b s o p
fit_at k n b s m t o p d e h = rw (d, e) h

given_at : {V : Type 0} (k : Kind V) (seats : List AgentPlace) (minds : List (Seated V)) (thoughts : List (Option Thought)) (i b : ℕ) (e : Option Message) → AllFit (seated k) seats minds thoughts →
    IsAgent (length seats) b → FitsAt (seated k) (length seats) b (seat_of seats b) (slice_get (change i (given e) minds) (b - 1)) (slice_get thoughts (b - 1))
given_at k seats minds thoughts i b e h j =
    let r = agent_fits (seated k) seats minds thoughts b h j in
    elim (same_or i (b - 1)) [
      | inl s ↦ fit_at (seated k) (length seats) b (seat_of seats b) (given e r.mind) r.thought _ _
          (ap (λ x. slice_get (change x (given e) minds) (b - 1)) s ∙ get_changed (b - 1) (given e) minds r.mind r.mind_is) r.thought_is
          (mind_given k (length seats) b (seat_of seats b) e r.mind r.thought r.fits)
      | inr n ↦ fit_at (seated k) (length seats) b (seat_of seats b) r.mind r.thought _ _ (get_other i (b - 1) (given e) minds n ∙ r.mind_is) r.thought_is r.fits
    ]

fit_fed : {V : Type 0} (k : Kind V) (seats : List AgentPlace) (minds : List (Seated V)) (thoughts : List (Option Thought)) (i : ℕ) (e : Option Message) → AllFit (seated k) seats minds thoughts →
    AllFit (seated k) seats (change i (given e) minds) thoughts
fit_fed k seats minds thoughts i e h = record {
  minds_are = change_length i (given e) minds ∙ h.minds_are;
  thoughts_are = h.thoughts_are;
  each = λ b j. given_at k seats minds thoughts i b e h j;
}

-- whatever was given
pub fit_given_by : {V C : Type 0} (k : Kind V) (got : C → ℕ → Option Message → C → Type 0) (put : C → Message → C → Type 0) (from to : C) (seats : List AgentPlace) (old new : Placed V)
    (thoughts : List (Option Thought)) (a : ℕ) (message : Option Message) → AllFit (seated k) seats old.minds thoughts → IsGiven got put from to old new a message → AllFit (seated k) seats new.minds thoughts
fit_given_by k got put from to seats old new thoughts a message h (inl g) = let P = λ (x : Placed _). AllFit (seated k) seats x.minds thoughts in subst P (sym g.same) h
fit_given_by k got put from to seats old new thoughts a message h (inr g) =
    let P = λ (x : List (Seated _)). AllFit (seated k) seats x thoughts in
    subst P (sym g.minds) (fit_fed k seats old.minds thoughts (a - 1) g.entry h)

-- ---- what the calls of a turn ask for

-- as many scripts as minds
pub given_lengths : {V C : Type 0} (got : C → ℕ → Option Message → C → Type 0) (put : C → Message → C → Type 0) (from to : C) (old new : Placed V) (a : ℕ) (message : Option Message) →
    IsGiven got put from to old new a message → length old.scripts ≡ length old.minds → length new.scripts ≡ length new.minds
given_lengths got put from to old new a message (inl g) h = subst (λ (x : Placed _). length x.scripts ≡ length x.minds) (sym g.same) h
given_lengths got put from to old new a message (inr g) h =
    ap length g.scripts ∙ change_length (a - 1) (longer g.entry) old.scripts ∙ h ∙ sym (change_length (a - 1) (given g.entry) old.minds) ∙ sym (ap length g.minds)

pub thought_lengths : {V X : Type 0} (scripts : List X) (minds after : List V) (i : ℕ) (m : V) → length scripts ≡ length minds → after ≡ slice_set minds i m → length scripts ≡ length after
thought_lengths scripts minds after i m h e = h ∙ sym (length-set minds i m) ∙ sym (ap length e)
