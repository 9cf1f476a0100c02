-- The turns of a site.
use Rattle.std.proofs.Common.{ℕ, ◌≡◌, ◌-◌, ◌≤◌, inl, inr, arith, true, false, true≢false, List, [], ◌∷◌, ◌++◌, length, slice_get, slice_set, Option, None, Some, refl, ap, sym, ◌∙◌, subst}
use Rattle.std.proofs.lemmas.List.{length-append}
use Rattle.std.proofs.lemmas.Option.{same_Some}
use Rattle.mas_mind.specs.declared.mind.Input.{Input}
use Rattle.mas_mind.specs.declared.mind.End.{End}
use Rattle.mas_mind.specs.declared.mind.Feedback.{Feedback}
use Rattle.mas_mind.specs.declared.mind.Message.{Message}
use Rattle.mas_mind.specs.declared.mind.Outs.{Outs}
use Rattle.mas_mind.specs.declared.mind.Thought.TheVariants.{Outs as Acts, Spent}
use Rattle.mas_mind.specs.Minds.{Kind, IsAgent}
use Rattle.mas_board.specs.declared.seats.Phase.{Phase}
use Rattle.mas_board.specs.declared.seats.Phase.TheVariants.{Idle, Busy, Left as Gone}
use Rattle.mas_board.specs.declared.seats.Sensed.{Sensed}
use Rattle.mas_board.specs.declared.seats.Sensed.TheVariants.{Input as Given, Left, Ahead}
use Rattle.mas_board.specs.Boards.{State, seat_at, sense, emit, leave}
use Rattle.mas_core.specs.Platform.{Platform, turn, think, after_sense, after_thought, after_emit, after_leave, thought_by, with_board}
use Rattle.mas_core.proofs.Goes.{turn-of}
use Rattle.mas_sites_stand.specs.declared.seated.Seated.{Seated}
use Rattle.mas_sites_stand.specs.declared.seated.Seated.TheVariants as seat
use Rattle.mas_sites_stand.specs.Seats.{seated, seated_cycle}
use Rattle.mas_sites_scripts.specs.Scripts.{Script, given}
use Rattle.mas_sites_scripts.specs.Giving.{HasEntry, Placed, IsGiven}
use Rattle.mas_sites_scripts.specs.Sites.{Sited, fed, placed, with_minds, IsAlong, GoesAlong, PassesAt, PassesIn, IsMade, IsFinished}
use Rattle.mas_sites_scripts.proofs.Changes.{get_changed}
use Rattle.mas_sites_scripts.proofs.Numbers.{same_number}
use Rattle.mas_sites_scripts.proofs.Along.{feeds, thinks_along, tells_along, leaves_along}

-- ---- what each turn of a platform comes to

pub input_turn : {V : Type 0} (k : Kind V) (p : Platform V) (minds : List V) (a : ℕ) (input : Input) (board : State) (m : V) → IsAgent (length p.board.seats) a → (seat_at p.board a).phase ≡ Idle →
    (Given input, board) ≡ sense p.board a → slice_get minds (a - 1) ≡ Some m → turn k (with_minds p minds) a ≡ Some (thought_by (with_minds p minds) a board (k.cycle m input))
input_turn k p minds a input board m j i e is =
    turn-of k (with_minds p minds) a Idle j i ∙ ap (after_sense k (with_minds p minds) a) (sym e) ∙ ap (think k (with_minds p minds) a board input) is

pub left_turn : {V : Type 0} (k : Kind V) (p : Platform V) (a : ℕ) (end : End) (board : State) → IsAgent (length p.board.seats) a → (seat_at p.board a).phase ≡ Idle →
    (Left end, board) ≡ sense p.board a → turn k p a ≡ Some (with_board p board)
left_turn k p a end board j i e = turn-of k p a Idle j i ∙ ap (after_sense k p a) (sym e)

pub emit_turn : {V : Type 0} (k : Kind V) (p : Platform V) (a : ℕ) (outs : Outs) (feedback : Option Feedback) (board : State) → IsAgent (length p.board.seats) a → (seat_at p.board a).phase ≡ Busy →
    slice_get p.thoughts (a - 1) ≡ Some (Some (Acts outs)) → (feedback, board) ≡ emit p.board a outs → turn k p a ≡ Some (after_emit k p a (feedback, board))
emit_turn k p a outs feedback board j b t e = turn-of k p a Busy j b ∙ ap (after_thought k p a) t ∙ ap (λ x. Some (after_emit k p a x)) (sym e)

pub spent_turn : {V : Type 0} (k : Kind V) (p : Platform V) (a : ℕ) → IsAgent (length p.board.seats) a → (seat_at p.board a).phase ≡ Busy →
    slice_get p.thoughts (a - 1) ≡ Some (Some Spent) → turn k p a ≡ Some (after_leave p a (leave p.board a))
spent_turn k p a j b t = turn-of k p a Busy j b ∙ ap (after_thought k p a) t

-- ---- a site goes along its scripts

-- a site with these minds and scripts
abbrev with_placed : {V : Type 0} → Sited V → Placed V → Sited V
with_placed s x = record { platform = with_minds s.platform x.minds; schedule = s.schedule; scripts = x.scripts }

given_along : {V C : Type 0} (k : Kind V) (got : C → ℕ → Option Message → C → Type 0) (put : C → Message → C → Type 0) (from to : C) (old : Sited V) (new : Placed V) (a : ℕ) (message : Option Message) →
    IsGiven got put from to (placed old) new a message → GoesAlong k old (with_placed old new)
given_along k got put from to old new a message (inl g) board minds h = let P = λ (x : Placed _). IsAlong k board minds (with_placed old x) in subst P (sym g.same) h
given_along k got put from to old new a message (inr g) board minds h =
    let P = λ (x : List (Seated _) × List Script). IsAlong k board minds (with_placed old (record { minds = x.0; scripts = x.1 })) in
    let f : IsAlong k board minds (fed a g.entry old) = feeds k board minds old a g.entry h in
    subst P (λ i. (sym g.minds i, sym g.scripts i)) f

has_one : (script : Script) (e : Option Message) → 1 ≤ length (script ++ e ∷ [])
has_one script e = let l = length-append script (e ∷ []) in omega (arith, l)

given_has : {V C : Type 0} (got : C → ℕ → Option Message → C → Type 0) (put : C → Message → C → Type 0) (from to : C) (old new : Placed V) (a : ℕ) (message : Option Message) (m : Seated V) →
    IsGiven got put from to old new a message → slice_get new.minds (a - 1) ≡ Some m → HasEntry m
given_has got put from to old new a message m (inl g) is =
    let e : seat.Own g.own ≡ m = same_Some _ _ (sym g.is ∙ ap (λ x. slice_get x.minds (a - 1)) (sym g.same) ∙ is) in
    subst HasEntry e tt
given_has got put from to old new a message m (inr g) is =
    let c = get_changed (a - 1) (given g.entry) old.minds (seat.Stand g.stand) g.is in
    let e : given g.entry (seat.Stand g.stand) ≡ m = same_Some _ _ (sym c ∙ ap (λ x. slice_get x (a - 1)) (sym g.minds) ∙ is) in
    subst HasEntry e (has_one g.stand.script g.entry)

pub begun_along : {V C : Type 0} (k : Kind V) (got : C → ℕ → Option Message → C → Type 0) (put : C → Message → C → Type 0) (from to : C) (old new : Sited V) (after : Placed V) (a : ℕ)
    (message : Option Message) (m : Seated V) (i : Input) → IsGiven got put from to (placed old) after a message → slice_get after.minds (a - 1) ≡ Some m →
    turn (seated k) (with_minds old.platform after.minds) a ≡ Some new.platform → new.schedule ≡ old.schedule ++ a ∷ [] → new.scripts ≡ after.scripts →
    new.platform.minds ≡ slice_set after.minds (a - 1) (seated_cycle k m i).mind → GoesAlong k old new
begun_along k got put from to old new after a message m i g is t s c n board minds h =
    thinks_along k board minds (with_placed old after) new a m i (given_along k got put from to old after a message g board minds h) t s c is
    (given_has got put from to (placed old) after a message m g is) n

-- ---- what the calls leave

passes_idle : {V C : Type 0} (got : C → ℕ → Option Message → C → Type 0) (put : C → Message → C → Type 0) (from to : C) (old : Sited V) (after : Placed V) (a : ℕ) (input : Input) (board : State) →
    (seat_at old.platform.board a).phase ≡ Idle → (Given input, board) ≡ sense old.platform.board a → IsGiven got put from to (placed old) after a input.message →
    PassesIn got put from to old after a (seat_at old.platform.board a).phase
passes_idle got put from to old after a input board i e g =
    subst (λ (x : Phase). PassesIn got put from to old after a x) (sym i) (subst (λ (x : Sensed × State). PassesAt got put from to (placed old) after a x.0) e g)

passes_left : {V C : Type 0} (got : C → ℕ → Option Message → C → Type 0) (put : C → Message → C → Type 0) (from : C) (old : Sited V) (a : ℕ) (end : End) (board : State) →
    (seat_at old.platform.board a).phase ≡ Idle → (Left end, board) ≡ sense old.platform.board a → PassesIn got put from from old (placed old) a (seat_at old.platform.board a).phase
passes_left got put from old a end board i e =
    subst (λ (x : Phase). PassesIn got put from from old (placed old) a x) (sym i) (subst (λ (x : Sensed × State). PassesAt got put from from (placed old) (placed old) a x.0) e (refl, refl))

pub was_given : {V C : Type 0} (k : Kind V) (got : C → ℕ → Option Message → C → Type 0) (put : C → Message → C → Type 0) (from to : C) (old new : Sited V) (after : Placed V) (a : ℕ)
    (input : Input) (board : State) (m : Seated V) → IsAgent (length old.platform.board.seats) a → (seat_at old.platform.board a).phase ≡ Idle → (Given input, board) ≡ sense old.platform.board a →
    IsGiven got put from to (placed old) after a input.message → slice_get after.minds (a - 1) ≡ Some m →
    new.platform ≡ thought_by (with_minds old.platform after.minds) a board (seated_cycle k m input) → new.schedule ≡ old.schedule ++ a ∷ [] → new.scripts ≡ after.scripts →
    IsMade k got put from to old new a true
was_given k got put from to old new after a input board m j i e g is n s c =
    let t : turn (seated k) (with_minds old.platform after.minds) a ≡ Some new.platform = input_turn (seated k) old.platform after.minds a input board m j i e is ∙ ap Some (sym n) in
    let l : GoesAlong k old new = begun_along k got put from to old new after a input.message m input g is t s c (ap (λ p. p.minds) n) in
    record {
      turned = λ _. record {
        after = after;
        passes = passes_idle got put from to old after a input board i e g;
        turn = t;
        scripts = c;
        schedule = s;
        along = l;
      };
      refused = λ f. absurd (true≢false f);
      none = λ f. absurd (true≢false f);
      along = l;
      number = same_number (seated k) (with_minds old.platform after.minds) new.platform a t;
    }

pub was_left : {V C : Type 0} (k : Kind V) (got : C → ℕ → Option Message → C → Type 0) (put : C → Message → C → Type 0) (from : C) (old new : Sited V) (a : ℕ) (end : End) (board : State) →
    IsAgent (length old.platform.board.seats) a → (seat_at old.platform.board a).phase ≡ Idle → (Left end, board) ≡ sense old.platform.board a →
    new.platform ≡ with_board old.platform board → new.schedule ≡ old.schedule ++ a ∷ [] → new.scripts ≡ old.scripts → IsMade k got put from from old new a true
was_left k got put from old new a end board j i e n s c =
    let t : turn (seated k) old.platform a ≡ Some new.platform = left_turn (seated k) old.platform a end board j i e ∙ ap Some (sym n) in
    let l : GoesAlong k old new = λ b minds h. leaves_along k b minds old new a h t s c (ap (λ p. p.minds) n) in
    record {
      turned = λ _. record { after = placed old; passes = passes_left got put from old a end board i e; turn = t; scripts = c; schedule = s; along = l };
      refused = λ f. absurd (true≢false f);
      none = λ f. absurd (true≢false f);
      along = l;
      number = same_number (seated k) old.platform new.platform a t;
    }

pub was_ahead : {V C : Type 0} (k : Kind V) (got : C → ℕ → Option Message → C → Type 0) (put : C → Message → C → Type 0) (from : C) (old new : Sited V) (a : ℕ) → new ≡ old → turn (seated k) old.platform a ≡ None →
    IsMade k got put from from old new a false
was_ahead k got put from old new a e t = record {
  turned = λ f. absurd (true≢false (sym f));
  refused = λ _. (e, refl);
  none = λ _. t;
  along = λ b minds h. subst (λ (x : Sited _). IsAlong k b minds x) (sym e) h;
  number = ap (λ s. length s.platform.board.seats) e;
}

pub was_emitted : {V : Type 0} (k : Kind V) (old new : Sited V) (a : ℕ) (outs : Outs) (feedback : Option Feedback) (board : State) → IsAgent (length old.platform.board.seats) a →
    (seat_at old.platform.board a).phase ≡ Busy → slice_get old.platform.thoughts (a - 1) ≡ Some (Some (Acts outs)) → (feedback, board) ≡ emit old.platform.board a outs →
    new.platform ≡ after_emit (seated k) old.platform a (feedback, board) → new.schedule ≡ old.schedule ++ a ∷ [] → new.scripts ≡ old.scripts → IsFinished k old a new
was_emitted k old new a outs feedback board j b t e n s c =
    let u : turn (seated k) old.platform a ≡ Some new.platform = emit_turn (seated k) old.platform a outs feedback board j b t e ∙ ap Some (sym n) in
    record { turn = u; scripts = c; schedule = s; along = λ d minds h. tells_along k d minds old new a feedback h u s c (ap (λ p. p.minds) n) }

pub was_spent : {V : Type 0} (k : Kind V) (old new : Sited V) (a : ℕ) → IsAgent (length old.platform.board.seats) a → (seat_at old.platform.board a).phase ≡ Busy →
    slice_get old.platform.thoughts (a - 1) ≡ Some (Some Spent) → new.platform ≡ after_leave old.platform a (leave old.platform.board a) → new.schedule ≡ old.schedule ++ a ∷ [] →
    new.scripts ≡ old.scripts → IsFinished k old a new
was_spent k old new a j b t n s c =
    let u : turn (seated k) old.platform a ≡ Some new.platform = spent_turn (seated k) old.platform a j b t ∙ ap Some (sym n) in
    record { turn = u; scripts = c; schedule = s; along = λ d minds h. leaves_along k d minds old new a h u s c (ap (λ p. p.minds) n) }

-- an idle agent that has to wait has no turn
pub ahead_turn : {V : Type 0} (k : Kind V) (p : Platform V) (a cycle lowest : ℕ) (board : State) → IsAgent (length p.board.seats) a → (seat_at p.board a).phase ≡ Idle →
    (Ahead cycle lowest, board) ≡ sense p.board a → turn k p a ≡ None
ahead_turn k p a cycle lowest board j i e = turn-of k p a Idle j i ∙ ap (after_sense k p a) (sym e)

-- one that has left has none
pub gone_turn : {V : Type 0} (k : Kind V) (p : Platform V) (a : ℕ) (end : End) → IsAgent (length p.board.seats) a → (seat_at p.board a).phase ≡ Gone end → turn k p a ≡ None
gone_turn k p a end j g = turn-of k p a (Gone end) j g

-- the turn of a busy agent, as one of a site
pub was_finished : {V C : Type 0} (k : Kind V) (got : C → ℕ → Option Message → C → Type 0) (put : C → Message → C → Type 0) (from : C) (old new : Sited V) (a : ℕ) →
    (seat_at old.platform.board a).phase ≡ Busy → IsFinished k old a new → IsMade k got put from from old new a true
was_finished k got put from old new a b h = record {
  turned = λ _. record {
    after = placed old;
    passes = subst (λ (x : Phase). PassesIn got put from from old (placed old) a x) (sym b) (refl, refl);
    turn = h.turn;
    scripts = h.scripts;
    schedule = h.schedule;
    along = h.along;
  };
  refused = λ f. absurd (true≢false f);
  none = λ f. absurd (true≢false f);
  along = h.along;
  number = same_number (seated k) old.platform new.platform a h.turn;
}
