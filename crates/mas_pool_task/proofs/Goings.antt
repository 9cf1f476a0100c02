-- What each call makes of an agent on its way.
use Rattle.std.proofs.Common.{◌≡◌, ℕ, ◌+◌, Bool, true, false, is_some, List, [], ◌∷◌, ◌++◌, Option, sym, refl, ap, ◌∙◌, subst, append_assoc, arith}
use Rattle.std.specs.Prelude.{MatchBool}
use Rattle.mas_mind.specs.declared.mind.End.{End}
use Rattle.mas_mind.specs.declared.mind.End.TheVariants.{Budget}
use Rattle.mas_mind.specs.declared.mind.Input.{Input}
use Rattle.mas_mind.specs.declared.mind.Outs.{Outs}
use Rattle.mas_mind.specs.declared.mind.Feedback.{Feedback}
use Rattle.mas_mind.specs.declared.mind.Thought.TheVariants.{Outs as Acts, Spent}
use Rattle.mas_mind.specs.Minds.{Kind, Grows}
use Rattle.mas_board.specs.declared.seats.Phase.{Phase}
use Rattle.mas_board.specs.declared.seats.Phase.TheVariants.{Idle}
use Rattle.mas_board.specs.declared.seats.Sensed.TheVariants as answer
use Rattle.mas_board.specs.Boards.{State, is_gone}
use Rattle.mas_board_turns.specs.declared.turn.Turn.{Turn}
use Rattle.mas_board_turns.specs.declared.turn.Turn.TheVariants as turn
use Rattle.mas_board_turns.specs.Turns as turns
use Rattle.mas_board_turns.specs.Turns.{phase_after, cycles_in}
use Rattle.mas_board_turns.specs.Follows.{Thinking, resting, thinking, told, Follows}
use Rattle.mas_board_turns.specs.Cycles.{cycled, Belongs}
use Rattle.mas_board_turns.proofs.Cycles.{phase_snoc, cycles_snoc, acted_some, told_grows, told_awaits, starts, follows_append, went_one, went_more, belongs_on, is_asked}
use Rattle.mas_baton.specs.declared.baton.Baton.{Baton}
use Rattle.mas_baton.specs.declared.seat.Seat.{Seat}
use Rattle.mas_baton.specs.Seats.{turns_of, first_of, phase_of, IsSeatOf, SenseExchanged, IsGiven, EmitExchanged, LeaveExchanged}
use Rattle.mas_pool_task.specs.declared.going.Going.{Going}
use Rattle.mas_pool_task.specs.Goings.{standing, Rests, GoingIsAsked, GoingHasThought, Same, GoingWent, Stopped, Became, Ended}

gone_not : (p : Phase) (e : End) → p ≡ turns.phase_of (turn.Left e) → is_gone p ≡ false → ⊥
gone_not p e h n = let d : true ≡ false = ap is_gone (sym h) ∙ n in cc

turns_on : (g mid new : List Turn) (t : Turn) (more : List Turn) → mid ≡ g ++ t ∷ [] → new ≡ mid ++ more → new ≡ g ++ t ∷ more
turns_on g mid new t more e d = d ∙ ap (λ (l : List Turn). l ++ more) e ∙ append_assoc g (t ∷ []) more

module _ {V A : Type 0} (k : Kind V) where
  -- ---- the same agent

  same_baton : (b : Baton A) (s t : Seat A) → IsSeatOf b s → IsSeatOf b t → (c : Baton A) → IsSeatOf c s → IsSeatOf c t
  same_baton b s t i j c h = record { pass = (j.pass.0 ∙ sym i.pass.0 ∙ h.pass.0, j.pass.1); sits = j.sits; fresh = j.fresh }

  same_by : (b : Baton A) (g : Going V A) (seat : Seat A) (cycle : ℕ) (mind : V) → IsSeatOf b g.seat → IsSeatOf b seat → first_of seat ≡ first_of g.seat → Same g (record { number = g.number; cycle = cycle; seat = seat; mind = mind })
  same_by b g seat cycle mind i j f = record { number = refl; first = f; seat = same_baton b g.seat seat i j }

  belongs_to : (g : Going V A) (seat : Seat A) (mind : V) → Belongs k (standing g) → seat.number ≡ g.seat.number → first_of seat ≡ first_of g.seat → k.me mind ≡ k.me g.mind → k.agents mind ≡ k.agents g.mind
      → Belongs k (record { number = g.number; right = seat.number; board = first_of seat; phase = phase_of seat; cycles = cycles_in (turns_of seat); mind = mind })
  belongs_to g seat mind h n f m a = belongs_on k (standing g) seat.number (first_of seat) (phase_of seat) (cycles_in (turns_of seat)) mind h n f m a

  -- ---- a Sense

  pub asked : (g : Going V A) (seat : Seat A) (input : Input) → Rests k g → SenseExchanged g.seat seat (answer.Input input) → IsGiven g.seat input
      → GoingIsAsked k input (record { number = g.number; cycle = g.cycle; seat = seat; mind = g.mind })
  asked g seat input r e i =
      let x = e.exchanged in
      let busy = ap (phase_after Idle) x.turns ∙ phase_snoc Idle (turns_of g.seat) (turn.Sensed input) in
      let cycles = ap cycles_in x.turns ∙ cycles_snoc (turns_of g.seat) (turn.Sensed input) in
      record {
        asked = is_asked k (standing g) seat.number (first_of seat) (phase_of seat) (cycles_in (turns_of seat)) input r.belongs x.number x.first busy cycles r.made r.awaits i.short i.input_for;
        count = r.count;
      }

  same_on : (b : Baton A) (g h : Going V A) (seat : Seat A) → IsSeatOf b g.seat → IsSeatOf b seat → first_of seat ≡ first_of g.seat → Same (record { number = g.number; cycle = g.cycle; seat = seat; mind = g.mind }) h → Same g h
  same_on b g h seat i j f s = record { number = s.number; first = s.first ∙ f; seat = λ c y. s.seat c (same_baton b g.seat seat i j c y) }

  pub answered : (r : Bool) (b : Baton A) (g h : Going V A) (seat : Seat A) (input : Input) → IsSeatOf b g.seat → IsSeatOf b seat → SenseExchanged g.seat seat (answer.Input input)
      → MatchBool r (GoingWent k (cycled k g.mind input) (record { number = g.number; cycle = g.cycle; seat = seat; mind = g.mind }) h) (Stopped k (cycled k g.mind input) (record { number = g.number; cycle = g.cycle; seat = seat; mind = g.mind }) h)
      → MatchBool r (GoingWent k (resting g.mind) g h) (Stopped k (resting g.mind) g h)
  answered true b g h seat input i j e w = record {
    same = same_on b g h seat i j e.exchanged.first w.same;
    rests = w.rests;
    way = went_more k (resting g.mind) (cycled k g.mind input) (resting h.mind) (turns_of g.seat) (turns_of seat) (turns_of h.seat)
        (went_one k (resting g.mind) (cycled k g.mind input) (turns_of g.seat) (turns_of seat) (turn.Sensed input) refl e.exchanged.turns) w.way;
  }
  answered false b g h seat input i j e w = record {
    same = same_on b g h seat i j e.exchanged.first w.same;
    seat = w.seat;
    more = turn.Sensed input ∷ w.more;
    turns = turns_on (turns_of g.seat) (turns_of seat) (turns_of h.seat) (turn.Sensed input) w.more e.exchanged.turns w.turns;
    follows = λ n. (cycled k g.mind input, refl, w.follows n);
    ends = w.ends;
  }

  pub left : (b : Baton A) (g : Going V A) (seat : Seat A) (end : End) → Rests k g → IsSeatOf b g.seat → IsSeatOf b seat → SenseExchanged g.seat seat (answer.Left end)
      → Stopped k (resting g.mind) g (record { number = g.number; cycle = g.cycle; seat = seat; mind = g.mind })
  left b g seat end r i j e = record {
    same = same_by b g seat g.cycle g.mind i j e.exchanged.first;
    seat = e.exchanged.number ∙ r.belongs.right;
    more = turn.Left end ∷ [];
    turns = e.exchanged.turns;
    follows = λ _. (resting g.mind, refl, refl);
    ends = λ n. absurd (gone_not (phase_of seat) end (ap (phase_after Idle) e.exchanged.turns ∙ phase_snoc Idle (turns_of g.seat) (turn.Left end)) n);
  }

  -- ---- a thought

  pub leaves : (b : Baton A) (g : Going V A) (seat : Seat A) (input : Input) (mind : V) → GoingIsAsked k input g → IsSeatOf b g.seat → IsSeatOf b seat → k.cycle g.mind input ≡ record { mind = mind; thought = Spent } → LeaveExchanged g.seat seat
      → Stopped k (cycled k g.mind input) g (record { number = g.number; cycle = g.cycle + 1; seat = seat; mind = mind })
  leaves b g seat input mind a i j e l =
      let x = l.exchanged in
      record {
        same = same_by b g seat (g.cycle + 1) mind i j x.first;
        seat = x.number ∙ a.asked.belongs.right;
        more = turn.Gone ∷ [];
        turns = x.turns;
        follows = λ _. subst (λ (s : Thinking V). Follows k s (turn.Gone ∷ []) (resting mind)) (starts k g.mind mind input Spent e) (resting mind, refl, refl);
        ends = λ n. absurd (gone_not (phase_of seat) Budget (ap (phase_after Idle) x.turns ∙ phase_snoc Idle (turns_of g.seat) turn.Gone) n);
      }

  -- ---- an Emit

  pub emitted : ((m : V) (f : Feedback) → k.awaits (k.took m f) ≡ false) → ((m : V) (f : Feedback) → Grows k m (k.took m f) 0) → (b : Baton A) (g : Going V A) (seat : Seat A) (mind : V) (outs : Outs) (f : Option Feedback)
      → GoingHasThought k (Acts outs) g → IsSeatOf b g.seat → IsSeatOf b seat → EmitExchanged g.seat seat outs f → mind ≡ told k g.mind f
      → GoingWent k (thinking g.mind (Acts outs)) g (record { number = g.number; cycle = g.cycle; seat = seat; mind = mind })
  emitted law grow b g seat mind outs f h i j e d =
      let x = e.exchanged in
      let grows = told_grows k grow g.mind f in
      let m = grows.made ∙ ap (λ (n : ℕ). n + 0) h.thinks.made in
      let c = h.count in
      let n = cycles_snoc (turns_of g.seat) (turn.Emitted outs f) in
      let t = ap cycles_in x.turns in
      let some = ap (λ (p : Option Feedback × State). is_some p.0) e.answered.state ∙ acted_some _ _ outs.action in
      subst (λ (y : V). GoingWent k (thinking g.mind (Acts outs)) g (record { number = g.number; cycle = g.cycle; seat = seat; mind = y })) (sym d)
      record {
        same = same_by b g seat g.cycle (told k g.mind f) i j x.first;
        rests = record {
          belongs = belongs_to g seat (told k g.mind f) h.thinks.belongs x.number x.first grows.me grows.agents;
          idle = ap (phase_after Idle) x.turns ∙ phase_snoc Idle (turns_of g.seat) (turn.Emitted outs f);
          made = omega arith;
          count = let y = grows.made in omega arith;
          awaits = told_awaits k law g.mind f (h.thinks.awaits ∙ sym some);
        };
        way = went_one k (thinking g.mind (Acts outs)) (resting (told k g.mind f)) (turns_of g.seat) (turns_of seat) (turn.Emitted outs f) (refl, refl) x.turns;
      }

  -- ---- from the opening on

  same_same : (g h n : Going V A) → Same g h → Same h n → Same g n
  same_same g h n s t = record { number = t.number ∙ s.number; first = t.first ∙ s.first; seat = λ b i. t.seat b (s.seat b i) }

  pub became_more : (g h n : Going V A) → Became k g h → GoingWent k (resting h.mind) h n → Became k g n
  became_more g h n c w = record {
    same = same_same g h n c.same w.same;
    rests = w.rests;
    follows = subst (λ (l : List Turn). Follows k (resting g.mind) l (resting n.mind)) (sym w.way.turns) (follows_append k (resting g.mind) (resting h.mind) (resting n.mind) (turns_of h.seat) w.way.more c.follows w.way.follows);
  }

  pub became_ended : (g h n : Going V A) → Became k g h → Stopped k (resting h.mind) h n → Ended k g n
  became_ended g h n c w = record {
    same = same_same g h n c.same w.same;
    seat = w.seat;
    follows = λ p. subst (λ (l : List Turn). Follows k (resting g.mind) l (resting n.mind)) (sym w.turns) (follows_append k (resting g.mind) (resting h.mind) (resting n.mind) (turns_of h.seat) w.more c.follows (w.follows p));
    ends = w.ends;
  }
