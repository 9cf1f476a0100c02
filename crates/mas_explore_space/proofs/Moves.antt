-- What rows stand for the states to which moves lead.
use Rattle.std.proofs.Common.{ℕ, zero, suc, ◌≡◌, ◌+◌, ◌-◌, ◌<◌, ◌≤◌, arith, Bool, true, false, not, ◌&&◌, ◌||◌, if◌then◌else◌, is_some, IfSome, All, List, [], ◌∷◌, ◌++◌, length, drop, slice_get, slice_set, Option, None, Some, refl, ap, sym, ◌∙◌, subst}
use Rattle.std.proofs.lemmas.Option.{same_Some, none-some, slice_get_within}
use Rattle.asl_term.specs.Names.{name_at}
use Rattle.asl_term.specs.declared.syntax.LiteralOf.{LiteralOf}
use Rattle.asl_term.specs.declared.syntax.Term.{Term}
use Rattle.mas_mind.specs.declared.mind.Message.{Message}
use Rattle.mas_mind.specs.declared.mind.Input.{Input}
use Rattle.mas_mind.specs.declared.mind.Outs.{Outs}
use Rattle.mas_mind.specs.declared.mind.End.{End}
use Rattle.mas_mind.specs.declared.mind.End.TheVariants.{Stopped, Budget}
use Rattle.mas_mind.specs.declared.mind.Feedback.{Feedback}
use Rattle.mas_mind.specs.declared.mind.Thought.{Thought}
use Rattle.mas_mind.specs.declared.mind.Thought.TheVariants as thought
use Rattle.mas_mind.specs.Minds as mind
use Rattle.mas_mind.specs.Minds.{Cycled, Kind, IsAgent, IsFor, IsFrom, AreOuts, AreLawful, asks_feedback}
use Rattle.mas_world.specs.Worlds.{World}
use Rattle.mas_world.specs.Seen.{seen as sees}
use Rattle.mas_board.specs.Boards as board
use Rattle.mas_board.specs.Boards.{box_or_none, box_of, oldest, later, put_last, posted, acted_as}
use Rattle.mas_core.specs.Platform.{tell}
use Rattle.mas_free.specs.Free as free
use Rattle.mas_free.specs.Free.{Free, Stage, own_name, input_for, carry_nothing, stage_after, staged, thought_by, think, cycled, carried, move, move_in}
use Rattle.mas_free.specs.Covers.{Start}
use Rattle.mas_free.proofs.Stages.{moves_in, are_empty}
use Rattle.mas_explore_minds.specs.Minds.{or_none, Stay, input_at, MayThink, MayCycle, LeadsTo, LedTo, ThinksTo}
use Rattle.mas_explore_minds.specs.declared.heard.Cycle.{Cycle}
use Rattle.mas_explore_minds.specs.declared.heard.Thinking.{Thinking}
use Rattle.mas_explore_minds.specs.declared.heard.Thinking.TheVariants.{Nothing, Led}
use Rattle.mas_explore_worlds.specs.Worlds.{name_or_none, name_of}
use Rattle.mas_explore_space.specs.declared.held.Held.{Held}
use Rattle.mas_explore_space.specs.declared.held.Seeing.{Seeing}
use Rattle.mas_explore_space.specs.declared.row.Row.{Row}
use Rattle.mas_explore_space.specs.declared.row.Seat.{Seat}
use Rattle.mas_explore_space.specs.declared.row.Stance.{Stance}
use Rattle.mas_explore_space.specs.declared.row.Stance.TheVariants as stance
use Rattle.mas_explore_space.specs.Held.{minds_of, worlds_of, IsSeen, Grows}
use Rattle.mas_explore_space.specs.Rows.{IsBusy, StanceHolds, SeatHolds, RowHolds, Comes, with_stance, with_seat, IsFront, IsRest, IsWith, stance_after}
use Rattle.mas_explore_space.proofs.Helds.{grows_same}
use Rattle.mas_explore_space.proofs.Puts.{put_set, put_same, all_later, all_last, all_at}
use Rattle.mas_explore_space.proofs.Rows.{row_put}

pub name-same : (o : Option (List ℕ)) → name_or_none o ≡ board.name_or_none o
name-same None = refl
name-same (Some name) = refl

module _ {V : Type 0} (k : Kind V) (s : Start V) (h : Held) (most : ℕ) (row : Row) (f : Free V) (a : ℕ) (seat : Seat) (x : RowHolds k s h most row f) (i : IsAgent (length s.names) a)
    (e : slice_get row.seats (a - 1) ≡ Some seat) where
  abbrev pub here : SeatHolds k s h most f (a - 1) seat
  here = x.each (a - 1) seat e

  pub in-seats : a - 1 < length row.seats
  in-seats = slice_get_within row.seats (a - 1) seat e

  pub in-stages : a - 1 < length f.stages
  in-stages = (let l = in-seats in let n = x.stages in omega arith)

  pub in-minds : a - 1 < length f.minds
  in-minds = (let l = in-seats in let n = x.minds in omega arith)

  pub in-boxes : a - 1 < length f.boxes
  in-boxes = (let l = in-seats in let n = x.boxes in omega arith)

  pub agent : IsAgent (length f.stages) a
  agent = (let l = i.from_one in let m = i.named in let n = x.stages in let o = x.number in record { from_one = l; named = omega arith })

  pub stance-at : (st : Stance) → seat.stance ≡ st → StanceHolds k (length s.names) (a - 1 + 1) h.minds.thoughts here.mind here.stage st
  stance-at st q = (let P = λ (z : Stance). StanceHolds k (length s.names) (a - 1 + 1) h.minds.thoughts here.mind here.stage z in subst P q here.holds)

  -- ---- agents that leave, or have left

  pub stop_moves : seat.stance ≡ stance.Idle → row.stop ≡ true → move k f a ≡ Some (staged f a (free.Left Stopped))
  stop_moves q r = moves_in k f a (Some free.Idle) agent (here.stage_is ∙ ap Some (stance-at stance.Idle q).0) ∙
      ap (λ (b : Bool). if b then Some (staged f a (free.Left Stopped)) else think k f a (slice_get f.minds (a - 1))) (x.stop ∙ r)

  pub spent_moves : seat.stance ≡ stance.Spent → move k f a ≡ Some (staged f a (free.Left Budget))
  spent_moves q = moves_in k f a (Some free.Spent) agent (here.stage_is ∙ ap Some (stance-at stance.Spent q))

  pub left_moves : (end : End) → seat.stance ≡ stance.Left end → move k f a ≡ None
  left_moves end q = moves_in k f a (Some (free.Left end)) agent (here.stage_is ∙ ap Some (stance-at (stance.Left end) q))

  pub leave_comes : (end : End) → move k f a ≡ Some (staged f a (free.Left end)) → Comes k s h (most + 1) f a (with_stance row (a - 1) seat (stance.Left end))
  leave_comes end m =
      let put = put_set f.stages (a - 1) (free.Left end) in-stages in
      let y = here in
      record {
        next = staged f a (free.Left end);
        moved = m;
        holds = row_put k s h h most (most + 1) row (with_stance row (a - 1) seat (stance.Left end)) f (staged f a (free.Left end)) (a - 1) (record seat { stance = stance.Left end }) y.mind y.box (free.Left end)
            (grows_same k s h) (omega arith) x (put_set row.seats (a - 1) (record seat { stance = stance.Left end }) in-seats) (put_same f.minds (a - 1) y.mind y.mind_is)
            (put_same f.boxes (a - 1) y.box y.box_is) put refl x.world_at x.stop (record {
              mind = y.mind;
              mind_at = y.mind_at;
              mind_is = y.mind_is;
              box = y.box;
              box_at = y.box_at;
              box_is = y.box_is;
              stage = free.Left end;
              stage_is = put.here;
              me = y.me;
              agents = y.agents;
              made = (let n = y.made in omega arith);
              delivered = y.delivered;
              holds = refl;
            });
      }

  -- ---- an agent that makes a cycle

  module _ (idle : seat.stance ≡ stance.Idle) (sight front : ℕ) (seen : IsSeen s h (record { world = row.world; agent = a }) sight) (fronts : IsFront h.minds.boxes seat.mail front) where
    free-mind : k.awaits here.mind ≡ false
    free-mind = (stance-at stance.Idle idle).1

    same-box : fronts.box ≡ here.box
    same-box = same_Some fronts.box here.box (sym fronts.box_at ∙ here.box_at)

    sent : IfSome (slice_get fronts.fronts 0) (IsFor (k.me here.mind) (k.agents here.mind))
    sent =
        let P = λ (o : Option Message). IfSome o (IsFor (k.me here.mind) (k.agents here.mind)) in
        let Q = λ (n : ℕ). IfSome (slice_get here.box 0) (IsFor n (k.agents here.mind)) in
        let R = λ (n : ℕ). IfSome (slice_get here.box 0) (IsFor (a - 1 + 1) n) in
        let first : slice_get fronts.fronts 0 ≡ slice_get here.box 0 = fronts.first ∙ ap (λ (b : List Message). slice_get b 0) same-box in
        subst P (sym first) (subst Q (sym here.me) (subst R (sym here.agents) (by here.box here.delivered)))
      where
        by : (box : List Message) → All (IsFor (a - 1 + 1) (length s.names)) box → IfSome (slice_get box 0) (IsFor (a - 1 + 1) (length s.names))
        by [] d = tt
        by (m ∷ box) d = all_at (IsFor (a - 1 + 1) (length s.names)) (m ∷ box) 0 m d refl

    pub may_cycle : most < 1000000 → MayCycle k s.minds h.minds (record { mind = seat.mind; sight = sight; front = front })
    may_cycle l = record {
      before = here.mind;
      at = here.mind_at;
      may = record {
        free = free-mind;
        short = (let n = here.made in omega arith);
        percepts = sees seen.world (name_of s.names a);
        sight_at = seen.sight_at;
        ground = seen.ground;
        box = fronts.fronts;
        front_at = fronts.front_at;
        sent = sent;
      };
    }

    input-is : input_at h.minds.sights h.minds.boxes sight front ≡ input_for f a
    input-is =
        let world : seen.world ≡ f.world = same_Some seen.world f.world (sym seen.world_at ∙ x.world_at) in
        let name : name_of s.names a ≡ own_name f a = name-same (name_at s.names a) ∙ ap (λ (n : List (List ℕ)). board.name_or_none (name_at n a)) (sym x.names) in
        let percepts : or_none (slice_get h.minds.sights sight) ≡ sees f.world (own_name f a) =
        ap or_none seen.sight_at ∙ (λ j. sees (world j) (name j)) in
        let box : here.box ≡ box_of f.boxes a = sym (ap box_or_none here.box_is) in
        let message : slice_get (or_none (slice_get h.minds.boxes front)) 0 ≡ oldest (box_of f.boxes a) =
        ap (λ (o : Option (List Message)). slice_get (or_none o) 0) fronts.front_at ∙ fronts.first ∙ ap (λ (b : List Message). slice_get b 0) same-box ∙ ap oldest box in
        λ j. record { percepts = percepts j; message = message j }

    module _ (running : row.stop ≡ false) (comes : Thinking) (thinks : ThinksTo k s.minds h.minds (record { mind = seat.mind; sight = sight; front = front }) comes) where
      same-mind : thinks.may.before ≡ here.mind
      same-mind = same_Some thinks.may.before here.mind (sym thinks.may.at ∙ here.mind_at)

      abbrev c : Cycled V
      c = k.cycle here.mind (input_for f a)

      leads : LeadsTo k s.minds h.minds (input_for f a) c comes
      leads =
          let P = λ (j : Input). LeadsTo k s.minds h.minds j (k.cycle thinks.may.before j) comes in
          let Q = λ (m : V). LeadsTo k s.minds h.minds (input_for f a) (k.cycle m (input_for f a)) comes in
          subst Q same-mind (subst P input-is thinks.leads)

      lawful : AreLawful (k.me here.mind) (k.agents here.mind) c.thought
      lawful =
          let P = λ (j : Input). AreLawful (k.me thinks.may.before) (k.agents thinks.may.before) (k.cycle thinks.may.before j).thought in
          let Q = λ (m : V). AreLawful (k.me m) (k.agents m) (k.cycle m (input_for f a)).thought in
          subst Q same-mind (subst P input-is thinks.lawful)

      moves-by : move k f a ≡ cycled f a (input_for f a) c
      moves-by = moves_in k f a (Some free.Idle) agent (here.stage_is ∙ ap Some (stance-at stance.Idle idle).0) ∙
          ap (λ (b : Bool). if b then Some (staged f a (free.Left Stopped)) else think k f a (slice_get f.minds (a - 1))) (x.stop ∙ running) ∙ ap (think k f a) here.mind_is

      pub nothing_moves : comes ≡ Nothing → move k f a ≡ None
      nothing_moves q =
          let P = λ (r : Thinking). LeadsTo k s.minds h.minds (input_for f a) c r in
          let n : free.is_nothing (input_for f a) c.thought ≡ true = subst P q leads in
          moves-by ∙ ap (λ (b : Bool). if b then None else Some (thought_by f a c)) n

      stance-by : (n : ℕ) (t : Thought) → k.awaits c.mind ≡ asks_feedback t → AreLawful (k.me here.mind) (k.agents here.mind) t → slice_get h.minds.thoughts n ≡ Some t →
          StanceHolds k (length s.names) (a - 1 + 1) h.minds.thoughts c.mind (stage_after t) (stance_after n t)
      stance-by n thought.Spent w l q = refl
      stance-by n (thought.Outs outs) w l q = by (carry_nothing outs) refl
        where
          by : (b : Bool) → carry_nothing outs ≡ b → StanceHolds k (length s.names) (a - 1 + 1) h.minds.thoughts c.mind (if b then free.Idle else free.Busy outs) (if b then stance.Idle else stance.Busy n)
          by true r = (refl, w ∙ ap is_some (are_empty outs r).action)
          by false r =
              let P = λ (m : ℕ). AreOuts m (k.agents here.mind) outs in
              let Q = λ (m : ℕ). AreOuts (a - 1 + 1) m outs in
              record { outs = outs; at = q; some = r; stage_is = refl; awaits = w; lawful = subst Q here.agents (subst P here.me l) }

      pub led_comes : ((m : V) (j : Input) → k.awaits (k.cycle m j).mind ≡ asks_feedback (k.cycle m j).thought) → ((m : V) (j : Input) → mind.Grows k m (k.cycle m j).mind 1) →
          (n t rest : ℕ) (st : Stance) → comes ≡ Led n t → IsRest h.minds.boxes seat.mail rest → ((z : Thought) → slice_get h.minds.thoughts t ≡ Some z → st ≡ stance_after t z) →
          Comes k s h (most + 1) f a (with_seat row (a - 1) (record { mind = n; mail = rest; stance = st }))
      led_comes awaits goes n t rest st q r z =
          let P = λ (y : Thinking). LeadsTo k s.minds h.minds (input_for f a) c y in
          let led : LedTo k s.minds h.minds (input_for f a) c n t = subst P q leads in
          let g = thought_by f a c in
          let own : Seat = record { mind = n; mail = rest; stance = st } in
          let grew = goes here.mind (input_for f a) in
          let same : r.box ≡ here.box = same_Some r.box here.box (sym r.box_at ∙ here.box_at) in
          let box : here.box ≡ box_of f.boxes a = sym (ap box_or_none here.box_is) in
          let rests : drop 1 r.box ≡ later (box_of f.boxes a) = ap (drop 1) (same ∙ box) in
          let minds = put_set f.minds (a - 1) c.mind in-minds in
          let boxes = put_set f.boxes (a - 1) (later (box_of f.boxes a)) in-boxes in
          let stages = put_set f.stages (a - 1) (stage_after c.thought) in-stages in
          let stands = stance-by t c.thought (awaits here.mind (input_for f a)) lawful led.thought_at in
          let T = λ (y : Stance). StanceHolds k (length s.names) (a - 1 + 1) h.minds.thoughts c.mind (stage_after c.thought) y in
          let D = λ (b : List Message). All (IsFor (a - 1 + 1) (length s.names)) b in
          record {
            next = g;
            moved = moves-by ∙ ap (λ (b : Bool). if b then None else Some (thought_by f a c)) led.some;
            holds = row_put k s h h most (most + 1) row (with_seat row (a - 1) own) f g (a - 1) own c.mind (later (box_of f.boxes a)) (stage_after c.thought) (grows_same k s h) (omega arith) x
                (put_set row.seats (a - 1) own in-seats) minds boxes stages refl x.world_at x.stop (record {
                  mind = c.mind;
                  mind_at = led.mind_at;
                  mind_is = minds.here;
                  box = later (box_of f.boxes a);
                  box_at = r.rest_at ∙ ap Some rests;
                  box_is = boxes.here;
                  stage = stage_after c.thought;
                  stage_is = stages.here;
                  me = grew.me ∙ here.me;
                  agents = grew.agents ∙ here.agents;
                  made = (let m = grew.made in let l = here.made in omega arith);
                  delivered = subst D (ap (drop 1) box) (all_later (IsFor (a - 1 + 1) (length s.names)) here.box here.delivered);
                  holds = subst T (sym (z c.thought led.thought_at)) stands;
                });
          }
