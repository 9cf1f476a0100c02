-- What rows stand for the states after outs were carried out.
use Rattle.std.proofs.Common.{ℕ, zero, suc, ◌≡◌, ◌+◌, ◌-◌, ◌<◌, ◌≤◌, arith, Bool, true, false, ◌||◌, is_some, All, List, [], ◌∷◌, ◌++◌, length, slice_get, slice_set, Option, None, Some, refl, ap, sym, ◌∙◌, subst}
use Rattle.std.proofs.lemmas.Option.{same_Some, none-some, slice_get_within}
use Rattle.asl_term.specs.Names.{name_at}
use Rattle.asl_term.specs.declared.syntax.LiteralOf.{LiteralOf}
use Rattle.asl_term.specs.declared.syntax.Term.{Term}
use Rattle.mas_mind.specs.declared.mind.Message.{Message}
use Rattle.mas_mind.specs.declared.mind.Outs.{Outs}
use Rattle.mas_mind.specs.declared.mind.Feedback.{Feedback}
use Rattle.mas_mind.specs.Minds as mind
use Rattle.mas_mind.specs.Minds.{Kind, IsAgent, IsFor, IsFrom, AreOuts}
use Rattle.mas_world.specs.Worlds.{World, acted}
use Rattle.mas_board.specs.Boards as board
use Rattle.mas_board.specs.Boards.{box_or_none, box_of, put_last, posted, acted_as}
use Rattle.mas_core.specs.Platform.{tell}
use Rattle.mas_free.specs.Free as free
use Rattle.mas_free.specs.Free.{Free, Stage, own_name, carried, move}
use Rattle.mas_free.specs.Covers.{Start}
use Rattle.mas_free.proofs.Stages.{moves_in}
use Rattle.mas_explore_worlds.specs.Worlds.{name_of}
use Rattle.mas_explore_space.specs.declared.held.Held.{Held}
use Rattle.mas_explore_space.specs.declared.row.Row.{Row}
use Rattle.mas_explore_space.specs.declared.row.Seat.{Seat}
use Rattle.mas_explore_space.specs.declared.row.Stance.{Stance}
use Rattle.mas_explore_space.specs.declared.row.Stance.TheVariants as stance
use Rattle.mas_explore_space.specs.Held.{minds_of, worlds_of, Grows}
use Rattle.mas_explore_space.specs.Rows.{IsBusy, StanceHolds, SeatHolds, RowHolds, Comes, with_seat, IsWith, IsTold, ActsTo, acted_row, acted_free}
use Rattle.mas_explore_space.proofs.Helds.{grows_same}
use Rattle.mas_explore_space.proofs.Puts.{IsPut, put_set, put_same, all_last}
use Rattle.mas_explore_space.proofs.Rows.{row_put}
use Rattle.mas_explore_space.proofs.Moves.{name-same, here, in-seats, in-stages, in-minds, in-boxes, agent, stance-at}

-- ---- a message

module _ {V : Type 0} (k : Kind V) (s : Start V) (h : Held) (most : ℕ) (row : Row) (f : Free V) (a : ℕ) (m : Message) (seat : Seat) (more : ℕ) (x : RowHolds k s h most row f) (i : IsAgent (length s.names) a)
    (sent : IsFrom a (length s.names) m) (e : slice_get row.seats (m.to - 1) ≡ Some seat) (more-is : IsWith h.minds.boxes seat.mail m more) where
  pub put_holds : RowHolds k s h most (with_seat row (m.to - 1) (record seat { mail = more })) (record f { boxes = put_last f.boxes m })
  put_holds =
      let y = here k s h most row f m.to seat x sent.receiver e in
      let own : Seat = record seat { mail = more } in
      let same : more-is.box ≡ box_of f.boxes m.to = same_Some more-is.box y.box (sym more-is.box_at ∙ y.box_at) ∙ sym (ap box_or_none y.box_is) in
      let boxes = put_set f.boxes (m.to - 1) (box_of f.boxes m.to ++ m ∷ []) (in-boxes k s h most row f m.to seat x sent.receiver e) in
      let to : m.to ≡ m.to - 1 + 1 = (let l = sent.receiver.from_one in omega arith) in
      let P = λ (n : ℕ). IsAgent (length s.names) n in
      let from : IsAgent (length s.names) m.from = subst P (sym sent.from_me) i in
      let D = λ (b : List Message). All (IsFor (m.to - 1 + 1) (length s.names)) b in
      let delivered : D (box_of f.boxes m.to) = subst D (sym (ap box_or_none y.box_is)) y.delivered in
      row_put k s h h most most row (with_seat row (m.to - 1) own) f (record f { boxes = put_last f.boxes m }) (m.to - 1) own y.mind (box_of f.boxes m.to ++ m ∷ []) y.stage (grows_same k s h) (omega arith) x
      (put_set row.seats (m.to - 1) own (in-seats k s h most row f m.to seat x sent.receiver e)) (put_same f.minds (m.to - 1) y.mind y.mind_is) boxes (put_same f.stages (m.to - 1) y.stage y.stage_is) refl x.world_at x.stop
      (record {
        mind = y.mind;
        mind_at = y.mind_at;
        mind_is = y.mind_is;
        box = box_of f.boxes m.to ++ m ∷ [];
        box_at = more-is.more_at ∙ ap (λ (b : List Message). Some (b ++ m ∷ [])) same;
        box_is = boxes.here;
        stage = y.stage;
        stage_is = y.stage_is;
        me = y.me;
        agents = y.agents;
        made = y.made;
        delivered = all_last (IsFor (m.to - 1 + 1) (length s.names)) (box_of f.boxes m.to) m delivered (record { to_me = to; sender = from });
        holds = y.holds;
      })

-- ---- an action

module _ {V : Type 0} (k : Kind V) (s : Start V) (h : Held) (most : ℕ) (row : Row) (f : Free V) (a : ℕ) (seat : Seat) (x : RowHolds k s h most row f) (i : IsAgent (length s.names) a)
    (e : slice_get row.seats (a - 1) ≡ Some seat) (t : ℕ) (busy : seat.stance ≡ stance.Busy t) (no-more : (m : V) (b : Feedback) → k.awaits (k.took m b) ≡ false)
    (told : (m : V) (b : Feedback) → mind.Grows k m (k.took m b) 0) where
  abbrev own : SeatHolds k s h most f (a - 1) seat
  own = here k s h most row f a seat x i e

  pub busy_with : IsBusy k (length s.names) (a - 1 + 1) h.minds.thoughts own.mind t own.stage
  busy_with = stance-at k s h most row f a seat x i e (stance.Busy t) busy

  pub carry_moves : move k f a ≡ Some (carried k f a busy_with.outs (acted_as f.world (own_name f a) busy_with.outs.action))
  carry_moves = moves_in k f a (Some (free.Busy busy_with.outs)) (agent k s h most row f a seat x i e) (own.stage_is ∙ ap Some busy_with.stage_is)

  acts : (stop : Bool) (world : World) (m : V) (world' mind' : ℕ) (ms : List V) → slice_get (worlds_of s h) world' ≡ Some world → slice_get (minds_of k s h) mind' ≡ Some m → IsPut f.minds ms (a - 1) m →
      k.me m ≡ k.me own.mind → k.agents m ≡ k.agents own.mind → k.made m ≡ k.made own.mind → k.awaits m ≡ false →
      RowHolds k s h (most + 1) (acted_row row (a - 1) seat stop world' mind') (record f { world = world; stop = f.stop || stop; minds = ms; stages = slice_set f.stages (a - 1) free.Idle })
  acts stop world m world' mind' ms w n put me agents made awaits =
      let y = own in
      let seat' : Seat = record { mind = mind'; mail = seat.mail; stance = stance.Idle } in
      let g : Free V = record f { world = world; stop = f.stop || stop; minds = ms; stages = slice_set f.stages (a - 1) free.Idle } in
      let stages = put_set f.stages (a - 1) free.Idle (in-stages k s h most row f a seat x i e) in
      row_put k s h h most (most + 1) row (acted_row row (a - 1) seat stop world' mind') f g (a - 1) seat' m y.box free.Idle (grows_same k s h) (omega arith) x
      (put_set row.seats (a - 1) seat' (in-seats k s h most row f a seat x i e)) put (put_same f.boxes (a - 1) y.box y.box_is) stages refl w (ap (λ (b : Bool). b || stop) x.stop)
      (record {
        mind = m;
        mind_at = n;
        mind_is = put.here;
        box = y.box;
        box_at = y.box_at;
        box_is = y.box_is;
        stage = free.Idle;
        stage_is = stages.here;
        me = me ∙ y.me;
        agents = agents ∙ y.agents;
        made = (let l = y.made in omega arith);
        delivered = y.delivered;
        holds = (refl, awaits);
      })

  acts-by : (stop : Bool) (o : Option (LiteralOf Term)) (world' mind' : ℕ) → k.awaits own.mind ≡ is_some o → ActsTo k s h row.world a seat.mind o world' mind' →
      RowHolds k s h (most + 1) (acted_row row (a - 1) seat stop world' mind') (record f {
        world = (acted_as f.world (own_name f a) o).1;
        stop = f.stop || stop;
        minds = tell k f.minds a (Some own.mind) (acted_as f.world (own_name f a) o).0;
        stages = slice_set f.stages (a - 1) free.Idle;
      })
  acts-by stop None world' mind' w to =
      let P = λ (n : ℕ). slice_get (worlds_of s h) n ≡ Some f.world in
      let Q = λ (n : ℕ). slice_get (minds_of k s h) n ≡ Some own.mind in
      acts stop f.world own.mind world' mind' f.minds (subst P (sym to.0) x.world_at) (subst Q (sym to.1) own.mind_at) (put_same f.minds (a - 1) own.mind own.mind_is) refl refl refl w
  acts-by stop (Some action) world' mind' w to =
      let world : to.before ≡ f.world = same_Some to.before f.world (sym to.before_at ∙ x.world_at) in
      let teller : to.teller ≡ own.mind = same_Some to.teller own.mind (sym to.mind_at ∙ own.mind_at) in
      let name : name_of s.names a ≡ own_name f a = name-same (name_at s.names a) ∙ ap (λ (n : List (List ℕ)). board.name_or_none (name_at n a)) (sym x.names) in
      let after = acted f.world (own_name f a) action in
      let m = k.took own.mind after.0 in
      let world-at : slice_get (worlds_of s h) world' ≡ Some after.1 = to.after_at ∙ (λ j. Some (acted (world j) (name j) action).1) in
      let mind-at : slice_get (minds_of k s h) mind' ≡ Some m = to.told_at ∙ (λ j. Some (k.took (teller j) (acted (world j) (name j) action).0)) in
      let grew = told own.mind after.0 in
      acts stop after.1 m world' mind' (slice_set f.minds (a - 1) m) world-at mind-at (put_set f.minds (a - 1) m (in-minds k s h most row f a seat x i e)) grew.me grew.agents
      (let n = grew.made in omega arith) (no-more own.mind after.0)

  pub act_holds : (world' mind' : ℕ) → ActsTo k s h row.world a seat.mind busy_with.outs.action world' mind' →
      RowHolds k s h (most + 1) (acted_row row (a - 1) seat busy_with.outs.stop world' mind') (acted_free k f a busy_with.outs (acted_as f.world (own_name f a) busy_with.outs.action))
  act_holds world' mind' to =
      let after = acted_as f.world (own_name f a) busy_with.outs.action in
      let P = λ (o : Option V). RowHolds k s h (most + 1) (acted_row row (a - 1) seat busy_with.outs.stop world' mind') (record f {
        world = after.1;
        stop = f.stop || busy_with.outs.stop;
        minds = tell k f.minds a o after.0;
        stages = slice_set f.stages (a - 1) free.Idle;
      }) in
      subst P (sym own.mind_is) (acts-by busy_with.outs.stop busy_with.outs.action world' mind' busy_with.awaits to)
