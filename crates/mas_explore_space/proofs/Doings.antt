-- What comes of the move of an agent that carries out outs.
use Rattle.std.proofs.Common.{ℕ, ◌≡◌, ◌+◌, ◌-◌, ◌<◌, ◌≤◌, arith, true, false, is_some, IfSome, All, List, [], length, slice_get, Option, None, Some, refl, ap, sym, ◌∙◌, subst}
use Rattle.std.proofs.lemmas.Option.{same_Some, slice_get_within}
use Rattle.asl_term.specs.Exprs.{is_ground_literal}
use Rattle.asl_term.specs.declared.syntax.LiteralOf.{LiteralOf}
use Rattle.asl_term.specs.declared.syntax.Term.{Term}
use Rattle.mas_mind.specs.declared.mind.Message.{Message}
use Rattle.mas_mind.specs.declared.mind.Outs.{Outs}
use Rattle.mas_mind.specs.declared.mind.Feedback.{Feedback}
use Rattle.mas_mind.specs.declared.mind.Thought.{Thought}
use Rattle.mas_mind.specs.declared.mind.Thought.TheVariants as thought
use Rattle.mas_mind.specs.Minds as mind
use Rattle.mas_mind.specs.Minds.{Kind, IsAgent, IsFrom}
use Rattle.mas_world.specs.Worlds.{acted}
use Rattle.mas_board.specs.Boards.{acted_as}
use Rattle.mas_free.specs.Free.{Free, own_name, carried, move}
use Rattle.mas_free.specs.Covers.{Start}
use Rattle.mas_explore_minds.specs.Minds.{MayFollow, HasLinked}
use Rattle.mas_explore_minds.specs.declared.heard.Heard.TheVariants.{Told}
use Rattle.mas_explore_worlds.specs.Worlds.{name_of}
use Rattle.mas_explore_worlds.proofs.Fitting.{number_of}
use Rattle.mas_explore_worlds.specs.declared.worlds.Acted.{Acted}
use Rattle.mas_explore_space.specs.declared.held.Held.{Held}
use Rattle.mas_explore_space.specs.declared.held.Acting.{Acting}
use Rattle.mas_explore_space.specs.declared.row.Row.{Row}
use Rattle.mas_explore_space.specs.declared.row.Seat.{Seat}
use Rattle.mas_explore_space.specs.declared.row.Stance.{Stance}
use Rattle.mas_explore_space.specs.declared.row.Stance.TheVariants as stance
use Rattle.mas_explore_space.specs.Held.{minds_of, worlds_of, IsActed, Fits, Grows, HasGrown}
use Rattle.mas_explore_space.specs.Rows.{IsBusy, RowHolds, Stands, HasMoved, IsMover, IsWith, ActsTo, acted_row, acted_free, HasPut, HasPutOne, HasDone, HasAction, MayDo, MayAct, HasOuts, HasBox, with_seat}
use Rattle.mas_explore_space.proofs.Helds.{grown_then}
use Rattle.mas_explore_space.proofs.Puts.{item_at}
use Rattle.mas_explore_space.proofs.Rows.{row_on}
use Rattle.mas_explore_space.proofs.Carries.{put_holds, busy_with, carry_moves, act_holds}

module _ {V : Type 0} (k : Kind V) (s : Start V) where
  pub world_there : (h : Held) (c : Acting) (mind : ℕ) (action : LiteralOf Term) → Fits k s h → MayDo k s h c mind action → c.world < 1 + length h.worlds
  world_there h c mind action fits m =
      let w = slice_get_within (worlds_of s h) c.world m.before m.before_at in
      let q = number_of s.names s.world h.worlds fits.worlds in
      omega arith

  pub may_tell : (h now : Held) (c : Acting) (mind : ℕ) (action : LiteralOf Term) (feedback : Feedback) → MayDo k s h c mind action → Grows k s h now → MayFollow k s.minds now.minds mind (Told feedback)
  may_tell h now c mind action feedback m g = record { before = m.teller; at = g.minds.minds mind m.teller m.mind_at; may = m.awaits }

  pub done_some : (h now later : Held) (c : Acting) (mind mind' : ℕ) (action : LiteralOf Term) (r : Acted) → MayDo k s h c mind action → HasGrown k s h now → IsActed s now c r → HasGrown k s now later →
      HasLinked k s.minds now.minds later.minds mind (Told r.feedback) mind' → HasDone k s h later c.world c.agent mind (Some action) r.world mind'
  done_some h now later c mind mind' action r m x y z l =
      let has : slice_get now.minds.thoughts c.thought ≡ Some (thought.Outs m.has.outs) = x.grows.minds.thoughts c.thought (thought.Outs m.has.outs) m.has.at in
      let both : thought.Outs y.outs ≡ thought.Outs m.has.outs = same_Some (thought.Outs y.outs) (thought.Outs m.has.outs) (sym y.thought_at ∙ has) in
      let outs : y.outs ≡ m.has.outs = cc in
      let action-is : y.action ≡ action = same_Some y.action action (sym y.action_is ∙ ap (λ (o : Outs). o.action) outs ∙ m.has.action_is) in
      let teller = x.grows.minds.minds mind m.teller m.mind_at in
      let told = l.leads m.teller teller in
      let feedback : r.feedback ≡ (acted y.world (name_of s.names c.agent) action).0 = y.feedback ∙ ap (λ (b : LiteralOf Term). (acted y.world (name_of s.names c.agent) b).0) action-is in
      record {
        grown = grown_then k s h now later x z;
        acts = record {
          before = y.world;
          before_at = z.grows.worlds c.world y.world y.world_at;
          after_at = z.grows.worlds r.world (acted y.world (name_of s.names c.agent) y.action).1 y.after_at ∙ ap (λ (b : LiteralOf Term). Some (acted y.world (name_of s.names c.agent) b).1) action-is;
          teller = m.teller;
          mind_at = z.grows.minds.minds mind m.teller teller;
          told_at = told ∙ ap (λ (b : Feedback). Some (k.took m.teller b)) feedback;
        };
      }

  pub seat_there : (h : Held) (most : ℕ) (row : Row) (a : ℕ) → Stands k s h most row → IsAgent (length s.names) a → (seat : Seat) × (slice_get row.seats (a - 1) ≡ Some seat)
  seat_there h most row a x i = (let n = x.holds.number in let l = i.from_one in let m = i.named in item_at row.seats (a - 1) (omega arith))

  pub box_there : (h : Held) (most : ℕ) (row : Row) (place : ℕ) (seat : Seat) → Stands k s h most row → slice_get row.seats place ≡ Some seat → HasBox h.minds.boxes seat.mail
  box_there h most row place seat x e = (let y = x.holds.each place seat e in record { box = y.box; box_at = y.box_at })

  pub put_one : (h now : Held) (most a : ℕ) (row : Row) (m : Message) (seat : Seat) (mail : ℕ) → IsAgent (length s.names) a → IsFrom a (length s.names) m → slice_get row.seats (m.to - 1) ≡ Some seat →
      HasGrown k s h now → IsWith now.minds.boxes seat.mail m mail → HasPutOne k s h now most row (with_seat row (m.to - 1) (record { mind = seat.mind; mail = mail; stance = seat.stance })) m
  put_one h now most a row m seat mail i sent e g more-is = record {
    grown = g;
    puts = λ f x. put_holds k s now most row f a m seat mail (row_on k s h now most most row f g.grows (omega arith) x) i sent e more-is;
  }

module _ {V : Type 0} (k : Kind V) (s : Start V) (h : Held) (most : ℕ) (row : Row) (a : ℕ) (seat : Seat) (mover : IsMover k s h most row a seat) (t : ℕ) (busy : seat.stance ≡ stance.Busy t)
    (no-more : (m : V) (b : Feedback) → k.awaits (k.took m b) ≡ false) (told : (m : V) (b : Feedback) → mind.Grows k m (k.took m b) 0) where
  -- the outs are the same, for whatever state the row stands
  abbrev outs-of : (f : Free V) (x : RowHolds k s h most row f) → IsBusy k (length s.names) (a - 1 + 1) h.minds.thoughts (x.each (a - 1) seat mover.seat_at).mind t (x.each (a - 1) seat mover.seat_at).stage
  outs-of f x = busy_with k s h most row f a seat x mover.agent mover.seat_at t busy no-more told

  outs-are : (f : Free V) (x : RowHolds k s h most row f) (outs : Outs) → slice_get h.minds.thoughts t ≡ Some (thought.Outs outs) → (outs-of f x).outs ≡ outs
  outs-are f x outs e =
      let both : thought.Outs (outs-of f x).outs ≡ thought.Outs outs = same_Some (thought.Outs (outs-of f x).outs) (thought.Outs outs) (sym (outs-of f x).at ∙ e) in
      cc

  pub has_outs : HasOuts h.minds.thoughts t
  has_outs = (let w = outs-of mover.stands.state mover.stands.holds in record { outs = w.outs; at = w.at })

  place-is : a - 1 + 1 ≡ a
  place-is = (let l = mover.agent.from_one in omega arith)

  pub outs_sent : (outs : Outs) → slice_get h.minds.thoughts t ≡ Some (thought.Outs outs) → All (IsFrom a (length s.names)) outs.messages
  outs_sent outs e =
      let w = outs-of mover.stands.state mover.stands.holds in
      let P = λ (o : Outs). All (IsFrom (a - 1 + 1) (length s.names)) o.messages in
      let Q = λ (n : ℕ). All (IsFrom n (length s.names)) outs.messages in
      subst Q place-is (subst P (outs-are mover.stands.state mover.stands.holds outs e) w.lawful.messages)

  pub may_act : (outs : Outs) → slice_get h.minds.thoughts t ≡ Some (thought.Outs outs) → MayAct k s h (record { world = row.world; agent = a; thought = t }) seat.mind outs.action
  may_act outs e =
      let f = mover.stands.state in
      let x = mover.stands.holds in
      let w = outs-of f x in
      let P = λ (o : Outs). MayAct k s h (record { world = row.world; agent = a; thought = t }) seat.mind o.action in
      subst P (outs-are f x outs e) (by w.outs.action refl w.awaits w.lawful.action)
    where
      by : (o : Option (LiteralOf Term)) → (outs-of mover.stands.state mover.stands.holds).outs.action ≡ o →
          k.awaits (mover.stands.holds.each (a - 1) seat mover.seat_at).mind ≡ is_some (outs-of mover.stands.state mover.stands.holds).outs.action →
          IfSome (outs-of mover.stands.state mover.stands.holds).outs.action (λ l. is_ground_literal l ≡ true) → MayAct k s h (record { world = row.world; agent = a; thought = t }) seat.mind o
      by None q w l = mover.fits
      by (Some action) q w l =
          let y = mover.stands.holds.each (a - 1) seat mover.seat_at in
          let b = outs-of mover.stands.state mover.stands.holds in
          let G = λ (o : Option (LiteralOf Term)). IfSome o (λ z. is_ground_literal z ≡ true) in
          record {
            has = record { outs = b.outs; at = b.at; action_is = q };
            ground = subst G q l;
            before = mover.stands.state.world;
            before_at = mover.stands.holds.world_at;
            teller = y.mind;
            mind_at = y.mind_at;
            awaits = w ∙ ap is_some q;
          }

  module _ (outs : Outs) (at : slice_get h.minds.thoughts t ≡ Some (thought.Outs outs)) (now : Held) (world' mind' : ℕ) (done : HasDone k s h now row.world a seat.mind outs.action world' mind') where
    acted-holds : (f : Free V) → RowHolds k s h most row f → RowHolds k s now (most + 1) (acted_row row (a - 1) seat outs.stop world' mind') (acted_free k f a outs (acted_as f.world (own_name f a) outs.action))
    acted-holds f x =
        let x' = row_on k s h now most most row f done.grown.grows (omega arith) x in
        let b = busy_with k s now most row f a seat x' mover.agent mover.seat_at t busy no-more told in
        let at' : slice_get now.minds.thoughts t ≡ Some (thought.Outs outs) = done.grown.grows.minds.thoughts t (thought.Outs outs) at in
        let both : thought.Outs b.outs ≡ thought.Outs outs = same_Some (thought.Outs b.outs) (thought.Outs outs) (sym b.at ∙ at') in
        let same : b.outs ≡ outs = cc in
        let A = λ (o : Outs). ActsTo k s now row.world a seat.mind o.action world' mind' in
        let P = λ (o : Outs). RowHolds k s now (most + 1) (acted_row row (a - 1) seat o.stop world' mind') (acted_free k f a o (acted_as f.world (own_name f a) o.action)) in
        subst P same (act_holds k s now most row f a seat x' mover.agent mover.seat_at t busy no-more told world' mind' (subst A (sym same) done.acts))

    pub acted_stands : Stands k s now (most + 1) (acted_row row (a - 1) seat outs.stop world' mind')
    acted_stands = record {
      state = acted_free k mover.stands.state a outs (acted_as mover.stands.state.world (own_name mover.stands.state a) outs.action);
      holds = acted-holds mover.stands.state mover.stands.holds;
    }

    pub outs_move : (later : Held) (next : Row) → HasPut k s now later (most + 1) (acted_row row (a - 1) seat outs.stop world' mind') next outs.messages → HasMoved k s h later most row a (Some next)
    outs_move later next put = record {
      grown = grown_then k s h now later done.grown put.grown;
      moves = λ f x.
          (let after = acted_as f.world (own_name f a) outs.action in
          let C = λ (o : Outs). move k f a ≡ Some (carried k f a o (acted_as f.world (own_name f a) o.action)) in
          record {
            next = carried k f a outs after;
            moved = subst C (outs-are f x outs at) (carry_moves k s h most row f a seat x mover.agent mover.seat_at t busy no-more told);
            holds = put.puts (acted_free k f a outs after) (acted-holds f x);
          });
    }
