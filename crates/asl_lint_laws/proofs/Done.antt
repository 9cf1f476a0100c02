-- What the internal actions on goals, beliefs and other agents leave.
use Rattle.std.proofs.Common.{◌≡◌, ◌≤◌, ℕ, zero, suc, Bool, true, false, cond, List, [], ◌∷◌, ◌++◌, map, slice_get, Option, Some, None, IfSome, Result, Ok, Err, refl, sym, ap, ◌∙◌, subst, arith}
use Rattle.asl_term.specs.declared.syntax.AgentText.{AgentText}
use Rattle.asl_term.specs.declared.syntax.ArgOf.{ArgOf}
use Rattle.asl_term.specs.declared.syntax.ArgOf.TheVariants.{Plain, Logic}
use Rattle.asl_term.specs.declared.syntax.CallOf.{CallOf}
use Rattle.asl_term.specs.declared.syntax.Expr.{Expr}
use Rattle.asl_term.specs.declared.syntax.LiteralOf.{LiteralOf}
use Rattle.asl_term.specs.declared.syntax.Term.{Term}
use Rattle.asl_term.specs.declared.syntax.Var.{Var}
use Rattle.asl_term.specs.Exprs.{map_arg}
use Rattle.asl_term_actions.specs.declared.action.Action.{Action}
use Rattle.asl_term_actions.specs.declared.action.Action.TheVariants as action
use Rattle.asl_term_actions.specs.declared.action.Deed.TheVariants as deed
use Rattle.asl_term_actions.specs.declared.action.LiteralDeed.{LiteralDeed}
use Rattle.asl_term_actions.specs.declared.action.LiteralDeed.TheVariants as literal_deed
use Rattle.asl_term_actions.specs.Actions.{named}
use Rattle.asl_unify.specs.declared.subst.Pair.{Pair}
use Rattle.asl_unify.specs.inner.Costs.{total, weight}
use Rattle.asl_beliefs.specs.Changes.{abolished}
use Rattle.asl_lint_laws.specs.Fresh.{late, arg_count, expr_count, LiteralBelow}
use Rattle.asl_lint_laws.proofs.Exprs.{count_inner}
use Rattle.asl_intend.specs.declared.entry.Means.{Means}
use Rattle.asl_intend.specs.declared.agenda.Agenda.{Agenda}
use Rattle.asl_intend.specs.Agendas.{without_intentions, without_desires}
use Rattle.asl_intend.specs.Stacks.{bound, has_goal, without_head}
use Rattle.asl_exec_circumstance.specs.declared.rows.Fall.{Fall}
use Rattle.asl_exec_circumstance.specs.Circumstance.{Surroundings, Circumstance}
use Rattle.mas_mind.specs.declared.mind.Message.{Message}
use Rattle.asl_exec_circumstance.specs.declared.peers.Peers.{Peers}
use Rattle.asl_exec_circumstance.specs.Contents.{literal_of}
use Rattle.asl_goals.specs.declared.acted.Why.{Why}
use Rattle.asl_goals.specs.declared.acted.Why.TheVariants as why
use Rattle.asl_goals.specs.declared.letter.Letter.{Letter}
use Rattle.asl_goals.specs.declared.sweep.Way.{Way}
use Rattle.asl_goals.specs.declared.sweep.Way.TheVariants as way
use Rattle.asl_goals.specs.Goals.{first_goal, from_lowest, treated, falls_of, all_swept, all_falls}
use Rattle.asl_goals.specs.Sending.{plain_arg, term_at, letter, posted, is_ask, spread}
use Rattle.asl_goals.specs.Inside.{Did, refused, dropped, drop_intention, drop_desire, matched, looked_up, current_left, current, ended, abolish, sent, asked, sent_asking, sent_letter, send, sent_all, broadcast, stop, about, about_literal, about_term, act_by, act, act_inside}
use Rattle.asl_lint_laws.specs.Agendas.{StackServed, AskServed, AgendaServed}
use Rattle.asl_lint_laws.proofs.Bound.{stack_bound}
use Rattle.asl_lint_laws.proofs.Failing.{all_last}
use Rattle.asl_lint_laws.proofs.Later.{later_stack}
use Rattle.asl_lint_laws.specs.RowsServed.{AroundServed, PartsServed, CallServed}
use Rattle.asl_lint_laws.proofs.Beliefs.{abolished_change}
use Rattle.asl_lint_laws.proofs.Failed.{stay, stack_rest, parts_believing}
use Rattle.asl_lint_laws.specs.Messages.{MessageServed}
use Rattle.asl_lint_laws.proofs.Dropped.{intentions_served, desires_served}
use Rattle.asl_lint_laws.proofs.Received.{literal_count_is}
use Rattle.asl_lint_laws.specs.Deeds.{DidServed, DeedKeeps}
use Rattle.asl_lint_laws.proofs.Letters.{Sound, letter_sound, spread_sound}
use Rattle.asl_lint_laws.proofs.Served.{libs_of, Written}
use Rattle.asl_lint_laws.proofs.Swept.{IfBelow, goal_below, lowest_served, treated_served, swept_kept}

-- ---- the terms among the arguments

arg_below : (f : Var → ℕ) (args : List (ArgOf Expr)) → total (map (arg_count f) (map (map_arg (expr_count f)) args)) ≡ 0 → (j : ℕ) (t : Term) → term_at args j ≡ Some t → weight f t ≡ 0
arg_below f [] b j t e = cc
arg_below f (Plain u ∷ args) b zero t e = let is : u ≡ t = cc in subst (λ z. weight f z ≡ 0) is (omega (arith, b))
arg_below f (Logic x ∷ args) b zero t e = cc
arg_below f (Plain u ∷ args) b (suc j) t e = arg_below f args (omega (arith, b)) j t e
arg_below f (Logic x ∷ args) b (suc j) t e = arg_below f args (omega (arith, b)) j t e

module _ (texts : List AgentText) (written : Written texts) (k : Surroundings) (peers : Peers) (mine : peers.me ≡ 0 → ⊥) (around : AroundServed peers.names texts k) (asks : ℕ) (p : Circumstance)
    (parts : PartsServed peers.names texts k.plans p) (cur : List Means) (stack : StackServed peers.names texts k.plans p.number cur) (c : CallOf Expr)
    (call : CallServed peers.names texts k.plans p.number c) where
  abbrev Keeps : Did → Type 0
  Keeps d = DidServed peers.names texts (libs_of texts) k.plans p.number d

  either : (b : Bool) (x y : Did) → Keeps x → Keeps y → Keeps (cond b x y)
  either true x y s t = s
  either false x y s t = t

  refused_served : (e : Why) → Keeps (refused k asks p cur e)
  refused_served e = record { number = stay p.number; parts = parts; cur = stack; acted = tt }

  rest : StackServed peers.names texts k.plans p.number (without_head cur)
  rest = stack_rest peers.names texts k.plans p.number cur stack

  term_below : (j : ℕ) (t : Term) → term_at c.args j ≡ Some t → weight (late p.number) t ≡ 0
  term_below j t e = arg_below (late p.number) c.args (sym (count_inner (late p.number) c) ∙ call.below) j t e

  -- ---- goals

  dropped_served : (a : Agenda) (b : Bool) → AgendaServed peers.names texts k.plans p.number a → Keeps (dropped k asks p cur a b)
  dropped_served a true s = record { number = stay p.number; parts = record { beliefs = parts.beliefs; agenda = s }; cur = tt; acted = tt }
  dropped_served a false s = record { number = stay p.number; parts = record { beliefs = parts.beliefs; agenda = s }; cur = rest; acted = tt }

  intention_served : (g : LiteralOf Term) → Keeps (drop_intention k asks p cur g)
  intention_served g = dropped_served (without_intentions g p.agenda) (has_goal g cur) (intentions_served peers.names texts k.plans p.number g p.agenda parts.agenda)

  desire_served : (g : LiteralOf Term) → Keeps (drop_desire k asks p cur g)
  desire_served g = dropped_served (without_desires g p.agenda) (has_goal g cur) (desires_served peers.names texts k.plans p.number g p.agenda parts.agenda)

  matched_served : (o : Option (List Pair)) → IfBelow p.number o → Keeps (matched k asks p cur o)
  matched_served None b = refused_served why.NoMatch
  matched_served (Some s) b = record {
    number = stay p.number;
    parts = parts;
    cur = stack_rest peers.names texts k.plans p.number (bound s cur) (stack_bound peers.names texts k.plans p.number p.number (stay p.number) s b cur stack);
    acted = tt;
  }

  looked_served : (d : Bool) (g : LiteralOf Term) → LiteralBelow p.number g → Keeps (looked_up k asks p cur d g)
  looked_served d g b = matched_served (first_goal d g p.agenda cur) (goal_below peers.names texts k.plans p.number g b d p.agenda cur parts.agenda stack)

  left_served : (q : Circumstance) → p.number ≤ q.number → PartsServed peers.names texts k.plans q → (left : List Means) → StackServed peers.names texts k.plans q.number left → (falls : List Fall)
      → Keeps (current_left k asks p cur q left falls)
  left_served q l s [] t falls = record { number = l; parts = s; cur = tt; acted = tt }
  left_served q l s (m ∷ below) t falls = record { number = l; parts = s; cur = t; acted = tt }

  current_served : (w : Way) (g : LiteralOf Term) (q : Circumstance) → p.number ≤ q.number → PartsServed peers.names texts k.plans q → (falls : List Fall) → (o : Option (List Means))
      → IfSome o (StackServed peers.names texts k.plans q.number) → Keeps (current k asks p cur w q falls o)
  current_served w g q l s falls None t = record {
    number = l;
    parts = s;
    cur = stack_rest peers.names texts k.plans q.number cur (later_stack peers.names texts k.plans p.number q.number l cur stack);
    acted = tt;
  }
  current_served w g q l s falls (Some cut) t =
      let m = treated_served peers.names texts k around w g w q s cut t in
      let n = m.number in
      left_served (treated k w q cut).parts (omega (arith, l, n)) m.parts (treated k w q cut).cur m.cur (falls ++ falls_of (treated k w q cut).went)

  ended_served : (w : Way) (g : LiteralOf Term) → Keeps (ended k asks p cur w g)
  ended_served w g =
      let s = swept_kept peers.names texts k around w g p parts in
      current_served w g (all_swept k w g p) s.number s.parts (all_falls k w g p) (from_lowest g cur)
      (lowest_served _ g cur (later_stack peers.names texts k.plans p.number (all_swept k w g p).number s.number cur stack))

  abolish_served : (g : LiteralOf Term) → Keeps (abolish k asks p cur g)
  abolish_served g = record {
    number = stay p.number;
    parts = parts_believing peers.names texts k.plans p (abolished g p.beliefs) parts (abolished_change g p.beliefs parts.beliefs);
    cur = rest;
    acted = tt;
  }

  about_served : (d : LiteralDeed) (g : LiteralOf Term) → LiteralBelow p.number g → Keeps (about k asks p cur d g)
  about_served literal_deed.DropIntention g b = intention_served g
  about_served literal_deed.DropDesire g b = desire_served g
  about_served literal_deed.SucceedGoal g b = ended_served way.Succeed g
  about_served literal_deed.FailGoal g b = ended_served way.Fail g
  about_served literal_deed.Intend g b = looked_served false g b
  about_served literal_deed.Desire g b = looked_served true g b
  about_served literal_deed.Abolish g b = abolish_served g

  literal_served : (d : LiteralDeed) (t : Term) → weight (late p.number) t ≡ 0 → (o : Option (LiteralOf Term)) → literal_of t ≡ o → Keeps (about_literal k asks p cur d o)
  literal_served d t b None e = refused_served (why.Argument 0)
  literal_served d t b (Some g) e = about_served d g (literal_count_is (late p.number) t g e b)

  about_term_served : (d : LiteralDeed) (o : Option Term) → term_at c.args 0 ≡ o → Keeps (about_term k asks p cur d o)
  about_term_served d None e = refused_served (why.Argument 0)
  about_term_served d (Some t) e = literal_served d t (term_below 0 t e) (literal_of t) refl

  -- ---- messages

  message_served : (l : Letter) → Sound texts l → (n : ℕ) → MessageServed (libs_of texts) (posted peers.me n l)
  message_served l s n = record { from = mine; below = s.below; sent = s.sent }

  asked_served : (l : Letter) → Sound texts l → (a : Term) → weight (late p.number) a ≡ 0 → Keeps (asked k asks p cur peers.me l a)
  asked_served l s a b = record {
    number = stay p.number;
    parts = record {
      beliefs = parts.beliefs;
      agenda = record {
        events = parts.agenda.events;
        running = parts.agenda.running;
        acting = parts.agenda.acting;
        asks = all_last (AskServed peers.names texts k.plans p.number) p.agenda.asks (record { number = asks; answer = a; stack = cur }) parts.agenda.asks
            (record { answer = omega (arith, b); stack = stack });
      };
    };
    cur = tt;
    acted = message_served l s asks;
  }

  asking_served : (l : Letter) → Sound texts l → (o : Option (ArgOf Expr)) → slice_get c.args 3 ≡ o → Keeps (sent_asking k asks p cur peers.me l o)
  asking_served l s None e = record { number = stay p.number; parts = parts; cur = rest; acted = (message_served l s 0, tt) }
  asking_served l s (Some (Plain a)) e =
      either (is_ask l.verb) _ _ (asked_served l s a (term_below 3 a (ap plain_arg e))) (refused_served (why.Argument 3))
  asking_served l s (Some (Logic x)) e = refused_served (why.Argument 3)

  send_served : named c.name ≡ Some (action.Does deed.Send) → Keeps (send k asks p cur peers c.args)
  send_served e = go (letter peers.names c.args) refl where
    go : (o : Result Letter Why) → letter peers.names c.args ≡ o → Keeps (sent_letter k asks p cur peers.me c.args o)
    go (Err x) d = refused_served x
    go (Ok l) d = asking_served l (letter_sound peers.names texts written c call.source call.linted call.settled e l d) (slice_get c.args 3) refl

  broadcast_served : named c.name ≡ Some (action.Does deed.Broadcast) → Keeps (broadcast k asks p cur peers c.args)
  broadcast_served e = go (spread peers c.args) refl where
    go : (o : Result (List Message) Why) → spread peers c.args ≡ o → Keeps (sent_all k asks p cur o)
    go (Err x) d = refused_served x
    go (Ok ms) d = record {
      number = stay p.number;
      parts = parts;
      cur = rest;
      acted = spread_sound peers.names texts written c call.source call.linted call.settled peers mine e ms d;
    }

  stop_served : Keeps (stop k asks p cur)
  stop_served = record { number = stay p.number; parts = parts; cur = rest; acted = tt }

  by_action : (o : Option Action) → named c.name ≡ o → Keeps (act_by k asks p cur peers c.args o)
  by_action (Some (action.Does (deed.OnLiteral d))) e = about_term_served d (term_at c.args 0) refl
  by_action (Some (action.Does deed.Send)) e = send_served e
  by_action (Some (action.Does deed.Broadcast)) e = broadcast_served e
  by_action (Some (action.Does deed.StopMas)) e = stop_served
  by_action other e = refused_served (why.Argument 0)

  act_served : Keeps (act k asks p cur peers c)
  act_served = by_action (named c.name) refl

  inside_served : Keeps (act_inside k peers asks p cur c)
  unfolding act_inside
  inside_served = act_served

pub deeds_keep : DeedKeeps
deeds_keep texts libs k peers asks p cur c begun mine around parts stack call =
    subst (λ ls. DidServed peers.names texts ls k.plans p.number (act_inside k peers asks p cur c)) (sym begun.opened)
    (inside_served texts begun.written k peers mine around asks p parts cur stack c call)
