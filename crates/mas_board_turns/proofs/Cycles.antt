-- What one more turn makes of an agent and of its mind.
use Rattle.std.proofs.Common.{◌≡◌, ℕ, ◌+◌, ◌<◌, ◌≤◌, false, is_some, List, [], ◌∷◌, ◌++◌, Option, None, Some, length, sym, refl, ap, ◌∙◌, subst, append-nil, append_assoc, arith}
use Rattle.asl_term.specs.declared.syntax.LiteralOf.{LiteralOf}
use Rattle.asl_term.specs.declared.syntax.Term.{Term}
use Rattle.mas_mind.specs.declared.mind.Input.{Input}
use Rattle.mas_mind.specs.declared.mind.Feedback.{Feedback}
use Rattle.mas_mind.specs.declared.mind.Thought.{Thought}
use Rattle.mas_mind.specs.Minds.{Kind, Grows, Cycled, AreLawful, asks_feedback}
use Rattle.mas_world.specs.Worlds.{World}
use Rattle.mas_board.specs.declared.seats.Phase.{Phase}
use Rattle.mas_board.specs.declared.seats.Phase.TheVariants.{Busy}
use Rattle.mas_board.specs.Boards.{Noted, acted_as}
use Rattle.mas_board.specs.Seating.{IsInputFor}
use Rattle.mas_board_turns.specs.declared.turn.Turn.{Turn}
use Rattle.mas_board_turns.specs.Turns.{phase_of, phase_after, cycle_of, cycles_in}
use Rattle.mas_board_turns.specs.Follows.{Thinking, thinking, told, Takes, Follows}
use Rattle.mas_board_turns.specs.Cycles.{Standing, cycled, Belongs, IsAsked, HasThought, Went}

-- ---- turns

pub phase_snoc : (p : Phase) (ts : List Turn) (t : Turn) → phase_after p (ts ++ t ∷ []) ≡ phase_of t
phase_snoc p [] t = refl
phase_snoc p (x ∷ ts) t = phase_snoc (phase_of x) ts t

pub cycles_snoc : (ts : List Turn) (t : Turn) → cycles_in (ts ++ t ∷ []) ≡ cycles_in ts + cycle_of t
cycles_snoc [] t = omega arith
cycles_snoc (x ∷ ts) t = let h = cycles_snoc ts t in omega arith

pub acted_some : (world : World) (agent : List ℕ) (action : Option (LiteralOf Term)) → is_some (acted_as world agent action).0 ≡ is_some action
acted_some world agent None = refl
acted_some world agent (Some action) = refl

module _ {V : Type 0} (k : Kind V) where
  -- ---- minds

  grows_none : (m : V) → Grows k m m 0
  grows_none m = record { made = omega arith; new_lines = []; lines = sym (append-nil (k.lines m)); me = refl; agents = refl }

  pub told_grows : ((m : V) (f : Feedback) → Grows k m (k.took m f) 0) → (m : V) (f : Option Feedback) → Grows k m (told k m f) 0
  told_grows law m None = grows_none m
  told_grows law m (Some f) = law m f

  pub told_awaits : ((m : V) (f : Feedback) → k.awaits (k.took m f) ≡ false) → (m : V) (f : Option Feedback) → k.awaits m ≡ is_some f
      → k.awaits (told k m f) ≡ false
  told_awaits law m None e = e
  told_awaits law m (Some f) e = law m f

  pub starts : (m mind : V) (input : Input) (thought : Thought) → k.cycle m input ≡ record { mind = mind; thought = thought }
      → thinking mind thought ≡ cycled k m input
  starts m mind input thought e = ap (λ (c : Cycled V). thinking c.mind c.thought) (sym e)

  -- ---- ways

  pub follows_append : (s m n : Thinking V) (xs ys : List Turn) → Follows k s xs m → Follows k m ys n → Follows k s (xs ++ ys) n
  follows_append s m n [] ys f g = subst (λ (t : Thinking V). Follows k t ys n) f g
  follows_append s m n (x ∷ xs) ys f g = (f.0, f.1, follows_append f.0 m n xs ys f.2 g)

  -- no turn was made
  pub went_none : (start end : Thinking V) (old new : List Turn) → end ≡ start → new ≡ old → Went k start old new end
  went_none start end old new s t = record { more = []; turns = t ∙ sym (append-nil old); follows = s }

  -- one turn was made
  pub went_one : (start end : Thinking V) (old new : List Turn) (t : Turn) → Takes k start.mind start.thought t end → new ≡ old ++ t ∷ [] → Went k start old new end
  went_one start end old new t takes e = record { more = t ∷ []; turns = e; follows = (end, takes, refl) }

  -- the one way, and then the other
  pub went_more : (start mid end : Thinking V) (old between new : List Turn) → Went k start old between mid → Went k mid between new end → Went k start old new end
  went_more start mid end old between new a b = record {
    more = a.more ++ b.more;
    turns = b.turns ∙ ap (λ (l : List Turn). l ++ b.more) a.turns ∙ append_assoc old a.more b.more;
    follows = follows_append start mid end a.more b.more a.follows b.follows;
  }

  -- ---- the agent

  pub belongs_on : (a : Standing V) (right : ℕ) (board : Noted) (phase : Phase) (cycles : ℕ) (mind : V) → Belongs k a → right ≡ a.right → board ≡ a.board
      → k.me mind ≡ k.me a.mind → k.agents mind ≡ k.agents a.mind
      → Belongs k (record { number = a.number; right = right; board = board; phase = phase; cycles = cycles; mind = mind })
  belongs_on a right board phase cycles mind h r b me agents = record {
    right = r ∙ h.right;
    me = me ∙ h.me;
    agents = agents ∙ h.agents ∙ ap (λ (x : Noted). length x.state.seats) (sym b);
    limit = subst (λ (x : Noted). x.state.cycles ≤ 1000000) (sym b) h.limit;
  }

  -- it was idle, and an input came
  pub is_asked : (a : Standing V) (right : ℕ) (board : Noted) (phase : Phase) (cycles : ℕ) (input : Input) → Belongs k a → right ≡ a.right → board ≡ a.board
      → phase ≡ Busy → cycles ≡ a.cycles + 1 → k.made a.mind ≡ a.cycles → k.awaits a.mind ≡ false → a.cycles < a.board.state.cycles
      → IsInputFor (length a.board.state.seats) a.right input
      → IsAsked k input (record { number = a.number; right = right; board = board; phase = phase; cycles = cycles; mind = a.mind })
  is_asked a right board phase cycles input h r b busy one made awaits short input_for =
      let limit = h.limit in
      record {
        belongs = belongs_on a right board phase cycles a.mind h r b refl refl;
        busy = busy;
        made = omega arith;
        awaits = awaits;
        short = omega arith;
        input_for = subst (λ (p : ℕ × ℕ). IsInputFor p.0 p.1 input) (λ j. (sym h.agents j, (h.right ∙ sym h.me) j)) input_for;
      }

  -- it was asked, and its mind has thought
  pub has_thought : ((m : V) (i : Input) → k.awaits (k.cycle m i).mind ≡ asks_feedback (k.cycle m i).thought)
      → ((m : V) (i : Input) → Grows k m (k.cycle m i).mind 1)
      → (a : Standing V) (input : Input) (mind : V) (thought : Thought) → IsAsked k input a → k.cycle a.mind input ≡ record { mind = mind; thought = thought }
      → AreLawful (k.me a.mind) (k.agents a.mind) thought
      → HasThought k thought (record { number = a.number; right = a.right; board = a.board; phase = a.phase; cycles = a.cycles; mind = mind })
  has_thought law grow a input mind thought h e l =
      let grows = subst (λ (c : Cycled V). Grows k a.mind c.mind 1) e (grow a.mind input) in
      let m = grows.made in
      let n = h.made in
      record {
        belongs = belongs_on a a.right a.board a.phase a.cycles mind h.belongs refl refl grows.me grows.agents;
        busy = h.busy;
        made = omega arith;
        awaits = subst (λ (c : Cycled V). k.awaits c.mind ≡ asks_feedback c.thought) e (law a.mind input);
        lawful = subst (λ (p : ℕ × ℕ). AreLawful p.0 p.1 thought) (λ j. ((h.belongs.me ∙ sym h.belongs.right) j, h.belongs.agents j)) l;
      }
