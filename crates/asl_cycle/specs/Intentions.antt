-- Intentions: what becomes of each of them in a cycle. None is doubled, none is lost, and none goes from one place to another
-- but as is said here.
use Rattle.std.specs.Prelude.{ℕ, ◌≡◌, ◌+◌, true, false, List, [], ◌∷◌, ◌++◌, Option, None, Some}
use Rattle.asl_term.specs.declared.syntax.Formula.{Formula}
use Rattle.asl_term.specs.declared.syntax.Kind.{Kind}
use Rattle.asl_term.specs.declared.syntax.Kind.TheVariants as kind
use Rattle.asl_term.specs.declared.syntax.LiteralOf.{LiteralOf}
use Rattle.asl_plans.specs.declared.entry.OwnedPlan.{OwnedPlan}
use Rattle.asl_term.specs.declared.syntax.Term.{Term}
use Rattle.asl_term.specs.declared.syntax.Trigger.{Trigger}
use Rattle.asl_unify.specs.declared.subst.Pair.{Pair}
use Rattle.asl_intend.specs.declared.entry.Means.{Means}
use Rattle.asl_intend.specs.declared.agenda.Acting.{Acting}
use Rattle.asl_intend.specs.declared.agenda.Agenda.{Agenda}
use Rattle.asl_intend.specs.declared.agenda.Ask.{Ask}
use Rattle.asl_intend.specs.declared.agenda.Error.{Error}
use Rattle.asl_intend.specs.declared.agenda.Error.TheVariants as error
use Rattle.asl_intend.specs.declared.agenda.Event.{Event}
use Rattle.asl_intend.specs.Agendas.{external_event}
use Rattle.asl_intend.specs.Stacks.{bound, has_goal, has_head, head, names_goal, with_head, without_head}
use Rattle.asl_fail.specs.Fails.{failure_event, is_raised}
use Rattle.asl_exec_circumstance.specs.Emptied.{bound_by}
use Rattle.asl_exec_circumstance.specs.Circumstance.{Surroundings, Circumstance, goal_event}
use Rattle.asl_goals.specs.Goals.{from_lowest}
use Rattle.mas_mind.specs.declared.mind.Feedback.{Feedback}
use Rattle.mas_mind.specs.declared.mind.Input.{Input}
use Rattle.mas_mind.specs.declared.mind.Outs.{Outs}
use Rattle.mas_mind.specs.declared.mind.Thought.TheVariants as thought
use Rattle.asl_exec_circumstance.specs.declared.peers.Peers.{Peers}
use Rattle.asl_cycle.specs.Steps.{virtual, plans_after}
use Rattle.asl_cycle.specs.Cycle.{cycle}
use Rattle.asl_cycle.specs.Acts.{is_fed}
use Rattle.asl_cycle.specs.Turns.{dropped_by_head, dropped_by_message}

-- ---- where they are

-- an intention: it waits for the treatment of its event, it runs, it waits for its action, or for an answer
pub data Intention : Type 0 where
  Waits : Event → Intention
  Runs : List Means → Intention
  Acts : Acting → Intention
  Asks : Ask → Intention

-- A heap of intentions: what is counted of them, for each way of counting. Two heaps are the same where each way of counting
-- comes to the same, so each intention is as often in the one as in the other.
abbrev pub Heap : Type 0
Heap = (Intention → ℕ) → ℕ

abbrev pub total : {A : Type 0} → (A → ℕ) → List A → ℕ
total f [] = 0
total f (x ∷ xs) = f x + total f xs

abbrev pub total_acting : (Intention → ℕ) → Option Acting → ℕ
total_acting f None = 0
total_acting f (Some a) = f (Intention.Acts a)

-- all that are in an agenda
abbrev pub held : Agenda → Heap
held a f =
    total (λ v. f (Intention.Waits v)) a.events + (total (λ s. f (Intention.Runs s)) a.running
    + (total_acting f a.acting + total (λ q. f (Intention.Asks q)) a.asks))

abbrev pub one_or_none : (Intention → ℕ) → Option Intention → ℕ
one_or_none f None = 0
one_or_none f (Some x) = f x

-- those that begin: external events, which have no stack
abbrev pub begin : (Intention → ℕ) → List Trigger → ℕ
begin f = total (λ t. f (Intention.Waits (external_event t)))

-- One was taken out and these are the rest; after it, what became of it is there, or nothing where it ended, and some have begun.
pub record Becomes (Fate : Option Intention → Type 0) (rest after : Heap) : Type 0 where
  pub is : Option Intention
  pub fate : Fate is
  pub begun : List Trigger
  pub sums : (f : Intention → ℕ) → after f ≡ rest f + (one_or_none f is + begin f begun)

-- none was taken out
abbrev pub IsNone : Option Intention → Type 0
IsNone x = x ≡ None

-- ---- what becomes of a stack

-- It fails: the topmost means for whose failure there is a plan raises it over those below; or nothing is left of it.
pub data Failed (plans : List OwnedPlan) (n : ℕ) (e : Error) : List Means → Option Intention → Type 0 where
  Raises : (m : Means) (below : List Means) → is_raised plans n e m.trigger ≡ true
      → Failed plans n e (m ∷ below) (Some (Intention.Waits (failure_event e m.trigger below)))
  Pops : (m : Means) (below : List Means) (x : Option Intention) → is_raised plans n e m.trigger ≡ false → Failed plans n e below x
      → Failed plans n e (m ∷ below) x
  Falls : Failed plans n e [] None

-- Its top is done, and it ends: nothing is below, or what is below passes the limits and fails.
pub data Over (plans : List OwnedPlan) (n : ℕ) : List Means → Option Intention → Type 0 where
  Empty : Over plans n [] None
  Last : (m : Means) → Over plans n (m ∷ []) None
  Limit : (m c : Means) (below : List Means) (x : Option Intention) → Failed plans n error.TermLimit (c ∷ below) x → Over plans n (m ∷ c ∷ below) x

-- Its top is done, and it goes on: the goal below is done too, and what the top brings back is put in.
pub data GoesOn : List Means → List Means → Type 0 where
  Pops : (m c : Means) (below : List Means) (s : Option (List Pair)) → GoesOn (m ∷ c ∷ below) (without_head (bound_by s (c ∷ below)))

-- After a formula: with another one it runs, and waits for its turn; else its top is done.
pub data Clears (plans : List OwnedPlan) (n : ℕ) : List Means → Option Intention → Type 0 where
  Turn : (s : List Means) → has_head s ≡ true → Clears plans n s (Some (Intention.Runs s))
  Ends : (s : List Means) (x : Option Intention) → has_head s ≡ false → Over plans n s x → Clears plans n s x
  Goes : (s t : List Means) (x : Option Intention) → has_head s ≡ false → GoesOn s t → Clears plans n t x → Clears plans n s x

-- ---- the goal that a message or an item drops or ends

-- a stack that is cut down to the lowest means of the goal ends there, or goes on from there
pub data Outcome : Type 0 where
  Ends : Option Intention → Outcome
  Goes : List Means → Outcome

pub data Cut (plans : List OwnedPlan) (named : Option (LiteralOf Term)) (s : List Means) : Outcome → Type 0 where
  Succeeds : (g : LiteralOf Term) (cut t : List Means) → named ≡ Some g → from_lowest g s ≡ Some cut → GoesOn cut t → Cut plans named s (Outcome.Goes t)
  Stops : (g : LiteralOf Term) (cut : List Means) (n : ℕ) (x : Option Intention) → named ≡ Some g → from_lowest g s ≡ Some cut
      → Over plans n cut x → Cut plans named s (Outcome.Ends x)
  Fails : (g : LiteralOf Term) (cut : List Means) (n : ℕ) (x : Option Intention) → named ≡ Some g → from_lowest g s ≡ Some cut
      → Failed plans n error.IaFailed cut x → Cut plans named s (Outcome.Ends x)

-- where goals are looked for: not while an action is awaited
abbrev pub searched : Intention → List Means
searched (Intention.Waits v) = v.stack
searched (Intention.Runs s) = s
searched (Intention.Acts a) = []
searched (Intention.Asks q) = q.stack

-- it has the goal, and is dropped; its event is of the goal; or it is cut
pub data Ended (plans : List OwnedPlan) (named : Option (LiteralOf Term)) : Intention → Option Intention → Type 0 where
  Drops : (g : LiteralOf Term) (x : Intention) → named ≡ Some g → has_goal g (searched x) ≡ true → Ended plans named x None
  Wanted : (g : LiteralOf Term) (v : Event) → named ≡ Some g → names_goal g v.trigger ≡ true → Ended plans named (Intention.Waits v) None
  Cuts : (x : Intention) (y : Option Intention) → Cut plans named (searched x) (Outcome.Ends y) → Ended plans named x y
  Runs : (x : Intention) (t : List Means) → Cut plans named (searched x) (Outcome.Goes t) → Ended plans named x (Some (Intention.Runs t))

-- Such intentions, one after another. All others stay.
pub data End (plans : List OwnedPlan) (named : Option (LiteralOf Term)) : Heap → Heap → Type 0 where
  Same : (before after : Heap) → ((f : Intention → ℕ) → after f ≡ before f) → End plans named before after
  One : (before rest next after : Heap) (x : Intention) (y : Option Intention) → ((f : Intention → ℕ) → before f ≡ f x + rest f) → Ended plans named x y
      → ((f : Intention → ℕ) → next f ≡ rest f + one_or_none f y) → End plans named next after → End plans named before after

-- ---- the parts of a cycle

-- feedback: the stack that waits for its action has its head done, or fails
pub data Fed (plans : List OwnedPlan) (a : Acting) : Option Intention → Type 0 where
  Done : Fed plans a (Some (Intention.Runs (without_head a.stack)))
  Fails : (n : ℕ) (x : Option Intention) → Failed plans n error.ActionFailed a.stack x → Fed plans a x

pub data Feeds (plans : List OwnedPlan) (before after : Agenda) : Type 0 where
  Untold : Becomes IsNone (held before) (held after) → Feeds plans before after
  Told : (a : Acting) → before.acting ≡ Some a → Becomes (Fed plans a) (held (record before { acting = None })) (held after) → Feeds plans before after

-- a message: one that waits for an answer gets it, or fails; or some have the goal that is dropped; or only events begin
pub data Answered (plans : List OwnedPlan) (q : Ask) : Option Intention → Type 0 where
  Takes : (s : List Pair) → Answered plans q (Some (Intention.Runs (without_head (bound s q.stack))))
  Fails : (n : ℕ) (x : Option Intention) → Failed plans n error.IaFailed q.stack x → Answered plans q x

pub data Reads (plans : List OwnedPlan) (named : Option (LiteralOf Term)) (before after : Agenda) : Type 0 where
  Begins : Becomes IsNone (held before) (held after) → Reads plans named before after
  Answers : (front back : List Ask) (q : Ask) → before.asks ≡ front ++ q ∷ back
      → Becomes (Answered plans q) (held (record before { asks = front ++ back })) (held after) → Reads plans named before after
  Drops : End plans named (held before) (held after) → Reads plans named before after

-- the oldest event: the means of a plan go on top of its stack; without a plan it is dropped where it is of a belief, and else its goal fails
pub data Treated (plans : List OwnedPlan) (v : Event) : Option Intention → Type 0 where
  Planned : (m : Means) → Treated plans v (Some (Intention.Runs (m ∷ v.stack)))
  Dropped : v.trigger.kind ≡ kind.Belief → Treated plans v None
  Fails : (n : ℕ) (e : Error) (x : Option Intention) → Failed plans n e (virtual v) x → Treated plans v x

pub data Treats (plans : List OwnedPlan) (before after : Agenda) : Type 0 where
  Idle : before.events ≡ [] → Becomes IsNone (held before) (held after) → Treats plans before after
  Oldest : (v : Event) (events : List Event) → before.events ≡ v ∷ events
      → Becomes (Treated plans v) (held (record before { events = events })) (held after) → Treats plans before after

-- The selected stack: its head is done, perhaps with a substitution; or it waits with its head, for a goal, an action or an answer;
-- or it fails; or it has the goal that its item drops or ends.
pub data Executed (plans : List OwnedPlan) (s : List Means) : Option Intention → Type 0 where
  Idle : (n : ℕ) (x : Option Intention) → Clears plans n s x → Executed plans s x
  Done : (n : ℕ) (bind : Option (List Pair)) (x : Option Intention) → Clears plans n (without_head (bound_by bind s)) x → Executed plans s x
  Posts : (h : Formula) (k : Kind) (g : LiteralOf Term) → Executed plans s (Some (Intention.Waits (goal_event k g (with_head h s))))
  Acts : (l : LiteralOf Term) → Executed plans s (Some (Intention.Acts (record { stack = s; action = l })))
  Asks : (n : ℕ) (a : Term) → Executed plans s (Some (Intention.Asks (record { number = n; answer = a; stack = s })))
  Fails : (n : ℕ) (e : Error) (x : Option Intention) → Failed plans n e s x → Executed plans s x
  Drops : (g : LiteralOf Term) → dropped_by_head (head s) ≡ Some g → has_goal g s ≡ true → Executed plans s None
  Cuts : (x : Option Intention) → Cut plans (dropped_by_head (head s)) s (Outcome.Ends x) → Executed plans s x
  Goes : (n : ℕ) (t : List Means) (x : Option Intention) → Cut plans (dropped_by_head (head s)) s (Outcome.Goes t) → Clears plans n t x → Executed plans s x

-- the first of the stacks that run is selected; its item may end others
pub data Selects (plans : List OwnedPlan) (before after : Agenda) : Type 0 where
  Idle : before.running ≡ [] → Becomes IsNone (held before) (held after) → Selects plans before after
  First : (s : List Means) (stacks : List (List Means)) (left : Heap) → before.running ≡ s ∷ stacks
      → End plans (dropped_by_head (head s)) (held (record before { running = stacks })) left
      → Becomes (Executed plans s) left (held after) → Selects plans before after

-- Percepts begin events; then feedback, a message, the oldest event and the first stack, one after another. Behind the message the
-- plans are those that it leaves.
pub record KeepsIntentions (plans known : List OwnedPlan) (by_message : Option (LiteralOf Term)) (before after : Agenda) : Type 0 where
  pub seen : Agenda
  pub percepts : Becomes IsNone (held before) (held seen)
  pub fed : Agenda
  pub feedback : Feeds plans seen fed
  pub read : Agenda
  pub message : Reads plans by_message fed read
  pub treated : Agenda
  pub event : Treats known read treated
  pub turn : Selects known treated after

-- rule: each cycle that does not end by a spent budget keeps intentions so: each stands in one place afterwards, as what its step made of
-- it, or has ended for a stated reason
abbrev pub CyclesKeepIntentions : Type 0
CyclesKeepIntentions =
    (k : Surroundings) (peers : Peers) (p : Circumstance) (asks : ℕ) (kept : Option Feedback) (i : Input) (o : Outs)
    → is_fed p.agenda.acting kept ≡ true → (cycle k peers p asks kept i).thought ≡ thought.Outs o
    → KeepsIntentions k.plans (plans_after k.plans p.number i.message) (dropped_by_message p.number i.message)
    p.agenda (cycle k peers p asks kept i).parts.agenda
