-- States of the free machine as rows of numbers.
use Rattle.std.specs.Prelude.{ℕ, ◌≡◌, true, ◌<◌, ◌≤◌, ◌+◌, ◌-◌, ◌||◌, Bool, false, if◌then◌else◌, is_some, IfSome}
use Rattle.std.specs.Prelude.{All, List, [], ◌∷◌, ◌++◌, length, drop, map, slice_get, slice_set, Option, None, Some}
use Rattle.asl_term.specs.Exprs.{is_ground_literal}
use Rattle.asl_term.specs.declared.syntax.LiteralOf.{LiteralOf}
use Rattle.asl_term.specs.declared.syntax.Term.{Term}
use Rattle.mas_mind.specs.declared.mind.Message.{Message}
use Rattle.mas_mind.specs.declared.mind.Outs.{Outs}
use Rattle.mas_mind.specs.declared.mind.Feedback.{Feedback}
use Rattle.mas_mind.specs.declared.mind.Thought.{Thought}
use Rattle.mas_mind.specs.declared.mind.Thought.TheVariants as thought
use Rattle.mas_mind.specs.Minds.{Kind, IsAgent, IsFor, AreOuts}
use Rattle.mas_world.specs.Worlds.{World, acted}
use Rattle.mas_board.specs.Boards.{put_last, posted}
use Rattle.mas_core.specs.Platform.{tell}
use Rattle.mas_free.specs.Free as free
use Rattle.mas_free.specs.Free.{Free, Stage, carry_nothing, stage_after, move}
use Rattle.mas_free.specs.Covers.{Start}
use Rattle.mas_explore_minds.specs.Minds.{or_none, ThinksTo}
use Rattle.mas_explore_minds.specs.declared.heard.Thinking.{Thinking}
use Rattle.mas_explore_worlds.specs.Worlds.{name_of}
use Rattle.mas_explore_space.specs.declared.held.Held.{Held}
use Rattle.mas_explore_space.specs.declared.held.Acting.{Acting}
use Rattle.mas_explore_space.specs.declared.row.Row.{Row}
use Rattle.mas_explore_space.specs.declared.row.Seat.{Seat}
use Rattle.mas_explore_space.specs.declared.row.Stance.{Stance}
use Rattle.mas_explore_space.specs.declared.row.Stance.TheVariants as stance
use Rattle.mas_explore_space.specs.Held.{minds_of, worlds_of, IsSeen, Fits, HasGrown}

-- ---- the state that a row stands for

abbrev pub world_or : World → Option World → World
world_or w None = w
world_or w (Some x) = x

abbrev pub put_first : {V : Type 0} → Option V → List V → List V
put_first None vs = vs
put_first (Some v) vs = v ∷ vs

-- the minds of these seats
abbrev pub minds_at : {V : Type 0} → List V → List Seat → List V
minds_at minds [] = []
minds_at minds (seat ∷ seats) = put_first (slice_get minds seat.mind) (minds_at minds seats)

abbrev pub stage_in : Option Thought → Stage
stage_in None = free.Idle
stage_in (Some t) = stage_after t

abbrev pub stage_of : List Thought → Stance → Stage
stage_of thoughts stance.Idle = free.Idle
stage_of thoughts (stance.Busy t) = stage_in (slice_get thoughts t)
stage_of thoughts stance.Spent = free.Spent
stage_of thoughts (stance.Left end) = free.Left end

abbrev pub box_at : List (List Message) → Seat → List Message
box_at boxes seat = or_none (slice_get boxes seat.mail)

abbrev pub stage_at : List Thought → Seat → Stage
stage_at thoughts seat = stage_of thoughts seat.stance

abbrev pub free_of : {V : Type 0} → Kind V → Start V → Held → Row → Free V
free_of k s h row = record {
  names = s.names;
  world = world_or s.world (slice_get (worlds_of s h) row.world);
  boxes = map (box_at h.minds.boxes) row.seats;
  stop = row.stop;
  minds = minds_at (minds_of k s h) row.seats;
  stages = map (stage_at h.minds.thoughts) row.seats;
}

abbrev pub met_of : {V : Type 0} → Kind V → Start V → Held → List Row → List (Free V)
met_of k s h rows = map (free_of k s h) rows

-- ---- what holds of each row

-- an agent's outs, in which there is something; its mind awaits feedback where there is an action
pub record IsBusy {V : Type 0} (k : Kind V) (agents a : ℕ) (thoughts : List Thought) (m : V) (t : ℕ) (stage : Stage) : Type 0 where
  pub outs : Outs
  pub at : slice_get thoughts t ≡ Some (thought.Outs outs)
  pub some : carry_nothing outs ≡ false
  pub stage_is : stage ≡ free.Busy outs
  pub awaits : k.awaits m ≡ is_some outs.action
  pub lawful : AreOuts a agents outs

abbrev pub StanceHolds : {V : Type 0} → Kind V → ℕ → ℕ → List Thought → V → Stage → Stance → Type 0
StanceHolds k agents a thoughts m stage stance.Idle = (stage ≡ free.Idle) × (k.awaits m ≡ false)
StanceHolds k agents a thoughts m stage (stance.Busy t) = IsBusy k agents a thoughts m t stage
StanceHolds k agents a thoughts m stage stance.Spent = stage ≡ free.Spent
StanceHolds k agents a thoughts m stage (stance.Left end) = stage ≡ free.Left end

-- the mind, the box and the stage of the agent at this place; the mind has made no more cycles than these
pub record SeatHolds {V : Type 0} (k : Kind V) (s : Start V) (h : Held) (most : ℕ) (f : Free V) (place : ℕ) (seat : Seat) : Type 0 where
  pub mind : V
  pub mind_at : slice_get (minds_of k s h) seat.mind ≡ Some mind
  pub mind_is : slice_get f.minds place ≡ Some mind
  pub box : List Message
  pub box_at : slice_get h.minds.boxes seat.mail ≡ Some box
  pub box_is : slice_get f.boxes place ≡ Some box
  pub stage : Stage
  pub stage_is : slice_get f.stages place ≡ Some stage
  pub me : k.me mind ≡ place + 1
  pub agents : k.agents mind ≡ length s.names
  pub made : k.made mind ≤ most
  pub delivered : All (IsFor (place + 1) (length s.names)) box
  pub holds : StanceHolds k (length s.names) (place + 1) h.minds.thoughts mind stage seat.stance

-- the row stands for this state
pub record RowHolds {V : Type 0} (k : Kind V) (s : Start V) (h : Held) (most : ℕ) (row : Row) (f : Free V) : Type 0 where
  pub names : f.names ≡ s.names
  pub number : length row.seats ≡ length s.names
  pub world_at : slice_get (worlds_of s h) row.world ≡ Some f.world
  pub stop : f.stop ≡ row.stop
  pub boxes : length f.boxes ≡ length row.seats
  pub minds : length f.minds ≡ length row.seats
  pub stages : length f.stages ≡ length row.seats
  pub each : (place : ℕ) (seat : Seat) → slice_get row.seats place ≡ Some seat → SeatHolds k s h most f place seat

-- ---- moves of rows

-- the move of the agent leads to a state for which this row stands
pub record Comes {V : Type 0} (k : Kind V) (s : Start V) (h : Held) (most : ℕ) (f : Free V) (a : ℕ) (row : Row) : Type 0 where
  pub next : Free V
  pub moved : move k f a ≡ Some next
  pub holds : RowHolds k s h most row next

abbrev pub MovesTo : {V : Type 0} → Kind V → Start V → Held → ℕ → Free V → ℕ → Option Row → Type 0
MovesTo k s h most f a None = move k f a ≡ None
MovesTo k s h most f a (Some row) = Comes k s h most f a row

-- what comes of the agent's move from the state of this row
pub record HasMoved {V : Type 0} (k : Kind V) (s : Start V) (old new : Held) (most : ℕ) (row : Row) (a : ℕ) (to : Option Row) : Type 0 where
  pub grown : HasGrown k s old new
  pub moves : (f : Free V) → RowHolds k s old most row f → MovesTo k s new (most + 1) f a to

-- the row stands for some state
pub record Stands {V : Type 0} (k : Kind V) (s : Start V) (h : Held) (most : ℕ) (row : Row) : Type 0 where
  pub state : Free V
  pub holds : RowHolds k s h most row state

-- what is held fits, and each row stands for a state
pub record IsSpace {V : Type 0} (k : Kind V) (s : Start V) (h : Held) (rows : List Row) : Type 0 where
  pub fits : Fits k s h
  pub each : (state : ℕ) (row : Row) → slice_get rows state ≡ Some row → Stands k s h state row

abbrev pub with_stance : Row → ℕ → Seat → Stance → Row
with_stance row place seat st = record row { seats = slice_set row.seats place (record seat { stance = st }) }

-- ---- boxes by their numbers

-- a box of this number has the oldest message of the box at `mail`, or none where that is empty
pub record IsFront (boxes : List (List Message)) (mail front : ℕ) : Type 0 where
  pub box : List Message
  pub box_at : slice_get boxes mail ≡ Some box
  pub fronts : List Message
  pub front_at : slice_get boxes front ≡ Some fronts
  pub first : slice_get fronts 0 ≡ slice_get box 0

-- a box of this number is the one at `mail` without its oldest message
pub record IsRest (boxes : List (List Message)) (mail rest : ℕ) : Type 0 where
  pub box : List Message
  pub box_at : slice_get boxes mail ≡ Some box
  pub rest_at : slice_get boxes rest ≡ Some (drop 1 box)

-- a box of this number is the one at `mail` with the message put last
pub record IsWith (boxes : List (List Message)) (mail : ℕ) (m : Message) (more : ℕ) : Type 0 where
  pub box : List Message
  pub box_at : slice_get boxes mail ≡ Some box
  pub more_at : slice_get boxes more ≡ Some (box ++ m ∷ [])

-- what an agent does next that has this thought, of this number
abbrev pub stance_after : ℕ → Thought → Stance
stance_after n (thought.Outs outs) = if carry_nothing outs then stance.Idle else stance.Busy n
stance_after n thought.Spent = stance.Spent

-- the row in which the agent at this place has this seat
abbrev pub with_seat : Row → ℕ → Seat → Row
with_seat row place seat = record row { seats = slice_set row.seats place seat }

-- ---- what outs do

-- what the world of this number makes of the action, and the mind of this number that is told so
pub record IsTold {V : Type 0} (k : Kind V) (s : Start V) (h : Held) (world a mind : ℕ) (action : LiteralOf Term) (world' mind' : ℕ) : Type 0 where
  pub before : World
  pub before_at : slice_get (worlds_of s h) world ≡ Some before
  pub after_at : slice_get (worlds_of s h) world' ≡ Some (acted before (name_of s.names a) action).1
  pub teller : V
  pub mind_at : slice_get (minds_of k s h) mind ≡ Some teller
  pub told_at : slice_get (minds_of k s h) mind' ≡ Some (k.took teller (acted before (name_of s.names a) action).0)

-- the world and the mind after the action, where there is one
abbrev pub ActsTo : {V : Type 0} → Kind V → Start V → Held → ℕ → ℕ → ℕ → Option (LiteralOf Term) → ℕ → ℕ → Type 0
ActsTo k s h world a mind None world' mind' = (world' ≡ world) × (mind' ≡ mind)
ActsTo k s h world a mind (Some action) world' mind' = IsTold k s h world a mind action world' mind'

-- the row after an action, before messages are put
abbrev pub acted_row : Row → ℕ → Seat → Bool → ℕ → ℕ → Row
acted_row row place seat stop world mind = record {
  world = world;
  stop = row.stop || stop;
  seats = slice_set row.seats place (record { mind = mind; mail = seat.mail; stance = stance.Idle });
}

-- the state after outs were carried out, but for their messages
abbrev pub acted_free : {V : Type 0} → Kind V → Free V → ℕ → Outs → Option Feedback × World → Free V
acted_free k f a outs after = record f {
  world = after.1;
  stop = f.stop || outs.stop;
  minds = tell k f.minds a (slice_get f.minds (a - 1)) after.0;
  stages = slice_set f.stages (a - 1) free.Idle;
}

-- the rows stand for the same, but that the messages were put
pub record HasPut {V : Type 0} (k : Kind V) (s : Start V) (old new : Held) (most : ℕ) (row next : Row) (messages : List Message) : Type 0 where
  pub grown : HasGrown k s old new
  pub puts : (f : Free V) → RowHolds k s old most row f → RowHolds k s new most next (record f { boxes = posted f.boxes messages })

-- ---- a cycle

pub record HasBox (boxes : List (List Message)) (mail : ℕ) : Type 0 where
  pub box : List Message
  pub box_at : slice_get boxes mail ≡ Some box

-- the agent of this seat made a cycle on what it sees and its oldest message, and this came of it
pub record HasCycled {V : Type 0} (k : Kind V) (s : Start V) (old new : Held) (world a : ℕ) (seat : Seat) (comes : Thinking) : Type 0 where
  pub grown : HasGrown k s old new
  pub sight : ℕ
  pub front : ℕ
  pub seen : IsSeen s new (record { world = world; agent = a }) sight
  pub fronts : IsFront new.minds.boxes seat.mail front
  pub thinks : ThinksTo k s.minds new.minds (record { mind = seat.mind; sight = sight; front = front }) comes

-- the row of a state of which the agent's move may be followed: it has this seat
pub record IsMover {V : Type 0} (k : Kind V) (s : Start V) (h : Held) (most : ℕ) (row : Row) (a : ℕ) (seat : Seat) : Type 0 where
  pub fits : Fits k s h
  pub stands : Stands k s h most row
  pub agent : IsAgent (length s.names) a
  pub seat_at : slice_get row.seats (a - 1) ≡ Some seat

-- the numbers of the world and the mind after the action of these outs
pub record HasDone {V : Type 0} (k : Kind V) (s : Start V) (old new : Held) (world a mind : ℕ)
    (action : Option (LiteralOf Term)) (world' mind' : ℕ) : Type 0 where
  pub grown : HasGrown k s old new
  pub acts : ActsTo k s new world a mind action world' mind'

pub record HasOuts (thoughts : List Thought) (t : ℕ) : Type 0 where
  pub outs : Outs
  pub at : slice_get thoughts t ≡ Some (thought.Outs outs)

abbrev pub AreOutsAt : List Thought → ℕ → Outs → Type 0
AreOutsAt thoughts t outs = slice_get thoughts t ≡ Some (thought.Outs outs)

-- the thought of this number has this action
pub record HasAction (thoughts : List Thought) (t : ℕ) (action : LiteralOf Term) : Type 0 where
  pub outs : Outs
  pub at : slice_get thoughts t ≡ Some (thought.Outs outs)
  pub action_is : outs.action ≡ Some action

-- the world of this number is there, the thought has this action, and the mind of this number awaits to be told what became of it
pub record MayDo {V : Type 0} (k : Kind V) (s : Start V) (h : Held) (c : Acting) (mind : ℕ) (action : LiteralOf Term) : Type 0 where
  pub has : HasAction h.minds.thoughts c.thought action
  pub ground : is_ground_literal action ≡ true
  pub before : World
  pub before_at : slice_get (worlds_of s h) c.world ≡ Some before
  pub teller : V
  pub mind_at : slice_get (minds_of k s h) mind ≡ Some teller
  pub awaits : k.awaits teller ≡ true

abbrev pub MayAct : {V : Type 0} → Kind V → Start V → Held → Acting → ℕ → Option (LiteralOf Term) → Type 0
MayAct k s h c mind None = Fits k s h
MayAct k s h c mind (Some action) = MayDo k s h c mind action

-- the row stands for the same, but that the message was put
pub record HasPutOne {V : Type 0} (k : Kind V) (s : Start V) (old new : Held) (most : ℕ) (row next : Row) (m : Message) : Type 0 where
  pub grown : HasGrown k s old new
  pub puts : (f : Free V) → RowHolds k s old most row f → RowHolds k s new most next (record f { boxes = put_last f.boxes m })

-- the row in which the agent at this place has this mind, its box without the oldest message, and does what the thought of this number asks for
pub record HasLed {V : Type 0} (k : Kind V) (s : Start V) (old new : Held) (row : Row) (place : ℕ) (seat : Seat) (mind t : ℕ) (next : Option Row) : Type 0 where
  pub grown : HasGrown k s old new
  pub mail : ℕ
  pub rest : IsRest new.minds.boxes seat.mail mail
  pub st : Stance
  pub does : IfSome (slice_get new.minds.thoughts t) (λ z. st ≡ stance_after t z)
  pub next_is : next ≡ Some (with_seat row place (record { mind = mind; mail = mail; stance = st }))
