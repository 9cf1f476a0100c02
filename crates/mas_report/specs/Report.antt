-- The text of a run's report. Every line ends in a line feed.
use Rattle.std.specs.Prelude.{ℕ, zero, suc, ◌≡◌, ◌+◌, ◌-◌, Bool, true, false, List, [], ◌∷◌, ◌++◌, Option, None, Some, MatchBool}
use Rattle.std.specs.Prelude.{codes, decimal, length, slice_get}
use Rattle.std.specs.List.{flat_map, list_any}
use Rattle.asl_term.specs.declared.syntax.LiteralOf.{LiteralOf}
use Rattle.asl_term.specs.declared.syntax.Term.{Term}
use Rattle.asl_term.specs.Texts.{text}
use Rattle.asl_term.specs.Exprs.{literal_text}
use Rattle.asl_term.specs.Names.{name_at}
use Rattle.mas_mind.specs.declared.mind.Message.{Message}
use Rattle.mas_mind.specs.declared.mind.End.{End}
use Rattle.mas_mind.specs.declared.mind.End.TheVariants.{Quiet, Stopped, Cycles, Budget}
use Rattle.mas_mind.specs.declared.mind.Level.{Level}
use Rattle.mas_mind.specs.declared.mind.Level.TheVariants.{Say, Acts, Rules}
use Rattle.mas_mind.specs.Minds.{verb_text, Kind}
use Rattle.mas_world.specs.Worlds.{World, facts}
use Rattle.mas_board.specs.declared.seats.Phase.{Phase}
use Rattle.mas_board.specs.declared.seats.Phase.TheVariants.{Idle, Busy, Left as Gone}
use Rattle.mas_board.specs.declared.seats.AgentPlace.{AgentPlace}
use Rattle.mas_board.specs.Boards.{State, Noted, seat_at, box_of, name_of, name_or_none}
use Rattle.mas_core.specs.Platform.{Platform, run, ended}
use Rattle.mas_core.specs.Replay.{RanAlong}
use Rattle.mas_report.specs.declared.options.Options.{Options}
use Rattle.mas_report_schedule.specs.Schedule.{schedule_text, line_feed, printed}

abbrev pub level_word : Level → List ℕ
level_word Say = codes "say"
level_word Acts = codes "acts"
level_word Rules = codes "rules"

abbrev pub field : List ℕ → ℕ → List ℕ
field word n = word ++ decimal n

unfoldable pub limits_text : Options → List ℕ
limits_text o = field (codes "cycles ") o.cycles ++ (field (codes " lead ") o.lead ++ (field (codes " depth ") o.depth ++ field (codes " tries ") o.tries))

-- `cycles N lead N depth N tries N level L`
unfoldable pub options_line : Options → List ℕ
options_line o = limits_text o ++ (codes " level " ++ (level_word o.level ++ line_feed))

abbrev pub end_word : End → List ℕ
end_word Quiet = codes "quiet"
end_word Stopped = codes "stopped"
end_word Cycles = codes "cycles"
end_word Budget = codes "budget"

-- an agent that has not left has no end (and a report has no such agent)
abbrev pub phase_word : Phase → List ℕ
phase_word Idle = []
phase_word Busy = []
phase_word (Gone end) = end_word end

-- `agent NAME`
unfoldable pub agent_line : List ℕ → List ℕ
agent_line name = codes "agent " ++ (name ++ line_feed)

-- `end NAME E C`
unfoldable pub end_line : List ℕ → Phase → ℕ → List ℕ
end_line name phase cycle = codes "end " ++ (name ++ (codes " " ++ (phase_word phase ++ (field (codes " ") cycle ++ line_feed))))

-- the section of an agent: its name, its lines and its end
unfoldable pub agent_text : List ℕ → List ℕ → AgentPlace → List ℕ
agent_text name lines seat = agent_line name ++ (lines ++ end_line name seat.phase seat.cycle)

abbrev pub lines_or_none : {V : Type 0} → (V → List ℕ) → Option V → List ℕ
lines_or_none lines_of None = []
lines_or_none lines_of (Some m) = lines_of m

-- those of so many agents from this number on
abbrev pub agents_text : {V : Type 0} → (V → List ℕ) → State → List V → ℕ → ℕ → List ℕ
agents_text lines_of s minds a zero = []
agents_text lines_of s minds a (suc n) =
    agent_text (name_of s a) (lines_or_none lines_of (slice_get minds (a - 1))) (seat_at s a) ++ agents_text lines_of s minds (a + 1) n

-- ---- the world

-- `fact F`
unfoldable pub fact_line : LiteralOf Term → List ℕ
fact_line f = codes "fact " ++ (literal_text f ++ line_feed)

-- the facts of each segment, in order
abbrev pub world_text : World → List ℕ
world_text w = codes "world\n" ++ flat_map fact_line (facts w)

-- ---- the unread messages

-- `for TO from FROM VERB CONTENT`
unfoldable pub route_text : List (List ℕ) → Message → List ℕ
route_text names m = codes "for " ++ (name_or_none (name_at names m.to) ++ (codes " from " ++ (name_or_none (name_at names m.from) ++ codes " ")))

unfoldable pub content_text : Message → List ℕ
content_text m = verb_text m.verb ++ (codes " " ++ (text m.content ++ line_feed))

abbrev pub message_line : List (List ℕ) → Message → List ℕ
message_line names m = route_text names m ++ content_text m

-- those of one agent, the oldest first
abbrev pub box_text : State → ℕ → List ℕ
box_text s a = flat_map (message_line s.names) (box_of s.boxes a)

-- those of so many agents from this number on
abbrev pub boxes_text : State → ℕ → ℕ → List ℕ
boxes_text s a zero = []
boxes_text s a (suc n) = box_text s a ++ boxes_text s (a + 1) n

abbrev pub mail_text : State → List ℕ
mail_text s = codes "mail\n" ++ boxes_text s 1 (length s.seats)

-- ---- the whole

-- the version of the reports that are written
abbrev pub latest : ℕ
latest = 2

-- `jasonrun V`
unfoldable pub first_line : ℕ → List ℕ
first_line version = codes "jasonrun " ++ (decimal version ++ line_feed)

-- what stands before the schedule
abbrev pub front_text : {V : Type 0} → (V → List ℕ) → ℕ → Options → State → List V → List ℕ
front_text lines_of version o board minds =
    first_line version ++ (options_line o ++ (agents_text lines_of board minds 1 (length board.seats) ++ (world_text board.world ++ mail_text board)))

-- rule: the report, of this version, of the state to which the schedule has led
abbrev pub report_text : {V : Type 0} → (V → List ℕ) → ℕ → Options → State → List V → List ℕ → List ℕ
report_text lines_of version o board minds schedule = front_text lines_of version o board minds ++ schedule_text version schedule

-- the end `budget`
abbrev pub is_budget : Phase → Bool
is_budget (Gone Budget) = true
is_budget other = false

-- some end is `budget`
abbrev pub is_spent : List AgentPlace → Bool
is_spent seats = list_any (λ s. is_budget s.phase) seats

-- rule: the text is the report, of this version, of the run from p along the numbers for which its own last line stands: every turn of
-- these is legal, and every agent has left at the end, some of them by `budget` or none
pub record IsReport {V : Type 0} (k : Kind V) (version : ℕ) (o : Options) (p : Platform V) (spent : Bool) (w : List ℕ) : Type 0 where
  pub done : Platform V
  pub ran : run k p (printed w) ≡ Some done
  pub ended : ended done.board.seats ≡ true
  pub spent_is : is_spent done.board.seats ≡ spent
  pub is : w ≡ report_text k.lines version o done.board done.minds (printed w)

-- rule: it is so, whatever the ends are
pub record IsAnyReport {V : Type 0} (k : Kind V) (version : ℕ) (o : Options) (p : Platform V) (w : List ℕ) : Type 0 where
  pub spent : Bool
  pub report : IsReport k version o p spent w

-- the run from p along these numbers came to this, and its report, of this version, is these bytes
pub record IsOwnRun {V : Type 0} (k : Kind V) (version : ℕ) (o : Options) (p : Platform V)
    (names bytes : List ℕ) (board : Noted) (minds : List V) : Type 0 where
  pub ran : RanAlong k p names board minds
  pub is : report_text k.lines version o board.state minds board.schedule ≡ bytes

-- rule: the text is the report, of the version that is written, of the run from p along these numbers
pub record IsRenewal {V : Type 0} (k : Kind V) (o : Options) (p : Platform V) (names w : List ℕ) : Type 0 where
  pub report : IsAnyReport k latest o p w
  pub along : printed w ≡ names

-- this is so, or it is not so
abbrev pub Decided : Type 0 → Bool → Type 0
Decided P so = MatchBool so P (P → ⊥)
