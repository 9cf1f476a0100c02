-- A cycle: the steps, each followed by a later one.
use Rattle.std.specs.Prelude.{ℕ, zero, suc, Bool, true, false, ◌&&◌, List, [], ◌∷◌, length, Option, None, Some}
use Rattle.asl_term.specs.declared.syntax.LiteralOf.{LiteralOf}
use Rattle.asl_term.specs.declared.syntax.Term.{Term}
use Rattle.asl_intend.specs.declared.entry.Means.{Means}
use Rattle.asl_intend.specs.declared.agenda.Event.{Event}
use Rattle.asl_exec_circumstance.specs.declared.rows.Row.{Row}
use Rattle.asl_exec_circumstance.specs.declared.rows.Row.TheVariants as row
use Rattle.asl_exec_circumstance.specs.Circumstance.{Surroundings, Circumstance}
use Rattle.mas_mind.specs.declared.mind.Message.{Message}
use Rattle.mas_mind.specs.declared.mind.Feedback.{Feedback}
use Rattle.mas_mind.specs.declared.mind.Input.{Input}
use Rattle.mas_mind.specs.declared.mind.Thought.{Thought}
use Rattle.mas_mind.specs.declared.mind.Thought.TheVariants as thought
use Rattle.asl_exec_circumstance.specs.declared.peers.Peers.{Peers}
use Rattle.asl_cycle.specs.declared.rows.TraceLine.{TraceLine}
use Rattle.asl_cycle.specs.declared.rows.TraceLine.TheVariants as line
use Rattle.asl_cycle.specs.declared.rows.Sofar.{Sofar}
use Rattle.asl_cycle.specs.declared.config.Related.{Related}
use Rattle.asl_cycle.specs.declared.config.Intended.{Intended}
use Rattle.asl_cycle.specs.declared.config.Applied.{Applied}
use Rattle.asl_cycle.specs.declared.config.Applied.TheVariants as applied
use Rattle.asl_cycle.specs.declared.config.After.{After}
use Rattle.asl_cycle.specs.declared.config.After.TheVariants as after
use Rattle.asl_cycle.specs.Steps.{Stepped, Onward, written, percept, feed, msg, taught, sel_ev, rel_pl, appl_pl, sel_appl, add_im, sel_int}
use Rattle.asl_cycle.specs.Steps.{exec_step, clear_step}

-- what a cycle leaves, the number of the next ask among it, writes and thinks
pub record Ran : Type 0 where
  pub parts : Circumstance
  pub asks : ℕ
  pub lines : List TraceLine
  pub thought : Thought

-- the rows of a quiet cycle: nothing is sensed, fed back, read, selected or run
abbrev pub quiet_row : Row → Bool
quiet_row row.Percept0 = true
quiet_row row.Feed0 = true
quiet_row row.Msg0 = true
quiet_row row.SelEv2 = true
quiet_row row.SelInt2 = true
quiet_row other = false

abbrev pub quiet_line : TraceLine → Bool
quiet_line (line.Rule r) = quiet_row r
quiet_line other = false

-- rule: a cycle is quiet where every line of it names a row of a quiet one: Percept0, Feed0, Msg0, SelEv2, SelInt2
abbrev pub quiet_lines : List TraceLine → Bool
quiet_lines [] = true
quiet_lines (l ∷ ls) = quiet_line l && quiet_lines ls

-- the outs at the end of a cycle
abbrev pub outs : Option (LiteralOf Term) → Bool → Sofar → Thought
outs action quiet s = thought.Outs (record { action = action; messages = s.messages; stop = s.stop; quiet = quiet })

-- the end of a cycle
abbrev pub ends : Option (LiteralOf Term) → Bool → Circumstance → Sofar → Ran
ends action quiet p s = record { parts = p; asks = s.asks; lines = s.lines; thought = outs action quiet s }

-- the end of a cycle by a spent budget: its outs are dropped
abbrev pub spends : Circumstance → Sofar → Ran
spends p s = record { parts = p; asks = s.asks; lines = s.lines; thought = thought.Spent }

-- the row of a step, and then the rest of the cycle
abbrev pub and_then : {N : Type 0} → Sofar → Stepped N → (Circumstance → Sofar → N → Ran) → Ran
and_then s w rest = rest w.parts (written s w) w.next

module _ (k : Surroundings) where
  -- after a row for the current stack: on to Clr, or the end
  abbrev pub goes_to : (Circumstance → Sofar → List Means → Ran) → Circumstance → Sofar → List Means → After → Ran
  goes_to rest p s cur after.Clears = rest p s cur
  goes_to rest p s cur after.Ends = ends None false p s
  goes_to rest p s cur (after.Acts l) = ends (Some l) false p s
  goes_to rest p s cur after.Spends = spends p s

  abbrev pub goes_on : (Circumstance → Sofar → List Means → Ran) → Circumstance → Sofar → Onward → Ran
  goes_on rest p s o = goes_to rest p s o.cur o.after

  -- at most so many rows of Clr. Each that leads to Clr again pops means, so one more than there are means is enough
  abbrev pub from_clr : ℕ → Circumstance → Sofar → List Means → Ran
  from_clr zero p s cur = ends None false p s
  from_clr (suc n) p s cur = and_then s (clear_step k p cur) (goes_on (from_clr n))

  abbrev pub clears : Circumstance → Sofar → List Means → Ran
  clears p s cur = from_clr (suc (length cur)) p s cur

module _ (k : Surroundings) (peers : Peers) where
  abbrev pub from_exec : Circumstance → Sofar → List Means → Ran
  from_exec p s cur = let w = exec_step k peers p s cur in goes_on k (clears k) w.parts w.sofar w.next

  -- a cycle that selects no stack ends, and is quiet if all its rows are
  abbrev pub after_sel_int : Circumstance → Sofar → Option (List Means) → Ran
  after_sel_int p s None = ends None (quiet_lines s.lines) p s
  after_sel_int p s (Some cur) = from_exec p s cur

  abbrev pub from_sel_int : Circumstance → Sofar → Ran
  from_sel_int p s = and_then s (sel_int p) after_sel_int

  abbrev pub from_add_im : Circumstance → Sofar → Intended → Ran
  from_add_im p s i = and_then s (add_im p i) (λ q t _. from_sel_int q t)

  abbrev pub from_sel_appl : Circumstance → Sofar → Intended → Ran
  from_sel_appl p s i = and_then s (sel_appl p i) (λ q t _. from_add_im q t i)

  abbrev pub after_appl_pl : Circumstance → Sofar → Applied → Ran
  after_appl_pl p s (applied.Plan i) = from_sel_appl p s i
  after_appl_pl p s applied.Nothing = from_sel_int p s
  after_appl_pl p s applied.Spent = spends p s

  abbrev pub from_appl_pl : Circumstance → Sofar → Related → Ran
  from_appl_pl p s r = and_then s (appl_pl k p r) after_appl_pl

  abbrev pub after_rel_pl : Circumstance → Sofar → Option Related → Ran
  after_rel_pl p s None = from_sel_int p s
  after_rel_pl p s (Some r) = from_appl_pl p s r

  abbrev pub from_rel_pl : Circumstance → Sofar → Event → Ran
  from_rel_pl p s v = and_then s (rel_pl k p v) after_rel_pl

  abbrev pub after_sel_ev : Circumstance → Sofar → Option Event → Ran
  after_sel_ev p s None = from_sel_int p s
  after_sel_ev p s (Some v) = from_rel_pl p s v

  abbrev pub from_sel_ev : Circumstance → Sofar → Ran
  from_sel_ev p s = and_then s (sel_ev p) after_sel_ev

  -- rule: a search that spends its budget for a message ends the cycle
  abbrev pub after_msg : Circumstance → Sofar → Bool → Ran
  after_msg p s true = from_sel_ev p s
  after_msg p s false = spends p s

module _ (k : Surroundings) (peers : Peers) where
  -- the rows behind a message see the plans after it
  abbrev pub from_msg : Circumstance → Sofar → Option Message → Ran
  from_msg p s message = let w = msg k peers p s message in after_msg (taught k p.number message) peers w.parts w.sofar w.next

  abbrev pub from_feed : Circumstance → Sofar → Option Feedback → Option Message → Ran
  from_feed p s kept message = and_then s (feed k p kept) (λ q t _. from_msg q t message)

  abbrev pub from_percept : Circumstance → Sofar → Option Feedback → Input → Ran
  from_percept p s kept i = and_then s (percept p i.percepts) (λ q t _. from_feed q t kept i.message)

-- a cycle writes nothing and asks for nothing before its first row
abbrev pub nothing_yet : ℕ → Sofar
nothing_yet asks = record { lines = []; messages = []; stop = false; asks = asks }

-- rule: a cycle, with the number of the next ask, and the feedback that was told since the one before
abbrev pub cycle : Surroundings → Peers → Circumstance → ℕ → Option Feedback → Input → Ran
cycle k peers p asks kept i = from_percept k peers p (nothing_yet asks) kept i
