-- A cycle that has made a row that is none of a quiet cycle is not quiet.
use Rattle.std.specs.Prelude.{◌≡◌, ℕ, zero, suc, Bool, true, false, ◌&&◌, refl, List, [], ◌∷◌, ◌++◌, length, map, Option, None, Some, option_to_list}
use Rattle.asl_intend.specs.declared.entry.Means.{Means}
use Rattle.asl_intend.specs.declared.agenda.Event.{Event}
use Rattle.asl_exec_circumstance.specs.Circumstance.{Surroundings, Circumstance}
use Rattle.mas_mind.specs.Minds.{is_quiet}
use Rattle.asl_cycle.specs.declared.rows.TraceLine.{TraceLine}
use Rattle.asl_cycle.specs.declared.rows.TraceLine.TheVariants as line
use Rattle.asl_cycle.specs.declared.rows.Sofar.{Sofar}
use Rattle.asl_cycle.specs.declared.config.Related.{Related}
use Rattle.asl_cycle.specs.declared.config.Intended.{Intended}
use Rattle.asl_cycle.specs.declared.config.Applied.{Applied}
use Rattle.asl_cycle.specs.declared.config.Applied.TheVariants as applied
use Rattle.asl_cycle.specs.declared.config.After.{After}
use Rattle.asl_cycle.specs.declared.config.After.TheVariants as after
use Rattle.mas_mind.specs.declared.mind.Message.{Message}
use Rattle.mas_mind.specs.declared.mind.Feedback.{Feedback}
use Rattle.asl_exec_circumstance.specs.declared.rows.Row.TheVariants as row
use Rattle.asl_exec_circumstance.specs.declared.peers.Peers.{Peers}
use Rattle.asl_kqml.specs.declared.took.Took.{Took}
use Rattle.asl_kqml.specs.declared.took.Took.TheVariants as took
use Rattle.asl_kqml.specs.Receive.{receive}
use Rattle.asl_cycle.specs.Steps.{by, written, took_row, took_line, sends_line, falls_lines, taught}
use Rattle.asl_cycle.specs.Steps.{feed, sel_ev, rel_pl, appl_pl, sel_appl, add_im, sel_int, exec_step, clear_step}
use Rattle.asl_cycle.specs.Cycle as spec

abbrev pub Loud : spec.Ran → Type 0
Loud r = is_quiet r.thought ≡ false

-- lines of which one is not quiet
abbrev pub HasLoud : List TraceLine → Type 0
HasLoud ls = spec.quiet_lines ls ≡ false

-- behind a line that is quiet or is not
behind : (b : Bool) (ls more : List TraceLine) → (HasLoud ls → HasLoud (ls ++ more))
    → (b && spec.quiet_lines ls) ≡ false → (b && spec.quiet_lines (ls ++ more)) ≡ false
behind true ls more h e = h e
behind false ls more h e = refl

pub stays_loud : (ls more : List TraceLine) → HasLoud ls → HasLoud (ls ++ more)
stays_loud [] more h = cc
stays_loud (l ∷ ls) more h = behind (spec.quiet_line l) ls more (stays_loud ls more) h

and_false : (a b : Bool) → b ≡ false → (a && b) ≡ false
and_false true b h = h
and_false false b h = refl

-- a line that is not quiet, behind others
pub is_loud : (ls : List TraceLine) (l : TraceLine) (more : List TraceLine) → spec.quiet_line l ≡ false → HasLoud (ls ++ l ∷ more)
is_loud [] l more h = rw h refl
is_loud (m ∷ ls) l more h = and_false (spec.quiet_line m) (spec.quiet_lines (ls ++ l ∷ more)) (is_loud ls l more h)

-- the second of some lines behind others
pub second_is_loud : (ls : List TraceLine) (l m : TraceLine) (more : List TraceLine) → spec.quiet_line m ≡ false → HasLoud (ls ++ l ∷ m ∷ more)
second_is_loud [] l m more h = and_false (spec.quiet_line l) (spec.quiet_lines (m ∷ more)) (is_loud [] m more h)
second_is_loud (n ∷ ls) l m more h = and_false (spec.quiet_line n) (spec.quiet_lines (ls ++ l ∷ m ∷ more)) (second_is_loud ls l m more h)

module _ (k : Surroundings) where
  goes : (rest : Circumstance → Sofar → List Means → spec.Ran) → ((p : Circumstance) (s : Sofar) (cur : List Means) → Loud (rest p s cur))
      → (p : Circumstance) (s : Sofar) (cur : List Means) (a : After) → Loud (spec.goes_to k rest p s cur a)
  goes rest h p s cur after.Clears = h p s cur
  goes rest h p s cur after.Ends = refl
  goes rest h p s cur (after.Acts l) = refl
  goes rest h p s cur after.Spends = refl

  -- a row for a stack is not quiet
  clr : (n : ℕ) (p : Circumstance) (s : Sofar) (cur : List Means) → Loud (spec.from_clr k n p s cur)
  clr zero p s cur = refl
  clr (suc n) p s cur = let w = clear_step k p cur in goes (spec.from_clr k n) (clr n) w.parts (written s w) w.next.cur w.next.after

  all_clr : (p : Circumstance) (s : Sofar) (cur : List Means) → Loud (spec.clears k p s cur)
  all_clr p s cur = clr (suc (length cur)) p s cur

module _ (k : Surroundings) (peers : Peers) where
  pub execs : (p : Circumstance) (s : Sofar) (cur : List Means) → Loud (spec.from_exec k peers p s cur)
  execs p s cur = let w = exec_step k peers p s cur in goes k (spec.clears k) (all_clr k) w.parts w.sofar w.next.cur w.next.after

  after_int : (p : Circumstance) (s : Sofar) (o : Option (List Means)) → HasLoud s.lines → Loud (spec.after_sel_int k peers p s o)
  after_int p s None h = h
  after_int p s (Some cur) h = execs p s cur

  pub int : (p : Circumstance) (s : Sofar) → HasLoud s.lines → Loud (spec.from_sel_int k peers p s)
  int p s h = let w = sel_int p in after_int w.parts (written s w) w.next (stays_loud s.lines (line.Rule w.row ∷ w.lines) h)

  appl : (p : Circumstance) (s : Sofar) (i : Intended) → HasLoud s.lines → Loud (spec.from_sel_appl k peers p s i)
  appl p s i h =
      let w = sel_appl p i in
      let v = add_im w.parts i in
      let l = stays_loud s.lines (line.Rule w.row ∷ w.lines) h in
      int v.parts (written (written s w) v) (stays_loud (written s w).lines (line.Rule v.row ∷ v.lines) l)

  after_appl : (p : Circumstance) (s : Sofar) (a : Applied) → HasLoud s.lines → Loud (spec.after_appl_pl k peers p s a)
  after_appl p s (applied.Plan i) h = appl p s i h
  after_appl p s applied.Nothing h = int p s h
  after_appl p s applied.Spent h = refl

  appl_of : (p : Circumstance) (s : Sofar) (r : Related) → HasLoud s.lines → Loud (spec.from_appl_pl k peers p s r)
  appl_of p s r h = let w = appl_pl k p r in after_appl w.parts (written s w) w.next (stays_loud s.lines (line.Rule w.row ∷ w.lines) h)

  after_rel : (p : Circumstance) (s : Sofar) (o : Option Related) → HasLoud s.lines → Loud (spec.after_rel_pl k peers p s o)
  after_rel p s None h = int p s h
  after_rel p s (Some r) h = appl_of p s r h

  pub rel : (p : Circumstance) (s : Sofar) (v : Event) → HasLoud s.lines → Loud (spec.from_rel_pl k peers p s v)
  rel p s v h = let w = rel_pl k p v in after_rel w.parts (written s w) w.next (stays_loud s.lines (line.Rule w.row ∷ w.lines) h)

  after_ev : (p : Circumstance) (s : Sofar) (o : Option Event) → HasLoud s.lines → Loud (spec.after_sel_ev k peers p s o)
  after_ev p s None h = int p s h
  after_ev p s (Some v) h = rel p s v h

  ev : (p : Circumstance) (s : Sofar) → HasLoud s.lines → Loud (spec.from_sel_ev k peers p s)
  ev p s h = let w = sel_ev p in after_ev w.parts (written s w) w.next (stays_loud s.lines (line.Rule w.row ∷ w.lines) h)

  taken : (s : Sofar) (m : Message) (q : Circumstance) (t : Took)
      → Loud (let w = took_row peers s m q t in spec.after_msg k peers w.parts w.sofar w.next)
  taken s m q (took.Row r reply fs) =
      let w = took_row peers s m q (took.Row r reply fs) in
      ev q w.sofar (second_is_loud s.lines (line.Rule r) (took_line peers m) (map (sends_line peers) (option_to_list reply) ++ falls_lines fs) refl)
  taken s m q (took.Spent b) = refl

module _ (k : Surroundings) (peers : Peers) where
  -- a cycle with a message is not quiet
  pub reads : (p : Circumstance) (s : Sofar) (m : Message) → Loud (spec.from_msg k peers p s (Some m))
  reads p s m = let r = receive k peers p m in taken (taught k p.number (Some m)) peers s m r.parts r.took

  pub mail : (p : Circumstance) (s : Sofar) (m : Option Message) → HasLoud s.lines → Loud (spec.from_msg k peers p s m)
  mail p s None h = ev (taught k p.number None) peers p (written s (by row.Msg0 p [] true)) (stays_loud s.lines (line.Rule row.Msg0 ∷ []) h)
  mail p s (Some m) h = reads p s m

  pub feeds : (p : Circumstance) (s : Sofar) (kept : Option Feedback) (m : Option Message) → HasLoud s.lines → Loud (spec.from_feed k peers p s kept m)
  feeds p s kept m h = let w = feed k p kept in mail w.parts (written s w) m (stays_loud s.lines (line.Rule w.row ∷ w.lines) h)

  pub feeds_message : (p : Circumstance) (s : Sofar) (kept : Option Feedback) (m : Message) → Loud (spec.from_feed k peers p s kept (Some m))
  feeds_message p s kept m = let w = feed k p kept in reads w.parts (written s w) m
