-- The sections of agents in the outcome of a row.
use Rattle.std.proofs.Common.{ℕ, zero, suc, ◌≡◌, ◌+◌, ◌-◌, ◌<◌, ◌≤◌, arith, List, ◌∷◌, ◌++◌, length, map, slice_get, Option, None, Some, option_map, refl, ap, sym, ◌∙◌, subst, append_assoc}
use Rattle.std.proofs.lemmas.Option.{same_Some, slice_get-map, slice_get_within}
use Rattle.asl_term.specs.Names.{name_at}
use Rattle.std.specs.List.{flat_map}
use Rattle.mas_mind.specs.declared.mind.Message.{Message}
use Rattle.mas_mind.specs.declared.mind.Thought.{Thought}
use Rattle.mas_mind.specs.Minds.{Kind, IsAgent}
use Rattle.mas_board.specs.declared.seats.AgentPlace.{AgentPlace}
use Rattle.mas_board.specs.Boards.{State, seat_or_none, name_or_none, box_or_none}
use Rattle.mas_report.specs.Report.{lines_or_none, message_line, box_text, boxes_text}
use Rattle.mas_free.specs.declared.view.View.{View}
use Rattle.mas_free.specs.Lines.{viewed}
use Rattle.mas_free.specs.Outcome.{section, section_of, sections}
use Rattle.mas_free.specs.Free.{Free, Stage, phase_at_end, seat_at_end, board_at_end, at_end}
use Rattle.mas_free.specs.Covers.{Start}
use Rattle.mas_explore_space.specs.declared.held.Held.{Held}
use Rattle.mas_explore_space.specs.declared.row.Row.{Row}
use Rattle.mas_explore_space.specs.declared.row.Seat.{Seat}
use Rattle.mas_explore_space.specs.declared.row.Stance.{Stance}
use Rattle.mas_explore_space.specs.declared.row.Stance.TheVariants as stance
use Rattle.mas_explore_minds.proofs.Fitting.{number_of}
use Rattle.mas_explore_worlds.proofs.Fitting.{number_of as worlds_number}
use Rattle.mas_explore_space.specs.Held.{minds_of, worlds_of, Fits}
use Rattle.mas_explore_space.specs.Rows.{StanceHolds, RowHolds, Stands, free_of, box_at}
use Rattle.mas_explore_space.specs.Texts.{phase_of, HasSection}
use Rattle.mas_explore_space.proofs.Rows.{free_holds}

phase-is : {V : Type 0} (k : Kind V) (agents a : ℕ) (thoughts : List Thought) (m : V) (stage : Stage) (st : Stance) → StanceHolds k agents a thoughts m stage st → phase_at_end stage ≡ phase_of st
phase-is k agents a thoughts m stage stance.Idle h = ap phase_at_end h.0
phase-is k agents a thoughts m stage (stance.Busy t) h = ap phase_at_end h.stage_is
phase-is k agents a thoughts m stage stance.Spent h = ap phase_at_end h
phase-is k agents a thoughts m stage (stance.Left end) h = ap phase_at_end h

-- what was appended for an agent is its section
pub section_at : {V : Type 0} (k : Kind V) (v : View) (s : Start V) (h : Held) (most : ℕ) (row : Row) (f : Free V) (a : ℕ) (seat : Seat) (old new : List ℕ) → RowHolds k s h most row f →
    slice_get row.seats (a - 1) ≡ Some seat → HasSection k s h v a seat old new → new ≡ old ++ section_of k v (at_end f) a
section_at {V} k v s h most row f a seat old new x e t =
    let y = x.each (a - 1) seat e in
    let same : t.mind ≡ y.mind = same_Some t.mind y.mind (sym t.mind_at ∙ y.mind_at) in
    let name : name_or_none (name_at s.names a) ≡ name_or_none (name_at f.names a) = ap (λ (n : List (List ℕ)). name_or_none (name_at n a)) (sym x.names) in
    let lines : k.lines t.mind ≡ lines_or_none k.lines (slice_get f.minds (a - 1)) = ap k.lines same ∙ sym (ap (lines_or_none k.lines) y.mind_is) in
    let stage : slice_get (map seat_at_end f.stages) (a - 1) ≡ Some (seat_at_end y.stage) = slice_get-map seat_at_end f.stages (a - 1) ∙ ap (option_map seat_at_end) y.stage_is in
    let phase : phase_of seat.stance ≡ (seat_or_none (slice_get (map seat_at_end f.stages) (a - 1))).phase =
    sym (ap (λ (o : Option AgentPlace). (seat_or_none o).phase) stage ∙ phase-is k (length s.names) (a - 1 + 1) h.minds.thoughts y.mind y.stage seat.stance y.holds) in
    t.text ∙ (λ j. old ++ section (name j) (viewed v (lines j)) (phase j))

one-more : (a n : ℕ) → a ≤ n → n + 1 - a ≡ suc (n + 1 - (a + 1))
one-more a n l = omega arith

onward : (out grown piece rest all total : List ℕ) → grown ≡ out ++ piece → all ≡ piece ++ rest → out ++ all ≡ total → grown ++ rest ≡ total
onward out grown piece rest all total g e h = ap (λ (x : List ℕ). x ++ rest) g ∙ append_assoc out piece rest ∙ sym (ap (λ (x : List ℕ). out ++ x) e) ∙ h

pub sections_next : (of : ℕ → List ℕ) (a n : ℕ) (out grown total : List ℕ) → a ≤ n → grown ≡ out ++ of a → out ++ sections of a (n + 1 - a) ≡ total → grown ++ sections of (a + 1) (n + 1 - (a + 1)) ≡ total
sections_next of a n out grown total l g h =
    onward out grown (of a) (sections of (a + 1) (n + 1 - (a + 1))) (sections of a (n + 1 - a)) total g (ap (sections of a) (one-more a n l)) h

pub letters_next : (s : State) (a n : ℕ) (out grown total : List ℕ) → a ≤ n → grown ≡ out ++ box_text s a → out ++ boxes_text s a (n + 1 - a) ≡ total → grown ++ boxes_text s (a + 1) (n + 1 - (a + 1)) ≡ total
letters_next s a n out grown total l g h =
    onward out grown (box_text s a) (boxes_text s (a + 1) (n + 1 - (a + 1))) (boxes_text s a (n + 1 - a)) total g (ap (boxes_text s a) (one-more a n l)) h

-- ---- the row of a state

module _ {V : Type 0} (k : Kind V) (s : Start V) (h : Held) (most : ℕ) (row : Row) (x : Stands k s h most row) where
  pub mind_within : (place : ℕ) (seat : Seat) → Fits k s h → slice_get row.seats place ≡ Some seat → seat.mind < length s.minds + length h.minds.links
  mind_within place seat fits e =
      let y = x.holds.each place seat e in
      let l = slice_get_within (minds_of k s h) seat.mind y.mind y.mind_at in
      let q = number_of k s.minds h.minds fits.minds in
      omega arith

  pub world_within : Fits k s h → row.world < 1 + length h.worlds
  world_within fits =
      let l = slice_get_within (worlds_of s h) row.world x.state.world x.holds.world_at in
      let q = worlds_number s.names s.world h.worlds fits.worlds in
      omega arith

  seat-before : (place : ℕ) (seat : Seat) → slice_get row.seats place ≡ Some seat → slice_get row.seats (place + 1 - 1) ≡ Some seat
  seat-before place seat e = (let back : place ≡ place + 1 - 1 = omega arith in let P = λ (n : ℕ). slice_get row.seats n ≡ Some seat in subst P back e)

  pub section_in : (v : View) (place : ℕ) (seat : Seat) (old new : List ℕ) → slice_get row.seats place ≡ Some seat → HasSection k s h v (place + 1) seat old new →
      new ≡ old ++ section_of k v (at_end (free_of k s h row)) (place + 1)
  section_in v place seat old new e t = section_at k v s h most row (free_of k s h row) (place + 1) seat old new (free_holds k s h most row x) (seat-before place seat e) t

  pub letters_in : (names : List (List ℕ)) (place : ℕ) (seat : Seat) (old new : List ℕ) → names ≡ s.names → slice_get row.seats place ≡ Some seat →
      new ≡ old ++ flat_map (message_line names) (box_at h.minds.boxes seat) → new ≡ old ++ box_text (board_at_end (free_of k s h row)) (place + 1)
  letters_in names place seat old new n e t =
      let q : slice_get (map (box_at h.minds.boxes) row.seats) (place + 1 - 1) ≡ Some (box_at h.minds.boxes seat) =
      slice_get-map (box_at h.minds.boxes) row.seats (place + 1 - 1) ∙ ap (option_map (box_at h.minds.boxes)) (seat-before place seat e) in
      t ∙ ap (λ (ns : List (List ℕ)). old ++ flat_map (message_line ns) (box_at h.minds.boxes seat)) n ∙
      ap (λ (o : Option (List Message)). old ++ flat_map (message_line s.names) (box_or_none o)) (sym q)

-- ---- the first of all agents, and the whole
