-- What is left of a run that ended, none of its agents cut off, is at rest, and has its outcome.
use Rattle.std.proofs.Common.{ℕ, zero, suc, ◌≡◌, ◌+◌, ◌-◌, ◌<◌, ◌≤◌, arith, Bool, true, false, not, nat_le, ◌&&◌, if◌then◌else◌, is_some, option_map, List, [], ◌∷◌, ◌++◌, length, slice_get, Option, None, Some, refl, ap, sym, ◌∙◌, subst}
use Rattle.std.proofs.lemmas.Grind.{common_steps}
use Rattle.std.proofs.lemmas.Bool.{and_parts}
use Rattle.std.proofs.lemmas.List.{length-map}
use Rattle.std.proofs.lemmas.Option.{slice_get-map}
use Rattle.std.specs.Prelude.{codes}
use Rattle.std.specs.List.{flat_map}
use Rattle.asl_term.specs.Names.{name_at}
use Rattle.mas_mind.specs.declared.mind.Message.{Message}
use Rattle.mas_mind.specs.declared.mind.Input.{Input}
use Rattle.mas_mind.specs.declared.mind.End.{End}
use Rattle.mas_mind.specs.declared.mind.End.TheVariants as ends
use Rattle.mas_mind.specs.Minds.{Kind, IsAgent, is_quiet}
use Rattle.mas_world.specs.Seen.{seen}
use Rattle.mas_board.specs.declared.seats.Phase.{Phase}
use Rattle.mas_board.specs.declared.seats.Phase.TheVariants.{Idle, Busy, Left as Gone}
use Rattle.mas_board.specs.declared.seats.AgentPlace.{AgentPlace}
use Rattle.mas_board.specs.Boards.{State, seat_at, seat_or_none, box_of, name_or_none, is_gone, oldest}
use Rattle.mas_board.proofs.Places.{below}
use Rattle.mas_core.specs.Platform.{Platform, is_agent, ended}
use Rattle.mas_report.specs.Report.{lines_or_none, message_line, boxes_text, world_text, mail_text}
use Rattle.mas_free.specs.declared.view.View.{View}
use Rattle.mas_free.specs.Lines.{viewed}
use Rattle.mas_free.specs.Outcome.{section, section_of, sections, outcome, is_cut, uncut}
use Rattle.mas_free.specs.Free as free
use Rattle.mas_free.specs.Free.{Free, Stage, own_name, input_for, is_nothing, think, staged, thought_by, move, move_in, AtRest, phase_at_end, seat_at_end, board_at_end, at_end}
use Rattle.mas_free.specs.Forgets.{stage_left, MindsFit, Forgets}
use Rattle.mas_free.proofs.Stages.{stage_was, moves_in}
use Rattle.mas_free.proofs.Moves.{fit_minds}
use Rattle.mas_free.proofs.Settles.{Settled, Rested}

-- ---- the ends of all agents

-- the end of an agent, which is not that of the limit
pub record HasEnd (at : Phase) : Type 0 where
  pub end : End
  pub is : at ≡ Gone end
  pub short : is_cut (Gone end) ≡ false

end-by : (at : Phase) → is_gone at ≡ true → not (is_cut at) ≡ true → HasEnd at
end-by Idle g c = cc
end-by Busy g c = cc
end-by (Gone ends.Quiet) g c = record { end = ends.Quiet; is = refl; short = refl }
end-by (Gone ends.Stopped) g c = record { end = ends.Stopped; is = refl; short = refl }
end-by (Gone ends.Cycles) g c = cc
end-by (Gone ends.Budget) g c = record { end = ends.Budget; is = refl; short = refl }

end-at : (seats : List AgentPlace) (i : ℕ) → i < length seats → ended seats ≡ true → uncut seats ≡ true → HasEnd (seat_or_none (slice_get seats i)).phase
end-at [] i l e u = absurd (omega arith)
end-at (s ∷ seats) zero l e u = end-by s.phase (and_parts (is_gone s.phase) (ended seats) e).0 (and_parts (not (is_cut s.phase)) (uncut seats) u).0
end-at (s ∷ seats) (suc i) l e u = end-at seats i (omega arith) (and_parts (is_gone s.phase) (ended seats) e).1 (and_parts (not (is_cut s.phase)) (uncut seats) u).1

-- ---- it is at rest

pub is_agent_of : (n a : ℕ) → is_agent n a ≡ true → IsAgent n a
is_agent_of n a e =
    let h = and_parts (nat_le 1 a) (nat_le a n) e in
    let x : nat_le 1 a ≡ true = h.0 in
    let y : nat_le a n ≡ true = h.1 in
    record { from_one = grind (arith, common_steps); named = grind (arith, common_steps) }

module _ {V : Type 0} (k : Kind V) (v : View) (q : Platform V) (g : Free V) (h : Forgets k v q g) (over : ended q.board.seats ≡ true) (whole : uncut q.board.seats ≡ true) where
  -- the next cycle of an agent that left since all were quiet is quiet
  rests-quiet : ((m : V) (i j : Input) → is_quiet (k.cycle m i).thought ≡ true → j.percepts ≡ i.percepts → j.message ≡ None → is_quiet (k.cycle (k.cycle m i).mind j).thought ≡ true) →
      (a : ℕ) → IsAgent (length q.board.seats) a → Rested k q a → think k g a (slice_get g.minds (a - 1)) ≡ None
  rests-quiet again a i r =
      let input = input_for g a in
      let m = (k.cycle r.rests.before r.rests.input).mind in
      let n = fit_minds k v (slice_get q.minds (a - 1)) (slice_get g.minds (a - 1)) m r.rests.mind (h.each a i).mind in
      let box : box_of g.boxes a ≡ [] = ap (λ (b : List (List Message)). box_of b a) h.boxes ∙ r.box in
      let message : input.message ≡ None = ap oldest box in
      let sight : input.percepts ≡ seen q.board.world (name_or_none (name_at q.board.names a)) = λ j. seen (h.world j) (name_or_none (name_at (h.names j) a)) in
      let calm : is_quiet (k.cycle m input).thought ≡ true = again r.rests.before r.rests.input input r.rests.quiet (sight ∙ sym r.rests.percepts) message in
      let quiet : is_quiet (k.cycle n.0 input).thought ≡ true = sym (ap is_quiet (n.2.thinks [] input)) ∙ calm in
      let nothing : is_nothing input (k.cycle n.0 input).thought ≡ true = λ j. quiet j && not (is_some (message j)) in
      ap (think k g a) n.1 ∙ ap (λ (b : Bool). if b then None else Some (thought_by g a (k.cycle n.0 input))) nothing

  rests-by : ((m : V) (i j : Input) → is_quiet (k.cycle m i).thought ≡ true → j.percepts ≡ i.percepts → j.message ≡ None → is_quiet (k.cycle (k.cycle m i).mind j).thought ≡ true) →
      Settled k q → (a : ℕ) → IsAgent (length q.board.seats) a → IsAgent (length g.stages) a → (end : End) → (seat_at q.board a).phase ≡ Gone end → is_cut (Gone end) ≡ false →
      slice_get g.stages (a - 1) ≡ Some (stage_left end) → move k g a ≡ None
  rests-by again s a i j ends.Quiet e c f =
      let r = s a i e in
      moves_in k g a (Some free.Idle) j f ∙
      ap (λ (b : Bool). if b then Some (staged g a (free.Left ends.Stopped)) else think k g a (slice_get g.minds (a - 1))) (h.stop ∙ r.running) ∙ rests-quiet again a i r
  rests-by again s a i j ends.Stopped e c f = moves_in k g a (Some (free.Left ends.Stopped)) j f
  rests-by again s a i j ends.Cycles e c f = cc
  rests-by again s a i j ends.Budget e c f = moves_in k g a (Some (free.Left ends.Budget)) j f

  stage-at : (a : ℕ) → IsAgent (length q.board.seats) a → (end : End) → (seat_at q.board a).phase ≡ Gone end → slice_get g.stages (a - 1) ≡ Some (stage_left end)
  stage-at a i end e = stage_was q (slice_get g.stages (a - 1)) a (Gone end) (slice_get q.thoughts (a - 1)) (h.each a i).stage e refl

  rests-at : ((m : V) (i j : Input) → is_quiet (k.cycle m i).thought ≡ true → j.percepts ≡ i.percepts → j.message ≡ None → is_quiet (k.cycle (k.cycle m i).mind j).thought ≡ true) →
      Settled k q → (a : ℕ) (b : Bool) → is_agent (length g.stages) a ≡ b → move k g a ≡ None
  rests-at again s a true e =
      let j = is_agent_of (length g.stages) a e in
      let N = λ (n : ℕ). IsAgent n a in
      let i : IsAgent (length q.board.seats) a = subst N h.stages_are j in
      let x = end-at q.board.seats (a - 1) (below (length q.board.seats) a i) over whole in
      rests-by again s a i j x.end x.is x.short (stage-at a i x.end x.is)
  rests-at again s a false e = ap (λ (b : Bool). if b then move_in k g a (slice_get g.stages (a - 1)) else None) e

  pub at_rest : ((m : V) (i j : Input) → is_quiet (k.cycle m i).thought ≡ true → j.percepts ≡ i.percepts → j.message ≡ None → is_quiet (k.cycle (k.cycle m i).mind j).thought ≡ true) →
      Settled k q → AtRest k g
  at_rest again s a = rests-at again s a (is_agent (length g.stages) a) refl

  -- ---- its outcome

  shows-same : (x y : Option V) → MindsFit k v x y → viewed v (lines_or_none k.lines y) ≡ viewed v (lines_or_none k.lines x)
  shows-same None y f = absurd f
  shows-same (Some m) None f = absurd f
  shows-same (Some m) (Some n) f = sym (f.0.shows [])

  at-end : (end : End) → is_cut (Gone end) ≡ false → phase_at_end (stage_left end) ≡ Gone end
  at-end ends.Quiet c = refl
  at-end ends.Stopped c = refl
  at-end ends.Cycles c = cc
  at-end ends.Budget c = refl

  phase-same : (a : ℕ) → IsAgent (length q.board.seats) a → (seat_at (board_at_end g) a).phase ≡ (seat_at q.board a).phase
  phase-same a i =
      let x = end-at q.board.seats (a - 1) (below (length q.board.seats) a i) over whole in
      ap (λ (o : Option AgentPlace). (seat_or_none o).phase) (slice_get-map seat_at_end g.stages (a - 1) ∙ ap (option_map seat_at_end) (stage-at a i x.end x.is)) ∙
      at-end x.end x.short ∙ sym x.is

  section-same : (a : ℕ) → IsAgent (length q.board.seats) a → section_of k v (at_end g) a ≡ section_of k v q a
  section-same a i =
      let lines = shows-same (slice_get q.minds (a - 1)) (slice_get g.minds (a - 1)) (h.each a i).mind in
      let phase = phase-same a i in
      λ j. section (name_or_none (name_at (h.names j) a)) (lines j) (phase j)

sections-same : (of on : ℕ → List ℕ) (a n : ℕ) → ((b : ℕ) → a ≤ b → b < a + n → of b ≡ on b) → sections of a n ≡ sections on a n
sections-same of on a zero h = refl
sections-same of on a (suc n) h =
    let first : of a ≡ on a = h a (omega arith) (omega arith) in
    let rest : sections of (a + 1) n ≡ sections on (a + 1) n = sections-same of on (a + 1) n (λ b l m. h b (omega arith) (omega arith)) in
    λ j. first j ++ rest j

boxes-same : (s t : State) → s.names ≡ t.names → s.boxes ≡ t.boxes → (a n : ℕ) → boxes_text s a n ≡ boxes_text t a n
boxes-same s t e f a zero = refl
boxes-same s t e f a (suc n) =
    let rest = boxes-same s t e f (a + 1) n in
    λ j. flat_map (message_line (e j)) (box_of (f j) a) ++ rest j

module _ {V : Type 0} (k : Kind V) (v : View) (q : Platform V) (g : Free V) (h : Forgets k v q g) (over : ended q.board.seats ≡ true) (whole : uncut q.board.seats ≡ true) where
  agents-same : sections (section_of k v (at_end g)) 1 (length (board_at_end g).seats) ≡ sections (section_of k v q) 1 (length q.board.seats)
  agents-same =
      let number : length (board_at_end g).seats ≡ length q.board.seats = length-map g.stages seat_at_end ∙ h.stages_are in
      ap (sections (section_of k v (at_end g)) 1) number ∙ sections-same (section_of k v (at_end g)) (section_of k v q) 1 (length q.board.seats)
      (λ b l m. section-same k v q g h over whole b (record { from_one = l; named = omega arith }))

  mail-same : mail_text (board_at_end g) ≡ mail_text q.board
  mail-same =
      let number : length (board_at_end g).seats ≡ length q.board.seats = length-map g.stages seat_at_end ∙ h.stages_are in
      let text = ap (boxes_text (board_at_end g) 1) number ∙ boxes-same (board_at_end g) q.board h.names h.boxes 1 (length q.board.seats) in
      ap (λ (t : List ℕ). codes "mail\n" ++ t) text

  pub same_outcome : outcome k v (at_end g) ≡ outcome k v q
  same_outcome =
      let agents = agents-same in
      let mail = mail-same in
      λ j. agents j ++ (world_text (h.world j) ++ mail j)
