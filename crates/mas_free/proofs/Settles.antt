-- Where an agent has left since all were quiet, nothing changes any more: its box is empty, and its next cycle would be quiet.
use Rattle.std.proofs.Common.{ℕ, zero, suc, ◌≡◌, ◌-◌, Bool, true, false, nat_eq, ◌&&◌, ◌||◌, List, [], ◌∷◌, length, slice_get, slice_set, Option, None, Some, refl, ap, sym, ◌∙◌, subst}
use Rattle.std.proofs.lemmas.Bool.{and_parts}
use Rattle.std.proofs.lemmas.Option.{same_Some, none-some}
use Rattle.mas_mind.specs.declared.mind.Message.{Message}
use Rattle.mas_mind.specs.declared.mind.Input.{Input}
use Rattle.mas_mind.specs.declared.mind.End.{End}
use Rattle.mas_mind.specs.declared.mind.End.TheVariants.{Quiet, Stopped, Cycles, Budget}
use Rattle.mas_mind.specs.Minds.{Kind, IsAgent, is_quiet, SendsNothing}
use Rattle.mas_world.specs.Seen.{seen}
use Rattle.mas_board.specs.declared.seats.Phase.{Phase}
use Rattle.mas_board.specs.declared.seats.Phase.TheVariants.{Idle, Busy, Left as Gone}
use Rattle.mas_board.specs.declared.seats.AgentPlace.{AgentPlace}
use Rattle.mas_board.specs.Boards.{seat_at, seat_or_none, box_of, name_of, is_gone, rests, are_quiet, all_quiet, rested, sense}
use Rattle.mas_board.proofs.Places.{below, same_place}
use Rattle.mas_core.specs.Platform.{Platform, turn, run, and_run}
use Rattle.mas_core_laws.proofs.Steps.{Turned, Leaves, Thinks, Emits, Spends, HasGone, turned}
use Rattle.mas_core_laws.proofs.Changes.{changed}
use Rattle.mas_core_laws.proofs.Rests.{Rests, Known, known_run}
use Rattle.mas_core_laws.proofs.Calms.{quiet_at}
use Rattle.mas_free.proofs.Senses.{WhyLeft, ByCycles, ByStop, ByQuiet, left_for, goes_on}
use Rattle.mas_free.proofs.Stages.{seat_set}

pub record Rested {V : Type 0} (k : Kind V) (p : Platform V) (a : ℕ) : Type 0 where
  pub running : p.board.stop ≡ false
  pub quiet : all_quiet p.board ≡ true
  pub box : box_of p.board.boxes a ≡ []
  pub rests : Rests k (seen p.board.world (name_of p.board a)) (slice_get p.minds (a - 1))

-- so it is with each agent that left for that
abbrev pub Settled : {V : Type 0} → Kind V → Platform V → Type 0
Settled k p = (a : ℕ) → IsAgent (length p.board.seats) a → (seat_at p.board a).phase ≡ Gone Quiet → Rested k p a

-- ---- one more agent leaves

and-both : (x y : Bool) → x ≡ true → y ≡ true → (x && y) ≡ true
and-both x y e f = λ i. e i && f i

or-first : (x y : Bool) → x ≡ true → (x || y) ≡ true
or-first x y e = ap (λ (t : Bool). t || y) e

quiet-set : (version : ℕ) (seats : List AgentPlace) (boxes : List (List Message)) (i : ℕ) (x : AgentPlace) → is_gone x.phase ≡ true → are_quiet version seats boxes ≡ true →
    are_quiet version (slice_set seats i x) boxes ≡ true
quiet-set version [] boxes i x g h = refl
quiet-set version (s ∷ seats) [] zero x g h = refl
quiet-set version (s ∷ seats) [] (suc i) x g h = refl
quiet-set version (s ∷ seats) (box ∷ boxes) zero x g h =
    let both = and_parts (rests version s box) (are_quiet version seats boxes) h in
    and-both (rests version x box) (are_quiet version seats boxes) (or-first (is_gone x.phase) _ g) both.1
quiet-set version (s ∷ seats) (box ∷ boxes) (suc i) x g h =
    let both = and_parts (rests version s box) (are_quiet version seats boxes) h in
    and-both (rests version s box) (are_quiet version (slice_set seats i x) boxes) both.0 (quiet-set version seats boxes i x g both.1)

not-both : (b : Bool) → b ≡ true → b ≡ false → ⊥
not-both b e f = let g : true ≡ false = sym e ∙ f in cc

abbrev end-in : Phase → End
end-in Idle = Cycles
end-in Busy = Cycles
end-in (Gone end) = end

-- ---- a turn

module _ {V : Type 0} (k : Kind V) (p q : Platform V) (a : ℕ) (known : Known k p) (settled : Settled k p) (i : IsAgent (length p.board.seats) a) where
  keeps : HasGone p a (sense p.board a) q → (b : ℕ) → Rested k p b → Rested k q b
  keeps t b r =
      let x : AgentPlace = record (seat_at p.board a) { phase = Gone t.end } in
      let P = λ (y : Platform V). Rested k y b in
      subst P (sym t.is) (record { running = r.running; quiet = quiet-set p.board.version p.board.seats p.board.boxes (a - 1) x refl r.quiet; box = r.box; rests = r.rests })

  not-busy : (seat_at p.board a).phase ≡ Busy → all_quiet p.board ≡ true → ⊥
  not-busy e h =
      let both = quiet_at p.board.version p.board.seats p.board.boxes (a - 1) (below (length p.board.seats) a i) known.boxed h (ap is_gone e) in
      none-some p.board.version (sym ((known.each a i).busy e).unmarked ∙ both.0)

  -- another agent had left before
  other : (b : ℕ) → Rested k p b → Turned k p a (sense p.board a) q → Rested k q b
  other b r (Leaves t) = keeps t b r
  other b r (Thinks t) = absurd (not-both (all_quiet p.board) r.quiet (goes_on p.board a t.sensed).stirs)
  other b r (Emits t) = absurd (not-busy t.busy r.quiet)
  other b r (Spends t) = absurd (not-busy t.busy r.quiet)

  -- this one leaves
  leaves : HasGone p a (sense p.board a) q → (end : End) → end ≡ Quiet → WhyLeft p.board end → (seat_at p.board a).phase ≡ Idle → Rested k p a
  leaves t end e (ByCycles w) idle = let d : Cycles ≡ Quiet = sym w ∙ e in cc
  leaves t end e (ByStop w s) idle = let d : Stopped ≡ Quiet = sym w ∙ e in cc
  leaves t end e (ByQuiet w r s) idle =
      let both = quiet_at p.board.version p.board.seats p.board.boxes (a - 1) (below (length p.board.seats) a i) known.boxed s (ap is_gone idle) in
      record { running = r; quiet = s; box = both.1; rests = ((known.each a i).idle idle).rests both.0 }

  phase-is : (x : AgentPlace) → q.board.seats ≡ slice_set p.board.seats (a - 1) x → (seat_at q.board a).phase ≡ x.phase
  phase-is x e = ap (λ (y : AgentPlace). y.phase) (seat_set p q a x i e)

  own : (seat_at q.board a).phase ≡ Gone Quiet → Turned k p a (sense p.board a) q → Rested k q a
  own e (Leaves t) =
      let phase = phase-is (record (seat_at p.board a) { phase = Gone t.end }) (ap (λ (y : Platform V). y.board.seats) t.is) in
      keeps t a (leaves t t.end (ap end-in (sym phase ∙ e)) (left_for p.board a t.end _ t.sensed) t.idle)
  own e (Thinks t) =
      let phase : (seat_at q.board a).phase ≡ Busy = phase-is _ (ap (λ (y : Platform V). y.board.seats) t.is) in
      let d : Busy ≡ Gone Quiet = sym phase ∙ e in
      cc
  own e (Emits t) =
      let phase : (seat_at q.board a).phase ≡ Idle = phase-is (rested (seat_at p.board a) t.outs.quiet) (ap (λ (y : Platform V). y.board.seats) t.is) in
      let d : Idle ≡ Gone Quiet = sym phase ∙ e in
      cc
  own e (Spends t) =
      let phase : (seat_at q.board a).phase ≡ Gone Budget = phase-is (record (seat_at p.board a) { phase = Gone Budget }) (ap (λ (y : Platform V). y.board.seats) t.is) in
      let d : Budget ≡ Quiet = ap end-in (sym phase ∙ e) in
      cc

  settled-at : Turned k p a (sense p.board a) q → (b : ℕ) (t : Bool) → nat_eq (a - 1) (b - 1) ≡ t → IsAgent (length p.board.seats) b → (seat_at q.board b).phase ≡ Gone Quiet → Rested k q b
  settled-at w b true e j g =
      let P = λ (x : ℕ). (seat_at q.board x).phase ≡ Gone Quiet → Rested k q x in
      subst P (same_place (length p.board.seats) a b i j e) (λ g. own g w) g
  settled-at w b false e j g =
      let c = changed k p a (sense p.board a) q w in
      other b (settled b j (ap (λ (o : Option AgentPlace). (seat_or_none o).phase) (sym (c.seat b e)) ∙ g)) w

  settled-turn : Turned k p a (sense p.board a) q → Settled k q
  settled-turn w b j g =
      let c = changed k p a (sense p.board a) q w in
      let N = λ (n : ℕ). IsAgent n b in
      settled-at w b (nat_eq (a - 1) (b - 1)) refl (subst N c.number j) g

-- ---- a run

known-turn : {V : Type 0} (k : Kind V) (p q : Platform V) (a : ℕ) → ((m : V) (i : Input) → is_quiet (k.cycle m i).thought ≡ true → SendsNothing (k.cycle m i).thought) →
    Known k p → turn k p a ≡ Some q → Known k q
known-turn {V} k p q a sends h e = known_run k p q (a ∷ []) sends h (ap (and_run (λ (r : Platform V). run k r [])) e)

settled-next : {V : Type 0} (k : Kind V) (p done : Platform V) (a : ℕ) (names : List ℕ) →
    ((m : V) (i : Input) → is_quiet (k.cycle m i).thought ≡ true → SendsNothing (k.cycle m i).thought) →
    ((q : Platform V) → Known k q → Settled k q → run k q names ≡ Some done → Settled k done) → Known k p → Settled k p →
    (o : Option (Platform V)) → turn k p a ≡ o → and_run (λ (q : Platform V). run k q names) o ≡ Some done → Settled k done
settled-next k p done a names sends more h s None e r = absurd (none-some done r)
settled-next k p done a names sends more h s (Some q) e r =
    let t = turned k p a q e in
    more q (known-turn k p q a sends h e) (settled-turn k p q a h s t.agent t.case) r

pub settled_run : {V : Type 0} (k : Kind V) (p done : Platform V) (names : List ℕ) →
    ((m : V) (i : Input) → is_quiet (k.cycle m i).thought ≡ true → SendsNothing (k.cycle m i).thought) → Known k p → Settled k p → run k p names ≡ Some done → Settled k done
settled_run {V} k p done [] sends h s r = let P = λ (x : Platform V). Settled k x in subst P (same_Some p done r) s
settled_run k p done (a ∷ names) sends h s r = settled-next k p done a names sends (λ q g t e. settled_run k q done names sends g t e) h s (turn k p a) refl r
