-- The opening, and what is told of all states.
use Rattle.std.proofs.Common.{ℕ, zero, suc, ◌≡◌, ◌+◌, ◌-◌, ◌<◌, ◌≤◌, ◌⊎◌, inl, inr, arith, false, All, List, [], ◌∷◌, ◌++◌, length, map, replicate, slice_get, Option, None, Some, refl, ap, sym, ◌∙◌, subst}
use Rattle.std.proofs.lemmas.List.{length-replicate, length-append}
use Rattle.std.proofs.lemmas.Option.{same_Some, none-some, slice_get_within}
use Rattle.mas_mind.specs.declared.mind.Message.{Message}
use Rattle.mas_mind.specs.Minds.{Kind, IsAgent, IsFor}
use Rattle.mas_core_laws.proofs.Places.{in_replicate}
use Rattle.mas_free.specs.Free as free
use Rattle.mas_free.specs.Free.{Free, Stage}
use Rattle.mas_free.specs.Covers.{Start, free_opening}
use Rattle.mas_explore.specs.Origins.{IsOrigin}
use Rattle.mas_explore.specs.Searches.{AreSized, IsOutcomeAt}
use Rattle.mas_free.specs.Outcome.{outcome}
use Rattle.mas_free.specs.declared.view.View.{View}
use Rattle.mas_explore_tables.specs.Tables.{HasEntered}
use Rattle.mas_explore_tables.proofs.Entering.{IsNew, get-split}
use Rattle.mas_explore_space.specs.declared.held.Held.{Held}
use Rattle.mas_explore_space.specs.declared.row.Row.{Row}
use Rattle.mas_explore_space.specs.declared.row.Seat.{Seat}
use Rattle.mas_explore_space.specs.declared.row.Stance.TheVariants as stance
use Rattle.mas_explore_space.specs.Held.{minds_of, worlds_of, Fits, HasGrown}
use Rattle.mas_explore_space.specs.Rows.{free_of, met_of, SeatHolds, RowHolds, Stands, IsSpace}
use Rattle.mas_explore_space.specs.Met.{AreOpen}
use Rattle.mas_explore_space.proofs.Puts.{item_at}
use Rattle.mas_explore_space.proofs.Rows.{row_free, free_holds}
use Rattle.mas_explore_space.proofs.Steps.{mapped-at}

-- ---- the seats of the opening

abbrev idle : ℕ → ℕ → Seat
idle place mail = record { mind = place; mail = mail; stance = stance.Idle }

pub open_none : (mail : ℕ) → AreOpen 0 mail []
open_none mail = record { number = refl; each = λ place l. absurd (omega arith) }

pub open_more : (n mail : ℕ) (seats : List Seat) → AreOpen n mail seats → AreOpen (n + 1) mail (seats ++ record { mind = n; mail = mail; stance = stance.Idle } ∷ [])
open_more n mail seats x = record { number = number; each = λ place l. here place (item_at (seats ++ idle n mail ∷ []) place (let q = number in omega arith)) }
  where
    number : length (seats ++ idle n mail ∷ []) ≡ n + 1
    number = (let m : length (seats ++ idle n mail ∷ []) ≡ length seats + 1 = length-append seats (idle n mail ∷ []) in let c = x.number in omega arith)

    by : (place : ℕ) (seat : Seat) → (slice_get seats place ≡ Some seat) ⊎ IsNew seats (idle n mail) seat place → seat ≡ idle place mail
    by place seat (inl w) =
        let l = slice_get_within seats place seat w in
        let c = x.number in
        same_Some seat (idle place mail) (sym w ∙ x.each place (omega arith))
    by place seat (inr w) = w.value ∙ ap (λ (i : ℕ). idle i mail) (sym (w.place ∙ x.number))

    here : (place : ℕ) → (seat : Seat) × (slice_get (seats ++ idle n mail ∷ []) place ≡ Some seat) → slice_get (seats ++ idle n mail ∷ []) place ≡ Some (idle place mail)
    here place it = it.1 ∙ ap Some (by place it.0 (get-split seats (idle n mail) it.0 place it.1))

module _ {V : Type 0} (k : Kind V) (s : Start V) (h : Held) (row : Row) (mail : ℕ) (origin : IsOrigin k s) (open-seats : AreOpen (length s.names) mail row.seats)
    (minds-there : (i : ℕ) (m : V) → slice_get s.minds i ≡ Some m → slice_get (minds_of k s h) i ≡ Some m) (world-there : slice_get (worlds_of s h) row.world ≡ Some s.world)
    (box-there : slice_get h.minds.boxes mail ≡ Some []) where
  seat-holds : (place : ℕ) (seat : Seat) → slice_get row.seats place ≡ Some seat → SeatHolds k s h 0 (free_opening s) place seat
  seat-holds place seat e =
      let l : place < length s.names = (let w = slice_get_within row.seats place seat e in let n = open-seats.number in omega arith) in
      let own : Seat = record { mind = place; mail = mail; stance = stance.Idle } in
      let same : own ≡ seat = same_Some own seat (sym (open-seats.each place l) ∙ e) in
      let minds : length s.minds ≡ length s.names = origin.start.number in
      let m = item_at s.minds place (omega arith) in
      let P = λ (n : ℕ). slice_get s.minds n ≡ Some m.0 in
      let back : place ≡ place + 1 - 1 = omega arith in
      let fresh = origin.fresh (place + 1) m.0 (record { from_one = omega arith; named = omega arith }) (subst P back m.1) in
      let S = λ (x : Seat). SeatHolds k s h 0 (free_opening s) place x in
      let none : List Message = [] in
      subst S same (record {
        mind = m.0;
        mind_at = minds-there place m.0 m.1;
        mind_is = m.1;
        box = none;
        box_at = box-there;
        box_is = in_replicate (length s.names) place none l;
        stage = free.Idle;
        stage_is = in_replicate (length s.names) place free.Idle l;
        me = fresh.me;
        agents = fresh.agents_are;
        made = (let n = fresh.made in omega arith);
        delivered = λ i d b. absurd (omega arith);
        holds = (refl, fresh.awaits);
      })

  pub opening_holds : row.stop ≡ false → RowHolds k s h 0 row (free_opening s)
  opening_holds stop =
      let none : List Message = [] in
      let n = open-seats.number in
      record {
        names = refl;
        number = n;
        world_at = world-there;
        stop = sym stop;
        boxes = length-replicate (length s.names) none ∙ sym n;
        minds = origin.start.number ∙ sym n;
        stages = length-replicate (length s.names) free.Idle ∙ sym n;
        each = seat-holds;
      }

-- so it is, where nothing was held before but the box of this number
pub opened_holds : {V : Type 0} (k : Kind V) (s : Start V) (none h : Held) (agents mail : ℕ) (seats : List Seat) → IsOrigin k s → agents ≡ length s.minds → AreOpen agents mail seats → HasGrown k s none h →
    minds_of k s none ≡ s.minds → slice_get (worlds_of s none) 0 ≡ Some s.world → slice_get h.minds.boxes mail ≡ Some [] →
    RowHolds k s h 0 (record { world = 0; stop = false; seats = seats }) (free_opening s)
opened_holds {V} k s none h agents mail seats origin number idle-seats grown minds world box =
    let P = λ (n : ℕ). AreOpen n mail seats in
    opening_holds k s h (record { world = 0; stop = false; seats = seats }) mail origin (subst P (number ∙ origin.start.number) idle-seats)
    (λ i m e. (let Q = λ (ms : List V). slice_get ms i ≡ Some m in grown.grows.minds.minds i m (subst Q (sym minds) e)))
    (grown.grows.worlds 0 s.world world) box refl

module _ {V : Type 0} (k : Kind V) (s : Start V) (h : Held) (row : Row) where
  alone : (rows : List Row) (n : ℕ) → HasEntered [] rows row n → rows ≡ row ∷ []
  alone rows n x = by x.grown
    where
      by : (rows ≡ []) ⊎ (rows ≡ row ∷ []) → rows ≡ row ∷ []
      by (inl e) = (let P = λ (xs : List Row). slice_get xs n ≡ Some row in absurd (none-some row (subst P e x.at)))
      by (inr e) = e

  each-alone : RowHolds k s h 0 row (free_opening s) → (i : ℕ) (r : Row) → slice_get (row ∷ []) i ≡ Some r → Stands k s h i r
  each-alone x zero r e = (let P = λ (y : Row). Stands k s h 0 y in subst P (same_Some row r e) (record { state = free_opening s; holds = x }))
  each-alone x (suc i) r e = absurd (none-some r e)

  pub opening_space : (rows : List Row) (n : ℕ) → Fits k s h → RowHolds k s h 0 row (free_opening s) → HasEntered [] rows row n → IsSpace k s h rows
  opening_space rows n fits x e =
      let P = λ (xs : List Row). IsSpace k s h xs in
      subst P (sym (alone rows n e)) (record { fits = fits; each = each-alone x })

  pub opening_first : (rows : List Row) (n : ℕ) → RowHolds k s h 0 row (free_opening s) → HasEntered [] rows row n → met_of k s h rows ≡ free_opening s ∷ []
  opening_first rows n x e =
      ap (met_of k s h) (alone rows n e) ∙ ap (λ (f : Free V). f ∷ []) (sym (row_free k s h 0 row (free_opening s) x))

-- each state has a stage for each agent
pub sized : {V : Type 0} (k : Kind V) (s : Start V) (h : Held) (rows : List Row) → (0 < length rows → IsSpace k s h rows) → AreSized (length s.names) (met_of k s h rows)
sized {V} k s h rows space state f e =
    let x = mapped-at (free_of k s h) rows state f e in
    let l = slice_get_within rows state x.item x.at in
    let y = free_holds k s h state x.item ((space (omega arith)).each state x.item x.at) in
    ap (λ (g : Free V). length g.stages) (sym x.is) ∙ y.stages ∙ y.number

-- ---- what a step and an outcome ask for

pub outcome_at : {V : Type 0} (k : Kind V) (v : View) (s : Start V) (h : Held) (rows : List Row) (state : ℕ) (row : Row) (text : List ℕ) → slice_get rows state ≡ Some row →
    text ≡ outcome k v (free.at_end (free_of k s h row)) → IsOutcomeAt k v (met_of k s h rows) state text
outcome_at {V} k v s h rows state row text at e f q =
    let x = mapped-at (free_of k s h) rows state f q in
    let same : free_of k s h row ≡ f = ap (free_of k s h) (same_Some row x.item (sym at ∙ x.at)) ∙ x.is in
    e ∙ ap (λ (g : Free V). outcome k v (free.at_end g)) same
