-- A site at the start of its run, and in the end.
use Rattle.std.proofs.Common.{ℕ, zero, suc, ◌≡◌, ◌+◌, ◌-◌, ◌<◌, arith, Bool, List, [], ◌∷◌, ◌++◌, length, map, take, replicate, slice_get, Some, refl, ap, sym, ◌∙◌, subst}
use Rattle.std.proofs.lemmas.List.{length-map}
use Rattle.std.proofs.lemmas.Option.{same_Some, slice_get_within}
use Rattle.mas_mind.specs.Minds.{Kind, IsAgent}
use Rattle.mas_board.specs.Boards.{Noted}
use Rattle.mas_board.specs.Seating.{Opens}
use Rattle.mas_sites_stand.specs.declared.seated.Seated.{Seated}
use Rattle.mas_sites_scripts.specs.Scripts.{Script}
use Rattle.mas_sites_scripts.specs.Giving.{is_own}
use Rattle.mas_sites_scripts.specs.Sites.{Sited, Before, before, After, IsClosed, IsAlong, opened}
use Rattle.mas_sites_scripts.proofs.Openings.{opens, ran_whole}
use Rattle.mas_sites_rounds.specs.Between.{messages_in, script_or_none}
use Rattle.mas_sites_rounds.proofs.Ending.{opens_used}
use Rattle.mas_sites_rounds.proofs.Keeping.{none_in}
use Rattle.mas_sites_rounds.proofs.Tallies.{item_at, below}
use Rattle.mas_sites_wire.specs.declared.wire.Log.{Log}
use Rattle.mas_sites_wire.specs.declared.wire.Wire.{Wire}
use Rattle.mas_sites_wire.specs.declared.wire.WireEnd.{WireEnd}
use Rattle.mas_sites_wire.specs.Ends.{log_of}
use Rattle.mas_sites_wire.specs.Lines.{Lines, lines_of, IsHere, AreHere, AreEnds}
use Rattle.mas_sites_wire.proofs.Calls.{map_get}
use Rattle.mas_sites_worker.specs.Sides.{homes, may_put, put_on, got_on, AreCarried, HasRunOut, MayRun, RanBeside}

-- ---- who lives at a site

pub home_at : {V : Type 0} (minds : List (Seated V)) (i : ℕ) (m : Seated V) → slice_get minds i ≡ Some m → slice_get (homes minds) i ≡ Some (is_own (slice_get minds i))
home_at minds i m e = map_get (λ x. is_own (Some x)) minds i m e ∙ ap (λ o. Some (is_own o)) (sym e)

-- one more
home_more : {V : Type 0} (minds : List (Seated V)) (i : ℕ) → i < length minds → homes (take (suc i) minds) ≡ homes (take i minds) ++ is_own (slice_get minds i) ∷ []
home_more [] i l = absurd (omega arith)
home_more (m ∷ minds) zero l = refl
home_more (m ∷ minds) (suc i) l = ap (λ t. is_own (Some m) ∷ t) (home_more minds i (omega (arith, l)))

pub homes_on : {V : Type 0} (minds : List (Seated V)) (i : ℕ) (old new : List Bool) (b : Bool) → i < length minds → old ≡ homes (take i minds) → b ≡ is_own (slice_get minds (i + 1 - 1)) →
    new ≡ old ++ b ∷ [] → new ≡ homes (take (i + 1) minds)
homes_on minds i old new b l h e n =
    let place : i + 1 - 1 ≡ i = omega arith in
    let next : suc i ≡ i + 1 = omega arith in
    n
    ∙ ap (λ t. t ++ b ∷ []) h
    ∙ ap (λ t. homes (take i minds) ++ t ∷ []) (e ∙ ap (λ j. is_own (slice_get minds j)) place)
    ∙ sym (home_more minds i l)
    ∙ ap (λ j. homes (take j minds)) next

-- ---- the start

module _ {V : Type 0} (k : Kind V) (b : Noted) (minds : List (Seated V)) (wires : List Wire) (ends : List WireEnd) (h : MayRun k b minds wires ends) where
  ends_number : length ends ≡ length minds
  ends_number = h.here.ends_are ∙ sym h.here.puts_are ∙ length-map minds (λ m. is_own (Some m))

  pub wires_number : length wires ≡ length b.state.seats
  wires_number = sym h.here.puts_are ∙ length-map minds (λ m. is_own (Some m)) ∙ h.start.fit.number

  opens_carried : AreCarried k (before b.state minds) (replicate (length minds) []) [] (map log_of ends)
  opens_carried = record {
    number = length-map ends log_of ∙ ends_number;
    may = λ y j.
        let l = below (length minds) y j in
        let n = ends_number in
        let o = h.here.ends_are in
        let m = item_at minds (y - 1) l in
        let e = item_at ends (y - 1) (omega (arith, l, n)) in
        let w = item_at wires (y - 1) (omega (arith, l, n, o)) in
        ap may_put (map_get log_of ends (y - 1) e.0 e.1) ∙ (h.here.each (y - 1) w.0 e.0 _ w.1 e.1 (home_at minds (y - 1) m.0 m.1)).putting;
    out = λ y j o.
        let l = below (length minds) y j in
        let n = ends_number in
        let e = item_at ends (y - 1) (omega (arith, l, n)) in
        let is = map_get log_of ends (y - 1) e.0 e.1 in
        ap put_on is ∙ (h.blank (y - 1) (log_of e.0) is).0;
    back = λ y j o.
        let l = below (length minds) y j in
        let n = ends_number in
        let e = item_at ends (y - 1) (omega (arith, l, n)) in
        let is = map_get log_of ends (y - 1) e.0 e.1 in
        ap got_on is ∙ (h.blank (y - 1) (log_of e.0) is).1 ∙ sym (ap messages_in (none_in (length minds) (y - 1) script_or_none refl refl));
  }

-- ---- the end

-- the ends are still of these wires, and may do what they might
homes_kept : {V : Type 0} (k : Kind V) (near : Before V) (scripts : List Script) (schedule : List ℕ) (wires : List Wire) (last : List WireEnd) → AreEnds wires last →
    AreCarried k near scripts schedule (map log_of last) → AreHere wires last (homes near.minds)
homes_kept k near scripts schedule wires last p c =
    let minds_are : length (homes near.minds) ≡ length near.minds = length-map near.minds (λ m. is_own (Some m)) in
    let logs_are : length (map log_of last) ≡ length last = length-map last log_of in
    let ends_are = p.1.ends_are in
    let number = c.number in
    record {
      ends_are = ends_are;
      puts_are = minds_are ∙ sym number ∙ logs_are ∙ ends_are;
      each = λ i w e b q r s.
          let l = slice_get_within wires i w q in
          let puts_are = p.1.puts_are in
          let x = item_at p.0 i (omega (arith, l, puts_are)) in
          let m = item_at near.minds i (omega (arith, l, number, logs_are, ends_are)) in
          let g = p.1.each i w e x.0 q r x.1 in
          let agent : IsAgent (length near.minds) (i + 1) = record { from_one = omega arith; named = omega (arith, l, number, logs_are, ends_are) } in
          let place : i + 1 - 1 ≡ i = omega arith in
          let may : (log_of e).puts ≡ is_own (slice_get near.minds i) =
          sym (ap may_put (map_get log_of last i e r))
          ∙ ap (λ n. may_put (slice_get (map log_of last) n)) (sym place)
          ∙ c.may (i + 1) agent
          ∙ ap (λ n. is_own (slice_get near.minds n)) place in
          let own : b ≡ is_own (slice_get near.minds i) = same_Some _ _ (sym s ∙ home_at near.minds i m.0 m.1) in
          subst (λ t. IsHere (length wires) (i + 1) w e t) (sym g.putting ∙ may ∙ sym own) g;
    }

carried_closed : {V : Type 0} (k : Kind V) (near : Before V) (now : Sited V) (done : After V) (logs lasts : List Log) → AreCarried k near now.scripts now.schedule logs → IsClosed now done → logs ≡ lasts →
    AreCarried k near done.scripts done.board.schedule lasts
carried_closed k near now done logs lasts c h e =
    let P : List Script × (List ℕ × List Log) → Type 0 = λ x. AreCarried k near x.0 x.1.0 x.1.1 in
    subst P (λ i. (sym h.scripts i, (sym h.schedule i, e i))) c

pub ran_beside : {V : Type 0} (k : Kind V) (b : Noted) (minds : List (Seated V)) (wires : List Wire) (ends : List WireEnd) (from to : Lines) (first now : Sited V) (done : After V) (last : List WireEnd) →
    MayRun k b minds wires ends → Opens b → from ≡ lines_of wires ends → first ≡ opened b.state minds → HasRunOut k from to first now → IsClosed now done → to ≡ lines_of to.wires last → AreEnds to.wires last →
    RanBeside k (before b.state minds) done wires last
ran_beside k b minds wires ends from to first now done last h o e f g c l p =
    let P : Lines × Sited _ → Type 0 = λ x. HasRunOut k x.0 to x.1 now in
    let s : HasRunOut k (lines_of wires ends) to (opened b.state minds) now = subst P (λ i. (e i, f i)) g in
    let start : IsAlong k b.state minds (opened b.state minds) = opens k b.state minds h.fresh in
    let kept : AreCarried k (before b.state minds) now.scripts now.schedule to.logs = s.carried (before b.state minds) start (opens_carried k b minds wires ends h) in
    let carried : AreCarried k (before b.state minds) done.scripts done.board.schedule (map log_of last) =
    carried_closed k (before b.state minds) now done to.logs (map log_of last) kept c (ap (λ (x : Lines). x.logs) l) in
    let ends_are : AreEnds wires last = subst (λ x. AreEnds x last) s.wires p in
    record {
      whole = ran_whole k (before b.state minds) now done (s.along b.state minds start) (s.used_up (opens_used k b minds h.start o)) s.over c;
      here = homes_kept k (before b.state minds) done.scripts done.board.schedule wires last ends_are carried;
      carried = carried;
    }
