-- Of two sites that ran side by side: what arrives of each agent, and what is left.
use Rattle.std.proofs.Common.{ℕ, suc, ◌≡◌, ◌+◌, ◌-◌, ◌<◌, arith, Bool, true, false, not, List, [], ◌∷◌, ◌++◌, All, length, map, slice_get, Some, refl, ap, sym, ◌∙◌, subst}
use Rattle.std.proofs.lemmas.List.{length-map}
use Rattle.mas_mind.specs.declared.mind.Message.{Message}
use Rattle.mas_mind.specs.Minds.{Kind, IsAgent, IsFrom}
use Rattle.mas_board.specs.Boards.{box_of, box_or_none}
use Rattle.mas_sites_stand.specs.declared.seated.Seated.{Seated}
use Rattle.mas_sites_scripts.specs.Giving.{is_own}
use Rattle.mas_sites_scripts.specs.Sites.{Before, After}
use Rattle.mas_sites_scripts.specs.Ways.{AreWays}
use Rattle.mas_sites_rounds.specs.Between.{AreApart, ArrivesInOrder}
use Rattle.mas_sites_rounds.proofs.Tallies.{item_at, below}
use Rattle.mas_sites_wire.specs.declared.wire.Log.{Log}
use Rattle.mas_sites_wire.specs.declared.wire.Wire.{Wire}
use Rattle.mas_sites_wire.specs.declared.wire.WireEnd.{WireEnd}
use Rattle.mas_sites_wire.specs.Ends.{log_of}
use Rattle.mas_sites_wire.specs.Lines.{others}
use Rattle.mas_sites_wire.proofs.Calls.{map_get}
use Rattle.mas_sites_worker.specs.Sides.{homes, put_on, got_on, RanBeside}
use Rattle.mas_sites_worker.proofs.Runs.{home_at}
use Rattle.mas_sites_wire.specs.Lefts.{IsLeft, AreLeft}
use Rattle.mas_sites.proofs.Whole.{BothRan}

-- ---- who lives where

-- those of the one site are not those of the other
pub homes_apart : {V : Type 0} (one two : List (Seated V)) → length two ≡ length one → ((i : ℕ) → i < length one → is_own (slice_get two i) ≡ not (is_own (slice_get one i))) → homes two ≡ others (homes one)
homes_apart [] [] n h = refl
homes_apart [] (y ∷ two) n h = absurd (omega (arith, n))
homes_apart (x ∷ one) [] n h = absurd (omega (arith, n))
homes_apart (x ∷ one) (y ∷ two) n h =
    ap (λ b. b ∷ homes two) (h 0 (omega arith)) ∙ ap (λ t. not (is_own (Some x)) ∷ t) (homes_apart one two (omega (arith, n)) (λ i l. h (suc i) (omega (arith, l))))

flipped : (b c : Bool) → b ≡ not c → b ≡ true → c ≡ false
flipped b true e f = cc
flipped b false e f = refl

-- ---- what arrives

module _ {V : Type 0} (k : Kind V) (first second : Before V) (one two : After V) (wires : List Wire) (ends_one ends_two : List WireEnd) (ways : List (List Message)) (apart : AreApart first.minds second.minds)
    (r : RanBeside k first one wires ends_one) (s : RanBeside k second two wires ends_two) (l : AreLeft (homes first.minds) (map log_of ends_one) (map log_of ends_two) ways) where
  minds_are : length (homes first.minds) ≡ length first.minds
  minds_are = length-map first.minds (λ m. is_own (Some m))

  wires_are : length wires ≡ length first.minds
  wires_are = sym r.here.puts_are ∙ minds_are

  -- what is left of an agent
  left_of : (y : ℕ) → IsAgent (length first.minds) y → (b : Bool) → is_own (slice_get first.minds (y - 1)) ≡ b →
      (v : Log) × ((w : Log) × ((slice_get (map log_of ends_one) (y - 1) ≡ Some v) × ((slice_get (map log_of ends_two) (y - 1) ≡ Some w) × IsLeft (length first.minds) y b v w (box_of ways y))))
  left_of y j b e =
      let i = y - 1 in
      let m = below (length first.minds) y j in
      let n = wires_are in
      let f = r.here.ends_are in
      let g = s.here.ends_are in
      let a = minds_are in
      let number = l.number in
      let from_one = j.from_one in
      let mind = item_at first.minds i m in
      let x = item_at ends_one i (omega (arith, m, n, f)) in
      let z = item_at ends_two i (omega (arith, m, n, g)) in
      let way = item_at ways i (omega (arith, m, a, number)) in
      let v_is = map_get log_of ends_one i x.0 x.1 in
      let w_is = map_get log_of ends_two i z.0 z.1 in
      let home : slice_get (homes first.minds) i ≡ Some b = home_at first.minds i mind.0 mind.1 ∙ ap Some e in
      let place : i + 1 ≡ y = omega (arith, from_one) in
      let left = l.each i b (log_of x.0) (log_of z.0) way.0 home v_is w_is way.1 in
      let P : ℕ × (ℕ × List Message) → Type 0 = λ t. IsLeft t.0 t.1.0 b (log_of x.0) (log_of z.0) t.1.1 in
      let box : way.0 ≡ box_of ways y = sym (ap box_or_none way.1) in
      (log_of x.0, (log_of z.0, (v_is, (w_is, subst P (λ q. (a q, (place q, box q))) left))))

  from_one : ArrivesInOrder k first one two ways
  from_one y j o =
      let t = left_of y j true o in
      let m = below (length first.minds) y j in
      let far : IsAgent (length second.minds) y = subst (λ n. IsAgent n y) (sym apart.number) j in
      let away : is_own (slice_get second.minds (y - 1)) ≡ false = apart.each (y - 1) m ∙ ap not o in
      sym (r.carried.out y j o)
      ∙ ap put_on t.1.1.0
      ∙ t.1.1.1.1.in_order
      ∙ ap (λ x. x ++ box_of ways y) (sym (ap got_on t.1.1.1.0) ∙ s.carried.back y far away)

  from_two : ArrivesInOrder k second two one ways
  from_two y j o =
      let near : IsAgent (length first.minds) y = subst (λ n. IsAgent n y) apart.number j in
      let m = below (length first.minds) y near in
      let away : is_own (slice_get first.minds (y - 1)) ≡ false = flipped _ _ (apart.each (y - 1) m) o in
      let t = left_of y near false away in
      sym (s.carried.out y j o)
      ∙ ap put_on t.1.1.1.0
      ∙ t.1.1.1.1.in_order
      ∙ ap (λ x. x ++ box_of ways y) (sym (ap got_on t.1.1.0) ∙ r.carried.back y near away)

  pub ways_are : AreWays ways
  ways_are = record {
    each = λ y j.
        let n = l.number ∙ minds_are in
        let near : IsAgent (length first.minds) y = subst (λ x. IsAgent x y) n j in
        let t = left_of y near (is_own (slice_get first.minds (y - 1))) refl in
        subst (λ x. All (IsFrom y x) (box_of ways y)) (sym n) t.1.1.1.1.from;
  }

  pub both_ran : BothRan k first second one two ways
  both_ran = record { one_ran = r.whole; two_ran = s.whole; in_order_one = from_one; in_order_two = from_two; number = l.number ∙ minds_are }
