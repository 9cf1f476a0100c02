-- The agents of a run by stealing workers, before and after.
use Rattle.std.proofs.Common.{◌≡◌, ℕ, suc, ◌-◌, ◌<◌, Some, List, [], ◌∷◌, ◌++◌, length, map, slice_get, sym, refl, ap, ◌∙◌, subst, append_assoc, length-append, arith}
use Rattle.mas_mind.specs.Minds.{Kind}
use Rattle.mas_board_turns.specs.Follows.{resting}
use Rattle.mas_baton.specs.declared.baton.Baton.{Baton}
use Rattle.mas_baton.specs.Seats.{IsSeatOf}
use Rattle.mas_board_lists.specs.Lists.{Each, times, numbers_from}
use Rattle.mas_board_lists.proofs.Sums.{each_map}
use Rattle.mas_pool_ready.specs.Rule.{numbers, CameOf}
use Rattle.mas_pool_task.specs.declared.going.Going.{Going}
use Rattle.mas_pool_task.specs.Goings.{Became, GoingWent, Stopped}
use Rattle.mas_pool.specs.Workers.{number_of, AreAt, EndedOf}
use Rattle.mas_pool.proofs.Workers.{taken_seat, goes_back, has_ended}
use Rattle.mas_pool.proofs.Together.{Total}
use Rattle.mas_steal_rack.specs.Rule.{Waits}
use Rattle.mas_steal_rack.specs.Turns.{Went, Ended}
use Rattle.mas_steal_rack.specs.Racks.{first_home, AllWait, Answered}
use Rattle.mas_steal.specs.declared.journey.Journey.{Journey}
use Rattle.mas_steal.specs.Journeys.{home_of, goings_of, IsFrom, AreSetOut, IsUnderWay}

get_behind : {T : Type 0} (xs ys : List T) (x : T) → slice_get (xs ++ x ∷ ys) (length xs) ≡ Some x
get_behind [] ys x = refl
get_behind (a ∷ xs) ys x = get_behind xs ys x

head_is : (m n : ℕ) (ms ns : List ℕ) → m ∷ ms ≡ n ∷ ns → (m ≡ n) × (ms ≡ ns)
head_is m n ms ns e = (cc, cc)

each_off : {S T : Type 0} (P : T → Type 0) (f : S → T) (xs : List S) → Each P (map f xs) → Each (λ x. P (f x)) xs
each_off P f [] h = tt
each_off P f (x ∷ xs) h = (h.0, each_off P f xs h.1)

each_on : {S T : Type 0} (P : T → Type 0) (f : S → T) (xs : List S) → Each (λ x. P (f x)) xs → Each P (map f xs)
each_on P f [] h = tt
each_on P f (x ∷ xs) h = (h.0, each_on P f xs h.1)

each_two : {T : Type 0} (P Q R : T → Type 0) (xs : List T) → ((x : T) → P x → Q x → R x) → Each P xs → Each Q xs → Each R xs
each_two P Q R [] f a b = tt
each_two P Q R (x ∷ xs) f a b = (f x a.0 b.0, each_two P Q R xs f a.1 b.1)

map_both : {R S T : Type 0} (g : S → T) (f : R → S) (xs : List R) → map g (map f xs) ≡ map (λ x. g (f x)) xs
map_both g f [] = refl
map_both g f (x ∷ xs) = ap (λ l. g (f x) ∷ l) (map_both g f xs)

length_map : {S T : Type 0} (f : S → T) (xs : List S) → length (map f xs) ≡ length xs
length_map f [] = refl
length_map f (x ∷ xs) = ap suc (length_map f xs)

module _ {V A : Type 0} (k : Kind V) where
  abbrev number_at : Journey V A → ℕ
  number_at j = j.going.number

  -- each is there under its own number
  came_from : (before rest : List (Going V A)) → numbers number_of rest ≡ numbers_from (suc (length before)) (length rest) → Each (λ g. Became k g g) rest → Each (CameOf number_of (Became k) (before ++ rest)) rest
  came_from before [] n b = tt
  came_from before (g ∷ rest) n b =
      let h = head_is g.number (suc (length before)) (numbers number_of rest) (numbers_from (suc (suc (length before))) (length rest)) n in
      let at : g.number - 1 ≡ length before = (let e = h.0 in omega arith) in
      let long : length (before ++ g ∷ []) ≡ suc (length before) = omega (arith, length-append before (g ∷ [])) in
      let tail = came_from (before ++ g ∷ []) rest (h.1 ∙ ap (λ (i : ℕ). numbers_from (suc i) (length rest)) (sym long)) b.1 in (
        record { begun = g; at = ap (λ (i : ℕ). slice_get (before ++ g ∷ rest) i) at ∙ get_behind before rest g; since = b.0 },
        subst (λ l. Each (CameOf number_of (Became k) l) rest) (append_assoc before (g ∷ []) rest) tail,
      )

  -- ---- before

  homes_are : (b : Baton A) (first : List (Going V A)) (js : List (Journey V A)) → Each (IsFrom b first) js → Each (λ j. home_of j ≡ (b, first)) js
  homes_are b first js f = each_map (IsFrom b first) (λ j. home_of j ≡ (b, first)) js (λ j h i. (h.at i, h.since i)) f

  first_is : (b : Baton A) (first : List (Going V A)) (js : List (Journey V A)) → 0 < length js → Each (λ j. home_of j ≡ (b, first)) js → first_home home_of js ≡ Some (b, first)
  first_is b first [] l h = absurd (omega arith)
  first_is b first (j ∷ js) l h = ap Some h.0

  -- all of them wait for a worker, at this baton
  pub record SetOut (b : Baton A) (first : List (Going V A)) (js : List (Journey V A)) : Type 0 where
    pub some : 0 < length js
    pub wait : AllWait number_at home_of (IsUnderWay k) js
    pub home : first_home home_of js ≡ Some (b, first)

  wait_from : (b : Baton A) (first : List (Going V A)) (js : List (Journey V A)) → 0 < length first → numbers number_of first ≡ numbers_from 1 (length first) → Each (λ g. Became k g g) first → AreAt b first
      → AreSetOut b first first js → SetOut b first js
  wait_from b first js some n begun home s =
      let came = each_off (CameOf number_of (Became k) first) (λ (j : Journey V A). j.going) js (subst (Each (CameOf number_of (Became k) first)) (sym s.are) (came_from [] first n begun)) in
      let ready = each_two (IsFrom b first) (λ j. CameOf number_of (Became k) first j.going) (IsUnderWay k) js
      (λ j f c. record {
        came = subst (λ l. CameOf number_of (Became k) l j.going) (sym f.since) c;
        home = subst (λ (h : Baton A × List (Going V A)). AreAt h.0 h.1) (λ i. (sym f.at i, sym f.since i)) home;
      }) s.from came in
      let homes = homes_are b first js s.from in
      let long : length js ≡ length first = sym (length_map (λ (j : Journey V A). j.going) js) ∙ ap (λ l. length l) s.are in
      let at = first_is b first js (omega arith) homes in
      record {
        some = omega arith;
        wait = each_two (λ j. home_of j ≡ (b, first)) (IsUnderWay k) (Waits number_at home_of (IsUnderWay k) (first_home home_of js)) js (λ j h r. record { at = at ∙ ap Some (sym h); ready = r }) homes ready;
        home = at;
      }

  pub all_wait : (b : Baton A) (goings first : List (Going V A)) (js : List (Journey V A)) → first ≡ goings → 0 < length goings → numbers number_of goings ≡ numbers_from 1 (length goings) → Each (λ g. Became k g g) goings
      → AreAt b goings → AreSetOut b first goings js → SetOut b first js
  all_wait b goings first js e some n begun home s =
      subst (λ l. AreSetOut b l goings js → SetOut b l js) (sym e) (wait_from b goings js some n begun home) s

  -- ---- a cycle

  same_home : (b : Baton A) (first : List (Going V A)) (h : Baton A × List (Going V A)) → Some (b, first) ≡ Some h → h ≡ (b, first)
  same_home b first h e = cc

  -- the agent has its seat at the baton of its worker
  pub seat_there : (b : Baton A) (first : List (Going V A)) (j : Journey V A) → Some (b, first) ≡ Some (home_of j) → IsUnderWay k j → IsSeatOf b j.going.seat
  seat_there b first j e r =
      let h = same_home b first (home_of j) e in
      subst (λ (z : Baton A × List (Going V A)). IsSeatOf z.0 j.going.seat) h (taken_seat k j.baton.value j.beginning.value.value j.going r.home r.came)

  pub turn_again : (j : Journey V A) (g : Going V A) → IsUnderWay k j → GoingWent k (resting j.going.mind) j.going g → Went number_at home_of (IsUnderWay k) j (record j { going = g })
  turn_again j g r w = record {
    same = w.same.number;
    home = refl;
    ready = record { came = goes_back k j.beginning.value.value j.going g r.came w; home = r.home };
  }

  pub turn_ended : (b : Baton A) (first : List (Going V A)) (j : Journey V A) (g : Going V A) → Some (b, first) ≡ Some (home_of j) → IsUnderWay k j → Stopped k (resting j.going.mind) j.going g
      → Ended number_at (λ x. EndedOf k first x.going) j (record j { going = g })
  turn_ended b first j g e r w =
      let h = same_home b first (home_of j) e in
      record {
        same = w.same.number;
        ended = subst (λ (z : Baton A × List (Going V A)). EndedOf k z.1 g) h (has_ended k j.beginning.value.value j.going g r.came w);
      }

  -- ---- after

  -- all agents that were there at the beginning came back, each once, and have ended
  pub all_total : (b : Baton A) (goings first : List (Going V A)) (js answered : List (Journey V A)) (kept : List (Going V A)) → first ≡ goings → numbers number_of goings ≡ numbers_from 1 (length goings) → AreSetOut b first goings js
      → Answered number_at (λ j. EndedOf k first j.going) js answered → kept ≡ goings_of answered → Total k goings kept
  all_total b goings first js answered kept e n s a m = subst (Total k goings) (sym m) record {
    once = λ c.
        (let after = ap (times c) (map_both number_of (λ (j : Journey V A). j.going) answered) in
        let before = ap (times c) (map_both number_of (λ (j : Journey V A). j.going) js) in
        let were = ap (λ (l : List (Going V A)). times c (numbers number_of l)) s.are in
        let first_were = ap (times c) n in
        omega (arith, a.once c));
    each = subst (λ l. Each (EndedOf k l) (goings_of answered)) e (each_on (EndedOf k first) (λ (j : Journey V A). j.going) answered a.ended);
  }
