-- What cutting keys off the owners' parts keeps true, and the hands that are made of them.
use Rattle.std.proofs.Common.{Global, length-append, append_assoc, ◌≡◌, ℕ, ◌+◌, ◌-◌, ◌<◌, ◌≤◌, Option, Some, List, [], ◌∷◌, ◌++◌, length, set, sym, refl, ap, ◌∙◌, subst, arith}
use Rattle.std.specs.Prelude.{map, IsSome, slice_get, slice_index_or}
use Rattle.std.specs.declared.vec.Vec.{Vec}
use Rattle.crossbeam_deque.specs.declared.handles.Worker.{Worker}
use Rattle.crossbeam_deque.specs.declared.handles.Stealer.{Stealer}
use Rattle.crossbeam_deque.specs.Handles.{Pass, view, IsPassOf, worker_deque, worker_flavor, worker_view, stealer_deque, stealer_flavor, SameWorker}
use Rattle.mas_steal_rack.specs.declared.rule.DequeView.{DequeView}
use Rattle.mas_steal_rack.specs.declared.rule.DequeRule.{DequeRule}
use Rattle.mas_steal_rack.specs.declared.hand.Hand.{Hand}
use Rattle.mas_steal_rack.specs.declared.hand.Rack.{Rack}
use Rattle.mas_board_lists.specs.Lists.{Each, total, times}
use Rattle.mas_board_lists.proofs.Sums.{each_append, each_map, each_front}
use Rattle.mas_steal_rack.specs.Rule.{whole, view_of, less, one_part, Waits}
use Rattle.mas_steal_rack.specs.Hands.{Both, IsKeyOf, hand_home, own_view, keys_put, keys_got, puts_of, gets_of}
use Rattle.mas_steal_rack.specs.Looks.{HasRoomFor}
use Rattle.mas_steal_rack.specs.Racks.{first_home, IsFresh, Dealt}
use Rattle.mas_steal_rack.proofs.Keys.{both_length}
use Rattle.mas_steal_thieves.specs.Closing.{Beside, owners_put, owners_got}
use Rattle.mas_steal_thieves.specs.Opening.{Has, CanCut, HasCut, IsCutOff, IsRow, IsDoorOf, IsHandFor, AreDealt}
use Rattle.mas_steal_thieves.proofs.Closings.{each_get}
use Rattle.mas_steal_thieves.proofs.Beside.{Changed, changed_at, changed_more, changed_length, changed_all, beside_more, beside_set, beside_both, both_snoc, both_same, both_each, both_then, both_after, both_self, map_behind, plus_one}

module _ {T H A P : Type 0} where
  abbrev Cut : ℕ → Worker T A (DequeView H) P → Worker T A (DequeView H) P → Type 0
  Cut n o w = HasCut n o w

  abbrev Off : Worker T A (DequeView H) P → Pass T (DequeView H) A → Type 0
  Off w k = IsCutOff w k

  -- ---- doors

  -- the doors of the first of these owners
  pub record Showing (owners : List (Worker T A (DequeView H) P)) (n : ℕ) (doors : List (Stealer T A (DequeView H) P)) : Type 0 where
    pub are : Beside (λ (w : Worker T A (DequeView H) P) (d : Stealer T A (DequeView H) P). IsDoorOf w d) owners doors
    pub number_is : n ≡ length doors

  pub showing_more : (owners : List (Worker T A (DequeView H) P)) (n : ℕ) (doors more : List (Stealer T A (DequeView H) P)) (own : Worker T A (DequeView H) P) (door : Stealer T A (DequeView H) P) → Showing owners n doors → n < length owners
      → own ≡ slice_index_or owners n own → stealer_deque door ≡ worker_deque own → stealer_flavor door ≡ worker_flavor own → more ≡ doors ++ door ∷ [] → Showing owners (n + 1) more
  showing_more owners n doors more own door s l at d f e = subst (λ z. Showing owners (n + 1) z) (sym e) record {
    are = beside_more (λ (w : Worker T A (DequeView H) P) (k : Stealer T A (DequeView H) P). IsDoorOf w k) owners doors n own door s.are s.number_is l at record { deque = d; flavor = f };
    number_is = let k = s.number_is in omega (arith, length-append doors (door ∷ []));
  }

  pub showing_all : (owners : List (Worker T A (DequeView H) P)) (n : ℕ) (doors : List (Stealer T A (DequeView H) P)) → Showing owners n doors → n ≡ length owners
      → Both (λ (w : Worker T A (DequeView H) P) (d : Stealer T A (DequeView H) P). IsDoorOf w d) owners doors
  showing_all owners n doors s e = beside_both (λ (w : Worker T A (DequeView H) P) (d : Stealer T A (DequeView H) P). IsDoorOf w d) owners doors s.are (let k = s.number_is in omega arith)

  -- ---- one row of keys

  cut_none : (w : Worker T A (DequeView H) P) → Cut 0 w w
  cut_none w = record { deque = refl; flavor = refl; view_is = ap (λ (k : ℕ). view_of (worker_view w).put (worker_view w).got k (worker_view w).home) (let e : (worker_view w).parts ≡ (worker_view w).parts - 0 = omega arith in e) }

  cut_again : (n : ℕ) (a b c : Worker T A (DequeView H) P) → Cut n a b → Cut 1 b c → Cut (n + 1) a c
  cut_again n a b c h i =
      let v = worker_view a in
      let put : (worker_view b).put ≡ v.put = ap (λ (u : DequeView H). u.put) h.view_is in
      record {
        deque = i.deque ∙ h.deque;
        flavor = i.flavor ∙ h.flavor;
        view_is = i.view_is ∙ ap (λ (u : DequeView H). less u) h.view_is ∙ ap (λ (k : ℕ). view_of v.put v.got k v.home) (let e : v.parts - n - 1 ≡ v.parts - (n + 1) = omega arith in e);
      }

  still_off : (n : ℕ) (a b : Worker T A (DequeView H) P) (k : Pass T (DequeView H) A) → Cut n a b → Off a k → Off b k
  still_off n a b k h o = record { deque = subst (λ d. IsPassOf d k) (sym h.deque) o.deque; view_is = o.view_is ∙ sym (ap (λ (u : DequeView H). one_part u) h.view_is) }

  -- keys that were cut off stay so as more are
  pub still_row : (n : ℕ) (olds news : List (Worker T A (DequeView H) P)) (keys : List (Pass T (DequeView H) A)) → Both (λ (o w : Worker T A (DequeView H) P). Cut n o w) olds news
      → Both (λ (w : Worker T A (DequeView H) P) (k : Pass T (DequeView H) A). Off w k) olds keys → Both (λ (w : Worker T A (DequeView H) P) (k : Pass T (DequeView H) A). Off w k) news keys
  still_row n olds news keys h o =
      both_then (λ (o w : Worker T A (DequeView H) P). Cut n o w) (λ (w : Worker T A (DequeView H) P) (k : Pass T (DequeView H) A). Off w k) (λ (w : Worker T A (DequeView H) P) (k : Pass T (DequeView H) A). Off w k) olds news keys
      (λ a b k. still_off n a b k) h o

  -- a key was cut off each of the first of these owners
  pub record Rowing (olds : List (Worker T A (DequeView H) P)) (n : ℕ) (owners : List (Worker T A (DequeView H) P)) (keys : List (Pass T (DequeView H) A)) : Type 0 where
    pub cut : Changed (λ (o w : Worker T A (DequeView H) P). Cut 1 o w) n olds owners
    pub keys_are : Beside (λ (w : Worker T A (DequeView H) P) (k : Pass T (DequeView H) A). Off w k) owners keys
    pub number_is : n ≡ length keys

  pub rowing_room : (olds : List (Worker T A (DequeView H) P)) (n : ℕ) (owners : List (Worker T A (DequeView H) P)) (keys : List (Pass T (DequeView H) A)) → Rowing olds n owners keys → length owners ≡ length olds
  rowing_room olds n owners keys r = changed_length (λ (o w : Worker T A (DequeView H) P). Cut 1 o w) n olds owners r.cut

  -- the next owner has a part to give
  pub rowing_can : (olds : List (Worker T A (DequeView H) P)) (n : ℕ) (owners : List (Worker T A (DequeView H) P)) (keys : List (Pass T (DequeView H) A)) (own : Worker T A (DequeView H) P) → Rowing olds n owners keys
      → Each (λ (w : Worker T A (DequeView H) P). CanCut 1 w) olds → n < length owners → own ≡ slice_index_or owners n own → CanCut 1 own
  rowing_can olds n owners keys own r c l e =
      let at = changed_at (λ (o w : Worker T A (DequeView H) P). Cut 1 o w) n olds owners own r.cut l e in
      each_get (λ (w : Worker T A (DequeView H) P). CanCut 1 w) olds n own at.0 at.1 c

  pub rowing_more : (olds : List (Worker T A (DequeView H) P)) (n : ℕ) (owners after : List (Worker T A (DequeView H) P)) (keys more : List (Pass T (DequeView H) A)) (own new : Worker T A (DequeView H) P) (key : Pass T (DequeView H) A) → Rowing olds n owners keys
      → n < length owners → own ≡ slice_index_or owners n own → SameWorker own new → worker_view new ≡ less (worker_view own) → IsPassOf (worker_deque own) key → view {V = DequeView H} key ≡ one_part (worker_view own)
      → after ≡ set owners n new → more ≡ keys ++ key ∷ [] → Rowing olds (n + 1) after more
  rowing_more olds n owners after keys more own new key r l e s v p k a m =
      let c : Cut 1 own new = record { deque = s.0; flavor = s.1; view_is = v } in
      let o : Off own key = record { deque = p; view_is = k } in
      subst (λ (t : List (Worker T A (DequeView H) P) × List (Pass T (DequeView H) A)). Rowing olds (n + 1) t.0 t.1) (λ i. (sym a i, sym m i)) record {
        cut = subst (λ z. Changed (λ (o w : Worker T A (DequeView H) P). Cut 1 o w) z olds (set owners n new)) (plus_one n) (changed_more (λ (o w : Worker T A (DequeView H) P). Cut 1 o w) n olds owners own new r.cut l e c);
        keys_are = beside_set (λ (w : Worker T A (DequeView H) P) (k : Pass T (DequeView H) A). Off w k) owners keys n new key r.keys_are r.number_is l (still_off 1 own new key c o);
        number_is = let q = r.number_is in omega (arith, length-append keys (key ∷ []));
      }

  pub rowing_cut : (olds : List (Worker T A (DequeView H) P)) (n : ℕ) (owners : List (Worker T A (DequeView H) P)) (keys : List (Pass T (DequeView H) A)) → Rowing olds n owners keys → n ≡ length olds
      → Both (λ (o w : Worker T A (DequeView H) P). HasCut 1 o w) olds owners
  rowing_cut olds n owners keys r e = changed_all (λ (o w : Worker T A (DequeView H) P). Cut 1 o w) n olds owners r.cut e

  pub rowing_row : (olds : List (Worker T A (DequeView H) P)) (n : ℕ) (owners : List (Worker T A (DequeView H) P)) (keys : List (Pass T (DequeView H) A)) → Rowing olds n owners keys → n ≡ length olds
      → Both (λ (w : Worker T A (DequeView H) P) (k : Pass T (DequeView H) A). IsCutOff w k) owners keys
  rowing_row olds n owners keys r e =
      beside_both (λ (w : Worker T A (DequeView H) P) (k : Pass T (DequeView H) A). Off w k) owners keys r.keys_are (let l = rowing_room olds n owners keys r in let q = r.number_is in omega arith)

  -- ---- all rows

  pub record RowingAll {G : Type 0} (olds : List (Worker T A (DequeView H) P)) (n : ℕ) (owners : List (Worker T A (DequeView H) P)) (rows : List (Vec (Pass T (DequeView H) A) G)) : Type 0 where
    pub cut : Both (λ (o w : Worker T A (DequeView H) P). HasCut n o w) olds owners
    pub number_is : length rows ≡ n
    pub rows_are : Each (λ (r : Vec (Pass T (DequeView H) A) G). IsRow owners r) rows

  pub rows_none : {G : Type 0} (olds : List (Worker T A (DequeView H) P)) (rows : List (Vec (Pass T (DequeView H) A) G)) → rows ≡ [] → RowingAll olds 0 olds rows
  rows_none olds rows e = subst (λ z. RowingAll olds 0 olds z) (sym e) record { cut = both_self (λ (o w : Worker T A (DequeView H) P). Cut 0 o w) olds cut_none; number_is = refl; rows_are = tt }

  pub rows_cut : {G : Type 0} (n hands : ℕ) (olds owners : List (Worker T A (DequeView H) P)) (rows : List (Vec (Pass T (DequeView H) A) G)) → RowingAll olds n owners rows → n ≡ hands
      → Both (λ (o w : Worker T A (DequeView H) P). HasCut hands o w) olds owners
  rows_cut n hands olds owners rows r e = subst (λ m. Both (λ (o w : Worker T A (DequeView H) P). HasCut m o w) olds owners) e r.cut

  can_still : (n hands : ℕ) (o w : Worker T A (DequeView H) P) → n < hands → CanCut hands o → Cut n o w → CanCut 1 w
  can_still n hands o w l c h =
      let home = ap (λ (u : DequeView H). u.home) h.view_is in
      let parts : (worker_view w).parts ≡ (worker_view o).parts - n = ap (λ (u : DequeView H). u.parts) h.view_is in
      let some_parts = c.parts in
      record { begun = subst (λ (z : Option H). IsSome z) (sym home) c.begun; parts = omega arith }

  pub rows_can : {G : Type 0} (olds : List (Worker T A (DequeView H) P)) (n hands : ℕ) (owners : List (Worker T A (DequeView H) P)) (rows : List (Vec (Pass T (DequeView H) A) G)) → RowingAll olds n owners rows
      → Each (λ (w : Worker T A (DequeView H) P). CanCut hands w) olds → n < hands → Each (λ (w : Worker T A (DequeView H) P). CanCut 1 w) owners
  rows_can olds n hands owners rows r c l =
      both_each (λ (o w : Worker T A (DequeView H) P). Cut n o w) (λ (w : Worker T A (DequeView H) P). CanCut hands w) (λ (w : Worker T A (DequeView H) P). CanCut 1 w) olds owners (λ o w f h. can_still n hands o w l f h) c r.cut

  pub rows_more : {G : Type 0} (olds : List (Worker T A (DequeView H) P)) (n : ℕ) (owners news : List (Worker T A (DequeView H) P)) (rows more : List (Vec (Pass T (DequeView H) A) G)) (row : Vec (Pass T (DequeView H) A) G) → RowingAll olds n owners rows
      → Both (λ (o w : Worker T A (DequeView H) P). HasCut 1 o w) owners news → IsRow news row → more ≡ rows ++ row ∷ [] → RowingAll olds (n + 1) news more
  rows_more olds n owners news rows more row r c k e = subst (λ z. RowingAll olds (n + 1) news z) (sym e) record {
    cut = both_after (λ (o w : Worker T A (DequeView H) P). Cut n o w) (λ (o w : Worker T A (DequeView H) P). Cut 1 o w) (λ (o w : Worker T A (DequeView H) P). Cut (n + 1) o w) olds owners news (cut_again n) r.cut c;
    number_is = let q = r.number_is in omega (arith, length-append rows (row ∷ []));
    rows_are = each_append (λ r. IsRow news r) rows (row ∷ []) (each_map (λ r. IsRow owners r) (λ r. IsRow news r) rows (λ r o. still_row 1 owners news r.items c o) r.rows_are) (k, tt);
  }

  -- ---- sums over what was cut

  pub cut_put : (a n : ℕ) (olds news : List (Worker T A (DequeView H) P)) → Both (λ (o w : Worker T A (DequeView H) P). HasCut n o w) olds news → owners_put a news ≡ owners_put a olds
  cut_put a n [] [] h = refl
  cut_put a n [] (w ∷ news) h = absurd h
  cut_put a n (o ∷ olds) [] h = absurd h
  cut_put a n (o ∷ olds) (w ∷ news) h = let e = ap (λ (u : DequeView H). times a u.put) h.0.view_is in let r = cut_put a n olds news h.1 in omega arith

  pub cut_got : (a n : ℕ) (olds news : List (Worker T A (DequeView H) P)) → Both (λ (o w : Worker T A (DequeView H) P). HasCut n o w) olds news → owners_got a news ≡ owners_got a olds
  cut_got a n [] [] h = refl
  cut_got a n [] (w ∷ news) h = absurd h
  cut_got a n (o ∷ olds) [] h = absurd h
  cut_got a n (o ∷ olds) (w ∷ news) h = let e = ap (λ (u : DequeView H). times a u.got) h.0.view_is in let r = cut_got a n olds news h.1 in omega arith

  pub keys_none_put : (a : ℕ) (owners : List (Worker T A (DequeView H) P)) (keys : List (Pass T (DequeView H) A)) → Both (λ (w : Worker T A (DequeView H) P) (k : Pass T (DequeView H) A). IsCutOff w k) owners keys → keys_put a keys ≡ 0
  keys_none_put a [] [] h = refl
  keys_none_put a [] (k ∷ keys) h = absurd h
  keys_none_put a (w ∷ owners) [] h = refl
  keys_none_put a (w ∷ owners) (k ∷ keys) h = let e = ap (λ (u : DequeView H). times a u.put) h.0.view_is in let r = keys_none_put a owners keys h.1 in omega arith

  pub keys_none_got : (a : ℕ) (owners : List (Worker T A (DequeView H) P)) (keys : List (Pass T (DequeView H) A)) → Both (λ (w : Worker T A (DequeView H) P) (k : Pass T (DequeView H) A). IsCutOff w k) owners keys → keys_got a keys ≡ 0
  keys_none_got a [] [] h = refl
  keys_none_got a [] (k ∷ keys) h = absurd h
  keys_none_got a (w ∷ owners) [] h = refl
  keys_none_got a (w ∷ owners) (k ∷ keys) h = let e = ap (λ (u : DequeView H). times a u.got) h.0.view_is in let r = keys_none_got a owners keys h.1 in omega arith

  -- an owner with all parts but those that were cut off
  cut_has : (n : ℕ) (home : Option H) (o w : Worker T A (DequeView H) P) → Has whole home o → Cut n o w → Has (whole - n) home w
  cut_has n home o w f h = record {
    fifo = h.flavor ∙ f.fifo;
    home_is = ap (λ (u : DequeView H). u.home) h.view_is ∙ f.home_is;
    begun = f.begun;
    parts_are = ap (λ (u : DequeView H). u.parts) h.view_is ∙ ap (λ (k : ℕ). k - n) f.parts_are;
  }

  pub all_cut : (n : ℕ) (home : Option H) (olds news : List (Worker T A (DequeView H) P)) → Each (λ (w : Worker T A (DequeView H) P). Has whole home w) olds → Both (λ (o w : Worker T A (DequeView H) P). HasCut n o w) olds news
      → Each (λ (w : Worker T A (DequeView H) P). Has (whole - n) home w) news
  all_cut n home olds news e h =
      both_each (λ (o w : Worker T A (DequeView H) P). Cut n o w) (λ (w : Worker T A (DequeView H) P). Has whole home w) (λ (w : Worker T A (DequeView H) P). Has (whole - n) home w) olds news (cut_has n home) e h

  -- the keys of a row are keys of the doors
  pub keys_of_doors : (n : ℕ) (home : Option H) (owners : List (Worker T A (DequeView H) P)) (doors : List (Stealer T A (DequeView H) P)) (keys : List (Pass T (DequeView H) A)) → Each (λ (w : Worker T A (DequeView H) P). Has n home w) owners
      → Both (λ (w : Worker T A (DequeView H) P) (d : Stealer T A (DequeView H) P). IsDoorOf w d) owners doors → Both (λ (w : Worker T A (DequeView H) P) (k : Pass T (DequeView H) A). IsCutOff w k) owners keys → Both (IsKeyOf home) doors keys
  keys_of_doors n home [] [] [] h d o = tt
  keys_of_doors n home [] [] (k ∷ keys) h d o = absurd o
  keys_of_doors n home [] (c ∷ doors) keys h d o = absurd d
  keys_of_doors n home (w ∷ owners) [] keys h d o = absurd d
  keys_of_doors n home (w ∷ owners) (c ∷ doors) [] h d o = absurd o
  keys_of_doors n home (w ∷ owners) (c ∷ doors) (k ∷ keys) h d o = (
    record {
      door_is = subst (λ q. IsPassOf q k) (sym d.0.deque) o.0.deque;
      fifo = d.0.flavor ∙ h.0.fifo;
      home_is = ap (λ (u : DequeView H). u.home) o.0.view_is ∙ h.0.home_is;
      parts = ap (λ (u : DequeView H). u.parts) o.0.view_is;
    },
    keys_of_doors n home owners doors keys h.1 d.1 o.1,
  )

-- ---- hands

module _ {T H : Type 0} where
  abbrev For : List (Worker T Global (DequeView H) (DequeRule T)) → Worker T Global (DequeView H) (DequeRule T) → Hand T H → Type 0
  For all w h = IsHandFor all w h

  -- some owners have their hands, and as many rows of keys are there as owners are left
  pub record Handing (all left : List (Worker T Global (DequeView H) (DequeRule T))) (rows : List (Vec (Pass T (DequeView H) Global) Global)) (hands : List (Hand T H)) : Type 0 where
    pub done : List (Worker T Global (DequeView H) (DequeRule T))
    pub all_are : all ≡ done ++ left
    pub hands_are : Both (For all) done hands
    pub number_is : length rows ≡ length left
    pub rows_are : Each (λ r. IsRow all r) rows

  pub handing_more : (all left after : List (Worker T Global (DequeView H) (DequeRule T))) (rows fewer : List (Vec (Pass T (DequeView H) Global) Global)) (hands more : List (Hand T H)) (own : Worker T Global (DequeView H) (DequeRule T))
      (keys : Vec (Pass T (DequeView H) Global) Global) (hand : Hand T H) → Handing all left rows hands → left ≡ own ∷ after → rows ≡ fewer ++ keys ∷ [] → hand.place ≡ length hands → hand.own ≡ own → hand.keys ≡ keys
      → hand.list.items ≡ [] → hand.kept.items ≡ [] → more ≡ hands ++ hand ∷ [] → Handing all after fewer more
  handing_more all left after rows fewer hands more own keys hand h e r p o k l m s =
      let n = both_length (For all) h.done hands h.hands_are in
      let at_place : hand.place ≡ length h.done = p ∙ sym n in
      let split : all ≡ h.done ++ own ∷ after = h.all_are ∙ ap (λ xs. h.done ++ xs) e in
      let front = each_front (λ (r : Vec (Pass T (DequeView H) Global) Global). IsRow all r) fewer keys (subst (λ rs. Each (λ (r : Vec (Pass T (DequeView H) Global) Global). IsRow all r) rs) r h.rows_are) in
      let long = ap (λ xs. length xs) split in
      let made : For all own hand = record {
        place = omega (arith, length-append h.done (own ∷ after));
        at = ap (λ (i : ℕ). slice_get (map worker_deque all) i) at_place ∙ ap (λ xs. slice_get (map worker_deque xs) (length h.done)) split ∙ map_behind (λ (w : Worker T Global (DequeView H) (DequeRule T)). worker_deque w) h.done after own;
        own_is = o;
        keys = subst (λ (v : Vec (Pass T (DequeView H) Global) Global). IsRow all v) (sym k) front.1;
        list = l;
        kept = m;
      } in
      subst (λ z. Handing all after fewer z) (sym s) record {
        done = h.done ++ own ∷ [];
        all_are = split ∙ sym (append_assoc h.done (own ∷ []) after);
        hands_are = both_snoc (For all) h.done hands own hand h.hands_are made;
        number_is = let q = h.number_is in let a = ap (λ xs. length xs) e in let b = ap (λ xs. length xs) r in omega (arith, length-append fewer (keys ∷ []));
        rows_are = front.0;
      }

  hand_put : (a : ℕ) (all owners : List (Worker T Global (DequeView H) (DequeRule T))) (hands : List (Hand T H)) → Both (For all) owners hands → total (puts_of a) hands ≡ owners_put a owners
  hand_put a all [] [] h = refl
  hand_put a all [] (x ∷ hands) h = absurd h
  hand_put a all (w ∷ owners) [] h = absurd h
  hand_put a all (w ∷ owners) (x ∷ hands) h =
      let e = ap (λ (o : Worker T Global (DequeView H) (DequeRule T)). times a (worker_view o).put) h.0.own_is in
      let z = keys_none_put a all x.keys.items h.0.keys in
      let r = hand_put a all owners hands h.1 in
      omega arith

  hand_got : (a : ℕ) (all owners : List (Worker T Global (DequeView H) (DequeRule T))) (hands : List (Hand T H)) → Both (For all) owners hands → total (gets_of a) hands ≡ owners_got a owners
  hand_got a all [] [] h = refl
  hand_got a all [] (x ∷ hands) h = absurd h
  hand_got a all (w ∷ owners) [] h = absurd h
  hand_got a all (w ∷ owners) (x ∷ hands) h =
      let e = ap (λ (o : Worker T Global (DequeView H) (DequeRule T)). times a (worker_view o).got) h.0.own_is in
      let z = keys_none_got a all x.keys.items h.0.keys in
      let r = hand_got a all owners hands h.1 in
      omega arith

module _ {T H : Type 0} (number : T → ℕ) (home_of : T → H) (is_ready : T → Type 0) where
  -- the hand of an owner, before its worker works
  fresh_hand : (home : Option H) (workers : ℕ) (rack : Rack T H) (owners : List (Worker T Global (DequeView H) (DequeRule T))) (w : Worker T Global (DequeView H) (DequeRule T)) (h : Hand T H) → workers ≤ 64 → length owners ≡ workers
      → length rack.doors.items ≡ workers → map stealer_deque rack.doors.items ≡ map worker_deque owners → ((keys : List (Pass T (DequeView H) Global)) → Both (λ w k. IsCutOff w k) owners keys → Both (IsKeyOf home) rack.doors.items keys)
      → Has (whole - workers) home w → For owners w h → IsFresh number home_of is_ready home rack h
  fresh_hand home workers rack owners w h few n m same keyed f i =
      let at_home : hand_home h ≡ home = ap (λ (o : Worker T Global (DequeView H) (DequeRule T)). (worker_view o).home) i.own_is ∙ f.home_is in
      let parts : (own_view h).parts ≡ whole - workers = ap (λ (o : Worker T Global (DequeView H) (DequeRule T)). (worker_view o).parts) i.own_is ∙ f.parts_are in
      let low = i.place in
      record {
        hand = record {
          place = omega arith;
          own = ap (λ ds. slice_get ds h.place) same ∙ i.at ∙ ap (λ (o : Worker T Global (DequeView H) (DequeRule T)). Some (worker_deque o)) (sym i.own_is);
          fifo = ap (λ (o : Worker T Global (DequeView H) (DequeRule T)). worker_flavor o) i.own_is ∙ f.fifo;
          begun = subst (λ (z : Option H). IsSome z) (sym at_home) f.begun;
          parts = omega arith;
          few = omega arith;
          keys = subst (λ (z : Option H). Both (IsKeyOf z) rack.doors.items h.keys.items) (sym at_home) (keyed h.keys.items i.keys);
          list = subst (λ l. Each (Waits number home_of is_ready (hand_home h)) l) (sym i.list) tt;
        };
        home_is = at_home;
        list = i.list;
        kept = i.kept;
      }

  -- all together: the agents lie in the deques of the rack
  pub are_dealt : (agents : List T) (workers : ℕ) (owners cut : List (Worker T Global (DequeView H) (DequeRule T))) (rack : Rack T H) (hands : List (Hand T H)) → 0 < workers → workers ≤ 64 → AreDealt number home_of agents workers owners
      → Both (λ o w. HasCut workers o w) owners cut → Both (λ w d. IsDoorOf w d) cut rack.doors.items → Both (IsHandFor cut) cut hands → Each (HasRoomFor (length agents)) hands
      → Dealt number home_of is_ready agents rack hands
  are_dealt agents workers owners cut rack hands some few d c doors h r =
      let home = first_home home_of agents in
      let Own : Type 0 = Worker T Global (DequeView H) (DequeRule T) in
      let has = all_cut workers home owners cut d.has c in
      let n = d.number_is in
      let cut_long = both_length (λ (o w : Own). HasCut workers o w) owners cut c in
      let doors_long = both_length (λ (w : Own) (k : Stealer T Global (DequeView H) (DequeRule T)). IsDoorOf w k) cut rack.doors.items doors in
      let hands_long = both_length (For cut) cut hands h in
      let same = both_same (λ (w : Own) (k : Stealer T Global (DequeView H) (DequeRule T)). IsDoorOf w k) (λ (w : Own). worker_deque w) (λ (k : Stealer T Global (DequeView H) (DequeRule T)). stealer_deque k) cut rack.doors.items (λ w k i. i.deque) doors in
      let owned = both_same (For cut) (λ (w : Own). worker_deque w) (λ (x : Hand T H). worker_deque x.own) cut hands (λ w x i. ap (λ (o : Own). worker_deque o) i.own_is) h in
      record {
        number_is = omega arith;
        some = omega arith;
        order = owned ∙ sym same;
        fresh = both_each (For cut) (λ (w : Own). Has (whole - workers) home w) (IsFresh number home_of is_ready home rack) cut hands
            (λ w x. fresh_hand home workers rack cut w x few (omega arith) (omega arith) same (λ keys o. keys_of_doors (whole - workers) home cut rack.doors.items keys has doors o)) has h;
        room = r;
        counts = λ a.
            (let p = hand_put a cut cut hands h in
            let g = hand_got a cut cut hands h in
            let q = cut_put a workers owners cut c in
            let k = cut_got a workers owners cut c in
            omega (arith, d.counts a));
      }

  -- as the calls need them

  pub rows_fit : (agents : List T) (workers : ℕ) (owners cut queue : List (Worker T Global (DequeView H) (DequeRule T))) (rows : List (Vec (Pass T (DequeView H) Global) Global)) → AreDealt number home_of agents workers owners
      → Both (λ o w. HasCut workers o w) owners cut → queue ≡ cut → length rows ≡ workers → length rows ≡ length queue
  rows_fit agents workers owners cut queue rows d c q n =
      let l = both_length (λ (o w : Worker T Global (DequeView H) (DequeRule T)). HasCut workers o w) owners cut c in
      let m = ap (λ ws. length ws) q in
      let k = d.number_is in
      omega arith

  pub same_rows : (cut queue : List (Worker T Global (DequeView H) (DequeRule T))) (rows : List (Vec (Pass T (DequeView H) Global) Global)) → queue ≡ cut → Each (λ r. IsRow cut r) rows → Each (λ r. IsRow queue r) rows
  same_rows cut queue rows q r = subst (λ ws. Each (λ r. IsRow ws r) rows) (sym q) r

  pub rack_dealt : (agents : List T) (workers : ℕ) (owners cut queue : List (Worker T Global (DequeView H) (DequeRule T))) (rack : Rack T H) (hands : List (Hand T H)) → (0 < workers) × (workers ≤ 64)
      → AreDealt number home_of agents workers owners → Both (λ o w. HasCut workers o w) owners cut → queue ≡ cut → Both (λ w d. IsDoorOf w d) cut rack.doors.items → Both (IsHandFor queue) queue hands → Each (HasRoomFor (length agents)) hands
      → Dealt number home_of is_ready agents rack hands
  rack_dealt agents workers owners cut queue rack hands w d c q doors h r =
      are_dealt agents workers owners cut rack hands w.0 w.1 d c doors (subst (λ ws. Both (IsHandFor ws) ws hands) q h) r
