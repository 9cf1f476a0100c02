-- What the closing of the deques keeps true.
use Rattle.std.proofs.Common.{append_assoc, length-append, ◌≡◌, ℕ, zero, suc, ◌+◌, ◌<◌, ◌≤◌, Option, List, [], ◌∷◌, ◌++◌, length, set, sym, refl, ap, ◌∙◌, subst, arith}
use Rattle.std.specs.Prelude.{map, IsSome, slice_index_or}
use Rattle.std.specs.declared.vec.Vec.{Vec}
use Rattle.crossbeam_deque.specs.declared.handles.Worker.{Worker}
use Rattle.crossbeam_deque.specs.Handles.{Pass, view, IsPassOf, worker_deque, worker_flavor, worker_view, SameWorker}
use Rattle.mas_steal_rack.specs.declared.rule.DequeView.{DequeView}
use Rattle.mas_steal_rack.specs.declared.hand.Hand.{Hand}
use Rattle.mas_steal_rack.specs.Racks.{all_kept}
use Rattle.mas_board_lists.specs.Lists.{Each, total, times}
use Rattle.mas_steal_rack.specs.Rule.{whole, both_of, Waits, Taken}
use Rattle.mas_steal_rack.specs.Hands.{keys_put, keys_got}
use Rattle.mas_board_lists.proofs.Sums.{total_append, each_append, each_left, each_map}
use Rattle.mas_board_lists.proofs.Times.{times_append}
use Rattle.mas_pool_ready.proofs.Counts.{each_right}
use Rattle.mas_steal_rack.proofs.Sums.{times_both}
use Rattle.mas_steal_rack.proofs.Keys.{total_at}
use Rattle.mas_steal_thieves.specs.Closing.{Beside, IsOpenOwner, IsWhole, Fit, AllFit, SameOwners, Joins, JoinsAll, owners_put, owners_got, owners_parts, keys_parts, Drains}

-- lists

pub map_set : {A B : Type 0} (f : A → B) (xs : List A) (i : ℕ) (x y : A) → i < length xs → x ≡ slice_index_or xs i x → f y ≡ f x → map f (set xs i y) ≡ map f xs
map_set f [] i x y l e h = refl
map_set f (a ∷ xs) zero x y l e h = ap (λ b. b ∷ map f xs) (h ∙ ap f e)
map_set f (a ∷ xs) (suc i) x y l e h = ap (λ bs. f a ∷ bs) (map_set f xs i x y (omega arith) e h)

pub each_set : {A : Type 0} (P : A → Type 0) (xs : List A) (i : ℕ) (y : A) → P y → Each P xs → Each P (set xs i y)
each_set P [] i y p h = tt
each_set P (a ∷ xs) zero y p h = (p, h.1)
each_set P (a ∷ xs) (suc i) y p h = (h.0, each_set P xs i y p h.1)

pub each_get : {A : Type 0} (P : A → Type 0) (xs : List A) (i : ℕ) (x : A) → i < length xs → x ≡ slice_index_or xs i x → Each P xs → P x
each_get P [] i x l e h = absurd (omega arith)
each_get P (a ∷ xs) zero x l e h = subst P (sym e) h.0
each_get P (a ∷ xs) (suc i) x l e h = each_get P xs i x (omega arith) e h.1

module _ {A B : Type 0} (P : A → B → Type 0) where
  -- the list without its last, and the last
  beside_front : (xs : List A) (ys : List B) (y : B) → Beside P xs (ys ++ y ∷ []) → Beside P xs ys
  beside_front xs [] y h = tt
  beside_front [] (b ∷ ys) y h = absurd h
  beside_front (x ∷ xs) (b ∷ ys) y h = (h.0, beside_front xs ys y h.1)

  beside_last : (xs : List A) (ys : List B) (y : B) (x : A) → Beside P xs (ys ++ y ∷ []) → x ≡ slice_index_or xs (length ys) x → P x y
  beside_last [] [] y x h e = absurd h
  beside_last (a ∷ xs) [] y x h e = subst (λ z. P z y) (sym e) h.0
  beside_last [] (b ∷ ys) y x h e = absurd h
  beside_last (a ∷ xs) (b ∷ ys) y x h e = beside_last xs ys y x h.1 e

  beside_length : (xs : List A) (ys : List B) → Beside P xs ys → length ys ≤ length xs
  beside_length xs [] h = omega arith
  beside_length [] (b ∷ ys) h = absurd h
  beside_length (x ∷ xs) (b ∷ ys) h = let l = beside_length xs ys h.1 in omega arith

map_length : {A B : Type 0} (f : A → B) (xs : List A) → length (map f xs) ≡ length xs
map_length f [] = refl
map_length f (x ∷ xs) = ap suc (map_length f xs)

map_index : {A B : Type 0} (f : A → B) (xs : List A) (i : ℕ) (x : A) → i < length xs → x ≡ slice_index_or xs i x → f x ≡ slice_index_or (map f xs) i (f x)
map_index f [] i x l e = absurd (omega arith)
map_index f (a ∷ xs) zero x l e = ap f e
map_index f (a ∷ xs) (suc i) x l e = map_index f xs i x (omega arith) e

module _ {T H A P : Type 0} where
  -- the owners so far, and the keys that are still to come
  pub record Joining (olds : List (Worker T A (DequeView H) P)) (all : List (Pass T (DequeView H) A)) (owners : List (Worker T A (DequeView H) P)) (keys : List (Pass T (DequeView H) A)) : Type 0 where
    pub same : SameOwners olds owners
    pub fit : Fit owners keys
    pub put : (a : ℕ) → owners_put a owners + keys_put a keys ≡ owners_put a olds + keys_put a all
    pub got : (a : ℕ) → owners_got a owners + keys_got a keys ≡ owners_got a olds + keys_got a all
    pub parts : owners_parts owners + keys_parts keys ≡ owners_parts olds + keys_parts all

  pub joining_first : (olds : List (Worker T A (DequeView H) P)) (keys : List (Pass T (DequeView H) A)) → Each (λ (w : Worker T A (DequeView H) P). IsOpenOwner w) olds → Fit olds keys → Joining olds keys olds keys
  joining_first olds keys o f = record { same = record { deques = refl; homes = refl; are_open = o }; fit = f; put = λ a. refl; got = λ a. refl; parts = refl }

  pub joining_ends : (olds : List (Worker T A (DequeView H) P)) (all : List (Pass T (DequeView H) A)) (owners : List (Worker T A (DequeView H) P)) → Joining olds all owners [] → Joins olds all owners
  joining_ends olds all owners j = record { same = j.same; put = λ a. omega (arith, j.put a); got = λ a. omega (arith, j.got a); parts = let e = j.parts in omega arith }

  -- there is a place for the last key
  pub joining_room : (olds : List (Worker T A (DequeView H) P)) (all : List (Pass T (DequeView H) A)) (owners : List (Worker T A (DequeView H) P)) (before keys : List (Pass T (DequeView H) A)) (key : Pass T (DequeView H) A)
      → Joining olds all owners before → before ≡ keys ++ key ∷ [] → length keys < length owners
  joining_room olds all owners before keys key j e =
      let l = beside_length (λ d (k : Pass T (DequeView H) A). IsPassOf d k) (map worker_deque owners) before j.fit in
      let m = map_length (λ (w : Worker T A (DequeView H) P). worker_deque w) owners in
      let n = ap length e in
      omega (arith, length-append keys (key ∷ []))

  pub joining_open : (olds : List (Worker T A (DequeView H) P)) (all : List (Pass T (DequeView H) A)) (owners : List (Worker T A (DequeView H) P)) (before keys : List (Pass T (DequeView H) A)) (key : Pass T (DequeView H) A) (own : Worker T A (DequeView H) P)
      → Joining olds all owners before → before ≡ keys ++ key ∷ [] → own ≡ slice_index_or owners (length keys) own → IsOpenOwner own × IsPassOf (worker_deque own) key
  joining_open olds all owners before keys key own j e at =
      let l = joining_room olds all owners before keys key j e in (
        each_get (λ (w : Worker T A (DequeView H) P). IsOpenOwner w) owners (length keys) own l at j.same.are_open,
        beside_last (λ d (k : Pass T (DequeView H) A). IsPassOf d k) (map worker_deque owners) keys key (worker_deque own) (subst (λ ks. Fit owners ks) e j.fit) (map_index (λ (w : Worker T A (DequeView H) P). worker_deque w) owners (length keys) own l at),
      )

  pub joining_goes : (olds : List (Worker T A (DequeView H) P)) (all : List (Pass T (DequeView H) A)) (owners after : List (Worker T A (DequeView H) P)) (before keys : List (Pass T (DequeView H) A)) (key : Pass T (DequeView H) A) (own new : Worker T A (DequeView H) P)
      → Joining olds all owners before → before ≡ keys ++ key ∷ [] → own ≡ slice_index_or owners (length keys) own → worker_deque new ≡ worker_deque own → worker_flavor new ≡ worker_flavor own
      → worker_view new ≡ both_of (worker_view own) (view {V = DequeView H} key) → (worker_view new).parts ≤ whole → after ≡ set owners (length keys) new → Joining olds all after keys
  joining_goes olds all owners after before keys key own new j e at d f v most s =
      let l = joining_room olds all owners before keys key j e in
      let o = joining_open olds all owners before keys key own j e at in
      let home_is : (worker_view new).home ≡ (worker_view own).home = ap (λ (u : DequeView H). u.home) v in
      let parts_are : (worker_view new).parts ≡ (worker_view own).parts + (view {V = DequeView H} key).parts = ap (λ (u : DequeView H). u.parts) v in
      let some_part = o.0.opened.parts in
      let is_open : IsOpenOwner new = record { fifo = f ∙ o.0.fifo; opened = record { begun = subst (λ (z : Option H). IsSome z) (sym home_is) o.0.opened.begun; parts = omega arith }; most = most } in
      let deques_same = map_set (λ (w : Worker T A (DequeView H) P). worker_deque w) owners (length keys) own new l at d in
      subst (λ ws. Joining olds all ws keys) (sym s) record {
        same = record {
          deques = deques_same ∙ j.same.deques;
          homes = map_set (λ (w : Worker T A (DequeView H) P). (worker_view w).home) owners (length keys) own new l at home_is ∙ j.same.homes;
          are_open = each_set (λ (w : Worker T A (DequeView H) P). IsOpenOwner w) owners (length keys) new is_open j.same.are_open;
        };
        fit = subst (λ ds. Beside (λ d (k : Pass T (DequeView H) A). IsPassOf d k) ds keys) (sym deques_same) (beside_front (λ d (k : Pass T (DequeView H) A). IsPassOf d k) (map worker_deque owners) keys key (subst (λ ks. Fit owners ks) e j.fit));
        put = λ a.
            (let t = total_at (λ (w : Worker T A (DequeView H) P). times a (worker_view w).put) owners (length keys) own new l at in
            let m = ap (λ (u : DequeView H). times a u.put) v in
            let k = ap (λ ks. keys_put a ks) e in
            omega (arith, j.put a, times_append a (worker_view own).put (view {V = DequeView H} key).put, total_append (λ (x : Pass T (DequeView H) A). times a (view {V = DequeView H} x).put) keys (key ∷ [])));
        got = λ a.
            (let t = total_at (λ (w : Worker T A (DequeView H) P). times a (worker_view w).got) owners (length keys) own new l at in
            let m = ap (λ (u : DequeView H). times a u.got) v in
            let k = ap (λ ks. keys_got a ks) e in
            omega (arith, j.got a, times_append a (worker_view own).got (view {V = DequeView H} key).got, total_append (λ (x : Pass T (DequeView H) A). times a (view {V = DequeView H} x).got) keys (key ∷ [])));
        parts =
            let t = total_at (λ (w : Worker T A (DequeView H) P). (worker_view w).parts) owners (length keys) own new l at in
            let k = ap (λ ks. keys_parts ks) e in
            let c = j.parts in
            omega (arith, total_append (λ (x : Pass T (DequeView H) A). (view {V = DequeView H} x).parts) keys (key ∷ []));
      }

module _ {T H A P G : Type 0} where
  -- the owners so far, and the hands' keys that are still to come
  pub record JoiningAll (olds : List (Worker T A (DequeView H) P)) (all : List (Vec (Pass T (DequeView H) A) G)) (owners : List (Worker T A (DequeView H) P)) (rows : List (Vec (Pass T (DequeView H) A) G)) : Type 0 where
    pub same : SameOwners olds owners
    pub fit : AllFit owners rows
    pub put : (a : ℕ) → owners_put a owners + total (λ (r : Vec (Pass T (DequeView H) A) G). keys_put a r.items) rows ≡ owners_put a olds + total (λ (r : Vec (Pass T (DequeView H) A) G). keys_put a r.items) all
    pub got : (a : ℕ) → owners_got a owners + total (λ (r : Vec (Pass T (DequeView H) A) G). keys_got a r.items) rows ≡ owners_got a olds + total (λ (r : Vec (Pass T (DequeView H) A) G). keys_got a r.items) all
    pub parts : owners_parts owners + total (λ (r : Vec (Pass T (DequeView H) A) G). keys_parts r.items) rows ≡ owners_parts olds + total (λ (r : Vec (Pass T (DequeView H) A) G). keys_parts r.items) all

  pub rows_first : (olds : List (Worker T A (DequeView H) P)) (rows : List (Vec (Pass T (DequeView H) A) G)) → Each (λ (w : Worker T A (DequeView H) P). IsOpenOwner w) olds → AllFit olds rows → JoiningAll olds rows olds rows
  rows_first olds rows o f = record { same = record { deques = refl; homes = refl; are_open = o }; fit = f; put = λ a. refl; got = λ a. refl; parts = refl }

  pub rows_end : (olds : List (Worker T A (DequeView H) P)) (all rows : List (Vec (Pass T (DequeView H) A) G)) (owners : List (Worker T A (DequeView H) P)) → JoiningAll olds all owners rows → rows ≡ [] → JoinsAll olds all owners
  rows_end olds all rows owners j e =
      let k = subst (λ rs. JoiningAll olds all owners rs) e j in record { same = k.same; put = λ a. omega (arith, k.put a); got = λ a. omega (arith, k.got a); parts = let c = k.parts in omega arith }

  pub rows_fit : (olds : List (Worker T A (DequeView H) P)) (all : List (Vec (Pass T (DequeView H) A) G)) (owners : List (Worker T A (DequeView H) P)) (before rows : List (Vec (Pass T (DequeView H) A) G)) (row : Vec (Pass T (DequeView H) A) G)
      → JoiningAll olds all owners before → before ≡ rows ++ row ∷ [] → Fit owners row.items
  rows_fit olds all owners before rows row j e = (each_right (λ (r : Vec (Pass T (DequeView H) A) G). Fit owners r.items) rows (row ∷ []) (subst (λ rs. AllFit owners rs) e j.fit)).0

  pub rows_go : (olds : List (Worker T A (DequeView H) P)) (all : List (Vec (Pass T (DequeView H) A) G)) (owners after : List (Worker T A (DequeView H) P)) (before rows : List (Vec (Pass T (DequeView H) A) G)) (row : Vec (Pass T (DequeView H) A) G)
      → JoiningAll olds all owners before → before ≡ rows ++ row ∷ [] → Joins owners row.items after → JoiningAll olds all after rows
  rows_go olds all owners after before rows row j e n = record {
    same = record { deques = n.same.deques ∙ j.same.deques; homes = n.same.homes ∙ j.same.homes; are_open = n.same.are_open };
    fit = each_map (λ (r : Vec (Pass T (DequeView H) A) G). Fit owners r.items) (λ (r : Vec (Pass T (DequeView H) A) G). Fit after r.items) rows
        (λ r f. subst (λ ds. Beside (λ d (k : Pass T (DequeView H) A). IsPassOf d k) ds r.items) (sym n.same.deques) f)
        (each_left (λ (r : Vec (Pass T (DequeView H) A) G). Fit owners r.items) rows (row ∷ []) (subst (λ rs. AllFit owners rs) e j.fit));
    put = λ a.
        (let k = ap (λ rs. total (λ (r : Vec (Pass T (DequeView H) A) G). keys_put a r.items) rs) e in
        omega (arith, j.put a, n.put a, total_append (λ (r : Vec (Pass T (DequeView H) A) G). keys_put a r.items) rows (row ∷ [])));
    got = λ a.
        (let k = ap (λ rs. total (λ (r : Vec (Pass T (DequeView H) A) G). keys_got a r.items) rs) e in
        omega (arith, j.got a, n.got a, total_append (λ (r : Vec (Pass T (DequeView H) A) G). keys_got a r.items) rows (row ∷ [])));
    parts =
        let k = ap (λ rs. total (λ (r : Vec (Pass T (DequeView H) A) G). keys_parts r.items) rs) e in
        let c = j.parts in
        let m = n.parts in
        omega (arith, total_append (λ (r : Vec (Pass T (DequeView H) A) G). keys_parts r.items) rows (row ∷ []));
  }

module _ {T H A P : Type 0} (number : T → ℕ) (home_of : T → H) (is_ready : T → Type 0) where
  -- between two pops: what was got is left
  pub record Draining (v : DequeView H) (before : List T) (own : Worker T A (DequeView H) P) (after : List T) : Type 0 where
    pub whole : IsWhole v.home own
    pub put : (worker_view own).put ≡ v.put
    pub got : (a : ℕ) → times a (worker_view own).got + times a (map number before) ≡ times a v.got + times a (map number after)
    pub wait : Each (Waits number home_of is_ready v.home) after

  pub draining_goes : (v : DequeView H) (before after more : List T) (own new : Worker T A (DequeView H) P) (x : T) → Draining v before own after → worker_flavor new ≡ worker_flavor own → Taken number home_of is_ready (worker_view own) (x ∷ []) (worker_view new)
      → more ≡ after ++ x ∷ [] → Draining v before new more
  draining_goes v before after more own new x d f t e = subst (λ l. Draining v before new l) (sym e) record {
    whole = record {
      fifo = f ∙ d.whole.fifo;
      home_is = ap (λ (u : DequeView H). u.home) t.is ∙ d.whole.home_is;
      begun = d.whole.begun;
      parts = ap (λ (u : DequeView H). u.parts) t.is ∙ d.whole.parts;
    };
    put = ap (λ (u : DequeView H). u.put) t.is ∙ d.put;
    got = λ a.
        (let g = ap (λ (u : DequeView H). times a u.got) t.is in
        omega (arith, d.got a, times_append a (worker_view own).got (number x ∷ []), times_both a number after (x ∷ [])));
    wait = each_append (Waits number home_of is_ready v.home) after (x ∷ []) d.wait (subst (λ (z : Option H). Waits number home_of is_ready z x) d.whole.home_is t.waits.0, tt);
  }

  -- the deques that are still to be emptied, and what is left so far
  pub record DrainingAll (home : Option H) (all rest : List (Worker T A (DequeView H) P)) (left : List T) : Type 0 where
    pub whole : Each (λ (w : Worker T A (DequeView H) P). IsWhole home w) rest
    pub wait : Each (Waits number home_of is_ready home) left
    pub counts : (a : ℕ) → owners_put a all + owners_got a rest ≡ owners_got a all + owners_put a rest + times a (map number left)

  pub drains_go : (home : Option H) (all before rest : List (Worker T A (DequeView H) P)) (own : Worker T A (DequeView H) P) (left more : List T) → DrainingAll home all before left → before ≡ rest ++ own ∷ []
      → Each (Waits number home_of is_ready (worker_view own).home) more → Drains number (worker_view own) left more → DrainingAll home all rest more
  drains_go home all before rest own left more d e m c =
      let k = subst (λ l. Each (λ (w : Worker T A (DequeView H) P). IsWhole home w) l) e d.whole in
      let w = (each_right (λ (w : Worker T A (DequeView H) P). IsWhole home w) rest (own ∷ []) k).0 in
      record {
        whole = each_left (λ (w : Worker T A (DequeView H) P). IsWhole home w) rest (own ∷ []) k;
        wait = subst (λ (z : Option H). Each (Waits number home_of is_ready z) more) w.home_is m;
        counts = λ a.
            (let p = ap (λ l. owners_put a l) e in
            let g = ap (λ l. owners_got a l) e in
            omega (arith, d.counts a, c a, total_append (λ (x : Worker T A (DequeView H) P). times a (worker_view x).put) rest (own ∷ []), total_append (λ (x : Worker T A (DequeView H) P). times a (worker_view x).got) rest (own ∷ [])));
      }

-- as the calls need them, at a place that is the number of the keys that are left

module _ {T H A P : Type 0} where
  pub joining_open_at : (i : ℕ) (olds : List (Worker T A (DequeView H) P)) (all : List (Pass T (DequeView H) A)) (owners : List (Worker T A (DequeView H) P)) (before keys : List (Pass T (DequeView H) A)) (key : Pass T (DequeView H) A) (own : Worker T A (DequeView H) P)
      → i ≡ length keys → Joining olds all owners before → before ≡ keys ++ key ∷ [] → own ≡ slice_index_or owners i own → IsOpenOwner own × IsPassOf (worker_deque own) key
  joining_open_at i olds all owners before keys key own n j e at = joining_open olds all owners before keys key own j e (subst (λ k. own ≡ slice_index_or owners k own) n at)

  pub joining_goes_at : (i : ℕ) (olds : List (Worker T A (DequeView H) P)) (all : List (Pass T (DequeView H) A)) (owners after : List (Worker T A (DequeView H) P)) (before keys : List (Pass T (DequeView H) A)) (key : Pass T (DequeView H) A) (own new : Worker T A (DequeView H) P)
      → i ≡ length keys → Joining olds all owners before → before ≡ keys ++ key ∷ [] → own ≡ slice_index_or owners i own → SameWorker own new
      → worker_view new ≡ both_of (worker_view own) (view {V = DequeView H} key) → (worker_view new).parts ≤ whole → after ≡ set owners i new → Joining olds all after keys
  joining_goes_at i olds all owners after before keys key own new n j e at s v m t =
      joining_goes olds all owners after before keys key own new j e (subst (λ k. own ≡ slice_index_or owners k own) n at) s.0 s.1 v m (subst (λ k. after ≡ set owners k new) n t)

pub map_snoc : {A B : Type 0} (f : A → B) (xs : List A) (x : A) → map f (xs ++ x ∷ []) ≡ map f xs ++ f x ∷ []
map_snoc f [] x = refl
map_snoc f (a ∷ xs) x = ap (λ l. f a ∷ l) (map_snoc f xs x)

append_nil : {T : Type 0} (xs : List T) → xs ++ [] ≡ xs
append_nil [] = refl
append_nil (x ∷ xs) = ap (λ l. x ∷ l) (append_nil xs)

pub kept_snoc : {T H : Type 0} (hs : List (Hand T H)) (h : Hand T H) → all_kept (hs ++ h ∷ []) ≡ all_kept hs ++ h.kept.items
kept_snoc [] h = append_nil h.kept.items
kept_snoc (x ∷ hs) h = ap (λ l. x.kept.items ++ l) (kept_snoc hs h) ∙ sym (append_assoc x.kept.items (all_kept hs) h.kept.items)

pub ruleset joins = (joining_open_at, joining_goes_at, joining_room, joining_first, joining_ends)

pub ruleset joins_all = (rows_first, rows_fit, rows_go, rows_end)
