-- What the opening of a deque keeps true.
use Rattle.std.proofs.Common.{length-append, suc-mul, mul_comm, set, ◌*◌, ◌≤◌, ◌≡◌, if◌then◌else◌, eq-eqb, ne_eqb, Bool, ℕ, zero, suc, ◌+◌, ◌-◌, ◌<◌, Option, Some, List, [], ◌∷◌, ◌++◌, length, sym, refl, ap, ◌∙◌, subst, arith}
use Rattle.std.specs.Prelude.{map, drop, slice_index_or}
use Rattle.std.specs.Int.{div_ceil, IsNextPowerOfTwo}
use Rattle.std.proofs.lemmas.Grind.{div_ceil_times}
use mathlib.Core.Logic.{dite}
use native.Mathlib.Decide.{ℕ_discrete}
use Rattle.mas_steal_rack.specs.declared.rule.DequeView.{DequeView}
use Rattle.mas_board_lists.specs.Lists.{Each, times}
use Rattle.mas_steal_rack.specs.Rule.{whole, blank, IsDry, IsOpen, Waits, with_put, Taken}
use Rattle.mas_steal_rack.specs.Turns.{Went}
use Rattle.crossbeam_deque.specs.declared.handles.Worker.{Worker}
use Rattle.crossbeam_deque.specs.Handles.{worker_flavor, worker_view, worker_index, worker_capacity, SameWorker}
use Rattle.mas_board_lists.proofs.Sums.{total_append, each_append}
use Rattle.mas_board_lists.proofs.Times.{times_append}
use Rattle.mas_steal_rack.proofs.Keys.{total_at}
use Rattle.mas_steal_thieves.proofs.Closings.{each_set, each_get}
use Rattle.mas_steal_thieves.specs.Closing.{owners_put, owners_got}
use Rattle.mas_steal_rack.specs.Racks.{first_home}
use Rattle.mas_steal_thieves.specs.Opening.{IsStarted, Has, HasRoom, Deals, DealsAll, Opens, AreDealt}

abbrev bit : Bool → ℕ
bit b = if b then 1 else 0

-- a list of one number has no other
one_time : (a b : ℕ) → 0 < times a (b ∷ []) → b ≡ a
one_time a b l = dite (ℕ_discrete b a) (λ e. e) (λ n. let h = ap bit (ne_eqb b a n) in absurd (omega arith))

once_there : (b : ℕ) → times b (b ∷ []) ≡ 1
once_there b = let h = ap bit (eq-eqb b b refl) in omega arith

module _ {T H : Type 0} (number : T → ℕ) (home_of : T → H) (is_ready : T → Type 0) where
  pub opens : (x : T) (v : DequeView H) → v ≡ with_put number home_of blank (x ∷ []) → IsOpen v
  opens x v e = subst IsOpen (sym e) record { begun = refl; parts = omega arith }

  -- the agent is there
  pub not_dry : (x : T) (v w : DequeView H) → v ≡ with_put number home_of blank (x ∷ []) → (w ≡ v) × IsDry v → ⊥
  not_dry x v w e d =
      let n = d.1 (ap (λ (u : DequeView H). u.parts) e) (number x) in
      let put = ap (λ (u : DequeView H). times (number x) u.put) e in
      let got = ap (λ (u : DequeView H). times (number x) u.got) e in
      omega (arith, once_there (number x))

  same_number : (x y : T) (v w : DequeView H) → v ≡ with_put number home_of blank (x ∷ []) → Taken number home_of is_ready v (y ∷ []) w → number x ≡ number y
  same_number x y v w e t =
      let k = (t.known (ap (λ (u : DequeView H). u.parts) e)).0 in
      let put = ap (λ (u : DequeView H). times (number y) u.put) e in
      let got = ap (λ (u : DequeView H). times (number y) u.got) e in
      one_time (number y) (number x) (omega arith)

  pub started : (x y : T) (v w : DequeView H) → v ≡ with_put number home_of blank (x ∷ []) → Taken number home_of is_ready v (y ∷ []) w → IsStarted (Some (home_of x)) w
  started x y v w e t = record {
    home_is = ap (λ (u : DequeView H). u.home) t.is ∙ ap (λ (u : DequeView H). u.home) e;
    begun = refl;
    parts = ap (λ (u : DequeView H). u.parts) t.is ∙ ap (λ (u : DequeView H). u.parts) e;
    settled = λ a.
        (let n = ap (λ (k : ℕ). times a (k ∷ [])) (same_number x y v w e t) in
        let put = ap (λ (u : DequeView H). times a u.put) t.is in
        let was_put = ap (λ (u : DequeView H). times a u.put) e in
        let got = ap (λ (u : DequeView H). times a u.got) t.is in
        let was_got = ap (λ (u : DequeView H). times a u.got) e in
        omega (arith, times_append a v.got (number y ∷ [])));
  }

module _ {T H A P : Type 0} (number : T → ℕ) (home_of : T → H) (is_ready : T → Type 0) where
  -- after some of a block: the deque, the rest, and how many more may come
  pub record Dealing (block : ℕ) (old : Worker T A (DequeView H) P) (before : List T) (dealt : ℕ) (own : Worker T A (DequeView H) P) (rest : List T) : Type 0 where
    pub has : Has whole (worker_view old).home own
    pub wait : Each (Waits number home_of is_ready (worker_view old).home) rest
    pub room : worker_index own + (block - dealt) ≤ worker_capacity own
    pub counts : (a : ℕ) → times a (worker_view own).put + times a (map number rest) ≡ times a (worker_view old).put + times a (map number before)
    pub got : (worker_view own).got ≡ (worker_view old).got
    pub left : length rest ≡ length before - dealt

  pub dealing_goes : (block : ℕ) (old : Worker T A (DequeView H) P) (before : List T) (dealt : ℕ) (own new : Worker T A (DequeView H) P) (rest after : List T) (x : T) → Dealing block old before dealt own rest → rest ≡ x ∷ after → dealt < block
      → SameWorker own new → worker_view new ≡ with_put number home_of (worker_view own) (x ∷ []) → worker_index new ≡ worker_index own + 1 → Dealing block old before (dealt + 1) new after
  dealing_goes block old before dealt own new rest after x d e l s v i =
      let w = subst (λ l. Each (Waits number home_of is_ready (worker_view old).home) l) e d.wait in
      let n = ap (λ l. length l) e in
      let bigger = s.3 in
      let room = d.room in
      let left = d.left in
      record {
        has = record {
          fifo = s.1 ∙ d.has.fifo;
          home_is = ap (λ (u : DequeView H). u.home) v ∙ sym w.0.at;
          begun = d.has.begun;
          parts_are = ap (λ (u : DequeView H). u.parts) v ∙ d.has.parts_are;
        };
        wait = w.1;
        room = omega arith;
        counts = λ a.
            (let p = ap (λ (u : DequeView H). times a u.put) v in
            let r = ap (λ l. times a (map number l)) e in
            omega (arith, d.counts a, times_append a (worker_view own).put (number x ∷ [])));
        got = ap (λ (u : DequeView H). u.got) v ∙ d.got;
        left = omega arith;
      }

-- lists from a place on

drop_set : {A : Type 0} (xs : List A) (i : ℕ) (y : A) → drop (suc i) (set xs i y) ≡ drop (suc i) xs
drop_set [] i y = refl
drop_set (x ∷ xs) zero y = refl
drop_set (x ∷ xs) (suc i) y = drop_set xs i y

each_here : {A : Type 0} (P : A → Type 0) (xs : List A) (i : ℕ) (x : A) → i < length xs → x ≡ slice_index_or xs i x → Each P (drop i xs) → P x × Each P (drop (suc i) xs)
each_here P [] i x l e h = absurd (omega arith)
each_here P (a ∷ xs) zero x l e h = (subst P (sym e) h.0, h.1)
each_here P (a ∷ xs) (suc i) x l e h = each_here P xs i x (omega arith) e h

plus_one : (n : ℕ) → suc n ≡ n + 1
plus_one n = omega arith

pub length_set_same : {A : Type 0} (xs : List A) (i : ℕ) (y : A) → length (set xs i y) ≡ length xs
length_set_same [] i y = refl
length_set_same (x ∷ xs) zero y = refl
length_set_same (x ∷ xs) (suc i) y = ap suc (length_set_same xs i y)

module _ {T H A P : Type 0} (number : T → ℕ) (home_of : T → H) (is_ready : T → Type 0) where
  -- after the blocks of some deques
  pub record DealingAll (home : Option H) (block : ℕ) (olds : List (Worker T A (DequeView H) P)) (before : List T) (dealt : ℕ) (owners : List (Worker T A (DequeView H) P)) (rest : List T) : Type 0 where
    pub has : Each (λ (w : Worker T A (DequeView H) P). Has whole home w) owners
    pub room : Each (λ (w : Worker T A (DequeView H) P). HasRoom block w) (drop dealt owners)
    pub wait : Each (Waits number home_of is_ready home) rest
    pub counts : (a : ℕ) → owners_put a owners + times a (map number rest) ≡ owners_put a olds + times a (map number before)
    pub got : (a : ℕ) → owners_got a owners ≡ owners_got a olds
    pub number_is : length owners ≡ length olds
    pub left : length rest ≡ length before - dealt * block

  pub blocks_go : (home : Option H) (block : ℕ) (olds : List (Worker T A (DequeView H) P)) (before : List T) (dealt : ℕ) (owners after : List (Worker T A (DequeView H) P)) (rest more : List T) (own new : Worker T A (DequeView H) P)
      → DealingAll home block olds before dealt owners rest → dealt < length owners → own ≡ slice_index_or owners dealt own → Has whole (worker_view own).home new → Each (Waits number home_of is_ready (worker_view own).home) more
      → Deals number block own new rest more → after ≡ set owners dealt new → DealingAll home block olds before (dealt + 1) after more
  blocks_go home block olds before dealt owners after rest more own new d l e n w s t =
      let h = each_get (λ (w : Worker T A (DequeView H) P). Has whole home w) owners dealt own l e d.has in
      subst (λ ws. DealingAll home block olds before (dealt + 1) ws more) (sym t) record {
        has = each_set (λ (w : Worker T A (DequeView H) P). Has whole home w) owners dealt new record { fifo = n.fifo; home_is = n.home_is ∙ h.home_is; begun = h.begun; parts_are = n.parts_are } d.has;
        room = subst (λ k. Each (λ (w : Worker T A (DequeView H) P). HasRoom block w) (drop k (set owners dealt new))) (plus_one dealt)
            (subst (Each (λ (w : Worker T A (DequeView H) P). HasRoom block w)) (sym (drop_set owners dealt new)) (each_here (λ (w : Worker T A (DequeView H) P). HasRoom block w) owners dealt own l e d.room).1);
        wait = subst (λ (z : Option H). Each (Waits number home_of is_ready z) more) h.home_is w;
        counts = λ a. (let k = total_at (λ (w : Worker T A (DequeView H) P). times a (worker_view w).put) owners dealt own new l e in omega (arith, d.counts a, s.counts a));
        got = λ a.
            (let k = total_at (λ (w : Worker T A (DequeView H) P). times a (worker_view w).got) owners dealt own new l e in
            let g = ap (λ g. times a g) s.got in
            omega (arith, d.got a));
        number_is = length_set_same owners dealt new ∙ d.number_is;
        left = let k = d.left in let m = s.left in let b = ap (λ k. k * block) (sym (plus_one dealt)) ∙ suc-mul dealt block in omega arith;
      }

module _ {T H A P : Type 0} where
  pub opens_first : (home : Option H) (block : ℕ) (owners : List (Worker T A (DequeView H) P)) → owners ≡ [] → Opens home 0 block owners
  opens_first home block owners e = subst (λ ws. Opens home 0 block ws) (sym e) record { number_is = refl; has = tt; room = tt; settled = λ a. refl }

  -- one more deque
  pub opens_more : (home : Option H) (n block : ℕ) (owners after : List (Worker T A (DequeView H) P)) (own : Worker T A (DequeView H) P) → Opens home n block owners → worker_flavor own ≡ 0 → IsStarted home (worker_view own) → worker_index own ≤ 1
      → block + 1 ≤ worker_capacity own → after ≡ owners ++ own ∷ [] → Opens home (n + 1) block after
  opens_more home n block owners after own o f s i c e = subst (Opens home (n + 1) block) (sym e) record {
    number_is = let l = length-append owners (own ∷ []) in let m = o.number_is in omega arith;
    has = each_append (λ (w : Worker T A (DequeView H) P). Has whole home w) owners (own ∷ []) o.has (record { fifo = f; home_is = s.home_is; begun = s.begun; parts_are = s.parts }, tt);
    room = each_append (λ (w : Worker T A (DequeView H) P). HasRoom block w) owners (own ∷ []) o.room (omega arith, tt);
    settled = λ a.
        (let p = total_append (λ (w : Worker T A (DequeView H) P). times a (worker_view w).put) owners (own ∷ []) in
        let g = total_append (λ (w : Worker T A (DequeView H) P). times a (worker_view w).got) owners (own ∷ []) in
        omega (arith, o.settled a, s.settled a));
  }

module _ {T H A P : Type 0} (number : T → ℕ) (home_of : T → H) (is_ready : T → Type 0) where
  -- after some deques were opened, and the agent with which they were
  pub record Opening (first : T) (n block : ℕ) (owners : List (Worker T A (DequeView H) P)) (x : T) : Type 0 where
    pub owners_are : Opens (Some (home_of first)) n block owners
    pub agent : Went number home_of is_ready first x

  pub opening_first : (first : T) (block : ℕ) (owners : List (Worker T A (DequeView H) P)) → is_ready first → owners ≡ [] → Opening first 0 block owners first
  opening_first first block owners r e = record { owners_are = opens_first (Some (home_of first)) block owners e; agent = record { same = refl; home = refl; ready = r } }

  pub opening_more : (first x y : T) (n block : ℕ) (owners after : List (Worker T A (DequeView H) P)) (own new : Worker T A (DequeView H) P) → Opening first n block owners x → worker_flavor own ≡ 0 → worker_index own ≡ 0
      → IsNextPowerOfTwo (block + 1) (worker_capacity own) → SameWorker own new → worker_index new ≤ worker_index own + 1 → IsStarted (Some (home_of x)) (worker_view new) → Went number home_of is_ready x y → after ≡ owners ++ new ∷ []
      → Opening first (n + 1) block after y
  opening_more first x y n block owners after own new o f i c s l t w e =
      let room = c.1 in
      let bigger = s.3 in
      record {
        owners_are = opens_more (Some (home_of first)) n block owners after new o.owners_are (s.1 ∙ f) (subst (λ (z : Option H). IsStarted z (worker_view new)) (ap Some o.agent.home) t) (omega arith) (omega arith) e;
        agent = record { same = w.same ∙ o.agent.same; home = w.home ∙ o.agent.home; ready = w.ready };
      }

  pub opening_ends : (first x : T) (n workers block : ℕ) (owners : List (Worker T A (DequeView H) P)) → Opening first n block owners x → n ≡ workers → Opens (Some (home_of first)) workers block owners
  opening_ends first x n workers block owners o e = subst (λ k. Opens (Some (home_of first)) k block owners) e o.owners_are

-- the whole opening

module _ {T H : Type 0} (number : T → ℕ) (home_of : T → H) (is_ready : T → Type 0) where
  -- the first agent, with which the deques were opened, stands first again
  pub again_home : (agents rest again : List T) (x y : T) → agents ≡ x ∷ rest → again ≡ y ∷ rest → Went number home_of is_ready x y → first_home home_of again ≡ first_home home_of agents
  again_home agents rest again x y e f w = ap (first_home home_of) f ∙ ap Some w.home ∙ sym (ap (first_home home_of) e)

  -- as many blocks hold all
  none_left : (n left workers block : ℕ) → 0 < workers → block ≡ div_ceil n workers → left ≡ n - workers * block → left ≡ 0
  none_left n left workers block l b e =
      let d = (div_ceil_times n workers l).0 in
      let m = ap (λ (k : ℕ). k * workers) b in
      let c = mul_comm workers block in
      omega arith

  no_items : (xs : List T) → length xs ≡ 0 → xs ≡ []
  no_items [] e = refl
  no_items (x ∷ xs) e = absurd (omega arith)

module _ {T H A P : Type 0} (number : T → ℕ) (home_of : T → H) (is_ready : T → Type 0) where
  pub dealt : (agents rest again left : List T) (x y : T) (workers block : ℕ) (owners news : List (Worker T A (DequeView H) P)) → agents ≡ x ∷ rest → again ≡ y ∷ rest → Went number home_of is_ready x y → 0 < workers
      → block ≡ div_ceil (length agents) workers → Opens (Some (home_of x)) workers block owners → Each (λ (w : Worker T A (DequeView H) P). Has whole (first_home home_of again) w) news
      → DealsAll number block owners news again left → AreDealt number home_of agents workers news
  dealt agents rest again left x y workers block owners news e f w l b o h d =
      let n = o.number_is in
      let long = ap (λ (xs : List T). length xs) e in
      let again_long = ap (λ (xs : List T). length xs) f in
      let m = ap (λ (k : ℕ). k * block) n in
      let rest_is = d.left in
      let none = no_items number home_of is_ready left (none_left number home_of is_ready (length agents) (length left) workers block l b (omega arith)) in
      record {
        number_is = d.number_is ∙ n;
        has = subst (λ (z : Option H). Each (λ (w : Worker T A (DequeView H) P). Has whole z w) news) (again_home number home_of is_ready agents rest again x y e f w) h;
        counts = λ a.
            (let z = ap (λ (xs : List T). times a (map number xs)) none in
            let was = ap (λ (xs : List T). times a (map number xs)) e in
            let is = ap (λ (xs : List T). times a (map number xs)) f in
            let one = ap (λ (k : ℕ). times a (k ∷ [])) w.same in
            omega (arith, d.counts a, d.got a, o.settled a));
      }
