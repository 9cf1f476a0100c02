-- What each call of a hand keeps true.
use Rattle.std.proofs.Common.{Global, ◌≡◌, ℕ, ◌+◌, ◌<◌, Option, Some, None, List, [], ◌∷◌, ◌++◌, length, set, sym, refl, ap, ◌∙◌, subst, arith}
use Rattle.std.specs.Prelude.{map, slice_index_or}
use Rattle.crossbeam_deque.specs.Handles.{Pass, view, worker_view}
use Rattle.mas_steal_rack.specs.declared.rule.DequeView.{DequeView}
use Rattle.mas_steal_rack.specs.declared.hand.Hand.{Hand}
use Rattle.mas_board_lists.specs.Lists.{Each, times}
use Rattle.mas_steal_rack.specs.Rule.{Waits, with_put, Found}
use Rattle.mas_steal_rack.specs.Turns.{MatchTurned, Went, Ended}
use Rattle.mas_steal_rack.specs.declared.turns.AgentTurned.{AgentTurned}
use Rattle.mas_steal_rack.specs.declared.turns.AgentTurned.TheVariants.{Again, Ahead, Ended as Done}
use Rattle.mas_steal_rack.specs.Hands.{Moved, Took, Settled, Working, Worked, hand_home, own_view, keys_put, keys_got, puts_of, gets_of, listed}
use Rattle.mas_board_lists.proofs.Sums.{each_append}
use Rattle.mas_board_lists.proofs.Times.{times_append}
use Rattle.mas_steal_rack.proofs.Sums.{times_both}
use Rattle.mas_steal_rack.proofs.Keys.{total_at}

module _ {T H : Type 0} (number : T → ℕ) (home_of : T → H) (is_ready : T → Type 0) where
  abbrev Gave : Option T → DequeView H → DequeView H → Type 0
  Gave = Found number home_of is_ready

  -- of a view after a pop or a steal

  pub found_home : (r : Option T) (v w : DequeView H) → Gave r v w → w.home ≡ v.home
  found_home None v w h = ap (λ (u : DequeView H). u.home) h.0
  found_home (Some x) v w h = ap (λ (u : DequeView H). u.home) h.is

  pub found_parts : (r : Option T) (v w : DequeView H) → Gave r v w → w.parts ≡ v.parts
  found_parts None v w h = ap (λ (u : DequeView H). u.parts) h.0
  found_parts (Some x) v w h = ap (λ (u : DequeView H). u.parts) h.is

  -- the agent that left, if there is one
  abbrev gone : Option T → List ℕ
  gone None = []
  gone (Some x) = number x ∷ []

  found_put : (a : ℕ) (r : Option T) (v w : DequeView H) → Gave r v w → times a w.put ≡ times a v.put
  found_put a None v w h = ap (λ (u : DequeView H). times a u.put) h.0
  found_put a (Some x) v w h = ap (λ (u : DequeView H). times a u.put) h.is

  found_got : (a : ℕ) (r : Option T) (v w : DequeView H) → Gave r v w → times a w.got ≡ times a v.got + times a (gone r)
  found_got a None v w h = let e = ap (λ (u : DequeView H). times a u.got) h.0 in omega arith
  found_got a (Some x) v w h = let e = ap (λ (u : DequeView H). times a u.got) h.is in omega (arith, times_append a v.got (number x ∷ []))

  -- what is told of a hand, by what it found and the counts
  tell : (r : Option T) (v w : DequeView H) (old new : Hand T H) → Gave r v w → v.home ≡ hand_home old → new.place ≡ old.place → hand_home new ≡ hand_home old → new.kept ≡ old.kept
      → ((a : ℕ) → gets_of a new + puts_of a old + listed number a old ≡ gets_of a old + puts_of a new + listed number a new + times a (gone r)) → Took number home_of is_ready r old new
  tell None v w old new f e p h k c = record { place = p; home = h; kept = k; counts = λ a. omega (arith, c a) }
  tell (Some x) v w old new f e p h k c = (subst (λ (z : Option H). Waits number home_of is_ready z x) e f.waits.0, record { place = p; home = h; kept = k; counts = λ a. omega (arith, c a) })

  pub stolen : (r : Option T) (h new : Hand T H) (i : ℕ) (k k' : Pass T (DequeView H) Global) → new.place ≡ h.place → new.own ≡ h.own → new.list ≡ h.list → new.kept ≡ h.kept → new.keys.items ≡ set h.keys.items i k'
      → i < length h.keys.items → k ≡ slice_index_or h.keys.items i k → (view {V = DequeView H} k).home ≡ hand_home h → Gave r (view k) (view k') → Took number home_of is_ready r h new
  stolen r h new i k k' p o li ke s l at home f =
      tell r (view k) (view k') h new f home p (ap (λ w. (worker_view {V = DequeView H} w).home) o) ke
      (λ a.
      let own_put = ap (λ w. times a (worker_view {V = DequeView H} w).put) o in
      let own_got = ap (λ w. times a (worker_view {V = DequeView H} w).got) o in
      let in_list = ap (λ v. times a (map number v.items)) li in
      let put_at = total_at (λ (x : Pass T (DequeView H) Global). times a (view {V = DequeView H} x).put) h.keys.items i k k' l at in
      let got_at = total_at (λ (x : Pass T (DequeView H) Global). times a (view {V = DequeView H} x).got) h.keys.items i k k' l at in
      let put_is = ap (λ (xs : List (Pass T (DequeView H) Global)). keys_put a xs) s in
      let got_is = ap (λ (xs : List (Pass T (DequeView H) Global)). keys_got a xs) s in
      let put_same = found_put a r (view k) (view k') f in
      let got_more = found_got a r (view k) (view k') f in
      omega arith)

  pub owned : (r : Option T) (h new : Hand T H) → new.place ≡ h.place → new.keys ≡ h.keys → new.list ≡ h.list → new.kept ≡ h.kept → Gave r (own_view h) (own_view new) → Took number home_of is_ready r h new
  owned r h new p k li ke f =
      tell r (own_view h) (own_view new) h new f refl p (found_home r (own_view h) (own_view new) f) ke
      (λ a.
      let in_list = ap (λ v. times a (map number v.items)) li in
      let put_is = ap (λ v. keys_put a v.items) k in
      let got_is = ap (λ v. keys_got a v.items) k in
      let put_same = found_put a r (own_view h) (own_view new) f in
      let got_more = found_got a r (own_view h) (own_view new) f in
      omega arith)

  -- an agent was put last onto the hand's own deque
  pub put_own : (h new : Hand T H) (x : T) → Waits number home_of is_ready (hand_home h) x → new.place ≡ h.place → new.keys ≡ h.keys → new.list ≡ h.list → new.kept ≡ h.kept
      → own_view new ≡ with_put number home_of (own_view h) (x ∷ []) → Moved number h new (number x ∷ []) []
  put_own h new x w p k li ke e = record {
    place = p;
    home = ap (λ (v : DequeView H). v.home) e ∙ sym w.at;
    kept = ke;
    counts = λ a.
        (let in_list = ap (λ v. times a (map number v.items)) li in
        let put_is = ap (λ v. keys_put a v.items) k in
        let got_is = ap (λ v. keys_got a v.items) k in
        let put_more = ap (λ (v : DequeView H). times a v.put) e in
        let got_same = ap (λ (v : DequeView H). times a v.got) e in
        omega (arith, times_append a (own_view h).put (number x ∷ [])));
  }

  -- it was put into its list
  pub put_listed : (h new : Hand T H) (x y : T) → y ≡ x → new.place ≡ h.place → new.keys ≡ h.keys → new.list.items ≡ h.list.items ++ y ∷ [] → new.kept ≡ h.kept → own_view new ≡ own_view h → Moved number h new (number x ∷ []) []
  put_listed h new x y d p k li ke e = record {
    place = p;
    home = ap (λ (v : DequeView H). v.home) e;
    kept = ke;
    counts = λ a.
        (let in_list = ap (λ (l : List T). times a (map number l)) li in
        let one = ap (λ (z : T). times a (number z ∷ [])) d in
        let put_is = ap (λ v. keys_put a v.items) k in
        let got_is = ap (λ v. keys_got a v.items) k in
        let put_same = ap (λ (v : DequeView H). times a v.put) e in
        let got_same = ap (λ (v : DequeView H). times a v.got) e in
        omega (arith, times_both a number h.list.items (y ∷ [])));
  }

  -- one call after another

  pub moved_more : {a b c : Hand T H} → Moved number a b [] [] → Moved number b c [] [] → Moved number a c [] []
  moved_more m n = record { place = n.place ∙ m.place; home = n.home ∙ m.home; kept = n.kept ∙ m.kept; counts = λ x. omega (arith, m.counts x, n.counts x) }

  pub then_took : {a b : Hand T H} (r : Option T) (c : Hand T H) → Moved number a b [] [] → Took number home_of is_ready r b c → Took number home_of is_ready r a c
  then_took None c m n = moved_more m n
  then_took (Some x) c m n = (
    subst (λ (z : Option H). Waits number home_of is_ready z x) m.home n.0,
    record { place = n.1.place ∙ m.place; home = n.1.home ∙ m.home; kept = n.1.kept ∙ m.kept; counts = λ y. omega (arith, m.counts y, n.1.counts y) },
  )

  -- of a worker

  pub settled_home : (r : AgentTurned T) (old new : Hand T H) → Settled number r old new → hand_home new ≡ hand_home old
  settled_home (Again y) old new s = s.home
  settled_home (Ahead y) old new s = s.home
  settled_home (Done y) old new s = ap (λ v. (worker_view {V = DequeView H} v).home) s.own

  module _ (has_ended : T → Type 0) where
    pub working_first : (h : Hand T H) → h.list.items ≡ [] → h.kept.items ≡ [] → Working number has_ended h h
    working_first h l k = record {
      place = refl;
      home = refl;
      counts = λ a. (let e = ap (λ (l : List T). times a (map number l)) l in let f = ap (λ (l : List T). times a (map number l)) k in omega arith);
      ended = subst (Each has_ended) (sym k) tt;
    }

    pub working_gives : {i h h' h'' : Hand T H} {x y : T} → Working number has_ended i h → Moved number h h' [] (number x ∷ []) → number y ≡ number x → Moved number h' h'' (number y ∷ []) [] → Working number has_ended i h''
    working_gives {i} {h} {h'} {h''} {x} {y} w t e m = record {
      place = m.place ∙ t.place ∙ w.place;
      home = m.home ∙ t.home ∙ w.home;
      counts = λ a.
          (let one = ap (λ (n : ℕ). times a (n ∷ [])) e in
          let k = ap (λ v. times a (map number v.items)) (m.kept ∙ t.kept) in
          omega (arith, w.counts a, t.counts a, m.counts a));
      ended = subst (λ v. Each has_ended v.items) (sym (m.kept ∙ t.kept)) w.ended;
    }

    pub working_keeps : {i h h' h'' : Hand T H} {x y : T} → Working number has_ended i h → Moved number h h' [] (number x ∷ []) → number y ≡ number x → has_ended y
        → h''.place ≡ h'.place → h''.own ≡ h'.own → h''.keys ≡ h'.keys → h''.list ≡ h'.list → h''.kept.items ≡ h'.kept.items ++ y ∷ [] → Working number has_ended i h''
    working_keeps {i} {h} {h'} {h''} {x} {y} w t e d p o ks l k = record {
      place = p ∙ t.place ∙ w.place;
      home = ap (λ v. (worker_view {V = DequeView H} v).home) o ∙ t.home ∙ w.home;
      counts = λ a.
          (let one = ap (λ (n : ℕ). times a (n ∷ [])) e in
          let own_put = ap (λ v. times a (worker_view {V = DequeView H} v).put) o in
          let own_got = ap (λ v. times a (worker_view {V = DequeView H} v).got) o in
          let put_is = ap (λ v. keys_put a v.items) ks in
          let got_is = ap (λ v. keys_got a v.items) ks in
          let in_list = ap (λ v. times a (map number v.items)) l in
          let more = ap (λ (l : List T). times a (map number l)) k in
          let was = ap (λ v. times a (map number v.items)) t.kept in
          omega (arith, times_both a number h'.kept.items (y ∷ []), w.counts a, t.counts a));
      ended = subst (Each has_ended) (sym (k ∙ ap (λ v. v.items ++ y ∷ []) t.kept)) (each_append has_ended h.kept.items (y ∷ []) w.ended (d, tt));
    }

    -- the turn of one agent, whatever became of it
    pub working_settles : (r : AgentTurned T) {i h h' h'' : Hand T H} {x : T} → Working number has_ended i h → Moved number h h' [] (number x ∷ [])
        → MatchTurned r (Went number home_of is_ready x) (Went number home_of is_ready x) (Ended number has_ended x) → Settled number r h' h'' → Working number has_ended i h''
    working_settles (Again y) w t e m = working_gives w t e.same m
    working_settles (Ahead y) w t e m = working_gives w t e.same m
    working_settles (Done y) w t e m = working_keeps w t e.same e.ended m.place m.own m.keys m.list m.kept

    pub working_ends : {i h h' : Hand T H} → Working number has_ended i h → Moved number h h' [] [] → h'.list.items ≡ [] → Worked number has_ended i h'
    working_ends {i} {h} {h'} w m l = record {
      place = m.place ∙ w.place;
      home = m.home ∙ w.home;
      counts = λ a.
          (let k = ap (λ v. times a (map number v.items)) m.kept in
          let e = ap (λ (z : List T). times a (map number z)) l in
          omega (arith, w.counts a, m.counts a));
      ended = subst (λ v. Each has_ended v.items) (sym m.kept) w.ended;
      list = l;
    }
