-- The agents dealt are those that the workers kept and those that were left, each once, for any number of deques.
use Rattle.std.proofs.Common.{◌≡◌, ℕ, zero, suc, ◌+◌, ◌<◌, Option, Some, List, [], ◌∷◌, length, sym, refl, ap, ◌∙◌, subst, arith}
use Rattle.std.specs.Prelude.{map, All, slice_get, slice_index_or}
use Rattle.mas_steal_rack.specs.declared.hand.Hand.{Hand}
use Rattle.mas_steal_rack.specs.declared.hand.Rack.{Rack}
use Rattle.mas_board_lists.specs.Lists.{Each, total, times}
use Rattle.crossbeam_deque.specs.Handles.{worker_deque, stealer_deque}
use Rattle.mas_steal_rack.specs.Hands.{Both, IsHandOf, Worked, hand_home, puts_of, gets_of}
use Rattle.mas_steal_rack.specs.Racks.{first_home, all_kept, IsFresh, Dealt, IsWorked, AllWorked, Closed, Answered}
use Rattle.mas_board_lists.proofs.Sums.{each_append, each_map}
use Rattle.mas_steal_rack.proofs.Sums.{times_both}

-- in the plain words of sums: olds and news are the accounts of workers before and after, and kept is what each kept
module _ {A : Type 0} (puts gets kept : A → ℕ) where
  abbrev pub Settles : A → A → Type 0
  Settles old new = gets new + puts old ≡ gets old + puts new + kept new

  pub all_settle : (olds news : List A) → Both Settles olds news → total gets news + total puts olds ≡ total gets olds + total puts news + total kept news
  all_settle [] [] h = refl
  all_settle [] (n ∷ ns) h = absurd h
  all_settle (o ∷ os) [] h = absurd h
  all_settle (o ∷ os) (n ∷ ns) h = let t = all_settle os ns h.1 in let m = h.0 in omega arith

  -- where what was put into all deques is what was got and what is left, what was dealt is what was kept and what is left
  pub conserved : (olds news : List A) (dealt left : ℕ) → Both Settles olds news → total puts olds ≡ total gets olds + dealt → total puts news ≡ total gets news + left → dealt ≡ total kept news + left
  conserved olds news dealt left h d l = let t = all_settle olds news h in omega arith

-- what holds at each place holds of two lists as long
pub both_of_places : {A B : Type 0} (P : A → B → Type 0) (xs : List A) (ys : List B) → length xs ≡ length ys → ((i : ℕ) → i < length xs → (d : A) (e : B) → P (slice_index_or xs i d) (slice_index_or ys i e)) → Both P xs ys
both_of_places P [] [] l h = tt
both_of_places P [] (y ∷ ys) l h = absurd (omega arith)
both_of_places P (x ∷ xs) [] l h = absurd (omega arith)
both_of_places P (x ∷ xs) (y ∷ ys) l h = (h 0 (omega arith) x y, both_of_places P xs ys (omega arith) (λ i k d e. h (suc i) (omega arith) d e))

-- within a list the default does not matter
pub any_default : {A : Type 0} (xs : List A) (i : ℕ) (d e : A) → i < length xs → slice_index_or xs i d ≡ slice_index_or xs i e
any_default [] i d e l = absurd (omega arith)
any_default (x ∷ xs) zero d e l = refl
any_default (x ∷ xs) (suc i) d e l = any_default xs i d e (omega arith)

pub both_map : {A B : Type 0} (P Q : A → B → Type 0) (xs : List A) (ys : List B) → ((x : A) (y : B) → P x y → Q x y) → Both P xs ys → Both Q xs ys
both_map P Q [] [] f h = tt
both_map P Q [] (y ∷ ys) f h = h
both_map P Q (x ∷ xs) [] f h = h
both_map P Q (x ∷ xs) (y ∷ ys) f h = (f x y h.0, both_map P Q xs ys f h.1)

module _ {T H : Type 0} (number : T → ℕ) (home_of : T → H) (is_ready has_ended : T → Type 0) where
  abbrev kept_of : ℕ → Hand T H → ℕ
  kept_of a h = times a (map number h.kept.items)

  kept_total : (a : ℕ) (hs : List (Hand T H)) → total (kept_of a) hs ≡ times a (map number (all_kept hs))
  kept_total a [] = refl
  kept_total a (h ∷ hs) = let t = kept_total a hs in omega (arith, times_both a number h.kept.items (all_kept hs))

  kept_ended : (olds news : List (Hand T H)) → Both (Worked number has_ended) olds news → Each has_ended (all_kept news)
  kept_ended [] [] h = tt
  kept_ended [] (n ∷ ns) h = absurd h
  kept_ended (o ∷ os) [] h = absurd h
  kept_ended (o ∷ os) (n ∷ ns) h = each_append has_ended n.kept.items (all_kept ns) h.0.ended (kept_ended os ns h.1)

  same_some : {A : Type 0} (o : Option A) (p q : A) → o ≡ Some p → o ≡ Some q → p ≡ q
  same_some o p q d e = cc

  -- the order of the deques stays
  same_order : (rack : Rack T H) (olds news : List (Hand T H)) → Each (IsHandOf number home_of is_ready rack) olds → Each (IsHandOf number home_of is_ready rack) news → Both (Worked number has_ended) olds news
      → map (λ (h : Hand T H). worker_deque h.own) news ≡ map (λ (h : Hand T H). worker_deque h.own) olds
  same_order rack [] [] a b h = refl
  same_order rack [] (n ∷ ns) a b h = absurd h
  same_order rack (o ∷ os) [] a b h = absurd h
  same_order rack (o ∷ os) (n ∷ ns) a b h =
      let e = same_some (slice_get (map stealer_deque rack.doors.items) n.place) (worker_deque n.own) (worker_deque o.own) b.0.own (ap (λ k. slice_get (map stealer_deque rack.doors.items) k) h.0.place ∙ a.0.own) in
      let r = same_order rack os ns a.1 b.1 h.1 in λ i. e i ∷ r i

  same_homes : (home : Option H) (olds news : List (Hand T H)) → Each (λ (h : Hand T H). hand_home h ≡ home) olds → Both (Worked number has_ended) olds news → Each (λ (h : Hand T H). hand_home h ≡ home) news
  same_homes home [] [] a h = tt
  same_homes home [] (n ∷ ns) a h = absurd h
  same_homes home (o ∷ os) [] a h = absurd h
  same_homes home (o ∷ os) (n ∷ ns) a h = (h.0.home ∙ a.0, same_homes home os ns a.1 h.1)

  all_empty : (olds news : List (Hand T H)) → Both (Worked number has_ended) olds news → Each (λ (h : Hand T H). h.list.items ≡ []) news
  all_empty [] [] h = tt
  all_empty [] (n ∷ ns) h = absurd h
  all_empty (o ∷ os) [] h = absurd h
  all_empty (o ∷ os) (n ∷ ns) h = (h.0.list, all_empty os ns h.1)

  each_of_places : {A : Type 0} (P : A → Type 0) (xs : List A) → ((i : ℕ) → i < length xs → (d : A) → P (slice_index_or xs i d)) → Each P xs
  each_of_places P [] h = tt
  each_of_places P (x ∷ xs) h = (h 0 (omega arith) x, each_of_places P xs (λ i k d. h (suc i) (omega arith) d))

  pub all_of_each : {A : Type 0} (P : A → Type 0) (xs : List A) → Each P xs → All P xs
  all_of_each P [] h i d l = absurd (omega arith)
  all_of_each P (x ∷ xs) h zero d l = h.0
  all_of_each P (x ∷ xs) h (suc i) d l = all_of_each P xs h.1 i d (omega arith)

  pub all_done : (rack : Rack T H) (olds news : List (Hand T H)) → length olds ≡ length news → AllWorked number home_of is_ready has_ended rack olds news → Both (Worked number has_ended) olds news
  all_done rack olds news l w = both_of_places (Worked number has_ended) olds news l (λ i k d e. subst (λ (n : Hand T H). Worked number has_ended (slice_index_or olds i d) n) (any_default news i d e (omega arith)) (w i d k).worked)

  pub all_worked : (agents : List T) (rack : Rack T H) (olds news : List (Hand T H)) → Dealt number home_of is_ready agents rack olds → length olds ≡ length news → AllWorked number home_of is_ready has_ended rack olds news
      → IsWorked number home_of is_ready (first_home home_of agents) rack news
  all_worked agents rack olds news d l w =
      let b = all_done rack olds news l w in
      let hands = each_of_places (IsHandOf number home_of is_ready rack) news (λ i k e. subst (IsHandOf number home_of is_ready rack) (any_default news i e e k) (w i e (omega arith)).hand) in
      let was = each_map (IsFresh number home_of is_ready (first_home home_of agents) rack) (IsHandOf number home_of is_ready rack) olds (λ x f. f.hand) d.fresh in
      record {
        order = same_order rack olds news was hands b ∙ d.order;
        hands_are = hands;
        homes = same_homes (first_home home_of agents) olds news (each_map (IsFresh number home_of is_ready (first_home home_of agents) rack) (λ (h : Hand T H). hand_home h ≡ first_home home_of agents) olds (λ x f. f.home_is) d.fresh) b;
        lists = all_empty olds news b;
      }

  -- the agents dealt are those that were kept and those that were left, each once
  pub none_lost : (agents : List T) (rack : Rack T H) (olds news : List (Hand T H)) (kept left : List T) → Dealt number home_of is_ready agents rack olds → Both (Worked number has_ended) olds news → Closed number news kept left
      → (a : ℕ) → times a (map number agents) ≡ times a (map number kept) + times a (map number left)
  none_lost agents rack olds news kept left d w c a =
      let s = both_map (Worked number has_ended) (Settles (puts_of a) (gets_of a) (kept_of a)) olds news (λ o n x. x.counts a) w in
      let e = conserved (puts_of a) (gets_of a) (kept_of a) olds news (times a (map number agents)) (times a (map number left)) s (d.counts a) (c.counts a) in
      let k = kept_total a news in
      let i = ap (λ l. times a (map number l)) c.kept_is in
      omega arith

  -- with those that one worker ended in the end, each comes back once
  pub all_answered : (agents kept left answered : List T) → ((a : ℕ) → times a (map number agents) ≡ times a (map number kept) + times a (map number left))
      → ((a : ℕ) → times a (map number answered) ≡ times a (map number kept) + times a (map number left)) → Each has_ended answered → Answered number has_ended agents answered
  all_answered agents kept left answered h c e = record { once = λ a. c a ∙ sym (h a); ended = e }

  pub closed_ended : (olds news : List (Hand T H)) (kept left : List T) → Both (Worked number has_ended) olds news → Closed number news kept left → Each has_ended kept
  closed_ended olds news kept left w c = subst (Each has_ended) (sym c.kept_is) (kept_ended olds news w)
