-- From the hands of all workers to the deques with all parts.
use Rattle.std.proofs.Common.{Global, ◌≡◌, ℕ, suc, ◌+◌, ◌≤◌, Option, List, [], ◌∷◌, length, sym, refl, ap, ◌∙◌, subst, arith}
use Rattle.std.specs.Prelude.{map, IsSome}
use Rattle.std.specs.declared.vec.Vec.{Vec}
use Rattle.crossbeam_deque.specs.declared.handles.Worker.{Worker}
use Rattle.crossbeam_deque.specs.declared.handles.Stealer.{Stealer}
use Rattle.crossbeam_deque.specs.Handles.{Pass, IsPassOf, worker_deque, stealer_deque, worker_view}
use Rattle.mas_steal_rack.specs.declared.rule.DequeView.{DequeView}
use Rattle.mas_steal_rack.specs.declared.rule.DequeRule.{DequeRule}
use Rattle.mas_steal_rack.specs.declared.hand.Hand.{Hand}
use Rattle.mas_steal_rack.specs.declared.hand.Rack.{Rack}
use Rattle.mas_board_lists.specs.Lists.{Each, total}
use Rattle.mas_steal_rack.specs.Rule.{whole}
use Rattle.mas_steal_rack.specs.Hands.{Both, IsKeyOf, IsHandOf, hand_home, keys_put, keys_got, puts_of, gets_of}
use Rattle.mas_steal_rack.specs.Racks.{all_kept, IsWorked, Closed}
use Rattle.mas_board_lists.proofs.Sums.{each_map}
use Rattle.mas_steal_thieves.specs.Closing.{Beside, IsOpenOwner, IsWhole, Fit, AllFit, SameOwners, JoinsAll, owners_put, owners_got, owners_parts, keys_parts, DrainsAll}

map_both : {A B C : Type 0} (g : B → C) (f : A → B) (xs : List A) → map g (map f xs) ≡ map (λ x. g (f x)) xs
map_both g f [] = refl
map_both g f (x ∷ xs) = ap (λ l. g (f x) ∷ l) (map_both g f xs)

map_length : {A B : Type 0} (f : A → B) (xs : List A) → length (map f xs) ≡ length xs
map_length f [] = refl
map_length f (x ∷ xs) = ap suc (map_length f xs)

-- as many numbers that are at most w, and add up to as many times w, are all w
module _ {A : Type 0} (f : A → ℕ) (w : ℕ) where
  below : (xs : List A) → Each (λ x. f x ≤ w) xs → total f xs ≤ total (λ x. w) xs
  below [] h = omega arith
  below (x ∷ xs) h = let l = below xs h.1 in let m = h.0 in omega arith

  pub all_full : (xs : List A) → Each (λ x. f x ≤ w) xs → total f xs ≡ total (λ x. w) xs → Each (λ x. f x ≡ w) xs
  all_full [] h e = tt
  all_full (x ∷ xs) h e = let l = below xs h.1 in let m = h.0 in (omega arith, all_full xs h.1 (omega arith))

constant : {A B : Type 0} (w : ℕ) (xs : List A) (ys : List B) → length xs ≡ length ys → total (λ x. w) xs ≡ total (λ y. w) ys
constant w [] [] e = refl
constant w [] (y ∷ ys) e = absurd (omega arith)
constant w (x ∷ xs) [] e = absurd (omega arith)
constant w (x ∷ xs) (y ∷ ys) e = let k = constant w xs ys (omega arith) in omega arith

each_both : {A : Type 0} (P Q R : A → Type 0) (xs : List A) → ((x : A) → P x → Q x → R x) → Each P xs → Each Q xs → Each R xs
each_both P Q R [] f a b = tt
each_both P Q R (x ∷ xs) f a b = (f x a.0 b.0, each_both P Q R xs f a.1 b.1)

each_on : {A B : Type 0} (P : B → Type 0) (f : A → B) (xs : List A) → Each (λ x. P (f x)) xs → Each P (map f xs)
each_on P f [] h = tt
each_on P f (x ∷ xs) h = (h.0, each_on P f xs h.1)

each_off : {A B : Type 0} (P : B → Type 0) (f : A → B) (xs : List A) → Each P (map f xs) → Each (λ x. P (f x)) xs
each_off P f [] h = tt
each_off P f (x ∷ xs) h = (h.0, each_off P f xs h.1)

module _ {T H A P : Type 0} (home : Option H) where
  keys_fit : (doors : List (Stealer T A (DequeView H) P)) (keys : List (Pass T (DequeView H) A)) → Both (IsKeyOf home) doors keys → Beside (λ d (k : Pass T (DequeView H) A). IsPassOf d k) (map stealer_deque doors) keys
  keys_fit doors [] h = tt
  keys_fit [] (k ∷ ks) h = absurd h
  keys_fit (d ∷ ds) (k ∷ ks) h = (h.0.door_is, keys_fit ds ks h.1)

  keys_whole : (doors : List (Stealer T A (DequeView H) P)) (keys : List (Pass T (DequeView H) A)) → Both (IsKeyOf home) doors keys → keys_parts keys ≡ length doors
  keys_whole [] [] h = refl
  keys_whole (d ∷ ds) [] h = absurd h
  keys_whole [] (k ∷ ks) h = absurd h
  keys_whole (d ∷ ds) (k ∷ ks) h = let r = keys_whole ds ks h.1 in let p = h.0.parts in omega arith

module _ {T H : Type 0} (number : T → ℕ) (home_of : T → H) (is_ready : T → Type 0) where
  pub hands_open : (rack : Rack T H) (hands : List (Hand T H)) → Each (IsHandOf number home_of is_ready rack) hands → Each (λ own. IsOpenOwner own) (map (λ (h : Hand T H). h.own) hands)
  hands_open rack hands h = each_on (λ own. IsOpenOwner own) (λ (x : Hand T H). x.own) hands
      (each_map (IsHandOf number home_of is_ready rack) (λ (x : Hand T H). IsOpenOwner x.own) hands
      (λ x k. let p = k.parts in let f = k.few in record { fifo = k.fifo; opened = record { begun = k.begun; parts = omega arith }; most = omega arith }) h)

  pub hands_fit : (home : Option H) (rack : Rack T H) (hands : List (Hand T H)) → IsWorked number home_of is_ready home rack hands → AllFit (map (λ (h : Hand T H). h.own) hands) (map (λ (h : Hand T H). h.keys) hands)
  hands_fit home rack hands w =
      let ids = map_both worker_deque (λ (h : Hand T H). h.own) hands ∙ w.order in
      each_on (λ r. Fit (map (λ (h : Hand T H). h.own) hands) r.items) (λ (h : Hand T H). h.keys) hands
      (each_map (IsHandOf number home_of is_ready rack) (λ (h : Hand T H). Fit (map (λ (h : Hand T H). h.own) hands) h.keys.items) hands
      (λ x k. subst (λ ds. Beside (λ d key. IsPassOf d key) ds x.keys.items) (sym ids) (keys_fit (hand_home x) rack.doors.items x.keys.items k.keys)) w.hands_are)

  put_all : (a : ℕ) (hands : List (Hand T H)) → owners_put a (map (λ (h : Hand T H). h.own) hands) + total (λ r. keys_put a r.items) (map (λ (h : Hand T H). h.keys) hands) ≡ total (puts_of a) hands
  put_all a [] = refl
  put_all a (h ∷ hs) = let r = put_all a hs in omega arith

  got_all : (a : ℕ) (hands : List (Hand T H)) → owners_got a (map (λ (h : Hand T H). h.own) hands) + total (λ r. keys_got a r.items) (map (λ (h : Hand T H). h.keys) hands) ≡ total (gets_of a) hands
  got_all a [] = refl
  got_all a (h ∷ hs) = let r = got_all a hs in omega arith

  parts_all : (rack : Rack T H) (hands : List (Hand T H)) → Each (IsHandOf number home_of is_ready rack) hands
      → owners_parts (map (λ (h : Hand T H). h.own) hands) + total (λ r. keys_parts r.items) (map (λ (h : Hand T H). h.keys) hands) ≡ total (λ (h : Hand T H). whole) hands
  parts_all rack [] k = refl
  parts_all rack (h ∷ hs) k = let r = parts_all rack hs k.1 in let p = k.0.parts in let q = keys_whole (hand_home h) rack.doors.items h.keys.items k.0.keys in omega arith

  -- of a list of owners with the same homes as these hands
  homes_are : (home : Option H) (hands : List (Hand T H)) → Each (λ (h : Hand T H). hand_home h ≡ home) hands → Each (λ z. z ≡ home) (map (λ w. (worker_view {V = DequeView H} w).home) (map (λ (h : Hand T H). h.own) hands))
  homes_are home [] k = tt
  homes_are home (h ∷ hs) k = (k.0, homes_are home hs k.1)

module _ {T H A P : Type 0} (home : Option H) where
  -- owners with at most all parts each, which add up to all parts for each, have all parts
  pub owners_whole : (olds news : List (Worker T A (DequeView H) P)) → Each (λ z. z ≡ home) (map (λ (w : Worker T A (DequeView H) P). (worker_view w).home) olds) → SameOwners olds news
      → owners_parts news ≡ total (λ (w : Worker T A (DequeView H) P). whole) olds → Each (λ (w : Worker T A (DequeView H) P). IsWhole home w) news
  owners_whole olds news homes same parts =
      let Own : Type 0 = Worker T A (DequeView H) P in
      let few = each_map (λ (w : Own). IsOpenOwner w) (λ (w : Own). (worker_view w).parts ≤ whole) news (λ w o. o.most) same.are_open in
      let l = sym (map_length (λ (w : Own). worker_deque w) olds) ∙ ap (λ ds. length ds) (sym same.deques) ∙ map_length (λ (w : Own). worker_deque w) news in
      let full = all_full (λ (w : Own). (worker_view w).parts) whole news few (parts ∙ constant whole olds news l) in
      let at_home = each_off (λ z. z ≡ home) (λ (w : Own). (worker_view w).home) news (subst (λ zs. Each (λ z. z ≡ home) zs) (sym same.homes) homes) in
      let both = each_both (λ (w : Own). (worker_view w).parts ≡ whole) (λ (w : Own). (worker_view w).home ≡ home) (λ (w : Own). ((worker_view w).parts ≡ whole) × ((worker_view w).home ≡ home)) news (λ w p q. (p, q)) full at_home in
      each_both (λ (w : Own). IsOpenOwner w) (λ (w : Own). ((worker_view w).parts ≡ whole) × ((worker_view w).home ≡ home)) (λ (w : Own). IsWhole home w) news
      (λ w o p. record { fifo = o.fifo; home_is = p.1; begun = subst (λ (z : Option H). IsSome z) p.1 o.opened.begun; parts = p.0 }) same.are_open both

module _ {T H : Type 0} (number : T → ℕ) (home_of : T → H) (is_ready : T → Type 0) where
  constant_map : {A B : Type 0} (w : ℕ) (f : A → B) (xs : List A) → total (λ (y : B). w) (map f xs) ≡ total (λ (x : A). w) xs
  constant_map w f [] = refl
  constant_map w f (x ∷ xs) = let r = constant_map w f xs in omega arith

  -- as the calls need them

  pub all_whole : (home : Option H) (rack : Rack T H) (hands : List (Hand T H)) (owners : List (Worker T Global (DequeView H) (DequeRule T))) (rows : List (Vec (Pass T (DequeView H) Global) Global)) (news : List (Worker T Global (DequeView H) (DequeRule T))) → IsWorked number home_of is_ready home rack hands
      → owners ≡ map (λ (h : Hand T H). h.own) hands → rows ≡ map (λ (h : Hand T H). h.keys) hands → JoinsAll owners rows news → Each (λ own. IsWhole home own) news
  all_whole home rack hands owners rows news w e f j =
      let k = subst (λ (t : List (Worker T Global (DequeView H) (DequeRule T)) × List (Vec (Pass T (DequeView H) Global) Global)). JoinsAll t.0 t.1 news) (λ i. (e i, f i)) j in
      let p = parts_all number home_of is_ready rack hands w.hands_are in
      let c = constant_map whole (λ (h : Hand T H). h.own) hands in
      let q = k.parts in
      owners_whole home (map (λ (h : Hand T H). h.own) hands) news (homes_are number home_of is_ready home hands w.homes) k.same (omega arith)

  pub all_closed : (hands : List (Hand T H)) (owners : List (Worker T Global (DequeView H) (DequeRule T))) (rows : List (Vec (Pass T (DequeView H) Global) Global)) (news : List (Worker T Global (DequeView H) (DequeRule T))) (kept left : List T) → owners ≡ map (λ (h : Hand T H). h.own) hands → rows ≡ map (λ (h : Hand T H). h.keys) hands
      → kept ≡ all_kept hands → JoinsAll owners rows news → DrainsAll number news left → Closed number hands kept left
  all_closed hands owners rows news kept left e f g j d =
      let k = subst (λ (t : List (Worker T Global (DequeView H) (DequeRule T)) × List (Vec (Pass T (DequeView H) Global) Global)). JoinsAll t.0 t.1 news) (λ i. (e i, f i)) j in
      record {
        kept_is = g;
        counts = λ a.
            (let p = put_all number home_of is_ready a hands in
            let q = got_all number home_of is_ready a hands in
            omega (arith, k.put a, k.got a, d a));
      }
