-- Each step keeps the rule of the queue.
use Rattle.std.proofs.Common.{◌≡◌, ℕ, zero, suc, ◌+◌, ◌-◌, ◌<◌, Some, List, [], ◌∷◌, ◌++◌, length, set, drop, sym, refl, ap, ◌∙◌, subst, length-append, arith}
use Rattle.std.specs.Prelude.{slice_get}
use Rattle.crossbeam_queue.specs.Fifo.{Pushes, Pops, Forks, Merges, Learns}
use Rattle.mas_board_lists.specs.Lists.{Each, times, numbers_from}
use Rattle.mas_pool_ready.specs.declared.rule.ReadyView.{ReadyView}
use Rattle.mas_pool_ready.specs.Rule.{grown, took, gave, less, one_part, both_of, spent, numbers, CameOf, Knows, Holds, Taken, Tells, HasLast}
use Rattle.mas_board_lists.proofs.Sums.{total_set, total_snoc, at_total, two_total, all_set, all_snoc, each_append, each_map}
use Rattle.mas_board_lists.proofs.Times.{times_append}
use Rattle.mas_pool_ready.proofs.Counts.{total_only, from_snoc, few}

get_longer : {A : Type 0} (xs ys : List A) (i : ℕ) (x : A) → slice_get xs i ≡ Some x → slice_get (xs ++ ys) i ≡ Some x
get_longer [] ys i x e = cc
get_longer (z ∷ xs) ys zero x e = e
get_longer (z ∷ xs) ys (suc i) x e = get_longer xs ys i x e

get_last : {A : Type 0} (xs : List A) (x : A) (n : ℕ) → n ≡ length xs → slice_get (xs ++ x ∷ []) n ≡ Some x
get_last [] x zero e = refl
get_last [] x (suc n) e = absurd (omega arith)
get_last (z ∷ xs) x zero e = absurd (omega arith)
get_last (z ∷ xs) x (suc n) e = get_last xs x n (omega arith)

module _ {T : Type 0} (number : T → ℕ) (became : T → T → Type 0) where
  abbrev Rule : List T → List (ReadyView T) → Type 0
  Rule = Holds number became

  -- how often a view holds this number
  abbrev has : ℕ → ReadyView T → ℕ
  has a v = times a v.holds

  abbrev parts_of : ReadyView T → ℕ
  parts_of v = v.parts

  pub numbers_append : (xs ys : List T) → numbers number (xs ++ ys) ≡ numbers number xs ++ numbers number ys
  numbers_append [] ys = refl
  numbers_append (x ∷ xs) ys = ap (λ (l : List ℕ). number x ∷ l) (numbers_append xs ys)

  once_more : (a n : ℕ) → times a (numbers_from 1 n) + times a (suc n ∷ []) ≡ times a (numbers_from 1 (suc n))
  once_more a n =
      let e = ap (times a) (from_snoc 1 n) ∙ times_append a (numbers_from 1 n) ((1 + n) ∷ []) in
      let s : 1 + n ≡ suc n = omega arith in
      let d = ap (λ (k : ℕ). times a (k ∷ [])) s in
      omega arith

  came_later : (first more xs : List T) → Each (CameOf number became first) xs → Each (CameOf number became (first ++ more)) xs
  came_later first more xs h =
      each_map (CameOf number became first) (CameOf number became (first ++ more)) xs (λ x c. record {
        begun = c.begun;
        at = get_longer first more (number x - 1) c.begun c.at;
        since = c.since;
      }) h

  -- at the opening the one pass puts the items in the order of their numbers
  pub grows : (n p : ℕ) (v : ReadyView T) (x : T) → v.parts ≡ 64 → number x ≡ suc (length v.first) → became x x → Pushes Rule n p v x (λ w. w ≡ grown v x)
  grows n p v x whole e b items views room k at =
      let same = (k.knows p v at).same (omega arith) in
      let w = grown v x in
      let more : List T = x ∷ [] in
      let last : number x - 1 ≡ length k.first = (let s = ap length same in omega arith) in (
        w,
        record {
          first = k.first ++ more;
          once = λ a.
              (let t = total_set (has a) views p v w at in
              let m = ap (times a) (numbers_append items more) ∙ times_append a (numbers number items) (number x ∷ []) in
              let o = once_more a (length k.first) in
              let i : number x ≡ suc (length k.first) = (let s = ap length same in omega arith) in
              let c = ap (λ (j : ℕ). times a (j ∷ [])) i in
              let l = ap (λ (j : ℕ). times a (numbers_from 1 j)) (let d = length-append k.first more in let f : length (k.first ++ more) ≡ suc (length k.first) = omega arith in f) in
              omega (arith, k.once a));
          waits = each_append (CameOf number became (k.first ++ more)) items more (came_later k.first more items k.waits)
              (record { begun = x; at = get_last k.first x (number x - 1) last; since = b }, tt);
          parts = let t = total_set parts_of views p v w at in let c = k.parts in omega arith;
          knows = all_set (Knows number became (k.first ++ more)) views p w
              record { idle = λ z. absurd (omega arith); same = λ _. ap (λ (l : List T). l ++ more) same }
              (λ j u other d. record {
                idle = (k.knows j u d).idle;
                same = λ l. absurd (let t = two_total parts_of views p j v u (λ i. other (sym i)) at d in let c = k.parts in omega arith);
              });
        },
        refl,
      )

  pub takes : (p : ℕ) (v : ReadyView T) → 0 < v.parts → Pops Rule p v (Taken number became v)
  takes p v some_part x items views k at =
      let w = took v (number x) in
      let same = (k.knows p v at).same some_part in
      let others = λ (a : ℕ). total_set (has a) views p v w at in (
        w,
        record {
          first = k.first;
          once = λ a. (let t = others a in omega (arith, k.once a));
          waits = k.waits.1;
          parts = let t = total_set parts_of views p v w at in let c = k.parts in omega arith;
          knows = all_set (Knows number became k.first) views p w record { idle = λ z. absurd (omega arith); same = λ _. same } (λ j u _ e. k.knows j u e);
        },
        record {
          is = refl;
          came = subst (λ (l : List T). CameOf number became l x) (sym same) k.waits.0;
          few = let l = ap length same in
              let f = few w.holds 1 (length k.first) (λ a. (let m = at_total (has a) views p v at in omega (arith, k.once a))) in
              omega arith;
        },
      )

  pub puts : (n p : ℕ) (v : ReadyView T) (x : T) → 0 < v.parts → HasLast v (number x) → CameOf number became v.first x → Pushes Rule n p v x (λ w. w ≡ gave v)
  puts n p v x some_part last came items views room k at =
      let w = gave v in
      let same = (k.knows p v at).same some_part in (
        w,
        record {
          first = k.first;
          once = λ a.
              (let t = total_set (has a) views p v w at in
              let before = ap (times a) last.holds in
              let after = ap (λ (l : List ℕ). times a (drop 1 l)) last.holds in
              let more = ap (times a) (numbers_append items (x ∷ [])) ∙ times_append a (numbers number items) (number x ∷ []) in
              omega (arith, k.once a));
          waits = each_append (CameOf number became k.first) items (x ∷ []) k.waits (subst (λ (l : List T). CameOf number became l x) same came, tt);
          parts = let t = total_set parts_of views p v w at in let c = k.parts in omega arith;
          knows = all_set (Knows number became k.first) views p w record { idle = λ z. absurd (omega arith); same = λ _. same } (λ j u _ e. k.knows j u e);
        },
        refl,
      )

  pub tells : (p : ℕ) (v : ReadyView T) → Learns Rule p v (Tells number became v)
  tells p v items views k at whole a =
      let c = k.parts in
      let o = total_only (has a) parts_of views p v (λ j u e z. ap (times a) ((k.knows j u e).idle z)) at (omega arith) in
      let n = ap (λ (l : List T). times a (numbers_from 1 (length l))) ((k.knows p v at).same (omega arith)) in
      omega (arith, k.once a)

  pub forks : (p : ℕ) (v : ReadyView T) → 1 < v.parts → Forks Rule p v (less v) (one_part v)
  forks p v two items views k at =
      let same = (k.knows p v at).same (omega arith) in
      record {
        first = k.first;
        once = λ a. (let t = total_set (has a) views p v (less v) at in let u = total_snoc (has a) (set views p (less v)) (one_part v) in omega (arith, k.once a));
        waits = k.waits;
        parts = let t = total_set parts_of views p v (less v) at in let u = total_snoc parts_of (set views p (less v)) (one_part v) in let c = k.parts in omega arith;
        knows = all_snoc (Knows number became k.first) (set views p (less v)) (one_part v) record { idle = λ z. refl; same = λ _. same }
            (all_set (Knows number became k.first) views p (less v) record { idle = λ z. absurd (omega arith); same = λ _. same } (λ j u _ e. k.knows j u e));
      }

  pub merges : (p : ℕ) (v : ReadyView T) (q : ℕ) (w : ReadyView T) → 0 < v.parts → Merges Rule p v q w (both_of v w) spent
  merges p v q w some_part items views k at two at' =
      let same = (k.knows p v at).same some_part in
      let both = both_of v w in
      record {
        first = k.first;
        once = λ a.
            (let t = total_set (has a) views p v both at in
            let u = total_set (has a) (set views p both) q w spent at' in
            let c = times_append a v.holds w.holds in
            omega (arith, k.once a));
        waits = k.waits;
        parts = let t = total_set parts_of views p v both at in let u = total_set parts_of (set views p both) q w spent at' in let c = k.parts in omega arith;
        knows = all_set (Knows number became k.first) (set views p both) q spent record { idle = λ z. refl; same = λ l. absurd (omega arith) }
            (λ j u _ e. all_set (Knows number became k.first) views p both record { idle = λ z. absurd (omega arith); same = λ _. same } (λ j u _ e. k.knows j u e) j u e);
      }

  -- ---- as the calls need them

  pub takes_open : (p : ℕ) (v : ReadyView T) → 0 < v.parts → Pops Rule p v (Taken number became v) × Learns Rule p v (Tells number became v)
  takes_open p v o = (takes p v o, tells p v)

  pub grows_again : (n p : ℕ) (u v : ReadyView T) (x y : T) → u ≡ v → x ≡ y → v.parts ≡ 64 → number y ≡ suc (length v.first) → became y y → Pushes Rule n p u x (λ w. w ≡ grown u x)
  grows_again n p u v x y e d whole i b =
      subst (λ (t : ReadyView T × T). Pushes Rule n p t.0 t.1 (λ w. w ≡ grown t.0 t.1)) (λ j. (sym e j, sym d j)) (grows n p v y whole i b)

  pub puts_again : (n p : ℕ) (u v : ReadyView T) (x y : T) → u ≡ v → x ≡ y → 0 < v.parts → HasLast v (number y) → CameOf number became v.first y → Pushes Rule n p u x (λ w. w ≡ gave u)
  puts_again n p u v x y e d o l c =
      subst (λ (t : ReadyView T × T). Pushes Rule n p t.0 t.1 (λ w. w ≡ gave t.0)) (λ i. (sym e i, sym d i)) (puts n p v y o l c)
