-- Each step keeps the rule of a deque of agents.
use Rattle.std.proofs.Common.{true≢false, ◌≡◌, ℕ, zero, suc, ◌+◌, ◌<◌, ◌≤◌, Option, Some, List, [], ◌∷◌, ◌++◌, length, set, sym, refl, ap, ◌∙◌, subst, ⊎_elim, inr, arith}
use Rattle.std.specs.Prelude.{map, min, IsSome}
use mathlib.Core.Option.{some, some-injective, some-ne-none}
use lib.ListN.{get_elem?}
use Rattle.crossbeam_deque.specs.Tasks.{Pushes, Takes, Finds, FindsFew, Forks, Merges, Learns}
use Rattle.mas_steal_rack.specs.declared.rule.DequeView.{DequeView}
use Rattle.mas_board_lists.specs.Lists.{Each, Every, times}
use Rattle.mas_steal_rack.specs.Rule.{whole, blank, spent, less, one_part, both_of, IsDry, IsOpen, Waits, with_put, with_got, Taken, Fits, Opened, Holds}
use Rattle.mas_board_lists.proofs.Sums.{at_total, total_set, total_snoc, all_set, all_snoc, each_append, each_map, each_left}
use Rattle.mas_board_lists.proofs.Times.{times_append}
use Rattle.mas_pool_ready.proofs.Counts.{total_only, each_right}
use Rattle.mas_steal_rack.proofs.Sums.{times_both, each_counted}

module _ {T H : Type 0} (number : T → ℕ) (home_of : T → H) (is_ready : T → Type 0) where
  abbrev Rule : List T → List (DequeView H) → Type 0
  Rule = Holds number home_of is_ready

  only_blank : (p : ℕ) (v : DequeView H) → get_elem? (blank ∷ []) p ≡ some v → (p ≡ 0) × (blank ≡ v)
  only_blank zero v d = (refl, some-injective blank v d)
  only_blank (suc p) v d = absurd (some-ne-none v (sym d))

  first_view : (views : List (DequeView H)) (p : ℕ) (v : DequeView H) → views ≡ blank ∷ [] → get_elem? views p ≡ some v → (p ≡ 0) × (blank ≡ v)
  first_view views p v e at = only_blank p v (ap (λ (l : List (DequeView H)). get_elem? l p) (sym e) ∙ at)

  -- a deque with an open pass was opened
  opened : (items : List T) (views : List (DequeView H)) (p : ℕ) (v : DequeView H) → IsOpen v → Rule items views → get_elem? views p ≡ some v → Opened number home_of is_ready items views
  opened items views p v o h at =
      ⊎_elim (λ (e : (items ≡ []) × (views ≡ blank ∷ [])). subst (λ (u : DequeView H). IsSome u.home → Opened number home_of is_ready items views) (first_view views p v e.1 at).1 (λ z. absurd (true≢false (sym z))) o.begun) (λ k. k) h

  pub puts : (p : ℕ) (v : DequeView H) (x : T) → IsOpen v → Waits number home_of is_ready v.home x → Pushes Rule p v (x ∷ []) (λ w. w ≡ with_put number home_of v (x ∷ []))
  puts p v x o new items views h at =
      let k = opened items views p v o h at in
      let same = (k.fits p v at).same o.parts in
      let w = with_put number home_of v (x ∷ []) in
      let some_part = o.parts in (
        w,
        inr record {
          home = k.home;
          begun = k.begun;
          counts = λ a.
              (let s = total_set (λ (u : DequeView H). times a u.put) views p v w at in
              let t = total_set (λ (u : DequeView H). times a u.got) views p v w at in
              let m = times_append a v.put (map number (x ∷ [])) in
              let n = times_both a number items (x ∷ []) in
              omega (arith, k.counts a));
          waits = each_append (Waits number home_of is_ready k.home) items (x ∷ []) k.waits (subst (λ (z : Option H). Waits number home_of is_ready z x) same new, tt);
          parts = let s = total_set (λ (u : DequeView H). u.parts) views p v w at in let c = k.parts in omega arith;
          fits = all_set (Fits number home_of is_ready k.home) views p w record { spent = λ z. absurd (omega arith); same = λ _. sym new.at ∙ same } (λ j u _ e. k.fits j u e);
        },
        refl,
      )

  -- what a pass with all parts knows
  whole_puts : (items : List T) (views : List (DequeView H)) (p : ℕ) (v : DequeView H) → (k : Opened number home_of is_ready items views) → v.parts ≡ whole → get_elem? views p ≡ some v → (a : ℕ) → times a v.put ≡ times a v.got + times a (map number items)
  whole_puts items views p v k all at a =
      let c = k.parts in
      let put = total_only (λ (u : DequeView H). times a u.put) (λ (u : DequeView H). u.parts) views p v (λ j u e z. ap (times a) ((k.fits j u e).spent z).0) at (omega arith) in
      let got = total_only (λ (u : DequeView H). times a u.got) (λ (u : DequeView H). u.parts) views p v (λ j u e z. ap (times a) ((k.fits j u e).spent z).1) at (omega arith) in
      omega (arith, k.counts a)

  pub takes : (p : ℕ) (v : DequeView H) (most : ℕ) → IsOpen v → Takes Rule p v most (Taken number home_of is_ready v)
  takes p v most o xs items views one few h at =
      let k = opened (xs ++ items) views p v o h at in
      let same = (k.fits p v at).same o.parts in
      let w = with_got number v xs in
      let some_part = o.parts in (
        w,
        inr record {
          home = k.home;
          begun = k.begun;
          counts = λ a.
              (let s = total_set (λ (u : DequeView H). times a u.put) views p v w at in
              let t = total_set (λ (u : DequeView H). times a u.got) views p v w at in
              let m = times_append a v.got (map number xs) in
              let n = times_both a number xs items in
              omega (arith, k.counts a));
          waits = each_right (Waits number home_of is_ready k.home) xs items k.waits;
          parts = let s = total_set (λ (u : DequeView H). u.parts) views p v w at in let c = k.parts in omega arith;
          fits = all_set (Fits number home_of is_ready k.home) views p w record { spent = λ z. absurd (omega arith); same = λ _. same } (λ j u _ e. k.fits j u e);
        },
        record {
          is = refl;
          waits = subst (λ (z : Option H). Each (Waits number home_of is_ready z) xs) (sym same) (each_left (Waits number home_of is_ready k.home) xs items k.waits);
          known = λ all. each_map (λ x. 0 < times (number x) (map number xs)) (λ x. times (number x) v.got < times (number x) v.put) xs
              (λ x c.
              let s = whole_puts (xs ++ items) views p v k all at (number x) in
              let n = times_both (number x) number xs items in
              omega arith)
              (each_counted number xs);
        },
      )

  pub dries : (p : ℕ) (v : DequeView H) → IsOpen v → Finds Rule p v (IsDry v)
  dries p v o views h at all a = let k = opened [] views p v o h at in omega (arith, whole_puts [] views p v k all at a)

  few_dry : (p : ℕ) (v : DequeView H) → IsOpen v → (items : List T) (views : List (DequeView H)) → length items ≤ 0 → Rule items views → get_elem? views p ≡ some v → IsDry v
  few_dry p v o [] views l h at = dries p v o views h at
  few_dry p v o (x ∷ xs) views l h at = absurd (omega arith)

  pub dries_few : (p : ℕ) (v : DequeView H) (most : ℕ) → most ≡ 0 → IsOpen v → FindsFew Rule most p v (IsDry v)
  dries_few p v most e o items views l h at = few_dry p v o items views (omega arith) h at

  pub forks : (p : ℕ) (v : DequeView H) → IsSome v.home → 1 < v.parts → Forks Rule p v (less v) (one_part v)
  forks p v e two items views h at =
      let o : IsOpen v = record { begun = e; parts = omega arith } in
      let k = opened items views p v o h at in
      let same = (k.fits p v at).same o.parts in
      inr record {
        home = k.home;
        begun = k.begun;
        counts = λ a.
            (let s = total_set (λ (u : DequeView H). times a u.put) views p v (less v) at in
            let t = total_set (λ (u : DequeView H). times a u.got) views p v (less v) at in
            let m = total_snoc (λ (u : DequeView H). times a u.put) (set views p (less v)) (one_part v) in
            let n = total_snoc (λ (u : DequeView H). times a u.got) (set views p (less v)) (one_part v) in
            omega (arith, k.counts a));
        waits = k.waits;
        parts = let s = total_set (λ (u : DequeView H). u.parts) views p v (less v) at in let t = total_snoc (λ (u : DequeView H). u.parts) (set views p (less v)) (one_part v) in let c = k.parts in omega arith;
        fits = all_snoc (Fits number home_of is_ready k.home) (set views p (less v)) (one_part v) record { spent = λ z. absurd (omega arith); same = λ _. same }
            (all_set (Fits number home_of is_ready k.home) views p (less v) record { spent = λ z. absurd (omega arith); same = λ _. same } (λ j u _ e. k.fits j u e));
      }

  pub merges : (p : ℕ) (v : DequeView H) (q : ℕ) (w : DequeView H) → IsOpen v → Merges Rule p v q w (both_of v w) spent
  merges p v q w o items views h at two at' =
      let k = opened items views p v o h at in
      let some_part = o.parts in
      let same = (k.fits p v at).same some_part in
      let both = both_of v w in
      inr record {
        home = k.home;
        begun = k.begun;
        counts = λ a.
            (let s = total_set (λ (u : DequeView H). times a u.put) views p v both at in
            let t = total_set (λ (u : DequeView H). times a u.got) views p v both at in
            let s' = total_set (λ (u : DequeView H). times a u.put) (set views p both) q w spent at' in
            let t' = total_set (λ (u : DequeView H). times a u.got) (set views p both) q w spent at' in
            let m = times_append a v.put w.put in
            let n = times_append a v.got w.got in
            omega (arith, k.counts a));
        waits = k.waits;
        parts = let s = total_set (λ (u : DequeView H). u.parts) views p v both at in let t = total_set (λ (u : DequeView H). u.parts) (set views p both) q w spent at' in let c = k.parts in omega arith;
        fits = all_set (Fits number home_of is_ready k.home) (set views p both) q spent record { spent = λ z. (refl, refl); same = λ l. absurd (omega arith) }
            (λ j u _ e. all_set (Fits number home_of is_ready k.home) views p both record { spent = λ z. absurd (omega arith); same = λ _. same } (λ j u _ e. k.fits j u e) j u e);
      }

  -- the first put opens a blank deque
  set_first : (views : List (DequeView H)) (p : ℕ) (w : DequeView H) → views ≡ blank ∷ [] → p ≡ 0 → set views p w ≡ w ∷ []
  set_first views p w e z = ap (λ (l : List (DequeView H)). set l p w) e ∙ ap (λ (k : ℕ). set (blank ∷ []) k w) z

  one_fits : (b : Option H) (w : DequeView H) → w.parts ≡ whole → w.home ≡ b → Every (Fits number home_of is_ready b) (w ∷ [])
  one_fits b w l e zero v at = subst (Fits number home_of is_ready b) (some-injective w v at) record { spent = λ z. absurd (omega arith); same = λ _. e }
  one_fits b w l e (suc p) v at = absurd (some-ne-none v (sym at))

  begun : (x : T) → is_ready x → Opened number home_of is_ready (x ∷ []) (with_put number home_of blank (x ∷ []) ∷ [])
  begun x r = record {
    home = Some (home_of x);
    begun = refl;
    counts = λ a. omega arith;
    waits = (record { at = refl; ready = r }, tt);
    parts = refl;
    fits = one_fits (Some (home_of x)) (with_put number home_of blank (x ∷ [])) refl refl;
  }

  pub opens : (p : ℕ) (v : DequeView H) (x : T) → v ≡ blank → is_ready x → Pushes Rule p v (x ∷ []) (λ w. w ≡ with_put number home_of v (x ∷ []))
  opens p v x e r items views h at = (
    with_put number home_of v (x ∷ []),
    inr (
        ⊎_elim
        (λ (d : (items ≡ []) × (views ≡ blank ∷ [])).
        let i = first_view views p v d.1 at in
        subst (λ (t : List T × List (DequeView H)). Opened number home_of is_ready t.0 t.1)
        (λ j. (ap (λ (y : List T). y ++ x ∷ []) (sym d.0) j, (ap (λ (u : DequeView H). with_put number home_of u (x ∷ []) ∷ []) (sym e) ∙ sym (set_first views p (with_put number home_of v (x ∷ [])) d.1 i.0)) j))
        (begun x r))
        (λ k. absurd (subst (λ (z : Option H). IsSome z → ⊥) (ap (λ (u : DequeView H). u.home) (sym e) ∙ (k.fits p v at).same (let c = ap (λ (u : DequeView H). u.parts) e in omega arith)) (λ z. true≢false (sym z)) k.begun))
        h
        ),
    refl,
  )

  pub bounds : (p : ℕ) (v : DequeView H) → Learns Rule p v (λ items. v.parts ≤ whole)
  bounds p v items views h at =
      ⊎_elim (λ (e : (items ≡ []) × (views ≡ blank ∷ [])). let i = ap (λ (u : DequeView H). u.parts) (first_view views p v e.1 at).1 in omega arith)
      (λ k. let l = at_total (λ (u : DequeView H). u.parts) views p v at in let c = k.parts in omega arith) h

-- as the calls need them

pub same_open : {H : Type 0} {v w : DequeView H} → w ≡ v → IsOpen v → IsOpen w
same_open e o = subst IsOpen (sym e) o

pub few : {n : ℕ} → n ≡ 0 → min n 1 ≡ 0
few {n} e = subst (λ (k : ℕ). min k 1 ≡ 0) (sym e) refl
