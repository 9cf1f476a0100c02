-- A list out of which what passes a test is taken, place by place.
use Rattle.std.proofs.Common.{◌≡◌, ◌≤◌, ◌<◌, ℕ, suc, ◌+◌, ◌-◌, Bool, true, false, cond, List}
use Rattle.std.proofs.Common.{[], ◌∷◌, ◌++◌, length, remove, slice_get, eqb, Some, refl, sym, ap, ◌∙◌, arith}
use Rattle.std.proofs.lemmas.List.{length-append, append_assoc}
use Rattle.asl_intend.specs.declared.agenda.Ask.{Ask}
use Rattle.asl_intend.specs.Agendas.{without, count, passes_at, ask_of, ask_place, without_ask}

get_seam : {A : Type 0} (xs : List A) (y : A) (ys : List A) → slice_get (xs ++ y ∷ ys) (length xs) ≡ Some y
get_seam [] y ys = refl
get_seam (x ∷ xs) y ys = get_seam xs y ys

remove_seam : {A : Type 0} (xs : List A) (y : A) (ys : List A) → remove (xs ++ y ∷ ys) (length xs) ≡ xs ++ ys
remove_seam [] y ys = refl
remove_seam (x ∷ xs) y ys = ap (λ l. x ∷ l) (remove_seam xs y ys)

module _ {A : Type 0} (p : A → Bool) where
  -- the items before the place stay, and those from there on are still to be tested
  abbrev pub Sifted : List A → List A → ℕ → Type 0
  Sifted old now k = (done : List A) × (rest : List A) × (now ≡ done ++ rest) × (length done ≡ k) × (without p old ≡ done ++ without p rest)

  pub begun : (old : List A) → Sifted old old 0
  begun old = ([], old, refl, refl, refl)

  passed : (x : A) (rest : List A) → p x ≡ true → without p (x ∷ rest) ≡ without p rest
  passed x rest h = ap (λ b. cond b (without p rest) (x ∷ without p rest)) h

  failed : (x : A) (rest : List A) → p x ≡ false → without p (x ∷ rest) ≡ x ∷ without p rest
  failed x rest h = ap (λ b. cond b (without p rest) (x ∷ without p rest)) h

  tested : (now done : List A) (k : ℕ) (x : A) (rest : List A) (b : Bool) → now ≡ done ++ x ∷ rest → length done ≡ k
      → b ≡ passes_at p (slice_get now k) → p x ≡ b
  tested now done k x rest b e n h = sym (h ∙ (λ i. passes_at p (slice_get (e i) (sym n i))) ∙ ap (passes_at p) (get_seam done x rest))

  pub dropped : (old now new : List A) (k : ℕ) (b : Bool) → Sifted old now k → k < length now → b ≡ passes_at p (slice_get now k) → b ≡ true
      → new ≡ remove now k → Sifted old new k
  dropped old now new k b s l h t r = go s.0 s.1 s.2 s.3 s.4 where
    go : (done rest : List A) → now ≡ done ++ rest → length done ≡ k → without p old ≡ done ++ without p rest → Sifted old new k
    go done [] e n w = let a = ap length e in let c = length-append done [] in absurd (omega (arith, a, c, n, l))
    go done (x ∷ rest) e n w = (
      done,
      rest,
      r ∙ (λ i. remove (e i) (sym n i)) ∙ remove_seam done x rest,
      n,
      w
          ∙ ap (λ l. done ++ l) (passed x rest (tested now done k x rest b e n h ∙ t)),
    )

  pub kept : (old now : List A) (k : ℕ) (b : Bool) → Sifted old now k → k < length now → b ≡ passes_at p (slice_get now k) → b ≡ false → Sifted old now (k + 1)
  kept old now k b s l h t = go s.0 s.1 s.2 s.3 s.4 where
    go : (done rest : List A) → now ≡ done ++ rest → length done ≡ k → without p old ≡ done ++ without p rest → Sifted old now (k + 1)
    go done [] e n w = let a = ap length e in let c = length-append done [] in absurd (omega (arith, a, c, n, l))
    go done (x ∷ rest) e n w =
        let c = length-append done (x ∷ []) in (
          done ++ x ∷ [],
          rest,
          e ∙ sym (append_assoc done (x ∷ []) rest),
          omega (arith, c, n),
          w ∙ ap (λ l. done ++ l) (failed x rest (tested now done k x rest b e n h ∙ t)) ∙ sym (append_assoc done (x ∷ []) (without p rest)),
        )

  pub ended : (old now : List A) (k : ℕ) → Sifted old now k → length now ≤ k → now ≡ without p old
  ended old now k s l = go s.0 s.1 s.2 s.3 s.4 where
    go : (done rest : List A) → now ≡ done ++ rest → length done ≡ k → without p old ≡ done ++ without p rest → now ≡ without p old
    go done [] e n w = e ∙ sym w
    go done (x ∷ rest) e n w = let a = ap length e in let c = length-append done (x ∷ rest) in absurd (omega (arith, a, c, n, l))

  counts : (xs : List A) → count p xs + length (without p xs) ≡ length xs
  counts [] = refl
  counts (x ∷ xs) = go (counts xs) (p x) where
    go : count p xs + length (without p xs) ≡ length xs → (b : Bool) → cond b (1 + count p xs) (count p xs) + length (cond b (without p xs)
        (x ∷ without p xs)) ≡ suc (length xs)
    go r true = omega (arith, r)
    go r false = omega (arith, r)

  within : (old now : List A) (k : ℕ) → Sifted old now k → k ≤ length now
  within old now k s = let a = ap length s.2 in let c = length-append s.0 s.1 in let n = s.3 in omega (arith, a, c, n)

  pub counted : (old now : List A) (k all : ℕ) → Sifted old now k → length now ≤ k → all ≡ length old → all - k ≡ count p old
  counted old now k all s l e =
      let w = within old now k s in
      let f = ap length (ended old now k s l) in
      let c = counts old in omega (arith, w, f, c, e, l)

  pub enough : (old now : List A) (k all : ℕ) → Sifted old now k → length now ≤ k → all ≡ length old → k ≤ all
  enough old now k all s l e =
      let w = within old now k s in
      let f = ap length (ended old now k s l) in
      let c = counts old in omega (arith, w, f, c, e, l)

-- the place of an ask

pub ask_placed : (n : ℕ) (asks : List Ask) → slice_get asks (ask_place n asks) ≡ ask_of n asks
ask_placed n [] = refl
ask_placed n (a ∷ asks) = go (ask_placed n asks) (eqb a.number n) where
  go : slice_get asks (ask_place n asks) ≡ ask_of n asks → (b : Bool) → slice_get (a ∷ asks) (cond b 0 (suc (ask_place n asks))) ≡ cond b (Some a)
      (ask_of n asks)
  go r true = refl
  go r false = r

pub ask_removed : (n : ℕ) (asks : List Ask) → remove asks (ask_place n asks) ≡ without_ask n asks
ask_removed n [] = refl
ask_removed n (a ∷ asks) = go (ask_removed n asks) (eqb a.number n) where
  go : remove asks (ask_place n asks) ≡ without_ask n asks → (b : Bool) → remove (a ∷ asks) (cond b 0 (suc (ask_place n asks))) ≡ cond b asks
      (a ∷ without_ask n asks)
  go r true = refl
  go r false = ap (λ l. a ∷ l) r
