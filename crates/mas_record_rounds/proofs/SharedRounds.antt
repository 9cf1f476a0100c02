-- The sharers of a round, one after another.
use Rattle.std.proofs.Common.{◌≡◌, ℕ, suc, ◌+◌, ◌<◌, ◌≤◌, inl, inr, Bool, true, false, not, if◌then◌else◌, List, [], ◌∷◌, ◌++◌, length}
use Rattle.std.proofs.Common.{slice_get}
use Rattle.std.proofs.Common.{slice_set, Some, sym, refl, ap, ◌∙◌, subst, append-nil, append_assoc, length-append, arith}
use Rattle.std.proofs.Math.Seq.{set-append_seam}
use Rattle.std.proofs.lemmas.Option.{same_Some}
use Rattle.mas_board_lists.specs.Lists.{Each}
use Rattle.mas_mind.specs.Minds.{Kind}
use Rattle.mas_board.specs.Boards.{is_gone}
use Rattle.mas_record.specs.declared.deck.DeckFault.{DeckFault}
use Rattle.mas_record.specs.declared.recorder.Recorder.{Recorder}
use Rattle.mas_record.specs.Tickets.{left_torn, phase_of}
use Rattle.mas_record_rounds.specs.declared.sharer.Sharer.{Sharer}
use Rattle.mas_record_rounds.specs.Sharers.{thinking_of, Shares, Stays, SharerWent, GoesOn, IsRefused, Both, here_of, Some_of, AllWent, AllStay}

-- ---- lists

get_seam : {A : Type 0} (xs : List A) (y : A) (ys : List A) → slice_get (xs ++ y ∷ ys) (length xs) ≡ Some y
get_seam [] y ys = refl
get_seam (x ∷ xs) y ys = get_seam xs y ys

-- the first of those that are left
next_of : {A : Type 0} (xs ys : List A) → length xs < length (xs ++ ys) → (y : A) × (rest : List A) × (ys ≡ y ∷ rest)
next_of xs [] l = absurd (let n = length-append {A = _} xs [] in omega arith)
next_of xs (y ∷ ys) l = (y, ys, refl)

module _ {V A D : Type 0} where
  both_append : (P : Sharer V A D → Sharer V A D → Type 0) (xs us ys vs : List (Sharer V A D)) → Both P xs us → Both P ys vs → Both P (xs ++ ys) (us ++ vs)
  both_append P [] [] ys vs h i = i
  both_append P [] (u ∷ us) ys vs h i = absurd h
  both_append P (x ∷ xs) [] ys vs h i = absurd h
  both_append P (x ∷ xs) (u ∷ us) ys vs h i = (h.0, both_append P xs us ys vs h.1 i)

  both_map : (P Q : Sharer V A D → Sharer V A D → Type 0) (xs us : List (Sharer V A D)) → ((x u : Sharer V A D) → P x u → Q x u) → Both P xs us → Both Q xs us
  both_map P Q [] [] f h = tt
  both_map P Q [] (u ∷ us) f h = absurd h
  both_map P Q (x ∷ xs) [] f h = absurd h
  both_map P Q (x ∷ xs) (u ∷ us) f h = (f x u h.0, both_map P Q xs us f h.1)

  here_snoc : (ss : List (Sharer V A D)) (s : Sharer V A D) → here_of (ss ++ s ∷ []) ≡ (if is_gone (phase_of s.ticket) then here_of ss else 1 + here_of ss)
  here_snoc [] s = refl
  here_snoc (x ∷ ss) s =
      ap (λ (n : ℕ). if is_gone (phase_of x.ticket) then n else 1 + n) (here_snoc ss s)
      ∙ swap (is_gone (phase_of x.ticket)) (is_gone (phase_of s.ticket)) (here_of ss)
    where
      swap : (b c : Bool) (n : ℕ)
          → (if b then (if c then n else 1 + n) else 1 + (if c then n else 1 + n)) ≡ (if c then (if b then n else 1 + n) else 1 + (if b then n else 1 + n))
      swap true true n = refl
      swap true false n = refl
      swap false true n = refl
      swap false false n = refl

  some_at : (P : Sharer V A D → Type 0) (xs ys : List (Sharer V A D)) (x : Sharer V A D) → P x → Some_of P (xs ++ x ∷ ys)
  some_at P [] ys x h = inl h
  some_at P (y ∷ xs) ys x h = inr (some_at P xs ys x h)

  module _ (k : Kind V) (r : Recorder A D) where
    stays_still : (xs : List (Sharer V A D)) → Each (Shares k r) xs → Both (Stays r) xs xs
    stays_still [] h = tt
    stays_still (x ∷ xs) h = (record { ticket = h.0.ticket; number = refl; agent = refl; first = refl }, stays_still xs h.1)

    -- so many of them have made their part
    pub record Going (old now : List (Sharer V A D)) (n here : ℕ) : Type 0 where
      pub front : List (Sharer V A D)
      pub done : List (Sharer V A D)
      pub rest : List (Sharer V A D)
      pub old_is : old ≡ front ++ rest
      pub now_is : now ≡ done ++ rest
      pub count : length done ≡ n
      pub went : Both (λ s t. SharerWent k r (thinking_of s) s t) front done
      pub shares : Each (Shares k r) rest
      pub here_is : here ≡ here_of done

    both_length : (P : Sharer V A D → Sharer V A D → Type 0) (xs us : List (Sharer V A D)) → Both P xs us → length us ≡ length xs
    both_length P [] [] h = refl
    both_length P [] (u ∷ us) h = absurd h
    both_length P (x ∷ xs) [] h = absurd h
    both_length P (x ∷ xs) (u ∷ us) h = let n = both_length P xs us h.1 in omega arith

    here_most : (ss : List (Sharer V A D)) → here_of ss ≤ length ss
    here_most [] = omega arith
    here_most (s ∷ ss) = either (is_gone (phase_of s.ticket)) (here_of ss) (length ss) (here_most ss)
      where
        either : (b : Bool) (n m : ℕ) → n ≤ m → (if b then n else 1 + n) ≤ suc m
        either true n m l = omega (arith, l)
        either false n m l = omega (arith, l)

    -- as many as before, and no more than these have not left
    pub going_length : (old now : List (Sharer V A D)) (n here : ℕ) → Going old now n here → length now ≡ length old
    going_length old now n here g =
        let a = both_length (λ s t. SharerWent k r (thinking_of s) s t) g.front g.done g.went in
        let b = ap length g.old_is in
        let c = ap length g.now_is in
        let d = length-append g.front g.rest in
        let e = length-append g.done g.rest in
        omega arith

    pub going_most : (old now : List (Sharer V A D)) (n here : ℕ) → Going old now n here → here ≤ n
    going_most old now n here g = let a = here_most g.done in let b = g.here_is in let c = g.count in omega arith

    pub starts : (old : List (Sharer V A D)) → Each (Shares k r) old → Going old old 0 0
    starts old h = record { front = []; done = []; rest = old; old_is = refl; now_is = refl; count = refl; went = tt; shares = h; here_is = refl }

    -- the next one, and those behind it
    pub record Next (old now : List (Sharer V A D)) (n here : ℕ) (g : Going old now n here) (s : Sharer V A D) : Type 0 where
      pub behind : List (Sharer V A D)
      pub is : g.rest ≡ s ∷ behind

    pub next : (old now : List (Sharer V A D)) (n here : ℕ) (g : Going old now n here) (s : Sharer V A D) → n < length now → slice_get now n ≡ Some s
        → Next old now n here g s
    next old now n here g s l e =
        let m = next_of g.done g.rest (let c = g.count in let d = ap length g.now_is in omega arith) in
        let here_now : slice_get now n ≡ Some m.0 =
        ap (slice_get now) (sym g.count)
        ∙ ap (λ (x : List (Sharer V A D)). slice_get x (length g.done)) (g.now_is ∙ ap (λ (x : List (Sharer V A D)). g.done ++ x) m.2)
        ∙ get_seam g.done m.0 m.1 in
        record { behind = m.1; is = m.2 ∙ ap (λ (x : Sharer V A D). x ∷ m.1) (same_Some m.0 s (sym here_now ∙ e)) }

    pub next_shares : (old now : List (Sharer V A D)) (n here : ℕ) (g : Going old now n here) (s : Sharer V A D) → Next old now n here g s → Shares k r s
    next_shares old now n here g s x = (subst (Each (Shares k r)) x.is g.shares).0

    set_next : (old now : List (Sharer V A D)) (n here : ℕ) (g : Going old now n here) (s t : Sharer V A D) (x : Next old now n here g s)
        → slice_set now n t ≡ g.done ++ t ∷ x.behind
    set_next old now n here g s t x =
        ap (λ (j : ℕ). slice_set now j t) (sym g.count)
        ∙ ap (λ (l : List (Sharer V A D)). slice_set l (length g.done) t) (g.now_is ∙ ap (λ (l : List (Sharer V A D)). g.done ++ l) x.is)
        ∙ set-append_seam g.done s x.behind t

    -- what the answer adds
    counted : (b : Bool) (goes : Bool) (n : ℕ) → goes ≡ not b → (if goes then n + 1 else n) ≡ (if b then n else 1 + n)
    counted true goes n e = ap (λ (x : Bool). if x then n + 1 else n) e
    counted false goes n e = ap (λ (x : Bool). if x then n + 1 else n) e ∙ (omega arith)

    pub going_on : (old now : List (Sharer V A D)) (n here m : ℕ) (g : Going old now n here) (s t : Sharer V A D) (goes : Bool) → Next old now n here g s
        → GoesOn k r (thinking_of s) s t goes → m ≡ (if goes then here + 1 else here) → Going old (slice_set now n t) (n + 1) m
    going_on old now n here m g s t goes x w e = record {
      front = g.front ++ s ∷ [];
      done = g.done ++ t ∷ [];
      rest = x.behind;
      old_is = g.old_is ∙ ap (λ (l : List (Sharer V A D)). g.front ++ l) x.is ∙ sym (append_assoc g.front (s ∷ []) x.behind);
      now_is = set_next old now n here g s t x ∙ sym (append_assoc g.done (t ∷ []) x.behind);
      count = (let c = g.count in let d = length-append g.done (t ∷ []) in omega arith);
      went = both_append (λ s t. SharerWent k r (thinking_of s) s t) g.front g.done (s ∷ []) (t ∷ []) g.went (w.went, tt);
      shares = (subst (Each (Shares k r)) x.is g.shares).1;
      here_is = e ∙ ap (λ (h : ℕ). if goes then h + 1 else h) g.here_is ∙ counted (is_gone (phase_of t.ticket)) goes (here_of g.done) w.here_is ∙ sym
          (here_snoc g.done t);
    }

    no_rest : (xs ys : List (Sharer V A D)) → length (xs ++ ys) ≡ length xs → ys ≡ []
    no_rest xs [] e = refl
    no_rest xs (y ∷ ys) e = absurd (let n = length-append xs (y ∷ ys) in omega arith)

    pub all_went : (old now : List (Sharer V A D)) (n here : ℕ) → Going old now n here → n ≡ length now → AllWent k r old now here
    all_went old now n here g e =
        let none = no_rest g.done g.rest (ap length (sym g.now_is) ∙ sym e ∙ sym g.count) in
        let o : old ≡ g.front = g.old_is ∙ ap (λ (l : List (Sharer V A D)). g.front ++ l) none ∙ append-nil g.front in
        let d : now ≡ g.done = g.now_is ∙ ap (λ (l : List (Sharer V A D)). g.done ++ l) none ∙ append-nil g.done in
        record {
          each = subst (λ (p : List (Sharer V A D) × List (Sharer V A D)). Both (λ s t. SharerWent k r (thinking_of s) s t) p.0 p.1) (λ i. (sym o i, sym d i)) g.went;
          here_is = g.here_is ∙ ap here_of (sym d);
        }

    pub all_stay : (old now : List (Sharer V A D)) (n here : ℕ) (g : Going old now n here) (s t : Sharer V A D) (f : DeckFault) → Next old now n here g s
        → IsRefused r s t f → AllStay r old (slice_set now n t) f
    all_stay old now n here g s t f x h =
        let o : old ≡ g.front ++ s ∷ x.behind = g.old_is ∙ ap (λ (l : List (Sharer V A D)). g.front ++ l) x.is in
        let d = set_next old now n here g s t x in
        let front = both_map (λ s t. SharerWent k r (thinking_of s) s t) (Stays r) g.front g.done (λ s t w. w.stays) g.went in
        let rest = stays_still x.behind (subst (Each (Shares k r)) x.is g.shares).1 in
        record {
          each = subst (λ (p : List (Sharer V A D) × List (Sharer V A D)). Both (Stays r) p.0 p.1) (λ i. (sym o i, sym d i))
              (both_append (Stays r) g.front g.done (s ∷ x.behind) (t ∷ x.behind) front (h.stays, rest));
          torn = λ e. subst (Some_of (λ s. left_torn s.ticket ≡ true)) (sym d) (some_at (λ s. left_torn s.ticket ≡ true) g.done x.behind t (h.torn e));
        }
