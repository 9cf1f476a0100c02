-- What is left of a write or a cut behind a known front.
use Rattle.std.proofs.Common.{◌≡◌, ◌≤◌, ℕ, zero, suc, ◌+◌, ◌-◌, List, [], ◌∷◌, ◌++◌, length, get_or, take, drop, sym, ◌∙◌, ap, arith, append_assoc, length-append, length-drop, take-append-drop}
use Rattle.std.proofs.lemmas.List.{take_at, drop_at, drop_more, take_all, drop_all, append-nil}
use Rattle.mas_record_disk.specs.Disk.{written, IsTorn, IsCutTo}

take_past : (xs ys : List ℕ) (m n : ℕ) → m ≡ length xs + n → take m (xs ++ ys) ≡ xs ++ take n ys
take_past [] ys m n is = let same : m ≡ n = omega arith in ap (λ (k : ℕ). take k ys) same
take_past (x ∷ xs) ys zero n is = absurd (omega arith)
take_past (x ∷ xs) ys (suc m) n is = ap (λ (l : List ℕ). x ∷ l) (take_past xs ys m n (omega arith))

module _ (front : List ℕ) (m : ℕ) (is_long : length front ≡ m) where
  long_one : (b : ℕ) → length (front ++ b ∷ []) ≡ m + 1
  long_one b = omega (arith, is_long, length-append front (b ∷ []))

  -- whatever is written behind the byte that follows, that byte stays
  pub torn_behind : (b n : ℕ) (c : List ℕ) → IsTorn (m + 1) n (front ++ b ∷ []) c → c ≡ front ++ b ∷ drop (m + 1) c
  torn_behind b n c torn =
      let start : take (m + 1) c ≡ front ++ b ∷ [] = torn.before ∙ take_all _ _ (omega (arith, long_one b)) in
      sym (take-append-drop (m + 1) c) ∙ ap (λ (l : List ℕ). l ++ drop (m + 1) c) start ∙ append_assoc front (b ∷ []) (drop (m + 1) c)

  pub written_behind : (b : ℕ) (bytes : List ℕ) → written (m + 1) bytes (front ++ b ∷ []) ≡ front ++ b ∷ bytes
  written_behind b bytes =
      ap (λ (l : List ℕ). l ++ bytes ++ drop (m + 1 + length bytes) (front ++ b ∷ [])) (take_all (m + 1) (front ++ b ∷ []) (omega (arith, long_one b)))
      ∙ ap (λ (l : List ℕ). (front ++ b ∷ []) ++ bytes ++ l) (drop_all (m + 1 + length bytes) (front ++ b ∷ []) (omega (arith, long_one b)))
      ∙ append-nil ((front ++ b ∷ []) ++ bytes)
      ∙ append_assoc front (b ∷ []) bytes

  back : (b : ℕ) (rest : List ℕ) → drop (m + 1) (front ++ b ∷ rest) ≡ rest
  back b rest = ap (λ (l : List ℕ). drop (m + 1) l) (sym (append_assoc front (b ∷ []) rest)) ∙ drop_at (front ++ b ∷ []) rest (m + 1) (long_one b)

  -- one byte is written over; what stands behind it stays
  pub torn_at : (b : ℕ) (rest c : List ℕ) → IsTorn m 1 (front ++ b ∷ rest) c → c ≡ front ++ get_or c m 0 ∷ rest
  torn_at b rest c torn =
      let long = length-append front (b ∷ rest) in
      let behind : drop m c ≡ get_or c m 0 ∷ rest =
      drop_more c m 0 (omega (arith, torn.no_shorter, long, is_long)) ∙ ap (λ (l : List ℕ). get_or c m 0 ∷ l) (torn.after ∙ back b rest) in
      sym (take-append-drop m c)
      ∙ ap (λ (l : List ℕ). l ++ drop m c) (torn.before ∙ take_at front (b ∷ rest) m is_long)
      ∙ ap (λ (l : List ℕ). front ++ l) behind

  pub written_at : (b x : ℕ) (rest : List ℕ) → written m (x ∷ []) (front ++ b ∷ rest) ≡ front ++ x ∷ rest
  written_at b x rest =
      ap (λ (l : List ℕ). l ++ (x ∷ []) ++ drop (m + 1) (front ++ b ∷ rest)) (take_at front (b ∷ rest) m is_long)
      ∙ ap (λ (l : List ℕ). front ++ (x ∷ []) ++ l) (back b rest)
      ∙ append_assoc front (x ∷ []) rest

  -- one byte is written behind the front
  pub torn_end : (c : List ℕ) → IsTorn m 1 front c → c ≡ front ++ drop m c
  torn_end c torn = sym (take-append-drop m c) ∙ ap (λ (l : List ℕ). l ++ drop m c) (torn.before ∙ take_all m front (omega (arith, is_long)))

  pub torn_end_short : (c : List ℕ) → IsTorn m 1 front c → length (drop m c) ≤ 1
  torn_end_short c torn = omega (arith, length-drop m c, is_long, torn.no_longer)

  pub written_end : (x : ℕ) → written m (x ∷ []) front ≡ front ++ x ∷ []
  written_end x =
      ap (λ (l : List ℕ). l ++ (x ∷ []) ++ drop (m + 1) front) (take_all m front (omega (arith, is_long)))
      ∙ ap (λ (l : List ℕ). front ++ (x ∷ []) ++ l) (drop_all (m + 1) front (omega (arith, is_long)))
      ∙ append-nil (front ++ x ∷ [])

  -- a cut to the front takes away some of what stands behind it
  pub cut_behind : (end c : List ℕ) → IsCutTo m (front ++ end) c → c ≡ front ++ take (length c - m) end
  cut_behind end c cut = cut.front ∙ take_past front end (length c) (length c - m) (omega (arith, is_long, cut.no_shorter, length-append front end))

  pub cut_done : (end : List ℕ) → take m (front ++ end) ≡ front
  cut_done end = take_at front end m is_long
