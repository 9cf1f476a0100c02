-- What stands behind the first quote of a string.
use Rattle.std.proofs.Common.{◌≡◌, ℕ, zero, suc, ◌+◌, ◌<◌, ◌≤◌, Bool, true, false, cond, List, [], ◌∷◌, length, take, Option, Some, None, refl, sym, ap, subst, ◌∙◌, arith}
use Rattle.std.specs.Prelude.{◌&&◌, ◌==◌}
use Rattle.std.specs.Option.{option_map}
use Rattle.std.proofs.lemmas.Bool.{eqb-true}
use Rattle.asl_lexer.specs.Spelling.{is_plain, is_escaped, is_empty, ends_string}
use Rattle.asl_lexer.specs.Scan.{close_len, bad_from}

map_none : (o : Option ℕ) → option_map suc o ≡ None → o ≡ None
map_none None e = refl
map_none (Some n) e = absurd cc

map_some : (o : Option ℕ) (n : ℕ) → option_map suc o ≡ Some n → (k : ℕ) × (o ≡ Some k) × (n ≡ suc k)
map_some None n e = absurd cc
map_some (Some k) n e = (k, refl, cc)

and_false : (b c : Bool) → c ≡ false → (b && c) ≡ false
and_false true c e = e
and_false false c e = refl

-- a line feed is no escaped byte and no plain one
feed_escaped : (b : ℕ) (text : List ℕ) → (b == 10) ≡ true → ends_string true (b ∷ text) ≡ false
feed_escaped b text e = subst (λ (x : ℕ). ends_string true (x ∷ text) ≡ false) (sym (eqb-true b 10 e)) refl

feed_plain : (b : ℕ) (text : List ℕ) → (b == 10) ≡ true → ends_string false (b ∷ text) ≡ false
feed_plain b text e = subst (λ (x : ℕ). ends_string false (x ∷ text) ≡ false) (sym (eqb-true b 10 e)) refl

-- ---- no string

-- a string that is not closed in its line has no end
pub never_closed : (text : List ℕ) (escaped : Bool) → close_len escaped text ≡ None → (m : ℕ) → ends_string escaped (take m text) ≡ false
never_closed [] escaped e zero = refl
never_closed [] escaped e (suc m) = refl
never_closed (b ∷ text) escaped e zero = refl
never_closed (b ∷ text) true e (suc m) = go (b == 10) refl e (λ h. never_closed text false h m)
  where
    go : (f : Bool) → (b == 10) ≡ f → cond f None (option_map suc (close_len false text)) ≡ None → (close_len false text ≡ None → ends_string false (take m text) ≡ false) → ends_string true (b ∷ take m text) ≡ false
    go true t e ih = feed_escaped b (take m text) t
    go false t e ih = and_false (is_escaped b) (ends_string false (take m text)) (ih (map_none (close_len false text) e))
never_closed (b ∷ text) false e (suc m) = go (b == 10) refl e (λ s h. never_closed text s h m)
  where
    rest : (q : Bool) (s : Bool) → (p : Bool) → cond q (Some 1) (option_map suc (close_len s text)) ≡ None → ((s : Bool) → close_len s text ≡ None → ends_string s (take m text) ≡ false) → cond q (is_empty (take m text)) (cond s (ends_string true (take m text)) (p && ends_string false (take m text))) ≡ false
    rest true s p e ih = absurd cc
    rest false true p e ih = ih true (map_none (close_len true text) e)
    rest false false p e ih = and_false p (ends_string false (take m text)) (ih false (map_none (close_len false text) e))

    go : (f : Bool) → (b == 10) ≡ f → cond f None (cond (b == 34) (Some 1) (option_map suc (close_len (b == 92) text))) ≡ None → ((s : Bool) → close_len s text ≡ None → ends_string s (take m text) ≡ false) → ends_string false (b ∷ take m text) ≡ false
    go true t e ih = feed_plain b (take m text) t
    go false t e ih = rest (b == 34) (b == 92) (is_plain b) e ih

-- a string with a bad byte has no end
pub bad_ends : (text : List ℕ) (i : ℕ) (escaped : Bool) (k : ℕ) → bad_from i escaped text ≡ Some k → (m : ℕ) → ends_string escaped (take m text) ≡ false
bad_ends [] i escaped k e m = absurd cc
bad_ends (b ∷ text) i escaped k e zero = refl
bad_ends (b ∷ text) i true k e (suc m) = go (is_escaped b) e (λ h. bad_ends text (i + 2) false k h m)
  where
    go : (x : Bool) → cond x (bad_from (i + 2) false text) (Some i) ≡ Some k → (bad_from (i + 2) false text ≡ Some k → ends_string false (take m text) ≡ false) → (x && ends_string false (take m text)) ≡ false
    go true e ih = ih e
    go false e ih = refl
bad_ends (b ∷ text) i false k e (suc m) = go (b == 34) (b == 92) (is_plain b) e (λ j s h. bad_ends text j s k h m)
  where
    go : (q s p : Bool) → cond q None (cond s (bad_from i true text) (cond p (bad_from (i + 1) false text) (Some i))) ≡ Some k → ((j : ℕ) (s : Bool) → bad_from j s text ≡ Some k → ends_string s (take m text) ≡ false) → cond q (is_empty (take m text)) (cond s (ends_string true (take m text)) (p && ends_string false (take m text))) ≡ false
    go true s p e ih = absurd cc
    go false true p e ih = ih i true e
    go false false true e ih = ih (i + 1) false e
    go false false false e ih = refl

-- ---- a string

-- the first n bytes end the string, and no more bytes do
pub record EndsAt (escaped : Bool) (text : List ℕ) (n : ℕ) : Type 0 where
  pub within : n ≤ length text
  pub spelled : ends_string escaped (take n text) ≡ true
  pub longest : (m : ℕ) → n < m → m ≤ length text → ends_string escaped (take m text) ≡ false

one_more : (b : ℕ) (text : List ℕ) (escaped before : Bool) (k : ℕ) → ((t : List ℕ) → ends_string before (b ∷ t) ≡ ends_string escaped t) → EndsAt escaped text k → EndsAt before (b ∷ text) (suc k)
one_more b text escaped before k same h = record {
  within = omega (arith, h.within);
  spelled = same (take k text) ∙ h.spelled;
  longest = λ m lt le. go m lt le;
}
  where
    go : (m : ℕ) → suc k < m → m ≤ length (b ∷ text) → ends_string before (take m (b ∷ text)) ≡ false
    go zero lt le = absurd (omega arith)
    go (suc m) lt le = same (take m text) ∙ h.longest m (omega arith) (omega arith)

quote_ends : (b : ℕ) (text : List ℕ) → ((t : List ℕ) → ends_string false (b ∷ t) ≡ is_empty t) → EndsAt false (b ∷ text) 1
quote_ends b text same = record { within = omega arith; spelled = same []; longest = λ m lt le. go text m lt le }
  where
    go : (text : List ℕ) (m : ℕ) → 1 < m → m ≤ length (b ∷ text) → ends_string false (take m (b ∷ text)) ≡ false
    go text zero lt le = absurd (omega arith)
    go text (suc zero) lt le = absurd (omega arith)
    go [] (suc (suc m)) lt le = absurd (omega arith)
    go (c ∷ text) (suc (suc m)) lt le = same (c ∷ take m text)

-- a string that is closed in its line, without a bad byte, ends there
pub string_ends : (text : List ℕ) (i : ℕ) (escaped : Bool) (n : ℕ) → close_len escaped text ≡ Some n → bad_from i escaped text ≡ None → EndsAt escaped text n
string_ends [] i escaped n e f = absurd cc
string_ends (b ∷ text) i true n e f = go (b == 10) (is_escaped b) refl e f (λ k h g. string_ends text (i + 2) false k h g)
  where
    go : (t x : Bool) → is_escaped b ≡ x → cond t None (option_map suc (close_len false text)) ≡ Some n → cond x (bad_from (i + 2) false text) (Some i) ≡ None → ((k : ℕ) → close_len false text ≡ Some k → bad_from (i + 2) false text ≡ None → EndsAt false text k) → EndsAt true (b ∷ text) n
    go true x d e f ih = absurd cc
    go false false d e f ih = absurd cc
    go false true d e f ih =
        let k = map_some (close_len false text) n e in
        subst (EndsAt true (b ∷ text)) (sym k.2) (one_more b text false true k.0 (λ t. ap (λ (x : Bool). x && ends_string false t) d) (ih k.0 k.1 f))
string_ends (b ∷ text) i false n e f = go (b == 10) (b == 34) refl (b == 92) refl (is_plain b) refl e f (λ j s k h g. string_ends text j s k h g)
  where
    same : (q s p : Bool) → (b == 34) ≡ q → (b == 92) ≡ s → is_plain b ≡ p → (t : List ℕ) → ends_string false (b ∷ t) ≡ cond q (is_empty t) (cond s (ends_string true t) (p && ends_string false t))
    same q s p x y z t = ap (λ (q : Bool). cond q (is_empty t) (cond (b == 92) (ends_string true t) (is_plain b && ends_string false t))) x ∙ ap (λ (s : Bool). cond q (is_empty t) (cond s (ends_string true t) (is_plain b && ends_string false t))) y ∙ ap (λ (p : Bool). cond q (is_empty t) (cond s (ends_string true t) (p && ends_string false t))) z

    go : (t q : Bool) → (b == 34) ≡ q → (s : Bool) → (b == 92) ≡ s → (p : Bool) → is_plain b ≡ p → cond t None (cond q (Some 1) (option_map suc (close_len s text))) ≡ Some n → cond q None (cond s (bad_from i true text) (cond p (bad_from (i + 1) false text) (Some i))) ≡ None → ((j : ℕ) (s : Bool) (k : ℕ) → close_len s text ≡ Some k → bad_from j s text ≡ None → EndsAt s text k) → EndsAt false (b ∷ text) n
    go true q x s y p z e f ih = absurd cc
    go false true x s y p z e f ih = let one : n ≡ 1 = cc in subst (EndsAt false (b ∷ text)) (sym one) (quote_ends b text (same true s p x y z))
    go false false x true y p z e f ih =
        let k = map_some (close_len true text) n e in
        subst (EndsAt false (b ∷ text)) (sym k.2) (one_more b text true false k.0 (same false true p x y z) (ih i true k.0 k.1 f))
    go false false x false y true z e f ih =
        let k = map_some (close_len false text) n e in
        subst (EndsAt false (b ∷ text)) (sym k.2) (one_more b text false false k.0 (same false false true x y z) (ih (i + 1) false k.0 k.1 f))
    go false false x false y false z e f ih = absurd cc
