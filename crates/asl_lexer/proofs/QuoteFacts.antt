-- The scan of strings decides where they are closed, and which byte is the first bad one.
use Rattle.std.proofs.Common.{◌≡◌, ℕ, suc, ◌+◌, Bool, true, false, cond, List, [], ◌∷◌, ◌++◌, length, Option, Some, None, refl, sym, ap, subst, ◌∙◌}
use Rattle.std.proofs.Common.{append_assoc, length-append, arith}
use Rattle.std.specs.Prelude.{◌&&◌, ◌||◌, ◌==◌, not}
use Rattle.std.specs.Option.{option_map}
use Rattle.std.proofs.lemmas.Bool.{eqb-true}
use Rattle.std.proofs.lemmas.Bool.Decides.{nat_tests}
use Rattle.asl_lexer.specs.Spelling.{is_plain, is_escaped}
use Rattle.asl_lexer.specs.Scan.{close_len, bad_from}
use Rattle.asl_lexer.specs.Quotes.{is_unit, is_item, AreAll, no_unit, one_unit, IsClosed, IsBadBehind}
use Rattle.asl_lexer.proofs.Bytes.{both, not_true}

-- ---- one unit more in front

not_feed : (b : ℕ) → not (b == 10) ≡ true → (b == 10) ≡ false
not_feed b e = not_true (b == 10) e

single : (b : ℕ) → is_unit (b ∷ []) ≡ true → ((b == 10) ≡ false) × ((b == 34) ≡ false) × ((b == 92) ≡ false)
single b e = go (b == 10) (b == 34) (b == 92) e
  where
    go : (x y z : Bool) → not (x || (y || z)) ≡ true → (x ≡ false) × (y ≡ false) × (z ≡ false)
    go true y z e = absurd cc
    go false true z e = absurd cc
    go false false true e = absurd cc
    go false false false e = (refl, refl, refl)

unit_close : (u t : List ℕ) (n : ℕ) → is_unit u ≡ true → close_len false t ≡ Some n → close_len false (u ++ t) ≡ Some (length u + n)
unit_close [] t n e f = absurd cc
unit_close (b ∷ []) t n e f = let h = single b e in rw (h.0, h.1, h.2) (ap (option_map suc) f ∙ ap Some (omega arith))
unit_close (a ∷ b ∷ []) t n e f =
    let h = both (a == 92) (not (b == 10)) e in
    let feed = not_feed b h.1 in
    ap (λ (x : ℕ). close_len false (x ∷ (b ∷ t))) (eqb-true a 92 h.0)
    ∙ rw feed (ap (λ (o : Option ℕ). option_map suc (option_map suc o)) f ∙ ap Some (omega arith))
unit_close (a ∷ b ∷ c ∷ u) t n e f = absurd cc

item_plain : (b : ℕ) → is_plain b ≡ true → ((b == 34) ≡ false) × ((b == 92) ≡ false) × ((b == 10) ≡ false)
item_plain b e = (grind (arith, nat_tests), grind (arith, nat_tests), grind (arith, nat_tests))

item_escaped : (b : ℕ) → is_escaped b ≡ true → (b == 10) ≡ false
item_escaped b e = grind (arith, nat_tests)

item_unit : (u : List ℕ) → is_item u ≡ true → is_unit u ≡ true
item_unit [] e = absurd cc
item_unit (b ∷ []) e = let h = item_plain b e in rw (h.2, h.0, h.1) refl
item_unit (a ∷ b ∷ []) e = let h = both (a == 92) (is_escaped b) e in rw (h.0, item_escaped b h.1) refl
item_unit (a ∷ b ∷ c ∷ u) e = absurd cc

items_units : {t : List ℕ} → AreAll is_item t → AreAll is_unit t
items_units no_unit = no_unit
items_units (one_unit u t e h) = one_unit u t (item_unit u e) (items_units h)

item_goes : (u t : List ℕ) (i : ℕ) → is_item u ≡ true → bad_from i false (u ++ t) ≡ bad_from (i + length u) false t
item_goes [] t i e = absurd cc
item_goes (b ∷ []) t i e =
    let h = item_plain b e in
    ap (λ (y : Bool). cond y None (cond (b == 92) (bad_from i true t) (cond (is_plain b) (bad_from (i + 1) false t) (Some i)))) h.0
    ∙ ap (λ (y : Bool). cond y (bad_from i true t) (cond (is_plain b) (bad_from (i + 1) false t) (Some i))) h.1
    ∙ ap (λ (y : Bool). cond y (bad_from (i + 1) false t) (Some i)) e
item_goes (a ∷ b ∷ []) t i e =
    let h = both (a == 92) (is_escaped b) e in
    ap (λ (x : ℕ). bad_from i false (x ∷ (b ∷ t))) (eqb-true a 92 h.0)
    ∙ ap (λ (y : Bool). cond y (bad_from (i + 2) false t) (Some i)) h.1
item_goes (a ∷ b ∷ c ∷ u) t i e = absurd cc

bad_stops : (u t : List ℕ) (i : ℕ) → is_unit u ≡ true → is_item u ≡ false → bad_from i false (u ++ t) ≡ Some i
bad_stops [] t i e f = absurd cc
bad_stops (b ∷ []) t i e f =
    let h = single b e in
    ap (λ (y : Bool). cond y None (cond (b == 92) (bad_from i true t) (cond (is_plain b) (bad_from (i + 1) false t) (Some i)))) h.1
    ∙ ap (λ (y : Bool). cond y (bad_from i true t) (cond (is_plain b) (bad_from (i + 1) false t) (Some i))) h.2
    ∙ ap (λ (y : Bool). cond y (bad_from (i + 1) false t) (Some i)) f
bad_stops (a ∷ b ∷ []) t i e f =
    let h = both (a == 92) (not (b == 10)) e in
    let wrong : is_escaped b ≡ false = ap (λ (x : Bool). x && is_escaped b) (sym h.0) ∙ f in
    ap (λ (x : ℕ). bad_from i false (x ∷ (b ∷ t))) (eqb-true a 92 h.0)
    ∙ ap (λ (y : Bool). cond y (bad_from (i + 2) false t) (Some i)) wrong
bad_stops (a ∷ b ∷ c ∷ u) t i e f = absurd cc

-- ---- all units

pub units_close : {u : List ℕ} → AreAll is_unit u → (rest : List ℕ) → close_len false (u ++ 34 ∷ rest) ≡ Some (length u + 1)
units_close no_unit rest = refl
units_close (one_unit u t e h) rest =
    ap (close_len false) (append_assoc u t (34 ∷ rest)) ∙ unit_close u (t ++ 34 ∷ rest) (length t + 1) e (units_close h rest)
    ∙ ap Some (omega (arith, length-append u t))

items_go : {u : List ℕ} → AreAll is_item u → (t : List ℕ) (i : ℕ) → bad_from i false (u ++ t) ≡ bad_from (i + length u) false t
items_go no_unit t i = ap (λ (j : ℕ). bad_from j false t) (omega arith)
items_go (one_unit u v e h) t i =
    ap (bad_from i false) (append_assoc u v t) ∙ item_goes u (v ++ t) i e ∙ items_go h t (i + length u)
    ∙ ap (λ (j : ℕ). bad_from j false t) (omega (arith, length-append u v))

-- ---- what the scan found

pub closed_len : (text : List ℕ) → IsClosed text → (n : ℕ) × (close_len false text ≡ Some n)
closed_len text h = (length h.units + 1, ap (close_len false) h.whole ∙ units_close h.are h.rest)

both_all : {a b : List ℕ} → AreAll is_unit a → AreAll is_unit b → AreAll is_unit (a ++ b)
both_all no_unit g = g
both_all {b = b} (one_unit u t e h) g = subst (AreAll is_unit) (sym (append_assoc u t b)) (one_unit u (t ++ b) e (both_all h g))

-- what has a bad byte is closed, and that byte is found
pub bad_closed : (text : List ℕ) (k : ℕ) → IsBadBehind text k → IsClosed text
bad_closed text k h = record {
  units = h.good ++ (h.bad ++ h.more);
  rest = h.rest;
  are = both_all (items_units h.first) (one_unit h.bad h.more h.unit h.others);
  whole = h.whole ∙ ap (λ (t : List ℕ). h.good ++ t) (sym (append_assoc h.bad h.more (34 ∷ h.rest)))
      ∙ sym (append_assoc h.good (h.bad ++ h.more) (34 ∷ h.rest));
}

pub bad_found : (text : List ℕ) (k : ℕ) → IsBadBehind text k → (i : ℕ) → bad_from i false text ≡ Some (i + k)
bad_found text k h i =
    ap (bad_from i false) h.whole ∙ items_go h.first (h.bad ++ (h.more ++ 34 ∷ h.rest)) i
    ∙ bad_stops h.bad (h.more ++ 34 ∷ h.rest) (i + length h.good) h.unit h.wrong ∙ ap (λ (j : ℕ). Some (i + j)) (sym h.place)

-- ---- and back: where the scan closes, units stand before the quote

record Split (text : List ℕ) (n : ℕ) : Type 0 where
  closed : IsClosed text
  len : n ≡ length closed.units + 1

add_unit : (u text : List ℕ) (n : ℕ) → is_unit u ≡ true → Split text n → Split (u ++ text) (length u + n)
add_unit u text n e h = record {
  closed =
      record {
        units = u ++ h.closed.units;
        rest = h.closed.rest;
        are = one_unit u h.closed.units e h.closed.are;
        whole = ap (λ (t : List ℕ). u ++ t) h.closed.whole ∙ sym (append_assoc u h.closed.units (34 ∷ h.closed.rest));
      };
  len = omega (arith, h.len, length-append u h.closed.units);
}

-- from the number that the scan gives one step on
less_one : (o : Option ℕ) (n : ℕ) → option_map suc o ≡ Some n → (k : ℕ) × (o ≡ Some k) × (n ≡ suc k)
less_one None n e = absurd cc
less_one (Some k) n e = (k, refl, cc)

abbrev Splits : List ℕ → Type 0
Splits text = ((n : ℕ) → close_len false text ≡ Some n → Split text n) × ((n : ℕ) → close_len true text ≡ Some n → Split (92 ∷ text) (suc n))

single_unit : (b : ℕ) → (b == 10) ≡ false → (b == 34) ≡ false → (b == 92) ≡ false → is_unit (b ∷ []) ≡ true
single_unit b f q s = rw (f, q, s) refl

split_plain : (b : ℕ) (text : List ℕ) → Splits text → (n : ℕ) → close_len false (b ∷ text) ≡ Some n → Split (b ∷ text) n
split_plain b text h n e = go (b == 10) refl (b == 34) refl (b == 92) refl e
  where
    go : (f : Bool) → (b == 10) ≡ f → (q : Bool) → (b == 34) ≡ q → (s : Bool) → (b == 92) ≡ s
        → cond f None (cond q (Some 1) (option_map suc (close_len s text))) ≡ Some n → Split (b ∷ text) n
    go true f q g s i e = absurd cc
    go false f true g s i e =
        let one : n ≡ 1 = cc in
        record {
          closed = record { units = []; rest = text; are = no_unit; whole = λ j. eqb-true b 34 g j ∷ text };
          len = one;
        }
    go false f false g true i e =
        let k = less_one (close_len true text) n e in
        subst (λ (x : ℕ). Split (x ∷ text) n) (sym (eqb-true b 92 i)) (subst (Split (92 ∷ text)) (sym k.2) (h.1 k.0 k.1))
    go false f false g false i e =
        let k = less_one (close_len false text) n e in
        let m : 1 + k.0 ≡ n = omega (arith, k.2) in
        subst (Split (b ∷ text)) m (add_unit (b ∷ []) text k.0 (single_unit b f g i) (h.0 k.0 k.1))

pair_unit : (b : ℕ) → (b == 10) ≡ false → is_unit (92 ∷ b ∷ []) ≡ true
pair_unit b f = ap not f

split_behind : (b : ℕ) (text : List ℕ) → Splits text → (n : ℕ) → close_len true (b ∷ text) ≡ Some n → Split (92 ∷ b ∷ text) (suc n)
split_behind b text h n e = go (b == 10) refl e
  where
    go : (f : Bool) → (b == 10) ≡ f → cond f None (option_map suc (close_len false text)) ≡ Some n → Split (92 ∷ b ∷ text) (suc n)
    go true f e = absurd cc
    go false f e =
        let k = less_one (close_len false text) n e in
        let m : 2 + k.0 ≡ suc n = omega (arith, k.2) in
        subst (Split (92 ∷ b ∷ text)) m (add_unit (92 ∷ b ∷ []) text k.0 (pair_unit b f) (h.0 k.0 k.1))

splits : (text : List ℕ) → Splits text
splits [] = (λ n e. absurd cc, λ n e. absurd cc)
splits (b ∷ text) = let h = splits text in (split_plain b text h, split_behind b text h)

pub closed_of : (text : List ℕ) (n : ℕ) → close_len false text ≡ Some n → IsClosed text
closed_of text n e = ((splits text).0 n e).closed

pub never_closed : (text : List ℕ) → (IsClosed text → ⊥) → close_len false text ≡ None
never_closed text h = go (close_len false text) refl
  where
    go : (o : Option ℕ) → close_len false text ≡ o → o ≡ None
    go None e = refl
    go (Some n) e = absurd (h (closed_of text n e))

-- ---- and where it finds a bad byte, one stands

record Bad (text : List ℕ) (i k : ℕ) : Type 0 where
  behind : ℕ
  found : IsBadBehind text behind
  place : k ≡ i + behind

add_item : (u text : List ℕ) (i k : ℕ) → is_item u ≡ true → Bad text (i + length u) k → Bad (u ++ text) i k
add_item u text i k e h = record {
  behind = length u + h.behind;
  found =
      record {
        good = u ++ h.found.good;
        bad = h.found.bad;
        more = h.found.more;
        rest = h.found.rest;
        first = one_unit u h.found.good e h.found.first;
        unit = h.found.unit;
        wrong = h.found.wrong;
        others = h.found.others;
        whole = ap (λ (t : List ℕ). u ++ t) h.found.whole
            ∙ sym (append_assoc u h.found.good (h.found.bad ++ (h.found.more ++ 34 ∷ h.found.rest)));
        place = omega (arith, h.found.place, length-append u h.found.good);
      };
  place = omega (arith, h.place);
}

bad_here : (u text : List ℕ) (i k : ℕ) → is_unit u ≡ true → is_item u ≡ false → IsClosed text → k ≡ i → Bad (u ++ text) i k
bad_here u text i k e f c p = record {
  behind = 0;
  found =
      record {
        good = [];
        bad = u;
        more = c.units;
        rest = c.rest;
        first = no_unit;
        unit = e;
        wrong = f;
        others = c.are;
        whole = ap (λ (t : List ℕ). u ++ t) c.whole;
        place = refl;
      };
  place = omega (arith, p);
}

abbrev Bads : List ℕ → Type 0
Bads text =
    ((n i k : ℕ) → close_len false text ≡ Some n → bad_from i false text ≡ Some k → Bad text i k)
    × ((n i k : ℕ) → close_len true text ≡ Some n → bad_from i true text ≡ Some k → Bad (92 ∷ text) i k)

bad_plain : (b : ℕ) (text : List ℕ) → Bads text → (n i k : ℕ) → close_len false (b ∷ text) ≡ Some n → bad_from i false (b ∷ text) ≡ Some k
    → Bad (b ∷ text) i k
bad_plain b text h n i k e g = go (b == 10) refl (b == 34) refl (b == 92) refl (is_plain b) refl e g
  where
    go : (f : Bool) → (b == 10) ≡ f → (q : Bool) → (b == 34) ≡ q → (s : Bool) → (b == 92) ≡ s → (p : Bool) → is_plain b ≡ p
        → cond f None (cond q (Some 1) (option_map suc (close_len s text))) ≡ Some n
        → cond q None (cond s (bad_from i true text) (cond p (bad_from (i + 1) false text) (Some i))) ≡ Some k → Bad (b ∷ text) i k
    go true f q u s v p w e g = absurd cc
    go false f true u s v p w e g = absurd cc
    go false f false u true v p w e g =
        let m = less_one (close_len true text) n e in
        subst (λ (x : ℕ). Bad (x ∷ text) i k) (sym (eqb-true b 92 v)) (h.1 m.0 i k m.1 g)
    go false f false u false v true w e g =
        let m = less_one (close_len false text) n e in
        add_item (b ∷ []) text i k w (h.0 m.0 (i + 1) k m.1 g)
    go false f false u false v false w e g =
        let m = less_one (close_len false text) n e in
        let same : k ≡ i = cc in
        bad_here (b ∷ []) text i k (single_unit b f u v) w (closed_of text m.0 m.1) same

bad_behind : (b : ℕ) (text : List ℕ) → Bads text → (n i k : ℕ) → close_len true (b ∷ text) ≡ Some n → bad_from i true (b ∷ text) ≡ Some k
    → Bad (92 ∷ b ∷ text) i k
bad_behind b text h n i k e g = go (b == 10) refl (is_escaped b) refl e g
  where
    go : (f : Bool) → (b == 10) ≡ f → (x : Bool) → is_escaped b ≡ x → cond f None (option_map suc (close_len false text)) ≡ Some n
        → cond x (bad_from (i + 2) false text) (Some i) ≡ Some k → Bad (92 ∷ b ∷ text) i k
    go true f x w e g = absurd cc
    go false f true w e g =
        let m = less_one (close_len false text) n e in
        add_item (92 ∷ b ∷ []) text i k w (h.0 m.0 (i + 2) k m.1 g)
    go false f false w e g =
        let m = less_one (close_len false text) n e in
        let same : k ≡ i = cc in
        bad_here (92 ∷ b ∷ []) text i k (pair_unit b f) w (closed_of text m.0 m.1) same

bads : (text : List ℕ) → Bads text
bads [] = (λ n i k e g. absurd cc, λ n i k e g. absurd cc)
bads (b ∷ text) = let h = bads text in (bad_plain b text h, bad_behind b text h)

pub bad_of : (text : List ℕ) (n i k : ℕ) → close_len false text ≡ Some n → bad_from i false text ≡ Some k → (j : ℕ) × (k ≡ i + j) × IsBadBehind text j
bad_of text n i k e g = let h = (bads text).0 n i k e g in (h.behind, h.place, h.found)
