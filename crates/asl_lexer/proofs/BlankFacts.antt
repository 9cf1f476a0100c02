-- The scan of blanks and comments decides what stands at the front.
use Rattle.std.proofs.Common.{◌≡◌, ℕ, suc, ◌+◌, Bool, true, false, cond, List, [], ◌∷◌, ◌++◌, length, Option, Some, None, refl, sym, ap, subst, ◌∙◌}
use Rattle.std.proofs.Common.{length-append, arith}
use Rattle.std.specs.Prelude.{◌&&◌, ◌||◌, ◌==◌, codes}
use Rattle.std.specs.List.{list_all, prefix_len}
use Rattle.std.specs.Option.{option_map, option_map_or}
use Rattle.std.proofs.lemmas.Bool.{eqb-true}
use Rattle.std.proofs.lemmas.Bool.Decides.{nat_tests}
use Rattle.asl_lexer.specs.declared.blanks.Blank.{Blank}
use Rattle.asl_lexer.specs.declared.blanks.Blank.TheVariants as blanks
use Rattle.asl_lexer.specs.Spelling.{is_blank, is_no_feed}
use Rattle.asl_lexer.specs.Scan.{closes, comment_len, comment_at, blank_at}
use Rattle.asl_lexer.specs.Blanks.{NoClose, EndsLine, BlankAt, blank_byte, line, comment, IsOpenComment, begins_blank}
use Rattle.asl_lexer.proofs.Bytes.{both}

-- ---- no blank

none_so : (x y w z : Bool) (rest : List ℕ) → (z || (x && (y || w))) ≡ false
    → option_map_or (λ r. blanks.Bytes (prefix_len is_no_feed r + 2)) (cond (x && y) (Some rest) None)
    (option_map_or (λ r. comment_at (comment_len r)) (cond (x && w) (Some rest) None) (cond z (blanks.Bytes 1) blanks.None)) ≡ blanks.None
none_so x y w true rest e = absurd cc
none_so false y w false rest e = refl
none_so true true w false rest e = absurd cc
none_so true false true false rest e = absurd cc
none_so true false false false rest e = refl

pub none_is : (bytes : List ℕ) → begins_blank bytes ≡ false → blank_at bytes ≡ blanks.None
unfolding blank_at
none_is [] e = refl
none_is (a ∷ []) e = ap (λ (z : Bool). cond z (blanks.Bytes 1) blanks.None) e
none_is (a ∷ b ∷ rest) e = none_so (a == 47) (b == 47) (b == 42) (is_blank a) rest e

so_none : (x y w z : Bool) (rest : List ℕ)
    → option_map_or (λ r. blanks.Bytes (prefix_len is_no_feed r + 2)) (cond (x && y) (Some rest) None)
    (option_map_or (λ r. comment_at (comment_len r)) (cond (x && w) (Some rest) None) (cond z (blanks.Bytes 1) blanks.None)) ≡ blanks.None
    → (z || (x && (y || w))) ≡ false
so_none true true w z rest e = absurd cc
so_none true false true z rest e = absurd (go (comment_len rest) e)
  where
    go : (o : Option ℕ) → comment_at o ≡ blanks.None → ⊥
    go None e = cc
    go (Some n) e = cc
so_none true false false true rest e = absurd cc
so_none true false false false rest e = refl
so_none false y w true rest e = absurd cc
so_none false y w false rest e = refl

pub is_none : (bytes : List ℕ) → blank_at bytes ≡ blanks.None → begins_blank bytes ≡ false
unfolding blank_at
is_none [] e = refl
is_none (a ∷ []) e = go (is_blank a) e
  where
    go : (z : Bool) → cond z (blanks.Bytes 1) blanks.None ≡ blanks.None → z ≡ false
    go true e = absurd cc
    go false e = refl
is_none (a ∷ b ∷ rest) e = so_none (a == 47) (b == 47) (b == 42) (is_blank a) rest e

-- ---- a comment to the end of its line

pub line_front : (text rest : List ℕ) → list_all is_no_feed text ≡ true → EndsLine rest → prefix_len is_no_feed (text ++ rest) ≡ length text
line_front [] [] a s = refl
line_front [] (b ∷ rest) a s = subst (λ (x : ℕ). cond (is_no_feed x) (1 + prefix_len is_no_feed rest) 0 ≡ 0) (sym s) refl
line_front (b ∷ text) rest a s =
    let h = both (is_no_feed b) (list_all is_no_feed text) a in
    ap (λ (x : Bool). cond x (1 + prefix_len is_no_feed (text ++ rest)) 0) h.0 ∙ omega (arith, line_front text rest h.1 s)

record LineSplit (bytes : List ℕ) : Type 0 where
  text : List ℕ
  rest : List ℕ
  whole : bytes ≡ text ++ rest
  clean : list_all is_no_feed text ≡ true
  ends : EndsLine rest
  len : prefix_len is_no_feed bytes ≡ length text

line_split : (bytes : List ℕ) → LineSplit bytes
line_split [] = record { text = []; rest = []; whole = refl; clean = refl; ends = tt; len = refl }
line_split (b ∷ bytes) = go (b == 10) refl (line_split bytes)
  where
    go : (x : Bool) → (b == 10) ≡ x → LineSplit bytes → LineSplit (b ∷ bytes)
    go true e h = record {
      text = [];
      rest = b ∷ bytes;
      whole = refl;
      clean = refl;
      ends = eqb-true b 10 e;
      len = ap (λ (x : Bool). cond (cond x false true) (1 + prefix_len is_no_feed bytes) 0) e;
    }
    go false e h = record {
      text = b ∷ h.text;
      rest = h.rest;
      whole = ap (λ (t : List ℕ). b ∷ t) h.whole;
      clean = ap (λ (x : Bool). cond x false true && list_all is_no_feed h.text) e ∙ h.clean;
      ends = h.ends;
      len = ap (λ (x : Bool). cond (cond x false true) (1 + prefix_len is_no_feed bytes) 0) e ∙ omega (arith, h.len);
    }

-- ---- a comment up to the next close

closes_front : (b : ℕ) (text rest : List ℕ) → NoClose (b ∷ (text ++ codes "*")) → closes (b ∷ (text ++ (codes "*/" ++ rest))) ≡ false
closes_front b [] rest h = go (b == 42)
  where
    go : (x : Bool) → (x && false) ≡ false
    go true = refl
    go false = refl
closes_front b (c ∷ text) rest h = go (b == 42) refl (c == 47) refl
  where
    go : (x : Bool) → (b == 42) ≡ x → (y : Bool) → (c == 47) ≡ y → (x && y) ≡ false
    go false e y f = refl
    go true e false f = refl
    go true e true f = absurd (h [] (text ++ codes "*") (λ i. eqb-true b 42 e i ∷ (eqb-true c 47 f i ∷ (text ++ codes "*"))))

tail_open : (b : ℕ) (text : List ℕ) → NoClose (b ∷ text) → NoClose text
tail_open b text h = λ x y e. h (b ∷ x) y (ap (λ (t : List ℕ). b ∷ t) e)

comment_front : (text rest : List ℕ) → NoClose (text ++ codes "*") → comment_len (text ++ (codes "*/" ++ rest)) ≡ Some (length text + 2)
comment_front [] rest h = refl
comment_front (b ∷ text) rest h =
    ap (λ (x : Bool). cond x (Some 2) (option_map suc (comment_len (text ++ (codes "*/" ++ rest))))) (closes_front b text rest h)
    ∙ ap (option_map suc) (comment_front text rest (tail_open b (text ++ codes "*") h))
    ∙ ap Some (omega arith)

record Closed (bytes : List ℕ) (n : ℕ) : Type 0 where
  text : List ℕ
  rest : List ℕ
  whole : bytes ≡ text ++ (codes "*/" ++ rest)
  len : n ≡ length text + 2
  first : NoClose (text ++ codes "*")

one_star : NoClose (codes "*")
one_star = λ x y e. omega (arith, ap length e, length-append x (codes "*/" ++ y))

closes_two : (a : ℕ) (bytes : List ℕ) → closes (a ∷ bytes) ≡ true → (rest : List ℕ) × (a ∷ bytes ≡ codes "*/" ++ rest)
closes_two a [] e = absurd cc
closes_two a (b ∷ bytes) e = let h = both (a == 42) (b == 47) e in (bytes, λ i. eqb-true a 42 h.0 i ∷ (eqb-true b 47 h.1 i ∷ bytes))

star_slash : {a : ℕ} (y : List ℕ) → a ∷ codes "*" ≡ codes "*/" ++ y → ⊥
star_slash y e = cc

same_front : (a : ℕ) (text rest : List ℕ) (y : List ℕ) → a ∷ (text ++ codes "*") ≡ codes "*/" ++ y → closes (a ∷ (text ++ (codes "*/" ++ rest))) ≡ true
same_front a [] rest y e = absurd (star_slash y e)
same_front a (c ∷ text) rest y e =
    let f : a ≡ 42 = cc in let g : c ≡ 47 = cc in
    subst (λ (x : ℕ). (x == 42 && c == 47) ≡ true) (sym f) (subst (λ (x : ℕ). (42 == 42 && x == 47) ≡ true) (sym g) refl)

more_open : (a : ℕ) (text rest : List ℕ) → closes (a ∷ (text ++ (codes "*/" ++ rest))) ≡ false → NoClose (text ++ codes "*") → NoClose (a ∷ (text ++ codes "*"))
more_open a text rest c h [] y e = let f = same_front a text rest y e in cc
more_open a text rest c h (b ∷ x) y e = h x y (cc)

closed_at : (bytes : List ℕ) (n : ℕ) → comment_len bytes ≡ Some n → Closed bytes n
closed_at [] n e = absurd cc
closed_at (a ∷ bytes) n e = go (closes (a ∷ bytes)) refl e (closed_at bytes)
  where
    go : (x : Bool) → closes (a ∷ bytes) ≡ x → cond x (Some 2) (option_map suc (comment_len bytes)) ≡ Some n
        → ((k : ℕ) → comment_len bytes ≡ Some k → Closed bytes k) → Closed (a ∷ bytes) n
    go true c e ih = let h = closes_two a bytes c in let two : n ≡ 2 = cc in
        record { text = []; rest = h.0; whole = h.1; len = two; first = one_star }
    go false c e ih = behind c (comment_len bytes) refl e ih
      where
        behind : closes (a ∷ bytes) ≡ false → (o : Option ℕ) → comment_len bytes ≡ o → option_map suc o ≡ Some n
            → ((k : ℕ) → comment_len bytes ≡ Some k → Closed bytes k) → Closed (a ∷ bytes) n
        behind c None f e ih = absurd cc
        behind c (Some k) f e ih =
            let h = ih k f in
            let more : n ≡ suc k = cc in
            record {
              text = a ∷ h.text;
              rest = h.rest;
              whole = ap (λ (t : List ℕ). a ∷ t) h.whole;
              len = omega (arith, more, h.len);
              first = more_open a h.text h.rest (ap (λ (t : List ℕ). closes (a ∷ t)) (sym h.whole) ∙ c) h.first;
            }

closed_some : (front rest : List ℕ) → comment_len (front ++ (codes "*/" ++ rest)) ≡ None → ⊥
closed_some [] rest e = cc
closed_some (b ∷ front) rest e = go (closes (b ∷ (front ++ (codes "*/" ++ rest)))) (comment_len (front ++ (codes "*/" ++ rest))) refl e (closed_some front rest)
  where
    go : (x : Bool) (o : Option ℕ) → comment_len (front ++ (codes "*/" ++ rest)) ≡ o → cond x (Some 2) (option_map suc o) ≡ None
        → (comment_len (front ++ (codes "*/" ++ rest)) ≡ None → ⊥) → ⊥
    go true o f e ih = cc
    go false None f e ih = ih f
    go false (Some n) f e ih = cc

no_close : (text : List ℕ) → comment_len text ≡ None → NoClose text
no_close text e = λ x y f. closed_some x y (ap comment_len (sym f) ∙ e)

never_closes : (text : List ℕ) → NoClose text → comment_len text ≡ None
never_closes text h = go (comment_len text) refl
  where
    go : (o : Option ℕ) → comment_len text ≡ o → o ≡ None
    go None e = refl
    go (Some n) e = let c = closed_at text n e in absurd (h c.text c.rest c.whole)

-- ---- both directions

pub blank_front : (b : ℕ) (rest : List ℕ) → is_blank b ≡ true → blank_at (b ∷ rest) ≡ blanks.Bytes 1
unfolding blank_at
blank_front b [] e = rw e refl
blank_front b (c ∷ rest) e = let slash : (b == 47) ≡ false = grind (arith, nat_tests) in rw (slash, e) refl

line_at : (t : List ℕ) → blank_at (codes "//" ++ t) ≡ blanks.Bytes (prefix_len is_no_feed t + 2)
unfolding blank_at
line_at t = refl

comment_is : (t : List ℕ) → blank_at (codes "/*" ++ t) ≡ comment_at (comment_len t)
unfolding blank_at
comment_is t = refl

pub blank_is : {bytes : List ℕ} {n : ℕ} → BlankAt bytes n → blank_at bytes ≡ blanks.Bytes n
blank_is (blank_byte b rest e f) = ap blank_at e ∙ blank_front b rest f
blank_is (line text rest e a s) = ap blank_at e ∙ line_at (text ++ rest) ∙ ap (λ (n : ℕ). blanks.Bytes (n + 2)) (line_front text rest a s)
blank_is (comment text rest e h) =
    ap blank_at e ∙ comment_is (text ++ (codes "*/" ++ rest)) ∙ ap comment_at (comment_front text rest h) ∙ ap blanks.Bytes (omega arith)

pub open_is : (bytes : List ℕ) → IsOpenComment bytes → blank_at bytes ≡ blanks.OpenComment
open_is bytes h = ap blank_at h.whole ∙ comment_is h.text ∙ ap comment_at (never_closes h.text h.open_behind)

-- what the scan found
abbrev Stands : List ℕ → Blank → Type 0
Stands bytes blanks.None = Unit {0}
Stands bytes (blanks.Bytes n) = BlankAt bytes n
Stands bytes blanks.OpenComment = IsOpenComment bytes

two_bytes : (a b c d : ℕ) (rest : List ℕ) → (a == c) ≡ true → (b == d) ≡ true → a ∷ (b ∷ rest) ≡ c ∷ (d ∷ rest)
two_bytes a b c d rest e f = λ i. eqb-true a c e i ∷ (eqb-true b d f i ∷ rest)

line_stands : (bytes text : List ℕ) → bytes ≡ codes "//" ++ text → BlankAt bytes (prefix_len is_no_feed text + 2)
line_stands bytes text e =
    let h = line_split text in
    subst (λ (n : ℕ). BlankAt bytes (n + 2)) (sym h.len)
    (line h.text h.rest (e ∙ ap (λ (t : List ℕ). codes "//" ++ t) h.whole) h.clean h.ends)

comment_stands : (bytes text : List ℕ) → bytes ≡ codes "/*" ++ text → Stands bytes (comment_at (comment_len text))
comment_stands bytes text e = go (comment_len text) refl
  where
    go : (o : Option ℕ) → comment_len text ≡ o → Stands bytes (comment_at o)
    go None f = record { text = text; whole = e; open_behind = no_close text f }
    go (Some n) f =
        let h = closed_at text n f in
        let four : length h.text + 4 ≡ n + 2 = omega (arith, h.len) in
        subst (BlankAt bytes) four (comment h.text h.rest (e ∙ ap (λ (t : List ℕ). codes "/*" ++ t) h.whole) h.first)

stands : (bytes : List ℕ) → Stands bytes (blank_at bytes)
unfolding blank_at
stands [] = tt
stands (a ∷ []) = go (is_blank a) refl
  where
    go : (z : Bool) → is_blank a ≡ z → Stands (a ∷ []) (cond z (blanks.Bytes 1) blanks.None)
    go true e = blank_byte a [] refl e
    go false e = tt
stands (a ∷ b ∷ rest) = go (a == 47) refl (b == 47) refl (b == 42) refl (is_blank a) refl
  where
    last : (z : Bool) → is_blank a ≡ z → Stands (a ∷ b ∷ rest) (cond z (blanks.Bytes 1) blanks.None)
    last true e = blank_byte a (b ∷ rest) refl e
    last false e = tt

    go : (x : Bool) → (a == 47) ≡ x → (y : Bool) → (b == 47) ≡ y → (w : Bool) → (b == 42) ≡ w → (z : Bool) → is_blank a ≡ z
        → Stands (a ∷ b ∷ rest) (option_map_or (λ r. blanks.Bytes (prefix_len is_no_feed r + 2)) (cond (x && y) (Some rest) None)
        (option_map_or (λ r. comment_at (comment_len r)) (cond (x && w) (Some rest) None) (cond z (blanks.Bytes 1) blanks.None)))
    go true e true f w g z i = line_stands (a ∷ b ∷ rest) rest (two_bytes a b 47 47 rest e f)
    go true e false f true g z i = comment_stands (a ∷ b ∷ rest) rest (two_bytes a b 47 42 rest e g)
    go true e false f false g z i = last z i
    go false e y f w g z i = last z i

pub is_blank_at : (bytes : List ℕ) (n : ℕ) → blank_at bytes ≡ blanks.Bytes n → BlankAt bytes n
is_blank_at bytes n e = subst (Stands bytes) e (stands bytes)

pub is_open : (bytes : List ℕ) → blank_at bytes ≡ blanks.OpenComment → IsOpenComment bytes
is_open bytes e = subst (Stands bytes) e (stands bytes)
