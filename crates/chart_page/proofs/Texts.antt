-- What stands in a text that grows.
use Rattle.std.proofs.Common.{◌≡◌, ℕ, ◌+◌, ◌<◌, ◌≤◌, List, [], ◌++◌, Option, None, Some, sym, ◌∙◌, subst, length, take, get_or, map, arith}
use Rattle.std.proofs.lemmas.List.{append_assoc, append-nil, length-map, get_or-map, take_all}
use Rattle.std.proofs.lemmas.List.Elements.{All-more}
use Rattle.kept_text.specs.Puts.{Puts}
use Rattle.kept_text.proofs.Putting.{puts_nothing, puts_both}
use Rattle.chart_page.specs.Escape.{escaped_text}
use Rattle.chart_page.specs.Texts.{Grew, Adds, Holds, HasAll}

-- ---- what grows

pub grew_same : (a : Option (List ℕ)) → Grew a a
grew_same a = ([], puts_nothing a)

pub grew_by : (a b : Option (List ℕ)) (more : List ℕ) → Puts a b more → Grew a b
grew_by a b more p = (more, p)

pub grew_trans : (a b c : Option (List ℕ)) → Grew a b → Grew b c → Grew a c
grew_trans a b c (m, p) (n, q) = (m ++ n, puts_both a b c m n p q)

pub adds_grew : (a b : Option (List ℕ)) (text : List ℕ) → Adds a b text → Grew a b
adds_grew a b text (front, behind, p) = (front ++ (escaped_text text ++ behind), p)

-- ---- with a text in it

pub adds_exact : (a b : Option (List ℕ)) (text : List ℕ) → Puts a b (escaped_text text) → Adds a b text
adds_exact a b text p = ([], [], subst (λ x. Puts a b x) (sym (append-nil (escaped_text text))) p)

pub adds_after : (a b c : Option (List ℕ)) (text : List ℕ) → Grew a b → Adds b c text → Adds a c text
adds_after a b c text (m, p) (front, behind, q) = (
  m ++ front,
  behind,
  subst (λ x. Puts a c x) (sym (append_assoc m front (escaped_text text ++ behind))) (puts_both a b c m (front ++ (escaped_text text ++ behind)) p q),
)

pub adds_before : (a b c : Option (List ℕ)) (text : List ℕ) → Adds a b text → Grew b c → Adds a c text
adds_before a b c text (front, behind, p) (m, q) =
    let e : (front ++ (escaped_text text ++ behind)) ++ m ≡ front ++ (escaped_text text ++ (behind ++ m)) = simp append_assoc in
    (front, behind ++ m, subst (λ x. Puts a c x) e (puts_both a b c (front ++ (escaped_text text ++ behind)) m p q))

-- a text between two others
pub adds_between : (a b c d : Option (List ℕ)) (text : List ℕ) → Grew a b → Puts b c (escaped_text text) → Grew c d → Adds a d text
adds_between a b c d text g p h = adds_before a c d text (adds_after a b c text g (adds_exact b c text p)) h

-- ---- what stands there

pub holds_on : (made : List ℕ) (more text : List ℕ) → Holds made text → Holds (made ++ more) text
holds_on made more text (front, behind, e) = (front, behind ++ more, rw e (simp append_assoc))

pub all_on : (a b : Option (List ℕ)) (texts : List (List ℕ)) → Grew a b → HasAll a texts → HasAll b texts
all_on a None texts (m, p) h = tt
all_on None (Some new) texts (m, p) h = absurd p
all_on (Some old) (Some new) texts (m, p) h = λ k d less. subst (λ t. Holds t (get_or texts k d)) (sym p) (holds_on old m (get_or texts k d) (h k d less))

pub adds_holds : (old new text : List ℕ) → Adds (Some old) (Some new) text → Holds new text
adds_holds old new text (front, behind, p) = (old ++ front, behind, p ∙ sym (append_assoc old front (escaped_text text ++ behind)))

pub all_more : (a b : Option (List ℕ)) (texts : List (List ℕ)) (i : ℕ) → i < length texts → HasAll a (take i texts) →
    Adds a b (get_or texts i []) → HasAll b (take (i + 1) texts)
all_more a None texts i less h s = tt
all_more None (Some new) texts i less h (front, behind, p) = absurd p
all_more (Some old) (Some new) texts i less h s =
    All-more (Holds new) texts i [] less (all_on (Some old) (Some new) (take i texts) (adds_grew (Some old) (Some new) (get_or texts i []) s) h)
    (adds_holds old new (get_or texts i []) s)

-- one more piece, and all of them
pub all_step : {X : Type 0} (f : X → List ℕ) (xs : List X) (a b : Option (List ℕ)) (i : ℕ) (d : X) → i < length xs → HasAll a (take i (map f xs)) →
    Adds a b (f (get_or xs i d)) → HasAll b (take (i + 1) (map f xs))
all_step f xs a b i d less h s =
    let at : get_or (map f xs) i [] ≡ f (get_or xs i d) = get_or-map f xs i d [] less in
    all_more a b (map f xs) i (subst (λ n. i < n) (sym (length-map xs f)) less) h (subst (λ t. Adds a b t) (sym at) s)

pub all_end : {X : Type 0} (f : X → List ℕ) (xs : List X) (a : Option (List ℕ)) (n : ℕ) → length xs ≤ n → HasAll a (take n (map f xs)) → HasAll a (map f xs)
all_end f xs a n less h = subst (λ ts. HasAll a ts) (take_all n (map f xs) (subst (λ k. k ≤ n) (sym (length-map xs f)) less)) h

-- none of no texts
pub all_none : (a : Option (List ℕ)) → HasAll a []
all_none None = tt
all_none (Some made) = λ k d less. let no : ⊥ = omega arith in absurd no
