-- Pieces that are put one behind the other.
use Rattle.std.proofs.Common.{◌≡◌, ℕ, ◌+◌, ◌<◌, ◌≤◌, List, [], ◌++◌, Option, None, Some, sym, ap, subst, ◌∙◌, length, take, get_or}
use Rattle.std.specs.List.{flat_map}
use Rattle.std.proofs.lemmas.List.{append_assoc, append-nil, flat_map_more, take_more, take_all}
use Rattle.kept_text.specs.Puts.{Puts}

-- nothing was put
pub puts_nothing : (a : Option (List ℕ)) → Puts a a []
puts_nothing None = tt
puts_nothing (Some text) = sym (append-nil text)

-- one piece, and another one behind it
pub puts_both : (a b c : Option (List ℕ)) (x y : List ℕ) → Puts a b x → Puts b c y → Puts a c (x ++ y)
puts_both a b None x y p q = tt
puts_both None None (Some c) x y p q = absurd q
puts_both None (Some b) (Some c) x y p q = p
puts_both (Some a) None (Some c) x y p q = absurd q
puts_both (Some a) (Some b) (Some c) x y p q = q ∙ ap (λ t. t ++ y) p ∙ append_assoc a x y

-- things that are put in their order: one more, and all of them
module _ {X : Type 0} (f : X → List ℕ) (xs : List X) where
  pub puts_step : (a b c : Option (List ℕ)) (i : ℕ) (d : X) → i < length xs → Puts a b (flat_map f (take i xs)) → Puts b c (f (get_or xs i d)) →
      Puts a c (flat_map f (take (i + 1) xs))
  puts_step a b c i d less p q =
      let e : flat_map f (take i xs) ++ f (get_or xs i d) ≡ flat_map f (take (i + 1) xs) =
      flat_map_more f [] (take i xs) (get_or xs i d) ∙ ap (flat_map f) (sym (take_more xs i d less)) in
      subst (λ x. Puts a c x) e (puts_both a b c (flat_map f (take i xs)) (f (get_or xs i d)) p q)

  pub puts_all : (a b : Option (List ℕ)) (n : ℕ) → length xs ≤ n → Puts a b (flat_map f (take n xs)) → Puts a b (flat_map f xs)
  puts_all a b n le p = subst (λ ys. Puts a b (flat_map f ys)) (take_all n xs le) p

-- a whole text ends with what was put last
pub puts_last : (a : Option (List ℕ)) (b : Option (List ℕ)) (text piece : List ℕ) → b ≡ Some text → Puts a b piece → (front : List ℕ) × (text ≡ front ++ piece)
puts_last a b text piece e p = last a (subst (λ t. Puts a t piece) e p)
  where
    last : (a : Option (List ℕ)) → Puts a (Some text) piece → (front : List ℕ) × (text ≡ front ++ piece)
    last None q = absurd q
    last (Some front) q = (front, q)
