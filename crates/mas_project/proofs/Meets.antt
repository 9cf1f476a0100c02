-- Two places of one list.
use Rattle.std.proofs.Common.{◌≡◌, List, [], ◌∷◌, ◌++◌, refl, sym, ap, ◌∙◌}

-- the same, or one is behind the other
pub data Meets {A : Type 0} (f g : List A) (x y : A) : Type 0 where
  here : f ≡ g → x ≡ y → Meets f g x y
  later : (more : List A) → g ≡ f ++ x ∷ more → Meets f g x y
  sooner : (more : List A) → f ≡ g ++ y ∷ more → Meets f g x y

head_is : {A : Type 0} (x y : A) (xs ys : List A) → x ∷ xs ≡ y ∷ ys → x ≡ y
head_is x y xs ys e = cc

tail_is : {A : Type 0} (x y : A) (xs ys : List A) → x ∷ xs ≡ y ∷ ys → xs ≡ ys
tail_is x y xs ys e = cc

one_longer : {A : Type 0} {f g : List A} {x y a b : A} → a ≡ b → Meets f g x y → Meets (a ∷ f) (b ∷ g) x y
one_longer {A = A} {f = f} {g = g} {a = a} {b = b} e (here p q) = here (ap (λ (z : List A). a ∷ z) p ∙ ap (λ (z : A). z ∷ g) e) q
one_longer {A = A} {f = f} {x = x} {b = b} e (later more p) = later more (ap (λ (z : List A). b ∷ z) p ∙ ap (λ (z : A). z ∷ (f ++ x ∷ more)) (sym e))
one_longer {A = A} {g = g} {y = y} {a = a} e (sooner more p) = sooner more (ap (λ (z : List A). a ∷ z) p ∙ ap (λ (z : A). z ∷ (g ++ y ∷ more)) e)

pub meets : {A : Type 0} (f g : List A) (x y : A) (xs ys : List A) → f ++ x ∷ xs ≡ g ++ y ∷ ys → Meets f g x y
meets [] [] x y xs ys e = here refl (head_is x y xs ys e)
meets {A = A} [] (b ∷ g) x y xs ys e = later g (ap (λ (z : A). z ∷ g) (sym (head_is x b xs (g ++ y ∷ ys) e)))
meets {A = A} (a ∷ f) [] x y xs ys e = sooner f (ap (λ (z : A). z ∷ f) (head_is a y (f ++ x ∷ xs) ys e))
meets (a ∷ f) (b ∷ g) x y xs ys e = one_longer (head_is a b (f ++ x ∷ xs) (g ++ y ∷ ys) e) (meets f g x y xs ys (tail_is a b (f ++ x ∷ xs) (g ++ y ∷ ys) e))
