-- Where no part is left.
use Rattle.std.proofs.Common.{◌≡◌, ℕ, zero, suc, ◌≤◌, min, List, [], ◌∷◌, ◌++◌, length, drop, refl, sym, ap, ◌∙◌, append-nil, arith}
use Rattle.look_lines.specs.Changes.{change}
use Rattle.look_lines.specs.declared.change.ChangedLine.{ChangedLine}

no_later : (xs : List (List ℕ)) → change xs [] ≡ []
no_later [] = refl
no_later (x ∷ xs) = refl

no_parts : (xs ys : List (List ℕ)) (n : ℕ) → min (length xs) (length ys) ≤ n → change (drop n xs) (drop n ys) ≡ []
no_parts [] ys zero l = refl
no_parts [] ys (suc n) l = refl
no_parts (x ∷ xs) [] zero l = refl
no_parts (x ∷ xs) [] (suc n) l = no_later (drop n xs)
no_parts (x ∷ xs) (y ∷ ys) zero l = absurd (omega arith)
no_parts (x ∷ xs) (y ∷ ys) (suc n) l = no_parts xs ys n (omega arith)

pub all_put : (out : List ChangedLine) (xs ys : List (List ℕ)) (n : ℕ) → min (length xs) (length ys) ≤ n →
    out ++ change (drop n xs) (drop n ys) ≡ change xs ys → out ≡ change xs ys
all_put out xs ys n l h = sym (append-nil out) ∙ ap (λ x. out ++ x) (sym (no_parts xs ys n l)) ∙ h
