-- The folder of a word, from its end.
use Rattle.std.proofs.Common.{ℕ, ◌≡◌, ◌≢◌, Bool, true, false, ◌||◌, nat_eq, if◌then◌else◌, List, [], ◌∷◌, ◌++◌, refl, ap, sym, ◌∙◌, arith}
use Rattle.std.specs.List.{list_any}
use Rattle.std.proofs.lemmas.Grind.{common_steps}
use Rattle.mas_top_files.specs.Projects.{folder}

is_slash : (b : ℕ) → b ≡ 47 → nat_eq 47 b ≡ true
is_slash b e = grind (arith, common_steps)

is_none : (b : ℕ) → b ≢ 47 → nat_eq 47 b ≡ false
is_none b h = grind (arith, common_steps)

or_true : (b : Bool) → (b || true) ≡ true
or_true true = refl
or_true false = refl

any_last : (bs : List ℕ) (b : ℕ) → nat_eq 47 b ≡ false → list_any (nat_eq 47) (bs ++ b ∷ []) ≡ list_any (nat_eq 47) bs
any_last [] b e = ap (λ x. x || false) e
any_last (x ∷ bs) b e = ap (λ y. nat_eq 47 x || y) (any_last bs b e)

any_slash : (bs : List ℕ) (b : ℕ) → nat_eq 47 b ≡ true → list_any (nat_eq 47) (bs ++ b ∷ []) ≡ true
any_slash [] b e = ap (λ x. x || false) e
any_slash (x ∷ bs) b e = ap (λ y. nat_eq 47 x || y) (any_slash bs b e) ∙ or_true (nat_eq 47 x)

-- with a slash last it is the whole word
folder_last : (bs : List ℕ) (b : ℕ) → nat_eq 47 b ≡ true → folder (bs ++ b ∷ []) ≡ bs ++ b ∷ []
folder_last [] b e = ap (λ x. if (x || false) then b ∷ [] else []) e
folder_last (x ∷ bs) b e =
    ap (λ y. if (nat_eq 47 x || y) then x ∷ folder (bs ++ b ∷ []) else []) (any_slash bs b e)
    ∙ ap (λ y. if y then x ∷ folder (bs ++ b ∷ []) else []) (or_true (nat_eq 47 x))
    ∙ ap (λ y. x ∷ y) (folder_last bs b e)

-- another byte last is not of it
folder_before : (bs : List ℕ) (b : ℕ) → nat_eq 47 b ≡ false → folder (bs ++ b ∷ []) ≡ folder bs
folder_before [] b e = ap (λ x. if (x || false) then b ∷ [] else []) e
folder_before (x ∷ bs) b e =
    ap (λ y. if (nat_eq 47 x || y) then x ∷ folder (bs ++ b ∷ []) else []) (any_last bs b e)
    ∙ ap (λ y. if (nat_eq 47 x || list_any (nat_eq 47) bs) then x ∷ y else []) (folder_before bs b e)

pub folder_ends : (word bs : List ℕ) (b : ℕ) → word ≡ bs ++ b ∷ [] → b ≡ 47 → folder word ≡ word
folder_ends word bs b w e = ap folder w ∙ folder_last bs b (is_slash b e) ∙ sym w

pub folder_goes_on : (word bs : List ℕ) (b : ℕ) → word ≡ bs ++ b ∷ [] → b ≢ 47 → folder word ≡ folder bs
folder_goes_on word bs b w h = ap folder w ∙ folder_before bs b (is_none b h)
