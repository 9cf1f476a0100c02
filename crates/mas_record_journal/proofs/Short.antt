-- A file whose end was cut off.
use Rattle.std.proofs.Common.{◌≡◌, ◌≤◌, ℕ, zero, suc, ◌+◌, ◌-◌, ◌*◌, Bool, true, false, if◌then◌else◌, ◌==◌, List, [], ◌∷◌, length, take, drop, Option, None, Some, refl, sym, ◌∙◌, ap, subst, arith, length-take, bytes_eq}
use Rattle.std.proofs.lemmas.List.{take-take, drop-take}
use Rattle.std.proofs.lemmas.Slice.Eq.{bytes_eq-Decides}
use Rattle.mas_record_journal.specs.Journals.{header, turns_in, recovered, BeginsWith, TellsLess}

-- the beginning of a list of blocks has a beginning of its turns
begins_if : (b : Bool) (a : ℕ) (more less : List ℕ) → BeginsWith more less → BeginsWith (if b then a ∷ more else []) (if b then a ∷ less else [])
begins_if true a more less s = (s.0, ap (λ (l : List ℕ). a ∷ l) s.1)
begins_if false a more less s = ([], refl)

fewer : (n : ℕ) (bytes : List ℕ) → BeginsWith (turns_in bytes) (turns_in (take n bytes))
fewer zero bytes = (turns_in bytes, refl)
fewer (suc n) [] = ([], refl)
fewer (suc zero) (a ∷ bytes) = (turns_in (a ∷ bytes), refl)
fewer (suc (suc n)) (a ∷ []) = ([], refl)
fewer (suc (suc zero)) (a ∷ b ∷ bytes) = (turns_in (a ∷ b ∷ bytes), refl)
fewer (suc (suc (suc n))) (a ∷ b ∷ []) = ([], refl)
fewer (suc (suc (suc n))) (g ∷ a ∷ b ∷ bytes) = begins_if (g == 1) (256 * a + b) (turns_in bytes) (turns_in (take n bytes)) (fewer n bytes)

abbrev told_as : Bool → List ℕ → Option (List ℕ)
told_as b turns = if b then Some turns else None

less_if : (b : Bool) (turns : List ℕ) (whole : Option (List ℕ)) → (b ≡ true → TellsLess (Some turns) whole) → TellsLess (told_as b turns) whole
less_if true turns whole case = case refl
less_if false turns whole case = tt

pub tells_less : (n : ℕ) (bytes : List ℕ) → TellsLess (recovered (take n bytes)) (recovered bytes)
tells_less n bytes =
    less_if (bytes_eq (take 8 (take n bytes)) header) (turns_in (drop 8 (take n bytes))) (recovered bytes) (λ same.
    let is : take 8 (take n bytes) ≡ header = (bytes_eq-Decides (take 8 (take n bytes)) header).0 same in
    let long : 8 ≤ n = (let e = ap length is in omega (arith, e, length-take 8 (take n bytes), length-take n bytes)) in
    let whole : take 8 bytes ≡ header = sym (take-take 8 n bytes long) ∙ is in
    let tells : recovered bytes ≡ Some (turns_in (drop 8 bytes)) =
    ap (λ b. told_as b (turns_in (drop 8 bytes))) ((bytes_eq-Decides (take 8 bytes) header).1 whole) in
    let sum : 8 + (n - 8) ≡ n = omega (arith, long) in
    let rest : drop 8 (take n bytes) ≡ take (n - 8) (drop 8 bytes) = ap (λ (k : ℕ). drop 8 (take k bytes)) (sym sum) ∙ drop-take 8 (n - 8) bytes in
    subst (λ (t : Option (List ℕ)). TellsLess (Some (turns_in (drop 8 (take n bytes)))) t) (sym tells)
    (subst (λ (l : List ℕ). BeginsWith (turns_in (drop 8 bytes)) (turns_in l)) (sym rest) (fewer (n - 8) (drop 8 bytes))))
