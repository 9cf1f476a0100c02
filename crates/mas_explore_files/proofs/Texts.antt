-- The sources of the agents, line by line.
use Rattle.std.proofs.Common.{ℕ, zero, suc, ◌≡◌, ◌<◌, ◌≤◌, ◌-◌, arith, Bool, true, false, ◌&&◌, List, [], ◌∷◌, ◌++◌, replicate, Some, slice_get, refl, ap, ◌∙◌}
use Rattle.std.specs.List.{list_all}
use Rattle.asl_beliefs.specs.Bases.{all_ground}
use Rattle.mas_top_files.specs.declared.sources.Role.{Role}
use Rattle.mas_top_files.specs.Sources.{texts_of}
use Rattle.mas_top_opening.specs.Fits.{is_ground_role}

among : {A : Type 0} (n i : ℕ) (x : A) (ys : List A) → i < n → slice_get (replicate n x ++ ys) i ≡ Some x
among zero i x ys l = absurd (omega arith)
among (suc n) zero x ys l = refl
among (suc n) (suc i) x ys l = let k : i < n = omega arith in among n i x ys k

past : {A : Type 0} (n i : ℕ) (x : A) (ys : List A) → n ≤ i → slice_get (replicate n x ++ ys) i ≡ slice_get ys (i - n)
past zero i x ys l = let e : i ≡ i - 0 = omega arith in ap (slice_get ys) e
past (suc n) zero x ys l = absurd (omega arith)
past (suc n) (suc i) x ys l =
    let k : n ≤ i = omega arith in
    let e : i - n ≡ suc i - suc n = omega arith in
    past n i x ys k ∙ ap (slice_get ys) e

pub here : (role : Role) (after : List Role) (left : ℕ) → left < role.count → slice_get (texts_of (role ∷ after)) left ≡ Some role.text
here role after left l = among role.count left role.text (texts_of after) l

pub onward : (role : Role) (after : List Role) (left : ℕ) → role.count ≤ left → slice_get (texts_of (role ∷ after)) left ≡ slice_get (texts_of after) (left - role.count)
onward role after left l = past role.count left role.text (texts_of after) l

and_left : (a b : Bool) → (a && b) ≡ true → a ≡ true
and_left true b e = refl
and_left false b e = absurd cc

and_right : (a b : Bool) → (a && b) ≡ true → b ≡ true
and_right true b e = e
and_right false b e = absurd cc

pub ground_here : (role : Role) (after : List Role) → list_all is_ground_role (role ∷ after) ≡ true → all_ground role.text.beliefs ≡ true
ground_here role after e = and_left (is_ground_role role) (list_all is_ground_role after) e

pub ground_on : (role : Role) (after : List Role) → list_all is_ground_role (role ∷ after) ≡ true → list_all is_ground_role after ≡ true
ground_on role after e = and_right (is_ground_role role) (list_all is_ground_role after) e
