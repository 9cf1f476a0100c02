-- Lengths behind marks, and values of digits.
use Rattle.std.proofs.Common.{◌≡◌, ℕ, ◌+◌, ◌-◌, ◌*◌, ◌<◌, ◌≤◌, Bool, true, false, cond, List, [], ◌∷◌, length, Some, None, sym, ap, ◌∙◌, arith}
use Rattle.std.proofs.lemmas.Bool.{lt-leb, le-leb}
use Rattle.std.specs.Prelude.{◌&&◌, ◌==◌}
use Rattle.asl_lexer.specs.Scan.{after_line_mark, after_comment_mark, value_from, value}

two_shorter : (b : Bool) (rest us : List ℕ) → cond b (Some rest) None ≡ Some us → rest ≡ us
two_shorter true rest us e = cc
two_shorter false rest us e = absurd cc

pub line_shorter : (ts us : List ℕ) → after_line_mark ts ≡ Some us → length us + 2 ≡ length ts
line_shorter [] us e = absurd cc
line_shorter (a ∷ []) us e = absurd cc
line_shorter (a ∷ b ∷ rest) us e = omega (arith, ap length (two_shorter (a == 47 && b == 47) rest us e))

pub comment_shorter : (ts us : List ℕ) → after_comment_mark ts ≡ Some us → length us + 2 ≡ length ts
comment_shorter [] us e = absurd cc
comment_shorter (a ∷ []) us e = absurd cc
comment_shorter (a ∷ b ∷ rest) us e = omega (arith, ap length (two_shorter (a == 47 && b == 42) rest us e))

-- more digits make no smaller number
pub value_grows : (ds : List ℕ) (v : ℕ) → v ≤ value_from v ds
value_grows [] v = omega arith
value_grows (d ∷ ds) v = omega (arith, value_grows ds (v * 10 + (d - 48)))

above : (digits : List ℕ) → 9223372036854775807 < value_from 0 digits → value digits ≡ None
above digits lt = ap (λ (b : Bool). cond b (Some (value_from 0 digits)) None) (lt-leb _ _ lt)

pub too_big : (ds : List ℕ) (v : ℕ) (digits : List ℕ) → value_from v ds ≡ value_from 0 digits → 9223372036854775807 < v → value digits ≡ None
too_big ds v digits same lt = above digits (omega (arith, value_grows ds v))

pub too_big_next : (d : ℕ) (ds : List ℕ) (v : ℕ) (digits : List ℕ) → value_from v (d ∷ ds) ≡ value_from 0 digits → 922337203685477580 < v → value digits ≡ None
too_big_next d ds v digits same lt = above digits (omega (arith, value_grows ds (v * 10 + (d - 48))))

pub value_is : (v : ℕ) (digits : List ℕ) → v ≡ value_from 0 digits → v ≤ 9223372036854775807 → value digits ≡ Some v
value_is v digits same le = ap (λ (b : Bool). cond b (Some (value_from 0 digits)) None) (le-leb _ _ (omega arith)) ∙ ap Some (sym same)
