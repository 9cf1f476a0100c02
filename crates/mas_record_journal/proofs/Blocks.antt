-- What bytes tell of turns.
use Rattle.std.proofs.Common.{◌≡◌, ◌≢◌, ◌≤◌, ◌<◌, inl, inr, ℕ, zero, suc, ◌+◌, ◌-◌, ◌*◌, get_or, ◌/◌, ◌%◌, List, [], ◌∷◌, ◌++◌, length, take, drop, Some, refl, sym, ◌∙◌, ap, arith, append_assoc, length-append}
use Rattle.std.proofs.lemmas.List.{append-nil, take_all}
use Rattle.std.proofs.lemmas.Bool.{cases_eq}
use Rattle.std.proofs.lemmas.Bool.Decides.{nat_tests}
use Rattle.mas_record_journal.specs.Journals.{header, turns_in, recovered, blocks, front, file_of, RecoversEither}

pub length-blocks : (turns : List ℕ) → length (blocks turns) ≡ 3 * length turns
length-blocks [] = refl
length-blocks (a ∷ turns) = omega (arith, length-blocks turns)

pub length-front : (turns : List ℕ) → length (front turns) ≡ 8 + 3 * length turns
length-front turns = omega (arith, length-blocks turns, length-append header (blocks turns))

pub blocks-push : (turns : List ℕ) (a : ℕ) → blocks (turns ++ a ∷ []) ≡ blocks turns ++ 1 ∷ a / 256 ∷ a % 256 ∷ []
blocks-push [] a = refl
blocks-push (t ∷ turns) a = ap (λ (l : List ℕ). 1 ∷ t / 256 ∷ t % 256 ∷ l) (blocks-push turns a)

number : (a : ℕ) → 256 * (a / 256) + a % 256 ≡ a
number a = omega arith

-- the turns, and then whatever the rest tells
pub turns-blocks : (turns rest : List ℕ) → turns_in (blocks turns ++ rest) ≡ turns ++ turns_in rest
turns-blocks [] rest = refl
turns-blocks (a ∷ turns) rest = (λ i. number a i ∷ turns-blocks turns rest i)

pub closed : (gate : ℕ) (rest : List ℕ) → gate ≢ 1 → turns_in (gate ∷ rest) ≡ []
closed gate [] shut = refl
closed gate (a ∷ []) shut = refl
closed gate (a ∷ b ∷ rest) shut = grind (arith, nat_tests)

open_gate : (gate a b : ℕ) (rest : List ℕ) → gate ≡ 1 → turns_in (gate ∷ a ∷ b ∷ rest) ≡ (256 * a + b) ∷ turns_in rest
open_gate gate a b rest is = grind (arith, nat_tests)

pub short_nothing : (bytes : List ℕ) → length bytes ≤ 1 → turns_in bytes ≡ []
short_nothing [] short = refl
short_nothing (a ∷ []) short = refl
short_nothing (a ∷ b ∷ bytes) short = absurd (omega arith)

-- the front of an end that tells no turn tells none
pub front_nothing : (n : ℕ) (end : List ℕ) → turns_in end ≡ [] → turns_in (take n end) ≡ []
front_nothing zero end none = refl
front_nothing (suc n) [] none = refl
front_nothing (suc zero) (a ∷ end) none = refl
front_nothing (suc (suc zero)) (a ∷ []) none = refl
front_nothing (suc (suc zero)) (a ∷ b ∷ end) none = refl
front_nothing (suc (suc (suc n))) (a ∷ []) none = refl
front_nothing (suc (suc (suc n))) (a ∷ b ∷ []) none = refl
front_nothing (suc (suc (suc n))) (g ∷ a ∷ b ∷ end) none = elim (cases_eq g 1) [
  | inl is ↦ absurd (cc (open_gate g a b end is, none))
  | inr shut ↦ closed g (a ∷ b ∷ take n end) shut
]

-- behind the header and the turns
pub recovered-front : (turns rest : List ℕ) → recovered (front turns ++ rest) ≡ Some (turns ++ turns_in rest)
recovered-front turns rest = ap recovered (append_assoc header (blocks turns) rest) ∙ ap Some (turns-blocks turns rest)

pub recovered-nothing : (turns rest : List ℕ) → turns_in rest ≡ [] → recovered (front turns ++ rest) ≡ Some turns
recovered-nothing turns rest none = recovered-front turns rest ∙ ap (λ (l : List ℕ). Some (turns ++ l)) none ∙ ap Some (append-nil turns)

pub recovered-file : (turns : List ℕ) → recovered (file_of turns) ≡ Some turns
recovered-file turns = recovered-nothing turns (0 ∷ []) refl

-- a whole turn behind any gate counts or it does not
pub recovered-gate : (turns : List ℕ) (gate a : ℕ) → RecoversEither turns a (Some (front turns ++ gate ∷ a / 256 ∷ a % 256 ∷ 0 ∷ []))
recovered-gate turns gate a = elim (cases_eq gate 1) [
  | inl is ↦ inr (recovered-front turns (gate ∷ a / 256 ∷ a % 256 ∷ 0 ∷ []) ∙ ap (λ (l : List ℕ). Some (turns ++ l)) (whole is))
  | inr shut ↦ inl (recovered-nothing turns (gate ∷ a / 256 ∷ a % 256 ∷ 0 ∷ []) (closed gate (a / 256 ∷ a % 256 ∷ 0 ∷ []) shut))
]
  where
    whole : gate ≡ 1 → turns_in (gate ∷ a / 256 ∷ a % 256 ∷ 0 ∷ []) ≡ a ∷ []
    whole is = open_gate gate (a / 256) (a % 256) (0 ∷ []) is ∙ ap (λ (n : ℕ). n ∷ []) (number a)

pub front-push : (turns : List ℕ) (a : ℕ) → front turns ++ 1 ∷ a / 256 ∷ a % 256 ∷ 0 ∷ [] ≡ file_of (turns ++ a ∷ [])
front-push turns a =
    sym (append_assoc (front turns) (1 ∷ a / 256 ∷ a % 256 ∷ []) (0 ∷ []))
    ∙ ap (λ (l : List ℕ). l ++ 0 ∷ []) (append_assoc header (blocks turns) (1 ∷ a / 256 ∷ a % 256 ∷ []) ∙ ap (λ (l : List ℕ). header ++ l) (sym (blocks-push turns a)))

-- one more turn is read
pub one_more : (turns rest bytes : List ℕ) → blocks turns ++ rest ≡ bytes → 3 ≤ length rest → get_or rest 0 0 ≡ 1 → get_or rest 2 0 < 256
    → blocks (turns ++ (256 * get_or rest 1 0 + get_or rest 2 0) ∷ []) ++ take (length rest - 3) (drop 3 rest) ≡ bytes
one_more turns [] bytes so_far long is low = absurd (omega arith)
one_more turns (g ∷ []) bytes so_far long is low = absurd (omega arith)
one_more turns (g ∷ a ∷ []) bytes so_far long is low = absurd (omega arith)
one_more turns (g ∷ a ∷ b ∷ rest) bytes so_far long is low =
    let t = 256 * a + b in
    let high : t / 256 ≡ a = omega (arith, low) in
    let least : t % 256 ≡ b = omega (arith, low) in
    let all : length (g ∷ a ∷ b ∷ rest) - 3 ≡ length rest = omega arith in
    let whole : take (length (g ∷ a ∷ b ∷ rest) - 3) rest ≡ rest = ap (λ (k : ℕ). take k rest) all ∙ take_all (length rest) rest (omega arith) in
    ap (λ (l : List ℕ). l ++ take (length (g ∷ a ∷ b ∷ rest) - 3) rest) (blocks-push turns t)
    ∙ append_assoc (blocks turns) (1 ∷ t / 256 ∷ t % 256 ∷ []) (take (length (g ∷ a ∷ b ∷ rest) - 3) rest)
    ∙ (λ i. blocks turns ++ (sym is i ∷ high i ∷ least i ∷ whole i))
    ∙ so_far
