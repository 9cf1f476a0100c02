-- What is written of hints.
use Rattle.std.proofs.Common.{◌≡◌, ℕ, ◌+◌, ◌≤◌, Bool, true, false, ◌||◌, List, [], ◌∷◌, ◌++◌, length, nat_lt, refl, sym, ap, ◌∙◌, arith}
use Rattle.std.specs.List.{flat_map, list_any}
use Rattle.std.proofs.lemmas.Bool.Decides.{nat_tests}
use Rattle.look_hints.specs.declared.finding.HintsTold.{HintsTold}
use Rattle.look_hints.specs.declared.project.Member.{Member}
use Rattle.look_hints.specs.Planless.{all_planless, TellsGoals}
use Rattle.look_hints.specs.Showing.{file_text, is_told, IsHints, count_planless, count_hints, AreWritten}

pub is_text : (files : List HintsTold) (found : Bool) (text last : List ℕ) → found ≡ list_any is_told files → text ≡ flat_map file_text files ++ last → IsHints files found text
is_text files found text last f e = record { some = f; behind = last; text_is = e }

count_push : (ts : List HintsTold) (t : HintsTold) → count_hints (ts ++ t ∷ []) ≡ count_hints ts + length t.findings
count_push [] t = omega arith
count_push (x ∷ xs) t = omega (arith, count_push xs t)

pub counted : (tells_plans : Bool) (ts : List HintsTold) (t : HintsTold) (m : Member) (ms : List Member) (total : ℕ) →
    total ≤ count_hints ts + count_planless tells_plans (m ∷ ms) → TellsGoals tells_plans m.source.clauses t.findings →
    total ≤ count_hints (ts ++ t ∷ []) + count_planless tells_plans ms
counted tells_plans ts t m ms total h e = omega (arith, h, e, count_push ts t)

pub all_counted : (tells_plans : Bool) (ts : List HintsTold) (ms : List Member) (total : ℕ) → length ms ≡ 0 → total ≤ count_hints ts + count_planless tells_plans ms →
    total ≤ count_hints ts
all_counted tells_plans ts [] total e h = omega (arith, h)
all_counted tells_plans ts (m ∷ ms) total e h = absurd (omega arith)

pub one_more : (ts : List HintsTold) (t : HintsTold) → count_hints ts ≤ count_hints (ts ++ t ∷ [])
one_more ts t = omega (arith, count_push ts t)

or_false : (a b : Bool) → (a || b) ≡ false → (a ≡ false) × (b ≡ false)
or_false true b h = absurd cc
or_false false b h = (refl, h)

not_told : (n : ℕ) → nat_lt 0 n ≡ false → n ≡ 0
not_told n h = grind (arith, nat_tests)

none_told : (ts : List HintsTold) → list_any is_told ts ≡ false → count_hints ts ≡ 0
none_told [] h = refl
none_told (t ∷ ts) h =
    let both : (is_told t ≡ false) × (list_any is_told ts ≡ false) = or_false (is_told t) (list_any is_told ts) h in
    omega (arith, not_told (length t.findings) both.0, none_told ts both.1)

pub is_written : (tells_plans : Bool) (ms : List Member) (first files : List HintsTold) (found : Bool) (text : List ℕ) →
    count_planless tells_plans ms ≤ count_hints first → count_hints first ≤ count_hints files → IsHints files found text → AreWritten tells_plans ms found text
is_written tells_plans ms first files found text a b h = record {
  files = files;
  shown = h;
  quiet = λ e. omega (arith, a, b, none_told files (sym h.some ∙ e));
}
