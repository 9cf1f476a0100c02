-- The plan that is found is the one that the bytes are.
use Rattle.std.proofs.Common.{◌≡◌, ◌<◌, ℕ, zero, suc, ◌+◌, ◌-◌, List, [], ◌∷◌, ◌++◌, length, Option, Some, None, Result, Ok, Err, IfErr, refl, ap, sym, ◌∙◌, subst, length-append, arith}
use Rattle.std.specs.List.{slice_get}
use Rattle.asl_term.specs.declared.syntax.AgentText.{AgentText}
use Rattle.asl_term.specs.declared.syntax.Plan.{Plan}
use Rattle.asl_parser_expr.specs.declared.fault.TextFault.{TextFault}
use Rattle.asl_parser_expr.specs.declared.fault.TextFault.TheVariants.{Memory, Lex, Clause, Limit}
use Rattle.asl_parser.specs.declared.sentence.Sentence.{Sentence}
use Rattle.asl_parser.specs.declared.sentence.Sentence.TheVariants as sentence
use Rattle.asl_parser.specs.Agents.{AreSentences, IsAgent, IsAnswer, IsNone, added, all_added, nothing}
use Rattle.asl_parser.proofs.Single.{one_answer}
use Rattle.asl_parser.proofs.Total.{some_answer}
use Rattle.asl_print_plan.specs.Laws.{FoundIsPlan, PlanIsFound}
use Rattle.asl_print.specs.Agents.{alone}
use Rattle.asl_print_plan.specs.Plans.{IsPlan, plan_said, only_said, plan_answered, plan_in}

no_last : {A : Type 0} (xs : List A) (k : ℕ) → k < length xs → slice_get xs k ≡ None → ⊥
no_last [] k h e = omega (arith, h)
no_last (x ∷ xs) zero h e = cc
no_last (x ∷ xs) (suc k) h e = no_last xs k (omega (arith, h)) e

-- what bytes answer decides which plan they are
pub by_answer : (bytes : List ℕ) (r : Result (List Sentence) TextFault) → IsAnswer bytes r → plan_in bytes ≡ plan_answered r
unfolding plan_in
by_answer bytes r is = let a = some_answer bytes in ap plan_answered (one_answer bytes a.0 r a.1 is)

pub is_said : (bytes : List ℕ) (said : List Sentence) (o : Option Plan) → AreSentences bytes said → o ≡ only_said said → o ≡ plan_in bytes
is_said bytes said o is e = e ∙ sym (by_answer bytes (Ok said) is)

pub is_refused : (bytes : List ℕ) (fault : TextFault) → IsNone bytes fault → (fault ≡ Memory → ⊥) → None ≡ plan_in bytes
is_refused bytes Memory is h = absurd (h refl)
is_refused bytes (Lex fault) is h = sym (by_answer bytes (Err (Lex fault)) is)
is_refused bytes (Clause number line column) is h = sym (by_answer bytes (Err (Clause number line column)) is)
is_refused bytes (Limit number) is h = sym (by_answer bytes (Err (Limit number)) is)

-- ---- of sentences, the last and those before it

pub none_said : (said : List Sentence) → None ≡ slice_get said (length said - 1) → None ≡ only_said said
none_said [] e = refl
none_said (s ∷ []) e =
    let first : length (s ∷ []) - 1 ≡ 0 = omega arith in absurd (no_last (s ∷ []) 0 (omega arith) (ap (slice_get (s ∷ [])) (sym first) ∙ sym e))
none_said (s ∷ t ∷ more) e = refl

pub one_said_alone : (said left : List Sentence) (s : Sentence) → said ≡ left ++ s ∷ [] → length left ≡ 0 → plan_said s ≡ only_said said
one_said_alone said [] s e h = sym (ap only_said e)
one_said_alone said (t ∷ left) s e h = absurd (omega (arith, h))

pub more_said : (said left : List Sentence) (s : Sentence) → said ≡ left ++ s ∷ [] → (length left ≡ 0 → ⊥) → None ≡ only_said said
more_said said [] s e h = absurd (h refl)
more_said said (t ∷ []) s e h = sym (ap only_said e)
more_said said (t ∷ u ∷ left) s e h = sym (ap only_said e)

-- ---- what sentences say together

some_plan : {p q : Plan} → Some p ≡ Some q → p ≡ q
some_plan e = cc

one_said : (said : List Sentence) (p : Plan) → only_said said ≡ Some p → said ≡ sentence.Plan p ∷ []
one_said [] p e = cc
one_said (sentence.Plan q ∷ []) p e = ap (λ x. sentence.Plan x ∷ []) (some_plan e)
one_said (sentence.Belief l ∷ []) p e = cc
one_said (sentence.Rule c ∷ []) p e = cc
one_said (sentence.Goal g ∷ []) p e = cc
one_said (s ∷ t ∷ more) p e = cc

answered_ok : (r : Result (List Sentence) TextFault) (p : Plan) → plan_answered r ≡ Some p → r ≡ Ok (sentence.Plan p ∷ [])
answered_ok (Ok said) p e = ap (λ x. Ok x) (one_said said p e)
answered_ok (Err fault) p e = cc

pub found_is_plan : FoundIsPlan
unfolding plan_in
found_is_plan bytes p e =
    let a = some_answer bytes in
    let is : AreSentences bytes (sentence.Plan p ∷ []) = subst (IsAnswer bytes) (answered_ok a.0 p e) a.1 in
    record { sentences = sentence.Plan p ∷ []; said = is; together = refl }

-- ---- one sentence

abbrev size : AgentText → ℕ
size a = length a.beliefs + length a.rules + length a.goals + length a.plans

one_more : {A : Type 0} (xs : List A) (x : A) → length (xs ++ x ∷ []) ≡ suc (length xs)
one_more xs x = omega (arith, length-append xs (x ∷ []))

size_added : (a : AgentText) (s : Sentence) → size (added a s) ≡ suc (size a)
size_added a (sentence.Belief l) = omega (arith, one_more a.beliefs l)
size_added a (sentence.Rule c) = omega (arith, one_more a.rules c)
size_added a (sentence.Goal g) = omega (arith, one_more a.goals g)
size_added a (sentence.Plan p) = omega (arith, one_more a.plans p)

all_size : (a : AgentText) (ss : List Sentence) → size (all_added a ss) ≡ size a + length ss
all_size a [] = omega arith
all_size a (s ∷ ss) = omega (arith, all_size (added a s) ss, size_added a s)

no_more : {A : Type 0} (xs : List A) → suc (length xs) ≡ 1 → xs ≡ []
no_more [] e = refl
no_more (x ∷ xs) e = absurd (omega (arith, e))

one_plan : (s : Sentence) (p : Plan) → alone p ≡ added nothing s → plan_said s ≡ Some p
one_plan (sentence.Belief l) p e = let h : p ∷ [] ≡ [] = ap (λ (a : AgentText). a.plans) e in cc
one_plan (sentence.Rule c) p e = let h : p ∷ [] ≡ [] = ap (λ (a : AgentText). a.plans) e in cc
one_plan (sentence.Goal g) p e = let h : p ∷ [] ≡ [] = ap (λ (a : AgentText). a.plans) e in cc
one_plan (sentence.Plan q) p e = let h : p ∷ [] ≡ q ∷ [] = ap (λ (a : AgentText). a.plans) e in cc

together_one : (ss : List Sentence) (p : Plan) → alone p ≡ all_added nothing ss → only_said ss ≡ Some p
together_one [] p e = absurd (omega (arith, ap size e))
together_one (s ∷ ss) p e =
    let count : suc (length ss) ≡ 1 = omega (arith, ap size e, all_size nothing (s ∷ ss)) in
    let none : ss ≡ [] = no_more ss count in
    ap (λ more. only_said (s ∷ more)) none ∙ one_plan s p (e ∙ ap (λ more. all_added (added nothing s) more) none)

pub plan_is_found : PlanIsFound
plan_is_found bytes p is = by_answer bytes (Ok is.sentences) is.said ∙ together_one is.sentences p is.together
