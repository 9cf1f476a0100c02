-- The agents of the demo have names of their own.
use Rattle.std.proofs.Common.{◌≡◌, ◌≤◌, ◌<◌, ℕ, zero, suc, ◌+◌, Bool, true, false, List, [], ◌∷◌, map, length, refl, ap, sym, ◌∙◌, subst, arith}
use Rattle.std.specs.Fmt.{decimal}
use Rattle.std.specs.List.{range_with_len, AllByRecursion, IsDistinct}
use Rattle.std.specs.Str.{bytes_eq}
use Rattle.std.proofs.lemmas.Fmt.{decimal_injective}
use Rattle.std.proofs.lemmas.List.FromFn.{length-map-range_with_len}
use Rattle.std.proofs.lemmas.Slice.Eq.{bytes_eq-Decides}
use Rattle.asl_lexer.proofs.Seams.{before_stop, whole}
use Rattle.mas_project.specs.Names.{names_of, agents_of}
use Rattle.mas_project.specs.Projects.{IsProject, IsWithin}
use Rattle.mas_top_demo.specs.Files.{agent_name, project_source}
use Rattle.mas_top_demo.proofs.Tokens.{Few}
use Rattle.mas_top_demo.proofs.Project.{project_given}
use Rattle.mas_top_demo.proofs.Entries.{agent_line, demo_project, say_project}

some_tail : (x : ℕ) (xs ys : List ℕ) → x ∷ xs ≡ x ∷ ys → xs ≡ ys
some_tail x xs ys e = cc

-- a name has one number
pub same_number : (i j : ℕ) → Few i → Few j → agent_name i ≡ agent_name j → i ≡ j
same_number i j l k e = decimal_injective i j (omega (arith, l)) (omega (arith, k)) (some_tail 119 (decimal i) (decimal j) e)

-- agents of two numbers have two names
pub other_name : (i j : ℕ) → Few j → i < j → bytes_eq (agent_name i) (agent_name j) ≡ false
other_name i j k l = go (bytes_eq (agent_name i) (agent_name j)) refl
  where
    go : (b : Bool) → bytes_eq (agent_name i) (agent_name j) ≡ b → b ≡ false
    go true e = absurd (omega (arith, same_number i j (omega (arith, k, l)) k ((bytes_eq-Decides (agent_name i) (agent_name j)).0 e), l))
    go false e = refl

others : (i a n : ℕ) → Few (a + n) → i < a → AllByRecursion (λ (y : List ℕ). bytes_eq (agent_name i) y ≡ false) (map agent_name (range_with_len a n))
others i a zero k l = tt
others i a (suc n) k l = (other_name i a (omega (arith, k)) l, others i (a + 1) n (omega (arith, k)) (omega (arith, l)))

distinct : (a n : ℕ) → Few (a + n) → IsDistinct bytes_eq (map agent_name (range_with_len a n))
unfolding IsDistinct
distinct a zero k = tt
distinct a (suc n) k = (others a (a + 1) n (omega (arith, k)) (omega arith), distinct (a + 1) n (omega (arith, k)))

pub names_are : (ns : List ℕ) → names_of (map agent_line ns) ≡ map agent_name ns
names_are [] = refl
names_are (n ∷ ns) = ap (λ names. agent_name n ∷ names) (names_are ns)

pub agents_are : (k : ℕ) → agents_of (demo_project k).agents ≡ k
agents_are k = ap length (names_are (range_with_len 1 k)) ∙ length-map-range_with_len agent_name 1 k

within : (k : ℕ) → k ≤ 200 → IsWithin (demo_project k).agents
within k l = record {
  few = omega (arith, agents_are k, l);
  distinct = subst (IsDistinct bytes_eq) (sym (names_are (range_with_len 1 k))) (distinct 1 k (omega (arith, l)));
}

some_project : (k : ℕ) → suc k ≤ 200 → IsProject (project_source (suc k)) (demo_project (suc k))
some_project k l =
    let t = whole (before_stop (project_given (suc k) (omega (arith, l)))) in
    record { tokens = t.toks; lexed = t.lexed; says = say_project k t.toks t.same; within = within (suc k) l }

-- the file of the demo's project is that of a project with so many agents
pub is_project : (k : ℕ) → 1 ≤ k → k ≤ 200 → IsProject (project_source k) (demo_project k)
is_project zero l h = absurd (omega (arith, l))
is_project (suc k) l h = some_project k h
