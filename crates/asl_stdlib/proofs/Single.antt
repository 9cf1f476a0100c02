-- An action other than `.member` has at most one solution.
use Rattle.std.proofs.Common.{◌≡◌, ◌≤◌, ℕ, Bool, true, false, List, [], ◌∷◌, ◌++◌, map, length, cond, codes, Option, Some, None, Ok, Err, ltb, ◌-◌, take, refl, sym, subst, arith}
use Rattle.std.specs.List.{slice_get}
use Rattle.std.specs.Str.{bytes_eq}
use Rattle.asl_term.specs.Trees.{all}
use Rattle.asl_term.specs.declared.syntax.Term.{Term}
use Rattle.asl_term_actions.specs.declared.action.Action.{Action}
use Rattle.asl_term_actions.specs.declared.action.Action.TheVariants as action
use Rattle.asl_term_actions.specs.declared.action.Look.TheVariants as look
use Rattle.asl_term_actions.specs.declared.action.Test.{Test}
use Rattle.asl_term_actions.specs.Actions.{named}
use Rattle.asl_term_actions.proofs.Names.{not_member}
use Rattle.asl_unify.specs.declared.subst.Pair.{Pair}
use Rattle.asl_unify.specs.Compare.{ask, Outcome, Unified, Failed}
use Rattle.asl_unify.specs.Limits.{within}
use Rattle.asl_unify.specs.Matches.{on_unified}
use Rattle.asl_unify.specs.Puts.{apply}
use Rattle.asl_unify.specs.Settling.{Settled, each, settle}
use Rattle.asl_unify.specs.Unified.{unified}
use Rattle.asl_resolve.specs.declared.actions.Inner.TheVariants.{Sols, TermLimit}
use Rattle.asl_stdlib.specs.declared.numbers.Extreme.{Extreme}
use Rattle.asl_stdlib.specs.declared.numbers.Extreme.TheVariants.{Least, Greatest}
use Rattle.asl_stdlib.specs.Findings.{Finding, Holds, Gives, nothing, gives, solutions}
use Rattle.asl_stdlib.specs.Rows as row
use Rattle.asl_stdlib.specs.Solving.{found_by, on_settled, solve}

-- at most one result
abbrev One : Finding → Type 0
One (Holds b) = Unit {0}
One (Gives x results) = length results ≤ 1

met : (o : Outcome) → length (on_unified (λ (t : List Pair). t ∷ []) o ++ []) ≤ 1
met (Unified u) = omega arith
met (Failed f) = omega arith

solutions_one : (f : Finding) (s : List Pair) → One f → length (solutions f s) ≤ 1
solutions_one (Holds true) s h = omega arith
solutions_one (Holds false) s h = omega arith
solutions_one (Gives x []) s h = omega arith
solutions_one (Gives x (r ∷ [])) s h = met (unified s (ask x r ∷ []))
solutions_one (Gives x (r ∷ q ∷ more)) s h = absurd (omega (arith, h))

gives_one : (x : Term) (o : Option Term) → One (gives x o)
gives_one x (Some r) = omega arith
gives_one x None = tt

length_one : (args : List Term) → One (row.length_row args)
length_one [] = tt
length_one (l ∷ []) = tt
length_one (l ∷ n ∷ []) = gives_one n _
length_one (l ∷ n ∷ x ∷ more) = tt

nth_one : (args : List Term) → One (row.nth_row args)
nth_one [] = tt
nth_one (i ∷ []) = tt
nth_one (i ∷ l ∷ []) = tt
nth_one (i ∷ l ∷ x ∷ []) = gives_one x _
nth_one (i ∷ l ∷ x ∷ y ∷ more) = tt

reverse_one : (args : List Term) → One (row.reverse_row args)
reverse_one [] = tt
reverse_one (l ∷ []) = tt
reverse_one (l ∷ r ∷ []) = gives_one r _
reverse_one (l ∷ r ∷ x ∷ more) = tt

best_one : (e : Extreme) (args : List Term) → One (row.best_row e args)
best_one e [] = tt
best_one e (l ∷ []) = tt
best_one e (l ∷ r ∷ []) = gives_one r _
best_one e (l ∷ r ∷ x ∷ more) = tt

name_one : (me : List ℕ) (args : List Term) → One (row.my_name_row me args)
name_one me [] = tt
name_one me (x ∷ []) = omega arith
name_one me (x ∷ y ∷ more) = tt

test_one : (k : Test) (args : List Term) → One (row.test_row k args)
test_one k [] = tt
test_one k (t ∷ []) = tt
test_one k (t ∷ x ∷ more) = tt

joined_one : (b : Bool) (o : Option Term) (given : List Term) → One (cond b nothing (row.gives_joined o given))
joined_one true o given = tt
joined_one false (Some r) given = omega arith
joined_one false None given = tt

concat_one : (args : List Term) → One (row.concat_row args)
concat_one args = joined_one (ltb (length args) 3) (slice_get args (length args - 1)) (take (length args - 1) args)

-- what an action finds
abbrev Single : Option Action → Type 0
Single o = (me : List ℕ) (args : List Term) → One (found_by me o args)

singles : (o : Option Action) → (o ≡ Some (action.Looks look.Member) → ⊥) → Single o
singles (Some (action.Looks look.Member)) h = absurd (h refl)
singles (Some (action.Looks look.Length)) h = λ me args. length_one args
singles (Some (action.Looks look.Nth)) h = λ me args. nth_one args
singles (Some (action.Looks look.Concat)) h = λ me args. concat_one args
singles (Some (action.Looks look.Max)) h = λ me args. best_one Greatest args
singles (Some (action.Looks look.Min)) h = λ me args. best_one Least args
singles (Some (action.Looks look.Reverse)) h = λ me args. reverse_one args
singles (Some (action.Looks look.MyName)) h = λ me args. name_one me args
singles (Some (action.Looks (look.Passes k))) h = λ me args. test_one k args
singles other h = λ me args. tt

settled_one : (inside : Bool) (me name : List ℕ) (s : List Pair) (ts : List (List Pair)) (r : Settled (List Term)) → Single (named name)
    → cond inside (on_settled me name s r) TermLimit ≡ Sols ts → length ts ≤ 1
settled_one true me name s ts (Ok args) h e =
    let same : ts ≡ solutions (found_by me (named name) args) s = cc in
    subst (λ us. length us ≤ 1) (sym same) (solutions_one (found_by me (named name) args) s (h me args))
settled_one true me name s ts (Err f) h e = absurd cc
settled_one false me name s ts r h e = absurd cc

pub solve_one : (me name : List ℕ) (args : List Term) (s : List Pair) (ts : List (List Pair)) → bytes_eq name (codes "member") ≡ false
    → solve me name args s ≡ Sols ts → length ts ≤ 1
solve_one me name args s ts h e =
    let put = map (apply s) args in
    settled_one (all (map within put)) me name s ts (each (map settle put)) (singles (named name) (not_member name h)) e
