-- AskAll by the list of the goal over all solutions.
use Rattle.std.proofs.Common.{◌≡◌, ℕ, Bool, true, false, ◌&&◌, List, [], ◌∷◌, map, cond, refl, ap, sym, ◌∙◌}
use Rattle.std.specs.List.{list_all}
use Rattle.asl_term.specs.declared.syntax.LiteralOf.{LiteralOf}
use Rattle.asl_term.specs.declared.syntax.Term.{Term}
use Rattle.asl_term.specs.declared.syntax.Term.TheVariants as term
use Rattle.asl_unify.specs.declared.subst.Pair.{Pair}
use Rattle.asl_unify.specs.Applied.{applied_literal, within_literal}
use Rattle.asl_unify.specs.Limits.{within}
use Rattle.asl_unify.specs.Puts.{nil, value_of, apply}
use Rattle.asl_unify.proofs.General.{put-lit}
use Rattle.asl_exec_circumstance.specs.Circumstance.{Circumstance}
use Rattle.asl_exec_circumstance.specs.declared.rows.Row.TheVariants as row
use Rattle.asl_resolve.specs.Calls.{listed}
use Rattle.asl_resolve.specs.Listed.{list_of}
use Rattle.asl_resolve.specs.declared.answers.Answers.{Answers}
use Rattle.asl_resolve.specs.declared.answers.Answers.TheVariants as answers
use Rattle.asl_resolve.specs.declared.answers.Listed.TheVariants as given
use Rattle.asl_resolve.specs.inner.Growing.{closed}
use Rattle.asl_resolve.proofs.Counted.{item_within}
use Rattle.mas_mind.specs.declared.mind.Message.{Message}
use Rattle.asl_kqml.specs.Receive.{list, limited_list, ask_all, replies, reply}
use Rattle.asl_kqml.specs.inner.Asks.{ask_listed}

-- each item of a list within the limits is within them
all_within : (ls : List (LiteralOf Term)) → within (list ls) ≡ true → list_all within_literal ls ≡ true
all_within [] h = refl
all_within (l ∷ ls) h =
    let r = item_within (term.Lit l) (map term.Lit ls) h in
    ap (λ b. b && list_all within_literal ls) r.0 ∙ all_within ls r.1

by_limits : (ls : List (LiteralOf Term)) (b : Bool) → within (list ls) ≡ b → limited_list ls ≡ cond b (list ls) nil
by_limits ls true h = ap (λ c. cond (c && within (list ls)) (list ls) nil) (all_within ls h) ∙ ap (λ c. cond c (list ls) nil) h
by_limits ls false h = both_false (list_all within_literal ls) ∙ refl where
  both_false : (c : Bool) → cond (c && within (list ls)) (list ls) nil ≡ nil
  both_false true = ap (λ d. cond d (list ls) nil) h
  both_false false = refl

abbrev ones : LiteralOf Term → List (List Pair) → List (LiteralOf Term)
ones g found = map (λ s. applied_literal s g) found

items_of : (g : LiteralOf Term) (found : List (List Pair)) → map (λ s. apply s (term.Lit g)) found ≡ map term.Lit (ones g found)
items_of g [] = refl
items_of g (s ∷ more) =
    ap (λ x. x ∷ map (λ u. apply u (term.Lit g)) more) (put-lit (value_of s) g)
    ∙ ap (λ xs. term.Lit (applied_literal s g) ∷ xs) (items_of g more)

same_list : (g : LiteralOf Term) (found : List (List Pair)) → listed (term.Lit g) found ≡ list (ones g found)
same_list g found = ap (λ xs. closed xs) (items_of g found)

module _ (me : ℕ) (m : Message) (p : Circumstance) (g : LiteralOf Term) where
  by_list : (t : Term) (b : Bool) → ask_listed me m p (cond b (given.List t) given.TermLimit) ≡ replies row.AskAll p (reply me m (cond b t nil))
  by_list t true = refl
  by_list t false = refl

  pub asked_all : (a : Answers) → ask_listed me m p (list_of (term.Lit g) a) ≡ ask_all me m p g a
  asked_all (answers.All found) =
      let ls = ones g found in
      ap (λ t. ask_listed me m p (cond (within t) (given.List t) given.TermLimit)) (same_list g found)
      ∙ by_list (list ls) (within (list ls))
      ∙ ap (λ t. replies row.AskAll p (reply me m t)) (sym (by_limits ls (within (list ls)) refl))
  asked_all (answers.Spent b) = refl
  asked_all answers.Arith = refl
  asked_all answers.TermLimit = refl
