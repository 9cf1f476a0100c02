-- What is so where a cycle is quiet, and what it leaves.
use Rattle.std.specs.Prelude.{◌≡◌, Bool, true, false, if◌then◌else◌, refl, List, [], ◌∷◌, ◌++◌, map, filter}
use Rattle.std.proofs.Common.{ap, subst, ◌∙◌}
use Rattle.asl_term.specs.declared.syntax.LiteralOf.{LiteralOf}
use Rattle.asl_term.specs.declared.syntax.Term.{Term}
use Rattle.asl_beliefs.specs.Sources.{source_percept, with_annots}
use Rattle.asl_beliefs.specs.Changes.{Changed, same_belief, not_held, news, added, all_added, followed, is_unseen, unseen, left_of, loss, as_percept, updated}

-- ---- where nothing is new or lost, the beliefs stay

abbrev Quiet : Changed → List (LiteralOf Term) → Type 0
Quiet c bs = c.events ≡ [] → c.beliefs ≡ bs

both_empty : {A : Type 0} (xs ys : List A) → (xs ++ ys) ≡ [] → (xs ≡ []) × (ys ≡ [])
both_empty [] ys h = (refl, h)
both_empty (x ∷ xs) ys h = cc

nothing_behind : {A : Type 0} (xs : List A) → (xs ++ []) ≡ xs
nothing_behind [] = refl
nothing_behind (x ∷ xs) = ap (λ ys. x ∷ ys) (nothing_behind xs)

none_new : (b c : LiteralOf Term) (new : List Term) → news b new ≡ [] → with_annots c (c.annots ++ new) ≡ c
none_new b c [] h = ap (with_annots c) (nothing_behind c.annots)
none_new b c (a ∷ new) h = cc

same_or_behind : (b c : LiteralOf Term) (bs : List (LiteralOf Term)) (same : Bool) → Quiet (added b bs) bs
    → Quiet (if same then record { beliefs = with_annots c (c.annots ++ not_held c.annots b.annots) ∷ bs; events = news b (not_held c.annots b.annots) }
    else record { beliefs = c ∷ (added b bs).beliefs; events = (added b bs).events }) (c ∷ bs)
same_or_behind b c bs true h e = ap (λ d. d ∷ bs) (none_new b c (not_held c.annots b.annots) e)
same_or_behind b c bs false h e = ap (λ ds. c ∷ ds) (h e)

added_quiet : (b : LiteralOf Term) (bs : List (LiteralOf Term)) → Quiet (added b bs) bs
added_quiet b [] e = cc
added_quiet b (c ∷ bs) e = same_or_behind b c bs (same_belief b c) (added_quiet b bs) e

follows : (c : Changed) (next : List (LiteralOf Term) → Changed) (bs : List (LiteralOf Term)) → Quiet c bs → Quiet (next bs) bs → Quiet (followed c next) bs
follows c next bs h g e =
    let first : c.events ≡ [] = (both_empty c.events (next c.beliefs).events e).0 in
    let second : (next c.beliefs).events ≡ [] = (both_empty c.events (next c.beliefs).events e).1 in
    let same : c.beliefs ≡ bs = h first in
    ap (λ x. (next x).beliefs) same ∙ g (subst (λ x. (next x).events ≡ []) same second)

all_added_quiet : (ls bs : List (LiteralOf Term)) → Quiet (all_added ls bs) bs
all_added_quiet [] bs e = refl
all_added_quiet (l ∷ ls) bs e = follows (added l bs) (all_added ls) bs (added_quiet l bs) (all_added_quiet ls bs) e

one_seen : (percepts : List (LiteralOf Term)) (b : LiteralOf Term) (bs : List (LiteralOf Term)) (unseen_one : Bool)
    → map (loss (source_percept ∷ [])) (if unseen_one then b ∷ filter (is_unseen percepts) bs else filter (is_unseen percepts) bs) ≡ []
    → Quiet (unseen percepts bs) bs
    → ((if unseen_one then left_of (source_percept ∷ []) b else b ∷ []) ++ (unseen percepts bs).beliefs) ≡ b ∷ bs
one_seen percepts b bs true e h = cc
one_seen percepts b bs false e h = ap (λ ds. b ∷ ds) (h e)

unseen_quiet : (percepts bs : List (LiteralOf Term)) → Quiet (unseen percepts bs) bs
unseen_quiet percepts [] e = refl
unseen_quiet percepts (b ∷ bs) e = one_seen percepts b bs (is_unseen percepts b) e (unseen_quiet percepts bs)

pub updated_quiet : (percepts bs : List (LiteralOf Term)) → (updated percepts bs).events ≡ [] → (updated percepts bs).beliefs ≡ bs
updated_quiet percepts bs =
    follows (unseen percepts bs) (all_added (map as_percept percepts)) bs (unseen_quiet percepts bs) (all_added_quiet (map as_percept percepts) bs)
