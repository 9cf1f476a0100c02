-- What is done to facts leaves facts.
use Rattle.std.proofs.Common.{◌≡◌, ℕ, zero, suc, drop, Bool, true, false, not, cond, ◌&&◌, if◌then◌else◌, List, [], ◌∷◌, ◌++◌, filter, refl, ap, sym, subst, ◌∙◌, append_assoc, append-nil}
use Rattle.std.specs.Bool.{Decides}
use Rattle.std.specs.Cmp.{IsEquivalence}
use Rattle.std.specs.List.{AllByRecursion, IsDistinct, list_all}
use Rattle.std.proofs.lemmas.Bool.{false≢true}
use Rattle.std.proofs.lemmas.Bool.Decides.{same_from_decides}
use Rattle.std.proofs.lemmas.List.Folds.{list_all-append}
use Rattle.std.proofs.lemmas.Map.Keys.{IsDistinct-push}
use Rattle.asl_term.specs.declared.syntax.LiteralOf.{LiteralOf}
use Rattle.asl_term.specs.declared.syntax.Term.{Term}
use Rattle.asl_term.specs.declared.syntax.Term.TheVariants as term
use Rattle.asl_term.specs.Exprs.{is_ground_literal}
use Rattle.asl_term.proofs.Same.{same_decides}
use Rattle.mas_mind.specs.Minds.{are_ground}
use Rattle.mas_world.specs.declared.facts.Deed.{Deed}
use Rattle.mas_world.specs.Acts.{done}
use Rattle.mas_world.specs.Facts.{AreFacts, is_fact, is_settled_literal, news, same_fact, without}
use Rattle.mas_world.proofs.Literals.{as_literals}
use Rattle.mas_world.proofs.Settles.{both}

abbrev Facts : Type 0
Facts = List (LiteralOf Term)

pub fact_decides : (f g : LiteralOf Term) → Decides (same_fact f g) (f ≡ g)
fact_decides f g =
    let d = same_decides (term.Lit f) (term.Lit g) in
    ((λ e. as_literals f g (d.0 e)), (λ e. d.1 (ap term.Lit e)))

turned : (f g : LiteralOf Term) → Decides (same_fact g f) (f ≡ g)
turned f g = ((λ e. sym ((fact_decides g f).0 e)), (λ e. (fact_decides g f).1 (sym e)))

pub fact_equiv : IsEquivalence same_fact
fact_equiv = record {
  refl = λ f. (fact_decides f f).1 refl;
  symm = λ f g. same_from_decides (same_fact f g) (same_fact g f) (fact_decides f g) (turned f g);
  congr = λ f g h e. ap (λ x. same_fact x h) ((fact_decides f g).0 e);
}

-- ---- the parts of a test

pub first_of_both : (a b : Bool) → (a && b) ≡ true → a ≡ true
first_of_both true b e = refl
first_of_both false b e = e

pub second_of_both : (a b : Bool) → (a && b) ≡ true → b ≡ true
second_of_both true b e = e
second_of_both false b e = absurd (false≢true e)

module _ {X : Type 0} (p : X → Bool) where
  pub all_push : (xs : List X) (x : X) → list_all p xs ≡ true → p x ≡ true → list_all p (xs ++ x ∷ []) ≡ true
  all_push xs x a h = list_all-append p xs (x ∷ []) ∙ both (list_all p xs) (p x && true) a (both (p x) true h refl)

  pub all_append : (xs ys : List X) → list_all p xs ≡ true → list_all p ys ≡ true → list_all p (xs ++ ys) ≡ true
  all_append xs ys a b = list_all-append p xs ys ∙ both (list_all p xs) (list_all p ys) a b

  all_cond : (b : Bool) (x : X) (xs : List X) → p x ≡ true → list_all p xs ≡ true → list_all p (cond b (x ∷ xs) xs) ≡ true
  all_cond true x xs h a = both (p x) (list_all p xs) h a
  all_cond false x xs h a = a

  pub all_filter : (q : X → Bool) (xs : List X) → list_all p xs ≡ true → list_all p (filter q xs) ≡ true
  all_filter q [] a = refl
  all_filter q (x ∷ xs) a =
      all_cond (q x) x (filter q xs) (first_of_both (p x) (list_all p xs) a) (all_filter q xs (second_of_both (p x) (list_all p xs) a))

module _ {X : Type 0} where
  by_cond : (P : X → Type 0) (b : Bool) (x : X) (xs : List X) → P x → AllByRecursion P xs → AllByRecursion P (cond b (x ∷ xs) xs)
  by_cond P true x xs h a = (h, a)
  by_cond P false x xs h a = a

  by_filter : (P : X → Type 0) (q : X → Bool) (xs : List X) → AllByRecursion P xs → AllByRecursion P (filter q xs)
  by_filter P q [] a = tt
  by_filter P q (x ∷ xs) a = by_cond P (q x) x (filter q xs) a.0 (by_filter P q xs a.1)

  distinct_cond : (e : X → X → Bool) (b : Bool) (x : X) (xs : List X) → AllByRecursion (λ y. e x y ≡ false) xs → IsDistinct e xs → IsDistinct e (cond b (x ∷ xs) xs)
  unfolding IsDistinct
  distinct_cond e true x xs h d = (h, d)
  distinct_cond e false x xs h d = d

  distinct_filter : (e : X → X → Bool) (q : X → Bool) (xs : List X) → IsDistinct e xs → IsDistinct e (filter q xs)
  unfolding IsDistinct
  distinct_filter e q [] d = tt
  distinct_filter e q (x ∷ xs) d = distinct_cond e (q x) x (filter q xs) (by_filter (λ y. e x y ≡ false) q xs d.0) (distinct_filter e q xs d.1)

  pub distinct_drop : (e : X → X → Bool) (xs : List X) (k : ℕ) → IsDistinct e xs → IsDistinct e (drop k xs)
  unfolding IsDistinct
  distinct_drop e [] zero d = d
  distinct_drop e [] (suc k) d = d
  distinct_drop e (x ∷ xs) zero d = d
  distinct_drop e (x ∷ xs) (suc k) d = distinct_drop e xs k d.1

  pub both_all : (P Q R : X → Type 0) → ((x : X) → P x → Q x → R x) → (xs : List X) → AllByRecursion P xs → AllByRecursion Q xs → AllByRecursion R xs
  both_all P Q R f [] a b = tt
  both_all P Q R f (x ∷ xs) a b = (f x a.0 b.0, both_all P Q R f xs a.1 b.1)

-- ---- facts

none_distinct : IsDistinct same_fact []
unfolding IsDistinct
none_distinct = tt

pub none_are : AreFacts []
none_are = record { grounded = refl; settled = refl; distinct = none_distinct }

pub filter_are : (q : LiteralOf Term → Bool) (facts : Facts) → AreFacts facts → AreFacts (filter q facts)
filter_are q facts a = record {
  grounded = all_filter is_ground_literal q facts a.grounded;
  settled = all_filter is_settled_literal q facts a.settled;
  distinct = distinct_filter same_fact q facts a.distinct;
}

pub push_are : (facts : Facts) (f : LiteralOf Term) → AreFacts facts → is_ground_literal f ≡ true → is_settled_literal f ≡ true → is_fact facts f ≡ false → AreFacts (facts ++ f ∷ [])
push_are facts f a g s n = record {
  grounded = all_push is_ground_literal facts f a.grounded g;
  settled = all_push is_settled_literal facts f a.settled s;
  distinct = IsDistinct-push fact_equiv facts f a.distinct n;
}

-- one more that is added, and the others
one_added : (facts more : Facts) (f : LiteralOf Term) (b : Bool) → (b ≡ true → AreFacts (facts ++ news facts more)) → (b ≡ false → AreFacts ((facts ++ f ∷ []) ++ news (facts ++ f ∷ []) more)) → AreFacts (facts ++ (if b then news facts more else f ∷ news (facts ++ f ∷ []) more))
one_added facts more f true p q = p refl
one_added facts more f false p q = subst AreFacts (append_assoc facts (f ∷ []) (news (facts ++ f ∷ []) more)) (q refl)

pub news_are : (facts adds : Facts) → AreFacts facts → are_ground adds ≡ true → list_all is_settled_literal adds ≡ true → AreFacts (facts ++ news facts adds)
news_are facts [] a g s = subst AreFacts (sym (append-nil facts)) a
news_are facts (f ∷ more) a g s =
    let ground = second_of_both (is_ground_literal f) (are_ground more) g in
    let settled = second_of_both (is_settled_literal f) (list_all is_settled_literal more) s in
    one_added facts more f (is_fact facts f) (λ e. news_are facts more a ground settled)
    (λ e. news_are (facts ++ f ∷ []) more
    (push_are facts f a (first_of_both (is_ground_literal f) (are_ground more) g) (first_of_both (is_settled_literal f) (list_all is_settled_literal more) s) e)
    ground settled)

pub done_are : (d : Deed) (facts : Facts) → AreFacts facts → are_ground d.adds ≡ true → list_all is_settled_literal d.adds ≡ true → AreFacts (done d facts)
done_are d facts a g s = news_are (without d.dels facts) d.adds (filter_are (λ f. not (is_fact d.dels f)) facts a) g s
