-- What is added to a library, and what is dropped from it.
use Rattle.std.proofs.Common.{◌≡◌, ◌≤◌, ℕ, zero, suc, ◌+◌, ◌&&◌, ◌||◌, Bool, true, false, List, [], ◌∷◌, ◌++◌, map, length, take, drop, Some, cond, refl, ap, sym, ◌∙◌, arith}
use Rattle.std.specs.List.{slice_get, slice_set, list_any, list_all, filter}
use Rattle.std.proofs.lemmas.Bool.{false≢true, true≢false}
use Rattle.std.proofs.lemmas.List.{append-nil, take_all, drop_all}
use Rattle.asl_term.specs.declared.syntax.Plan.{Plan}
use Rattle.asl_plans.specs.declared.entry.OwnedPlan.{OwnedPlan}
use Rattle.asl_plans.specs.declared.entry.Which.{Which}
use Rattle.asl_plans.specs.Same.{same_plan}
use Rattle.asl_plans.specs.Libraries.{has_plan, owns, is_owned, with_owner, entry, added, all_added, is_meant, without_owner, lost, has_owner, dropped, AreDistinct, AreEntries}
use Rattle.asl_plans.specs.Laws.{OpenedAreEntries, AddedAreEntries, DroppedAreEntries}
use Rattle.asl_plans.proofs.SamePlans.{plan_true, plan_self}

-- ---- added: a plan that is not there goes last

or_false : (a b : Bool) → (a || b) ≡ false → (a ≡ false) × (b ≡ false)
or_false true b e = absurd (true≢false e)
or_false false b e = (refl, e)

pub added_new : (p : Plan) (o : ℕ) (lib : List OwnedPlan) → has_plan p lib ≡ false → added p o lib ≡ lib ++ entry p o ∷ []
added_new p o [] h = refl
added_new p o (e ∷ more) h =
    let g = or_false (same_plan p e.plan) (has_plan p more) h in
    ap (λ b. cond b (with_owner o e ∷ more) (e ∷ added p o more)) g.0 ∙ ap (λ z. e ∷ z) (added_new p o more g.1)

pub not_owned : (p : Plan) (o : ℕ) (lib : List OwnedPlan) → has_plan p lib ≡ false → is_owned p o lib ≡ false
not_owned p o [] h = refl
not_owned p o (e ∷ more) h =
    let g = or_false (same_plan p e.plan) (has_plan p more) h in
    ap (λ b. (b && owns o e) || is_owned p o more) g.0 ∙ not_owned p o more g.1

-- ---- a plan that is there has one owner more

same_has : (p q : Plan) (lib : List OwnedPlan) → p ≡ q → has_plan p lib ≡ has_plan q lib
same_has p q lib e = ap (λ x. has_plan x lib) e

there : (p : Plan) (lib : List OwnedPlan) (k : ℕ) (e : OwnedPlan) → slice_get lib k ≡ Some e → same_plan p e.plan ≡ true → has_plan p lib ≡ true
there p [] k e at s = cc
there p (d ∷ more) zero e at s = let is : d ≡ e = cc in ap (λ x. same_plan p x.plan || has_plan p more) is ∙ ap (λ b. b || has_plan p more) s
there p (d ∷ more) (suc k) e at s = go (same_plan p d.plan) (there p more k e at s) where
  go : (b : Bool) → has_plan p more ≡ true → (b || has_plan p more) ≡ true
  go true h = refl
  go false h = h

-- the plan of the first is not behind it
not_first : (p : Plan) (d : OwnedPlan) (more : List OwnedPlan) (k : ℕ) (e : OwnedPlan) → AreDistinct (d ∷ more) → slice_get more k ≡ Some e → same_plan p e.plan ≡ true
    → same_plan p d.plan ≡ false
not_first p d more k e h at s = go (same_plan p d.plan) refl where
  go : (b : Bool) → same_plan p d.plan ≡ b → b ≡ false
  go true u =
      let one : d.plan ≡ p = sym (plan_true p d.plan u) in
      absurd (true≢false (sym (there p more k e at s) ∙ same_has p d.plan more (sym one) ∙ h.0))
  go false u = refl

pub added_there : (p : Plan) (o : ℕ) (lib : List OwnedPlan) (k : ℕ) (e : OwnedPlan) → AreDistinct lib → slice_get lib k ≡ Some e → same_plan p e.plan ≡ true
    → added p o lib ≡ slice_set lib k (with_owner o e)
added_there p o [] k e h at s = cc
added_there p o (d ∷ more) zero e h at s =
    let is : d ≡ e = cc in
    ap (λ b. cond b (with_owner o d ∷ more) (d ∷ added p o more)) (ap (λ x. same_plan p x.plan) is ∙ s) ∙ ap (λ x. with_owner o x ∷ more) is
added_there p o (d ∷ more) (suc k) e h at s =
    ap (λ b. cond b (with_owner o d ∷ more) (d ∷ added p o more)) (not_first p d more k e h at s) ∙ ap (λ z. d ∷ z) (added_there p o more k e h.1 at s)

pub owned_there : (p : Plan) (o : ℕ) (lib : List OwnedPlan) (k : ℕ) (e : OwnedPlan) → AreDistinct lib → slice_get lib k ≡ Some e → same_plan p e.plan ≡ true
    → is_owned p o lib ≡ owns o e
owned_there p o [] k e h at s = cc
owned_there p o (d ∷ more) zero e h at s =
    let is : d ≡ e = cc in
    let here : same_plan p d.plan ≡ true = ap (λ x. same_plan p x.plan) is ∙ s in
    let none = not_owned p o more (same_has p d.plan more (plan_true p d.plan here) ∙ h.0) in
    ap (λ b. (b && owns o d) || is_owned p o more) here ∙ ap (λ b. owns o d || b) none ∙ or_right (owns o d) ∙ ap (owns o) is
  where
    or_right : (b : Bool) → (b || false) ≡ b
    or_right true = refl
    or_right false = refl
owned_there p o (d ∷ more) (suc k) e h at s =
    ap (λ b. (b && owns o d) || is_owned p o more) (not_first p d more k e h at s) ∙ owned_there p o more k e h.1 at s

-- ---- no two entries have equal plans, and each is from someone

pub owner_plan : (o : ℕ) (e : OwnedPlan) → (with_owner o e).plan ≡ e.plan
owner_plan o e = go (owns o e) where
  go : (b : Bool) → (cond b e (record { plan = e.plan; owners = e.owners ++ o ∷ [] })).plan ≡ e.plan
  go true = refl
  go false = refl

symmetric : (p q : Plan) → same_plan p q ≡ false → same_plan q p ≡ false
symmetric p q e = go (same_plan q p) refl where
  go : (b : Bool) → same_plan q p ≡ b → b ≡ false
  go true u = absurd (true≢false (sym (ap (same_plan p) (plan_true q p u) ∙ plan_self p) ∙ e))
  go false u = refl

-- what has another plan at each place is not there
has_added : (q p : Plan) (o : ℕ) (lib : List OwnedPlan) → same_plan q p ≡ false → has_plan q (added p o lib) ≡ has_plan q lib
has_added q p o [] h = ap (λ b. b || false) h
has_added q p o (e ∷ more) h = go (same_plan p e.plan) (has_added q p o more h) where
  go : (b : Bool) → has_plan q (added p o more) ≡ has_plan q more → has_plan q (cond b (with_owner o e ∷ more) (e ∷ added p o more)) ≡ has_plan q (e ∷ more)
  go true later = ap (λ x. same_plan q x || has_plan q more) (owner_plan o e)
  go false later = ap (λ b. same_plan q e.plan || b) later

distinct_added : (p : Plan) (o : ℕ) (lib : List OwnedPlan) → AreDistinct lib → AreDistinct (added p o lib)
distinct_added p o [] h = (refl, tt)
distinct_added p o (e ∷ more) h = go (same_plan p e.plan) refl (distinct_added p o more h.1) where
  go : (b : Bool) → same_plan p e.plan ≡ b → AreDistinct (added p o more) → AreDistinct (cond b (with_owner o e ∷ more) (e ∷ added p o more))
  go true u later = (ap (λ x. has_plan x more) (owner_plan o e) ∙ h.0, h.1)
  go false u later = (has_added e.plan p o more (symmetric p e.plan u) ∙ h.0, later)

has_more : (xs : List ℕ) (o : ℕ) → list_any (λ x. true) (xs ++ o ∷ []) ≡ true
has_more [] o = refl
has_more (x ∷ xs) o = refl

owner_has : (o : ℕ) (e : OwnedPlan) → has_owner e ≡ true → has_owner (with_owner o e) ≡ true
owner_has o e h = go (owns o e) where
  go : (b : Bool) → has_owner (cond b e (record { plan = e.plan; owners = e.owners ++ o ∷ [] })) ≡ true
  go true = h
  go false = has_more e.owners o

both_true : (a b : Bool) → (a && b) ≡ true → (a ≡ true) × (b ≡ true)
both_true true b e = (refl, e)
both_true false b e = absurd (false≢true e)

and_true : (a b : Bool) → a ≡ true → b ≡ true → (a && b) ≡ true
and_true a b h g = ap (λ x. x && b) h ∙ g

owned_added : (p : Plan) (o : ℕ) (lib : List OwnedPlan) → list_all has_owner lib ≡ true → list_all has_owner (added p o lib) ≡ true
owned_added p o [] h = refl
owned_added p o (e ∷ more) h =
    let g = both_true (has_owner e) (list_all has_owner more) h in
    go (same_plan p e.plan) g.0 g.1 (owned_added p o more g.1)
  where
    go : (b : Bool) → has_owner e ≡ true → list_all has_owner more ≡ true → list_all has_owner (added p o more) ≡ true
        → list_all has_owner (cond b (with_owner o e ∷ more) (e ∷ added p o more)) ≡ true
    go true here rest later = and_true (has_owner (with_owner o e)) (list_all has_owner more) (owner_has o e here) rest
    go false here rest later = and_true (has_owner e) (list_all has_owner (added p o more)) here later

pub entries_added : AddedAreEntries
entries_added p o lib a = record { distinct = distinct_added p o lib a.distinct; owned = owned_added p o lib a.owned }

entries_opened : (plans : List Plan) (o : ℕ) (lib : List OwnedPlan) → AreEntries lib → AreEntries (all_added plans o lib)
entries_opened [] o lib a = a
entries_opened (p ∷ more) o lib a = entries_opened more o (added p o lib) (entries_added p o lib a)

pub opened_sound : OpenedAreEntries
opened_sound plans = entries_opened plans 0 [] (record { distinct = tt; owned = refl })

-- ---- dropped

pub lost_plan : (w : Which) (o : ℕ) (e : OwnedPlan) → (lost w o e).plan ≡ e.plan
lost_plan w o e = go (is_meant w e.plan) where
  go : (b : Bool) → (cond b (without_owner o e) e).plan ≡ e.plan
  go true = refl
  go false = refl

-- what is not there is not there after less
has_dropped : (q : Plan) (w : Which) (o : ℕ) (lib : List OwnedPlan) → has_plan q lib ≡ false → has_plan q (dropped w o lib) ≡ false
has_dropped q w o [] h = refl
has_dropped q w o (e ∷ more) h =
    let g = or_false (same_plan q e.plan) (has_plan q more) h in
    go (has_owner (lost w o e)) g.0 (has_dropped q w o more g.1)
  where
    go : (b : Bool) → same_plan q e.plan ≡ false → has_plan q (dropped w o more) ≡ false
        → has_plan q (cond b (lost w o e ∷ dropped w o more) (dropped w o more)) ≡ false
    go true here later =
        ap (λ x. same_plan q x || has_plan q (dropped w o more)) (lost_plan w o e) ∙ ap (λ b. b || has_plan q (dropped w o more)) here ∙ later
    go false here later = later

distinct_dropped : (w : Which) (o : ℕ) (lib : List OwnedPlan) → AreDistinct lib → AreDistinct (dropped w o lib)
distinct_dropped w o [] h = tt
distinct_dropped w o (e ∷ more) h = go (has_owner (lost w o e)) (distinct_dropped w o more h.1) where
  go : (b : Bool) → AreDistinct (dropped w o more) → AreDistinct (cond b (lost w o e ∷ dropped w o more) (dropped w o more))
  go true later = (ap (λ x. has_plan x (dropped w o more)) (lost_plan w o e) ∙ has_dropped e.plan w o more h.0, later)
  go false later = later

all_pass : {A : Type 0} (f : A → Bool) (xs : List A) → list_all f (filter f xs) ≡ true
all_pass f [] = refl
all_pass f (x ∷ xs) = go (f x) refl (all_pass f xs) where
  go : (b : Bool) → f x ≡ b → list_all f (filter f xs) ≡ true → list_all f (cond b (x ∷ filter f xs) (filter f xs)) ≡ true
  go true e later = and_true (f x) (list_all f (filter f xs)) e later
  go false e later = later

pub entries_dropped : DroppedAreEntries
entries_dropped w o lib a = record { distinct = distinct_dropped w o lib a.distinct; owned = all_pass has_owner (map (lost w o) lib) }

pub dropped_append : (w : Which) (o : ℕ) (xs ys : List OwnedPlan) → dropped w o (xs ++ ys) ≡ dropped w o xs ++ dropped w o ys
dropped_append w o [] ys = refl
dropped_append w o (x ∷ xs) ys = go (has_owner (lost w o x)) (dropped_append w o xs ys) where
  go : (b : Bool) → dropped w o (xs ++ ys) ≡ dropped w o xs ++ dropped w o ys
      → cond b (lost w o x ∷ dropped w o (xs ++ ys)) (dropped w o (xs ++ ys)) ≡ cond b (lost w o x ∷ dropped w o xs) (dropped w o xs) ++ dropped w o ys
  go true later = ap (λ z. lost w o x ∷ z) later
  go false later = later

-- ---- each loses its owner, one after another

pub set_next : {A : Type 0} (f : A → A) (xs : List A) (k : ℕ) (x : A) → slice_get xs k ≡ Some x
    → slice_set (map f (take k xs) ++ drop k xs) k (f x) ≡ map f (take (suc k) xs) ++ drop (suc k) xs
set_next f [] k x e = cc
set_next f (y ∷ ys) zero x e = let is : y ≡ x = cc in ap (λ z. f z ∷ ys) (sym is)
set_next f (y ∷ ys) (suc k) x e = ap (λ z. f y ∷ z) (set_next f ys k x e)

pub get_next : {A : Type 0} (f : A → A) (xs : List A) (k : ℕ) → slice_get (map f (take k xs) ++ drop k xs) k ≡ slice_get xs k
get_next f [] zero = refl
get_next f [] (suc k) = refl
get_next f (y ∷ ys) zero = refl
get_next f (y ∷ ys) (suc k) = get_next f ys k

pub lost_length : {A : Type 0} (f : A → A) (xs : List A) (k : ℕ) → length (map f (take k xs) ++ drop k xs) ≡ length xs
lost_length f [] zero = refl
lost_length f [] (suc k) = refl
lost_length f (y ∷ ys) zero = refl
lost_length f (y ∷ ys) (suc k) = ap suc (lost_length f ys k)

pub lost_next : {A : Type 0} (f : A → A) (all now : List A) (k : ℕ) (x y : A) → now ≡ map f (take k all) ++ drop k all → slice_get now k ≡ Some x → y ≡ f x
    → slice_set now k y ≡ map f (take (k + 1) all) ++ drop (k + 1) all
lost_next f all now k x y is at e =
    let next : suc k ≡ k + 1 = omega arith in
    let here : slice_get all k ≡ Some x = sym (get_next f all k) ∙ ap (λ z. slice_get z k) (sym is) ∙ at in
    ap (λ z. slice_set z k y) is ∙ ap (λ z. slice_set (map f (take k all) ++ drop k all) k z) e ∙ set_next f all k x here
    ∙ ap (λ m. map f (take m all) ++ drop m all) next

pub lost_all : {A : Type 0} (f : A → A) (all now : List A) (k : ℕ) → now ≡ map f (take k all) ++ drop k all → length all ≤ k → now ≡ map f all
lost_all f all now k is long =
    is ∙ ap (λ z. map f z ++ drop k all) (take_all k all long) ∙ ap (λ z. map f all ++ z) (drop_all k all long) ∙ append-nil (map f all)
