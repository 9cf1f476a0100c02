-- Beliefs stay ground, and the events of their changes are of ground literals.
use Rattle.std.proofs.Common.{◌≡◌, Bool, true, false, not, if◌then◌else◌, List, [], ◌∷◌, ◌++◌, map, filter, flat_map, Option, Some, None, cond, refl}
use Rattle.std.specs.List.{AllByRecursion}
use Rattle.asl_term.specs.declared.syntax.Kind.TheVariants as kind
use Rattle.asl_term.specs.declared.syntax.LiteralOf.{LiteralOf}
use Rattle.asl_term.specs.declared.syntax.Term.{Term}
use Rattle.asl_term.specs.declared.syntax.Trigger.{Trigger}
use Rattle.asl_term.specs.Exprs.{is_ground_literal}
use Rattle.asl_term.specs.Trees.{all, is_ground}
use Rattle.asl_unify.specs.declared.subst.Pair.{Pair}
use Rattle.asl_beliefs.specs.Changes.{Changed, Removal, added, all_added, followed, removed, removed_events, by_match, first_match, matched, left_of, loss, minus, plus, news, not_held, is_held, same_belief, without_match, replaced, own_pattern, abolished, is_match, unseen, is_unseen, as_percept, updated}
use Rattle.asl_beliefs.specs.Sources.{with_annots, names_source, source_percept}
use Rattle.asl_beliefs.proofs.Added.{ground_not_held}
use Rattle.asl_beliefs.proofs.Initial.{ground_as_percept}
use Rattle.asl_beliefs.proofs.Sound.{ground_parts, ground_with, ground_append, ground_filter}
use Rattle.asl_lint_laws.specs.Read.{AreGround}

-- an event of a belief without variables
pub record IsTold (t : Trigger) : Type 0 where
  pub kind : t.kind ≡ kind.Belief
  pub ground : is_ground_literal t.lit ≡ true

abbrev pub AreTold : List Trigger → Type 0
AreTold = AllByRecursion IsTold

pub record IsChange (c : Changed) : Type 0 where
  pub beliefs : AreGround c.beliefs
  pub events : AreTold c.events

pub all_append : {A : Type 0} (P : A → Type 0) (xs ys : List A) → AllByRecursion P xs → AllByRecursion P ys → AllByRecursion P (xs ++ ys)
all_append P [] ys a b = b
all_append P (x ∷ xs) ys a b = (a.0, all_append P xs ys a.1 b)

told_plus : (b : LiteralOf Term) → is_ground_literal b ≡ true → IsTold (plus b)
told_plus b g = record { kind = refl; ground = g }

told_minus : (b : LiteralOf Term) → is_ground_literal b ≡ true → IsTold (minus b)
told_minus b g = record { kind = refl; ground = g }

-- ---- added

told_news : (b : LiteralOf Term) (annots : List Term) → is_ground_literal b ≡ true → all (map is_ground annots) ≡ true → AreTold (news b annots)
told_news b [] g a = tt
told_news b (x ∷ annots) g a = (told_plus (with_annots b (x ∷ annots)) (ground_with b (x ∷ annots) g a), tt)

pub added_change : (b : LiteralOf Term) (bs : List (LiteralOf Term)) → is_ground_literal b ≡ true → AreGround bs → IsChange (added b bs)
added_change b [] g a = record { beliefs = (g, tt); events = (told_plus b g, tt) }
added_change b (c ∷ more) g a = go (same_belief b c) (added_change b more g a.1) where
  new : List Term
  new = not_held c.annots b.annots

  fits : all (map is_ground (not_held c.annots b.annots)) ≡ true
  fits = ground_not_held c.annots b.annots (ground_parts b g).1

  go : (d : Bool) → IsChange (added b more)
      → IsChange (if d then record { beliefs = with_annots c (c.annots ++ not_held c.annots b.annots) ∷ more; events = news b (not_held c.annots b.annots) }
      else record { beliefs = c ∷ (added b more).beliefs; events = (added b more).events })
  go true later = record {
    beliefs = (ground_with c (c.annots ++ not_held c.annots b.annots) a.0 (ground_append c.annots _ (ground_parts c a.0).1 fits), a.1);
    events = told_news b (not_held c.annots b.annots) g fits;
  }
  go false later = record { beliefs = (a.0, later.beliefs); events = later.events }

pub followed_change : (c : Changed) (next : List (LiteralOf Term) → Changed) → IsChange c → (AreGround c.beliefs → IsChange (next c.beliefs)) → IsChange (followed c next)
followed_change c next i f =
    let d = f i.beliefs in record { beliefs = d.beliefs; events = all_append IsTold c.events (next c.beliefs).events i.events d.events }

pub all_added_change : (ls bs : List (LiteralOf Term)) → AreGround ls → AreGround bs → IsChange (all_added ls bs)
all_added_change [] bs a b = record { beliefs = b; events = tt }
all_added_change (l ∷ ls) bs a b = followed_change (added l bs) (all_added ls) (added_change l bs a.0 b) (λ c. all_added_change ls (added l bs).beliefs a.1 c)

-- ---- removed

ground_left : (taken : List Term) (b : LiteralOf Term) → is_ground_literal b ≡ true → AreGround (left_of taken b)
ground_left taken b g = go (names_source (filter (λ a. not (is_held taken a)) b.annots)) where
  go : (d : Bool) → AreGround (if d then with_annots b (filter (λ a. not (is_held taken a)) b.annots) ∷ [] else [])
  go true = (ground_with b _ g (ground_filter (λ a. not (is_held taken a)) b.annots (ground_parts b g).1), tt)
  go false = tt

told_loss : (taken : List Term) (b : LiteralOf Term) → is_ground_literal b ≡ true → IsTold (loss taken b)
told_loss taken b g = go (names_source (filter (λ a. not (is_held taken a)) b.annots)) where
  go : (d : Bool) → IsTold (if d then minus (with_annots b (filter (is_held taken) b.annots)) else minus b)
  go true = told_minus _ (ground_with b _ g (ground_filter (is_held taken) b.annots (ground_parts b g).1))
  go false = told_minus b g

pub record IsRemoval (r : Removal) : Type 0 where
  pub beliefs : AreGround r.beliefs
  pub events : AreTold (removed_events r.removed)

pub removed_change : (p : LiteralOf Term) (s : List Pair) (bs : List (LiteralOf Term)) → AreGround bs → IsRemoval (removed p s bs)
removed_change p s [] a = record { beliefs = tt; events = tt }
removed_change p s (b ∷ more) a = go (first_match p b s) (removed_change p s more a.1) where
  go : (o : Option (List Pair)) → IsRemoval (removed p s more) → IsRemoval (by_match p b more (removed p s more) o)
  go None later = record { beliefs = (a.0, later.beliefs); events = later.events }
  go (Some t) later = record {
    beliefs = all_append _ (left_of (matched p t) b) more (ground_left (matched p t) b a.0) a.1;
    events = (told_loss (matched p t) b a.0, tt);
  }

pub without_match_change : (r : Removal) → IsRemoval r → IsChange (without_match r)
without_match_change r i = record { beliefs = i.beliefs; events = i.events }

pub replaced_change : (b : LiteralOf Term) (bs : List (LiteralOf Term)) → is_ground_literal b ≡ true → AreGround bs → IsChange (replaced b bs)
replaced_change b bs g a =
    followed_change (without_match (removed (own_pattern b) [] bs)) (added b) (without_match_change (removed (own_pattern b) [] bs) (removed_change (own_pattern b) [] bs a))
    (λ c. added_change b _ g c)

ground_kept : (p : LiteralOf Term → Bool) (bs : List (LiteralOf Term)) → AreGround bs → AreGround (filter p bs)
ground_kept p [] a = tt
ground_kept p (b ∷ bs) a = go (p b) (ground_kept p bs a.1) where
  go : (d : Bool) → AreGround (filter p bs) → AreGround (cond d (b ∷ filter p bs) (filter p bs))
  go true later = (a.0, later)
  go false later = later

all_minus : (bs : List (LiteralOf Term)) → AreGround bs → AreTold (map minus bs)
all_minus [] a = tt
all_minus (b ∷ bs) a = (told_minus b a.0, all_minus bs a.1)

pub abolished_change : (p : LiteralOf Term) (bs : List (LiteralOf Term)) → AreGround bs → IsChange (abolished p bs)
abolished_change p bs a = record {
  beliefs = ground_kept (λ b. not (is_match p b)) bs a;
  events = all_minus (filter (is_match p) bs) (ground_kept (is_match p) bs a);
}

-- ---- percepts

ground_seen : (percepts bs : List (LiteralOf Term)) → AreGround bs → AreGround (flat_map (λ b. if is_unseen percepts b then left_of (source_percept ∷ []) b else b ∷ []) bs)
ground_seen percepts [] a = tt
ground_seen percepts (b ∷ bs) a = all_append _ _ _ (go (is_unseen percepts b)) (ground_seen percepts bs a.1) where
  go : (d : Bool) → AreGround (if d then left_of (source_percept ∷ []) b else b ∷ [])
  go true = ground_left (source_percept ∷ []) b a.0
  go false = (a.0, tt)

all_losses : (taken : List Term) (bs : List (LiteralOf Term)) → AreGround bs → AreTold (map (loss taken) bs)
all_losses taken [] a = tt
all_losses taken (b ∷ bs) a = (told_loss taken b a.0, all_losses taken bs a.1)

all_percepts : (ls : List (LiteralOf Term)) → AreGround ls → AreGround (map as_percept ls)
all_percepts [] a = tt
all_percepts (l ∷ ls) a = (ground_as_percept l a.0, all_percepts ls a.1)

pub updated_change : (percepts bs : List (LiteralOf Term)) → AreGround percepts → AreGround bs → IsChange (updated percepts bs)
updated_change percepts bs a b =
    followed_change (unseen percepts bs) (all_added (map as_percept percepts))
    (record { beliefs = ground_seen percepts bs b; events = all_losses (source_percept ∷ []) (filter (is_unseen percepts) bs) (ground_kept (is_unseen percepts) bs b) })
    (λ c. all_added_change (map as_percept percepts) (unseen percepts bs).beliefs (all_percepts percepts a) c)
