-- A cursor has the same matches left as the frames that stand at its places.
use Rattle.std.proofs.Common.{◌≡◌, ℕ, zero, suc, ◌+◌, List, [], ◌∷◌, ◌++◌, take, drop, get_or, ◌<◌, length, Bool, true, false, cond, Option, Some, None, refl, sym, ap, subst, ◌∙◌, append_assoc, append-nil, add-one, length-append, arith}
use Rattle.std.proofs.lemmas.List.{take_more}
use Rattle.std.specs.List.{slice_get, AllByRecursion}
use Rattle.asl_term.specs.declared.syntax.LiteralOf.{LiteralOf}
use Rattle.asl_term.specs.declared.syntax.Term.{Term}
use Rattle.asl_unify.specs.declared.subst.Pair.{Pair}
use Rattle.asl_unify.specs.declared.matching.Frame.{Frame}
use Rattle.asl_unify.specs.Compare.{ask, asks, same_frame, Outcome, Unified, Failed}
use Rattle.asl_unify.specs.Unified.{unified}
use Rattle.asl_unify.specs.Puts.{IsSubst, Extends}
use Rattle.asl_unify.specs.Matches.{agreed, on_unified, annots, matches, behind}
use Rattle.asl_unify.specs.Cursors.{later, from, term_before, meets, on_some, annots_left, matches_left, start}
use Rattle.asl_unify.specs.inner.Tries.{above, frames_at, next_frames, pending, places, AreLinked}
use Rattle.asl_unify.proofs.Tries.{drop-later, at_some, pending_push}
use Rattle.asl_unify.proofs.Matched.{all-append, front, all-weaker, agreed-is, annots-extend}
use Rattle.asl_unify.proofs.Unified.{unified_reaches}

drop_here : {A : Type 0} (xs : List A) (k : ℕ) (x : A) → slice_get xs k ≡ Some x → drop k xs ≡ x ∷ drop (suc k) xs
drop_here [] k x e = cc
drop_here (y ∷ xs) zero x e = cc
drop_here (y ∷ xs) (suc k) x e = drop_here xs k x e

later_drop : (n : ℕ) (ps : List Term) → later (drop n ps) ≡ drop (suc n) ps
later_drop zero [] = refl
later_drop zero (p ∷ ps) = refl
later_drop (suc n) [] = refl
later_drop (suc n) (p ∷ ps) = later_drop n ps

-- what a pattern comes to with the term before a place
before_is : (held : List Term) (k n : ℕ) → k ≡ n + 1 → term_before held k ≡ slice_get held n
before_is held zero n e = absurd (omega (arith, e))
before_is held (suc k) n e = ap (slice_get held) (omega (arith, e))

pub meets_is : (ps held : List Term) (n m k : ℕ) (p q : Term) (s : List Pair) → slice_get ps n ≡ Some p → slice_get held m ≡ Some q → k ≡ m + 1
    → meets (drop n ps) (term_before held k) s ≡ agreed (unified s (ask p q ∷ []))
meets_is ps held n m k p q s e f h =
    ap (λ z. meets z (term_before held k) s) (at_some ps n p e) ∙ ap (λ o. meets (p ∷ drop (suc n) ps) o s) (before_is held k m h ∙ f)

-- frames below others
pub linked_split : (ps held : List Term) (o last : Option (List Pair)) (fs gs : List Frame) → AreLinked ps held o (fs ++ gs) last
    → (m : Option (List Pair)) × AreLinked ps held o fs m × AreLinked (drop (length fs) ps) held m gs last
linked_split ps held o last [] gs l = (o, refl, l)
linked_split ps held o last (f ∷ fs) gs l =
    let r = linked_split (later ps) held (meets ps (term_before held f.place) f.subst) last fs gs l.1 in
    (r.0, (l.0, r.1), subst (λ z. AreLinked z held r.0 gs last) (sym (drop-later (length fs) ps)) r.2)

pub linked_join : (ps held : List Term) (o m last : Option (List Pair)) (fs gs : List Frame) → AreLinked ps held o fs m
    → AreLinked (drop (length fs) ps) held m gs last → AreLinked ps held o (fs ++ gs) last
linked_join ps held o m last [] gs a b = subst (λ z. AreLinked ps held z gs last) (sym a) b
linked_join ps held o m last (f ∷ fs) gs a b = (
  a.0,
  linked_join (later ps) held (meets ps (term_before held f.place) f.subst) m last fs gs a.1
      (subst (λ z. AreLinked z held m gs last) (drop-later (length fs) ps) b),
)

-- what the places of frames have left
linked_left : (ps held : List Term) (o last : Option (List Pair)) (fs : List Frame) → AreLinked ps held o fs last
    → on_some (λ s. annots_left ps held s (places fs)) o ≡ pending ps held fs
linked_left ps held None last [] l = refl
linked_left ps held (Some s) last [] l = refl
linked_left ps held o last (f ∷ up) l =
    ap (on_some (λ s. annots_left ps held s (places (f ∷ up)))) l.0
    ∙ ap (λ z. z ++ from ps held f.subst (drop f.place held)) (linked_left (later ps) held (meets ps (term_before held f.place) f.subst) last up l.1)

pub stopped : (ps held : List Term) (first : List Pair) (fs : List Frame) (last : Option (List Pair)) (found all : List (List Pair)) (rest : List ℕ)
    → AreLinked ps held (Some first) fs last → rest ≡ places fs → found ++ pending ps held fs ≡ all → found ++ annots_left ps held first rest ≡ all
stopped ps held first fs last found all rest l e h =
    ap (λ z. found ++ annots_left ps held first z) e ∙ ap (λ z. found ++ z) (linked_left ps held (Some first) last fs l) ∙ h

-- one frame more
climbed_left : (ps held : List Term) (fs : List Frame) (t : List Pair) (k : ℕ) (up : List ℕ) (next : Option (List Pair)) (all : List (List Pair))
    → next ≡ meets (drop (length fs) ps) (term_before held k) t → annots_left (drop (length fs) ps) held t (k ∷ up) ++ pending ps held fs ≡ all
    → on_some (λ u. annots_left (drop (length (fs ++ record { subst = t; place = k } ∷ [])) ps) held u up) next
    ++ pending ps held (fs ++ record { subst = t; place = k } ∷ []) ≡ all
climbed_left ps held fs t k up next all e h =
    let g : Frame = record { subst = t; place = k } in
    let rest = drop (length fs) ps in
    let deep = on_some (λ u. annots_left (later rest) held u up) (meets rest (term_before held k) t) in
    let n : length (fs ++ g ∷ []) ≡ suc (length fs) = omega (arith, length-append fs (g ∷ [])) in
    let longer : drop (length (fs ++ g ∷ [])) ps ≡ later rest = ap (λ n. drop n ps) n ∙ sym (later_drop (length fs) ps) in
    ap (λ z. on_some (λ u. annots_left z held u up) next ++ pending ps held (fs ++ g ∷ [])) longer
    ∙ ap (λ o. on_some (λ u. annots_left (later rest) held u up) o ++ pending ps held (fs ++ g ∷ [])) e
    ∙ ap (λ z. deep ++ z) (pending_push ps held fs g)
    ∙ sym (append_assoc deep (from rest held t (drop k held)) (pending ps held fs))
    ∙ h

-- the places of so many frames
places_push : (xs : List Frame) (f : Frame) → places (xs ++ f ∷ []) ≡ places xs ++ f.place ∷ []
places_push [] f = refl
places_push (x ∷ xs) f = ap (λ z. x.place ∷ z) (places_push xs f)

pub places_more : (all : List Frame) (k : ℕ) (f : Frame) (r new : List ℕ) → k < length all → f ≡ get_or all k f → r ≡ places (take k all)
    → new ≡ r ++ f.place ∷ []
    → new ≡ places (take (k + 1) all)
places_more all k f r new lt q h e =
    e
    ∙ ap (λ z. z ++ f.place ∷ []) h
    ∙ sym (places_push (take k all) f)
    ∙ ap (λ z. places (take k all ++ z ∷ [])) q
    ∙ ap places (sym (take_more all k f lt))

-- where so many places of a cursor have their frames
module _ (ps held : List Term) (first : List Pair) (at : List ℕ) where
  abbrev pub Climbed : ℕ → List Frame → Option (List Pair) → Type 0
  Climbed i fs top = on_some (λ t. annots_left (drop (length fs) ps) held t (drop i at)) top ++ pending ps held fs ≡ annots_left ps held first at

  pub climbs : (i k : ℕ) (fs new : List Frame) (top next : Option (List Pair)) → slice_get at i ≡ Some k
      → (top ≡ None → (next ≡ None) × (new ≡ fs))
      → ((t : List Pair) → top ≡ Some t → next ≡ meets (drop (length fs) ps) (term_before held k) t)
      → ((t : List Pair) → top ≡ Some t → new ≡ fs ++ record { subst = t; place = k } ∷ [])
      → AreLinked ps held (Some first) fs top → Climbed i fs top
      → AreLinked ps held (Some first) new next × Climbed (i + 1) new next
  climbs i k fs new None next is a b c l h =
      let e = a refl in (
        subst (λ z. AreLinked ps held (Some first) z next) (sym e.1) (subst (AreLinked ps held (Some first) fs) (sym e.0) l),
        subst (λ z. Climbed (i + 1) z next) (sym e.1) (subst (Climbed (i + 1) fs) (sym e.0) h),
      )
  climbs i k fs new (Some t) next is a b c l h =
      let g : Frame = record { subst = t; place = k } in
      let here = b t refl in
      let joined : AreLinked ps held (Some first) (fs ++ g ∷ []) next = linked_join ps held (Some first) (Some t) next fs (g ∷ []) l (refl, sym here) in
      let split = ap (λ z. annots_left (drop (length fs) ps) held t z ++ pending ps held fs) (sym (drop_here at i k is)) ∙ h in
      let left : Climbed (suc i) (fs ++ g ∷ []) next = climbed_left ps held fs t k (drop (suc i) at) next (annots_left ps held first at) here split in (
        subst (λ z. AreLinked ps held (Some first) z next) (sym (c t refl)) joined,
        subst (λ z. Climbed (i + 1) z next) (sym (c t refl)) (subst (λ n. Climbed n (fs ++ g ∷ []) next) (sym (add-one i)) left),
      )

  pub climb_begins : (fs : List Frame) → fs ≡ [] → AreLinked ps held (Some first) fs (Some first) × Climbed 0 fs (Some first)
  climb_begins fs e =
      subst (λ z. AreLinked ps held (Some first) z (Some first) × Climbed 0 z (Some first)) (sym e) (refl, append-nil (annots_left ps held first at))

  none_above : (z : List Term) (top : Option (List Pair)) → on_some (λ t. annots_left z held t []) top ≡ []
  none_above z None = refl
  none_above z (Some t) = refl

  pub climb_ends : (i : ℕ) (fs : List Frame) (top : Option (List Pair)) → drop i at ≡ [] → Climbed i fs top → pending ps held fs ≡ annots_left ps held first at
  climb_ends i fs top e h =
      ap (λ z. z ++ pending ps held fs) (sym (ap (λ z. on_some (λ t. annots_left (drop (length fs) ps) held t z) top) e
      ∙ none_above (drop (length fs) ps) top)) ∙ h

-- one turn, at the top frame f of the frames all, where fs are those below it
module _ (ps held : List Term) (o last : Option (List Pair)) (all fs : List Frame) (f : Frame) (are : all ≡ fs ++ f ∷ []) (l : AreLinked ps held o all last) where
  below : (m : Option (List Pair)) × AreLinked ps held o fs m × AreLinked (drop (length fs) ps) held m (f ∷ []) last
  below = linked_split ps held o last fs (f ∷ []) (subst (λ z. AreLinked ps held o z last) are l)

  pub done_linked : (m : Option (List Pair)) × AreLinked ps held o fs m
  done_linked = (below.0, below.1)

  linked_above : (qs : List Term) (m u : Option (List Pair)) → m ≡ u → (z : Option (List Pair)) × AreLinked qs held m (above u) z
  linked_above qs m None e = (m, refl)
  linked_above qs m (Some t) e = (meets qs (term_before held 0) t, (e, refl))

  tried_by : (p : Term) → slice_get ps (length fs) ≡ Some p → (q : Option Term) → slice_get held f.place ≡ q
      → (m : Option (List Pair)) × AreLinked ps held o (fs ++ frames_at p f q) m
  tried_by p is None e = (below.0, subst (λ z. AreLinked ps held o z below.0) (sym (append-nil fs)) below.1)
  tried_by p is (Some q) e =
      let u = agreed (unified f.subst (ask p q ∷ [])) in
      let g : Frame = record { subst = f.subst; place = f.place + 1 } in
      let rest = drop (length fs) ps in
      let m = meets_is ps held (length fs) f.place (f.place + 1) p q f.subst is e refl in
      let a = linked_above (later rest) (meets rest (term_before held (f.place + 1)) f.subst) u m in
      (a.0, linked_join ps held o below.0 a.0 fs (g ∷ above u) below.1 (below.2.0, a.1))

  pub tried_linked : (p : Term) → slice_get ps (length fs) ≡ Some p → (now : List Frame) → now ≡ fs ++ next_frames p held f
      → (m : Option (List Pair)) × AreLinked ps held o now m
  tried_linked p is now e =
      let r = tried_by p is (slice_get held f.place) refl in
      (r.0, subst (λ z. AreLinked ps held o z r.0) (sym e) r.1)

-- what is left extends the substitution
further : (s t : List Pair) (xs : List (List Pair)) → Extends s t → AllByRecursion (Extends t) xs → AllByRecursion (Extends s) xs
further s t xs a b = all-weaker (Extends t) (Extends s) (λ u m. (a.0 ++ m.0, m.1 ∙ ap (λ z. z ++ m.0) a.1 ∙ append_assoc s a.0 m.0)) xs b

met_extends : (p q : Term) (ps held : List Term) (s : List Pair) → IsSubst s → (o : Outcome) → unified s (ask p q ∷ []) ≡ o
    → AllByRecursion (Extends s) (on_unified (annots ps held) o)
met_extends p q ps held s i (Failed x) e = tt
met_extends p q ps held s i (Unified t) e =
    let r = unified_reaches s t (ask p q ∷ []) i e in
    further s t (annots ps held t) r.extends (annots-extend ps held t r.sound)

from_extends : (ps held : List Term) (s : List Pair) (rest : List Term) → IsSubst s → AllByRecursion (Extends s) (from ps held s rest)
from_extends [] held s rest i = (([], sym (append-nil s)), tt)
from_extends (p ∷ ps) held s [] i = tt
from_extends (p ∷ ps) held s (q ∷ rest) i =
    all-append (Extends s) (on_unified (annots ps held) (unified s (ask p q ∷ []))) (from (p ∷ ps) held s rest)
    (met_extends p q ps held s i (unified s (ask p q ∷ [])) refl) (from_extends (p ∷ ps) held s rest i)

meets_reaches : (ps : List Term) (q : Option Term) (s t : List Pair) → IsSubst s → meets ps q s ≡ Some t → IsSubst t × Extends s t
meets_reaches [] q s t i e = absurd cc
meets_reaches (p ∷ ps) None s t i e = absurd cc
meets_reaches (p ∷ ps) (Some q) s t i e =
    let r = unified_reaches s t (ask p q ∷ []) i (agreed-is (unified s (ask p q ∷ [])) t e) in
    (r.sound, r.extends)

above_extends : (ps : List Term) (q : Option Term) (s : List Pair) (f : List Pair → List (List Pair)) → IsSubst s
    → ((t : List Pair) → IsSubst t → AllByRecursion (Extends t) (f t))
    → (o : Option (List Pair)) → meets ps q s ≡ o → AllByRecursion (Extends s) (on_some f o)
above_extends ps q s f i more None e = tt
above_extends ps q s f i more (Some t) e = let r = meets_reaches ps q s t i e in further s t (f t) r.1 (more t r.0)

left_extends : (ps held : List Term) (s : List Pair) (at : List ℕ) → IsSubst s → AllByRecursion (Extends s) (annots_left ps held s at)
left_extends ps held s [] i = tt
left_extends ps held s (k ∷ up) i =
    all-append (Extends s) (on_some (λ t. annots_left (later ps) held t up) (meets ps (term_before held k) s)) (from ps held s (drop k held))
    (above_extends ps (term_before held k) s (λ t. annots_left (later ps) held t up) i (λ t j. left_extends (later ps) held t up j)
    (meets ps (term_before held k) s) refl)
    (from_extends ps held s (drop k held) i)

-- a portion of the matches of two literals
module _ (p q : LiteralOf Term) (s : List Pair) where
  pub none_left : (found : List (List Pair)) (rest at : List ℕ) → found ≡ [] → ((z : List ℕ) → matches_left p q s z ≡ [])
      → behind s found ++ matches_left p q s rest ≡ matches_left p q s at
  none_left found rest at e h = ap (λ z. behind s z ++ matches_left p q s rest) e ∙ h rest ∙ sym (h at)

  module _ (first : List Pair) (is : Some first ≡ agreed (unified s (asks p.args q.args []))) (found : List (List Pair)) (rest at : List ℕ)
      (h : found ++ annots_left p.annots q.annots first rest ≡ annots_left p.annots q.annots first at) where
    met : unified s (asks p.args q.args []) ≡ Unified first
    met = agreed-is (unified s (asks p.args q.args [])) first (sym is)

    pub portion_extends : IsSubst s → AllByRecursion (Extends s) found
    portion_extends i =
        let r = unified_reaches s first (asks p.args q.args []) i met in
        let all = further s first (annots_left p.annots q.annots first at) r.extends (left_extends p.annots q.annots first at r.sound) in
        front (Extends s) found (annots_left p.annots q.annots first rest) (subst (AllByRecursion (Extends s)) (sym h) all)

-- at the start all are left, and at the end none
annots_start : (ps held : List Term) (s : List Pair) → annots_left ps held s start ≡ annots ps held s
annots_start [] held s = refl
annots_start (p ∷ ps) held s = refl

pub matches_start : (p q : LiteralOf Term) (s : List Pair) → matches_left p q s start ≡ matches p q s
matches_start p q s = go (unified s (asks p.args q.args [])) (same_frame p q) where
  go : (o : Outcome) (b : Bool) → cond b (on_unified (λ t. annots_left p.annots q.annots t start) o) [] ≡ cond b (on_unified (annots p.annots q.annots) o) []
  go (Unified t) b = ap (λ z. cond b z []) (annots_start p.annots q.annots t)
  go (Failed x) b = refl

pub matches_end : (p q : LiteralOf Term) (s : List Pair) → matches_left p q s [] ≡ []
matches_end p q s = go (unified s (asks p.args q.args [])) (same_frame p q) where
  go : (o : Outcome) (b : Bool) → cond b (on_unified (λ t. annots_left p.annots q.annots t []) o) [] ≡ []
  go (Unified t) true = refl
  go (Unified t) false = refl
  go (Failed x) true = refl
  go (Failed x) false = refl
