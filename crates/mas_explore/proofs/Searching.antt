-- What is known while states are followed.
use Rattle.std.proofs.Common.{ℕ, ◌≡◌, ◌≢◌, ◌+◌, ◌<◌, ◌≤◌, ◌⊎◌, inl, inr, arith, Bool, true, false, nat_eq, nat_le, ◌||◌, List, [], ◌∷◌, length, slice_get, Option, None, Some, refl, ap, sym, ◌∙◌, subst}
use Rattle.std.proofs.lemmas.Grind.{common_steps}
use Rattle.std.proofs.lemmas.Bool.{eqb-true, eqb-false}
use Rattle.std.proofs.lemmas.Option.{same_Some, none-some, slice_get_within}
use Rattle.mas_mind.specs.Minds.{Kind, IsAgent}
use Rattle.mas_free.specs.Free.{Free, move, AtRest}
use Rattle.mas_free.specs.declared.view.View.{View}
use Rattle.mas_free.specs.Covers.{IsMember, HasLike}
use Rattle.mas_explore.specs.Searches.{AreReached, Keeps, LeadsInto, HasFollowed, HasFollowedTo, HasFollowedAll, noted, HasSearchedTo, AllSearched, HasSearched}
use Rattle.mas_explore.proofs.Members.{member_left, member_last, member_split, item_at}

-- ---- states keep their numbers

keeps-then : {V : Type 0} (old mid new : List (Free V)) → Keeps old mid → Keeps mid new → Keeps old new
keeps-then old mid new h j =
    let l = h.longer in
    let m = j.longer in
    record { longer = omega arith; stay = λ state f e. j.stay state f (h.stay state f e) }

like-on : {V : Type 0} (k : Kind V) (v : View) (old new : List (Free V)) (f : Free V) → Keeps old new → HasLike k v f old → HasLike k v f new
like-on k v old new f h m = record { like = m.like; among = record { place = m.among.place; at = h.stay m.among.place m.like m.among.at }; is = m.is }

-- what was there before is what is there now
back : {V : Type 0} (old new : List (Free V)) (state : ℕ) (f : Free V) → Keeps old new → state < length old → slice_get new state ≡ Some f → slice_get old state ≡ Some f
back old new state f h l e =
    let x = item_at old state l in
    x.1 ∙ ap Some (same_Some x.0 f (sym (h.stay state x.0 x.1) ∙ e))

-- ---- the moves from a state

led : {V : Type 0} (k : Kind V) (v : View) (met : List (Free V)) (o : Option (Free V)) (h : Free V) (moved : Bool) → o ≡ Some h → LeadsInto k v met o moved → HasLike k v h met
led k v met None h moved e l = absurd (none-some h e)
led k v met (Some f) h false e l = absurd l
led {V} k v met (Some f) h true e l = let P = λ (x : Free V). HasLike k v x met in subst P (same_Some f h e) l

not-at-rest : {V : Type 0} (k : Kind V) (v : View) (met : List (Free V)) (o : Option (Free V)) → o ≡ None → LeadsInto k v met o true → ⊥
not-at-rest k v met None e l = l
not-at-rest k v met (Some f) e l = none-some f (sym e)

no-move : {V : Type 0} (k : Kind V) (v : View) (met : List (Free V)) (o : Option (Free V)) → LeadsInto k v met o false → o ≡ None
no-move k v met None l = refl
no-move k v met (Some f) l = absurd l

lead-by : {V : Type 0} (k : Kind V) (v : View) (old mid new : List (Free V)) (state n a : ℕ) (moved made b : Bool) (f h : Free V) → HasFollowedTo k v old mid state n moved → HasFollowed k v mid new state (n + 1) made →
    slice_get old state ≡ Some f → IsAgent (n + 1) a → move k f a ≡ Some h → nat_eq a (n + 1) ≡ b → HasLike k v h new
lead-by {V} k v old mid new state n a moved made true f h to one e i m q =
    let same : a ≡ n + 1 = eqb-true a (n + 1) q in
    let P = λ (x : ℕ). move k f x ≡ Some h in
    led k v new (move k f (n + 1)) h made (subst P same m) (one.leads f (to.keeps.stay state f e))
lead-by k v old mid new state n a moved made false f h to one e i m q =
    let other : a ≢ n + 1 = eqb-false a (n + 1) q in
    let l = i.from_one in
    let u = i.named in
    like-on k v mid new h one.keeps (to.leads f h a e (record { from_one = l; named = omega arith }) m)

moves-by : {V : Type 0} (k : Kind V) (v : View) (old mid new : List (Free V)) (state n : ℕ) (moved made : Bool) → HasFollowedTo k v old mid state n moved → HasFollowed k v mid new state (n + 1) made →
    (moved || made) ≡ true → (f : Free V) → slice_get old state ≡ Some f → AtRest k f → ⊥
moves-by k v old mid new state n true made to one e f g r = to.moves refl f g r
moves-by k v old mid new state n false true to one e f g r = not-at-rest k v new (move k f (n + 1)) (r (n + 1)) (one.leads f (to.keeps.stay state f g))
moves-by k v old mid new state n false false to one e f g r = cc

stays-by : {V : Type 0} (k : Kind V) (v : View) (old mid new : List (Free V)) (state n : ℕ) (moved made : Bool) → HasFollowedTo k v old mid state n moved → HasFollowed k v mid new state (n + 1) made →
    (moved || made) ≡ false → (f : Free V) (a : ℕ) (b : Bool) → slice_get old state ≡ Some f → IsAgent (n + 1) a → nat_eq a (n + 1) ≡ b → move k f a ≡ None
stays-by k v old mid new state n true made to one e f a b g i q = cc
stays-by k v old mid new state n false true to one e f a b g i q = cc
stays-by {V} k v old mid new state n false false to one e f a true g i q =
    let same : a ≡ n + 1 = eqb-true a (n + 1) q in
    let P = λ (x : ℕ). move k f x ≡ None in
    subst P (sym same) (no-move k v new (move k f (n + 1)) (one.leads f (to.keeps.stay state f g)))
stays-by k v old mid new state n false false to one e f a false g i q =
    let other : a ≢ n + 1 = eqb-false a (n + 1) q in
    let l = i.from_one in
    let u = i.named in
    to.stays refl f a g (record { from_one = l; named = omega arith })

pub followed_on : {V : Type 0} (k : Kind V) (v : View) (old mid new : List (Free V)) (state n : ℕ) (moved made after : Bool) → HasFollowedTo k v old mid state n moved → HasFollowed k v mid new state (n + 1) made →
    after ≡ (moved || made) → HasFollowedTo k v old new state (n + 1) after
followed_on k v old mid new state n moved made after to one w = record {
  keeps = keeps-then old mid new to.keeps one.keeps;
  reached = λ first h. one.reached first (to.reached first h);
  leads = λ f h a e i m. lead-by k v old mid new state n a moved made (nat_eq a (n + 1)) f h to one e i m refl;
  moves = λ e. moves-by k v old mid new state n moved made to one (sym w ∙ e);
  stays = λ e f a g i. stays-by k v old mid new state n moved made to one (sym w ∙ e) f a (nat_eq a (n + 1)) g i refl;
}

-- ---- all states

rests-on : (rests : List ℕ) (n state : ℕ) (moved : Bool) → IsMember state rests → IsMember state (noted rests n moved)
rests-on rests n state true m = m
rests-on rests n state false m = member_left state rests (n ∷ []) m

rests-here : {V : Type 0} (k : Kind V) (v : View) (mid new : List (Free V)) (rests : List ℕ) (n : ℕ) (moved : Bool) (f : Free V) → HasFollowedAll k v mid new n moved → slice_get mid n ≡ Some f → AtRest k f →
    IsMember n (noted rests n moved)
rests-here k v mid new rests n true f one e r = absurd (one.moves refl f e r)
rests-here k v mid new rests n false f one e r = member_last n rests

within-by : (rests : List ℕ) (n state most : ℕ) (moved : Bool) → ((state : ℕ) → IsMember state rests → state < most) → n < most → IsMember state (noted rests n moved) → state < most
within-by rests n state most true h l m = h state m
within-by rests n state most false h l m = within-split (member_split n state rests m)
  where
    within-split : IsMember state rests ⊎ (n ≡ state) → state < most
    within-split (inl m) = h state m
    within-split (inr e) = omega arith

rest-by : {V : Type 0} (k : Kind V) (v : View) (mid new : List (Free V)) (rests : List ℕ) (n state : ℕ) (moved : Bool) (f : Free V) → HasFollowedAll k v mid new n moved → n < length mid →
    ((state : ℕ) (f : Free V) → IsMember state rests → slice_get mid state ≡ Some f → AtRest k f) → ((state : ℕ) → IsMember state rests → state < length mid) →
    IsMember state (noted rests n moved) → slice_get new state ≡ Some f → AtRest k f
rest-by k v mid new rests n state true f one l rest within m e = rest state f m (back mid new state f one.keeps (within state m) e)
rest-by {V} k v mid new rests n state false f one l rest within m e = by (member_split n state rests m)
  where
    by : IsMember state rests ⊎ (n ≡ state) → AtRest k f
    by (inl w) = rest state f w (back mid new state f one.keeps (within state w) e)
    by (inr same) =
        let P = λ (x : ℕ). slice_get new x ≡ Some f in
        one.stays refl f (back mid new n f one.keeps l (subst P (sym same) e))

module _ {V : Type 0} (k : Kind V) (v : View) (old mid new : List (Free V)) (rests : List ℕ) (n : ℕ) (moved : Bool) (to : HasSearchedTo k v old mid rests n) (l : n < length mid) (one : HasFollowedAll k v mid new n moved) where
  leads-on : (state : ℕ) (f h : Free V) (a : ℕ) (b : Bool) → nat_eq state n ≡ b → state < n + 1 → slice_get new state ≡ Some f → IsAgent (length f.stages) a → move k f a ≡ Some h → HasLike k v h new
  leads-on state f h a true q u e i m =
      let same : state ≡ n = eqb-true state n q in
      let P = λ (x : ℕ). slice_get new x ≡ Some f in
      one.leads f h a (back mid new n f one.keeps l (subst P same e)) i m
  leads-on state f h a false q u e i m =
      let other : state ≢ n = eqb-false state n q in
      let before : state < n = omega arith in
      like-on k v mid new h one.keeps (to.leads state f h a before (back mid new state f one.keeps (omega arith) e) i m)

  rests-at : (state : ℕ) (f : Free V) (b : Bool) → nat_eq state n ≡ b → state < n + 1 → slice_get new state ≡ Some f → AtRest k f → IsMember state (noted rests n moved)
  rests-at state f true q u e r =
      let same : state ≡ n = eqb-true state n q in
      let P = λ (x : ℕ). slice_get new x ≡ Some f in
      let Q = λ (x : ℕ). IsMember x (noted rests n moved) in
      subst Q (sym same) (rests-here k v mid new rests n moved f one (back mid new n f one.keeps l (subst P same e)) r)
  rests-at state f false q u e r =
      let other : state ≢ n = eqb-false state n q in
      let before : state < n = omega arith in
      rests-on rests n state moved (to.rests_are state f before (back mid new state f one.keeps (omega arith) e) r)

  pub searched_on : (after : List ℕ) → after ≡ noted rests n moved → HasSearchedTo k v old new after (n + 1)
  searched_on after w =
      let longer = one.keeps.longer in
      let P = λ (x : List ℕ). HasSearchedTo k v old new x (n + 1) in
      let here : HasSearchedTo k v old new (noted rests n moved) (n + 1) = record {
        keeps = keeps-then old mid new to.keeps one.keeps;
        reached = λ first h. one.reached first (to.reached first h);
        leads = λ state f h a u e i m. leads-on state f h a (nat_eq state n) refl u e i m;
        rests_are = λ state f u e r. rests-at state f (nat_eq state n) refl u e r;
        within = λ state m. within-by rests n state (length new) moved (λ x y. let z = to.within x y in omega arith) (omega arith) m;
        rest = λ state f m e. rest-by k v mid new rests n state moved f one l to.rest to.within m e;
      } in
      subst P (sym w) here

pub all_searched : {V : Type 0} (k : Kind V) (v : View) (old new : List (Free V)) (rests : List ℕ) (n most : ℕ) → HasSearchedTo k v old new rests n → length new ≤ n → length new ≤ most → HasSearched k v old new rests most true
all_searched {V} k v old new rests n most to l few =
    let all : AllSearched k v new rests = record {
      leads = λ f h a m i e. to.leads m.place f h a (let w = slice_get_within new m.place f m.at in omega arith) m.at i e;
      rests_are = λ state f e r. to.rests_are state f (let w = slice_get_within new state f e in omega arith) e r;
    } in
    record { keeps = to.keeps; reached = to.reached; within = to.within; rest = to.rest; extent = (all, few) }

pub searched : {V : Type 0} (k : Kind V) (v : View) (old new : List (Free V)) (rests : List ℕ) (n most met : ℕ) (whole : Bool) → HasSearchedTo k v old new rests n → most ≤ n → met ≡ length new → whole ≡ nat_le met most →
    HasSearched k v old new rests most whole
searched k v old new rests n most met true to l c w =
    let u : met ≤ most = (let v : nat_le met most ≡ true = sym w in grind (arith, common_steps)) in
    all_searched k v old new rests n most to (omega arith) (omega arith)
searched k v old new rests n most met false to l c w =
    let u : most < met = (let v : nat_le met most ≡ false = sym w in grind (arith, common_steps)) in
    record { keeps = to.keeps; reached = to.reached; within = to.within; rest = to.rest; extent = omega arith }
