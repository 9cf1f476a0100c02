-- What is known while outcomes are listed.
use Rattle.std.proofs.Common.{ℕ, zero, suc, ◌≤◌, ◌≡◌, ◌≢◌, ◌+◌, ◌<◌, ◌⊎◌, inl, inr, arith, Bool, true, false, nat_eq, ◌&&◌, List, [], ◌∷◌, ◌++◌, length, slice_get, Option, Some, IfSome, refl, ap, sym, ◌∙◌, subst}
use Rattle.std.specs.List.{list_any}
use Rattle.std.specs.Str.{bytes_eq}
use Rattle.std.proofs.lemmas.Bool.{eqb-true, eqb-false, and_parts}
use Rattle.std.proofs.lemmas.Option.{same_Some, none-some, slice_get_within}
use Rattle.mas_mind.specs.Minds.{Kind}
use Rattle.mas_core.specs.Platform.{Platform}
use Rattle.mas_free.specs.declared.view.View.{View}
use Rattle.mas_free.specs.Outcome.{outcome}
use Rattle.mas_free.specs.Free.{Free, AtRest, at_end}
use Rattle.mas_free.specs.Covers.{Start, free_opening, IsStart, IsMember, IsClosed, HasRest, ClosedCovers}
use Rattle.mas_free.proofs.Likes.{like_same}
use Rattle.mas_explore.specs.declared.listing.Shown.{Shown}
use Rattle.mas_explore.specs.declared.listing.Listing.{Listing}
use Rattle.mas_explore.specs.Searches.{IsOutcomeAt, IsReached, AreReached, begun, AllSearched, HasSearched}
use Rattle.mas_explore.specs.Listings.{IsShown, AreShown, AreDistinct, IsListed, IsWhole, HasMissed, extent_of, Reaches, OutcomeListed, OutcomeMissed, HasListed, HasListedTo, HasListedEach, IsOneMissed, AreAllListed, HasListedAll}
use Rattle.mas_explore.proofs.Members.{item_at, member_left, member_last, member_split}
use Rattle.mas_explore.proofs.Times.{listed_by, unlisted_by, one_more_once}

pub if_some : {X : Type 0} (P : X → Type 0) (o : Option X) (x : X) → o ≡ Some x → IfSome o P → P x
if_some {X} P o x e h = let Q = λ (y : Option X). IfSome y P in subst Q e h

-- ---- one state

module _ {V : Type 0} (k : Kind V) (v : View) (s : Start V) (met : List (Free V)) (state : ℕ) (list : List Shown) (sound : AreShown k v s list) where
  pub was_listed : (text : List ℕ) → IsOutcomeAt k v met state text → list_any (λ e. bytes_eq e.text text) list ≡ true → HasListed k v s met state list list true
  was_listed text o w = let l = listed_by list text w in record {
    stay = λ e m. m;
    sound = sound;
    distinct = λ d. d;
    here = λ t f e. (let P = λ (x : List ℕ). IsListed list x in subst P (o f e) l);
  }

  shown-by : (e x : Shown) → IsShown k v s x → IsMember e list ⊎ (x ≡ e) → IsShown k v s e
  shown-by e x h (inl m) = sound e m
  shown-by e x h (inr w) = let P = λ (y : Shown). IsShown k v s y in subst P w h

  pub now_listed : (text : List ℕ) (x : Shown) (new : List Shown) → IsOutcomeAt k v met state text → IsShown k v s x → x.text ≡ text → list_any (λ y. bytes_eq y.text text) list ≡ false → new ≡ list ++ x ∷ [] →
      HasListed k v s met state list new true
  now_listed text x new o h e none w =
      let P = λ (y : List Shown). HasListed k v s met state list y true in
      let here : HasListed k v s met state list (list ++ x ∷ []) true = record {
        stay = λ e m. member_left e list (x ∷ []) m;
        sound = λ e m. shown-by e x h (member_split x e list m);
        distinct = λ d. one_more_once list x text e none d;
        here = λ t f g. record { entry = x; among = member_last x list; text_is = e ∙ o f g };
      } in
      subst P (sym w) here

-- ---- all of them

-- what is listed stays so
still-listed : (old new : List Shown) (text : List ℕ) → ((e : Shown) → IsMember e old → IsMember e new) → IsListed old text → IsListed new text
still-listed old new text stay l = record { entry = l.entry; among = stay l.entry l.among; text_is = l.text_is }

module _ {V : Type 0} (k : Kind V) (v : View) (s : Start V) (met : List (Free V)) (states : List ℕ) (n state : ℕ) (old new : List Shown) (whole listed : Bool)
    (to : HasListedTo k v s met states n old whole) (at : slice_get states n ≡ Some state) (one : HasListed k v s met state old new listed) where
  each-on : (whole && listed) ≡ true → (i x : ℕ) (b : Bool) → nat_eq i n ≡ b → i < n + 1 → slice_get states i ≡ Some x → OutcomeListed k v met x new
  each-on t i x true q l e =
      let both = and_parts whole listed t in
      let same : i ≡ n = eqb-true i n q in
      let P = λ (y : ℕ). slice_get states y ≡ Some x in
      let here : state ≡ x = same_Some state x (sym at ∙ subst P same e) in
      let Q = λ (y : ℕ). OutcomeListed k v met y new in
      subst Q here (one.here both.1)
  each-on t i x false q l e =
      let both = and_parts whole listed t in
      let other : i ≢ n = eqb-false i n q in
      λ f g. still-listed old new (outcome k v (at_end f)) one.stay (to.each both.0 i x (omega arith) e f g)

  pub listed_on : (after : Bool) → after ≡ (whole && listed) → HasListedTo k v s met states (n + 1) new after
  listed_on after w = record { sound = one.sound; distinct = one.distinct to.distinct; each = λ t i x l e. each-on (sym w ∙ t) i x (nat_eq i n) refl l e }

pub listed_each : {V : Type 0} (k : Kind V) (v : View) (s : Start V) (met : List (Free V)) (states : List ℕ) (n : ℕ) (list : List Shown) (listed : Bool) → HasListedTo k v s met states n list listed →
    n ≡ length states → HasListedEach k v s met states list listed
listed_each k v s met states n list listed to e = record {
  sound = to.sound;
  distinct = to.distinct;
  each = λ t state m. to.each t m.place state (let w = slice_get_within states m.place state m.at in omega arith) m.at;
}

-- ---- whether all are listed

-- those of the first n of these states are listed
abbrev pub AreListedTo : {V : Type 0} → Kind V → View → List (Free V) → List ℕ → ℕ → List Shown → Type 0
AreListedTo k v met states n list = (i state : ℕ) → i < n → slice_get states i ≡ Some state → OutcomeListed k v met state list

module _ {V : Type 0} (k : Kind V) (v : View) (met : List (Free V)) (states : List ℕ) (list : List Shown) where
  pub none_to : AreListedTo k v met states 0 list
  none_to i state l = absurd (omega arith)

  module _ (n state : ℕ) (text : List ℕ) (at : slice_get states n ≡ Some state) (o : IsOutcomeAt k v met state text) where
    pub one_to : AreListedTo k v met states n list → list_any (λ e. bytes_eq e.text text) list ≡ true → AreListedTo k v met states (n + 1) list
    one_to h w i x l e = by (nat_eq i n) refl
      where
        by : (b : Bool) → nat_eq i n ≡ b → OutcomeListed k v met x list
        by true q =
            let same : i ≡ n = eqb-true i n q in
            let P = λ (y : ℕ). slice_get states y ≡ Some x in
            let here : state ≡ x = same_Some state x (sym at ∙ subst P same e) in
            let Q = λ (y : ℕ). OutcomeListed k v met y list in
            subst Q here (λ f g. (let R = λ (t : List ℕ). IsListed list t in subst R (o f g) (listed_by list text w)))
        by false q =
            let other : i ≢ n = eqb-false i n q in
            h i x (omega arith) e

    pub one_missed : list_any (λ e. bytes_eq e.text text) list ≡ false → AreAllListed k v met states list false
    one_missed w = record {
      state = state;
      among = record { place = n; at = at };
      missed = λ f g l. (let R = λ (t : List ℕ). IsListed list t in unlisted_by list text w (subst R (sym (o f g)) l));
    }

  pub all_to : (n : ℕ) → length states ≤ n → AreListedTo k v met states n list → AreAllListed k v met states list true
  all_to n l h state m = h m.place state (let w = slice_get_within states m.place state m.at in omega arith) m.at

  module _ (s : Start V) (h : HasListedEach k v s met states list true) where
    pub were_listed : HasListedAll k v s met states list true
    were_listed = record { sound = h.sound; distinct = h.distinct; extent = h.each refl }

  pub looked_again : (s : Start V) (before listed : Bool) → HasListedEach k v s met states list before → AreAllListed k v met states list listed → HasListedAll k v s met states list listed
  looked_again s before listed h a = record { sound = h.sound; distinct = h.distinct; extent = a }

-- ---- the whole

module _ {V : Type 0} (k : Kind V) (v : View) (s : Start V) (met : List (Free V)) (states : List ℕ) (list : List Shown) where
  closed : AllSearched k v met states → slice_get met 0 ≡ Some (free_opening s) → IsClosed k v (free_opening s) met
  closed h e = record { first = record { like = free_opening s; among = record { place = 0; at = e }; is = like_same k v (free_opening s) }; next = λ g x a m i w. h.leads g x a m i w }

  at-rest : (q : Platform V) → HasRest k v met q → AllSearched k v met states → ((state : ℕ) → IsMember state states → OutcomeListed k v met state list) → IsListed list (outcome k v q)
  at-rest q r h each =
      let m = h.rests_are r.among.place r.rest r.among.at r.rests in
      let P = λ (x : List ℕ). IsListed list x in
      subst P r.same (each r.among.place m r.rest r.among.at)

  whole : ClosedCovers k → IsStart k s → AllSearched k v met states → slice_get met 0 ≡ Some (free_opening s) → ((state : ℕ) → IsMember state states → OutcomeListed k v met state list) →
      IsWhole k v s list
  whole covers start h e each cycles lead schedule q ran = at-rest q (covers v s met cycles lead schedule q start (closed h e) ran) h each

  opens : (old : List (Free V)) (most : ℕ) (followed : Bool) → old ≡ free_opening s ∷ [] → HasSearched k v old met states most followed → slice_get met 0 ≡ Some (free_opening s)
  opens old most followed first h = h.keeps.stay 0 (free_opening s) (ap (λ (x : List (Free V)). slice_get x 0) first)

  -- the first state alone is reached
  first-reached : (old : List (Free V)) → old ≡ free_opening s ∷ [] → AreReached k v (free_opening s) old
  first-reached old first f m = by m.place (let P = λ (x : List (Free V)). slice_get x m.place ≡ Some f in subst P first m.at)
    where
      by : (i : ℕ) → slice_get (free_opening s ∷ []) i ≡ Some f → IsReached k v (free_opening s) f
      by zero e = (let P = λ (x : Free V). IsReached k v (free_opening s) x in subst P (same_Some (free_opening s) f e) begun)
      by (suc i) e = absurd (none-some f e)

  missed : (old : List (Free V)) (most : ℕ) (followed : Bool) → old ≡ free_opening s ∷ [] → HasSearched k v old met states most followed → IsOneMissed k v met states list → HasMissed k v s list
  missed old most followed first h m =
      let x = item_at met m.state (h.within m.state m.among) in
      record {
        state = x.0;
        reached = h.reached (free_opening s) (first-reached old first) x.0 (record { place = m.state; at = x.1 });
        rests = h.rest m.state x.0 m.among x.1;
        unlisted = m.missed x.0 x.1;
      }

  pub reaches : (old : List (Free V)) (most : ℕ) (followed listed : Bool) (f : Listing) → ClosedCovers k → IsStart k s → old ≡ free_opening s ∷ [] → HasSearched k v old met states most followed →
      HasListedAll k v s met states list listed → f.list ≡ list → f.states ≡ length met → Reaches k v s most f (extent_of followed listed)
  reaches old most false listed f covers start first h l e c = let w = h.extent in omega arith
  reaches old most true false f covers start first h l e c =
      let P = λ (x : List Shown). HasMissed k v s x in
      let w = h.extent.1 in
      (subst P (sym e) (missed old most true first h l.extent), omega arith)
  reaches old most true true f covers start first h l e c =
      let P = λ (x : List Shown). IsWhole k v s x in
      let w = h.extent.1 in
      (subst P (sym e) (whole covers start h.extent.0 (opens old most true first h) l.extent), omega arith)
