-- What is one of a list stays so where the list is put into another order.
use Rattle.std.proofs.Common.{ℕ, ◌≡◌, ◌≤◌, cond, List, All, slice_index_or, sym, subst, ◌∙◌}
use Rattle.std.specs.Str.{bytes_eq}
use Rattle.std.proofs.lemmas.Option.{same_Some, slice_get_within}
use Rattle.std.proofs.lemmas.List.Sorted.{All-permutation, IsPermutation-sym, sum_by-IsPermutation}
use Rattle.std.specs.List.Sorted.{IsPermutation}
use Rattle.mas_mind.specs.Minds.{Kind}
use Rattle.mas_free.specs.declared.view.View.{View}
use Rattle.mas_free.specs.Covers.{Start, IsMember}
use Rattle.mas_explore.specs.declared.listing.Shown.{Shown}
use Rattle.mas_explore.specs.declared.listing.Extent.{Extent}
use Rattle.mas_explore.specs.declared.listing.Extent.TheVariants as extents
use Rattle.mas_explore.specs.Listings.{AreShown, AreDistinct, IsListed, IsWhole, HasMissed, Reaches}
use Rattle.mas_explore.proofs.Members.{index_at}

itself : {X : Type 0} (xs : List X) → All (λ (x : X). IsMember x xs) xs
itself xs i d l = record { place = i; at = index_at xs i d l }

pub moved : {X : Type 0} (xs ys : List X) (x : X) → IsPermutation xs ys → IsMember x ys → IsMember x xs
moved {X} xs ys x p m =
    let P = λ (y : X). IsMember y xs in
    let l = slice_get_within ys m.place x m.at in
    subst P (same_Some (slice_index_or ys m.place x) x (sym (index_at ys m.place x l) ∙ m.at)) (All-permutation P xs ys p (itself xs) m.place x l)

pub distinct_still : (old new : List Shown) → IsPermutation old new → AreDistinct old → AreDistinct new
distinct_still old new p h text =
    let same = sum_by-IsPermutation (λ (e : Shown). cond (bytes_eq e.text text) 1 0) old new p in
    subst (λ n. n ≤ 1) (sym same) (h text)

module _ {V : Type 0} (k : Kind V) (v : View) (s : Start V) (old new : List Shown) (p : IsPermutation old new) where
  pub shown_still : AreShown k v s old → AreShown k v s new
  shown_still h e m = h e (moved old new e p m)

  listed_still : (text : List ℕ) → IsListed old text → IsListed new text
  listed_still text l = record { entry = l.entry; among = moved new old l.entry (IsPermutation-sym old new p) l.among; text_is = l.text_is }

  pub whole_still : IsWhole k v s old → IsWhole k v s new
  whole_still h cycles lead schedule q r = listed_still _ (h cycles lead schedule q r)

  missed_still : HasMissed k v s old → HasMissed k v s new
  missed_still h = record {
    state = h.state;
    reached = h.reached;
    rests = h.rests;
    unlisted = λ l. h.unlisted (record { entry = l.entry; among = moved old new l.entry p l.among; text_is = l.text_is });
  }

  pub reaches_still : (most states : ℕ) (extent : Extent) → Reaches k v s most (record { list = old; extent = extent; states = states }) extent →
      Reaches k v s most (record { list = new; extent = extent; states = states }) extent
  reaches_still most states extents.All h = (whole_still h.0, h.1)
  reaches_still most states extents.Bound h = h
  reaches_still most states extents.Unshown h = (missed_still h.0, h.1)
