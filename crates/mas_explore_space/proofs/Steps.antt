-- A step of a search: the states that were met, before it and after it.
use Rattle.std.proofs.Common.{ℕ, zero, suc, ◌≡◌, ◌+◌, ◌<◌, ◌≤◌, ◌⊎◌, inl, inr, arith, Bool, true, false, List, [], ◌∷◌, ◌++◌, length, map, slice_get, Option, None, Some, option_map, refl, ap, sym, ◌∙◌, subst}
use Rattle.std.proofs.lemmas.List.{length-map, length-append}
use Rattle.std.proofs.lemmas.Option.{same_Some, none-some, slice_get_within, slice_get-map}
use Rattle.mas_mind.specs.Minds.{Kind}
use Rattle.mas_free.specs.declared.view.View.{View}
use Rattle.mas_free.specs.Free.{Free, move}
use Rattle.mas_free.specs.Covers.{Start, IsMember, HasLike}
use Rattle.mas_explore.specs.Searches.{IsReached, AreReached, moved_on, Keeps, LeadsInto, HasFollowed}
use Rattle.mas_explore_tables.specs.Tables.{IsGrown, HasEntered}
use Rattle.mas_explore_tables.proofs.Entering.{IsNew, get-split}
use Rattle.mas_explore_space.specs.declared.held.Held.{Held}
use Rattle.mas_explore_space.specs.declared.row.Row.{Row}
use Rattle.mas_explore_space.specs.declared.states.Met.{Met}
use Rattle.mas_explore_space.specs.declared.states.Came.{Came}
use Rattle.mas_explore_space.specs.Held.{Grows, HasGrown}
use Rattle.mas_explore_space.specs.Rows.{free_of, met_of, RowHolds, Comes, MovesTo, HasMoved, Stands, IsSpace}
use Rattle.mas_explore_space.specs.Settling.{LikeHolds, IsRowLike, IsNextLike}
use Rattle.mas_explore_space.specs.Met.{states_of, IsMet, HasKept, HasKeptNext, HasStepped}
use Rattle.mas_explore_space.proofs.Helds.{grows_same}
use Rattle.mas_explore_space.proofs.Rows.{row_on, row_free, free_holds}

longer : {X : Type 0} (old new : List X) (x : X) → IsGrown old new x → length old ≤ length new
longer old new x (inl e) = (let n : length new ≡ length old = ap length e in omega arith)
longer old new x (inr e) =
    let n : length new ≡ length (old ++ x ∷ []) = ap length e in
    let m : length (old ++ x ∷ []) ≡ length old + 1 = length-append old (x ∷ []) in
    omega arith

-- what is at a place of a mapped list
pub record IsMapped {X Y : Type 0} (g : X → Y) (xs : List X) (i : ℕ) (y : Y) : Type 0 where
  pub item : X
  pub at : slice_get xs i ≡ Some item
  pub is : g item ≡ y

pub mapped-at : {X Y : Type 0} (g : X → Y) (xs : List X) (i : ℕ) (y : Y) → slice_get (map g xs) i ≡ Some y → IsMapped g xs i y
mapped-at {X} {Y} g xs i y e = by (slice_get xs i) refl (sym (slice_get-map g xs i) ∙ e)
  where
    by : (o : Option X) → slice_get xs i ≡ o → option_map g o ≡ Some y → IsMapped g xs i y
    by None f q = absurd (none-some y q)
    by (Some x) f q = record { item = x; at = f; is = same_Some (g x) y q }

pub map-at : {X Y : Type 0} (g : X → Y) (xs : List X) (i : ℕ) (x : X) → slice_get xs i ≡ Some x → slice_get (map g xs) i ≡ Some (g x)
map-at g xs i x e = slice_get-map g xs i ∙ ap (option_map g) e

module _ {V : Type 0} (k : Kind V) (v : View) (s : Start V) (old new : Held) (rows : List Row) (state : ℕ) (row : Row) (a : ℕ) (space : IsSpace k s old rows) (at : slice_get rows state ≡ Some row) where
  stands-on : (i : ℕ) (r : Row) → Grows k s old new → slice_get rows i ≡ Some r → Stands k s new i r
  stands-on i r g e = (let x = space.each i r e in record { state = x.state; holds = row_on k s old new i i r x.state g (omega arith) x.holds })

  same-free : (i : ℕ) (r : Row) → Grows k s old new → slice_get rows i ≡ Some r → free_of k s old r ≡ free_of k s new r
  same-free i r g e = row_free k s new i r (free_of k s old r) (row_on k s old new i i r (free_of k s old r) g (omega arith) (free_holds k s old i r (space.each i r e)))

  keeps : (rows' : List Row) → Grows k s old new → length rows ≤ length rows' → ((i : ℕ) (r : Row) → slice_get rows i ≡ Some r → slice_get rows' i ≡ Some r) → Keeps (met_of k s old rows) (met_of k s new rows')
  keeps rows' g l stay = record {
    longer = (let m = length-map rows (free_of k s old) in let n = length-map rows' (free_of k s new) in omega arith);
    stay = λ i f e.
        (let x = mapped-at (free_of k s old) rows i f e in
        map-at (free_of k s new) rows' i x.item (stay i x.item x.at) ∙ ap Some (sym (same-free i x.item g x.at) ∙ x.is));
  }

  -- the state that is followed
  state-is : (f : Free V) → slice_get (met_of k s old rows) state ≡ Some f → free_of k s old row ≡ f
  state-is f e = (let x = mapped-at (free_of k s old) rows state f e in ap (free_of k s old) (same_Some row x.item (sym at ∙ x.at)) ∙ x.is)

  here : RowHolds k s old state row (free_of k s old row)
  here = free_holds k s old state row (space.each state row at)

  -- a row that was there stands for a state that was
  was-reached : (first : Free V) → AreReached k v first (met_of k s old rows) → Grows k s old new → (i : ℕ) (r : Row) → slice_get rows i ≡ Some r → IsReached k v first (free_of k s new r)
  was-reached first all g i r q =
      let P = λ (f : Free V). IsReached k v first f in
      subst P (same-free i r g q) (all (free_of k s old r) (record { place = i; at = map-at (free_of k s old) rows i r q }))

  leads-none : (met : List (Free V)) (f : Free V) → move k f a ≡ None → LeadsInto k v met (move k f a) false
  leads-none met f e = (let P = λ (o : Option (Free V)). LeadsInto k v met o false in subst P (sym e) tt)

  pub stays_still : (came : List Came) → HasMoved k s old new state row a None → HasStepped k v s (record { held = old; rows = rows; came = came }) (record { held = new; rows = rows; came = came }) state a false
  stays_still came h =
      let g = h.grown.grows in
      record {
        met = record { fits = h.grown.fits; each = λ i r q. stands-on i r g q };
        followed = record {
          keeps = keeps rows g (omega arith) (λ i r q. q);
          reached = λ first all f m.
              (let x = mapped-at (free_of k s new) rows m.place f m.at in
              let P = λ (h : Free V). IsReached k v first h in
              subst P x.is (was-reached first all g m.place x.item x.at));
          leads = λ f q. (let M = λ (z : Free V). move k z a ≡ None in leads-none (met_of k s new rows) f (subst M (state-is f q) (h.moves (free_of k s old row) here)));
        };
      }

  leads-some : (met : List (Free V)) (f next : Free V) → move k f a ≡ Some next → HasLike k v next met → LeadsInto k v met (move k f a) true
  leads-some met f next e l = (let P = λ (o : Option (Free V)). LeadsInto k v met o true in subst P (sym e) l)

  module _ (rows' : List Row) (next other : Row) (n : ℕ) (h : HasMoved k s old new state row a (Some next)) (likes : IsRowLike k v s new (state + 1) next other)
      (entered : HasEntered rows rows' other n) where
    abbrev comes : (f : Free V) → free_of k s old row ≡ f → Comes k s new (state + 1) f a next
    comes f q = (let M = λ (z : Free V). Comes k s new (state + 1) z a next in subst M q (h.moves (free_of k s old row) here))

    -- a state like that to which the move leads
    abbrev like : (f : Free V) (q : free_of k s old row ≡ f) → LikeHolds k v s new (state + 1) other (comes f q).next
    like f q = likes (comes f q).next (comes f q).holds

    each : IsGrown rows rows' other → (i : ℕ) (r : Row) → slice_get rows' i ≡ Some r → Stands k s new i r
    each (inl e) i r q = (let P = λ (xs : List Row). slice_get xs i ≡ Some r in stands-on i r h.grown.grows (subst P e q))
    each (inr e) i r q = (let P = λ (xs : List Row). slice_get xs i ≡ Some r in by (get-split rows other r i (subst P e q)))
      where
        by : (slice_get rows i ≡ Some r) ⊎ IsNew rows other r i → Stands k s new i r
        by (inl w) = stands-on i r h.grown.grows w
        by (inr w) =
            let c = like (free_of k s old row) refl in
            let l = slice_get_within rows state row at in
            let p = w.place in
            let S = λ (z : Row). Stands k s new i z in
            subst S (sym w.value) (record { state = c.like; holds = row_on k s new new (state + 1) i other c.like (grows_same k s new) (omega arith) c.holds })

    has-like : (f : Free V) (q : free_of k s old row ≡ f) → HasLike k v (comes f q).next (met_of k s new rows')
    has-like f q =
        let c = like f q in
        let same : c.like ≡ free_of k s new other = row_free k s new (state + 1) other c.like c.holds in
        record {
          like = c.like;
          among = record { place = n; at = map-at (free_of k s new) rows' n other entered.at ∙ ap Some (sym same) };
          is = c.is;
        }

    -- nothing is reached but what was, and a state like that to which the move leads
    module _ (first : Free V) (all : AreReached k v first (met_of k s old rows)) where
      new-reached : IsReached k v first (free_of k s new other)
      new-reached =
          let f = free_of k s old row in
          let c = like f refl in
          let P = λ (h : Free V). IsReached k v first h in
          let from : IsReached k v first f = all f (record { place = state; at = map-at (free_of k s old) rows state row at }) in
          subst P (row_free k s new (state + 1) other c.like c.holds) (moved_on f (comes f refl).next c.like a from (comes f refl).moved c.is)

      row-split : (i : ℕ) (r : Row) → (slice_get rows i ≡ Some r) ⊎ IsNew rows other r i → IsReached k v first (free_of k s new r)
      row-split i r (inl w) = was-reached first all h.grown.grows i r w
      row-split i r (inr w) = (let P = λ (z : Row). IsReached k v first (free_of k s new z) in subst P (sym w.value) new-reached)

      row-reached : IsGrown rows rows' other → (i : ℕ) (r : Row) → slice_get rows' i ≡ Some r → IsReached k v first (free_of k s new r)
      row-reached (inl e) i r q = (let P = λ (xs : List Row). slice_get xs i ≡ Some r in was-reached first all h.grown.grows i r (subst P e q))
      row-reached (inr e) i r q = (let P = λ (xs : List Row). slice_get xs i ≡ Some r in row-split i r (get-split rows other r i (subst P e q)))

      all-reached : AreReached k v first (met_of k s new rows')
      all-reached f m =
          let x = mapped-at (free_of k s new) rows' m.place f m.at in
          let P = λ (h : Free V). IsReached k v first h in
          subst P x.is (row-reached entered.grown m.place x.item x.at)

    pub goes_on : (came came' : List Came) → HasStepped k v s (record { held = old; rows = rows; came = came }) (record { held = new; rows = rows'; came = came' }) state a true
    goes_on came came' =
        let g = h.grown.grows in
        record {
          met = record { fits = h.grown.fits; each = each entered.grown };
          followed = record {
            keeps = keeps rows' g (longer rows rows' other entered.grown) (λ i r q. entered.stay i r q);
            reached = λ first all. all-reached first all;
            leads = λ f q. leads-some (met_of k s new rows') f (comes f (state-is f q)).next (comes f (state-is f q)).moved (has-like f (state-is f q));
          };
        }

-- the whole step: a state like what the move led to was kept
pub stepped : {V : Type 0} (k : Kind V) (v : View) (s : Start V) (begun mid done : Met) (state a : ℕ) (row : Row) (to settled : Option Row) (moved : Bool) → IsMet k s begun →
    slice_get begun.rows state ≡ Some row → HasMoved k s begun.held mid.held state row a to → IsNextLike k v s mid.held (state + 1) to settled →
    HasKeptNext (record begun { held = mid.held }) done settled moved → HasStepped k v s begun done state a moved
stepped k v s begun mid done state a row None None moved met at h likes kept =
    let P = λ (x : Met). HasStepped k v s begun x state a moved in
    let Q = λ (b : Bool). HasStepped k v s begun (record begun { held = mid.held }) state a b in
    subst P (sym kept.0) (subst Q (sym kept.1) (stays_still k v s begun.held mid.held begun.rows state row a met at begun.came h))
stepped k v s begun mid done state a row None (Some other) moved met at h likes kept = absurd likes
stepped k v s begun mid done state a row (Some next) None moved met at h likes kept = absurd likes
stepped k v s begun mid done state a row (Some next) (Some other) moved met at h likes kept =
    let Q = λ (b : Bool). HasStepped k v s begun done state a b in
    let P = λ (x : Held). HasStepped k v s begun (record { held = x; rows = done.rows; came = done.came }) state a true in
    subst Q (sym kept.1) (subst P (sym kept.0.held)
    (goes_on k v s begun.held mid.held begun.rows state row a met at done.rows next other kept.0.number h likes kept.0.entered begun.came done.came))

-- what is held is not changed where a row is kept
pub kept_held : (old new : Met) (to : Option Row) (moved : Bool) → HasKeptNext old new to moved → new.held ≡ old.held
kept_held old new None moved h = ap (λ (m : Met). m.held) h.0
kept_held old new (Some row) moved h = h.0.held
