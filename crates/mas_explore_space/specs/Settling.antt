-- Rows that stand for states like others.
use Rattle.std.specs.Prelude.{ℕ, ◌≡◌, ◌≤◌, List, Option, None, Some, IfSome}
use Rattle.mas_mind.specs.Minds.{Kind}
use Rattle.mas_free.specs.declared.view.View.{View}
use Rattle.mas_free.specs.Free.{Free}
use Rattle.mas_free.specs.Covers.{Start, IsLike}
use Rattle.mas_explore_minds.specs.declared.minds.Minds.{Minds}
use Rattle.mas_explore_likes.specs.Likes.{StandsFor}
use Rattle.mas_explore_space.specs.declared.held.Held.{Held}
use Rattle.mas_explore_space.specs.declared.row.Row.{Row}
use Rattle.mas_explore_space.specs.Rows.{RowHolds, Stands}

-- the mind of the number n may stand for that of the number `mind`, and has made no more than so many cycles
abbrev pub MayStand : {V : Type 0} → Kind V → View → List V → Minds → ℕ → ℕ → ℕ → Type 0
MayStand k v first t most mind n = StandsFor k first t (record { mind = mind; view = v }) (record { mind = n; most = most })

-- a state for which this row stands is like that one
pub record LikeHolds {V : Type 0} (k : Kind V) (v : View) (s : Start V) (h : Held) (most : ℕ) (row : Row) (f : Free V) : Type 0 where
  pub like : Free V
  pub holds : RowHolds k s h most row like
  pub is : IsLike k v f like

-- each state for which the one row stands has one like it for which the other stands
abbrev pub IsRowLike : {V : Type 0} → Kind V → View → Start V → Held → ℕ → Row → Row → Type 0
IsRowLike {V} k v s h most row other = (f : Free V) → RowHolds k s h most row f → LikeHolds k v s h most other f

-- the same where there is a row

abbrev pub NextStands : {V : Type 0} → Kind V → Start V → Held → ℕ → Option Row → Type 0
NextStands k s h most to = IfSome to (Stands k s h most)

abbrev pub IsNextLike : {V : Type 0} → Kind V → View → Start V → Held → ℕ → Option Row → Option Row → Type 0
IsNextLike k v s h most None None = Unit {0}
IsNextLike k v s h most None (Some other) = ⊥
IsNextLike k v s h most (Some row) None = ⊥
IsNextLike k v s h most (Some row) (Some other) = IsRowLike k v s h most row other
