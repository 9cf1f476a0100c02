-- What a search knows of its states.
use Rattle.std.specs.Prelude.{ℕ, ◌<◌, ◌^◌, List, length}
use Rattle.mas_mind.specs.Minds.{Kind}
use Rattle.mas_free.specs.Free.{Free}
use Rattle.mas_free.specs.Covers.{Start}
use Rattle.mas_explore_likes.specs.Likes.{AreMet}
use Rattle.mas_explore_likes.specs.declared.likes.Likes.{Likes}
use Rattle.mas_explore_space.specs.declared.row.Row.{Row}
use Rattle.mas_explore_space.specs.declared.held.Held.{Held}
use Rattle.mas_explore_space.specs.Rows.{IsSpace}

pub record Searched (V : Type 0) : Type 0 where
  pub start : Start V
  pub met : List (Free V)

-- there are few agents; and where a state is left, what is held fits, each row stands for its state, and so do the minds that stand for others
pub record IsSearched {V : Type 0} (k : Kind V) (s : Start V) (held : Held) (rows : List Row) (likes : Likes V) : Type 0 where
  pub few : length s.names < 2 ^ 16
  pub space : 0 < length rows → IsSpace k s held rows
  pub met : 0 < length rows → AreMet k s.minds held.minds likes
