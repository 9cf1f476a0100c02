-- Minds of which one stands for others that are alike, over any meaning V of minds.
use Rattle.std.specs.Prelude.{ℕ, ◌≡◌, ◌≤◌, true, List, [], ◌∷◌, ◌++◌, slice_get, Some}
use Rattle.mas_mind.specs.Minds.{Kind}
use Rattle.mas_free.specs.declared.view.View.{View}
use Rattle.mas_free.specs.Lines.{are_lines, viewed}
use Rattle.mas_free.specs.Alike.{Alike}
use Rattle.mas_explore_tables.specs.Tables.{Recalls}
use Rattle.mas_explore_minds.specs.declared.minds.Minds.{Minds}
use Rattle.mas_explore_minds.specs.Minds.{minds_in}
use Rattle.mas_explore_likes.specs.declared.likes.Likes.{Likes}
use Rattle.mas_explore_likes.specs.declared.likes.Liking.{Liking}
use Rattle.mas_explore_likes.specs.declared.likes.MetMind.{MetMind}
use Rattle.mas_explore_likes.specs.declared.likes.Settled.{Settled}

-- ---- minds that are alike

-- both texts are whole lines, and an outcome tells the same of them
pub record ShowAlike (v : View) (text other : List ℕ) : Type 0 where
  pub whole : are_lines text ≡ true
  pub other_whole : are_lines other ≡ true
  pub same : viewed v text ≡ viewed v other

-- the agent's number, the number of agents, and whether feedback is awaited are the same
pub record AreOfOne {V : Type 0} (k : Kind V) (m n : V) : Type 0 where
  pub me : k.me m ≡ k.me n
  pub agents : k.agents m ≡ k.agents n
  pub awaits : k.awaits m ≡ k.awaits n

-- in each view in which they have shown the same they are alike
pub record GoAlike {V : Type 0} (k : Kind V) (m n : V) : Type 0 where
  pub one : AreOfOne k m n
  pub alike : (v : View) → ShowAlike v (k.lines m) (k.lines n) → Alike k v m n

pub record AreAlike {V : Type 0} (k : Kind V) (v : View) (m n : V) : Type 0 where
  pub one : AreOfOne k m n
  pub alike : Alike k v m n

-- ---- minds by their numbers

-- there is a mind of this number, and it has made no more than so many cycles
pub record HasMade {V : Type 0} (k : Kind V) (first : List V) (t : Minds) (n most : ℕ) : Type 0 where
  pub mind : V
  pub at : slice_get (minds_in k first t) n ≡ Some mind
  pub made : k.made mind ≤ most

-- the mind of the one number may stand for that of the other: they are alike, and it has made no more than so many cycles
pub record StandsFor {V : Type 0} (k : Kind V) (first : List V) (t : Minds) (c : Liking) (r : Settled) : Type 0 where
  pub mind : V
  pub at : slice_get (minds_in k first t) c.mind ≡ Some mind
  pub other : V
  pub other_at : slice_get (minds_in k first t) r.mind ≡ Some other
  pub made : k.made other ≤ r.most
  pub alike : AreAlike k c.view mind other

-- a mind that was met is that of its number
pub record IsMet {V : Type 0} (k : Kind V) (first : List V) (t : Minds) (e : MetMind V) : Type 0 where
  pub at : slice_get (minds_in k first t) e.number ≡ Some e.mind
  pub made : k.made e.mind ≤ e.most

-- so is each, and each answer that is remembered is so
pub record AreMet {V : Type 0} (k : Kind V) (first : List V) (t : Minds) (l : Likes V) : Type 0 where
  pub met : (place : ℕ) (e : MetMind V) → slice_get l.met place ≡ Some e → IsMet k first t e
  pub settled : (c : Liking) (r : Settled) → Recalls l.settled c r → StandsFor k first t c r

-- one of those that were met is alike to this mind
pub record IsMetLike {V : Type 0} (k : Kind V) (v : View) (met : List (MetMind V)) (m : V) (r : Settled) : Type 0 where
  pub place : ℕ
  pub one : MetMind V
  pub at : slice_get met place ≡ Some one
  pub number : r.mind ≡ one.number
  pub most : r.most ≡ one.most
  pub alike : AreAlike k v m one.mind

-- this mind was put last
pub record HasKept {V : Type 0} (old new : List (MetMind V)) (m : V) (own : Settled) : Type 0 where
  pub one : MetMind V
  pub mind : one.mind ≡ m
  pub number : one.number ≡ own.mind
  pub most : one.most ≡ own.most
  pub new_is : new ≡ old ++ one ∷ []
