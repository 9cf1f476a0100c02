-- An agent on its way, and what all agents of its run have in common.
use Rattle.std.specs.Prelude.{◌≡◌, List, map}
use Rattle.mas_mind.specs.Minds.{Kind}
use Rattle.mas_baton.specs.declared.baton.Baton.{Baton}
use Rattle.mas_board_lists.specs.Lists.{Each}
use Rattle.mas_pool_ready.specs.Rule.{CameOf}
use Rattle.mas_pool_task.specs.declared.going.Going.{Going}
use Rattle.mas_pool_task.specs.Goings.{Became}
use Rattle.mas_pool.specs.Workers.{number_of, AreAt}
use Rattle.mas_steal.specs.declared.journey.Journey.{Journey}

module _ {V A : Type 0} where
  -- the baton, and the agents with which the run began
  abbrev pub home_of : Journey V A → Baton A × List (Going V A)
  home_of j = (j.baton.value, j.beginning.value.value)

  abbrev pub goings_of : List (Journey V A) → List (Going V A)
  goings_of js = map (λ (j : Journey V A). j.going) js

  -- it is at this baton, in a run that began with these agents
  pub record IsFrom (b : Baton A) (first : List (Going V A)) (j : Journey V A) : Type 0 where
    pub at : j.baton.value ≡ b
    pub since : j.beginning.value.value ≡ first

  -- these agents, on their way from there
  pub record AreSetOut (b : Baton A) (first goings : List (Going V A)) (js : List (Journey V A)) : Type 0 where
    pub are : goings_of js ≡ goings
    pub from : Each (IsFrom b first) js

  -- it became of the one that was there under its number at the beginning, as all agents at the baton
  pub record IsUnderWay (k : Kind V) (j : Journey V A) : Type 0 where
    pub came : CameOf number_of (Became k) j.beginning.value.value j.going
    pub home : AreAt j.baton.value j.beginning.value.value
