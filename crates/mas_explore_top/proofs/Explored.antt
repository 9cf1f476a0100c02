-- What is told of the runs of a project, by its start.
use Rattle.std.proofs.Common.{◌≡◌, ℕ, List, Option}
use Rattle.asl_term.specs.declared.syntax.Filed.{Filed}
use Rattle.asl_cycle.specs.Agent.{Mindset, agent_kind}
use Rattle.mas_world.specs.Worlds.{Used}
use Rattle.mas_free.specs.Covers.{Start}
use Rattle.mas_explore_listing.specs.declared.telling.Told.{Told}
use Rattle.mas_explore_listing.specs.Told.{IsTold}
use Rattle.mas_explore_top.specs.Asked.{Exploring}
use Rattle.mas_explore_top.specs.Starting.{IsStartIn}
use Rattle.mas_explore_top.specs.Explored.{view_of, options_of, IsToldIn}

pub is_told_in : (objects : List Used) (held : Option (List Filed)) (e : Exploring) (start : Start Mindset) (t : Told) →
    IsStartIn objects (options_of e) held e.project start → IsTold agent_kind (view_of e.detail) start e.states (options_of e) e.claimed t →
    IsToldIn objects held e t
is_told_in objects held e start t b i = record { start = start; begins = b; told = i }
