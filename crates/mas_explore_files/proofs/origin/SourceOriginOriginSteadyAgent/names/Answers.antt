use Rattle.std.proofs.Common.{rules, ◌≡◌, sym, subst}
use Rattle.asl_cycle.specs.Agent.{Mindset, agent_kind}
use Rattle.mas_top_opening.specs.Opening.{setup}
use Rattle.mas_free.specs.Covers.{Start}
use Rattle.mas_explore.specs.Origins.{IsOrigin}
use Rattle.mas_explore_files.specs.Starts.{start_of}
use Rattle.mas_explore_files.proofs.Ready.{is_origin}
use Rattle.mas_explore_files.proofs.origin.SourceOriginOriginSteadyAgent.names.Goals as goal

pub returns-clause-origin : goal.returns-clause-origin
returns-clause-origin g c =
    let u = setup c.self.inside.options (g.K.Kinds.objects c.self.inside.kinds) in
    let e : c.args.self.now ≡ start_of u c.self.inside.source = search rules in
    let P = λ (s : Start Mindset). IsOrigin agent_kind s in
    subst P (sym e) (is_origin u c.self.inside.source c.self.inside.shared c.self.invariant)
