use Rattle.std.proofs.Common.{rules, ◌≡◌, ◌-◌, Some, slice_get}
use Rattle.mas_top_files.specs.Sources.{texts_of}
use Rattle.mas_top_opening.specs.Opening.{setup}
use Rattle.mas_explore_files.specs.Starts.{start_of}
use Rattle.mas_explore_files.proofs.Ready.{mind_told}
use Rattle.mas_explore_files.proofs.origin.SourceOriginOriginSteadyAgent.mind.Goals as goal

pub returns : goal.returns
returns g c =
    let source = c.self.inside.source in
    let u = setup c.self.inside.options (g.K.Kinds.objects c.self.inside.kinds) in
    let v : c.args.self.now ≡ start_of u source = search rules in
    let e : slice_get (texts_of source.roles) (c.args.a - 1) ≡ Some c.in-Some.text.now = search rules in
    mind_told c.fresh_agent.result u source c.self.inside.shared c.args.self.now c.args.a c.in-Some.text.now v c.self.invariant c.requires.from_one e c.fresh_agent.ensures
