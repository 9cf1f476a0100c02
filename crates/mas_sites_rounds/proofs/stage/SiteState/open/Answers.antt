use Rattle.std.proofs.Common.{refl, replicate, ap, ◌∙◌, []}
use Rattle.mas_core.proofs.Fitting.{fit_open}
use Rattle.mas_sites_stand.specs.Seats.{seated}
use Rattle.mas_sites_rounds.proofs.Cycling.{opened_platform, opened_site, no_scripts}
use Rattle.mas_sites_rounds.proofs.stage.SiteState.open.Goals as goal

pub invariant_of-result : goal.invariant_of-result
invariant_of-result g c =
    let n = c.len-agents.ensures in
    record {
      number = no_scripts _ c.args.minds (c.in_ok-scripts.ensures ∙ ap (λ x. replicate x []) n);
      play = record {
        fit = rw (c.in_ok-thoughts.ensures, n) (fit_open (seated g.M.Mind.kind) c.args.board c.args.minds c.requires c.holds.ensures.opens);
        running = c.requires.running;
      };
    }

pub returns : goal.returns
returns g c =
    let t = rw c.len-agents.ensures at c.in_ok-thoughts.ensures in
    let s = rw c.len-agents.ensures at c.in_ok-scripts.ensures in
    opened_site _ c.args.board.state c.args.minds (opened_platform _ c.args.board.state c.args.minds refl refl t) c.requires.unplayed s
