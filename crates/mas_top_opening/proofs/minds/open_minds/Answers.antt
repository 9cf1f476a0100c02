use Rattle.std.proofs.Common.{◌≡◌, ℕ, ◌+◌, List, ◌++◌, length, replicate, subst}
use Rattle.mas_top_opening.specs.Opening.{minds_from}
use Rattle.mas_top_opening.proofs.Opened.{roles_more}
use Rattle.mas_top_opening.proofs.minds.open_minds.Goals as goal

pub roles-preserved : goal.roles-preserved
roles-preserved c =
    let role = c.in-Some.role.now in
    let more =
    subst (λ (names : List (List ℕ)). c.add_agents.new.minds ≡ c.roles.minds ++ minds_from c.args.o.now names (length c.roles.minds + 1) (replicate role.count role.text))
    c.in_ok-shared.ensures c.in_ok-add_agents.ensures in
    roles_more c.args.o.now c.args.names.now c.roles.rest.now c.in-Some.after.now role c.roles.minds c.add_agents.new.minds _
    c.roles.invariant c.in-Some.ensures.cases.0 more
