-- The tests of a project, on its draft.
use Rattle.std.proofs.Common.{◌≡◌, ℕ, ◌≤◌, ◌<◌, List, sym, ap, subst, ◌∙◌, arith}
use Rattle.std.specs.List.{IsDistinct}
use Rattle.std.specs.Str.{bytes_eq}
use Rattle.mas_project.specs.declared.draft.Draft.{Draft}
use Rattle.mas_project.specs.declared.syntax.AgentLine.{AgentLine}
use Rattle.mas_project.specs.declared.syntax.ProjectText.{ProjectText}
use Rattle.mas_project.specs.declared.fault.ProjectFault.TheVariants as fault
use Rattle.mas_project.specs.Names.{names_of, agents_of, IsTwice}
use Rattle.mas_project.specs.Faults.{UnlessMemory}
use Rattle.mas_project.specs.Projects.{most_agents, saturated, FailsTest, too_many, two_names}
use Rattle.mas_project.specs.inner.Drafts.{IsDraft, SomeDraft, IsTested, FailsTests}
use Rattle.mas_project.proofs.Drafting.{few_capped}

few_saturated : (n m : ℕ) → m ≡ saturated n → m ≤ most_agents → n ≤ most_agents
few_saturated n m e le = grind arith

many_saturated : (n m : ℕ) → m ≡ saturated n → most_agents < m → most_agents < n
many_saturated n m e lt = grind arith

few_agents : (p : ProjectText) (d : Draft) → IsDraft p d → d.agents ≤ most_agents → agents_of p.agents ≤ most_agents
few_agents p d h le = few_saturated (agents_of p.agents) d.agents h.agents le

-- a draft of few agents is the project
draft_is : (p : ProjectText) (d : Draft) → IsDraft p d → d.agents ≤ most_agents → d.text ≡ p
draft_is p d h le = h.text
    ∙ ap (λ (x : List AgentLine). record { name = p.name; world = p.world; agents = x }) (few_capped p.agents h.counted (few_agents p d h le))

pub few : (d : Draft) → SomeDraft d → d.agents ≤ most_agents → agents_of d.text.agents ≤ most_agents
few d s le = subst (λ (x : ProjectText). agents_of x.agents ≤ most_agents) (sym (draft_is s.project d s.drafts le)) (few_agents s.project d s.drafts le)

pub passes : (d : Draft) → d.agents ≤ most_agents → IsDistinct bytes_eq (names_of d.text.agents) → IsTested d d.text
passes d le n p h =
    let same = draft_is p d h le in
    (same, record { few = few_agents p d h le; distinct = subst (λ (x : ProjectText). IsDistinct bytes_eq (names_of x.agents)) same n })

pub many : (d : Draft) → most_agents < d.agents → UnlessMemory (FailsTests d) (fault.TooMany d.agents)
many d lt p h = subst (λ (x : ℕ). FailsTest p.agents (fault.TooMany x)) (sym h.agents) (too_many (many_saturated (agents_of p.agents) d.agents h.agents lt))

pub same_names : (d : Draft) (place : ℕ) (name : List ℕ) → d.agents ≤ most_agents → IsTwice (names_of d.text.agents) place name
    → UnlessMemory (FailsTests d) (fault.TwoNames place name)
same_names d place name le t p h = two_names (few_agents p d h le) (subst (λ (x : ProjectText). IsTwice (names_of x.agents) place name) (draft_is p d h le) t)

pub ruleset tests = (few, passes, many, same_names)
