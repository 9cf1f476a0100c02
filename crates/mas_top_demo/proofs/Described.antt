-- The demo's files describe what is run, or its world is refused.
use Rattle.std.proofs.Common.{◌≡◌, ◌≤◌, ℕ, zero, suc, ◌+◌, inl, true, false, List, [], ◌∷◌, map, Some, refl, ap, sym, arith}
use Rattle.std.specs.Prelude.{codes}
use Rattle.std.specs.List.{range_with_len}
use Rattle.env_file.specs.declared.fault.WorldFault.TheVariants as fault
use Rattle.env_file.specs.Worlds.{has_name}
use Rattle.mas_project.specs.declared.syntax.AgentLine.{AgentLine}
use Rattle.mas_project.specs.declared.syntax.ProjectText.{ProjectText}
use Rattle.mas_top_files.specs.declared.sources.Role.{Role}
use Rattle.mas_top_files.specs.declared.sources.Source.{Source}
use Rattle.mas_io.specs.Causes.{Rose}
use Rattle.mas_top_files.specs.Files.{faulty}
use Rattle.mas_top_files.specs.Projects.{line_in}
use Rattle.mas_top_files.proofs.Single.{not_refused}
use Rattle.mas_top_files.specs.Sources.{HasProject, HasRole, HasRoles, IsAsked, Describe, part_refused}
use Rattle.mas_top_demo.specs.Files.{agent_name, agent_source, project_source, world_source, demo_files}
use Rattle.mas_top_demo.specs.Laws.{DemoDescribed, DemoNotRefused, DemoRefused}
use Rattle.mas_top_demo.proofs.Entries.{agent_line, demo_project}
use Rattle.mas_top_demo.proofs.Named.{names_are, agents_are, is_project}
use Rattle.mas_top_demo.proofs.Held.{project_held, world_held, agent_held}
use Rattle.mas_top_demo.proofs.World.{demo_world, is_world, is_unknown}
use Rattle.mas_top_demo.proofs.Agent.{demo_agent, is_agent}

abbrev role : ℕ → Role
role i = record { text = demo_agent i; count = 1 }

abbrev source : ℕ → Source
source k = record { names = map agent_name (range_with_len 1 k); roles = map role (range_with_len 1 k); world = Some demo_world }

-- ---- the project

-- its files stand in no folder
lines_stay : (ns : List ℕ) → map agent_line ns ≡ map (line_in []) (map agent_line ns)
lines_stay [] = refl
lines_stay (n ∷ ns) = ap (λ lines. agent_line n ∷ lines) (lines_stay ns)

abbrev of_lines : List AgentLine → ProjectText
of_lines lines = record { name = codes "demo"; world = Some (codes "demo.env"); agents = lines }

stands : (k : ℕ) → 1 ≤ k → k ≤ 200 → HasProject (Some (demo_files k)) (codes "demo.mas2j") (demo_project k)
stands k l h = record {
  bytes = project_source k;
  has = project_held k h;
  are = record { written = demo_project k; is = is_project k l h; placed = ap of_lines (lines_stay (range_with_len 1 k)) };
}

asked : (k : ℕ) → 1 ≤ k → k ≤ 200 → IsAsked 1000 (Some (demo_files k)) (codes "demo.mas2j") (demo_project k)
asked k l h = record { stands = stands k l h; few = omega (arith, agents_are k, h) }

-- ---- the agents

has_role : (k i : ℕ) → k ≤ 200 → 1 ≤ i → i ≤ k → HasRole (Some (demo_files k)) (agent_line i) (role i)
has_role k i h l g = record {
  text = record { bytes = agent_source i; has = agent_held k i h l g; are = is_agent i (omega (arith, h, g)) };
  count = refl;
}

has_roles : (k a n : ℕ) → k ≤ 200 → 1 ≤ a → a + n ≤ k + 1
    → HasRoles (Some (demo_files k)) (map agent_line (range_with_len a n)) (map role (range_with_len a n))
has_roles k a zero h l g = tt
has_roles k a (suc n) h l g = (has_role k a h l (omega (arith, g)), has_roles k (a + 1) n h (omega (arith, l)) (omega (arith, g)))

-- ---- the whole

describe : (known : List (List ℕ)) (k : ℕ) → has_name known (codes "tally") ≡ true → 1 ≤ k → k ≤ 200
    → Describe known (Some (demo_files k)) (demo_project k) (source k)
describe known k t l h = record {
  names = sym (names_are (range_with_len 1 k));
  world = record { bytes = world_source; has = world_held k; are = is_world known t };
  roles = has_roles k 1 k h (omega arith) (omega arith);
}

pub demo_described : DemoDescribed
demo_described known k t l h = record {
  source = source k;
  agents = refl;
  described = record { project = demo_project k; asked = asked k l h; describe = describe known k t l h };
}

-- a count that stands at 0 has not risen
still : Rose 0 0 → ⊥
still r = omega (arith, r)

pub demo_not_refused : DemoNotRefused
demo_not_refused known k status t l h refused =
    let d = demo_described known k t l h in
    not_refused known 1000 (demo_files k) (codes "demo.mas2j") d.source 0 0 status d.described still refused

-- ---- where no artifact `tally` is there

pub demo_refused : DemoRefused
demo_refused known k before after n l h =
    part_refused (demo_project k) (asked k l h)
    (inl (record {
      name = codes "demo.env";
      named_is = refl;
      why = faulty (record {
        why = fault.UnknownArtifact 1 (codes "tally");
        is = record { bytes = world_source; has = world_held k; are = is_unknown known n };
        status_is = refl;
      });
    }))
