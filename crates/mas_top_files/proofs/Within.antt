-- The agents of a project pass their tests, and there is one.
use Rattle.std.proofs.Common.{ℕ, ◌≡◌, ◌≤◌, Bool, true, false, List, [], ◌∷◌, ◌++◌, map, length, Option, sym, subst, refl, ap, arith}
use Rattle.std.specs.List.{IsDistinct}
use Rattle.std.specs.Str.{bytes_eq}
use Rattle.asl_term.specs.declared.syntax.Filed.{Filed}
use Rattle.mas_project.specs.declared.syntax.AgentLine.{AgentLine}
use Rattle.mas_project.specs.declared.syntax.ProjectText.{ProjectText}
use Rattle.mas_project.specs.Names.{names_in, names_of, agents_of}
use Rattle.mas_project.specs.Projects.{most_agents, IsWithin}
use Rattle.mas_project.proofs.Agents as projects
use Rattle.mas_top_files.specs.Projects.{folder, line_in, is_agent_file, solo}
use Rattle.mas_top_files.specs.Sources.{ProjectBy, HasProject}

names_placed : (directory : List ℕ) (lines : List AgentLine) → names_of (map (line_in directory) lines) ≡ names_of lines
names_placed directory [] = refl
names_placed directory (line ∷ lines) = ap (λ x. names_in line ++ x) (names_placed directory lines)

one_few : 1 ≤ most_agents
one_few = omega arith

one_distinct : (name : List ℕ) → IsDistinct bytes_eq (name ∷ [])
unfolding IsDistinct
one_distinct name = (tt, tt)

within_by : (b : Bool) (held : Option (List Filed)) (word : List ℕ) (p : ProjectText) → ProjectBy b held word p → IsWithin p.agents
within_by true held word p h = subst (λ q. IsWithin q.agents) (sym h) (record { few = one_few; distinct = one_distinct solo })
within_by false held word p h =
    let e = names_placed (folder word) h.are.written.agents in
    let w = h.are.is.within in
    subst (λ q. IsWithin q.agents) (sym h.are.placed) (record {
      few = subst (λ ns. length ns ≤ most_agents) (sym e) w.few;
      distinct = subst (λ ns. IsDistinct bytes_eq ns) (sym e) w.distinct;
    })

pub within : (held : Option (List Filed)) (word : List ℕ) (p : ProjectText) → HasProject held word p → IsWithin p.agents
within held word p h = within_by (is_agent_file word) held word p h

some_by : (b : Bool) (held : Option (List Filed)) (word : List ℕ) (p : ProjectText) → ProjectBy b held word p → 1 ≤ agents_of p.agents
some_by true held word p h = subst (λ q. 1 ≤ agents_of q.agents) (sym h) (omega arith)
some_by false held word p h =
    subst (λ q. 1 ≤ agents_of q.agents) (sym h.are.placed)
    (subst (λ ns. 1 ≤ length ns) (sym (names_placed (folder word) h.are.written.agents)) (projects.some_agents h.bytes h.are.written h.are.is))

pub some_agents : (held : Option (List Filed)) (word : List ℕ) (p : ProjectText) → HasProject held word p → 1 ≤ agents_of p.agents
some_agents held word p h = some_by (is_agent_file word) held word p h
