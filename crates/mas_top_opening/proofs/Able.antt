-- What files describe can be run.
use Rattle.std.proofs.Common.{ℕ, ◌≡◌, ◌≤◌, Bool, true, ◌&&◌, List, [], ◌∷◌, length, Option, None, Some, IfSome, sym, subst, refl, ap, ◌∙◌}
use Rattle.std.specs.List.{list_all}
use Rattle.asl_term.specs.declared.syntax.Filed.{Filed}
use Rattle.asl_parser.proofs.Ground.{ground_beliefs}
use Rattle.env_file.proofs.Opened.{good_facts}
use Rattle.mas_world.specs.declared.acts.WorldText.{WorldText}
use Rattle.mas_world.specs.Worlds.{Used}
use Rattle.mas_project.specs.declared.syntax.AgentLine.{AgentLine}
use Rattle.mas_project.specs.Projects.{most_agents}
use Rattle.mas_top_files.specs.declared.sources.Role.{Role}
use Rattle.mas_top_files.specs.declared.sources.Source.{Source}
use Rattle.mas_top_files.specs.Known.{known}
use Rattle.mas_top_files.specs.Sources.{HasWorld, HasRole, HasRoles, HasSource}
use Rattle.mas_top_files.proofs.Artifacts.{known_uses}
use Rattle.mas_top_files.proofs.Texts.{texts_named}
use Rattle.mas_top_files.proofs.Within.{within, some_agents}
use Rattle.mas_top_opening.specs.Fits.{CanOpen, CanRun, is_ground_role}

role_ground : (held : Option (List Filed)) (line : AgentLine) (role : Role) → HasRole held line role → is_ground_role role ≡ true
role_ground held line role h = ground_beliefs h.text.bytes role.text h.text.are

both : (a b : Bool) → a ≡ true → b ≡ true → (a && b) ≡ true
both a b e f = ap (λ x. x && b) e ∙ f

pub roles_ground : (held : Option (List Filed)) (all : List AgentLine) (roles : List Role) → HasRoles held all roles → list_all is_ground_role roles ≡ true
roles_ground held [] [] h = refl
roles_ground held [] (role ∷ roles) h = absurd h
roles_ground held (l ∷ all) [] h = absurd h
roles_ground held (l ∷ all) (role ∷ roles) h =
    both (is_ground_role role) (list_all is_ground_role roles) (role_ground held l role h.0) (roles_ground held all roles h.1)

pub world_open : (objects : List Used) (held : Option (List Filed)) (name : Option (List ℕ)) (text : Option WorldText) → HasWorld (known objects) held name text →
    IfSome text (CanOpen objects)
world_open objects held None None h = tt
world_open objects held None (Some text) h = absurd h
world_open objects held (Some name) None h = absurd h
world_open objects held (Some name) (Some text) h =
    record { facts = good_facts (known objects) h.bytes text h.are; named = known_uses objects h.bytes text h.are }

pub can_run : (objects : List Used) (cycles : ℕ) (held : Option (List Filed)) (word : List ℕ) (source : Source) → HasSource (known objects) cycles held word source →
    CanRun objects source
can_run objects cycles held word source h =
    let d = h.describe in
    let w = within held word h.project h.asked.stands in
    let s = some_agents held word h.project h.asked.stands in
    let e = ap length d.names in
    record {
      named = texts_named (known objects) cycles held word source h;
      some = subst (λ n. 1 ≤ n) (sym e) s;
      few = subst (λ n. n ≤ most_agents) (sym e) w.few;
      ground = roles_ground held h.project.agents source.roles d.roles;
      world = world_open objects held h.project.world source.world d.world;
    }
