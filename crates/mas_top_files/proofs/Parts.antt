-- What the files of a project give, one after the other.
use Rattle.std.proofs.Common.{ℕ, ◌≡◌, ◌≤◌, inl, inr, List, [], ◌∷◌, ◌++◌, length, Option, Some, sym, subst, refl, ap, ◌∙◌, append_assoc, append-nil}
use Rattle.asl_term.specs.declared.syntax.AgentText.{AgentText}
use Rattle.asl_term.specs.declared.syntax.Filed.{Filed}
use Rattle.asl_parser.specs.Agents.{IsAgent}
use Rattle.mas_world.specs.declared.acts.WorldText.{WorldText}
use Rattle.env_file.specs.Worlds.{IsWorld}
use Rattle.mas_project.specs.declared.syntax.AgentLine.{AgentLine}
use Rattle.mas_project.specs.declared.syntax.ProjectText.{ProjectText}
use Rattle.mas_project.specs.Names.{names_in}
use Rattle.mas_top_files.specs.declared.sources.Role.{Role}
use Rattle.mas_top_status.specs.declared.status.Status.{Status}
use Rattle.mas_top_files.specs.Files.{HasFile, most_bytes, agents, worlds, IsRefusal}
use Rattle.mas_top_files.specs.Sources.{HasRole, HasRoles, HasWorld, LineRefused, WorldRefused, PartRefused, UnlessMemory}
use Rattle.mas_top_files.proofs.Fetched.{refusal_from}
use Rattle.mas_top_files.proofs.Unless.{unless, unless_as}

-- ---- the lines

abbrev pub role_of : AgentText → ℕ → Role
role_of text count = record { text = text; count = count }

pub role : (held : Option (List Filed)) (line : AgentLine) (text : AgentText) (count : ℕ) →
    HasFile most_bytes held line.file (λ bytes. IsAgent bytes text) → count ≡ length (names_in line) → HasRole held line (role_of text count)
role held line text count h e = record { text = h; count = e }

-- so many lines were read, and these are left
pub record ReadUpTo (held : Option (List Filed)) (lines rest : List AgentLine) (roles : List Role) : Type 0 where
  pub front : List AgentLine
  pub parts : lines ≡ front ++ rest
  pub read : HasRoles held front roles

pub begins : (held : Option (List Filed)) (lines : List AgentLine) → ReadUpTo held lines lines []
begins held lines = record { front = []; parts = refl; read = tt }

more_roles : (held : Option (List Filed)) (front : List AgentLine) (roles : List Role) (line : AgentLine) (role : Role) → HasRoles held front roles →
    HasRole held line role → HasRoles held (front ++ line ∷ []) (roles ++ role ∷ [])
more_roles held [] [] line role h r = (r, tt)
more_roles held [] (x ∷ roles) line role h r = absurd h
more_roles held (l ∷ front) [] line role h r = absurd h
more_roles held (l ∷ front) (x ∷ roles) line role h r = (h.0, more_roles held front roles line role h.1 r)

pub more : (held : Option (List Filed)) (lines rest after : List AgentLine) (roles : List Role) (line : AgentLine) (role : Role) →
    ReadUpTo held lines rest roles → rest ≡ line ∷ after → HasRole held line role → ReadUpTo held lines after (roles ++ role ∷ [])
more held lines rest after roles line role u e r = record {
  front = u.front ++ line ∷ [];
  parts = u.parts ∙ ap (λ x. u.front ++ x) e ∙ sym (append_assoc u.front (line ∷ []) after);
  read = more_roles held u.front roles line role u.read r;
}

pub ends : (held : Option (List Filed)) (lines rest : List AgentLine) (roles : List Role) → ReadUpTo held lines rest roles → rest ≡ [] → HasRoles held lines roles
ends held lines rest roles u e =
    subst (λ x. HasRoles held x roles) (sym (u.parts ∙ ap (λ x. u.front ++ x) e ∙ append-nil u.front)) u.read

pub stops : (held : Option (List Filed)) (lines rest after : List AgentLine) (roles : List Role) (line : AgentLine) (first before now : ℕ) (status : Status) →
    ReadUpTo held lines rest roles → rest ≡ line ∷ after → first ≤ before → IsRefusal agents line.file held before now status →
    UnlessMemory (LineRefused held lines first now) status
stops held lines rest after roles line first before now status u e l r =
    unless (LineRefused held lines first now) status (record {
      front = u.front;
      roles = roles;
      line = line;
      back = after;
      lines_are = u.parts ∙ ap (λ x. u.front ++ x) e;
      read = u.read;
      why = refusal_from agents line.file held first before now status l r;
    })

-- ---- the world

pub world_read : (known : List (List ℕ)) (held : Option (List Filed)) (name : List ℕ) (text : WorldText) → HasFile most_bytes held name (λ bytes. IsWorld known bytes text) →
    HasWorld known held (Some name) (Some text)
world_read known held name text h = h

pub world_unread : (known : List (List ℕ)) (held : Option (List Filed)) (name : List ℕ) (before after : ℕ) (status : Status) → IsRefusal (worlds known) name held before after status →
    WorldRefused known (Some name) held before after status
world_unread known held name before after status r = record { name = name; named_is = refl; why = r }

-- ---- both

pub world_first : (known : List (List ℕ)) (held : Option (List Filed)) (p : ProjectText) (before after : ℕ) (status : Status) → WorldRefused known p.world held before after status →
    UnlessMemory (PartRefused known p held before after) status
world_first known held p before after status w = unless (PartRefused known p held before after) status (inl w)

pub line_from : (held : Option (List Filed)) (lines : List AgentLine) (first before after : ℕ) (status : Status) → first ≤ before →
    LineRefused held lines before after status → LineRefused held lines first after status
line_from held lines first before after status l r = record {
  front = r.front;
  roles = r.roles;
  line = r.line;
  back = r.back;
  lines_are = r.lines_are;
  read = r.read;
  why = refusal_from agents r.line.file held first before after status l r.why;
}

pub then_agents : (known : List (List ℕ)) (held : Option (List Filed)) (p : ProjectText) (world : Option WorldText) (first before after : ℕ) (status : Status) → first ≤ before →
    HasWorld known held p.world world → UnlessMemory (LineRefused held p.agents before after) status → UnlessMemory (PartRefused known p held first after) status
then_agents known held p world first before after status l w r =
    unless_as (LineRefused held p.agents before after) (PartRefused known p held first after)
    (λ s h. inr (record { world = world; read = w; why = line_from held p.agents first before after s l h })) status r
