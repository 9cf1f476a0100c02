-- What the bytes of a file make of it.
use Rattle.std.proofs.Common.{ℕ, ◌≡◌, ◌≤◌, List, Option, rules}
use Rattle.asl_term.specs.declared.syntax.AgentText.{AgentText}
use Rattle.asl_term.specs.declared.syntax.Filed.{Filed}
use Rattle.asl_parser_expr.specs.declared.fault.TextFault.{TextFault}
use Rattle.asl_parser.specs.Agents.{IsAgent, IsNone}
use Rattle.mas_world.specs.declared.acts.WorldText.{WorldText}
use Rattle.env_file.specs.declared.fault.WorldFault.{WorldFault}
use Rattle.env_file.specs.Worlds as env
use Rattle.mas_project.specs.declared.syntax.ProjectText.{ProjectText}
use Rattle.mas_project.specs.declared.fault.ProjectFault.{ProjectFault}
use Rattle.mas_project.specs.Projects as projects
use Rattle.mas_io.specs.Causes.{Rose}
use Rattle.mas_io.specs.declared.shelf.Fetched.TheVariants.{Bytes}
use Rattle.mas_top_files.specs.Files as spec
use Rattle.mas_top_files.specs.Files.{Has, HasFile, Reader, IsRefusal, unfetched, faulty, IsUnfetched, missing, too_long, failed, starved, most_bytes}
use Rattle.mas_top_files.specs.Faults.{text_status, world_status, project_status}
use Rattle.mas_top_status.specs.declared.status.Status.{Status}

-- ---- bytes that are not there

pub no_agent : (name : List ℕ) (held : Option (List Filed)) (before after : ℕ) (status : Status) → IsUnfetched 1048576 name held before after status →
    IsRefusal spec.agents name held before after status
no_agent name held before after status h = unfetched h

pub no_world : (known : List (List ℕ)) (name : List ℕ) (held : Option (List Filed)) (before after : ℕ) (status : Status) → IsUnfetched 1048576 name held before after status →
    IsRefusal (spec.worlds known) name held before after status
no_world known name held before after status h = unfetched h

pub no_project : (name : List ℕ) (held : Option (List Filed)) (before after : ℕ) (status : Status) → IsUnfetched 1048576 name held before after status →
    IsRefusal spec.projects name held before after status
no_project name held before after status h = unfetched h

-- ---- the same of a call that began before

rose_from : (first before after : ℕ) → first ≤ before → Rose before after → Rose first after
rose_from first before after l r = search rules

pub refusal_from : (r : Reader) (name : List ℕ) (held : Option (List Filed)) (first before after : ℕ) (status : Status) → first ≤ before →
    IsRefusal r name held before after status → IsRefusal r name held first after status
refusal_from r name held first before after status l (unfetched (missing e h)) = unfetched (missing e h)
refusal_from r name held first before after status l (unfetched (too_long e h)) = unfetched (too_long e h)
refusal_from r name held first before after status l (unfetched (failed e h)) = unfetched (failed e (rose_from first before after l h))
refusal_from r name held first before after status l (unfetched (starved e)) = unfetched (starved e)
refusal_from r name held first before after status l (faulty f) = faulty f

-- ---- bytes that have a fault

pub refused_by : (r : Reader) (name : List ℕ) (held : Option (List Filed)) (before after : ℕ) (bytes : List ℕ) (why : r.Fault) (status : Status) → Has r.most held name (Bytes bytes) →
    r.faulty bytes why → status ≡ r.status_of name why → IsRefusal r name held before after status
refused_by r name held before after bytes why status h f e = faulty (record { why = why; is = record { bytes = bytes; has = h; are = f }; status_is = e })

-- ---- the file of an agent

pub agent_file : (held : Option (List Filed)) (name bytes : List ℕ) (text : AgentText) → Has 1048576 held name (Bytes bytes) → IsAgent bytes text →
    HasFile most_bytes held name (λ bytes. IsAgent bytes text)
agent_file held name bytes text h g = record { bytes = bytes; has = h; are = g }

pub text_file : (name : List ℕ) (held : Option (List Filed)) (before after : ℕ) (bytes : List ℕ) (why : TextFault) (status : Status) → Has 1048576 held name (Bytes bytes) →
    IsNone bytes why → status ≡ text_status name why → IsRefusal spec.agents name held before after status
text_file = refused_by spec.agents

-- ---- that of a world

pub world_file : (known : List (List ℕ)) (held : Option (List Filed)) (name bytes : List ℕ) (text : WorldText) → Has 1048576 held name (Bytes bytes) → env.IsWorld known bytes text →
    HasFile most_bytes held name (λ bytes. env.IsWorld known bytes text)
world_file known held name bytes text h g = record { bytes = bytes; has = h; are = g }

pub fault_file : (known : List (List ℕ)) (name : List ℕ) (held : Option (List Filed)) (before after : ℕ) (bytes : List ℕ) (why : WorldFault) (status : Status) →
    Has 1048576 held name (Bytes bytes) → env.IsNone known bytes why → status ≡ world_status name why → IsRefusal (spec.worlds known) name held before after status
fault_file known = refused_by (spec.worlds known)

-- ---- that of a project

pub project_file : (held : Option (List Filed)) (name bytes : List ℕ) (p : ProjectText) → Has 1048576 held name (Bytes bytes) → projects.IsProject bytes p →
    HasFile most_bytes held name (λ bytes. projects.IsProject bytes p)
project_file held name bytes p h g = record { bytes = bytes; has = h; are = g }

pub refused_file : (name : List ℕ) (held : Option (List Filed)) (before after : ℕ) (bytes : List ℕ) (why : ProjectFault) (status : Status) →
    Has 1048576 held name (Bytes bytes) → projects.IsNone bytes why → status ≡ project_status name why → IsRefusal spec.projects name held before after status
refused_file = refused_by spec.projects
