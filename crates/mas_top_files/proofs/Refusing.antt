-- The status of a file that is refused.
use Rattle.std.proofs.Common.{ℕ, ◌≡◌, inl, inr, Bool, true, false, List, Option, ap, sym, ◌∙◌, subst, refl}
use Rattle.asl_term.specs.declared.syntax.Filed.{Filed}
use Rattle.asl_lexer.specs.declared.token.LexFault.{LexFault}
use Rattle.asl_lexer.specs.declared.token.LexFault.TheVariants as lex
use Rattle.asl_parser_expr.specs.declared.fault.TextFault.TheVariants as fault
use Rattle.env_file.specs.declared.fault.WorldFault.TheVariants as world
use Rattle.mas_project.specs.declared.fault.ProjectFault.TheVariants as project
use Rattle.mas_top_status.specs.declared.status.Status.{Status}
use Rattle.mas_top_status.specs.declared.status.Status.TheVariants.{Ok, No, Usage, Missing, ReadFault, WriteFault, Refused, Limit, Budget, Memory, DiskFault}
use Rattle.mas_top_status.specs.declared.status.What.TheVariants as what
use Rattle.mas_top_files.specs.Projects.{all_cycles}
use Rattle.mas_top_files.specs.Faults.{lex_status}
use Rattle.mas_top_files.specs.Files.{Reader, agents, worlds, projects, IsRefusal, unfetched, faulty, missing, too_long, failed, starved}
use Rattle.mas_top_files.specs.Sources.{FirstRefused, project_refused, cycles_refused, part_refused}

-- a status of a file that is refused, or of want of memory
abbrev pub refuses : Status → Bool
refuses Ok = false
refuses No = false
refuses Usage = false
refuses Budget = false
refuses DiskFault = false
refuses WriteFault = false
refuses other = true

-- a status of bytes that are refused, of a file that is not there, or of want of memory
abbrev pub tells : Status → Bool
tells (Missing lacked) = true
tells (Refused file place why) = true
tells (Limit quantity count) = true
tells Memory = true
tells other = false

told_refuses : (s : Status) → tells s ≡ true → refuses s ≡ true
told_refuses Ok e = absurd cc
told_refuses No e = absurd cc
told_refuses Usage e = absurd cc
told_refuses (Missing lacked) e = refl
told_refuses ReadFault e = refl
told_refuses WriteFault e = absurd cc
told_refuses (Refused file place why) e = refl
told_refuses (Limit quantity count) e = refl
told_refuses Budget e = absurd cc
told_refuses Memory e = refl
told_refuses DiskFault e = absurd cc

-- ---- the faults of each reader tell of the file

abbrev pub Tells : Reader → Type 0
Tells r = (name : List ℕ) (why : r.Fault) → tells (r.status_of name why) ≡ true

lex_tells : (name : List ℕ) (why : LexFault) → tells (lex_status name why) ≡ true
lex_tells name lex.Memory = refl
lex_tells name (lex.BadByte place) = refl
lex_tells name (lex.OpenString place) = refl
lex_tells name (lex.OpenComment place) = refl
lex_tells name (lex.NumberRange place) = refl

pub agents_tell : Tells agents
agents_tell name fault.Memory = refl
agents_tell name (fault.Lex why) = lex_tells name why
agents_tell name (fault.Clause number line column) = refl
agents_tell name (fault.Limit number) = refl

pub worlds_tell : (known : List (List ℕ)) → Tells (worlds known)
worlds_tell known name world.Memory = refl
worlds_tell known name (world.Lex why) = lex_tells name why
worlds_tell known name (world.Clause number line column) = refl
worlds_tell known name (world.Limit number) = refl
worlds_tell known name (world.Unbound number variable) = refl
worlds_tell known name (world.UnknownArtifact number artifact) = refl

pub projects_tell : Tells projects
projects_tell name project.Memory = refl
projects_tell name (project.Lex why) = lex_tells name why
projects_tell name (project.Clause number line column) = refl
projects_tell name (project.Option number word) = refl
projects_tell name (project.TooMany count) = refl
projects_tell name (project.TwoNames agent twice) = refl

-- ---- what a refusal tells

-- a file is refused with no status of a report
pub no_report : (r : Reader) → Tells r → (name : List ℕ) (held : Option (List Filed)) (before after : ℕ) (status : Status) → IsRefusal r name held before after status → refuses status ≡ true
no_report r t name held before after status (unfetched (missing e h)) = ap refuses e
no_report r t name held before after status (unfetched (too_long e h)) = ap refuses e
no_report r t name held before after status (unfetched (failed e h)) = ap refuses e
no_report r t name held before after status (unfetched (starved e)) = ap refuses e
no_report r t name held before after status (faulty f) = told_refuses status (ap tells f.status_is ∙ t name f.why)

-- what holds of the status of each file that is refused, and of too many cycles, holds of the first refusal's
pub first_by : (Is : Status → Type 0) (names : List (List ℕ)) (cycles : ℕ) (held : Option (List Filed)) (word : List ℕ) (before after : ℕ) (status : Status) →
    ((r : Reader) → Tells r → (name : List ℕ) (s : Status) → IsRefusal r name held before after s → Is s) → ((count : ℕ) → Is (Limit what.Cycles count)) →
    FirstRefused names cycles held word before after status → Is status
first_by Is names cycles held word before after status f c (project_refused r) = f projects projects_tell word status r.why
first_by Is names cycles held word before after status f c (cycles_refused r) = subst Is (sym r.status_is) (c (all_cycles r.project cycles))
first_by Is names cycles held word before after status f c (part_refused p a (inl w)) = f (worlds names) (worlds_tell names) w.name status w.why
first_by Is names cycles held word before after status f c (part_refused p a (inr l)) = f agents agents_tell l.why.line.file status l.why.why
