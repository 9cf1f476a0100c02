-- Files describe one source, and are then not refused.
use Rattle.std.proofs.Common.{ℕ, ◌≡◌, ◌≤◌, ◌<◌, ◌⊎◌, inl, inr, Bool, true, false, List, [], ◌∷◌, ◌++◌, Option, None, Some, refl, ap, sym, ◌∙◌, subst, arith}
use Rattle.std.specs.Prelude.{Result, Ok as Yes, Err as No}
use Rattle.asl_term.specs.declared.syntax.Filed.{Filed}
use Rattle.asl_term.specs.declared.syntax.AgentText.{AgentText}
use Rattle.asl_parser_expr.specs.declared.fault.TextFault.{TextFault}
use Rattle.asl_parser_expr.specs.declared.fault.TextFault.TheVariants as fault
use Rattle.asl_parser.specs.declared.sentence.Sentence.{Sentence}
use Rattle.asl_parser.specs.Agents.{IsAgent, IsAnswer}
use Rattle.asl_parser.proofs.Single.{one_answer, one_agent}
use Rattle.mas_mind.specs.Limits.{most_cycles_together}
use Rattle.mas_world.specs.declared.acts.WorldText.{WorldText}
use Rattle.env_file.specs.declared.fault.WorldFault.{WorldFault}
use Rattle.env_file.specs.declared.fault.WorldFault.TheVariants as world
use Rattle.env_file.specs.Worlds as env
use Rattle.env_file.specs.Worlds.{IsWorld}
use Rattle.env_file.proofs.Single.{one_world}
use Rattle.mas_project.specs.declared.syntax.AgentLine.{AgentLine}
use Rattle.mas_project.specs.declared.syntax.ProjectText.{ProjectText}
use Rattle.mas_project.specs.declared.fault.ProjectFault.{ProjectFault}
use Rattle.mas_project.specs.declared.fault.ProjectFault.TheVariants as project
use Rattle.mas_project.specs.Projects.{IsProject, IsRefused}
use Rattle.mas_project.proofs.Answers.{one_answer as one_reply}
use Rattle.mas_io.specs.Causes.{Rose}
use Rattle.mas_io.specs.declared.shelf.Fetched.TheVariants.{Bytes, Missing as Lacks, TooLong}
use Rattle.mas_top_files.specs.declared.sources.Role.{Role}
use Rattle.mas_top_files.specs.declared.sources.Source.{Source}
use Rattle.mas_top_status.specs.declared.status.Status.{Status}
use Rattle.mas_top_status.specs.declared.status.Status.TheVariants.{Ok, No, Usage, Missing, ReadFault, WriteFault, Refused, Limit, Budget, Memory, DiskFault}
use Rattle.mas_top_files.specs.Faults.{text_status, world_status, project_status}
use Rattle.mas_top_files.specs.Projects.{folder, project_in, is_agent_file, all_cycles}
use Rattle.mas_top_files.specs.Files.{HasFile, Reader, agents, worlds, projects, IsRefusal, unfetched, faulty, missing, too_long, failed, starved, most_bytes}
use Rattle.mas_top_files.specs.Sources.{
  ProjectBy,
  HasProject,
  HasWorld,
  HasRole,
  HasRoles,
  Describe,
  HasSource,
  LineRefused,
  PartRefused,
  FirstRefused,
  project_refused,
  cycles_refused,
  part_refused,
  AreRefused,
}

pub some_same : {A : Type 0} {x y : A} → Some x ≡ Some y → x ≡ y
some_same e = cc

none_some : {A : Type 0} {x : A} → None ≡ Some x → ⊥
none_some e = cc

true_false : true ≡ false → ⊥
true_false e = cc

bytes_lack : (bytes : List ℕ) → Bytes bytes ≡ Lacks → ⊥
bytes_lack bytes e = cc

bytes_long : (bytes : List ℕ) → Bytes bytes ≡ TooLong → ⊥
bytes_long bytes e = cc

bytes_same : (a b : List ℕ) → Bytes a ≡ Bytes b → a ≡ b
bytes_same a b e = cc

abbrev said : ProjectText → Result ProjectText ProjectFault
said p = Yes p

projects_same : (p q : ProjectText) → said p ≡ said q → p ≡ q
projects_same p q e = cc

planned_fault : (p : ProjectText) (f : ProjectFault) → Yes p ≡ No f → ⊥
planned_fault p f e = cc

one_project : (bytes : List ℕ) (p q : ProjectText) → IsProject bytes p → IsProject bytes q → p ≡ q
one_project bytes p q h g = projects_same p q (one_reply bytes (Yes p) (Yes q) h g)

not_both : (bytes : List ℕ) (p : ProjectText) (f : ProjectFault) → IsProject bytes p → IsRefused bytes f → ⊥
not_both bytes p f h g = planned_fault p f (one_reply bytes (Yes p) (No f) h g)

-- ---- files of one name

-- two files of one name have the same bytes
pub same_file : (most : ℕ) (files : List Filed) (name : List ℕ) (P Q : List ℕ → Type 0) (h : HasFile most (Some files) name P) (g : HasFile most (Some files) name Q) → h.bytes ≡ g.bytes
same_file most files name P Q h g = bytes_same h.bytes g.bytes (h.has ∙ sym g.has)

-- so what is promised of the bytes of both is so of those of one
pub with_file : (most : ℕ) (files : List Filed) (name : List ℕ) (P Q : List ℕ → Type 0) (h : HasFile most (Some files) name P) (g : HasFile most (Some files) name Q) → Q h.bytes
with_file most files name P Q h g = subst Q (sym (same_file most files name P Q h g)) g.are

abbrev opened : WorldText → Result WorldText WorldFault
opened text = Yes text

worlds_same : (a b : WorldText) → opened a ≡ opened b → a ≡ b
worlds_same a b e = cc

one_text : (known : List (List ℕ)) (bytes : List ℕ) (a b : WorldText) → IsWorld known bytes a → IsWorld known bytes b → a ≡ b
one_text known bytes a b h g = worlds_same a b (one_world known bytes (Yes a) (Yes b) h g)

-- ---- one project, one world, the same agents

project_by : (b : Bool) (files : List Filed) (word : List ℕ) (p q : ProjectText) → ProjectBy b (Some files) word p → ProjectBy b (Some files) word q → p ≡ q
project_by true files word p q h g = h ∙ sym g
project_by false files word p q h g =
    let e = same_file most_bytes files word _ _ h g in
    let w : IsProject h.bytes g.are.written = subst (λ x. IsProject x g.are.written) (sym e) g.are.is in
    h.are.placed ∙ ap (project_in (folder word)) (one_project h.bytes h.are.written g.are.written h.are.is w) ∙ sym g.are.placed

pub same_project : (files : List Filed) (word : List ℕ) (p q : ProjectText) → HasProject (Some files) word p → HasProject (Some files) word q → p ≡ q
same_project files word p q h g = project_by (is_agent_file word) files word p q h g

same_world : (known : List (List ℕ)) (files : List Filed) (name : Option (List ℕ)) (a b : Option WorldText) → HasWorld known (Some files) name a → HasWorld known (Some files) name b → a ≡ b
same_world known files None None None h g = refl
same_world known files None None (Some b) h g = absurd g
same_world known files None (Some a) b h g = absurd h
same_world known files (Some name) None b h g = absurd h
same_world known files (Some name) (Some a) None h g = absurd g
same_world known files (Some name) (Some a) (Some b) h g =
    ap Some (one_text known h.bytes a b h.are (with_file most_bytes files name (λ x. IsWorld known x a) (λ x. IsWorld known x b) h g))

abbrev role : AgentText → ℕ → Role
role text count = record { text = text; count = count }

same_role : (files : List Filed) (line : AgentLine) (a b : Role) → HasRole (Some files) line a → HasRole (Some files) line b → a ≡ b
same_role files line a b h g =
    ap (λ t. role t a.count) (one_agent h.text.bytes a.text b.text h.text.are
    (with_file most_bytes files line.file (λ x. IsAgent x a.text) (λ x. IsAgent x b.text) h.text g.text))
    ∙ ap (role b.text) (h.count ∙ sym g.count)

same_roles : (files : List Filed) (lines : List AgentLine) (a b : List Role) → HasRoles (Some files) lines a → HasRoles (Some files) lines b → a ≡ b
same_roles files [] [] [] h g = refl
same_roles files [] [] (y ∷ b) h g = absurd g
same_roles files [] (x ∷ a) b h g = absurd h
same_roles files (line ∷ lines) [] b h g = absurd h
same_roles files (line ∷ lines) (x ∷ a) [] h g = absurd g
same_roles files (line ∷ lines) (x ∷ a) (y ∷ b) h g =
    ap (λ r. r ∷ a) (same_role files line x y h.0 g.0) ∙ ap (λ rs. y ∷ rs) (same_roles files lines a b h.1 g.1)

abbrev source : List (List ℕ) → List Role → Option WorldText → Source
source names roles text = record { names = names; roles = roles; world = text }

pub one_source : (known : List (List ℕ)) (cycles : ℕ) (files : List Filed) (word : List ℕ) (a b : Source) → HasSource known cycles (Some files) word a → HasSource known cycles (Some files) word b → a ≡ b
one_source known cycles files word a b h g =
    let e = same_project files word h.project g.project h.asked.stands g.asked.stands in
    let d = subst (λ p. Describe known (Some files) p b) (sym e) g.describe in
    ap (λ ns. source ns a.roles a.world) (h.describe.names ∙ sym d.names)
    ∙ ap (λ rs. source b.names rs a.world) (same_roles files h.project.agents a.roles b.roles h.describe.roles d.roles)
    ∙ ap (λ w. source b.names b.roles w) (same_world known files h.project.world a.world b.world h.describe.world d.world)

-- ---- files that describe a source are not refused

answer_fault : (said : List Sentence) (fault : TextFault) → Yes said ≡ No fault → ⊥
answer_fault said fault e = cc

text_fault : (text : WorldText) (fault : WorldFault) → Yes text ≡ No fault → ⊥
text_fault text fault e = cc

-- where a reader has the fault, memory lacked, or the bytes answer it
module _ (name bytes : List ℕ) where
  pub agent_fault : (why : TextFault) → agents.faulty bytes why → (text_status name why ≡ Memory) ⊎ IsAnswer bytes (No why)
  agent_fault fault.Memory h = inl refl
  agent_fault (fault.Lex why) h = inr h
  agent_fault (fault.Clause number line column) h = inr h
  agent_fault (fault.Limit number) h = inr h

  pub world_fault : (known : List (List ℕ)) (why : WorldFault) → (worlds known).faulty bytes why → (world_status name why ≡ Memory) ⊎ env.IsAnswer known bytes (No why)
  world_fault known world.Memory h = inl refl
  world_fault known (world.Lex why) h = inr h
  world_fault known (world.Clause number line column) h = inr h
  world_fault known (world.Limit number) h = inr h
  world_fault known (world.Unbound number variable) h = inr h
  world_fault known (world.UnknownArtifact number artifact) h = inr h

  pub project_fault : (why : ProjectFault) → projects.faulty bytes why → (project_status name why ≡ Memory) ⊎ IsRefused bytes why
  project_fault project.Memory h = inl refl
  project_fault (project.Lex why) h = inr h
  project_fault (project.Clause number line column) h = inr h
  project_fault (project.Option number word) h = inr h
  project_fault (project.TooMany count) h = inr h
  project_fault (project.TwoNames agent twice) h = inr h

-- a reader refuses such bytes for no fault but want of memory
abbrev pub Accepted : Reader → List ℕ → Type 0
Accepted r bytes = (name : List ℕ) (why : r.Fault) → r.faulty bytes why → r.status_of name why ≡ Memory

pub agent_read : (bytes : List ℕ) (source : AgentText) → IsAgent bytes source → Accepted agents bytes
agent_read bytes source h name why r =
    elim (agent_fault name bytes why r) [ inl e ↦ e | inr g ↦ absurd (answer_fault h.sentences why (one_answer bytes (Yes h.sentences) (No why) h.said g)) ]

world_read : (known : List (List ℕ)) (bytes : List ℕ) (text : WorldText) → IsWorld known bytes text → Accepted (worlds known) bytes
world_read known bytes text h name why r =
    elim (world_fault name bytes known why r) [ inl e ↦ e | inr g ↦ absurd (text_fault text why (one_world known bytes (Yes text) (No why) h g)) ]

project_read : (bytes : List ℕ) (p : ProjectText) → IsProject bytes p → Accepted projects bytes
project_read bytes p h name why r = elim (project_fault name bytes why r) [ inl e ↦ e | inr g ↦ absurd (not_both bytes p why h g) ]

-- a file that is there and is not refused is so with no status but Memory, where no fault came
pub not_refused_file : (r : Reader) (files : List Filed) (name : List ℕ) (before after : ℕ) (status : Status) (P : List ℕ → Type 0) →
    (h : HasFile r.most (Some files) name P) → Accepted r h.bytes → (Rose before after → ⊥) → IsRefusal r name (Some files) before after status → status ≡ Memory
not_refused_file r files name before after status P h n f (unfetched (missing e g)) = absurd (bytes_lack h.bytes (h.has ∙ sym g))
not_refused_file r files name before after status P h n f (unfetched (too_long e g)) = absurd (bytes_long h.bytes (h.has ∙ sym g))
not_refused_file r files name before after status P h n f (unfetched (failed e g)) = absurd (f g)
not_refused_file r files name before after status P h n f (unfetched (starved e)) = e
not_refused_file r files name before after status P h n f (faulty g) = g.status_is ∙ n name g.why (with_file r.most files name P (λ x. r.faulty x g.why) h g.is)

-- ---- each of them

pub project_not : (b : Bool) (files : List Filed) (word : List ℕ) (p : ProjectText) (before after : ℕ) (status : Status) → ProjectBy b (Some files) word p → b ≡ false →
    (Rose before after → ⊥) → IsRefusal projects word (Some files) before after status → status ≡ Memory
project_not true files word p before after status h e f c = absurd (true_false e)
project_not false files word p before after status h e f c =
    not_refused_file projects files word before after status _ h (project_read h.bytes h.are.written h.are.is) f c

pub world_not : (known : List (List ℕ)) (files : List Filed) (name : List ℕ) (named : Option (List ℕ)) (text : Option WorldText) (before after : ℕ) (status : Status) → named ≡ Some name →
    HasWorld known (Some files) named text → (Rose before after → ⊥) → IsRefusal (worlds known) name (Some files) before after status → status ≡ Memory
world_not known files name None text before after status e h f c = absurd (none_some e)
world_not known files name (Some n) None before after status e h f c = absurd h
world_not known files name (Some n) (Some text) before after status e h f c =
    let g : HasFile most_bytes (Some files) name (λ x. IsWorld known x text) = subst (λ x. HasFile most_bytes (Some files) x (λ y. IsWorld known y text)) (some_same e) h in
    not_refused_file (worlds known) files name before after status (λ x. IsWorld known x text) g (world_read known g.bytes text g.are) f c

-- the role of a line among others
record RoleOf (files : List Filed) (line : AgentLine) : Type 0 where
  one : Role
  has : HasRole (Some files) line one

role_at : (files : List Filed) (front : List AgentLine) (line : AgentLine) (back : List AgentLine) (roles : List Role) →
    HasRoles (Some files) (front ++ line ∷ back) roles → RoleOf files line
role_at files [] line back [] h = absurd h
role_at files [] line back (r ∷ roles) h = record { one = r; has = h.0 }
role_at files (x ∷ front) line back [] h = absurd h
role_at files (x ∷ front) line back (r ∷ roles) h = role_at files front line back roles h.1

line_not : (files : List Filed) (lines : List AgentLine) (roles : List Role) (before after : ℕ) (status : Status) → HasRoles (Some files) lines roles →
    (Rose before after → ⊥) → LineRefused (Some files) lines before after status → status ≡ Memory
line_not files lines roles before after status h f c =
    let r = role_at files c.front c.line c.back roles (subst (λ ls. HasRoles (Some files) ls roles) c.lines_are h) in
    not_refused_file agents files c.line.file before after status (λ x. IsAgent x r.one.text) r.has.text (agent_read r.has.text.bytes r.one.text r.has.text.are) f c.why

part_not : (known : List (List ℕ)) (files : List Filed) (p : ProjectText) (source : Source) (before after : ℕ) (status : Status) →
    Describe known (Some files) p source → (Rose before after → ⊥) → PartRefused known p (Some files) before after status → status ≡ Memory
part_not known files p source before after status d f (inl w) = world_not known files w.name p.world source.world before after status w.named_is d.world f w.why
part_not known files p source before after status d f (inr a) = line_not files p.agents source.roles before after status d.roles f a.why

pub too_many : (n : ℕ) → n ≤ most_cycles_together → most_cycles_together < n → ⊥
too_many n h g = omega arith

first_not : (known : List (List ℕ)) (cycles : ℕ) (files : List Filed) (word : List ℕ) (source : Source) (before after : ℕ) (status : Status) → HasSource known cycles (Some files) word source →
    (Rose before after → ⊥) → FirstRefused known cycles (Some files) word before after status → status ≡ Memory
first_not known cycles files word source before after status h f (project_refused r) =
    project_not (is_agent_file word) files word h.project before after status h.asked.stands r.file f r.why
first_not known cycles files word source before after status h f (cycles_refused r) =
    let e = same_project files word h.project r.project h.asked.stands r.stands in
    absurd (too_many (all_cycles r.project cycles) (subst (λ p. all_cycles p cycles ≤ most_cycles_together) e h.asked.few) r.past)
first_not known cycles files word source before after status h f (part_refused p a r) =
    let e = same_project files word h.project p h.asked.stands a.stands in
    part_not known files p source before after status (subst (λ q. Describe known (Some files) q source) e h.describe) f r

pub not_refused : (known : List (List ℕ)) (cycles : ℕ) (files : List Filed) (word : List ℕ) (source : Source) (before after : ℕ) (status : Status) → HasSource known cycles (Some files) word source →
    (Rose before after → ⊥) → AreRefused known cycles (Some files) word before after status → status ≡ Memory
not_refused known cycles files word source before after Ok h f c = first_not known cycles files word source before after Ok h f c
not_refused known cycles files word source before after No h f c = first_not known cycles files word source before after No h f c
not_refused known cycles files word source before after Usage h f c = first_not known cycles files word source before after Usage h f c
not_refused known cycles files word source before after (Missing lacked) h f c = first_not known cycles files word source before after (Missing lacked) h f c
not_refused known cycles files word source before after ReadFault h f c = first_not known cycles files word source before after ReadFault h f c
not_refused known cycles files word source before after WriteFault h f c = first_not known cycles files word source before after WriteFault h f c
not_refused known cycles files word source before after (Refused file place why) h f c = first_not known cycles files word source before after (Refused file place why) h f c
not_refused known cycles files word source before after (Limit quantity count) h f c = first_not known cycles files word source before after (Limit quantity count) h f c
not_refused known cycles files word source before after Budget h f c = first_not known cycles files word source before after Budget h f c
not_refused known cycles files word source before after Memory h f c = refl
not_refused known cycles files word source before after DiskFault h f c = first_not known cycles files word source before after DiskFault h f c
