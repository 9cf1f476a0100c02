-- Files are refused in one way.
use Rattle.std.proofs.Common.{ℕ, ◌≡◌, ◌≢◌, ◌≤◌, ◌⊎◌, inl, inr, List, [], ◌∷◌, ◌++◌, Some, ap, sym, ◌∙◌, subst}
use Rattle.std.specs.Prelude.{Result, Err as No}
use Rattle.asl_term.specs.declared.syntax.Filed.{Filed}
use Rattle.asl_parser_expr.specs.declared.fault.TextFault.{TextFault}
use Rattle.asl_parser.specs.declared.sentence.Sentence.{Sentence}
use Rattle.asl_parser.specs.Agents.{IsAgent}
use Rattle.asl_parser.proofs.Single.{one_answer}
use Rattle.mas_mind.specs.Limits.{most_cycles_together}
use Rattle.mas_world.specs.declared.acts.WorldText.{WorldText}
use Rattle.env_file.specs.declared.fault.WorldFault.{WorldFault}
use Rattle.env_file.proofs.Single.{one_world}
use Rattle.mas_project.specs.declared.syntax.AgentLine.{AgentLine}
use Rattle.mas_project.specs.declared.syntax.ProjectText.{ProjectText}
use Rattle.mas_project.specs.declared.fault.ProjectFault.{ProjectFault}
use Rattle.mas_project.proofs.Answers.{one_answer as one_reply}
use Rattle.mas_io.specs.Causes.{Rose}
use Rattle.mas_io.specs.Shelf.{fetched}
use Rattle.mas_io.specs.declared.shelf.Fetched.{Fetched}
use Rattle.mas_io.specs.declared.shelf.Fetched.TheVariants.{Bytes, Missing as Lacks, TooLong, Failed}
use Rattle.mas_top_files.specs.declared.sources.Role.{Role}
use Rattle.mas_top_status.specs.declared.status.What.TheVariants as what
use Rattle.mas_top_status.specs.declared.status.Status.{Status}
use Rattle.mas_top_status.specs.declared.status.Status.TheVariants.{Missing, Limit, Memory}
use Rattle.mas_top_files.specs.Projects.{is_agent_file, all_cycles}
use Rattle.mas_top_files.specs.Files.{Reader, agents, worlds, projects, HasFault, IsRefusal, unfetched, faulty, missing, too_long, failed, starved}
use Rattle.mas_top_files.specs.Sources.{HasProject, HasRole, HasRoles, LineRefused, PartRefused, ProjectRefused, FirstRefused, project_refused, cycles_refused, part_refused}
use Rattle.mas_top_files.specs.Laws.{Surely, OneRefusal}
use Rattle.mas_top_files.proofs.Unless.{is_told}
use Rattle.mas_top_files.proofs.Single.{some_same, same_project, agent_fault, world_fault, project_fault, agent_read, not_refused_file, project_not, world_not, too_many}

-- ---- bytes are refused in one way

-- bytes have one fault at most for a reader, but for want of memory
abbrev pub OneFault : Reader → Type 0
OneFault r = (name bytes : List ℕ) (f g : r.Fault) → r.faulty bytes f → r.faulty bytes g → r.status_of name f ≢ Memory → r.status_of name g ≢ Memory → f ≡ g

is_known : {A : Type 0} {s : Status} → (s ≡ Memory) ⊎ A → s ≢ Memory → A
is_known (inl e) n = absurd (n e)
is_known (inr h) n = h

abbrev unread : TextFault → Result (List Sentence) TextFault
unread f = No f

unread_same : (f g : TextFault) → unread f ≡ unread g → f ≡ g
unread_same f g e = cc

agents_one : OneFault agents
agents_one name bytes f g h k n m =
    unread_same f g (one_answer bytes (No f) (No g) (is_known (agent_fault name bytes f h) n) (is_known (agent_fault name bytes g k) m))

abbrev unopened : WorldFault → Result WorldText WorldFault
unopened f = No f

unopened_same : (f g : WorldFault) → unopened f ≡ unopened g → f ≡ g
unopened_same f g e = cc

worlds_one : (known : List (List ℕ)) → OneFault (worlds known)
worlds_one known name bytes f g h k n m =
    unopened_same f g (one_world known bytes (No f) (No g) (is_known (world_fault name bytes known f h) n) (is_known (world_fault name bytes known g k) m))

abbrev unplanned : ProjectFault → Result ProjectText ProjectFault
unplanned f = No f

unplanned_same : (f g : ProjectFault) → unplanned f ≡ unplanned g → f ≡ g
unplanned_same f g e = cc

projects_one : OneFault projects
projects_one name bytes f g h k n m =
    unplanned_same f g (one_reply bytes (No f) (No g) (is_known (project_fault name bytes f h) n) (is_known (project_fault name bytes g k) m))

-- ---- a file is refused in one way

-- the count of faults did not rise, and memory did not lack
pub record Calm (before after : ℕ) (status : Status) : Type 0 where
  pub no_fault : Rose before after → ⊥
  pub no_lack : status ≢ Memory

-- what the answer of the shelf makes of it
abbrev Made : Reader → List ℕ → Fetched → Status → Type 0
Made r name (Bytes bytes) status = HasFault (r.faulty bytes) (r.status_of name) status
Made r name Lacks status = status ≡ Missing name
Made r name TooLong status = status ≡ Limit what.File r.most
Made r name Failed status = ⊥

made_one : (r : Reader) → OneFault r → (name : List ℕ) (answer : Fetched) (s t : Status) → s ≢ Memory → t ≢ Memory → Made r name answer s → Made r name answer t → s ≡ t
made_one r one name (Bytes bytes) s t n m h g =
    h.status_is
    ∙ ap (r.status_of name) (one name bytes h.why g.why h.is g.is (λ e. n (h.status_is ∙ e)) (λ e. m (g.status_is ∙ e)))
    ∙ sym g.status_is
made_one r one name Lacks s t n m h g = h ∙ sym g
made_one r one name TooLong s t n m h g = h ∙ sym g
made_one r one name Failed s t n m h g = absurd h

made : (r : Reader) (files : List Filed) (name : List ℕ) (before after : ℕ) (status : Status) → Calm before after status →
    IsRefusal r name (Some files) before after status → Made r name (fetched files name r.most) status
made r files name before after status c (unfetched (missing e h)) = subst (λ x. Made r name x status) h e
made r files name before after status c (unfetched (too_long e h)) = subst (λ x. Made r name x status) h e
made r files name before after status c (unfetched (failed e h)) = absurd (c.no_fault h)
made r files name before after status c (unfetched (starved e)) = absurd (c.no_lack e)
made r files name before after status c (faulty f) = subst (λ x. Made r name x status) f.is.has (record { why = f.why; is = f.is.are; status_is = f.status_is })

-- ---- so are all of them

head_same : (x y : AgentLine) (xs ys : List AgentLine) → x ∷ xs ≡ y ∷ ys → x ≡ y
head_same x y xs ys e = cc

tail_same : (x y : AgentLine) (xs ys : List AgentLine) → x ∷ xs ≡ y ∷ ys → xs ≡ ys
tail_same x y xs ys e = cc

-- a line that is read is not refused
line_read : (files : List Filed) (line : AgentLine) (role : Role) (before after : ℕ) (status : Status) → Calm before after status → HasRole (Some files) line role →
    IsRefusal agents line.file (Some files) before after status → ⊥
line_read files line role before after status c h r =
    c.no_lack (not_refused_file agents files line.file before after status (λ x. IsAgent x role.text) h.text (agent_read h.text.bytes role.text h.text.are) c.no_fault r)

module _ (files : List Filed) (b a d e : ℕ) (s t : Status) (c : Calm b a s) (k : Calm d e t) where
  pub file_one : (r : Reader) → OneFault r → (name : List ℕ) → IsRefusal r name (Some files) b a s → IsRefusal r name (Some files) d e t → s ≡ t
  file_one r one name h g = made_one r one name (fetched files name r.most) s t c.no_lack k.no_lack (made r files name b a s c h) (made r files name d e t k g)

  same_file : (r : Reader) → OneFault r → (x y : List ℕ) → x ≡ y → IsRefusal r x (Some files) b a s → IsRefusal r y (Some files) d e t → s ≡ t
  same_file r one x y q h g = file_one r one y (subst (λ z. IsRefusal r z (Some files) b a s) q h) g

  line_one : (front rear : List AgentLine) (x y : AgentLine) (xs ys : List AgentLine) (roles others : List Role) → front ++ x ∷ xs ≡ rear ++ y ∷ ys →
      HasRoles (Some files) front roles → HasRoles (Some files) rear others →
      IsRefusal agents x.file (Some files) b a s → IsRefusal agents y.file (Some files) d e t → s ≡ t
  line_one [] [] x y xs ys roles others q h g i j = same_file agents agents_one x.file y.file (ap (λ l. l.file) (head_same x y xs ys q)) i j
  line_one [] (z ∷ rear) x y xs ys roles [] q h g i j = absurd g
  line_one [] (z ∷ rear) x y xs ys roles (o ∷ others) q h g i j =
      absurd (line_read files z o b a s c g.0 (subst (λ l. IsRefusal agents l.file (Some files) b a s) (head_same x z xs (rear ++ y ∷ ys) q) i))
  line_one (z ∷ front) [] x y xs ys [] others q h g i j = absurd h
  line_one (z ∷ front) [] x y xs ys (o ∷ roles) others q h g i j =
      absurd (line_read files z o d e t k h.0 (subst (λ l. IsRefusal agents l.file (Some files) d e t) (sym (head_same z y (front ++ x ∷ xs) ys q)) j))
  line_one (z ∷ front) (w ∷ rear) x y xs ys [] others q h g i j = absurd h
  line_one (z ∷ front) (w ∷ rear) x y xs ys (o ∷ roles) [] q h g i j = absurd g
  line_one (z ∷ front) (w ∷ rear) x y xs ys (o ∷ roles) (p ∷ others) q h g i j =
      line_one front rear x y xs ys roles others (tail_same z w (front ++ x ∷ xs) (rear ++ y ∷ ys) q) h.1 g.1 i j

  lines_one : (lines : List AgentLine) → LineRefused (Some files) lines b a s → LineRefused (Some files) lines d e t → s ≡ t
  lines_one lines h g =
      line_one h.front g.front h.line g.line h.back g.back h.roles g.roles (sym h.lines_are ∙ g.lines_are) h.read g.read h.why g.why

  part_one : (known : List (List ℕ)) (p : ProjectText) → PartRefused known p (Some files) b a s → PartRefused known p (Some files) d e t → s ≡ t
  part_one known p (inl h) (inl g) = same_file (worlds known) (worlds_one known) h.name g.name (some_same (sym h.named_is ∙ g.named_is)) h.why g.why
  part_one known p (inl h) (inr g) = absurd (c.no_lack (world_not known files h.name p.world g.world b a s h.named_is g.read c.no_fault h.why))
  part_one known p (inr h) (inl g) = absurd (k.no_lack (world_not known files g.name p.world h.world d e t g.named_is h.read k.no_fault g.why))
  part_one known p (inr h) (inr g) = lines_one p.agents h.why g.why

-- where the word stands for a project its own file is not refused
project_stands : (files : List Filed) (word : List ℕ) (p : ProjectText) (before after : ℕ) (status : Status) → Calm before after status → HasProject (Some files) word p →
    ProjectRefused (Some files) word before after status → ⊥
project_stands files word p before after status c h r =
    c.no_lack (project_not (is_agent_file word) files word p before after status h r.file c.no_fault r.why)

module _ (known : List (List ℕ)) (cycles : ℕ) (files : List Filed) (word : List ℕ) (b a d e : ℕ) (s t : Status) (c : Calm b a s) (k : Calm d e t) where
  first_one : FirstRefused known cycles (Some files) word b a s → FirstRefused known cycles (Some files) word d e t → s ≡ t
  first_one (project_refused h) (project_refused g) = file_one files b a d e s t c k projects projects_one word h.why g.why
  first_one (project_refused h) (cycles_refused g) = absurd (project_stands files word g.project b a s c g.stands h)
  first_one (project_refused h) (part_refused q m g) = absurd (project_stands files word q b a s c m.stands h)
  first_one (cycles_refused h) (project_refused g) = absurd (project_stands files word h.project d e t k h.stands g)
  first_one (cycles_refused h) (cycles_refused g) =
      h.status_is ∙ ap (λ p. Limit what.Cycles (all_cycles p cycles)) (same_project files word h.project g.project h.stands g.stands) ∙ sym g.status_is
  first_one (cycles_refused h) (part_refused q m g) =
      absurd (too_many (all_cycles h.project cycles) (subst (λ p. all_cycles p cycles ≤ most_cycles_together) (same_project files word q h.project m.stands h.stands) m.few) h.past)
  first_one (part_refused p l h) (project_refused g) = absurd (project_stands files word p d e t k l.stands g)
  first_one (part_refused p l h) (cycles_refused g) =
      absurd (too_many (all_cycles g.project cycles) (subst (λ p. all_cycles p cycles ≤ most_cycles_together) (same_project files word p g.project l.stands g.stands) l.few) g.past)
  first_one (part_refused p l h) (part_refused q m g) =
      part_one files b a d e s t c k known p h (subst (λ x. PartRefused known x (Some files) d e t) (same_project files word q p m.stands l.stands) g)

pub calm : (Is : ℕ → ℕ → Status → Type 0) (status : Status) (h : Surely Is status) → Calm h.before h.after status
calm Is status h = record { no_fault = h.no_fault; no_lack = h.no_lack }

pub one_refusal : OneRefusal
one_refusal known cycles files word a b h g =
    first_one known cycles files word h.before h.after g.before g.after a b (calm _ a h) (calm _ b g)
    (is_told (FirstRefused known cycles (Some files) word h.before h.after) a h.no_lack h.is)
    (is_told (FirstRefused known cycles (Some files) word g.before g.after) b g.no_lack g.is)
