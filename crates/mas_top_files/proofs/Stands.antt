-- The project of a word, and which refusal comes first.
use Rattle.std.proofs.Common.{ℕ, ◌≡◌, ◌≤◌, inl, inr, true, false, List, Option, None, Some, sym, subst}
use Rattle.asl_term.specs.declared.syntax.Filed.{Filed}
use Rattle.mas_project.specs.declared.syntax.ProjectText.{ProjectText}
use Rattle.mas_project.specs.Projects.{IsProject}
use Rattle.mas_top_files.specs.declared.sources.Source.{Source}
use Rattle.mas_top_status.specs.declared.status.Status.{Status}
use Rattle.mas_top_files.specs.Projects.{folder, project_in, is_agent_file, solo_project}
use Rattle.mas_top_files.specs.Files.{HasFile, most_bytes, projects, worlds, IsRefusal}
use Rattle.mas_top_files.specs.Sources.{ProjectBy, HasProject, Describe, HasSource, ProjectRefused, PartRefused, FirstRefused, project_refused, cycles_refused, part_refused, UnlessMemory, AreRefused, CyclesTold}
use Rattle.mas_top_files.proofs.Fetched.{refusal_from}
use Rattle.mas_top_files.proofs.Parts.{line_from}
use Rattle.mas_top_files.proofs.Unless.{unless, unless_as}

pub placed : (held : Option (List Filed)) (word : List ℕ) (p q : ProjectText) → HasFile most_bytes held word (λ bytes. IsProject bytes p) →
    q ≡ project_in (folder word) p → ProjectBy false held word q
placed held word p q h e = record { bytes = h.bytes; has = h.has; are = record { written = p; is = h.are; placed = e } }

pub of_agent : (held : Option (List Filed)) (word : List ℕ) (p : ProjectText) → is_agent_file word ≡ true → p ≡ solo_project word → HasProject held word p
of_agent held word p e h = subst (λ b. ProjectBy b held word p) (sym e) h

pub of_file : (held : Option (List Filed)) (word : List ℕ) (p : ProjectText) → is_agent_file word ≡ false → ProjectBy false held word p → HasProject held word p
of_file held word p e h = subst (λ b. ProjectBy b held word p) (sym e) h

pub of_no_file : (held : Option (List Filed)) (word : List ℕ) (before after : ℕ) (status : Status) → is_agent_file word ≡ false →
    IsRefusal projects word held before after status → UnlessMemory (ProjectRefused held word before after) status
of_no_file held word before after status e r = unless (ProjectRefused held word before after) status (record { file = e; why = r })

-- ---- which refusal comes first

pub refused_from : (known : List (List ℕ)) (held : Option (List Filed)) (p : ProjectText) (first before after : ℕ) (status : Status) → first ≤ before → PartRefused known p held before after status →
    PartRefused known p held first after status
refused_from known held p first before after status l (inl w) =
    inl (record { name = w.name; named_is = w.named_is; why = refusal_from (worlds known) w.name held first before after status l w.why })
refused_from known held p first before after status l (inr a) =
    inr (record { world = a.world; read = a.read; why = line_from held p.agents first before after status l a.why })

pub first_project : (known : List (List ℕ)) (cycles : ℕ) (held : Option (List Filed)) (word : List ℕ) (before after : ℕ) (status : Status) →
    UnlessMemory (ProjectRefused held word before after) status → AreRefused known cycles held word before after status
first_project known cycles held word before after status r =
    unless_as (ProjectRefused held word before after) (FirstRefused known cycles held word before after) (λ s h. project_refused h) status r

pub first_cycles : (known : List (List ℕ)) (cycles : ℕ) (held : Option (List Filed)) (word : List ℕ) (p : ProjectText) (before after : ℕ) (status : Status) → HasProject held word p →
    CyclesTold p cycles (Some status) → AreRefused known cycles held word before after status
first_cycles known cycles held word p before after status h c =
    unless (FirstRefused known cycles held word before after) status (cycles_refused (record { project = p; stands = h; past = c.0; status_is = c.1 }))

pub first_part : (known : List (List ℕ)) (cycles : ℕ) (held : Option (List Filed)) (word : List ℕ) (p : ProjectText) (first before after : ℕ) (status : Status) → HasProject held word p →
    CyclesTold p cycles None → first ≤ before → UnlessMemory (PartRefused known p held before after) status → AreRefused known cycles held word first after status
first_part known cycles held word p first before after status h c l r =
    unless_as (PartRefused known p held before after) (FirstRefused known cycles held word first after)
    (λ s x. part_refused p (record { stands = h; few = c }) (refused_from known held p first before after s l x)) status r

pub source_whole : (known : List (List ℕ)) (cycles : ℕ) (held : Option (List Filed)) (word : List ℕ) (p : ProjectText) (source : Source) → HasProject held word p →
    CyclesTold p cycles None → Describe known held p source → HasSource known cycles held word source
source_whole known cycles held word p source h c d = record { project = p; asked = record { stands = h; few = c }; describe = d }

-- what comes first
pub ruleset in_order = (first_project, first_cycles, first_part, source_whole)
