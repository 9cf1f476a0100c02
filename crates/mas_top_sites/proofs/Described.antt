-- What the files of two projects describe, and which refusal comes first.
use Rattle.std.proofs.Common.{ℕ, ◌≡◌, ◌≤◌, ◌<◌, ◌+◌, ◌*◌, inl, inr, true, List, Option, length, sym, subst, ap, ◌∙◌}
use Rattle.asl_term.specs.declared.syntax.Filed.{Filed}
use Rattle.mas_mind.specs.Limits.{most_cycles_together}
use Rattle.mas_world.specs.Worlds.{Used, taken}
use Rattle.mas_project.specs.declared.syntax.ProjectText.{ProjectText}
use Rattle.mas_project.specs.Names.{names_of}
use Rattle.mas_project.specs.Projects.{most_agents, IsWithin}
use Rattle.mas_top_files.specs.declared.sources.Source.{Source}
use Rattle.mas_top_status.specs.declared.status.Reason.TheVariants as reason
use Rattle.mas_top_status.specs.declared.status.Status.{Status}
use Rattle.mas_top_status.specs.declared.status.Status.TheVariants.{Refused, Limit}
use Rattle.mas_top_status.specs.declared.status.What.TheVariants as what
use Rattle.mas_top_files.specs.Files.{projects}
use Rattle.mas_top_files.specs.Known.{known}
use Rattle.mas_top_files.specs.Sources.{HasProject, Describe, ProjectRefused, PartRefused, UnlessMemory}
use Rattle.mas_top_files.proofs.Fetched.{refusal_from}
use Rattle.mas_top_files.proofs.Stands.{refused_from}
use Rattle.mas_top_files.proofs.Unless.{unless_as}
use Rattle.mas_top_files.proofs.Within as projects_within
use Rattle.mas_top_sites.specs.Artifacts.{uses_of, left_by}
use Rattle.mas_top_sites.specs.Pairs.{Wish, pair, Fit, IsTaken, are_new, FailsTest, many_agents, many_cycles, taken_name, AreProjects}
use Rattle.mas_top_sites.specs.Pairs.{ProjectsRefused, PartsRefused, PairRefused, projects_refused, together_refused, parts_refused, ArePairRefused}
use Rattle.mas_top_sites.specs.Pairs.{IsBrought, AreBrought, AreRead}

-- ---- the projects

pub first_none : (held : Option (List Filed)) (one two : List ℕ) (before after : ℕ) (status : Status) →
    UnlessMemory (ProjectRefused held one before after) status → UnlessMemory (ProjectsRefused held one two before after) status
first_none held one two before after status r =
    unless_as (ProjectRefused held one before after) (ProjectsRefused held one two before after) (λ s h. inl h) status r

project_from : (held : Option (List Filed)) (word : List ℕ) (first before after : ℕ) (status : Status) → first ≤ before →
    ProjectRefused held word before after status → ProjectRefused held word first after status
project_from held word first before after status l r = record { file = r.file; why = refusal_from projects word held first before after status l r.why }

pub second_none : (held : Option (List Filed)) (one two : List ℕ) (p : ProjectText) (first before after : ℕ) (status : Status) → first ≤ before → HasProject held one p →
    UnlessMemory (ProjectRefused held two before after) status → UnlessMemory (ProjectsRefused held one two first after) status
second_none held one two p first before after status l h r =
    unless_as (ProjectRefused held two before after) (ProjectsRefused held one two first after)
    (λ s x. inr (record { project = p; first = h; why = project_from held two first before after s l x })) status r

pub both_there : (held : Option (List Filed)) (one two : List ℕ) (p q : ProjectText) → HasProject held one p → HasProject held two q → AreProjects held one two p q
both_there held one two p q h g = record { first = h; second = g }

-- ---- the tests of their agents

module _ (second : List ℕ) (cycles : ℕ) (one two : List (List ℕ)) where
  pub agents_fail : (agents : ℕ) → agents ≡ length one + length two → most_agents < agents → FailsTest second cycles one two (Limit what.Agents agents)
  agents_fail agents e l =
      subst (λ n. FailsTest second cycles one two (Limit what.Agents n)) (sym e) (many_agents (subst (λ n. most_agents < n) e l))

  pub cycles_fail : (agents all : ℕ) → agents ≡ length one + length two → all ≡ agents * cycles → agents ≤ most_agents → most_cycles_together < all →
      FailsTest second cycles one two (Limit what.Cycles all)
  cycles_fail agents all e f s l =
      let g : all ≡ (length one + length two) * cycles = f ∙ ap (λ n. n * cycles) e in
      subst (λ n. FailsTest second cycles one two (Limit what.Cycles n)) (sym g)
      (many_cycles (subst (λ n. n ≤ most_agents) e s) (subst (λ n. most_cycles_together < n) g l))

  pub name_fails : (agents all place : ℕ) (name file : List ℕ) → agents ≡ length one + length two → all ≡ agents * cycles → agents ≤ most_agents → all ≤ most_cycles_together →
      IsTaken one two place name → file ≡ second → FailsTest second cycles one two (Refused file place (reason.Name name))
  name_fails agents all place name file e f s l h c =
      let g : all ≡ (length one + length two) * cycles = f ∙ ap (λ n. n * cycles) e in
      subst (λ x. FailsTest second cycles one two (Refused x place (reason.Name name))) (sym c)
      (taken_name (subst (λ n. n ≤ most_agents) e s) (subst (λ n. n ≤ most_cycles_together) g l) h)

  pub all_fit : (agents all : ℕ) → agents ≡ length one + length two → all ≡ agents * cycles → agents ≤ most_agents → all ≤ most_cycles_together → are_new one two ≡ true →
      Fit cycles one two
  all_fit agents all e f s l n =
      let g : all ≡ (length one + length two) * cycles = f ∙ ap (λ n. n * cycles) e in
      record { few = subst (λ n. n ≤ most_agents) e s; short = subst (λ n. n ≤ most_cycles_together) g l; new = n }

-- ---- what a project brings

pub is_brought : (names : List (List ℕ)) (objects : List Used) (held : Option (List Filed)) (p : ProjectText) (source : Source) (used left : List Used) →
    names ≡ known objects → Describe names held p source → used ≡ taken (uses_of source.world) objects → left ≡ left_by source.world objects →
    IsBrought objects held p source used left
is_brought names objects held p source used left e d u l = record { describe = subst (λ n. Describe n held p source) e d; used_is = u; left_is = l }

pub not_brought : (names : List (List ℕ)) (objects : List Used) (held : Option (List Filed)) (p : ProjectText) (before after : ℕ) (status : Status) → names ≡ known objects →
    UnlessMemory (PartRefused names p held before after) status → UnlessMemory (PartRefused (known objects) p held before after) status
not_brought names objects held p before after status e r = subst (λ n. UnlessMemory (PartRefused n p held before after) status) e r

pub are_brought : (objects : List Used) (held : Option (List Filed)) (p q : ProjectText) (one two : Source) (used_one used_two left rest : List Used) →
    IsBrought objects held p one used_one left → IsBrought left held q two used_two rest → AreBrought objects held p q (pair one two) used_one used_two
are_brought objects held p q one two used_one used_two left rest h g =
    let k = subst (λ us. IsBrought us held q two used_two rest) h.left_is g in
    record { first = h.describe; second = k.describe; taken = record { one_is = h.used_is; two_is = k.used_is } }

pub first_not : (objects : List Used) (held : Option (List Filed)) (p q : ProjectText) (before after : ℕ) (status : Status) →
    UnlessMemory (PartRefused (known objects) p held before after) status → UnlessMemory (PartsRefused objects held p q before after) status
first_not objects held p q before after status r =
    unless_as (PartRefused (known objects) p held before after) (PartsRefused objects held p q before after) (λ s h. inl h) status r

pub second_not : (objects : List Used) (held : Option (List Filed)) (p q : ProjectText) (one : Source) (used left : List Used) (first before after : ℕ) (status : Status) →
    first ≤ before → IsBrought objects held p one used left → UnlessMemory (PartRefused (known left) q held before after) status →
    UnlessMemory (PartsRefused objects held p q first after) status
second_not objects held p q one used left first before after status l h r =
    let k = subst (λ us. UnlessMemory (PartRefused (known us) q held before after) status) h.left_is r in
    let names = known (left_by one.world objects) in
    unless_as (PartRefused names q held before after) (PartsRefused objects held p q first after)
    (λ s x. inr (record { one = one; described = h.describe; why = refused_from names held q first before after s l x })) status k

-- ---- the whole

pub within_both : (held : Option (List Filed)) (one two : List ℕ) (p q : ProjectText) → AreProjects held one two p q → IsWithin p.agents × IsWithin q.agents
within_both held one two p q h = (projects_within.within held one p h.first, projects_within.within held two q h.second)

module _ (objects : List Used) (held : Option (List Filed)) (wish : Wish) where
  pub projects_not : (before after : ℕ) (status : Status) → UnlessMemory (ProjectsRefused held wish.first wish.second before after) status →
      ArePairRefused objects held wish before after status
  projects_not before after status r =
      unless_as (ProjectsRefused held wish.first wish.second before after) (PairRefused objects held wish before after) (λ s h. projects_refused h) status r

  pub together_not : (p q : ProjectText) (one two : List (List ℕ)) (before after : ℕ) (status : Status) → AreProjects held wish.first wish.second p q →
      one ≡ names_of p.agents → two ≡ names_of q.agents → UnlessMemory (FailsTest wish.second wish.cycles one two) status →
      ArePairRefused objects held wish before after status
  together_not p q one two before after status a e f r =
      let g = subst (λ x. UnlessMemory (FailsTest wish.second wish.cycles (names_of p.agents) x) status) f
      (subst (λ x. UnlessMemory (FailsTest wish.second wish.cycles x two) status) e r) in
      unless_as (FailsTest wish.second wish.cycles (names_of p.agents) (names_of q.agents)) (PairRefused objects held wish before after)
      (λ s h. together_refused (record { first = p; second = q; are = a; fails = h })) status g

  fit_of : (p q : ProjectText) (one two : List (List ℕ)) → one ≡ names_of p.agents → two ≡ names_of q.agents → Fit wish.cycles one two →
      Fit wish.cycles (names_of p.agents) (names_of q.agents)
  fit_of p q one two e f h = subst (λ x. Fit wish.cycles (names_of p.agents) x) f (subst (λ x. Fit wish.cycles x two) e h)

  pub parts_from : (p q : ProjectText) (first before after : ℕ) (status : Status) → first ≤ before → PartsRefused objects held p q before after status →
      PartsRefused objects held p q first after status
  parts_from p q first before after status l (inl h) = inl (refused_from (known objects) held p first before after status l h)
  parts_from p q first before after status l (inr h) =
      inr (record {
        one = h.one;
        described = h.described;
        why = refused_from (known (left_by h.one.world objects)) held q first before after status l h.why;
      })

  pub parts_not : (p q : ProjectText) (one two : List (List ℕ)) (first before after : ℕ) (status : Status) → first ≤ before →
      AreProjects held wish.first wish.second p q → one ≡ names_of p.agents → two ≡ names_of q.agents → Fit wish.cycles one two →
      UnlessMemory (PartsRefused objects held p q before after) status → ArePairRefused objects held wish first after status
  parts_not p q one two first before after status l a e g f r =
      unless_as (PartsRefused objects held p q before after) (PairRefused objects held wish first after)
      (λ s h. parts_refused p q (record { are = a; fit = fit_of p q one two e g f }) (parts_from p q first before after s l h)) status r

  pub are_read : (p q : ProjectText) (one two : Source) (used_one used_two : List Used) → AreProjects held wish.first wish.second p q →
      Fit wish.cycles (names_of p.agents) (names_of q.agents) → AreBrought objects held p q (pair one two) used_one used_two →
      AreRead objects held wish (pair one two) used_one used_two
  are_read p q one two used_one used_two a f b = record {
    has = record { first = p; second = q; asked = record { are = a; fit = f }; one = b.first; two = b.second };
    taken = b.taken;
  }

-- what comes first
pub ruleset in_order = (projects_not, together_not, parts_not, are_read)

-- the tests of the agents together
pub ruleset tests = (agents_fail, cycles_fail, name_fails, all_fit)
