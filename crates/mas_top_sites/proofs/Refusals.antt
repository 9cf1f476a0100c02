-- Files of two projects are refused in one way.
use Rattle.std.proofs.Common.{ℕ, ◌≡◌, ◌≤◌, ◌<◌, ◌+◌, ◌*◌, inl, inr, Bool, true, false, not, ◌&&◌, suc, List, [], ◌∷◌, ◌++◌, length, Some, refl, ap, ap₂, sym, ◌∙◌, subst, arith}
use Rattle.asl_term.specs.declared.syntax.Filed.{Filed}
use Rattle.mas_mind.specs.Limits.{most_cycles_together}
use Rattle.mas_world.specs.Worlds.{Used}
use Rattle.mas_project.specs.declared.syntax.ProjectText.{ProjectText}
use Rattle.mas_project.specs.Names.{names_of}
use Rattle.mas_project.specs.Projects.{most_agents}
use Rattle.mas_top_files.specs.declared.sources.Source.{Source}
use Rattle.mas_top_status.specs.declared.status.Reason.TheVariants as reason
use Rattle.mas_top_status.specs.declared.status.Status.{Status}
use Rattle.mas_top_status.specs.declared.status.Status.TheVariants.{Refused}
use Rattle.mas_top_files.specs.Known.{known}
use Rattle.mas_top_files.specs.Laws.{Surely}
use Rattle.mas_top_files.specs.Projects.{is_agent_file}
use Rattle.mas_top_files.specs.Sources.{HasProject, Describe, IsAsked, ProjectRefused, PartRefused, FirstRefused, project_refused, part_refused, AreRefused}
use Rattle.mas_top_files.proofs.Single.{one_source, same_project, project_not, not_refused}
use Rattle.mas_top_files.proofs.Refusals as single
use Rattle.mas_top_files.proofs.Unless.{unless}
use Rattle.mas_top_sites.specs.Artifacts.{left_by}
use Rattle.mas_top_sites.specs.Pairs.{has_name, are_new, Fit, IsTaken, FailsTest, many_agents, many_cycles, taken_name, AreProjects, AreAsked, Wish, Pair, HasPair}
use Rattle.mas_top_sites.specs.Pairs.{ProjectsRefused, TogetherRefused, PartsRefused, PairRefused, projects_refused, together_refused, parts_refused}
use Rattle.mas_top_sites.specs.Laws.{NotRefused, OneRefusal}
use Rattle.mas_top_sites.proofs.Single.{no_cycles, source_of}
use Rattle.mas_top_sites.proofs.Total.{sure}

-- ---- the files of one project

module _ (files : List Filed) (word : List ℕ) where
  asked : (p : ProjectText) → HasProject (Some files) word p → IsAsked 0 (Some files) word p
  asked p s = record { stands = s; few = no_cycles p }

  -- where the word stands for a project its own file is not refused
  stands_not : (p : ProjectText) (Is : ℕ → ℕ → Status → Type 0) (status : Status) (h : Surely Is status) → HasProject (Some files) word p →
      ProjectRefused (Some files) word h.before h.after status → ⊥
  stands_not p Is status h s r = h.no_lack (project_not (is_agent_file word) files word p h.before h.after status s r.file h.no_fault r.why)

  as_first : (names : List (List ℕ)) (Is : ℕ → ℕ → Status → Type 0) (status : Status) (h : Surely Is status) →
      FirstRefused names 0 (Some files) word h.before h.after status → Surely (AreRefused names 0 (Some files) word) status
  as_first names Is status h r =
      sure Is (AreRefused names 0 (Some files) word) status h (unless (FirstRefused names 0 (Some files) word h.before h.after) status r)

  -- where its other files describe a source none of them is refused
  part_not : (names : List (List ℕ)) (p : ProjectText) (source : Source) (Is : ℕ → ℕ → Status → Type 0) (status : Status) (h : Surely Is status) →
      HasProject (Some files) word p → Describe names (Some files) p source → PartRefused names p (Some files) h.before h.after status → ⊥
  part_not names p source Is status h s d r =
      h.no_lack (not_refused names 0 files word source h.before h.after status (source_of names files word p source s d) h.no_fault
      (unless (FirstRefused names 0 (Some files) word h.before h.after) status (part_refused p (asked p s) r)))

  module _ (Is : ℕ → ℕ → Status → Type 0) (a b : Status) (h : Surely Is a) (g : Surely Is b) where
    project_one : ProjectRefused (Some files) word h.before h.after a → ProjectRefused (Some files) word g.before g.after b → a ≡ b
    project_one r t = single.one_refusal [] 0 files word a b (as_first [] Is a h (project_refused r)) (as_first [] Is b g (project_refused t))

    part_one : (names : List (List ℕ)) (p : ProjectText) → HasProject (Some files) word p → PartRefused names p (Some files) h.before h.after a →
        PartRefused names p (Some files) g.before g.after b → a ≡ b
    part_one names p s r t =
        single.one_refusal names 0 files word a b (as_first names Is a h (part_refused p (asked p s) r)) (as_first names Is b g (part_refused p (asked p s) t))

-- ---- the tests of the agents together

false_true : false ≡ true → ⊥
false_true e = cc

right_true : (a b : Bool) → (a && b) ≡ true → b ≡ true
right_true true b e = e
right_true false b e = absurd (false_true e)

head_same : (x y : List ℕ) (xs ys : List (List ℕ)) → x ∷ xs ≡ y ∷ ys → x ≡ y
head_same x y xs ys e = cc

tail_same : (x y : List ℕ) (xs ys : List (List ℕ)) → x ∷ xs ≡ y ∷ ys → xs ≡ ys
tail_same x y xs ys e = cc

over : (most n : ℕ) → n ≤ most → most < n → ⊥
over most n h g = omega (arith, h, g)

module _ (earlier : List (List ℕ)) where
  later_new : (name : List ℕ) (names : List (List ℕ)) → are_new earlier (name ∷ names) ≡ true → are_new earlier names ≡ true
  later_new name names n = right_true (not (has_name earlier name)) (are_new earlier names) n

  -- names of which one is taken are not new
  not_new : (before behind : List (List ℕ)) (name : List ℕ) → has_name earlier name ≡ true → are_new earlier (before ++ name ∷ behind) ≡ true → ⊥
  not_new [] behind name t n = false_true (sym (ap (λ b. not b && are_new earlier behind) t) ∙ n)
  not_new (x ∷ before) behind name t n = not_new before behind name t (later_new x (before ++ name ∷ behind) n)

  first_taken : (front rear : List (List ℕ)) (x y : List ℕ) (xs ys : List (List ℕ)) → front ++ x ∷ xs ≡ rear ++ y ∷ ys → are_new earlier front ≡ true →
      are_new earlier rear ≡ true → has_name earlier x ≡ true → has_name earlier y ≡ true → (length front ≡ length rear) × (x ≡ y)
  first_taken [] [] x y xs ys q n m t u = (refl, head_same x y xs ys q)
  first_taken [] (z ∷ rear) x y xs ys q n m t u =
      absurd (not_new [] rear z (subst (λ w. has_name earlier w ≡ true) (head_same x z xs (rear ++ y ∷ ys) q) t) m)
  first_taken (z ∷ front) [] x y xs ys q n m t u =
      absurd (not_new [] front z (subst (λ w. has_name earlier w ≡ true) (sym (head_same z y (front ++ x ∷ xs) ys q)) u) n)
  first_taken (z ∷ front) (w ∷ rear) x y xs ys q n m t u =
      let r =
      first_taken front rear x y xs ys (tail_same z w (front ++ x ∷ xs) (rear ++ y ∷ ys) q) (later_new z front n) (later_new w rear m) t u in
      (ap (λ k. suc k) r.0, r.1)

  taken_one : (names : List (List ℕ)) (k n : ℕ) (x y : List ℕ) → IsTaken earlier names k x → IsTaken earlier names n y → (k ≡ n) × (x ≡ y)
  taken_one names k n x y h g =
      let r = first_taken h.before g.before x y h.behind g.behind (sym h.parts ∙ g.parts) h.new g.new h.taken g.taken in
      (h.number_is ∙ ap (λ l. l + 1) r.0 ∙ sym g.number_is, r.1)

module _ (second : List ℕ) (cycles : ℕ) (one two : List (List ℕ)) where
  abbrev agents : ℕ
  agents = length one + length two

  -- agents that fit together fail no test
  fit_fails : (status : Status) → Fit cycles one two → FailsTest second cycles one two status → ⊥
  fit_fails status f (many_agents l) = over most_agents agents f.few l
  fit_fails status f (many_cycles s l) = over most_cycles_together (agents * cycles) f.short l
  fit_fails status f (taken_name s l t) = not_new one t.before t.behind _ t.taken (subst (λ ns. are_new one ns ≡ true) t.parts f.new)

  fails_one : (s t : Status) → FailsTest second cycles one two s → FailsTest second cycles one two t → s ≡ t
  fails_one s t (many_agents l) (many_agents m) = refl
  fails_one s t (many_agents l) (many_cycles f m) = absurd (over most_agents agents f l)
  fails_one s t (many_agents l) (taken_name f c x) = absurd (over most_agents agents f l)
  fails_one s t (many_cycles f l) (many_agents m) = absurd (over most_agents agents f m)
  fails_one s t (many_cycles f l) (many_cycles e m) = refl
  fails_one s t (many_cycles f l) (taken_name e c x) = absurd (over most_cycles_together (agents * cycles) c l)
  fails_one s t (taken_name f c x) (many_agents m) = absurd (over most_agents agents f m)
  fails_one s t (taken_name f c x) (many_cycles e m) = absurd (over most_cycles_together (agents * cycles) c m)
  fails_one s t (taken_name {number = k} {name = name} f c x) (taken_name {number = n} {name = other} e d y) =
      let r = taken_one one two k n name other x y in
      ap₂ (λ i w. Refused second i (reason.Name w)) r.0 r.1

-- ---- both projects

module _ (files : List Filed) (wish : Wish) where
  -- where the words stand for projects their own files are not refused
  projects_stand : (p q : ProjectText) (Is : ℕ → ℕ → Status → Type 0) (status : Status) (h : Surely Is status) →
      AreProjects (Some files) wish.first wish.second p q → ProjectsRefused (Some files) wish.first wish.second h.before h.after status → ⊥
  projects_stand p q Is status h s (inl r) = stands_not files wish.first p Is status h s.first r
  projects_stand p q Is status h s (inr r) = stands_not files wish.second q Is status h s.second r.why

  tests_of : (status : Status) → TogetherRefused (Some files) wish status → (p q : ProjectText) → AreProjects (Some files) wish.first wish.second p q →
      FailsTest wish.second wish.cycles (names_of p.agents) (names_of q.agents) status
  tests_of status r p q s =
      subst (λ x. FailsTest wish.second wish.cycles (names_of x.agents) (names_of q.agents) status)
      (same_project files wish.first r.first p r.are.first s.first)
      (subst (λ x. FailsTest wish.second wish.cycles (names_of r.first.agents) (names_of x.agents) status)
      (same_project files wish.second r.second q r.are.second s.second) r.fails)

  together_not : (status : Status) → TogetherRefused (Some files) wish status → (p q : ProjectText) → AreAsked (Some files) wish p q → ⊥
  together_not status r p q a = fit_fails wish.second wish.cycles (names_of p.agents) (names_of q.agents) status a.fit (tests_of status r p q a.are)

  together_one : (a b : Status) → TogetherRefused (Some files) wish a → TogetherRefused (Some files) wish b → a ≡ b
  together_one a b r t =
      fails_one wish.second wish.cycles (names_of r.first.agents) (names_of r.second.agents) a b r.fails (tests_of b t r.first r.second r.are)

module _ (objects : List Used) (files : List Filed) (wish : Wish) where
  -- where the words stand for these projects, the files of their refusal are those of these
  parts_of : (p q x y : ProjectText) (before after : ℕ) (status : Status) → AreProjects (Some files) wish.first wish.second p q →
      AreProjects (Some files) wish.first wish.second x y → PartsRefused objects (Some files) x y before after status →
      PartsRefused objects (Some files) p q before after status
  parts_of p q x y before after status s u r =
      subst (λ z. PartsRefused objects (Some files) z q before after status) (same_project files wish.first x p u.first s.first)
      (subst (λ z. PartsRefused objects (Some files) x z before after status) (same_project files wish.second y q u.second s.second) r)

  module _ (Is : ℕ → ℕ → Status → Type 0) (a b : Status) (h : Surely Is a) (g : Surely Is b) where
    projects_one : ProjectsRefused (Some files) wish.first wish.second h.before h.after a →
        ProjectsRefused (Some files) wish.first wish.second g.before g.after b → a ≡ b
    projects_one (inl r) (inl t) = project_one files wish.first Is a b h g r t
    projects_one (inl r) (inr t) = absurd (stands_not files wish.first t.project Is a h t.first r)
    projects_one (inr r) (inl t) = absurd (stands_not files wish.first r.project Is b g r.first t)
    projects_one (inr r) (inr t) = project_one files wish.second Is a b h g r.why t.why

    parts_one : (p q : ProjectText) → AreProjects (Some files) wish.first wish.second p q → PartsRefused objects (Some files) p q h.before h.after a →
        PartsRefused objects (Some files) p q g.before g.after b → a ≡ b
    parts_one p q s (inl r) (inl t) = part_one files wish.first Is a b h g (known objects) p s.first r t
    parts_one p q s (inl r) (inr t) = absurd (part_not files wish.first (known objects) p t.one Is a h s.first t.described r)
    parts_one p q s (inr r) (inl t) = absurd (part_not files wish.first (known objects) p r.one Is b g s.first r.described t)
    parts_one p q s (inr r) (inr t) =
        let e =
        one_source (known objects) 0 files wish.first r.one t.one (source_of (known objects) files wish.first p r.one s.first r.described)
        (source_of (known objects) files wish.first p t.one s.first t.described) in
        part_one files wish.second Is a b h g (known (left_by r.one.world objects)) q s.second r.why
        (subst (λ x. PartRefused (known (left_by x.world objects)) q (Some files) g.before g.after b) (sym e) t.why)

    pair_one : PairRefused objects (Some files) wish h.before h.after a → PairRefused objects (Some files) wish g.before g.after b → a ≡ b
    pair_one (projects_refused r) (projects_refused t) = projects_one r t
    pair_one (projects_refused r) (together_refused t) = absurd (projects_stand files wish t.first t.second Is a h t.are r)
    pair_one (projects_refused r) (parts_refused p q s t) = absurd (projects_stand files wish p q Is a h s.are r)
    pair_one (together_refused r) (projects_refused t) = absurd (projects_stand files wish r.first r.second Is b g r.are t)
    pair_one (together_refused r) (together_refused t) = together_one files wish a b r t
    pair_one (together_refused r) (parts_refused p q s t) = absurd (together_not files wish a r p q s)
    pair_one (parts_refused p q s r) (projects_refused t) = absurd (projects_stand files wish p q Is b g s.are t)
    pair_one (parts_refused p q s r) (together_refused t) = absurd (together_not files wish b t p q s)
    pair_one (parts_refused p q s r) (parts_refused x y u t) = parts_one p q s.are r (parts_of p q x y g.before g.after b s.are u.are t)

  -- where files describe a pair none of them is refused
  parts_not : (both : Pair) (d : HasPair objects (Some files) wish both) (Is : ℕ → ℕ → Status → Type 0) (status : Status) (h : Surely Is status) →
      PartsRefused objects (Some files) d.first d.second h.before h.after status → ⊥
  parts_not both d Is status h (inl r) = part_not files wish.first (known objects) d.first both.one Is status h d.asked.are.first d.one r
  parts_not both d Is status h (inr r) =
      let e =
      one_source (known objects) 0 files wish.first r.one both.one (source_of (known objects) files wish.first d.first r.one d.asked.are.first r.described)
      (source_of (known objects) files wish.first d.first both.one d.asked.are.first d.one) in
      part_not files wish.second (known (left_by both.one.world objects)) d.second both.two Is status h d.asked.are.second d.two
      (subst (λ x. PartRefused (known (left_by x.world objects)) d.second (Some files) h.before h.after status) e r.why)

  pair_not : (both : Pair) (d : HasPair objects (Some files) wish both) (Is : ℕ → ℕ → Status → Type 0) (status : Status) (h : Surely Is status) →
      PairRefused objects (Some files) wish h.before h.after status → ⊥
  pair_not both d Is status h (projects_refused r) = projects_stand files wish d.first d.second Is status h d.asked.are r
  pair_not both d Is status h (together_refused r) = together_not files wish status r d.first d.second d.asked
  pair_not both d Is status h (parts_refused p q s r) =
      parts_not both d Is status h (parts_of d.first d.second p q h.before h.after status d.asked.are s.are r)

pub none_refused : NotRefused
none_refused objects files wish both d status h = pair_not objects files wish both d (PairRefused objects (Some files) wish) status h h.is

pub one_refusal : OneRefusal
one_refusal objects files wish a b h g = pair_one objects files wish (PairRefused objects (Some files) wish) a b h g h.is g.is
