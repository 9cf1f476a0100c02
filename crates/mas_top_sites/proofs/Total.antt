-- Files of two projects describe a pair, or one of them is refused.
use Rattle.std.proofs.Common.{ℕ, ◌≡◌, ◌≢◌, ◌+◌, ◌*◌, ◌⊎◌, inl, inr, Bool, true, false, not, ◌&&◌, suc, List, [], ◌∷◌, length, Some, refl, ap, ◌∙◌, arith}
use Rattle.asl_term.specs.declared.syntax.Filed.{Filed}
use Rattle.mas_mind.specs.Limits.{most_cycles_together}
use Rattle.mas_world.specs.Worlds.{Used}
use Rattle.mas_project.specs.declared.syntax.ProjectText.{ProjectText}
use Rattle.mas_project.specs.Names.{names_of}
use Rattle.mas_project.specs.Projects.{most_agents}
use Rattle.mas_project.proofs.Total.{few_or_many}
use Rattle.mas_top_files.specs.declared.sources.Source.{Source}
use Rattle.mas_top_status.specs.declared.status.Reason.TheVariants as reason
use Rattle.mas_top_status.specs.declared.status.Status.{Status}
use Rattle.mas_top_status.specs.declared.status.Status.TheVariants.{Refused, Limit, Memory}
use Rattle.mas_top_status.specs.declared.status.What.TheVariants as what
use Rattle.mas_top_files.specs.Known.{known}
use Rattle.mas_top_files.specs.Laws.{Surely}
use Rattle.mas_top_files.specs.Projects.{all_cycles}
use Rattle.mas_top_files.specs.Sources.{HasProject, Describe, ProjectRefused, PartRefused, FirstRefused, project_refused, cycles_refused, part_refused}
use Rattle.mas_top_files.proofs.Single.{too_many}
use Rattle.mas_top_files.proofs.Total.{some_source}
use Rattle.mas_top_files.proofs.Unless.{is_told}
use Rattle.mas_top_sites.specs.Artifacts.{left_by}
use Rattle.mas_top_sites.specs.Pairs.{has_name, are_new, Fit, IsTaken, FailsTest, many_agents, many_cycles, taken_name}
use Rattle.mas_top_sites.specs.Pairs.{Wish, Pair, pair, AreAsked, HasPair, PairRefused, projects_refused, together_refused, parts_refused}
use Rattle.mas_top_sites.specs.Laws.{SomePair, UnrefusedDescribe}
use Rattle.mas_top_sites.proofs.Single.{no_cycles}

-- ---- one project

-- what is refused for the one is so for the other
pub sure : (Is Js : ℕ → ℕ → Status → Type 0) (status : Status) (h : Surely Is status) → Js h.before h.after status → Surely Js status
sure Is Js status h j = record { before = h.before; after = h.after; no_fault = h.no_fault; no_lack = h.no_lack; is = j }

-- what is told of the other files of a project
abbrev PartsTold : List Filed → List (List ℕ) → ProjectText → Type 0
PartsTold files names p =
    ((source : Source) × Describe names (Some files) p source) ⊎ ((status : Status) × Surely (PartRefused names p (Some files)) status)

record Standing (files : List Filed) (names : List (List ℕ)) (word : List ℕ) : Type 0 where
  project : ProjectText
  stands : HasProject (Some files) word project
  parts : PartsTold files names project

abbrev ProjectTold : List Filed → List (List ℕ) → List ℕ → Type 0
ProjectTold files names word = Standing files names word ⊎ ((status : Status) × Surely (ProjectRefused (Some files) word) status)

module _ (files : List Filed) (names : List (List ℕ)) (word : List ℕ) where
  refused_told : (Is : ℕ → ℕ → Status → Type 0) (status : Status) (h : Surely Is status) → FirstRefused names 0 (Some files) word h.before h.after status →
      ProjectTold files names word
  refused_told Is status h (project_refused r) = inr (status, sure Is (ProjectRefused (Some files) word) status h r)
  refused_told Is status h (cycles_refused r) = absurd (too_many (all_cycles r.project 0) (no_cycles r.project) r.past)
  refused_told Is status h (part_refused p a r) =
      inl (record { project = p; stands = a.stands; parts = inr (status, sure Is (PartRefused names p (Some files)) status h r) })

  project_told : ProjectTold files names word
  project_told =
      elim (some_source names 0 files word) [
        | inl s ↦ inl (record { project = s.1.project; stands = s.1.asked.stands; parts = inl (s.0, s.1.describe) })
        | inr f ↦ refused_told _ f.0 f.1 (is_told (FirstRefused names 0 (Some files) word f.1.before f.1.after) f.0 f.1.no_lack f.1.is)
      ]

-- ---- the tests of the agents together

new_more : (earlier names : List (List ℕ)) (name : List ℕ) → has_name earlier name ≡ false → are_new earlier names ≡ true → are_new earlier (name ∷ names) ≡ true
new_more earlier names name e h = ap (λ b. not b && are_new earlier names) e ∙ h

one_more : (k n : ℕ) → k ≡ n + 1 → k + 1 ≡ suc n + 1
one_more k n e = omega (arith, e)

abbrev NewTold : List (List ℕ) → List (List ℕ) → Type 0
NewTold earlier names = (are_new earlier names ≡ true) ⊎ ((x : ℕ × List ℕ) × IsTaken earlier names x.0 x.1)

behind_new : (earlier names : List (List ℕ)) (name : List ℕ) → has_name earlier name ≡ false → NewTold earlier names → NewTold earlier (name ∷ names)
behind_new earlier names name e (inl h) = inl (new_more earlier names name e h)
behind_new earlier names name e (inr t) = inr (
  (t.0.0 + 1, t.0.1),
  record {
    before = name ∷ t.1.before;
    behind = t.1.behind;
    parts = ap (λ ns. name ∷ ns) t.1.parts;
    number_is = one_more t.0.0 (length t.1.before) t.1.number_is;
    new = new_more earlier t.1.before name e t.1.new;
    taken = t.1.taken;
  },
)

new_told : (earlier names : List (List ℕ)) → NewTold earlier names
new_told earlier [] = inl refl
new_told earlier (name ∷ names) = go (new_told earlier names) (has_name earlier name) refl
  where
    go : NewTold earlier names → (b : Bool) → has_name earlier name ≡ b → NewTold earlier (name ∷ names)
    go later true e = inr ((1, name), record { before = []; behind = names; parts = refl; number_is = refl; new = refl; taken = e })
    go later false e = behind_new earlier names name e later

-- a test fails, with a status that is not want of memory
record Failing (second : List ℕ) (cycles : ℕ) (one two : List (List ℕ)) : Type 0 where
  status : Status
  no_lack : status ≢ Memory
  fails : FailsTest second cycles one two status

fit_told : (second : List ℕ) (cycles : ℕ) (one two : List (List ℕ)) → Fit cycles one two ⊎ Failing second cycles one two
fit_told second cycles one two =
    let agents = length one + length two in
    elim (few_or_many most_agents agents) [
      | inr many ↦ inr (record { status = Limit what.Agents agents; no_lack = λ m. absurd cc; fails = many_agents many })
      | inl few ↦ elim (few_or_many most_cycles_together (agents * cycles)) [
        | inr past ↦ inr (record { status = Limit what.Cycles (agents * cycles); no_lack = λ m. absurd cc; fails = many_cycles few past })
        | inl short ↦ elim (new_told one two) [
          | inr t ↦ inr (record { status = Refused second t.0.0 (reason.Name t.0.1); no_lack = λ m. absurd cc; fails = taken_name few short t.1 })
          | inl new ↦ inl (record { few = few; short = short; new = new })
        ]
      ]
    ]

-- ---- both

module _ (objects : List Used) (files : List Filed) (wish : Wish) where
  abbrev Told : Type 0
  Told = ((both : Pair) × HasPair objects (Some files) wish both) ⊎ ((status : Status) × Surely (PairRefused objects (Some files) wish) status)

  refused : (Is : ℕ → ℕ → Status → Type 0) (status : Status) (h : Surely Is status) → PairRefused objects (Some files) wish h.before h.after status → Told
  refused Is status h r = inr (status, sure Is (PairRefused objects (Some files) wish) status h r)

  -- where the first project's file is read, by what is told of the others once the agents fit together
  second_told : (names : List (List ℕ)) (p : ProjectText) → HasProject (Some files) wish.first p →
      ((q : ProjectText) → AreAsked (Some files) wish p q → PartsTold files names q → Told) → Told
  second_told names p h told =
      elim (project_told files names wish.second) [
        | inr f ↦ refused _ f.0 f.1 (projects_refused (inr (record { project = p; first = h; why = f.1.is })))
        | inl s ↦ elim (fit_told wish.second wish.cycles (names_of p.agents) (names_of s.project.agents)) [
          | inr f ↦ inr (
            f.status,
            record {
              before = 0;
              after = 0;
              no_fault = λ r. omega (arith, r);
              no_lack = f.no_lack;
              is = together_refused (record { first = p; second = s.project; are = record { first = h; second = s.stands }; fails = f.fails });
            },
          )
          | inl fit ↦ told s.project (record { are = record { first = h; second = s.stands }; fit = fit }) s.parts
        ]
      ]

  two_told : (p q : ProjectText) (one : Source) → Describe (known objects) (Some files) p one → AreAsked (Some files) wish p q →
      PartsTold files (known (left_by one.world objects)) q → Told
  two_told p q one d a (inl two) = inl (pair one two.0, record { first = p; second = q; asked = a; one = d; two = two.1 })
  two_told p q one d a (inr f) = refused _ f.0 f.1 (parts_refused p q a (inr (record { one = one; described = d; why = f.1.is })))

  told : Told
  told =
      elim (project_told files (known objects) wish.first) [
        | inr f ↦ refused _ f.0 f.1 (projects_refused (inl f.1.is))
        | inl s ↦ elim s.parts [
          | inl one ↦ second_told (known (left_by one.0.world objects)) s.project s.stands (λ q a rest. two_told s.project q one.0 one.1 a rest)
          | inr f ↦ second_told [] s.project s.stands (λ q a rest. refused _ f.0 f.1 (parts_refused s.project q a (inl f.1.is)))
        ]
      ]

pub some_pair : SomePair
some_pair objects files wish = told objects files wish

pub unrefused_describe : UnrefusedDescribe
unrefused_describe objects files wish none =
    elim (some_pair objects files wish) [ inl s ↦ s | inr f ↦ absurd (none f.0 f.1) ]
