-- What files of two projects describe can meet, and what is told of it.
use Rattle.std.proofs.Common.{ℕ, ◌≡◌, ◌≤◌, ◌+◌, Bool, true, ◌&&◌, List, length, replicate, Option, None, Some, IfSome, ap, sym, ◌∙◌, subst, arith}
use Rattle.std.specs.List.{list_all}
use Rattle.std.proofs.lemmas.List.{length-append}
use Rattle.std.proofs.lemmas.List.Concat.{flat_map-append}
use Rattle.std.proofs.lemmas.List.Folds.{list_all-append}
use Rattle.asl_term.specs.declared.syntax.AgentText.{AgentText}
use Rattle.asl_term.specs.declared.syntax.Filed.{Filed}
use Rattle.asl_cycle.specs.Agent.{agent_kind}
use Rattle.mas_world.specs.declared.acts.WorldText.{WorldText}
use Rattle.mas_world.specs.Worlds.{Used, taken}
use Rattle.mas_project.specs.declared.syntax.ProjectText.{ProjectText}
use Rattle.mas_project.specs.Names.{names_of}
use Rattle.mas_project.specs.Projects.{most_agents}
use Rattle.mas_top_files.specs.declared.sources.Role.{Role}
use Rattle.mas_top_files.specs.Sources.{texts_of}
use Rattle.mas_top_files.proofs.Texts.{roles_named}
use Rattle.mas_top_files.proofs.Within.{some_agents}
use Rattle.mas_top_opening.specs.Fits.{CanOpen, is_ground_role}
use Rattle.mas_top_opening.specs.Opening.{Setup}
use Rattle.mas_top_opening.proofs.Able.{roles_ground, world_open}
use Rattle.mas_top_sites.specs.Artifacts.{uses_of, left_by}
use Rattle.mas_top_sites.specs.Pairs.{Wish, wish, Pair, are_new, HasPair, AreRead}
use Rattle.mas_top_sites.specs.Opening.{together, at_one, at_two, site, AreNames, CanSit, CanMeet, HasFacts}
use Rattle.mas_top_sites.specs.Texts.{IsSitesText}
use Rattle.mas_top_sites.specs.Caused.{Sites, wish_of, ForPair}

facts_of : (objects : List Used) (text : Option WorldText) → IfSome text (CanOpen objects) → HasFacts text
facts_of objects None h = tt
facts_of objects (Some text) h = h.facts

module _ (objects : List Used) (held : Option (List Filed)) (asked : Wish) (both : Pair) (h : HasPair objects held asked both) where
  abbrev p : ProjectText
  p = h.first

  abbrev q : ProjectText
  q = h.second

  same_names : (names_of p.agents ≡ both.one.names) × (names_of q.agents ≡ both.two.names)
  same_names = (sym h.one.names, sym h.two.names)

  are_names : AreNames both.one.names both.two.names
  are_names =
      let f = h.asked.fit in
      let e = same_names in
      record {
        few = subst (λ x. length x + length both.two.names ≤ most_agents) e.0 (subst (λ x. length (names_of p.agents) + length x ≤ most_agents) e.1 f.few);
        new = subst (λ x. are_new x both.two.names ≡ true) e.0 (subst (λ x. are_new (names_of p.agents) x ≡ true) e.1 f.new);
      }

  both_true : (a b : Bool) → a ≡ true → b ≡ true → (a && b) ≡ true
  both_true a b e f = ap (λ x. x && b) e ∙ f

  more : (n m : ℕ) → 1 ≤ n → 1 ≤ n + m
  more n m l = omega (arith, l)

  abbrev texts_in : Role → List AgentText
  texts_in role = replicate role.count role.text

  can_sit : CanSit (together both)
  can_sit =
      let one : 1 ≤ length both.one.names = subst (λ x. 1 ≤ length x) (sym h.one.names) (some_agents held asked.first p h.asked.are.first) in
      let all = length-append both.one.names both.two.names in
      record {
        some = subst (λ n. 1 ≤ n) (sym all) (more (length both.one.names) (length both.two.names) one);
        named = length-append both.one.names both.two.names
            ∙ ap (λ n. n + length both.two.names) (ap length h.one.names ∙ roles_named held p.agents both.one.roles h.one.roles)
            ∙ ap (λ n. length (texts_of both.one.roles) + n) (ap length h.two.names ∙ roles_named held q.agents both.two.roles h.two.roles)
            ∙ sym (ap length (flat_map-append texts_in both.one.roles both.two.roles) ∙ length-append (texts_of both.one.roles) (texts_of both.two.roles));
        ground = list_all-append is_ground_role both.one.roles both.two.roles
            ∙ both_true (list_all is_ground_role both.one.roles) (list_all is_ground_role both.two.roles)
            (roles_ground held p.agents both.one.roles h.one.roles) (roles_ground held q.agents both.two.roles h.two.roles);
      }

  pub can_meet : CanMeet both
  can_meet = record {
    names = are_names;
    sit = can_sit;
    one = facts_of objects both.one.world (world_open objects held p.world both.one.world h.one.world);
    two = facts_of (left_by both.one.world objects) both.two.world (world_open (left_by both.one.world objects) held q.world both.two.world h.two.world);
  }

-- what is told of two sites that were read
pub answered : (u : Setup) (held : Option (List Filed)) (s : Sites) (both : Pair) (used_one used_two : List Used) (spent : Bool) (w : List ℕ) →
    AreRead u.objects held (wish_of u s) both used_one used_two →
    IsSitesText agent_kind u.options (site u.options both both.one.world used_one (at_one (length both.one.names)))
    (site u.options both both.two.world used_two (at_two (length both.one.names))) s.workers spent w → ForPair u held s spent w
answered u held s both used_one used_two spent w h t =
    let first = length both.one.names in
    let one = site u.options both both.one.world in
    let two = site u.options both both.two.world in
    record {
      both = both;
      has = h.has;
      is = subst (λ x. IsSitesText agent_kind u.options (one x (at_one first))
          (two (taken (uses_of both.two.world) (left_by both.one.world u.objects)) (at_two first)) s.workers spent w) h.taken.one_is
          (subst (λ x. IsSitesText agent_kind u.options (one used_one (at_one first)) (two x (at_two first)) s.workers spent w) h.taken.two_is t);
    }

-- the words under other names
pub answered_as : (u : Setup) (held : Option (List Filed)) (s : Sites) (first second : List ℕ) (both : Pair) (used_one used_two : List Used) (spent : Bool) (w : List ℕ) →
    first ≡ s.first → second ≡ s.second → AreRead u.objects held (wish first second u.options.cycles) both used_one used_two →
    IsSitesText agent_kind u.options (site u.options both both.one.world used_one (at_one (length both.one.names)))
    (site u.options both both.two.world used_two (at_two (length both.one.names))) s.workers spent w → ForPair u held s spent w
answered_as u held s first second both used_one used_two spent w e f h t =
    answered u held s both used_one used_two spent w
    (subst (λ x. AreRead u.objects held (wish x s.second u.options.cycles) both used_one used_two) e
    (subst (λ x. AreRead u.objects held (wish first x u.options.cycles) both used_one used_two) f h)) t
