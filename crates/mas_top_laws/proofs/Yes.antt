-- What lint's yes says of the runs of a project.
use Rattle.std.proofs.Common.{◌≡◌, ◌+◌, ℕ, zero, suc, Bool, true, false, cond, List, [], ◌∷◌, replicate, Option, Some, None, IfSome, refl, ap, subst}
use Rattle.std.specs.List.{AllByRecursion, find}
use Rattle.std.specs.Option.{option_to_list}
use Rattle.std.specs.Str.{bytes_eq}
use Rattle.asl_term.specs.declared.syntax.AgentText.{AgentText}
use Rattle.asl_term.specs.declared.syntax.Filed.{Filed}
use Rattle.asl_cycle.specs.Agent.{Mindset}
use Rattle.asl_lint.specs.Lints.{verdict}
use Rattle.asl_lint.specs.declared.lint.Verdict.{Verdict}
use Rattle.asl_lint.specs.declared.lint.Verdict.TheVariants.{Yes, Goal, Item}
use Rattle.mas_top_laws.specs.Read.{IsSource}
use Rattle.asl_lint_laws.proofs.Beliefs.{all_append}
use Rattle.mas_top_laws.specs.Runs.{Along, NeverNow}
use Rattle.mas_top_laws.specs.Runs as linted
use Rattle.mas_top_laws.proofs.Openings.{sources_never}
use Rattle.mas_world.specs.declared.acts.WorldText.{WorldText}
use Rattle.mas_world.specs.Facts.{AreFacts}
use Rattle.mas_world.specs.Worlds.{Used, HasFacts, named, taken}
use Rattle.mas_world.proofs.Sound.{none_are}
use Rattle.env_file.proofs.Opened.{good_facts}
use Rattle.mas_core.specs.Platform.{opening_platform}
use Rattle.mas_project.specs.declared.syntax.AgentLine.{AgentLine}
use Rattle.mas_report.specs.declared.options.Options.{Options}
use Rattle.mas_top_files.specs.declared.sources.Role.{Role}
use Rattle.mas_top_files.specs.Sources.{HasWorld, HasRoles, HasSource, texts_of}
use Rattle.mas_top_files.specs.Known.{known}
use Rattle.mas_top_files.proofs.Single.{one_source}
use Rattle.mas_top_lint.specs.Linting.{usual_cycles, is_yes}
use Rattle.mas_top_opening.specs.Opening.{budgets_of, opening_board, opening_world, mind_of, minds_from}
use Rattle.mas_top_laws.specs.Never.{ShowFacts, YesMeansNever, OkMeansNever}

-- ---- the world at the start

abbrev Shows : Used → Type 0
Shows u = AreFacts u.segment.facts

found_shows : (p : Used → Bool) (all : List Used) → ShowFacts all → IfSome (find p all) Shows
found_shows p [] a = tt
found_shows p (u ∷ all) a = go (p u) (found_shows p all a.1) where
  go : (b : Bool) → IfSome (find p all) Shows → IfSome (cond b (Some u) (find p all)) Shows
  go true later = a.0
  go false later = later

some_show : (o : Option Used) → IfSome o Shows → ShowFacts (option_to_list o)
some_show None a = tt
some_show (Some u) a = (a, tt)

taken_show : (names : List (List ℕ)) (all : List Used) → ShowFacts all → ShowFacts (taken names all)
taken_show [] all a = tt
taken_show (name ∷ names) all a =
    all_append Shows (option_to_list (named all name)) (taken names all) (some_show (named all name) (found_shows (λ u. bytes_eq u.name name) all a))
    (taken_show names all a)

world_has : (objects : List Used) (held : Option (List Filed)) (name : Option (List ℕ)) (world : Option WorldText) → ShowFacts objects
    → HasWorld (known objects) held name world → HasFacts (opening_world objects world)
world_has objects held None None a h = record { file = none_are; used = tt }
world_has objects held None (Some text) a h = absurd h
world_has objects held (Some name) None a h = absurd h
world_has objects held (Some name) (Some text) a h =
    record { file = good_facts (known objects) h.bytes text h.are; used = taken_show text.uses objects a }

-- ---- the agents at the start

copies : (n : ℕ) (text : AgentText) → IsSource text → AllByRecursion IsSource (replicate n text)
copies zero text s = tt
copies (suc n) text s = (s, copies n text s)

roles_are : (held : Option (List Filed)) (lines : List AgentLine) (roles : List Role) → HasRoles held lines roles → AllByRecursion IsSource (texts_of roles)
roles_are held [] [] h = tt
roles_are held [] (role ∷ roles) h = absurd h
roles_are held (line ∷ lines) [] h = absurd h
roles_are held (line ∷ lines) (role ∷ roles) h =
    all_append IsSource (replicate role.count role.text) (texts_of roles)
    (copies role.count role.text (record { bytes = h.0.text.bytes; is = h.0.text.are })) (roles_are held lines roles h.1)

minds_same : (o : Options) (names : List (List ℕ)) (a : ℕ) (texts : List AgentText)
    → linted.minds_from names (budgets_of o) o.level a texts ≡ minds_from o names a texts
minds_same o names a [] = refl
minds_same o names a (text ∷ texts) = ap (λ (ms : List Mindset). mind_of o names a text ∷ ms) (minds_same o names (a + 1) texts)

-- ---- the laws

pub yes_means_never : YesMeansNever
yes_means_never u cycles held word source shows has said schedule =
    let d = has.describe in
    let texts = texts_of source.roles in
    subst (λ ms. Along NeverNow (opening_platform (opening_board u source) ms) schedule) (minds_same u.options source.names 1 texts)
    (sources_never source.names texts (opening_world u.objects source.world) u.options.cycles u.options.lead (budgets_of u.options) u.options.level schedule
    (world_has u.objects held has.project.world source.world shows d.world) (roles_are held has.project.agents source.roles d.roles) said)

is_yes_yes : (v : Verdict) → true ≡ is_yes v → v ≡ Yes
is_yes_yes Yes e = refl
is_yes_yes (Goal agent goal) e = cc
is_yes_yes (Item agent plan item) e = cc

pub ok_means_never : OkMeansNever
ok_means_never u word before after files source shows held has caused =
    let own = subst (λ h. HasSource (known u.objects) usual_cycles h word caused.is.source) held caused.is.has in
    let same : caused.is.source ≡ source = one_source (known u.objects) usual_cycles files word caused.is.source source own has in
    let said = is_yes_yes (verdict caused.is.source.names (texts_of caused.is.source.roles)) caused.is.yes_is in
    yes_means_never u usual_cycles (Some files) word source shows has (subst (λ s. verdict s.names (texts_of s.roles) ≡ Yes) same said)
