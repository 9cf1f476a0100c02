-- Files of two projects describe one pair.
use Rattle.std.proofs.Common.{ℕ, ◌≤◌, ◌*◌, List, Some, ap, sym, ◌∙◌, subst, arith}
use Rattle.asl_term.specs.declared.syntax.Filed.{Filed}
use Rattle.mas_mind.specs.Limits.{most_cycles_together}
use Rattle.mas_project.specs.declared.syntax.ProjectText.{ProjectText}
use Rattle.mas_project.specs.Names.{agents_of}
use Rattle.mas_top_files.specs.declared.sources.Source.{Source}
use Rattle.mas_top_files.specs.Known.{known}
use Rattle.mas_top_files.specs.Projects.{all_cycles}
use Rattle.mas_top_files.specs.Sources.{HasProject, Describe, HasSource}
use Rattle.mas_top_files.proofs.Single.{one_source}
use Rattle.mas_top_sites.specs.Artifacts.{left_by}
use Rattle.mas_top_sites.specs.Pairs.{pair}
use Rattle.mas_top_sites.specs.Laws.{OnePair}

-- ---- a project of two, as one whose agents make no cycles

none_few : (n : ℕ) → n * 0 ≤ most_cycles_together
none_few n = omega arith

pub no_cycles : (p : ProjectText) → all_cycles p 0 ≤ most_cycles_together
no_cycles p = none_few (agents_of p.agents)

pub source_of : (names : List (List ℕ)) (files : List Filed) (word : List ℕ) (p : ProjectText) (source : Source) → HasProject (Some files) word p →
    Describe names (Some files) p source → HasSource names 0 (Some files) word source
source_of names files word p source h d = record { project = p; asked = record { stands = h; few = no_cycles p }; describe = d }

-- files describe one pair at most
pub one_pair : OnePair
one_pair objects files wish a b h g =
    let e =
    one_source (known objects) 0 files wish.first a.one b.one (source_of (known objects) files wish.first h.first a.one h.asked.are.first h.one)
    (source_of (known objects) files wish.first g.first b.one g.asked.are.first g.one) in
    let names = known (left_by a.one.world objects) in
    let d = subst (λ s. Describe (known (left_by s.world objects)) (Some files) g.second b.two) (sym e) g.two in
    let f =
    one_source names 0 files wish.second a.two b.two (source_of names files wish.second h.second a.two h.asked.are.second h.two)
    (source_of names files wish.second g.second b.two g.asked.are.second d) in
    ap (λ s. pair s a.two) e ∙ ap (pair b.one) f
