-- As many sources as names.
use Rattle.std.proofs.Common.{ℕ, ◌≡◌, ◌+◌, List, [], ◌∷◌, length, replicate, Option, refl, ap, sym, ◌∙◌}
use Rattle.std.proofs.lemmas.List.{length-append, length-replicate}
use Rattle.asl_term.specs.declared.syntax.Filed.{Filed}
use Rattle.mas_project.specs.declared.syntax.AgentLine.{AgentLine}
use Rattle.mas_project.specs.Names.{names_in, names_of}
use Rattle.mas_top_files.specs.declared.sources.Role.{Role}
use Rattle.mas_top_files.specs.declared.sources.Source.{Source}
use Rattle.mas_top_files.specs.Sources.{HasRoles, HasSource, texts_of}

pub roles_named : (held : Option (List Filed)) (all : List AgentLine) (roles : List Role) → HasRoles held all roles → length (names_of all) ≡ length (texts_of roles)
roles_named held [] [] h = refl
roles_named held [] (role ∷ roles) h = absurd h
roles_named held (l ∷ all) [] h = absurd h
roles_named held (l ∷ all) (role ∷ roles) h =
    length-append (names_in l) (names_of all)
    ∙ ap (λ n. n + length (names_of all)) (sym h.0.count ∙ sym (length-replicate role.count role.text))
    ∙ ap (λ n. length (replicate role.count role.text) + n) (roles_named held all roles h.1)
    ∙ sym (length-append (replicate role.count role.text) (texts_of roles))

pub texts_named : (known : List (List ℕ)) (cycles : ℕ) (held : Option (List Filed)) (word : List ℕ) (source : Source) → HasSource known cycles held word source →
    length source.names ≡ length (texts_of source.roles)
texts_named known cycles held word source h =
    let d = h.describe in
    ap length d.names ∙ roles_named held h.project.agents source.roles d.roles
