-- How many agents a line counts.
use Rattle.std.proofs.Common.{◌≡◌, true, false, if◌then◌else◌, [], ◌∷◌, map, length, ap, ◌∙◌}
use Rattle.std.specs.List.{range_with_len}
use Rattle.std.proofs.lemmas.List.{length-map}
use Rattle.std.proofs.lemmas.List.FromFn.{length-range_with_len}
use Rattle.mas_project.specs.declared.syntax.AgentLine.{AgentLine}
use Rattle.mas_project.specs.Names.{names_in, numbered_name}

pub many_in : (line : AgentLine) → line.numbered ≡ true → length (names_in line) ≡ line.count
many_in line e =
    ap (λ b. length (if b then map (numbered_name line.name) (range_with_len 1 line.count) else line.name ∷ [])) e
    ∙ length-map (range_with_len 1 line.count) (numbered_name line.name) ∙ length-range_with_len 1 line.count

pub one_in : (line : AgentLine) → line.numbered ≡ false → length (names_in line) ≡ 1
one_in line e = ap (λ b. length (if b then map (numbered_name line.name) (range_with_len 1 line.count) else line.name ∷ [])) e
