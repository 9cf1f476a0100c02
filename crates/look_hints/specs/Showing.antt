-- What is written of hints.
use Rattle.std.specs.Prelude.{◌≡◌, ℕ, ◌+◌, ◌≤◌, Bool, false, List, [], ◌∷◌, ◌++◌, codes, length, nat_lt}
use Rattle.std.specs.List.{flat_map, list_any}
use Rattle.look_pieces.specs.Printing.{findings_text}
use Rattle.look_hints.specs.declared.finding.HintsTold.{HintsTold}
use Rattle.look_hints.specs.declared.project.Member.{Member}
use Rattle.look_hints.specs.Planless.{all_planless}

-- the hints of a file, in order
abbrev pub file_text : HintsTold → List ℕ
file_text t = findings_text t.shown (codes "hint") t.findings

abbrev pub is_told : HintsTold → Bool
is_told t = nat_lt 0 (length t.findings)

-- the hints of all files, and behind them how many there are; something is found where there is one
pub record IsHints (files : List HintsTold) (found : Bool) (text : List ℕ) : Type 0 where
  pub some : found ≡ list_any is_told files
  pub behind : List ℕ
  pub text_is : text ≡ flat_map file_text files ++ behind

-- how many goals of the sources have no plan, and how many hints there are

abbrev pub count_planless : Bool → List Member → ℕ
count_planless tells_plans [] = 0
count_planless tells_plans (m ∷ ms) = length (all_planless tells_plans m.source.clauses m.source.clauses) + count_planless tells_plans ms

abbrev pub count_hints : List HintsTold → ℕ
count_hints [] = 0
count_hints (t ∷ ts) = length t.findings + count_hints ts

-- What is written of a project: where nothing is found each goal of its sources has a plan.
pub record AreWritten (tells_plans : Bool) (ms : List Member) (found : Bool) (text : List ℕ) : Type 0 where
  pub files : List HintsTold
  pub shown : IsHints files found text
  pub quiet : found ≡ false → count_planless tells_plans ms ≡ 0
