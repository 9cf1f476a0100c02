-- The bytes of a report.
use Rattle.std.proofs.Common.{◌≡◌, ◌<◌, ℕ, List, length, Option, None, Some, inl, inr, subst}
use Rattle.std.specs.Prelude.{Result, MatchResult}
use Rattle.asl_term.specs.declared.syntax.Filed.{Filed}
use Rattle.mas_io.specs.declared.shelf.Fetched.TheVariants.{Bytes}
use Rattle.mas_top_files.specs.Files.{Has, IsUnfetched, most_report_bytes}
use Rattle.mas_top_status.specs.declared.status.What.TheVariants as what
use Rattle.mas_top_status.specs.declared.status.Status.{Status}
use Rattle.mas_top_status.specs.declared.status.Status.TheVariants.{Limit, Memory}
use Rattle.look_top.specs.Reports.{input_for, IsInput, IsNoInput, AreBytes, LackBytes, HasReport, LacksReport}

pub too_many : (given : List ℕ) (status : Status) → status ≡ Limit what.File most_report_bytes → most_report_bytes < length given → IsNoInput given status
too_many given status e l = inl (e, l)

pub no_memory : (given : List ℕ) (status : Status) → status ≡ Memory → IsNoInput given status
no_memory given status e = inr e

-- of standard input where that is the report, else of the file

pub by_input : (input : Option (List ℕ)) (held : Option (List Filed)) (word given : List ℕ) (before after : ℕ) (r : Result (List ℕ) Status) →
    Some given ≡ input_for word input →
    MatchResult r (IsInput given) (IsNoInput given) → MatchResult r (HasReport input held word) (LacksReport input held word before after)
by_input input held word given before after r e m =
    subst (λ (g : Option (List ℕ)). MatchResult r (AreBytes held word g) (LackBytes held word g before after)) e m

pub by_file : (input : Option (List ℕ)) (held : Option (List Filed)) (word : List ℕ) (before after : ℕ) (r : Result (List ℕ) Status) →
    None ≡ input_for word input →
    MatchResult r (AreBytes held word None) (LackBytes held word None before after) →
    MatchResult r (HasReport input held word) (LacksReport input held word before after)
by_file input held word before after r e m =
    subst (λ (g : Option (List ℕ)). MatchResult r (AreBytes held word g) (LackBytes held word g before after)) e m

pub of_file : (held : Option (List Filed)) (name word : List ℕ) (before after : ℕ) (r : Result (List ℕ) Status) → name ≡ word →
    MatchResult r (λ bytes. Has most_report_bytes held name (Bytes bytes)) (IsUnfetched most_report_bytes name held before after) →
    MatchResult r (AreBytes held word None) (LackBytes held word None before after)
of_file held name word before after r e m =
    subst (λ (x : List ℕ). MatchResult r (λ bytes. Has most_report_bytes held x (Bytes bytes)) (IsUnfetched most_report_bytes x held before after)) e m
