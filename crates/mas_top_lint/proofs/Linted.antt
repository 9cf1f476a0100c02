-- The cause of a status of `lint`, and what follows of it.
use Rattle.std.proofs.Common.{ℕ, ◌≡◌, inl, inr, Bool, true, false, List, Option, Some, length, if◌then◌else◌, refl, ap, sym, ◌∙◌, subst}
use Rattle.asl_term.specs.declared.syntax.Filed.{Filed}
use Rattle.asl_lint.specs.Lints.{verdict}
use Rattle.mas_io.specs.Causes.{Rose}
use Rattle.mas_io.specs.Sink.{grown}
use Rattle.mas_io.specs.Told.{Told, IsUnwritten}
use Rattle.mas_io.specs.Writing.{Wrote, IsCut}
use Rattle.mas_top_files.specs.declared.sources.Source.{Source}
use Rattle.mas_top_status.specs.declared.status.Status.{Status}
use Rattle.mas_top_status.specs.declared.status.Status.TheVariants.{Ok, No, Usage, Missing, ReadFault, WriteFault, Refused, Limit, Budget, Memory, DiskFault}
use Rattle.mas_top_files.specs.Laws.{Surely}
use Rattle.mas_top_files.specs.Sources.{HasSource, FirstRefused, AreRefused, texts_of}
use Rattle.mas_top_status.specs.Statuses as statuses
use Rattle.mas_top_files.proofs.Refusing.{refuses, no_report, first_by}
use Rattle.mas_top_files.proofs.Single.{one_source}
use Rattle.mas_top_files.proofs.Texts.{texts_named}
use Rattle.mas_top_lint.specs.Linting.{is_yes, verdict_text, usual_cycles, IsLinted, LintCaused, Lints, IsLintComplete}

-- ---- what is refused

lint_refuses : (known : List (List ℕ)) (word : List ℕ) (held : Option (List Filed)) (before after : ℕ) (status : Status) →
    FirstRefused known usual_cycles held word before after status → refuses status ≡ true
lint_refuses known word held before after status r =
    first_by (λ s. refuses s ≡ true) known usual_cycles held word before after status (λ r t name s. no_report r t name held before after s) (λ count. refl) r

refused_by : (known : List (List ℕ)) (word : List ℕ) (before after : Told) (status : Status) → refuses status ≡ true →
    FirstRefused known usual_cycles before.held word before.shelf_faults after.shelf_faults status → IsUnwritten before after → LintCaused known word before after status
refused_by known word before after Ok e r n = absurd cc
refused_by known word before after No e r n = absurd cc
refused_by known word before after Usage e r n = absurd cc
refused_by known word before after (Missing lacked) e r n = record { why = r; unwritten = n }
refused_by known word before after ReadFault e r n = record { why = r; unwritten = n }
refused_by known word before after WriteFault e r n = absurd cc
refused_by known word before after (Refused file place why) e r n = record { why = r; unwritten = n }
refused_by known word before after (Limit quantity count) e r n = record { why = r; unwritten = n }
refused_by known word before after Budget e r n = absurd cc
refused_by known word before after Memory e r n = n
refused_by known word before after DiskFault e r n = absurd cc

one_refused : (known : List (List ℕ)) (word : List ℕ) (before after : Told) (status : Status) →
    FirstRefused known usual_cycles before.held word before.shelf_faults after.shelf_faults status → IsUnwritten before after → LintCaused known word before after status
one_refused known word before after status r n =
    refused_by known word before after status (lint_refuses known word before.held before.shelf_faults after.shelf_faults status r) r n

pub refused_lint : (known : List (List ℕ)) (word : List ℕ) (before after : Told) (status : Status) →
    AreRefused known usual_cycles before.held word before.shelf_faults after.shelf_faults status → IsUnwritten before after → LintCaused known word before after status
refused_lint known word before after Ok r n = one_refused known word before after Ok r n
refused_lint known word before after No r n = one_refused known word before after No r n
refused_lint known word before after Usage r n = one_refused known word before after Usage r n
refused_lint known word before after (Missing lacked) r n = one_refused known word before after (Missing lacked) r n
refused_lint known word before after ReadFault r n = one_refused known word before after ReadFault r n
refused_lint known word before after WriteFault r n = one_refused known word before after WriteFault r n
refused_lint known word before after (Refused file place why) r n = one_refused known word before after (Refused file place why) r n
refused_lint known word before after (Limit quantity count) r n = one_refused known word before after (Limit quantity count) r n
refused_lint known word before after Budget r n = one_refused known word before after Budget r n
refused_lint known word before after Memory r n = n
refused_lint known word before after DiskFault r n = one_refused known word before after DiskFault r n

-- ---- what is written

answered_by : (known : List (List ℕ)) (word : List ℕ) (before after : Told) (told : Bool) (w : List ℕ) → IsLinted known word before.held told w →
    after.written ≡ grown before.written w → LintCaused known word before after (statuses.verdict told)
answered_by known word before after true w d e = record { text = w; is = d; written = e }
answered_by known word before after false w d e = record { text = w; is = d; written = e }

pub written_lint : (known : List (List ℕ)) (word : List ℕ) (before after : Told) (status : Status) (told : Bool) (w : List ℕ) → status ≡ statuses.verdict told →
    IsLinted known word before.held told w → after.written ≡ grown before.written w → LintCaused known word before after status
written_lint known word before after status told w s d g = subst (LintCaused known word before after) (sym s) (answered_by known word before after told w d g)

pub cut_lint : (known : List (List ℕ)) (word : List ℕ) (before after : Told) (told : Bool) (w : List ℕ) → IsLinted known word before.held told w →
    Rose before.sink_faults after.sink_faults → IsCut before.written after.written w → LintCaused known word before after WriteFault
cut_lint known word before after told w d r k = record { rose = r; text = w; is = record { yes = told; is = d }; cut = k }

-- ---- a source

pub named : (known : List (List ℕ)) (cycles : ℕ) (held : Option (List Filed)) (word : List ℕ) (source : Source) → HasSource known cycles held word source →
    length source.names ≡ length (texts_of source.roles)
named = texts_named

pub linted : (known : List (List ℕ)) (word : List ℕ) (held : Option (List Filed)) (source : Source) (told : Bool) (w : List ℕ) → HasSource known usual_cycles held word source →
    (let v = verdict source.names (texts_of source.roles) in (told ≡ is_yes v) × (w ≡ verdict_text source.names v)) → IsLinted known word held told w
linted known word held source told w h e = record { source = source; has = h; yes_is = e.0; text = e.1 }

-- ---- what follows

by_status : (known : List (List ℕ)) (word : List ℕ) (before after : Told) (told : Bool) → LintCaused known word before after (if told then Ok else No) →
    Wrote (IsLinted known word before.held told) before after
by_status known word before after true c = c
by_status known word before after false c = c

pub lints : (known : List (List ℕ)) (word : List ℕ) (before after : Told) (status : Status) → LintCaused known word before after status → Lints known word before after status
lints known word before after status c = λ files source told e h s.
    let w = by_status known word before after told (subst (LintCaused known word before after) s c) in
    let k : IsLinted known word (Some files) told w.text = subst (λ x. IsLinted known word x told w.text) e w.is in
    let o = one_source known usual_cycles files word k.source source k.has h in (
      subst (λ (x : Source). told ≡ is_yes (verdict x.names (texts_of x.roles))) o k.yes_is,
      w.written ∙ ap (grown before.written) (subst (λ (x : Source). w.text ≡ verdict_text x.names (verdict x.names (texts_of x.roles))) o k.text),
    )

not_here : (known : List (List ℕ)) (word : List ℕ) (before after : Told) (status : Status) (files : List Filed) → before.held ≡ Some files →
    ((s : Status) → Surely (λ b a s. FirstRefused known usual_cycles (Some files) word b a s) s → ⊥) → (Rose before.shelf_faults after.shelf_faults → ⊥) →
    (status ≡ Memory → ⊥) → FirstRefused known usual_cycles before.held word before.shelf_faults after.shelf_faults status → ⊥
not_here known word before after status files e n f m r = n status (record {
  before = before.shelf_faults;
  after = after.shelf_faults;
  no_fault = f;
  no_lack = m;
  is = subst (λ held. FirstRefused known usual_cycles held word before.shelf_faults after.shelf_faults status) e r;
})

pub complete_lint : (known : List (List ℕ)) (word : List ℕ) (before after : Told) (status : Status) → LintCaused known word before after status →
    IsLintComplete known word before after status
complete_lint known word before after Ok k files e n f g = inl refl
complete_lint known word before after No k files e n f g = inr (inl refl)
complete_lint known word before after Usage k files e n f g = absurd k
complete_lint known word before after (Missing lacked) k files e n f g = absurd (not_here known word before after (Missing lacked) files e n f (λ q. cc) k.why)
complete_lint known word before after ReadFault k files e n f g = absurd (not_here known word before after ReadFault files e n f (λ q. cc) k.why)
complete_lint known word before after WriteFault k files e n f g = absurd (g k.rose)
complete_lint known word before after (Refused file place why) k files e n f g =
    absurd (not_here known word before after (Refused file place why) files e n f (λ q. cc) k.why)
complete_lint known word before after (Limit quantity count) k files e n f g =
    absurd (not_here known word before after (Limit quantity count) files e n f (λ q. cc) k.why)
complete_lint known word before after Budget k files e n f g = absurd k
complete_lint known word before after Memory k files e n f g = inr (inr refl)
complete_lint known word before after DiskFault k files e n f g = absurd k
