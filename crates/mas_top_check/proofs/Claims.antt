-- The cause of a status of `check` and of `renew`, and what follows of it.
use Rattle.std.proofs.Common.{ℕ, ◌≡◌, inl, inr, Bool, true, List, Option, None, Some, is_some, refl, ap, sym, ◌∙◌, subst}
use Rattle.asl_term.specs.declared.syntax.Filed.{Filed}
use Rattle.mas_world.specs.Worlds.{Used}
use Rattle.mas_io.specs.Causes.{Rose}
use Rattle.mas_io.specs.Sink.{grown}
use Rattle.mas_io.specs.Told.{Told, IsUnwritten}
use Rattle.mas_io.specs.Writing.{Wrote, IsCut}
use Rattle.mas_top_files.specs.declared.sources.Source.{Source}
use Rattle.mas_top_status.specs.declared.status.Status.{Status}
use Rattle.mas_top_status.specs.declared.status.Status.TheVariants.{Ok, No, Usage, Missing, ReadFault, WriteFault, Refused, Limit, Budget, Memory, DiskFault}
use Rattle.mas_top_files.specs.Files.{HasFile, most_report_bytes}
use Rattle.mas_top_files.specs.Known.{known}
use Rattle.mas_top_files.specs.Laws.{Surely}
use Rattle.mas_top_files.specs.Sources.{UnlessMemory}
use Rattle.mas_top_status.specs.Statuses.{verdict}
use Rattle.mas_top_files.proofs.Refusing.{refuses, no_report, first_by}
use Rattle.mas_top_files.proofs.Single.{with_file, one_source}
use Rattle.mas_top_check.specs.Checking.{IsJudged, answer_text, Claim, HasClaimed, IsDecided, reports, ClaimRefused, IsYes, IsNo, ClaimCaused, Judges, IsClaimComplete}

-- ---- what is refused

claim_refuses : (objects : List Used) (held : Option (List Filed)) (c : Claim) (before after : ℕ) (status : Status) → ClaimRefused objects held c before after status →
    refuses status ≡ true
claim_refuses objects held c before after status (inl r) =
    first_by (λ s. refuses s ≡ true) (known objects) 1000 held c.project before after status
    (λ r t name s. no_report r t name held before after s) (λ count. refl) r
claim_refuses objects held c before after status (inr r) = no_report reports (λ name why. absurd why) c.report held before after status r.why

refused_by : (objects : List Used) (c : Claim) (before after : Told) (status : Status) → refuses status ≡ true →
    ClaimRefused objects before.held c before.shelf_faults after.shelf_faults status → IsUnwritten before after → ClaimCaused objects c before after status
refused_by objects c before after Ok e r n = absurd cc
refused_by objects c before after No e r n = absurd cc
refused_by objects c before after Usage e r n = absurd cc
refused_by objects c before after (Missing lacked) e r n = record { why = r; unwritten = n }
refused_by objects c before after ReadFault e r n = record { why = r; unwritten = n }
refused_by objects c before after WriteFault e r n = absurd cc
refused_by objects c before after (Refused file place why) e r n = record { why = r; unwritten = n }
refused_by objects c before after (Limit quantity count) e r n = record { why = r; unwritten = n }
refused_by objects c before after Budget e r n = absurd cc
refused_by objects c before after Memory e r n = n
refused_by objects c before after DiskFault e r n = absurd cc

one_refused : (objects : List Used) (c : Claim) (before after : Told) (status : Status) →
    ClaimRefused objects before.held c before.shelf_faults after.shelf_faults status → IsUnwritten before after → ClaimCaused objects c before after status
one_refused objects c before after status r n =
    refused_by objects c before after status (claim_refuses objects before.held c before.shelf_faults after.shelf_faults status r) r n

pub refused_claim : (objects : List Used) (c : Claim) (before after : Told) (status : Status) →
    UnlessMemory (ClaimRefused objects before.held c before.shelf_faults after.shelf_faults) status → IsUnwritten before after → ClaimCaused objects c before after status
refused_claim objects c before after Ok r n = one_refused objects c before after Ok r n
refused_claim objects c before after No r n = one_refused objects c before after No r n
refused_claim objects c before after Usage r n = one_refused objects c before after Usage r n
refused_claim objects c before after (Missing lacked) r n = one_refused objects c before after (Missing lacked) r n
refused_claim objects c before after ReadFault r n = one_refused objects c before after ReadFault r n
refused_claim objects c before after WriteFault r n = one_refused objects c before after WriteFault r n
refused_claim objects c before after (Refused file place why) r n = one_refused objects c before after (Refused file place why) r n
refused_claim objects c before after (Limit quantity count) r n = one_refused objects c before after (Limit quantity count) r n
refused_claim objects c before after Budget r n = one_refused objects c before after Budget r n
refused_claim objects c before after Memory r n = n
refused_claim objects c before after DiskFault r n = one_refused objects c before after DiskFault r n

-- ---- what is written

answered_by : (objects : List Used) (c : Claim) (before after : Told) (answer : Option (List ℕ)) → IsDecided objects before.held c answer →
    after.written ≡ grown before.written (answer_text answer) → ClaimCaused objects c before after (verdict (is_some answer))
answered_by objects c before after None d e = record { text = answer_text None; is = record { decided = d; is = refl }; written = e }
answered_by objects c before after (Some w) d e = record { text = w; is = d; written = e }

pub written_answer : (objects : List Used) (c : Claim) (before after : Told) (status : Status) (answer : Option (List ℕ)) (told : Bool) (w : List ℕ) → status ≡ verdict told →
    told ≡ is_some answer → IsDecided objects before.held c answer → w ≡ answer_text answer → after.written ≡ grown before.written w → ClaimCaused objects c before after status
written_answer objects c before after status answer told w s t d e g =
    subst (ClaimCaused objects c before after) (sym (s ∙ ap verdict t)) (answered_by objects c before after answer d (g ∙ ap (grown before.written) e))

pub cut_answer : (objects : List Used) (c : Claim) (before after : Told) (answer : Option (List ℕ)) (w : List ℕ) → IsDecided objects before.held c answer →
    w ≡ answer_text answer → Rose before.sink_faults after.sink_faults → IsCut before.written after.written w → ClaimCaused objects c before after WriteFault
cut_answer objects c before after answer w d t r k = record { rose = r; text = w; is = record { answer = answer; decided = d; is = t }; cut = k }

-- ---- what follows

-- what is decided is so of the source and the bytes that the files are
so : (objects : List Used) (held : Option (List Filed)) (c : Claim) (answer : Option (List ℕ)) (files : List Filed) (source : Source) (bytes : List ℕ) →
    IsDecided objects held c answer → held ≡ Some files → HasClaimed objects (Some files) c source → HasFile most_report_bytes (Some files) c.report (λ x. x ≡ bytes) →
    IsJudged c.asks objects source bytes answer
so objects held c answer files source bytes d e h f =
    let k = subst (λ x. IsDecided objects x c answer) e d in
    let s = one_source (known objects) 1000 files c.project k.source source k.has h in
    let b = with_file most_report_bytes files c.report (λ x. IsJudged c.asks objects k.source x answer) (λ x. x ≡ bytes) k.file f in
    subst (λ x. IsJudged c.asks objects source x answer) b (subst (λ x. IsJudged c.asks objects x k.file.bytes answer) s k.file.are)

pub judged_claim : (objects : List Used) (c : Claim) (before after : Told) (status : Status) → ClaimCaused objects c before after status → Judges objects c before after status
judged_claim objects c before after status k = record {
  on_ok = λ files source bytes e h f s.
      let w : Wrote (IsYes objects before.held c) before after = subst (ClaimCaused objects c before after) s k in
      record { text = w.text; affirms = so objects before.held c (Some w.text) files source bytes w.is e h f; written = w.written };
  on_no = λ files source bytes e h f s.
      let w : Wrote (IsNo objects before.held c) before after = subst (ClaimCaused objects c before after) s k in
      record { foreign = so objects before.held c None files source bytes w.is.decided e h f; written = w.written ∙ ap (grown before.written) w.is.is };
}

not_here : (objects : List Used) (c : Claim) (before after : Told) (status : Status) (files : List Filed) → before.held ≡ Some files →
    ((s : Status) → Surely (ClaimRefused objects (Some files) c) s → ⊥) → (Rose before.shelf_faults after.shelf_faults → ⊥) → (status ≡ Memory → ⊥) →
    ClaimRefused objects before.held c before.shelf_faults after.shelf_faults status → ⊥
not_here objects c before after status files e n f m r = n status (record {
  before = before.shelf_faults;
  after = after.shelf_faults;
  no_fault = f;
  no_lack = m;
  is = subst (λ held. ClaimRefused objects held c before.shelf_faults after.shelf_faults status) e r;
})

pub complete_claim : (objects : List Used) (c : Claim) (before after : Told) (status : Status) → ClaimCaused objects c before after status →
    IsClaimComplete objects c before after status
complete_claim objects c before after Ok k files e n f g = inl refl
complete_claim objects c before after No k files e n f g = inr (inl refl)
complete_claim objects c before after Usage k files e n f g = absurd k
complete_claim objects c before after (Missing lacked) k files e n f g = absurd (not_here objects c before after (Missing lacked) files e n f (λ q. cc) k.why)
complete_claim objects c before after ReadFault k files e n f g = absurd (not_here objects c before after ReadFault files e n f (λ q. cc) k.why)
complete_claim objects c before after WriteFault k files e n f g = absurd (g k.rose)
complete_claim objects c before after (Refused file place why) k files e n f g =
    absurd (not_here objects c before after (Refused file place why) files e n f (λ q. cc) k.why)
complete_claim objects c before after (Limit quantity count) k files e n f g =
    absurd (not_here objects c before after (Limit quantity count) files e n f (λ q. cc) k.why)
complete_claim objects c before after Budget k files e n f g = absurd k
complete_claim objects c before after Memory k files e n f g = inr (inr refl)
complete_claim objects c before after DiskFault k files e n f g = absurd k
