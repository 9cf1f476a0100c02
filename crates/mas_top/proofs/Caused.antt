-- What becomes of the files that are asked for.
use Rattle.std.proofs.Common.{ℕ, ◌≡◌, inl, inr, Bool, true, false, List, Option, sym, subst, refl}
use Rattle.asl_term.specs.declared.syntax.Filed.{Filed}
use Rattle.mas_core.specs.declared.replay.PlayFault.TheVariants as play
use Rattle.mas_report_schedule.specs.declared.reading.LineFault.TheVariants as line
use Rattle.mas_io.specs.Causes.{Rose}
use Rattle.mas_io.specs.Sink.{grown}
use Rattle.mas_io.specs.Told.{Told, IsUnwritten}
use Rattle.mas_io.specs.Writing.{IsCut}
use Rattle.mas_top_files.specs.declared.sources.Source.{Source}
use Rattle.mas_top_status.specs.declared.status.Status.{Status}
use Rattle.mas_top_status.specs.declared.status.Status.TheVariants.{Ok, No, Usage, Missing, ReadFault, WriteFault, Refused, Limit, Budget, Memory, DiskFault}
use Rattle.mas_top_status.specs.Statuses.{whole}
use Rattle.mas_top_files.proofs.Refusing.{refuses, Tells, no_report, first_by}
use Rattle.mas_top_opening.specs.Opening.{Setup}
use Rattle.mas_top_files.specs.Known.{known}
use Rattle.mas_top.specs.Runs.{Wanted, schedules, FileRefused, GivenRefused}
use Rattle.mas_top.specs.declared.playing.ScheduleFault.TheVariants as fault
use Rattle.mas_top.specs.Caused.{Texts, ForFiles, FileCaused}

-- ---- what is refused

schedules_tell : (u : Setup) (source : Source) → Tells (schedules u source)
schedules_tell u source name (fault.Line line.Memory) = refl
schedules_tell u source name (fault.Line (line.BadLine number)) = refl
schedules_tell u source name (fault.Play play.Memory) = refl
schedules_tell u source name (fault.Play (play.Illegal place)) = refl
schedules_tell u source name (fault.Play (play.Unended agent)) = refl

pub file_refuses : (u : Setup) (held : Option (List Filed)) (wanted : Wanted) (before after : ℕ) (status : Status) → FileRefused u held wanted before after status →
    refuses status ≡ true
file_refuses u held wanted before after status (inl r) =
    first_by (λ s. refuses s ≡ true) (known u.objects) u.options.cycles held wanted.project before after status
    (λ r t name s. no_report r t name held before after s) (λ count. refl) r
file_refuses u held wanted before after status (inr r) = no_report (schedules u r.source) (schedules_tell u r.source) r.name held before after status r.why

refused_by : (Is : Texts) (u : Setup) (wanted : Wanted) (before after : Told) (status : Status) → refuses status ≡ true →
    FileRefused u before.held wanted before.shelf_faults after.shelf_faults status → IsUnwritten before after → FileCaused Is u wanted before after status
refused_by Is u wanted before after Ok e r n = absurd cc
refused_by Is u wanted before after No e r n = absurd cc
refused_by Is u wanted before after Usage e r n = absurd cc
refused_by Is u wanted before after (Missing lacked) e r n = record { why = r; unwritten = n }
refused_by Is u wanted before after ReadFault e r n = record { why = r; unwritten = n }
refused_by Is u wanted before after WriteFault e r n = absurd cc
refused_by Is u wanted before after (Refused file place why) e r n = record { why = r; unwritten = n }
refused_by Is u wanted before after (Limit quantity count) e r n = record { why = r; unwritten = n }
refused_by Is u wanted before after Budget e r n = absurd cc
refused_by Is u wanted before after Memory e r n = n
refused_by Is u wanted before after DiskFault e r n = absurd cc

one_refused : (Is : Texts) (u : Setup) (wanted : Wanted) (before after : Told) (status : Status) →
    FileRefused u before.held wanted before.shelf_faults after.shelf_faults status → IsUnwritten before after → FileCaused Is u wanted before after status
one_refused Is u wanted before after status r n =
    refused_by Is u wanted before after status (file_refuses u before.held wanted before.shelf_faults after.shelf_faults status r) r n

-- files of which one is refused, where nothing was written
pub refused_file : (Is : Texts) (u : Setup) (wanted : Wanted) (before after : Told) (status : Status) →
    GivenRefused u before.held wanted before.shelf_faults after.shelf_faults status → IsUnwritten before after → FileCaused Is u wanted before after status
refused_file Is u wanted before after Ok r n = one_refused Is u wanted before after Ok r n
refused_file Is u wanted before after No r n = one_refused Is u wanted before after No r n
refused_file Is u wanted before after Usage r n = one_refused Is u wanted before after Usage r n
refused_file Is u wanted before after (Missing lacked) r n = one_refused Is u wanted before after (Missing lacked) r n
refused_file Is u wanted before after ReadFault r n = one_refused Is u wanted before after ReadFault r n
refused_file Is u wanted before after WriteFault r n = one_refused Is u wanted before after WriteFault r n
refused_file Is u wanted before after (Refused file place why) r n = one_refused Is u wanted before after (Refused file place why) r n
refused_file Is u wanted before after (Limit quantity count) r n = one_refused Is u wanted before after (Limit quantity count) r n
refused_file Is u wanted before after Budget r n = one_refused Is u wanted before after Budget r n
refused_file Is u wanted before after Memory r n = n
refused_file Is u wanted before after DiskFault r n = one_refused Is u wanted before after DiskFault r n

-- ---- what is written

-- a text that was written whole
written_by : (Is : Texts) (u : Setup) (wanted : Wanted) (before after : Told) (spent : Bool) (w : List ℕ) → ForFiles Is u before.held wanted spent w →
    after.written ≡ grown before.written w → FileCaused Is u wanted before after (whole spent)
written_by Is u wanted before after true w g e = record { text = w; is = g; written = e }
written_by Is u wanted before after false w g e = record { text = w; is = g; written = e }

pub written_file : (Is : Texts) (u : Setup) (wanted : Wanted) (before after : Told) (status : Status) (spent : Bool) (w : List ℕ) → status ≡ whole spent →
    ForFiles Is u before.held wanted spent w → after.written ≡ grown before.written w → FileCaused Is u wanted before after status
written_file Is u wanted before after status spent w s g e = subst (λ x. FileCaused Is u wanted before after x) (sym s) (written_by Is u wanted before after spent w g e)

-- a text of which a prefix was written
pub cut_file : (Is : Texts) (u : Setup) (wanted : Wanted) (before after : Told) (spent : Bool) (w : List ℕ) → ForFiles Is u before.held wanted spent w →
    Rose before.sink_faults after.sink_faults → IsCut before.written after.written w → FileCaused Is u wanted before after WriteFault
cut_file Is u wanted before after spent w g r c = record { rose = r; text = w; is = record { spent = spent; gives = g }; cut = c }
