-- What becomes of a run that is recorded.
use Rattle.std.proofs.Common.{ℕ, ◌≡◌, ◌≢◌, ◌⊎◌, inl, inr, Bool, true, false, List, ◌++◌, Option, Some, refl, ap, sym, ◌∙◌, subst, arith}
use Rattle.std.specs.Prelude.{Result, Ok as Yes, Err as Refusal, MatchResult}
use Rattle.std.proofs.lemmas.List.{append_cancel_left}
use Rattle.asl_term.specs.declared.syntax.Filed.{Filed}
use Rattle.asl_cycle.specs.Agent.{agent_kind}
use Rattle.mas_io.specs.Causes.{Rose}
use Rattle.mas_io.specs.Sink.{grown}
use Rattle.mas_io.specs.Told.{Told, IsUnwritten}
use Rattle.mas_io.specs.Writing.{Wrote, IsCut}
use Rattle.mas_record_journal.specs.Journals.{recovered_image}
use Rattle.mas_report_schedule.specs.Schedule.{printed}
use Rattle.mas_report.specs.declared.options.Options.{Options}
use Rattle.mas_record_run.specs.declared.fault.RecordFault.{RecordFault}
use Rattle.mas_record_run.specs.declared.fault.RecordFault.TheVariants as fault
use Rattle.mas_report.specs.declared.output.Output.{Output}
use Rattle.mas_top_files.specs.declared.sources.Source.{Source}
use Rattle.mas_top_status.specs.declared.status.Status.{Status}
use Rattle.mas_top_status.specs.declared.status.Status.TheVariants.{Ok, No, Usage, Missing, ReadFault, WriteFault, Refused, Limit, Budget, Memory, DiskFault}
use Rattle.mas_top_files.specs.Known.{known}
use Rattle.mas_top_files.specs.Sources.{HasSource, FirstRefused, AreRefused}
use Rattle.mas_top_status.specs.Statuses.{whole}
use Rattle.mas_top_files.proofs.Refusing.{refuses}
use Rattle.mas_world.specs.Worlds.{Used}
use Rattle.mas_top_record.specs.declared.keep.Keeping.{Keeping}
use Rattle.mas_top_record.specs.declared.keep.Keeping.TheVariants.{Anew, On}
use Rattle.mas_top_record.specs.Keeping.{IsKept, KeepCause, fault_status, KeepRefused}
use Rattle.mas_top.specs.Caused.{ForFiles}
use Rattle.mas_top.specs.Headline.{IsHeadline}
use Rattle.mas_top_opening.specs.Opening.{Setup, setup, opening}
use Rattle.mas_top.specs.Recording.{Recorded, wanted_of, Lent, before_of, after_of, IsLeft, IsRecordedReport, RecordRefused, AnswerRefused}
use Rattle.mas_top.specs.Recording.{RecordCaused, KeepsSchedule, KeepsPrinted, CanGoOn, IsRecordComplete}
use Rattle.mas_top.specs.Runs.{given, HasGiven, NoneRefused}
use Rattle.mas_top.specs.Ways.{way_of}
use Rattle.mas_top.proofs.Caused.{file_refuses}
use Rattle.mas_top.proofs.Drawn.{put, not_refused_here}

module _ (l : Lent) where
  -- ---- from the source and the file

  recorded : (o : Options) (objects : List Used) (r : Recorded) (held : Option (List Filed)) (source : Source) (spent : Bool) (w : List ℕ) →
      HasSource (known objects) o.cycles held r.project source →
      IsKept agent_kind o (opening (setup o objects) source) r.keeping r.file (before_of l) (after_of l) spent w →
      ForFiles (IsRecordedReport l (setup o objects) r) (setup o objects) held (wanted_of r) spent w
  recorded o objects r held source spent w h k = record { given = given source (way_of r.workers); has = record { source = h; way = refl }; is = k }

  -- the cause of a fault of the disk
  rose_by : (u : Setup) (r : Recorded) (source : Source) (keeping : Keeping) (f : RecordFault) → DiskFault ≡ fault_status r.file f →
      KeepCause agent_kind (opening u source) keeping r.file (before_of l) (after_of l) f → Rose (before_of l).faults (after_of l).faults
  rose_by u r source keeping fault.Memory e h = absurd cc
  rose_by u r source Anew fault.Disk e h = h
  rose_by u r source On fault.Disk e h = h
  rose_by u r source keeping fault.Missing e h = absurd cc
  rose_by u r source keeping fault.NoHeader e h = absurd cc
  rose_by u r source keeping fault.TooLong e h = absurd cc
  rose_by u r source keeping (fault.Illegal place) e h = absurd cc

  not_recorded : (o : Options) (objects : List Used) (r : Recorded) (held : Option (List Filed)) (source : Source) (before after : ℕ) (status : Status) →
      HasSource (known objects) o.cycles held r.project source →
      KeepRefused agent_kind (opening (setup o objects) source) r.keeping r.file (before_of l) (after_of l) status →
      AnswerRefused l (setup o objects) r held before after status
  not_recorded o objects r held source before after Ok h k = inr (record { source = source; has = h; why = k })
  not_recorded o objects r held source before after No h k = inr (record { source = source; has = h; why = k })
  not_recorded o objects r held source before after Usage h k = inr (record { source = source; has = h; why = k })
  not_recorded o objects r held source before after (Missing lacked) h k = inr (record { source = source; has = h; why = k })
  not_recorded o objects r held source before after ReadFault h k = inr (record { source = source; has = h; why = k })
  not_recorded o objects r held source before after WriteFault h k = inr (record { source = source; has = h; why = k })
  not_recorded o objects r held source before after (Refused file place why) h k = inr (record { source = source; has = h; why = k })
  not_recorded o objects r held source before after (Limit quantity count) h k = inr (record { source = source; has = h; why = k })
  not_recorded o objects r held source before after Budget h k = inr (record { source = source; has = h; why = k })
  not_recorded o objects r held source before after Memory h k = tt
  not_recorded o objects r held source before after DiskFault h k = rose_by (setup o objects) r source r.keeping k.why k.status_is k.is

  never : {A : Type 0} → false ≡ true → A
  never e = absurd cc

  unread : (o : Options) (objects : List Used) (r : Recorded) (held : Option (List Filed)) (before after : ℕ) (status : Status) →
      FirstRefused (known objects) o.cycles held r.project before after status → IsLeft l → RecordRefused l (setup o objects) r held before after status
  unread o objects r held before after status h e = inl (record { why = inl h; left = e })

  -- a file of the project that is refused
  pub no_project : (o : Options) (objects : List Used) (r : Recorded) (held : Option (List Filed)) (before after : ℕ) (status : Status) → IsLeft l →
      AreRefused (known objects) o.cycles held r.project before after status → AnswerRefused l (setup o objects) r held before after status
  no_project o objects r held before after Ok e h = unread o objects r held before after Ok h e
  no_project o objects r held before after No e h = unread o objects r held before after No h e
  no_project o objects r held before after Usage e h = unread o objects r held before after Usage h e
  no_project o objects r held before after (Missing lacked) e h = unread o objects r held before after (Missing lacked) h e
  no_project o objects r held before after ReadFault e h = unread o objects r held before after ReadFault h e
  no_project o objects r held before after WriteFault e h = unread o objects r held before after WriteFault h e
  no_project o objects r held before after (Refused file place why) e h = unread o objects r held before after (Refused file place why) h e
  no_project o objects r held before after (Limit quantity count) e h = unread o objects r held before after (Limit quantity count) h e
  no_project o objects r held before after Budget e h = unread o objects r held before after Budget h e
  no_project o objects r held before after Memory e h = tt
  no_project o objects r held before after DiskFault e h =
      never (file_refuses (setup o objects) held (wanted_of r) before after DiskFault (inl h))

  -- what the run of a source in a file comes to, for the names that are asked for
  pub answered : (o : Options) (objects : List Used) (r : Recorded) (held : Option (List Filed)) (source : Source) (before after : ℕ) (word file : List ℕ)
      (result : Result Output Status) → word ≡ r.project → file ≡ r.file → HasSource (known objects) o.cycles held word source →
      MatchResult result (λ w. IsKept agent_kind o (opening (setup o objects) source) r.keeping file (before_of l) (after_of l) w.spent w.text)
      (KeepRefused agent_kind (opening (setup o objects) source) r.keeping file (before_of l) (after_of l)) →
      MatchResult result (λ w. ForFiles (IsRecordedReport l (setup o objects) r) (setup o objects) held (wanted_of r) w.spent w.text)
      (AnswerRefused l (setup o objects) r held before after)
  answered o objects r held source before after word file (Yes w) e f h k =
      recorded o objects r held source w.spent w.text (subst (λ x. HasSource (known objects) o.cycles held x source) e h)
      (subst (λ x. IsKept agent_kind o (opening (setup o objects) source) r.keeping x (before_of l) (after_of l) w.spent w.text) f k)
  answered o objects r held source before after word file (Refusal status) e f h k =
      not_recorded o objects r held source before after status (subst (λ x. HasSource (known objects) o.cycles held x source) e h)
      (subst (λ x. KeepRefused agent_kind (opening (setup o objects) source) r.keeping x (before_of l) (after_of l) status) f k)

  -- ---- what is refused

  keep_refuses : (file : List ℕ) (f : RecordFault) → (refuses (fault_status file f) ≡ true) ⊎ (fault_status file f ≡ DiskFault)
  keep_refuses file fault.Memory = inl refl
  keep_refuses file fault.Disk = inr refl
  keep_refuses file fault.Missing = inl refl
  keep_refuses file fault.NoHeader = inl refl
  keep_refuses file fault.TooLong = inl refl
  keep_refuses file (fault.Illegal place) = inl refl

  record_refuses : (u : Setup) (r : Recorded) (held : Option (List Filed)) (before after : ℕ) (status : Status) →
      RecordRefused l u r held before after status → (refuses status ≡ true) ⊎ (status ≡ DiskFault)
  record_refuses u r held before after status (inl p) = inl (file_refuses u held (wanted_of r) before after status p.why)
  record_refuses u r held before after status (inr j) =
      subst (λ s. (refuses s ≡ true) ⊎ (s ≡ DiskFault)) (sym j.why.status_is) (keep_refuses r.file j.why.why)

  neither : {A : Type 0} (s : Status) → refuses s ≡ false → s ≢ DiskFault → (refuses s ≡ true) ⊎ (s ≡ DiskFault) → A
  neither s f n (inl e) = never (sym f ∙ e)
  neither s f n (inr e) = absurd (n e)

  -- a refusal, where nothing was written
  pub refused_record : (u : Setup) (r : Recorded) (before after : Told) (status : Status) →
      AnswerRefused l u r before.held before.shelf_faults after.shelf_faults status → IsUnwritten before after → RecordCaused l u r before after status
  refused_record u r before after Ok h n = neither Ok refl (λ e. cc) (record_refuses u r before.held before.shelf_faults after.shelf_faults Ok h)
  refused_record u r before after No h n = neither No refl (λ e. cc) (record_refuses u r before.held before.shelf_faults after.shelf_faults No h)
  refused_record u r before after Usage h n = neither Usage refl (λ e. cc) (record_refuses u r before.held before.shelf_faults after.shelf_faults Usage h)
  refused_record u r before after (Missing lacked) h n = record { why = h; unwritten = n }
  refused_record u r before after ReadFault h n = record { why = h; unwritten = n }
  refused_record u r before after WriteFault h n = neither WriteFault refl (λ e. cc) (record_refuses u r before.held before.shelf_faults after.shelf_faults WriteFault h)
  refused_record u r before after (Refused file place why) h n = record { why = h; unwritten = n }
  refused_record u r before after (Limit quantity count) h n = record { why = h; unwritten = n }
  refused_record u r before after Budget h n = neither Budget refl (λ e. cc) (record_refuses u r before.held before.shelf_faults after.shelf_faults Budget h)
  refused_record u r before after Memory h n = n
  refused_record u r before after DiskFault h n = record { rose = h; unwritten = n }

  -- ---- what is written

  written_by : (u : Setup) (r : Recorded) (before after : Told) (spent : Bool) (w : List ℕ) →
      ForFiles (IsRecordedReport l u r) u before.held (wanted_of r) spent w → after.written ≡ grown before.written w → RecordCaused l u r before after (whole spent)
  written_by u r before after true w g e = record { text = w; is = g; written = e }
  written_by u r before after false w g e = record { text = w; is = g; written = e }

  pub written_record : (u : Setup) (r : Recorded) (before after : Told) (status : Status) (spent : Bool) (w : List ℕ) → status ≡ whole spent →
      ForFiles (IsRecordedReport l u r) u before.held (wanted_of r) spent w → after.written ≡ grown before.written w → RecordCaused l u r before after status
  written_record u r before after status spent w s g e = subst (RecordCaused l u r before after) (sym s) (written_by u r before after spent w g e)

  pub cut_record : (u : Setup) (r : Recorded) (before after : Told) (spent : Bool) (w : List ℕ) →
      ForFiles (IsRecordedReport l u r) u before.held (wanted_of r) spent w → Rose before.sink_faults after.sink_faults →
      IsCut before.written after.written w → RecordCaused l u r before after WriteFault
  cut_record u r before after spent w g rose c = record { rose = rose; text = w; is = record { spent = spent; gives = g }; cut = c }

  -- ---- what follows

  wrote_by : (u : Setup) (r : Recorded) (before after : Told) (spent : Bool) → RecordCaused l u r before after (whole spent) →
      Wrote (ForFiles (IsRecordedReport l u r) u before.held (wanted_of r) spent) before after
  wrote_by u r before after true c = c
  wrote_by u r before after false c = c

  wrote : (u : Setup) (r : Recorded) (before after : Told) (status : Status) (spent : Bool) → status ≡ whole spent → RecordCaused l u r before after status →
      Wrote (ForFiles (IsRecordedReport l u r) u before.held (wanted_of r) spent) before after
  wrote u r before after status spent s c = wrote_by u r before after spent (subst (RecordCaused l u r before after) s c)

  pub headline_record : (u : Setup) (r : Recorded) (before after : Told) (status : Status) → RecordCaused l u r before after status →
      IsHeadline u (wanted_of r) before after status
  headline_record u r before after status c spent files old new s h b a =
      let w = wrote u r before after status spent s c in
      record {
        given = w.is.given;
        described = subst (λ held. HasGiven u held (wanted_of r) w.is.given) h w.is.has;
        text = w.text;
        written = put before.written after.written old new w.text b a w.written;
        report = w.is.is.report;
      }

  pub keeps_printed : (u : Setup) (r : Recorded) (before after : Told) (status : Status) → RecordCaused l u r before after status → KeepsPrinted l r before after status
  keeps_printed u r before after status c spent old text s b a =
      let w = wrote u r before after status spent s c in
      let same : text ≡ w.text = append_cancel_left old text w.text (put before.written after.written old (old ++ text) w.text b a w.written) in
      subst (λ t. KeepsSchedule l r (printed t)) (sym same) (record { all = w.is.is.all; gone_on = w.is.is.gone_on })

  -- ---- completeness

  journal_not : (u : Setup) (r : Recorded) (files : List Filed) (source : Source) (keeping : Keeping) (f : RecordFault) → CanGoOn l u r keeping files →
      HasSource (known u.objects) u.options.cycles (Some files) r.project source → fault_status r.file f ≢ Memory →
      (Rose (before_of l).faults (after_of l).faults → ⊥) → KeepCause agent_kind (opening u source) keeping r.file (before_of l) (after_of l) f → ⊥
  journal_not u r files source keeping fault.Memory j h n d c = n refl
  journal_not u r files source Anew fault.Disk j h n d c = d c
  journal_not u r files source Anew fault.Missing j h n d c = c
  journal_not u r files source Anew fault.NoHeader j h n d c = c
  journal_not u r files source Anew fault.TooLong j h n d c = c
  journal_not u r files source Anew (fault.Illegal place) j h n d c = c
  journal_not u r files source On fault.Disk j h n d c = d c
  journal_not u r files source On fault.Missing j h n d c = j.recovers (ap recovered_image (c.missing j.told))
  journal_not u r files source On fault.NoHeader j h n d c = j.recovers (c.nothing j.told)
  journal_not u r files source On fault.TooLong j h n d c = let short = j.short in let long = c.long j.told in omega arith
  journal_not u r files source On (fault.Illegal place) j h n d c = j.legal source c.turns place h (c.tells j.told) c.stuck

  -- a refusal of which none is there
  not_here : (u : Setup) (r : Recorded) (before after : Told) (status : Status) (files : List Filed) → before.held ≡ Some files →
      NoneRefused u files (wanted_of r) → CanGoOn l u r r.keeping files → (Rose before.shelf_faults after.shelf_faults → ⊥) → (Rose (before_of l).faults (after_of l).faults → ⊥) → status ≢ Memory →
      RecordRefused l u r before.held before.shelf_faults after.shelf_faults status → ⊥
  not_here u r before after status files e n g f d m (inl p) = not_refused_here u (wanted_of r) before after status files e n f m p.why
  not_here u r before after status files e n g f d m (inr j) =
      journal_not u r files j.source r.keeping j.why.why g
      (subst (λ held. HasSource (known u.objects) u.options.cycles held r.project j.source) e j.has) (λ q. m (j.why.status_is ∙ q)) d j.why.is

  pub complete_record : (u : Setup) (r : Recorded) (before after : Told) (status : Status) → RecordCaused l u r before after status →
      IsRecordComplete l u r before after status
  complete_record u r before after Ok c files e n g f k d = inl (false, refl)
  complete_record u r before after No c files e n g f k d = absurd c
  complete_record u r before after Usage c files e n g f k d = absurd c
  complete_record u r before after (Missing lacked) c files e n g f k d = absurd (not_here u r before after (Missing lacked) files e n g f d (λ q. cc) c.why)
  complete_record u r before after ReadFault c files e n g f k d = absurd (not_here u r before after ReadFault files e n g f d (λ q. cc) c.why)
  complete_record u r before after WriteFault c files e n g f k d = absurd (k c.rose)
  complete_record u r before after (Refused file place why) c files e n g f k d =
      absurd (not_here u r before after (Refused file place why) files e n g f d (λ q. cc) c.why)
  complete_record u r before after (Limit quantity count) c files e n g f k d =
      absurd (not_here u r before after (Limit quantity count) files e n g f d (λ q. cc) c.why)
  complete_record u r before after Budget c files e n g f k d = inl (true, refl)
  complete_record u r before after Memory c files e n g f k d = inr refl
  complete_record u r before after DiskFault c files e n g f k d = absurd (d c.rose)
