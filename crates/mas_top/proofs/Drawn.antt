-- The promises of the top call, from the cause of each status.
use Rattle.std.proofs.Common.{ℕ, ◌≡◌, inl, inr, Bool, true, false, List, ◌++◌, Option, Some, refl, ap, sym, ◌∙◌, subst}
use Rattle.std.proofs.lemmas.List.{append_cancel_left}
use Rattle.asl_term.specs.declared.syntax.Filed.{Filed}
use Rattle.asl_cycle.specs.Agent.{agent_kind}
use Rattle.mas_io.specs.Sink.{grown}
use Rattle.mas_io.specs.Told.{Told}
use Rattle.mas_io.specs.Writing.{Wrote}
use Rattle.mas_io.specs.Causes.{Rose}
use Rattle.mas_top_files.specs.declared.sources.Source.{Source}
use Rattle.mas_top_status.specs.declared.status.Status.{Status}
use Rattle.mas_top_status.specs.declared.status.Status.TheVariants.{Ok, No, Usage, Missing, ReadFault, WriteFault, Refused, Limit, Budget, Memory, DiskFault}
use Rattle.mas_top_status.specs.Statuses.{whole}
use Rattle.mas_top_files.specs.Files.{HasFile, IsRefusal, most_report_bytes}
use Rattle.mas_top_files.specs.Known.{known}
use Rattle.mas_top_files.specs.Sources.{FirstRefused}
use Rattle.mas_top_files.proofs.Unless.{unless}
use Rattle.mas_top_files.proofs.Single.{with_file, one_source, not_refused, not_refused_file}
use Rattle.mas_top_opening.specs.Opening.{Setup, opening}
use Rattle.mas_top.specs.Runs.{How, by_workers, by_file, Wanted, Given, given, IsFollowed, HasWay, HasGiven, schedules, FileRefused, NoneRefused}
use Rattle.mas_top.specs.Ways.{Way, alone, shared, along, IsScheduled}
use Rattle.mas_top.specs.Caused.{Texts, ForFiles, FileCaused}
use Rattle.mas_top.specs.Headline.{IsRunReportOf, IsHeadline, PrintsSchedule, IsComplete}
use Rattle.mas_report_schedule.specs.Schedule.{printed}
use Rattle.mas_top.proofs.Followed.{file_same, one_schedule, followed_accepted}

some_same : {A : Type 0} {x y : A} → Some x ≡ Some y → x ≡ y
some_same e = cc

-- what the sink tells of the text
pub put : (a b : Option (List ℕ)) (old new w : List ℕ) → a ≡ Some old → b ≡ Some new → b ≡ grown a w → new ≡ old ++ w
put a b old new w e f g = some_same (sym f ∙ g ∙ ap (λ x. grown x w) e)

-- ---- for the files that are asked for

wrote_by : (Is : Texts) (u : Setup) (wanted : Wanted) (before after : Told) (spent : Bool) → FileCaused Is u wanted before after (whole spent) →
    Wrote (ForFiles Is u before.held wanted spent) before after
wrote_by Is u wanted before after true c = c
wrote_by Is u wanted before after false c = c

wrote : (Is : Texts) (u : Setup) (wanted : Wanted) (before after : Told) (status : Status) (spent : Bool) → status ≡ whole spent → FileCaused Is u wanted before after status →
    Wrote (ForFiles Is u before.held wanted spent) before after
wrote Is u wanted before after status spent s c = wrote_by Is u wanted before after spent (subst (λ x. FileCaused Is u wanted before after x) s c)

pub headline_file : (u : Setup) (wanted : Wanted) (before after : Told) (status : Status) → FileCaused (IsRunReportOf u) u wanted before after status →
    IsHeadline u wanted before after status
headline_file u wanted before after status c spent files old new s h b a =
    let w = wrote (IsRunReportOf u) u wanted before after status spent s c in
    record {
      given = w.is.given;
      described = subst (λ held. HasGiven u held wanted w.is.given) h w.is.has;
      text = w.text;
      written = put before.written after.written old new w.text b a w.written;
      report = w.is.is.report;
    }

-- ---- the files describe one thing

same_way : (u : Setup) (files : List Filed) (source : Source) (how : How) (a b : Way) → HasWay u (Some files) source how a → HasWay u (Some files) source how b → a ≡ b
same_way u files source (by_workers count) a b h g = h ∙ sym g
same_way u files source (by_file name) alone b h g = absurd h
same_way u files source (by_file name) shared b h g = absurd h
same_way u files source (by_file name) (along x) alone h g = absurd g
same_way u files source (by_file name) (along x) shared h g = absurd g
same_way u files source (by_file name) (along x) (along y) h g =
    let w = with_file most_report_bytes files name (λ b. IsFollowed u source b x) (λ b. IsFollowed u source b y) h g in
    ap along (one_schedule h.bytes x y h.are.is w.is)

same_given : (u : Setup) (files : List Filed) (wanted : Wanted) (a b : Given) → HasGiven u (Some files) wanted a → HasGiven u (Some files) wanted b → a ≡ b
same_given u files wanted a b h g =
    let e = one_source (known u.objects) u.options.cycles files wanted.project a.source b.source h.source g.source in
    let s = subst (λ x. HasWay u (Some files) x wanted.how b.way) (sym e) g.way in
    ap (λ x. given x a.way) e ∙ ap (given b.source) (same_way u files a.source wanted.how a.way b.way h.way s)

pub schedule_file : (u : Setup) (wanted : Wanted) (before after : Told) (status : Status) → FileCaused (IsRunReportOf u) u wanted before after status →
    PrintsSchedule u wanted before after status
schedule_file u wanted before after status c g text p =
    let w = wrote (IsRunReportOf u) u wanted before after status p.spent p.status_is c in
    let has : HasGiven u (Some p.files) wanted w.is.given = subst (λ held. HasGiven u held wanted w.is.given) p.held w.is.has in
    let same : w.is.given ≡ g = same_given u p.files wanted w.is.given g has p.described in
    let all : text ≡ w.text = append_cancel_left p.old text w.text (put before.written after.written p.old (p.old ++ text) w.text p.old_is p.new_is w.written) in
    subst (λ t. IsScheduled agent_kind (opening u g.source) g.way (printed t)) (sym all)
    (subst (λ x. IsScheduled agent_kind (opening u x.source) x.way (printed w.text)) same w.is.is.scheduled)

-- ---- files that describe something are not refused

schedule_not : (u : Setup) (files : List Filed) (source : Source) (name : List ℕ) (how : How) (way : Way) (before after : ℕ) (status : Status) →
    how ≡ by_file name → HasWay u (Some files) source how way → (Rose before after → ⊥) →
    IsRefusal (schedules u source) name (Some files) before after status → status ≡ Memory
schedule_not u files source name (by_workers count) way before after status e h f c = absurd cc
schedule_not u files source name (by_file n) alone before after status e h f c = absurd h
schedule_not u files source name (by_file n) shared before after status e h f c = absurd h
schedule_not u files source name (by_file n) (along names) before after status e h f c =
    let g : HasFile most_report_bytes (Some files) name (λ x. IsFollowed u source x names) =
    subst (λ x. HasFile most_report_bytes (Some files) x (λ y. IsFollowed u source y names)) (file_same n name e) h in
    not_refused_file (schedules u source) files name before after status (λ x. IsFollowed u source x names) g (followed_accepted u source g.bytes names g.are) f c

pub file_not : (u : Setup) (files : List Filed) (wanted : Wanted) (g : Given) (before after : ℕ) (status : Status) → HasGiven u (Some files) wanted g →
    (Rose before after → ⊥) → FileRefused u (Some files) wanted before after status → status ≡ Memory
file_not u files wanted g before after status h f (inl r) =
    not_refused (known u.objects) u.options.cycles files wanted.project g.source before after status h.source f (unless (FirstRefused (known u.objects) u.options.cycles (Some files) wanted.project before after) status r)
file_not u files wanted g before after status h f (inr r) =
    let e = one_source (known u.objects) u.options.cycles files wanted.project g.source r.source h.source r.read in
    let s = subst (λ x. HasWay u (Some files) x wanted.how g.way) e h.way in
    schedule_not u files r.source r.name wanted.how g.way before after status r.named s f r.why

-- ---- completeness

pub not_refused_here : (u : Setup) (wanted : Wanted) (before after : Told) (status : Status) (files : List Filed) → before.held ≡ Some files → NoneRefused u files wanted →
    (Rose before.shelf_faults after.shelf_faults → ⊥) → (status ≡ Memory → ⊥) →
    FileRefused u before.held wanted before.shelf_faults after.shelf_faults status → ⊥
not_refused_here u wanted before after status files e n f m c = n status (record {
  before = before.shelf_faults;
  after = after.shelf_faults;
  no_fault = f;
  no_lack = m;
  is = subst (λ held. FileRefused u held wanted before.shelf_faults after.shelf_faults status) e c;
})

pub complete_file : (Is : Texts) (u : Setup) (wanted : Wanted) (before after : Told) (status : Status) → FileCaused Is u wanted before after status →
    IsComplete u wanted before after status
complete_file Is u wanted before after Ok c files e n f k = inl (false, refl)
complete_file Is u wanted before after No c files e n f k = absurd c
complete_file Is u wanted before after Usage c files e n f k = absurd c
complete_file Is u wanted before after (Missing lacked) c files e n f k =
    absurd (not_refused_here u wanted before after (Missing lacked) files e n f (λ q. cc) c.why)
complete_file Is u wanted before after ReadFault c files e n f k = absurd (not_refused_here u wanted before after ReadFault files e n f (λ q. cc) c.why)
complete_file Is u wanted before after WriteFault c files e n f k = absurd (k c.rose)
complete_file Is u wanted before after (Refused file place why) c files e n f k =
    absurd (not_refused_here u wanted before after (Refused file place why) files e n f (λ q. cc) c.why)
complete_file Is u wanted before after (Limit quantity count) c files e n f k =
    absurd (not_refused_here u wanted before after (Limit quantity count) files e n f (λ q. cc) c.why)
complete_file Is u wanted before after Budget c files e n f k = inl (true, refl)
complete_file Is u wanted before after Memory c files e n f k = inr refl
complete_file Is u wanted before after DiskFault c files e n f k = absurd c
