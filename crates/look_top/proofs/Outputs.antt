-- The outputs of the commands.
use Rattle.std.proofs.Common.{◌≡◌, ◌≤◌, ℕ, Bool, false, List, Option, None, Some, inr, refl, subst, sym, arith}
use Rattle.std.specs.Prelude.{Result, Ok, Err, MatchResult}
use Rattle.asl_term.specs.declared.syntax.Filed.{Filed}
use Rattle.mas_report.specs.Limits.{defaults}
use Rattle.mas_top_files.specs.Files.{starved as unfetched}
use Rattle.mas_top_files.specs.Known.{known}
use Rattle.mas_top_files.specs.Sources.{AreRefused}
use Rattle.mas_top_status.specs.declared.status.Status.{Status}
use Rattle.mas_top_status.specs.declared.status.Status.TheVariants.{Memory}
use Rattle.mas_world.specs.Worlds.{Used}
use Rattle.look_answer.specs.declared.answer.LookFault.{LookFault}
use Rattle.look_answer.specs.declared.answer.LookFault.TheVariants.{Ended, Unfit}
use Rattle.look_answer.specs.declared.answer.Output.{Output}
use Rattle.look_answer.specs.Answers.{IsUnfit}
use Rattle.look_messages.specs.Runs.{TellsRun}
use Rattle.look_mind.specs.Drops.{IsDroppedIn, AreRefusedIn}
use Rattle.look_mind.specs.Looks.{IsLookIn}
use Rattle.look_mind.specs.declared.look.Look.{Look}
use Rattle.look_mind.specs.Own.{IsToldIn}
use Rattle.look_mind.specs.declared.changes.MindChanges.{MindChanges}
use Rattle.look_top.specs.Asked.{Asked, Dropping, Minding, help, version, places, hints, messages, mind, page, drops}
use Rattle.look_where.specs.Showing.{IsWhere, IsUnread}
use Rattle.look_top.specs.declared.ends.TheConstants.{USAGE, VERSION}
use Rattle.look_top.specs.Reports.{input_for, LackBytes, HasReport, LacksReport}
use Rattle.look_top.specs.Outputs.{AreUnread, no_report, no_project, IsTold, LacksMessages, IsSeen}
use Rattle.look_top.specs.Outputs.{TellsLook, LacksPlaces, TellsChanges, IsDrops, TellsDrops, IsOutput, Lacks, Answers}

-- ---- want of memory

bytes_lack : (held : Option (List Filed)) (word : List ℕ) (given : Option (List ℕ)) (before after : ℕ) → LackBytes held word given before after Memory
bytes_lack held word None before after = unfetched refl
bytes_lack held word (Some bytes) before after = inr refl

report_lacks : (input : Option (List ℕ)) (held : Option (List Filed)) (word : List ℕ) (before after : ℕ) → LacksReport input held word before after Memory
report_lacks input held word before after = bytes_lack held word (input_for word input) before after

none_read : (objects : List Used) (input : Option (List ℕ)) (held : Option (List Filed)) (before after : ℕ) (report project : List ℕ) →
    AreUnread objects input held before after report project Memory
none_read objects input held before after report project =
    no_report (record { start = before; end = after; begins = omega arith; ends = omega arith; is = report_lacks input held report before after })

pub lacks_memory : (objects : List Used) (input : Option (List ℕ)) (held : Option (List Filed)) (before after : ℕ) (a : Asked) →
    Lacks objects input held before after a (Ended Memory)
unfolding Lacks
lacks_memory objects input held before after help = refl
lacks_memory objects input held before after version = refl
lacks_memory objects input held before after (places project) = unfetched refl
lacks_memory objects input held before after (hints project) = tt
lacks_memory objects input held before after (messages report csv) = report_lacks input held report before after
lacks_memory objects input held before after (mind m) = none_read objects input held before after m.report m.project
lacks_memory objects input held before after (page project report) = none_read objects input held before after report project
lacks_memory objects input held before after (drops d) = none_read objects input held before after d.report d.project

-- ---- texts as they are

pub is_help : (objects : List Used) (input : Option (List ℕ)) (held : Option (List Filed)) (before after : ℕ) (r : Result Output LookFault) →
    MatchResult r (λ o. (o.found ≡ false) × (o.text ≡ USAGE.now)) (λ why. why ≡ Ended Memory) → Answers objects input held before after help r
unfolding IsOutput Lacks
is_help objects input held before after (Ok o) m = m
is_help objects input held before after (Err why) m = m

pub is_version : (objects : List Used) (input : Option (List ℕ)) (held : Option (List Filed)) (before after : ℕ) (r : Result Output LookFault) →
    MatchResult r (λ o. (o.found ≡ false) × (o.text ≡ VERSION.now)) (λ why. why ≡ Ended Memory) → Answers objects input held before after version r
unfolding IsOutput Lacks
is_version objects input held before after (Ok o) m = m
is_version objects input held before after (Err why) m = m

-- ---- places and hints

-- by the names of the artifacts and the text of the word
pub placed : (held : Option (List Filed)) (before after : ℕ) (names others : List (List ℕ)) (word project : List ℕ) (found : Bool) (text : List ℕ) →
    names ≡ others → word ≡ project → IsWhere names held word before after found text → IsWhere others held project before after found text
placed held before after names others word project found text n e w =
    subst (λ (x : List (List ℕ)). IsWhere x held project before after found text) n
    (subst (λ (x : List ℕ). IsWhere names held x before after found text) e w)

pub unplaced : (held : Option (List Filed)) (before after : ℕ) (word project : List ℕ) (status : Status) → word ≡ project →
    IsUnread word held before after status → IsUnread project held before after status
unplaced held before after word project status e u = subst (λ (x : List ℕ). IsUnread x held before after status) e u

pub no_places : (held : Option (List Filed)) (before after : ℕ) (project : List ℕ) (why : LookFault) → why ≡ Ended Memory →
    LacksPlaces held before after project why
no_places held before after project why e = subst (λ (x : LookFault). LacksPlaces held before after project x) (sym e) (unfetched refl)

pub is_places : (objects : List Used) (input : Option (List ℕ)) (held : Option (List Filed)) (before after : ℕ) (project : List ℕ)
    (r : Result Output LookFault) →
    MatchResult r (λ o. IsWhere (known objects) held project before after o.found o.text) (LacksPlaces held before after project) →
    Answers objects input held before after (places project) r
unfolding IsOutput Lacks
is_places objects input held before after project (Ok o) m = m
is_places objects input held before after project (Err why) m = m

pub is_hints : (objects : List Used) (input : Option (List ℕ)) (held : Option (List Filed)) (before after : ℕ) (project : List ℕ)
    (r : Result Output LookFault) → Answers objects input held before after (hints project) r
unfolding IsOutput Lacks
is_hints objects input held before after project (Ok o) = tt
is_hints objects input held before after project (Err why) = tt

-- ---- messages

pub told : (input : Option (List ℕ)) (held : Option (List Filed)) (report bytes : List ℕ) → HasReport input held report bytes → TellsRun bytes →
    IsTold input held report
told input held report bytes h t = record { bytes = bytes; has = h; tells = t }

pub untold : (input : Option (List ℕ)) (held : Option (List Filed)) (before after : ℕ) (report bytes : List ℕ) (why : LookFault) →
    HasReport input held report bytes →
    IsUnfit why → LacksMessages input held before after report why
untold input held before after report bytes (Ended status) h u =
    subst (λ (x : Status). LacksReport input held report before after x) (sym u) (report_lacks input held report before after)
untold input held before after report bytes (Unfit line) h u = (bytes, h)

pub is_messages : (objects : List Used) (input : Option (List ℕ)) (held : Option (List Filed)) (before after : ℕ) (report : List ℕ) (csv : Bool)
    (r : Result Output LookFault) →
    MatchResult r (λ o. (o.found ≡ false) × IsTold input held report) (LacksMessages input held before after report) →
    Answers objects input held before after (messages report csv) r
unfolding IsOutput Lacks
is_messages objects input held before after report csv (Ok o) m = m
is_messages objects input held before after report csv (Err why) m = m

-- ---- what is not read: the report is read first, and then the project, of which the shelf holds the same

module _ (objects : List Used) (input : Option (List ℕ)) (held : Option (List Filed)) (before after : ℕ) where
  report_first : (report project : List ℕ) (status : Status) → LacksReport input held report before after status →
      AreUnread objects input held before after report project status
  report_first report project status h = no_report (record { start = before; end = after; begins = omega arith; ends = omega arith; is = h })

  then_project : (now : Option (List Filed)) (between : ℕ) (report project : List ℕ) (status : Status) → now ≡ held → before ≤ between →
      AreRefused (known objects) defaults.cycles now project between after status → AreUnread objects input held before after report project status
  then_project now between report project status e l h = no_project (record {
    start = between;
    end = after;
    begins = l;
    ends = omega arith;
    is = subst (λ (x : Option (List Filed)). AreRefused (known objects) defaults.cycles x project between after status) e h;
  })

  pub mind_no_report : (m : Minding) (status : Status) → LacksReport input held m.report before after status →
      Lacks objects input held before after (mind m) (Ended status)
  unfolding Lacks
  mind_no_report m status h = report_first m.report m.project status h

  pub mind_no_project : (m : Minding) (now : Option (List Filed)) (between : ℕ) (status : Status) → now ≡ held → before ≤ between →
      AreRefused (known objects) defaults.cycles now m.project between after status → Lacks objects input held before after (mind m) (Ended status)
  unfolding Lacks
  mind_no_project m now between status e l h = then_project now between m.report m.project status e l h

  pub page_no_report : (project report : List ℕ) (status : Status) → LacksReport input held report before after status →
      Lacks objects input held before after (page project report) (Ended status)
  unfolding Lacks
  page_no_report project report status h = report_first report project status h

  pub page_no_project : (project report : List ℕ) (now : Option (List Filed)) (between : ℕ) (status : Status) → now ≡ held → before ≤ between →
      AreRefused (known objects) defaults.cycles now project between after status → Lacks objects input held before after (page project report) (Ended status)
  unfolding Lacks
  page_no_project project report now between status e l h = then_project now between report project status e l h

  pub drops_no_report : (d : Dropping) (status : Status) → LacksReport input held d.report before after status →
      Lacks objects input held before after (drops d) (Ended status)
  unfolding Lacks
  drops_no_report d status h = report_first d.report d.project status h

  pub drops_no_project : (d : Dropping) (now : Option (List Filed)) (between : ℕ) (status : Status) → now ≡ held → before ≤ between →
      AreRefusedIn objects now d.project between after status → Lacks objects input held before after (drops d) (Ended status)
  unfolding Lacks
  drops_no_project d now between status e l h = no_project (record {
    start = h.start;
    end = h.end;
    begins = omega (arith, l, h.begins);
    ends = h.ends;
    is = subst (λ (x : Option (List Filed)). AreRefused (known objects) defaults.cycles x d.project h.start h.end status) e h.is;
  })

-- ---- a mind

-- by the texts of the words
pub looked : (objects : List Used) (held : Option (List Filed)) (before after : ℕ) (p project bytes a agent : List ℕ) (turn : Option ℕ)
    (r : Result Look Status) →
    p ≡ project → a ≡ agent → MatchResult r (IsLookIn objects held p bytes a turn) (AreRefused (known objects) defaults.cycles held p before after) →
    MatchResult r (IsLookIn objects held project bytes agent turn) (AreRefused (known objects) defaults.cycles held project before after)
looked objects held before after p project bytes a agent turn r e f m =
    subst (λ (x : List ℕ). MatchResult r (IsLookIn objects held project bytes x turn) (AreRefused (known objects) defaults.cycles held project before after)) f
    (subst (λ (x : List ℕ). MatchResult r (IsLookIn objects held x bytes a turn) (AreRefused (known objects) defaults.cycles held x before after)) e m)

seen_so : (objects : List Used) (input : Option (List ℕ)) (held : Option (List Filed)) (before after : ℕ) (m : Minding) (bytes : List ℕ) (look : Look)
    (r : Result Output LookFault) → HasReport input held m.report bytes → IsLookIn objects held m.project bytes m.agent m.turn look → TellsLook look r →
    Answers objects input held before after (mind m) r
unfolding IsOutput Lacks
seen_so objects input held before after m bytes look (Ok o) h i t =
    (t.0, subst (λ (x : Look). IsSeen objects input held m x) t.1 (record { bytes = bytes; has = h; is = i }))
seen_so objects input held before after m bytes look (Err (Ended status)) h i t =
    subst (λ (x : Status). AreUnread objects input held before after m.report m.project x) (sym t)
    (none_read objects input held before after m.report m.project)
seen_so objects input held before after m bytes look (Err (Unfit line)) h i t =
    record { look = look; is = record { bytes = bytes; has = h; is = i }; unshown = t }

pub seen : (objects : List Used) (input : Option (List ℕ)) (held now : Option (List Filed)) (before after : ℕ) (m : Minding) (bytes : List ℕ) (look : Look)
    (r : Result Output LookFault) → now ≡ held → HasReport input held m.report bytes → IsLookIn objects now m.project bytes m.agent m.turn look →
    TellsLook look r → Answers objects input held before after (mind m) r
seen objects input held now before after m bytes look r e h i t =
    seen_so objects input held before after m bytes look r h (subst (λ (x : Option (List Filed)). IsLookIn objects x m.project bytes m.agent m.turn look) e i) t

-- ---- a page

pub changed : (objects : List Used) (held : Option (List Filed)) (before after : ℕ) (p project bytes : List ℕ) (r : Result (Option MindChanges) Status) →
    p ≡ project →
    MatchResult r (IsToldIn objects held p bytes) (AreRefused (known objects) defaults.cycles held p before after) →
    MatchResult r (IsToldIn objects held project bytes) (AreRefused (known objects) defaults.cycles held project before after)
changed objects held before after p project bytes r e m =
    subst (λ (x : List ℕ). MatchResult r (IsToldIn objects held x bytes) (AreRefused (known objects) defaults.cycles held x before after)) e m

paged_so : (objects : List Used) (input : Option (List ℕ)) (held : Option (List Filed)) (before after : ℕ) (project report bytes : List ℕ)
    (changes : Option MindChanges)
    (r : Result Output LookFault) → HasReport input held report bytes → IsToldIn objects held project bytes changes → TellsChanges bytes changes r →
    Answers objects input held before after (page project report) r
unfolding IsOutput Lacks
paged_so objects input held before after project report bytes None (Ok o) h i t = absurd t
paged_so objects input held before after project report bytes (Some changes) (Ok o) h i t =
    (t.0, record { changes = changes; is = record { bytes = bytes; has = h; is = i }; shown = t.1 })
paged_so objects input held before after project report bytes None (Err (Ended status)) h i t =
    subst (λ (x : Status). AreUnread objects input held before after report project x) (sym t) (none_read objects input held before after report project)
paged_so objects input held before after project report bytes (Some changes) (Err (Ended status)) h i t =
    subst (λ (x : Status). AreUnread objects input held before after report project x) (sym t) (none_read objects input held before after report project)
paged_so objects input held before after project report bytes changes (Err (Unfit line)) h i t =
    record { changes = changes; is = record { bytes = bytes; has = h; is = i } }

pub paged : (objects : List Used) (input : Option (List ℕ)) (held now : Option (List Filed)) (before after : ℕ) (project report bytes : List ℕ)
    (changes : Option MindChanges) (r : Result Output LookFault) → now ≡ held → HasReport input held report bytes →
    IsToldIn objects now project bytes changes → TellsChanges bytes changes r → Answers objects input held before after (page project report) r
paged objects input held now before after project report bytes changes r e h i t =
    paged_so objects input held before after project report bytes changes r h
    (subst (λ (x : Option (List Filed)). IsToldIn objects x project bytes changes) e i) t

-- ---- what a run dropped

-- by the texts of the words
pub dropped : (objects : List Used) (held : Option (List Filed)) (before after : ℕ) (p project bytes : List ℕ) (unhandled : Bool)
    (r : Result (Option Output) Status) → p ≡ project →
    MatchResult r (IsDroppedIn objects held p bytes unhandled) (AreRefusedIn objects held p before after) →
    MatchResult r (IsDroppedIn objects held project bytes unhandled) (AreRefusedIn objects held project before after)
dropped objects held before after p project bytes unhandled r e m =
    subst (λ (x : List ℕ). MatchResult r (IsDroppedIn objects held x bytes unhandled) (AreRefusedIn objects held x before after)) e m

dropped_by : (objects : List Used) (input : Option (List ℕ)) (held : Option (List Filed)) (before after : ℕ) (d : Dropping) (told : Option Output)
    (r : Result Output LookFault) → IsDrops objects input held d told → TellsDrops told r → Answers objects input held before after (drops d) r
unfolding IsOutput Lacks
dropped_by objects input held before after d None (Ok o) i t = absurd t
dropped_by objects input held before after d (Some told) (Ok o) i t =
    record { told = told; is = i; found_is = sym t.0; text_is = sym t.1 }
dropped_by objects input held before after d None (Err (Ended status)) i t =
    subst (λ (x : Status). AreUnread objects input held before after d.report d.project x) (sym t)
    (none_read objects input held before after d.report d.project)
dropped_by objects input held before after d None (Err (Unfit line)) i t = i
dropped_by objects input held before after d (Some told) (Err why) i t = absurd t

pub dropped_so : (objects : List Used) (input : Option (List ℕ)) (held now : Option (List Filed)) (before after : ℕ) (d : Dropping) (bytes : List ℕ)
    (told : Option Output) (r : Result Output LookFault) → now ≡ held → HasReport input held d.report bytes →
    IsDroppedIn objects now d.project bytes d.unhandled told → TellsDrops told r → Answers objects input held before after (drops d) r
dropped_so objects input held now before after d bytes told r e h i t =
    dropped_by objects input held before after d told r
    (record { bytes = bytes; has = h; is = subst (λ (x : Option (List Filed)). IsDroppedIn objects x d.project bytes d.unhandled told) e i }) t

-- the outputs of the commands that read one file or none
pub ruleset answered = (is_help, is_version, is_places, is_hints, is_messages)
