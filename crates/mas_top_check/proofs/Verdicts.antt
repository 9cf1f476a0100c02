-- Whether bytes are the report of a run of a source.
use Rattle.std.proofs.Common.{ℕ, ◌≡◌, ◌≤◌, ◌*◌, nat_le, arith, length, inl, inr, Bool, true, false, List, Option, Some, None, sym, subst}
use Rattle.std.specs.Prelude.{Result, Ok, Err, IfOk, MatchOption}
use Rattle.std.proofs.lemmas.Grind.{common_steps}
use Rattle.asl_term.specs.declared.syntax.Filed.{Filed}
use Rattle.asl_cycle.specs.Agent.{agent_kind}
use Rattle.mas_mind.specs.Limits.{most_cycles_together}
use Rattle.mas_world.specs.Worlds.{Used}
use Rattle.mas_io.specs.declared.shelf.Fetched.TheVariants.{Bytes}
use Rattle.mas_report_schedule.specs.Schedule.{IsVersion, printed}
use Rattle.mas_report.specs.declared.options.Options.{Options}
use Rattle.mas_report.specs.Limits.{IsWithin, defaults}
use Rattle.mas_report.specs.Reading.{Shows, ShowsNothing}
use Rattle.mas_report.specs.Report.{IsAnyReport, Decided}
use Rattle.mas_report.specs.declared.reading.Told.{Told}
use Rattle.mas_report.proofs.Shown.{one_shown, shown_printed}
use Rattle.mas_top_files.specs.declared.sources.Source.{Source}
use Rattle.mas_top_status.specs.declared.status.Status.{Status}
use Rattle.mas_top_files.specs.Files.{Has, HasFile, IsRefusal, unfetched, IsUnfetched, most_report_bytes}
use Rattle.mas_top_files.specs.Known.{known}
use Rattle.mas_top_files.specs.Sources.{HasSource, FirstRefused, AreRefused, UnlessMemory}
use Rattle.mas_top_files.proofs.Fetched.{refusal_from}
use Rattle.mas_top_files.proofs.Unless.{unless, unless_as}
use Rattle.mas_top_check.specs.Checking.{ReportClaim, IsAllowed, TellsRun, TellsNoRun, IsOwn, Says, IsJudged, Claim, IsDecided, reports, ClaimRefused}
use Rattle.mas_top_opening.specs.Opening.{setup, opening}

-- ---- what is allowed

decided_few : (source : Source) (o : Options) (b : Bool) → IsWithin o → nat_le (length source.names * o.cycles) most_cycles_together ≡ b → Decided (IsAllowed source o) b
decided_few source o true w e = record { within = w; few = grind (arith, common_steps) }
decided_few source o false w e = λ h. let l = h.few in absurd (grind (arith, common_steps))

pub few : (source : Source) (o : Options) (within : Bool) (b : Bool) → within ≡ true → (within ≡ true → IsWithin o) → b ≡ nat_le (length source.names * o.cycles) most_cycles_together →
    Decided (IsAllowed source o) b
few source o within b t f e = decided_few source o b (f t) (sym e)

pub past : (source : Source) (o : Options) (within : Bool) → within ≡ false → (IsWithin o → within ≡ true) → Decided (IsAllowed source o) false
past source o within e f h = let t = f h.within in absurd cc

pub many : (o : Options) (within : Bool) → within ≡ true → (within ≡ true → IsWithin o) → o.cycles ≤ 1000000
many o within t f = (f t).cycles.1

-- ---- bytes that tell nothing, or what is not allowed

pub shows_none : (objects : List Used) (source : Source) (bytes : List ℕ) → ShowsNothing bytes → IsOwn objects source bytes → ⊥
shows_none objects source bytes none h = none h.told h.shows

-- the same by what the reader answered
pub shows_none_by : (objects : List Used) (source : Source) (bytes : List ℕ) (r : Option Told) → r ≡ None → MatchOption r (ShowsNothing bytes) (Shows bytes) →
    IsOwn objects source bytes → ⊥
shows_none_by objects source bytes r e h =
    shows_none objects source bytes (subst (λ (x : Option Told). MatchOption x (ShowsNothing bytes) (Shows bytes)) e h)

pub shows_by : (bytes : List ℕ) (t : Told) (r : Option Told) → r ≡ Some t → MatchOption r (ShowsNothing bytes) (Shows bytes) → Shows bytes t
shows_by bytes t r e h = subst (λ (x : Option Told). MatchOption x (ShowsNothing bytes) (Shows bytes)) e h

pub known_version : (bytes : List ℕ) (t : Told) → Shows bytes t → IsVersion t.version
known_version bytes t h = h.first.known

pub last_told : (bytes : List ℕ) (t : Told) → Shows bytes t → printed bytes ≡ t.turns
last_told = shown_printed

-- what the bytes tell
told_is : (objects : List Used) (source : Source) (bytes : List ℕ) (t : Told) → Shows bytes t → (h : IsOwn objects source bytes) → h.told ≡ t
told_is objects source bytes t s h = one_shown bytes h.told t h.shows s

pub not_allowed : (objects : List Used) (source : Source) (bytes : List ℕ) (t : Told) → Shows bytes t → Decided (IsAllowed source t.options) false → IsOwn objects source bytes → ⊥
not_allowed objects source bytes t s n h = n (subst (λ (x : Told). IsAllowed source x.options) (told_is objects source bytes t s h) h.allowed)

-- ---- what bytes tell of a run of the source

-- by what the reader answered of the slice that the bytes are
module _ (source : Source) (said bytes : List ℕ) (r : Option Told) (same : said ≡ bytes) (read : MatchOption r (ShowsNothing said) (Shows said)) where
  pub no_run : r ≡ None → TellsNoRun source bytes
  no_run e = λ t k. subst (λ (x : Option Told). MatchOption x (ShowsNothing said) (Shows said)) e read t (subst (λ b. Shows b t) (sym same) k.shows)

  pub told_shows : (t : Told) → r ≡ Some t → Shows bytes t
  told_shows t e = subst (λ b. Shows b t) same (shows_by said t r e read)

  pub tells_run : (t : Told) → r ≡ Some t → Decided (IsAllowed source t.options) true → TellsRun source bytes t
  tells_run t e a = record { shows = told_shows t e; allowed = a }

  pub forbids_run : (t : Told) → r ≡ Some t → Decided (IsAllowed source t.options) false → TellsNoRun source bytes
  forbids_run t e n = λ x k. n (subst (λ (y : Told). IsAllowed source y.options) (one_shown bytes x t k.shows (told_shows t e)) k.allowed)

pub ruleset tells = (no_run, tells_run, forbids_run)

-- by what was found
pub found_run : (source : Source) (bytes : List ℕ) (t : Told) (r : Option Told) → r ≡ Some t → MatchOption r (TellsNoRun source bytes) (TellsRun source bytes) → TellsRun source bytes t
found_run source bytes t r e h = subst (λ (x : Option Told). MatchOption x (TellsNoRun source bytes) (TellsRun source bytes)) e h

pub found_none : (source : Source) (bytes : List ℕ) (r : Option Told) → r ≡ None → MatchOption r (TellsNoRun source bytes) (TellsRun source bytes) → TellsNoRun source bytes
found_none source bytes r e h = subst (λ (x : Option Told). MatchOption x (TellsNoRun source bytes) (TellsRun source bytes)) e h

pub tells_within : (source : Source) (bytes : List ℕ) (t : Told) → TellsRun source bytes t → IsWithin t.options
tells_within source bytes t k = k.allowed.within

pub tells_version : (source : Source) (bytes : List ℕ) (t : Told) → TellsRun source bytes t → IsVersion t.version
tells_version source bytes t k = k.shows.first.known

pub tells_turns : (source : Source) (bytes : List ℕ) (t : Told) → TellsRun source bytes t → printed bytes ≡ t.turns
tells_turns source bytes t k = shown_printed bytes t k.shows

-- what may be asked where bytes tell of a run
pub ruleset told = (tells_within, tells_version, tells_turns)

pub no_own : (objects : List Used) (source : Source) (bytes : List ℕ) → TellsNoRun source bytes → IsOwn objects source bytes → ⊥
no_own objects source bytes n h = n h.told (record { shows = h.shows; allowed = h.allowed })

pub not_own : (objects : List Used) (source : Source) (bytes : List ℕ) (t : Told) → Shows bytes t →
    (IsAnyReport agent_kind t.version t.options (opening (setup t.options objects) source) bytes → ⊥) → IsOwn objects source bytes → ⊥
not_own objects source bytes t s n h =
    n (subst (λ (x : Told). IsAnyReport agent_kind x.version x.options (opening (setup x.options objects) source) bytes) (told_is objects source bytes t s h) h.report)

-- such bytes are a report, and this is written, or they are none
abbrev pub IsRun : ReportClaim → List Used → Source → Told → List ℕ → Option (List ℕ) → Type 0
IsRun asks objects source t bytes answer =
    let p = opening (setup t.options objects) source in
    MatchOption answer (IsAnyReport agent_kind t.version t.options p bytes → ⊥) (λ w. IsAnyReport agent_kind t.version t.options p bytes × Says asks objects source t w)

own_by : (asks : ReportClaim) (objects : List Used) (source : Source) (bytes : List ℕ) (t : Told) (answer : Option (List ℕ)) → TellsRun source bytes t →
    IsRun asks objects source t bytes answer → IsJudged asks objects source bytes answer
own_by asks objects source bytes t None k r = not_own objects source bytes t k.shows r
own_by asks objects source bytes t (Some w) k r = record { own = record { told = t; shows = k.shows; allowed = k.allowed; report = r.0 }; says = r.1 }

pub own_answer : {E : Type 0} (asks : ReportClaim) (objects : List Used) (source : Source) (bytes : List ℕ) (t : Told) (answer : Result (Option (List ℕ)) E) →
    TellsRun source bytes t → IfOk answer (IsRun asks objects source t bytes) → IfOk answer (IsJudged asks objects source bytes)
own_answer asks objects source bytes t (Ok answer) k h = own_by asks objects source bytes t answer k h
own_answer asks objects source bytes t (Err why) k h = tt

-- ---- the file of the report

pub unread : (name : List ℕ) (held : Option (List Filed)) (before after : ℕ) (status : Status) → IsUnfetched 268435456 name held before after status →
    IsRefusal reports name held before after status
unread name held before after status h = unfetched h

pub judged : (asks : ReportClaim) (objects : List Used) (held : Option (List Filed)) (source : Source) (name bytes : List ℕ) (answer : Option (List ℕ)) →
    Has 268435456 held name (Bytes bytes) → IsJudged asks objects source bytes answer → HasFile most_report_bytes held name (λ b. IsJudged asks objects source b answer)
judged asks objects held source name bytes answer h d = record { bytes = bytes; has = h; are = d }

-- ---- what is claimed

pub decided : (objects : List Used) (held : Option (List Filed)) (c : Claim) (o : Options) (source : Source) (answer : Option (List ℕ)) → o ≡ defaults →
    HasSource (known objects) o.cycles held c.project source → HasFile most_report_bytes held c.report (λ b. IsJudged c.asks objects source b answer) → IsDecided objects held c answer
decided objects held c o source answer e h f =
    record { source = source; has = subst (λ (x : Options). HasSource (known objects) x.cycles held c.project source) e h; file = f }

pub no_source : (objects : List Used) (held : Option (List Filed)) (c : Claim) (o : Options) (before after : ℕ) (status : Status) → o ≡ defaults →
    AreRefused (known objects) o.cycles held c.project before after status → UnlessMemory (ClaimRefused objects held c before after) status
no_source objects held c o before after status e r =
    unless_as (FirstRefused (known objects) 1000 held c.project before after) (ClaimRefused objects held c before after) (λ s h. inl h) status
    (subst (λ (x : Options). AreRefused (known objects) x.cycles held c.project before after status) e r)

pub no_report : (objects : List Used) (held : Option (List Filed)) (c : Claim) (o : Options) (source : Source) (first before after : ℕ) (status : Status) → first ≤ before →
    o ≡ defaults → HasSource (known objects) o.cycles held c.project source → IsRefusal reports c.report held before after status →
    UnlessMemory (ClaimRefused objects held c first after) status
no_report objects held c o source first before after status l e h r =
    unless (ClaimRefused objects held c first after) status
    (inr (record {
      source = source;
      has = subst (λ (x : Options). HasSource (known objects) x.cycles held c.project source) e h;
      why = refusal_from reports c.report held first before after status l r;
    }))

pub ruleset claimed = (decided, no_source, no_report)
