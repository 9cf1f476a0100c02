-- The cause of the status of a run of two sites, and what follows of it.
use Rattle.std.proofs.Common.{ℕ, ◌≡◌, inl, inr, Bool, true, false, List, ◌++◌, Option, Some, refl, ap, sym, ◌∙◌, subst}
use Rattle.asl_term.specs.declared.syntax.Filed.{Filed}
use Rattle.mas_world.specs.Worlds.{Used}
use Rattle.mas_io.specs.Causes.{Rose}
use Rattle.mas_io.specs.Sink.{grown}
use Rattle.mas_io.specs.Told.{Told, IsUnwritten}
use Rattle.mas_io.specs.Writing.{Wrote, IsCut}
use Rattle.mas_project.specs.declared.syntax.ProjectText.{ProjectText}
use Rattle.mas_project.specs.Names.{names_of}
use Rattle.mas_top_status.specs.declared.status.Status.{Status}
use Rattle.mas_top_status.specs.declared.status.Status.TheVariants.{Ok, No, Usage, Missing, ReadFault, WriteFault, Refused, Limit, Budget, Memory, DiskFault}
use Rattle.mas_top_files.specs.Files.{agents, worlds, projects}
use Rattle.mas_top_files.specs.Known.{known}
use Rattle.mas_top_files.specs.Sources.{PartRefused}
use Rattle.mas_top_status.specs.Statuses.{whole}
use Rattle.mas_top_files.proofs.Refusing.{refuses, agents_tell, worlds_tell, projects_tell, no_report}
use Rattle.mas_top_opening.specs.Opening.{Setup}
use Rattle.mas_top_sites.specs.Artifacts.{left_by}
use Rattle.mas_top_sites.specs.Pairs.{Wish, HasPair, FailsTest, many_agents, many_cycles, taken_name}
use Rattle.mas_top_sites.specs.Pairs.{PairRefused, projects_refused, together_refused, parts_refused, ArePairRefused, NoneRefused}
use Rattle.mas_top_sites.specs.Caused.{Sites, wish_of, ForPair, SitesCaused, ReportsSites, AreSitesComplete}

-- ---- what is refused

part_refuses : (names : List (List ℕ)) (held : Option (List Filed)) (before after : ℕ) (status : Status) (p : ProjectText) →
    PartRefused names p held before after status → refuses status ≡ true
part_refuses names held before after status p (inl w) = no_report (worlds names) (worlds_tell names) w.name held before after status w.why
part_refuses names held before after status p (inr l) = no_report agents agents_tell l.why.line.file held before after status l.why.why

test_refuses : (second : List ℕ) (cycles : ℕ) (one two : List (List ℕ)) (status : Status) → FailsTest second cycles one two status → refuses status ≡ true
test_refuses second cycles one two status (many_agents l) = refl
test_refuses second cycles one two status (many_cycles f l) = refl
test_refuses second cycles one two status (taken_name f s t) = refl

pair_refuses : (objects : List Used) (held : Option (List Filed)) (w : Wish) (before after : ℕ) (status : Status) → PairRefused objects held w before after status →
    refuses status ≡ true
pair_refuses objects held w before after status (projects_refused (inl r)) = no_report projects projects_tell w.first held before after status r.why
pair_refuses objects held w before after status (projects_refused (inr r)) = no_report projects projects_tell w.second held before after status r.why.why
pair_refuses objects held w before after status (together_refused r) =
    test_refuses w.second w.cycles (names_of r.first.agents) (names_of r.second.agents) status r.fails
pair_refuses objects held w before after status (parts_refused p q a (inl r)) = part_refuses (known objects) held before after status p r
pair_refuses objects held w before after status (parts_refused p q a (inr r)) = part_refuses (known (left_by r.one.world objects)) held before after status q r.why

module _ (u : Setup) (s : Sites) (before after : Told) where
  abbrev IsNot : Status → Type 0
  IsNot status = PairRefused u.objects before.held (wish_of u s) before.shelf_faults after.shelf_faults status

  refused_by : (status : Status) → refuses status ≡ true → IsNot status → IsUnwritten before after → SitesCaused u s before after status
  refused_by Ok e r n = absurd cc
  refused_by No e r n = absurd cc
  refused_by Usage e r n = absurd cc
  refused_by (Missing lacked) e r n = record { why = r; unwritten = n }
  refused_by ReadFault e r n = record { why = r; unwritten = n }
  refused_by WriteFault e r n = absurd cc
  refused_by (Refused file place why) e r n = record { why = r; unwritten = n }
  refused_by (Limit quantity count) e r n = record { why = r; unwritten = n }
  refused_by Budget e r n = absurd cc
  refused_by Memory e r n = n
  refused_by DiskFault e r n = absurd cc

  one_refused : (status : Status) → IsNot status → IsUnwritten before after → SitesCaused u s before after status
  one_refused status r n = refused_by status (pair_refuses u.objects before.held (wish_of u s) before.shelf_faults after.shelf_faults status r) r n

  pub refused_pair : (status : Status) → ArePairRefused u.objects before.held (wish_of u s) before.shelf_faults after.shelf_faults status →
      IsUnwritten before after → SitesCaused u s before after status
  refused_pair Ok r n = one_refused Ok r n
  refused_pair No r n = one_refused No r n
  refused_pair Usage r n = one_refused Usage r n
  refused_pair (Missing lacked) r n = one_refused (Missing lacked) r n
  refused_pair ReadFault r n = one_refused ReadFault r n
  refused_pair WriteFault r n = one_refused WriteFault r n
  refused_pair (Refused file place why) r n = one_refused (Refused file place why) r n
  refused_pair (Limit quantity count) r n = one_refused (Limit quantity count) r n
  refused_pair Budget r n = one_refused Budget r n
  refused_pair Memory r n = n
  refused_pair DiskFault r n = one_refused DiskFault r n

  -- ---- what is written

  written_by : (spent : Bool) (w : List ℕ) → ForPair u before.held s spent w → after.written ≡ grown before.written w → SitesCaused u s before after (whole spent)
  written_by true w g e = record { text = w; is = g; written = e }
  written_by false w g e = record { text = w; is = g; written = e }

  pub written_sites : (status : Status) (spent : Bool) (w : List ℕ) → status ≡ whole spent → ForPair u before.held s spent w →
      after.written ≡ grown before.written w → SitesCaused u s before after status
  written_sites status spent w e g f = subst (SitesCaused u s before after) (sym e) (written_by spent w g f)

  pub cut_sites : (spent : Bool) (w : List ℕ) → ForPair u before.held s spent w → Rose before.sink_faults after.sink_faults →
      IsCut before.written after.written w → SitesCaused u s before after WriteFault
  cut_sites spent w g r c = record { rose = r; text = w; is = record { spent = spent; gives = g }; cut = c }

  -- ---- what follows

  wrote_by : (spent : Bool) → SitesCaused u s before after (whole spent) → Wrote (ForPair u before.held s spent) before after
  wrote_by true c = c
  wrote_by false c = c

  some_same : {A : Type 0} {x y : A} → Some x ≡ Some y → x ≡ y
  some_same e = cc

  put : (a b : Option (List ℕ)) (old new w : List ℕ) → a ≡ Some old → b ≡ Some new → b ≡ grown a w → new ≡ old ++ w
  put a b old new w e f g = some_same (sym f ∙ g ∙ ap (λ x. grown x w) e)

  pub reports_sites : (status : Status) → SitesCaused u s before after status → ReportsSites u s before after status
  reports_sites status c spent files old new e h b a =
      let w = wrote_by spent (subst (SitesCaused u s before after) e c) in
      record {
        both = w.is.both;
        described = subst (λ held. HasPair u.objects held (wish_of u s) w.is.both) h w.is.has;
        text = w.text;
        written = put before.written after.written old new w.text b a w.written;
        runs = w.is.is;
      }

  not_here : (status : Status) (files : List Filed) → before.held ≡ Some files → NoneRefused u.objects files (wish_of u s) →
      (Rose before.shelf_faults after.shelf_faults → ⊥) → (status ≡ Memory → ⊥) → IsNot status → ⊥
  not_here status files e n f m c = n status (record {
    before = before.shelf_faults;
    after = after.shelf_faults;
    no_fault = f;
    no_lack = m;
    is = subst (λ held. PairRefused u.objects held (wish_of u s) before.shelf_faults after.shelf_faults status) e c;
  })

  pub complete_sites : (status : Status) → SitesCaused u s before after status → AreSitesComplete u s before after status
  complete_sites Ok c files e n f k = inl (false, refl)
  complete_sites No c files e n f k = absurd c
  complete_sites Usage c files e n f k = absurd c
  complete_sites (Missing lacked) c files e n f k = absurd (not_here (Missing lacked) files e n f (λ q. cc) c.why)
  complete_sites ReadFault c files e n f k = absurd (not_here ReadFault files e n f (λ q. cc) c.why)
  complete_sites WriteFault c files e n f k = absurd (k c.rose)
  complete_sites (Refused file place why) c files e n f k = absurd (not_here (Refused file place why) files e n f (λ q. cc) c.why)
  complete_sites (Limit quantity count) c files e n f k = absurd (not_here (Limit quantity count) files e n f (λ q. cc) c.why)
  complete_sites Budget c files e n f k = inl (true, refl)
  complete_sites Memory c files e n f k = inr refl
  complete_sites DiskFault c files e n f k = absurd c
