-- The files of a project.
use Rattle.std.proofs.Common.{◌≡◌, ◌≢◌, ℕ, ◌≤◌, true, false, List, [], ◌∷◌, ◌++◌, Option, Some, None, subst, sym, ap, ◌∙◌, append_assoc, append-nil, arith}
use Rattle.std.specs.Option.{option_to_list}
use Rattle.asl_term.specs.declared.syntax.Filed.{Filed}
use Rattle.mas_io.specs.Causes.{Rose}
use Rattle.mas_io.specs.declared.shelf.Fetched.TheVariants.{Bytes}
use Rattle.mas_project.specs.declared.syntax.ProjectText.{ProjectText}
use Rattle.mas_top_files.specs.Files.{Has, IsUnfetched, missing, too_long, failed, starved, Reader, IsRefusal, unfetched, faulty, projects, most_bytes}
use Rattle.mas_top_files.specs.Projects.{is_agent_file}
use Rattle.mas_top_files.specs.Sources.{HasProject, ProjectRefused, UnlessMemory}
use Rattle.mas_top_files.proofs.Unless as unless
use Rattle.mas_top_status.specs.declared.status.Status.{Status}
use Rattle.mas_top_status.specs.declared.status.Status.TheVariants.{Memory}
use Rattle.look_pieces.specs.declared.findings.Finding.{Finding}
use Rattle.look_where.specs.declared.files.FileKind.{FileKind}
use Rattle.look_where.specs.declared.files.FileKind.TheVariants.{Project, Agent}
use Rattle.look_where.specs.declared.files.FileTold.{FileTold}
use Rattle.look_where.specs.declared.files.Wanted.{Wanted}
use Rattle.look_where.specs.Others.{TellsProject}
use Rattle.look_where.specs.Files.{kind_of, is_lack, wanted_of, TellsBytes, TellsNamed, TellsOne, PutsOne, AreWanted, all_wanted, some_wanted, IsLacking, not_there, too_large, unread, AreTold, none_wanted, one_told, one_lacks, AreOthers, all_told, some_told, TellFiles, source_told, project_told}

pub no_memory : (s : Status) → is_lack s ≡ false → s ≢ Memory
no_memory s h e = let f : true ≡ false = ap is_lack (sym e) ∙ h in absurd cc

-- ---- one file

tells_file : (known : List (List ℕ)) (held : Option (List Filed)) (t : FileTold) (kind : FileKind) (name bytes : List ℕ) (fs : List Finding) → t.kind ≡ kind →
    t.name ≡ name → t.findings ≡ fs → Has most_bytes held name (Bytes bytes) → TellsBytes known kind bytes fs → TellsNamed known held kind name t
tells_file known held t kind name bytes fs k n f h b = record {
  kind_is = k;
  named = n;
  told = record {
    bytes = bytes;
    has = subst (λ (x : List ℕ). Has most_bytes held x (Bytes bytes)) (sym n) h;
    are = subst (λ (x : List Finding). TellsBytes known t.kind bytes x) (sym f) (subst (λ (x : FileKind). TellsBytes known x bytes fs) (sym k) b);
  };
}

pub named_told : (known : List (List ℕ)) (held : Option (List Filed)) (t : FileTold) (kind : FileKind) (name bytes slice : List ℕ) (fs : List Finding) → t.kind ≡ kind →
    t.name ≡ name → t.findings ≡ fs → Has most_bytes held name (Bytes bytes) → slice ≡ bytes → TellsBytes known kind slice fs → TellsNamed known held kind name t
named_told known held t kind name bytes slice fs k n f h e b =
    tells_file known held t kind name bytes fs k n f h (subst (λ (x : List ℕ). TellsBytes known kind x fs) e b)

rose_wider : (first before after last : ℕ) → first ≤ before → after ≤ last → Rose before after → Rose first last
rose_wider first before after last l r h = omega (arith, h)

pub lacking : (held : Option (List Filed)) (before after : ℕ) (name : List ℕ) (status : Status) → is_lack status ≡ false →
    IsUnfetched most_bytes name held before after status → IsLacking held before after name
lacking held before after name status n (missing e h) = not_there h
lacking held before after name status n (too_long e h) = too_large h
lacking held before after name status n (failed e h) = unread h
lacking held before after name status n (starved e) = absurd (no_memory status n e)

-- ---- all

lacks_wider : (held : Option (List Filed)) (first before after last : ℕ) (name : List ℕ) → first ≤ before → after ≤ last → IsLacking held before after name →
    IsLacking held first last name
lacks_wider held first before after last name l r (not_there h) = not_there h
lacks_wider held first before after last name l r (too_large h) = too_large h
lacks_wider held first before after last name l r (unread h) = unread (rose_wider first before after last l r h)

told_wider : (known : List (List ℕ)) (held : Option (List Filed)) (first before after last : ℕ) {ws : List Wanted} {ts : List FileTold} → first ≤ before → after ≤ last →
    AreTold known held before after ws ts → AreTold known held first last ws ts
told_wider known held first before after last l r none_wanted = none_wanted
told_wider known held first before after last l r (one_told h a) = one_told h (told_wider known held first before after last l r a)
told_wider known held first before after last l r (one_lacks {w = x} h a) =
    one_lacks (lacks_wider held first before after last x.name l r h) (told_wider known held first before after last l r a)

-- where what is left of the wanted files is told behind these, all are told
pub record Left (known : List (List ℕ)) (held : Option (List Filed)) (first now : ℕ) (ws all : List Wanted) (ts : List FileTold) : Type 0 where
  pub then : (last : ℕ) (us : List FileTold) → now ≤ last → AreTold known held first last ws us → AreTold known held first last all (ts ++ us)

pub begins : (known : List (List ℕ)) (held : Option (List Filed)) (first : ℕ) (ws all : List Wanted) → ws ≡ all → Left known held first first ws all []
begins known held first ws all e = record { then = λ last us l a. subst (λ (x : List Wanted). AreTold known held first last x us) e a }

pub puts_told : (known : List (List ℕ)) (held : Option (List Filed)) (before after : ℕ) (w : Wanted) (t : FileTold) (ts us : List FileTold) →
    TellsNamed known held (kind_of w.world) w.name t → us ≡ ts ++ t ∷ [] → PutsOne known held before after w ts us
puts_told known held before after w t ts us h e = record { told = Some t; tells = h; put = e }

pub puts_none : (known : List (List ℕ)) (held : Option (List Filed)) (before after : ℕ) (w : Wanted) (status : Status) (ts us : List FileTold) → is_lack status ≡ false →
    IsUnfetched most_bytes w.name held before after status → us ≡ ts → PutsOne known held before after w ts us
puts_none known held before after w status ts us n h e = record {
  told = None;
  tells = lacking held before after w.name status n h;
  put = e ∙ sym (append-nil ts);
}

more_told : (known : List (List ℕ)) (held : Option (List Filed)) (first before now : ℕ) (rest after all : List Wanted) (ts : List FileTold) (w : Wanted) (told : Option FileTold) →
    Left known held first before rest all ts → rest ≡ w ∷ after → first ≤ before → before ≤ now → TellsOne known held before now w told →
    Left known held first now after all (ts ++ option_to_list told)
more_told known held first before now rest after all ts w (Some t) h e f l m = record {
  then = λ last us r a.
      subst (AreTold known held first last all) (sym (append_assoc ts (t ∷ []) us))
      (h.then last (t ∷ us) (omega arith) (subst (λ (x : List Wanted). AreTold known held first last x (t ∷ us)) (sym e) (one_told m a)));
}
more_told known held first before now rest after all ts w None h e f l m = record {
  then = λ last us r a.
      subst (λ (x : List FileTold). AreTold known held first last all (x ++ us)) (sym (append-nil ts))
      (h.then last us (omega arith) (subst (λ (x : List Wanted). AreTold known held first last x us) (sym e)
      (one_lacks (lacks_wider held first before now last w.name f r m) a)));
}

pub more : (known : List (List ℕ)) (held : Option (List Filed)) (first before now : ℕ) (rest after all : List Wanted) (ts us : List FileTold) (w : Wanted) →
    Left known held first before rest all ts → rest ≡ w ∷ after → first ≤ before → before ≤ now → PutsOne known held before now w ts us → Left known held first now after all us
more known held first before now rest after all ts us w h e f l p =
    subst (Left known held first now after all) (sym p.put) (more_told known held first before now rest after all ts w p.told h e f l p.tells)

pub ends : (known : List (List ℕ)) (held : Option (List Filed)) (first now : ℕ) (rest all : List Wanted) (ts : List FileTold) → Left known held first now rest all ts → rest ≡ [] →
    AreTold known held first now all ts
ends known held first now rest all ts h e =
    subst (AreTold known held first now all) (append-nil ts)
    (h.then now [] (omega arith) (subst (λ (x : List Wanted). AreTold known held first now x []) (sym e) none_wanted))

-- ---- the project

refusal_wider : (r : Reader) (name : List ℕ) (held : Option (List Filed)) (first before after last : ℕ) (status : Status) → first ≤ before → after ≤ last →
    IsRefusal r name held before after status → IsRefusal r name held first last status
refusal_wider r name held first before after last status l m (unfetched (missing e h)) = unfetched (missing e h)
refusal_wider r name held first before after last status l m (unfetched (too_long e h)) = unfetched (too_long e h)
refusal_wider r name held first before after last status l m (unfetched (failed e h)) = unfetched (failed e (rose_wider first before after last l m h))
refusal_wider r name held first before after last status l m (unfetched (starved e)) = unfetched (starved e)
refusal_wider r name held first before after last status l m (faulty f) = faulty f

project_wider : (held : Option (List Filed)) (word : List ℕ) (first before after last : ℕ) (status : Status) → first ≤ before → after ≤ last →
    ProjectRefused held word before after status → ProjectRefused held word first last status
project_wider held word first before after last status l m h = record {
  file = h.file;
  why = refusal_wider projects word held first before after last status l m h.why;
}

-- the project is read between `first` and `now`, and its files until `last`
are_all : (known : List (List ℕ)) (held : Option (List Filed)) (word : List ℕ) (first now last : ℕ) (p : ProjectText) (ws : List Wanted) (ts : List FileTold) →
    first ≤ now → HasProject held word p → ws ≡ wanted_of p → AreTold known held now last ws ts → AreOthers known held word first last ts
are_all known held word first now last p ws ts l h e a =
    all_told p h (told_wider known held first now last last l (omega arith) (subst (λ (x : List Wanted). AreTold known held now last x ts) e a))

pub refused_wanted : (held : Option (List Filed)) (word : List ℕ) (before after : ℕ) (status : Status) (ws : List Wanted) → is_lack status ≡ false →
    UnlessMemory (ProjectRefused held word before after) status → AreWanted held word before after ws
refused_wanted held word before after status ws n u =
    some_wanted status (unless.is_told (ProjectRefused held word before after) status (no_memory status n) u)

pub are_others : (known : List (List ℕ)) (held : Option (List Filed)) (word : List ℕ) (first now last : ℕ) (ws : List Wanted) (ts : List FileTold) → first ≤ now → now ≤ last →
    AreWanted held word first now ws → AreTold known held now last ws ts → AreOthers known held word first last ts
are_others known held word first now last ws ts l m (all_wanted p h e) a = are_all known held word first now last p ws ts l h e a
are_others known held word first now last ws ts l m (some_wanted status h) a =
    some_told status (project_wider held word first first now last status (omega arith) m h) ws (told_wider known held first now last last l (omega arith) a)

others_wider : (known : List (List ℕ)) (held : Option (List Filed)) (word : List ℕ) (first before after last : ℕ) (ts : List FileTold) → first ≤ before → after ≤ last →
    AreOthers known held word before after ts → AreOthers known held word first last ts
others_wider known held word first before after last ts l m (all_told p h a) = all_told p h (told_wider known held first before after last l m a)
others_wider known held word first before after last ts l m (some_told status h ws a) =
    some_told status (project_wider held word first before after last status l m h) ws (told_wider known held first before after last l m a)

pub one_file : (known : List (List ℕ)) (held : Option (List Filed)) (word : List ℕ) (before after : ℕ) (t : FileTold) (all : List FileTold) → is_agent_file word ≡ true →
    TellsNamed known held Agent word t → all ≡ t ∷ [] → TellFiles known held word before after all
one_file known held word before after t all e h a = subst (TellFiles known held word before after) (sym a) (source_told e h)

-- the others are told between `before` and `after`
pub project_files : (known : List (List ℕ)) (held : Option (List Filed)) (word : List ℕ) (first before after : ℕ) (bytes : List ℕ) (fs : List Finding) (t : FileTold) (ts all : List FileTold) →
    first ≤ before → is_agent_file word ≡ false → Has most_bytes held word (Bytes bytes) → TellsProject bytes fs → t.kind ≡ Project → t.name ≡ word → t.findings ≡ fs →
    AreOthers known held word before after ts → all ≡ t ∷ ts → TellFiles known held word first after all
project_files known held word first before after bytes fs t ts all l e h b k n f o a =
    subst (TellFiles known held word first after) (sym a)
    (project_told e (tells_file known held t Project word bytes fs k n f h b) (others_wider known held word first before after after ts l (omega arith) o))

pub files_wider : (known : List (List ℕ)) (held : Option (List Filed)) (word : List ℕ) (before after last : ℕ) {ts : List FileTold} → after ≤ last →
    TellFiles known held word before after ts → TellFiles known held word before last ts
files_wider known held word before after last l (source_told e h) = source_told e h
files_wider known held word before after last l (project_told {ts = others} e h a) =
    project_told e h (others_wider known held word before before after last others (omega arith) l a)

-- the same of a call that began before
pub files_from : (known : List (List ℕ)) (held : Option (List Filed)) (word : List ℕ) (first before after : ℕ) {ts : List FileTold} → first ≤ before →
    TellFiles known held word before after ts → TellFiles known held word first after ts
files_from known held word first before after l (source_told e h) = source_told e h
files_from known held word first before after l (project_told {ts = others} e h a) =
    project_told e h (others_wider known held word first before after after others l (omega arith) a)
