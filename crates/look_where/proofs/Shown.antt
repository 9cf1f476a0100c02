-- What is written of files.
use Rattle.std.proofs.Common.{◌≡◌, ℕ, ◌≤◌, Bool, true, false, ◌||◌, List, ◌++◌, Option, arith}
use Rattle.std.specs.List.{flat_map, list_any}
use Rattle.asl_term.specs.declared.syntax.Filed.{Filed}
use Rattle.mas_top_files.specs.declared.sources.Source.{Source}
use Rattle.mas_top_files.specs.Sources.{HasSource, AreRefused}
use Rattle.mas_top_status.specs.declared.status.Status.{Status}
use Rattle.look_where.specs.declared.files.FileTold.{FileTold}
use Rattle.look_where.specs.Files.{is_lack, TellFiles}
use Rattle.look_where.specs.Showing.{file_text, is_told, IsText, TellsRefused, is_read, is_refused, IsWhere}
use Rattle.look_where.proofs.Telling.{no_memory, files_wider}

pub is_text : (files : List FileTold) (text behind : List ℕ) → text ≡ flat_map file_text files ++ behind → IsText files text
is_text files text behind e = record { behind = behind; text_is = e }

pub read_so : (known : List (List ℕ)) (held : Option (List Filed)) (word : List ℕ) (before after : ℕ) (source : Source) → HasSource known 1 held word source →
    TellsRefused known held word before after false
read_so known held word before after source h = is_read source h

pub refused_so : (known : List (List ℕ)) (held : Option (List Filed)) (word : List ℕ) (before after : ℕ) (status : Status) → is_lack status ≡ false →
    AreRefused known 1 held word before after status → TellsRefused known held word before after true
refused_so known held word before after status n h = is_refused (record {
  start = before;
  end = after;
  begins = omega arith;
  ends = omega arith;
  status = status;
  no_lack = no_memory status n;
  why = h;
})

refused_from : (known : List (List ℕ)) (held : Option (List Filed)) (word : List ℕ) (first before after : ℕ) {refused : Bool} → first ≤ before →
    TellsRefused known held word before after refused → TellsRefused known held word first after refused
refused_from known held word first before after l (is_read source h) = is_read source h
refused_from known held word first before after l (is_refused h) = is_refused (record {
  start = h.start;
  end = h.end;
  begins = omega (arith, h.begins);
  ends = h.ends;
  status = h.status;
  no_lack = h.no_lack;
  why = h.why;
})

-- the files are told between `before` and `now`, and the project is refused or read then until `after`
pub is_where : (known : List (List ℕ)) (held : Option (List Filed)) (word : List ℕ) (before now after : ℕ) (files : List FileTold) (refused found : Bool) (text : List ℕ) →
    before ≤ now → now ≤ after → TellFiles known held word before now files → TellsRefused known held word now after refused →
    found ≡ (list_any is_told files || refused) → IsText files text → IsWhere known held word before after found text
is_where known held word before now after files refused found text l m t r s w = record {
  files = files;
  told = files_wider known held word before now after m t;
  refused = refused;
  tells = refused_from known held word before now after l r;
  some = s;
  shown = w;
}
