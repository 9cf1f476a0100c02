-- What one more change leaves.
use Rattle.std.proofs.Common.{◌≡◌, ◌≢◌, ◌≤◌, inl, inr, ⊎_elim, ℕ, ◌+◌, min, Bool, true, false, if◌then◌else◌, is_some, List, [], ◌∷◌, ◌++◌, length, take, Option, None, Some, refl, sym, ◌∙◌, ap, subst, arith, bytes_eq, length-append}
use Rattle.std.specs.Prelude.{Result, Ok, Err, OnOk, OnErr}
use Rattle.std.proofs.lemmas.Bool.{cases_Bool}
use Rattle.std.proofs.Math.Nat.{eq-or-lt_of_le}
use Rattle.std.proofs.lemmas.List.{take_all, take-append-le}
use Rattle.std.proofs.lemmas.Slice.Eq.{bytes_eq-Decides}
use Rattle.asl_term.specs.declared.syntax.Filed.{Filed}
use Rattle.mas_record_disk.specs.Disk.{Image, FileState, DiskState, bytes_of, written, IsTorn, OnBytes, Stepped, after_write, after_cut}
use Rattle.mas_record_disk.specs.Calls.{GoesOn, IsSameFile, Looks, Changes, IsSynced, Reads, PicksReady, made_where_missing, name_or_none}
use Rattle.mas_record_files.specs.declared.change.Change.{Change}
use Rattle.mas_record_files.specs.declared.change.FileChange.{FileChange}
use Rattle.mas_record_files.specs.declared.change.FileChange.TheVariants.{Made, Wrote, Cut, Synced}
use Rattle.mas_record_files.specs.Memory.{held, image_after, changed, changed_if, after_all, settled, file_in, AreCurrent, disk_state, is_there}
use Rattle.mas_record_files.specs.Laws.{reads_now}
use Rattle.mas_record_files.specs.Disks.{HasChanged, change_of}

-- one more change comes last
one_more : (name : List ℕ) (f : FileState) (changes : List Change) (c : Change)
    → after_all name f (changes ++ c ∷ []) ≡ changed_if (bytes_eq c.name name) c.what (after_all name f changes)
one_more name f [] c = refl
one_more name f (d ∷ changes) c = one_more name (changed_if (bytes_eq d.name name) d.what f) changes c

same_name : (name : List ℕ) → bytes_eq name name ≡ true
same_name name = (bytes_eq-Decides name name).1 refl

other_name : (name m : List ℕ) → Some name ≢ Some m → bytes_eq name m ≡ false
other_name name m other = elim (cases_Bool (bytes_eq name m)) [
  | inl same ↦ absurd (other (ap Some ((bytes_eq-Decides name m).0 same)))
  | inr apart ↦ apart
]

module _ (first : List Filed) (changes : List Change) where
  -- the file that was changed, and any other
  pub changed_file : (name : List ℕ) (what : FileChange) → file_in first (changes ++ (change_of name what) ∷ []) name ≡ changed what (file_in first changes name)
  changed_file name what =
      one_more name (settled (held first name)) changes (change_of name what)
      ∙ ap (λ (b : Bool). changed_if b what (file_in first changes name)) (same_name name)

  pub other_file : (name m : List ℕ) (what : FileChange) → bytes_eq name m ≡ false → file_in first (changes ++ (change_of name what) ∷ []) m ≡ file_in first changes m
  other_file name m what apart =
      one_more m (settled (held first m)) changes (change_of name what) ∙ ap (λ (b : Bool). changed_if b what (file_in first changes m)) apart

  reads_if : (b : Bool) (what : FileChange) (f : FileState) → (changed_if b what f).reads ≡ (if b then image_after what f.reads else f.reads)
  reads_if true what f = refl
  reads_if false what f = refl

  same_if : (b : Bool) (x y z : Image) → (b ≡ true → x ≡ y) → (if b then x else z) ≡ (if b then y else z)
  same_if true x y z e = e refl
  same_if false x y z e = refl

  -- the files are what the changes have made of them
  pub current_after : (name : List ℕ) (what : FileChange) (later : List Change) (old new : List Filed) → AreCurrent first changes old
      → HasChanged name what changes later old new → AreCurrent first later new
  current_after name what later old new current h m =
      let b = bytes_eq name m in
      ap (λ (l : List Change). (file_in first l m).reads) h.noted
      ∙ ap (λ (f : FileState). f.reads) (one_more m (settled (held first m)) changes (change_of name what))
      ∙ reads_if b what (file_in first changes m)
      ∙ ap (λ (i : Image). if b then image_after what i else i) (current m)
      ∙ same_if b (image_after what (held old m)) (image_after what (held old name)) (held old m)
      (λ same. ap (λ (n : List ℕ). image_after what (held old n)) (sym ((bytes_eq-Decides name m).0 same)))
      ∙ sym (h.made m)

  -- ---- time

  early : (c : Change) (k : ℕ) → k ≤ length changes → take k (changes ++ c ∷ []) ≡ take k changes
  early c k le = take-append-le k changes (c ∷ []) le

  pub passes : (c : Change) (later : List Change) (p q : Option (List ℕ)) (n m : ℕ) → later ≡ changes ++ c ∷ [] → n ≤ m
      → GoesOn (disk_state first changes p n) (disk_state first later q m)
  passes c later p q n m is le =
      let long : length later ≡ length changes + 1 = ap length is ∙ length-append changes (c ∷ []) in
      record {
        told = refl;
        faults = le;
        moment = omega (arith, long);
        since = λ name t i before left.
            elim (eq-or-lt_of_le left.2) [
              | inl new ↦ inr (subst (λ (l : List Change). (file_in first l name).may_leave i) (take_all left.0 later (omega (arith, new))) left.3)
              | inr old ↦ inl (
                left.0,
                left.1,
                omega (arith, old, long),
                subst (λ (l : List Change). (file_in first l name).may_leave i) (ap (λ (l : List Change). take left.0 l) is ∙ early c left.0 (omega (arith, old, long))) left.3,
              )
            ];
        keeps = λ name t i before left. (
          left.0,
          left.1,
          omega (arith, left.2, long),
          subst (λ (l : List Change). (file_in first l name).may_leave i) (sym (ap (λ (l : List Change). take left.0 l) is ∙ early c left.0 left.2)) left.3,
        );
      }

  -- ---- calls that note no change

  same_file : (name : List ℕ) → IsSameFile (file_in first changes name) (file_in first changes name)
  same_file name = record { reads = refl; leaves = λ c left. left }

  -- ---- calls that note one

  others_same : (name : List ℕ) (what : FileChange) (later : List Change) → later ≡ changes ++ (change_of name what) ∷ []
      → (m : List ℕ) → Some name ≢ Some m → IsSameFile (file_in first changes m) (file_in first later m)
  others_same name what later is m other =
      subst (λ (f : FileState). IsSameFile (file_in first changes m) f)
      (sym (ap (λ (l : List Change). file_in first l m) is ∙ other_file name m what (other_name name m other))) (same_file m)

  this_file : (name : List ℕ) (what : FileChange) (later : List Change) → later ≡ changes ++ (change_of name what) ∷ []
      → file_in first later name ≡ changed what (file_in first changes name)
  this_file name what later is = ap (λ (l : List Change). file_in first l name) is ∙ changed_file name what

  pub wrote : (name : List ℕ) (at : ℕ) (bytes : List ℕ) (later : List Change) (n m : ℕ) → later ≡ changes ++ (change_of name (Wrote at bytes)) ∷ [] → n ≤ m
      → at ≤ length (bytes_of (file_in first changes name).reads)
      → Changes (disk_state first changes (Some name) n) (disk_state first later (Some name) m) (after_write at bytes)
  wrote name at bytes later n m is le within =
      let start : min at (length (bytes_of (file_in first changes name).reads)) ≡ at = omega (arith, within) in
      record {
        on = passes (change_of name (Wrote at bytes)) later (Some name) (Some name) n m is le;
        picked = refl;
        leaves = λ told c left.
            subst (λ (k : ℕ). Stepped (OnBytes (IsTorn k (length bytes))) (file_in first changes name).may_leave c) start
            (subst (λ (f : FileState). f.may_leave c) (this_file name (Wrote at bytes) later is) left);
        others = λ told m other. others_same name (Wrote at bytes) later is m other;
      }

  pub wrote_reads : (name : List ℕ) (at : ℕ) (bytes : List ℕ) (later : List Change) (n m : ℕ) → later ≡ changes ++ (change_of name (Wrote at bytes)) ∷ []
      → at ≤ length (bytes_of (file_in first changes name).reads) → is_some (file_in first changes name).reads ≡ true
      → Reads (disk_state first changes (Some name) n) (disk_state first later (Some name) m) (after_write at bytes)
  wrote_reads name at bytes later n m is within there told =
      ap (λ (f : FileState). f.reads) (this_file name (Wrote at bytes) later is) ∙ start (file_in first changes name).reads there within
    where
      start : (i : Image) → is_some i ≡ true → at ≤ length (bytes_of i) → image_after (Wrote at bytes) i ≡ Some (written at bytes (bytes_of i))
      start None none le = absurd (cc none)
      start (Some old) some le = let e : min at (length old) ≡ at = omega (arith, le) in ap (λ (k : ℕ). Some (written k bytes old)) e

  pub cut_off : (name : List ℕ) (len : ℕ) (later : List Change) (n m : ℕ) → later ≡ changes ++ (change_of name (Cut len)) ∷ [] → n ≤ m
      → Changes (disk_state first changes (Some name) n) (disk_state first later (Some name) m) (after_cut len)
  cut_off name len later n m is le = record {
    on = passes (change_of name (Cut len)) later (Some name) (Some name) n m is le;
    picked = refl;
    leaves = λ told c left. subst (λ (f : FileState). f.may_leave c) (this_file name (Cut len) later is) left;
    others = λ told m other. others_same name (Cut len) later is m other;
  }

  pub cut_reads : (name : List ℕ) (len : ℕ) (later : List Change) (n m : ℕ) → later ≡ changes ++ (change_of name (Cut len)) ∷ []
      → is_some (file_in first changes name).reads ≡ true → Reads (disk_state first changes (Some name) n) (disk_state first later (Some name) m) (after_cut len)
  cut_reads name len later n m is there told =
      ap (λ (f : FileState). f.reads) (this_file name (Cut len) later is) ∙ cuts (file_in first changes name).reads there
    where
      cuts : (i : Image) → is_some i ≡ true → image_after (Cut len) i ≡ Some (take len (bytes_of i))
      cuts None none = absurd (cc none)
      cuts (Some old) some = refl

  pub synced_looks : (name : List ℕ) (later : List Change) (n m : ℕ) → later ≡ changes ++ (change_of name Synced) ∷ [] → n ≤ m
      → Looks (disk_state first changes (Some name) n) (disk_state first later (Some name) m)
  synced_looks name later n m is le = record {
    on = passes (change_of name Synced) later (Some name) (Some name) n m is le;
    picked = refl;
    files = λ told m other. file m;
  }
    where
      file : (m : List ℕ) → IsSameFile (file_in first changes m) (file_in first later m)
      file m = elim (cases_Bool (bytes_eq name m)) [
        | inl same ↦
            let here : IsSameFile (file_in first changes name) (file_in first later name) = record {
              reads = ap (λ (f : FileState). f.reads) (this_file name Synced later is);
              leaves = λ c left.
                  subst (λ (i : Image). (file_in first changes name).may_leave i)
                  (sym (subst (λ (f : FileState). f.may_leave c) (this_file name Synced later is) left)) (reads_now first changes name);
            } in
            subst (λ (k : List ℕ). IsSameFile (file_in first changes k) (file_in first later k)) ((bytes_eq-Decides name m).0 same) here
        | inr apart ↦ subst (λ (f : FileState). IsSameFile (file_in first changes m) f)
            (sym (ap (λ (l : List Change). file_in first l m) is ∙ other_file name m Synced apart)) (same_file m)
      ]

  pub synced : (name : List ℕ) (later : List Change) (n m : ℕ) → later ≡ changes ++ (change_of name Synced) ∷ []
      → IsSynced (disk_state first changes (Some name) n) (disk_state first later (Some name) m)
  synced name later n m is told c left = subst (λ (f : FileState). f.may_leave c) (this_file name Synced later is) left

  -- ---- by the fields of a disk

  moved : (R : DiskState → Type 0) (given : List Filed) (later : List Change) (p q : Option (List ℕ)) (m : ℕ) → given ≡ first → q ≡ p
      → R (disk_state first later p m) → R (disk_state given later q m)
  moved R given later p q m e d r =
      subst (λ (f : List Filed). R (disk_state f later q m)) (sym e) (subst (λ (k : Option (List ℕ)). R (disk_state first later k m)) (sym d) r)

  pub reads_there : (p : Option (List ℕ)) (files : List Filed) → AreCurrent first changes files → is_there p files ≡ true → is_some p ≡ true
      → is_some (file_in first changes (name_or_none p)).reads ≡ true
  reads_there None files current there some = absurd (cc some)
  reads_there (Some name) files current there some = ap is_some (current name) ∙ there

  pub wrote_by : (given : List Filed) (p q : Option (List ℕ)) (at : ℕ) (bytes : List ℕ) (later : List Change) (n m : ℕ) → given ≡ first → q ≡ p → is_some p ≡ true
      → later ≡ changes ++ (change_of (name_or_none p) (Wrote at bytes)) ∷ [] → n ≤ m → at ≤ length (bytes_of (file_in first changes (name_or_none p)).reads)
      → Changes (disk_state first changes p n) (disk_state given later q m) (after_write at bytes)
  wrote_by given None q at bytes later n m e d some is le within = absurd (cc some)
  wrote_by given (Some name) q at bytes later n m e d some is le within =
      moved (λ t. Changes (disk_state first changes (Some name) n) t (after_write at bytes)) given later (Some name) q m e d
      (wrote name at bytes later n m is le within)

  pub wrote_reads_by : (given : List Filed) (p q : Option (List ℕ)) (at : ℕ) (bytes : List ℕ) (later : List Change) (n m : ℕ) → given ≡ first → q ≡ p → is_some p ≡ true
      → later ≡ changes ++ (change_of (name_or_none p) (Wrote at bytes)) ∷ [] → at ≤ length (bytes_of (file_in first changes (name_or_none p)).reads)
      → is_some (file_in first changes (name_or_none p)).reads ≡ true
      → Reads (disk_state first changes p n) (disk_state given later q m) (after_write at bytes)
  wrote_reads_by given None q at bytes later n m e d some is within there = absurd (cc some)
  wrote_reads_by given (Some name) q at bytes later n m e d some is within there =
      moved (λ t. Reads (disk_state first changes (Some name) n) t (after_write at bytes)) given later (Some name) q m e d
      (wrote_reads name at bytes later n m is within there)

  pub cut_by : (given : List Filed) (p q : Option (List ℕ)) (len : ℕ) (later : List Change) (n m : ℕ) → given ≡ first → q ≡ p → is_some p ≡ true
      → later ≡ changes ++ (change_of (name_or_none p) (Cut len)) ∷ [] → n ≤ m → Changes (disk_state first changes p n) (disk_state given later q m) (after_cut len)
  cut_by given None q len later n m e d some is le = absurd (cc some)
  cut_by given (Some name) q len later n m e d some is le =
      moved (λ t. Changes (disk_state first changes (Some name) n) t (after_cut len)) given later (Some name) q m e d (cut_off name len later n m is le)

  pub cut_reads_by : (given : List Filed) (p q : Option (List ℕ)) (len : ℕ) (later : List Change) (n m : ℕ) → given ≡ first → q ≡ p → is_some p ≡ true
      → later ≡ changes ++ (change_of (name_or_none p) (Cut len)) ∷ [] → is_some (file_in first changes (name_or_none p)).reads ≡ true
      → Reads (disk_state first changes p n) (disk_state given later q m) (after_cut len)
  cut_reads_by given None q len later n m e d some is there = absurd (cc some)
  cut_reads_by given (Some name) q len later n m e d some is there =
      moved (λ t. Reads (disk_state first changes (Some name) n) t (after_cut len)) given later (Some name) q m e d (cut_reads name len later n m is there)

  pub synced_looks_by : (given : List Filed) (p q : Option (List ℕ)) (later : List Change) (n m : ℕ) → given ≡ first → q ≡ p → is_some p ≡ true
      → later ≡ changes ++ (change_of (name_or_none p) Synced) ∷ [] → n ≤ m → Looks (disk_state first changes p n) (disk_state given later q m)
  synced_looks_by given None q later n m e d some is le = absurd (cc some)
  synced_looks_by given (Some name) q later n m e d some is le =
      moved (λ t. Looks (disk_state first changes (Some name) n) t) given later (Some name) q m e d (synced_looks name later n m is le)

  pub synced_by : (given : List Filed) (p q : Option (List ℕ)) (later : List Change) (n m : ℕ) → given ≡ first → q ≡ p → is_some p ≡ true
      → later ≡ changes ++ (change_of (name_or_none p) Synced) ∷ [] → IsSynced (disk_state first changes p n) (disk_state given later q m)
  synced_by given None q later n m e d some is = absurd (cc some)
  synced_by given (Some name) q later n m e d some is =
      moved (λ t. IsSynced (disk_state first changes (Some name) n) t) given later (Some name) q m e d (synced name later n m is)

  -- ---- picking

  found : (f : FileState) (i : Image) → is_some i ≡ true → IsSameFile (made_where_missing i f) f
  found f None none = absurd (cc none)
  found f (Some bytes) some = record { reads = refl; leaves = λ c left. left }

  pub picks_found : (p : Option (List ℕ)) (q name : List ℕ) (make : Bool) (files : List Filed) (n m : ℕ) → q ≡ name → AreCurrent first changes files
      → is_some (held files name) ≡ true → PicksReady (disk_state first changes p n) (disk_state first changes (Some q) m) name make
  picks_found p q name make files n m e current there =
      let some = ap is_some (current name) ∙ there in
      record {
        picked = ap Some e;
        there = λ told no_make. some;
        file = λ told. found (file_in first changes name) (file_in first changes name).reads some;
        others = λ told k other. same_file k;
      }

  made_same : (f : FileState) → f.reads ≡ None → IsSameFile (made_where_missing f.reads f) (changed Made f)
  made_same f none =
      subst (λ (i : Image). IsSameFile (made_where_missing i f) (changed Made f)) (sym none) (record {
        reads = ap (image_after Made) none;
        leaves = λ c left. ⊎_elim inl (λ is. inr (is ∙ ap (image_after Made) none)) left;
      })

  pub picks_made : (p : Option (List ℕ)) (q name : List ℕ) (make : Bool) (files : List Filed) (later : List Change) (n m : ℕ) → q ≡ name → make ≡ true
      → AreCurrent first changes files → held files name ≡ None → later ≡ changes ++ (change_of name Made) ∷ []
      → PicksReady (disk_state first changes p n) (disk_state first later (Some q) m) name make
  picks_made p q name make files later n m e making current none is =
      record {
        picked = ap Some e;
        there = λ told no_make. absurd (cc (sym making ∙ no_make));
        file = λ told.
            subst (λ (f : FileState). IsSameFile (made_where_missing (file_in first changes name).reads (file_in first changes name)) f)
            (sym (this_file name Made later is)) (made_same (file_in first changes name) (current name ∙ none));
        others = λ told k other. others_same name Made later is k other;
      }

some_after : (what : FileChange) (i : Image) → is_some i ≡ true → is_some (image_after what i) ≡ true
some_after what None none = absurd (cc none)
some_after Made (Some old) some = refl
some_after (Wrote at bytes) (Some old) some = refl
some_after (Cut n) (Some old) some = refl
some_after Synced (Some old) some = refl

-- the changed file is still there
pub there_after : (name : List ℕ) (what : FileChange) (changes later : List Change) (old new : List Filed) → is_some (held old name) ≡ true
    → HasChanged name what changes later old new → is_some (held new name) ≡ true
there_after name what changes later old new there h =
    ap is_some (h.made name ∙ ap (λ (b : Bool). if b then image_after what (held old name) else held old name) (same_name name)) ∙ some_after what (held old name) there

-- and so is one that was made
pub there_made : (name : List ℕ) (changes later : List Change) (old new : List Filed) → held old name ≡ None
    → HasChanged name Made changes later old new → is_some (held new name) ≡ true
there_made name changes later old new none h =
    ap is_some (h.made name ∙ ap (λ (b : Bool). if b then image_after Made (held old name) else held old name) (same_name name) ∙ ap (image_after Made) none)

pub no_image : (i : Image) → is_some i ≡ false → i ≡ None
no_image None none = refl
no_image (Some bytes) some = absurd (cc some)

-- after a call that changed a file or was refused
pub record Kept (first : List Filed) (later : List Change) (new : List Filed) (name : List ℕ) : Type 0 where
  pub current : AreCurrent first later new
  pub there : is_some (held new name) ≡ true

pub kept_either : {E : Type 0} (r : Result (Unit {0}) E) (first : List Filed) (changes later : List Change) (old new : List Filed) (name : List ℕ) (what : FileChange)
    → AreCurrent first changes old → is_some (held old name) ≡ true → OnOk r (HasChanged name what changes later old new) → OnErr r (later ≡ changes) → OnErr r (new ≡ old)
    → Kept first later new name
kept_either (Ok u) first changes later old new name what current there ok changes_stay files_stay = record {
  current = current_after first changes name what later old new current ok;
  there = there_after name what changes later old new there ok;
}
kept_either (Err e) first changes later old new name what current there ok changes_stay files_stay = record {
  current = λ m. ap (λ (l : List Change). (file_in first l m).reads) changes_stay ∙ current m ∙ ap (λ (l : List Filed). held l m) (sym files_stay);
  there = ap (λ (l : List Filed). is_some (held l name)) files_stay ∙ there;
}
