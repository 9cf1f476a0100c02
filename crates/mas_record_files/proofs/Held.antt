-- Which file a name finds.
use Rattle.std.proofs.Common.{◌≡◌, ℕ, zero, suc, ◌+◌, Bool, true, false, if◌then◌else◌, List, [], ◌∷◌, ◌++◌, length, take, slice_get, slice_set, None, Some, is_some, refl, sym, ◌∙◌, ap, subst, arith, bytes_eq}
use Rattle.std.proofs.lemmas.List.{take_all}
use Rattle.std.proofs.lemmas.Slice.Eq.{bytes_eq-Decides}
use Rattle.asl_term.specs.declared.syntax.Filed.{Filed}
use Rattle.mas_record_disk.specs.Disk.{Image}
use Rattle.mas_record_files.specs.Memory.{held, image_after}
use Rattle.mas_record_files.specs.Disks.{Sets, FilesAfter}
use Rattle.mas_record_files.specs.declared.change.FileChange.{FileChange}
use Rattle.mas_record_files.specs.declared.change.FileChange.TheVariants.{Made}

abbrev if_same : Bool → Image → Image → Image
if_same b x y = if b then x else y

nested : (b : Bool) (x y z : Image) → if_same b x z ≡ if_same b x (if_same b y z)
nested true x y z = refl
nested false x y z = refl

swapped : (b c : Bool) (x y z : Image) → (b ≡ true → c ≡ true → ⊥) → if_same b x (if_same c y z) ≡ if_same c y (if_same b x z)
swapped true true x y z not_both = absurd (not_both refl refl)
swapped true false x y z not_both = refl
swapped false true x y z not_both = refl
swapped false false x y z not_both = refl

first_other : (b : Bool) (x : List ℕ) (y : Image) → if_same b (Some x) y ≡ None → b ≡ false
first_other true x y e = absurd (cc e)
first_other false x y e = refl

rest_none : (b : Bool) (x : List ℕ) (y : Image) → if_same b (Some x) y ≡ None → y ≡ None
rest_none true x y e = absurd (cc e)
rest_none false x y e = e

-- a name is not two others
not_both : (a b m : List ℕ) → bytes_eq a b ≡ false → bytes_eq a m ≡ true → bytes_eq b m ≡ true → ⊥
not_both a b m other one two =
    let same : a ≡ b = (bytes_eq-Decides a m).0 one ∙ sym ((bytes_eq-Decides b m).0 two) in
    absurd (cc (sym other ∙ (bytes_eq-Decides a b).1 same))

some_injective : (x y : Filed) → Some x ≡ Some y → x ≡ y
some_injective x y e = cc e

-- a name that finds none before a place finds what stands there
pub set_held : (files : List Filed) (i : ℕ) (f : Filed) (name bytes : List ℕ) → slice_get files i ≡ Some f → f.name ≡ name → held (take i files) name ≡ None
    → Sets name bytes files (slice_set files i (record { name = f.name; bytes = bytes }))
set_held [] i f name bytes at is none m = absurd (cc at)
set_held (g ∷ files) zero f name bytes at is none m =
    let there : g ≡ f = some_injective g f at in
    let g_name : g.name ≡ name = ap (λ (x : Filed). x.name) there ∙ is in
    ap (λ (n : List ℕ). if_same (bytes_eq n m) (Some bytes) (held files m)) is
    ∙ nested (bytes_eq name m) (Some bytes) (Some g.bytes) (held files m)
    ∙ ap (λ (n : List ℕ). if_same (bytes_eq name m) (Some bytes) (if_same (bytes_eq n m) (Some g.bytes) (held files m))) (sym g_name)
set_held (g ∷ files) (suc i) f name bytes at is none m =
    let other = first_other (bytes_eq g.name name) g.bytes (held (take i files) name) none in
    let before = rest_none (bytes_eq g.name name) g.bytes (held (take i files) name) none in
    ap (if_same (bytes_eq g.name m) (Some g.bytes)) (set_held files i f name bytes at is before m)
    ∙ swapped (bytes_eq g.name m) (bytes_eq name m) (Some g.bytes) (Some bytes) (held files m) (not_both g.name name m other)

-- none before the next place either
none_next : (files : List Filed) (i : ℕ) (f : Filed) (name : List ℕ) → slice_get files i ≡ Some f → bytes_eq f.name name ≡ false
    → held (take i files) name ≡ None → held (take (suc i) files) name ≡ None
none_next [] i f name at other none = absurd (cc at)
none_next (g ∷ files) zero f name at other none =
    let there : g ≡ f = some_injective g f at in
    ap (λ (b : Bool). if_same b (Some g.bytes) None) (ap (λ (x : Filed). bytes_eq x.name name) there ∙ other)
none_next (g ∷ files) (suc i) f name at other none =
    let apart = first_other (bytes_eq g.name name) g.bytes (held (take i files) name) none in
    let before = rest_none (bytes_eq g.name name) g.bytes (held (take i files) name) none in
    ap (if_same (bytes_eq g.name name) (Some g.bytes)) (none_next files i f name at other before) ∙ ap (λ (b : Bool). if_same b (Some g.bytes) None) apart

pub none_after : (files : List Filed) (i : ℕ) (f : Filed) (name : List ℕ) → slice_get files i ≡ Some f → bytes_eq f.name name ≡ false
    → held (take i files) name ≡ None → held (take (i + 1) files) name ≡ None
none_after files i f name at other none =
    let next : suc i ≡ i + 1 = omega arith in
    subst (λ (k : ℕ). held (take k files) name ≡ None) next (none_next files i f name at other none)

-- none at all
pub none_all : (files : List Filed) (n : ℕ) (name : List ℕ) → n ≡ length files → held (take n files) name ≡ None → is_some (held files name) ≡ true → ⊥
none_all files n name is none there =
    let all : take n files ≡ files = take_all n files (omega (arith, is)) in
    absurd (cc (sym there ∙ ap (λ (l : List Filed). is_some (held l name)) (sym all) ∙ ap is_some none))

-- a new file of a name that finds none
pub push_held : (files : List Filed) (name bytes : List ℕ) → held files name ≡ None → Sets name bytes files (files ++ (record { name = name; bytes = bytes }) ∷ [])
push_held [] name bytes none m = refl
push_held (g ∷ files) name bytes none m =
    let other = first_other (bytes_eq g.name name) g.bytes (held files name) none in
    let rest = rest_none (bytes_eq g.name name) g.bytes (held files name) none in
    ap (if_same (bytes_eq g.name m) (Some g.bytes)) (push_held files name bytes rest m)
    ∙ swapped (bytes_eq g.name m) (bytes_eq name m) (Some g.bytes) (Some bytes) (held files m) (not_both g.name name m other)

-- the change of a file that is there, and of one that was made
pub sets_after : (name : List ℕ) (what : FileChange) (old new : List ℕ) (files later : List Filed) → held files name ≡ Some old → Some new ≡ image_after what (Some old)
    → Sets name new files later → FilesAfter name what files later
sets_after name what old new files later there is sets m =
    sets m ∙ ap (λ (i : Image). if_same (bytes_eq name m) i (held files m)) (is ∙ ap (image_after what) (sym there))

pub made_after : (name : List ℕ) (files later : List Filed) → held files name ≡ None → Sets name [] files later → FilesAfter name Made files later
made_after name files later none sets m =
    sets m ∙ ap (λ (i : Image). if_same (bytes_eq name m) (image_after Made i) (held files m)) (sym none)
