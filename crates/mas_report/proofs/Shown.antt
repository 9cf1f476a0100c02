-- What bytes show of a run is read, and nothing else is.
use Rattle.std.proofs.Common.{ℕ, zero, suc, ◌≡◌, ◌<◌, ◌≤◌, ◌+◌, ◌*◌, ◌-◌, ◌/◌, ◌%◌, ◌^◌, arith, Bool, true, false, ◌&&◌, ◌||◌, nat_eq, nat_le, List, [], ◌∷◌, ◌++◌, length, Option, None, Some, refl, ap, ap₂, sym, subst, inl, inr, ◌⊎◌, ⊎_elim, IfSome, ◌∙◌, append_assoc, append-nil, codes, decimal, if◌then◌else◌, slice_get}
use Rattle.std.specs.Prelude.{MatchOption, Result, Ok, Err, IfOk}
use Rattle.std.proofs.lemmas.Grind.{common_steps}
use Rattle.std.proofs.lemmas.List.{append_cancel_left}
use Rattle.std.proofs.lemmas.Fmt.{decimal_by_steps, decimal_digit}
use Rattle.mas_mind.specs.declared.mind.Level.{Level}
use Rattle.mas_mind.specs.declared.mind.Level.TheVariants.{Say, Acts, Rules}
use Rattle.mas_report.specs.declared.options.Options.{Options}
use Rattle.mas_report.specs.declared.reading.Optioned.{Optioned}
use Rattle.mas_report.specs.declared.reading.Told.{Told}
use Rattle.mas_report.specs.Report.{level_word, field, limits_text, options_line, first_line}
use Rattle.mas_report.specs.Reading.{BeginsVersioned, NoVersion, AreWords, BeginsWith, NoOptions, Tells, TellsNothing, Shows, ShowsNothing, OneShown, ShownPrinted}
use Rattle.mas_report.specs.inner.Likely.{is_digit, from_digit, with_digit, number_on, number_at, next_number, level_by, likely_with, likely}
use Rattle.mas_report_schedule.specs.Schedule.{IsVersion, line_feed, lines_text, printed}
use Rattle.mas_report_schedule.specs.Reading.{EndsIn, EndsInNone}
use Rattle.mas_report_schedule.proofs.Ends.{are_short, one_end}
use Rattle.mas_report_schedule.proofs.Told.{printed-lines}

-- ---- a number

a_digit : (d : ℕ) → d < 10 → is_digit (48 + d) ≡ true
a_digit d l = grind (arith, common_steps)

fits : (n d : ℕ) → d < 10 → n * 10 + d < 2 ^ 64 → (is_digit (48 + d) && nat_le (n * 10 + (48 + d - 48)) 18446744073709551615) ≡ true
fits n d l h = grind (arith, common_steps)

pick : {X : Type 0} (b : Bool) (x y : X) → b ≡ true → (if b then x else y) ≡ x
pick b x y e = ap (λ c. if c then x else y) e

one_more : (n d m : ℕ) → d < 10 → m ≡ n * 10 + d → m < 2 ^ 64 → with_digit n (48 + d) ≡ Some m
one_more n d m l e s =
    let same : n * 10 + (48 + d - 48) ≡ m = omega arith in
    pick _ _ _ (fits n d l (omega arith)) ∙ ap Some same

-- what is read of the digits of a number: they begin with a digit, and behind them the number is read
record Reads (n : ℕ) (ds : List ℕ) : Type 0 where
  begins : (rest : List ℕ) → from_digit (ds ++ rest) ≡ ds ++ rest
  is : (rest : List ℕ) → n < 2 ^ 64 → number_at 0 (ds ++ rest) ≡ number_at n rest

begins_digit : (b : ℕ) (ds rest : List ℕ) → is_digit b ≡ true → from_digit ((b ∷ ds) ++ rest) ≡ (b ∷ ds) ++ rest
begins_digit b ds rest e = pick (is_digit b) (b ∷ (ds ++ rest)) (from_digit (ds ++ rest)) e

read_one : (n : ℕ) → n < 10 → Reads n ((48 + n) ∷ [])
read_one n l = record {
  begins = λ rest. begins_digit (48 + n) [] rest (a_digit n l);
  is = λ rest s. ap (number_on (λ m. number_at m rest) 0 ((48 + n) ∷ rest)) (one_more 0 n n l (omega arith) s);
}

read_more : (n : ℕ) (ds : List ℕ) → 10 ≤ n → Reads (n / 10) ds → Reads n (ds ++ ((48 + n % 10) ∷ []))
read_more n ds l h = record {
  begins = λ rest. ap from_digit (append_assoc ds ((48 + n % 10) ∷ []) rest) ∙ h.begins ((48 + n % 10) ∷ rest) ∙ sym (append_assoc ds ((48 + n % 10) ∷ []) rest);
  is = λ rest s.
      ap (number_at 0) (append_assoc ds ((48 + n % 10) ∷ []) rest)
      ∙ h.is ((48 + n % 10) ∷ rest) (omega arith)
      ∙ ap (number_on (λ m. number_at m rest) (n / 10) ((48 + n % 10) ∷ rest)) (one_more (n / 10) (n % 10) n (omega arith) (omega arith) s);
}

read_decimal : (n : ℕ) → n < 2 ^ 64 → Reads n (decimal n)
read_decimal n l = decimal_by_steps Reads read_one read_more n l

-- the number of a field, which a space (32) ends
next_is : (n : ℕ) (rest : List ℕ) → n < 2 ^ 64 → next_number (decimal n ++ 32 ∷ rest) ≡ (n, 32 ∷ rest)
next_is n rest l =
    let r = read_decimal n l in
    ap (number_at 0) (r.begins (32 ∷ rest)) ∙ r.is (32 ∷ rest) l

-- ---- the line of options

level_is : (level : Level) (rest : List ℕ) → level_by (slice_get (codes " level " ++ ((level_word level ++ line_feed) ++ rest)) 7) ≡ level
level_is Say rest = refl
level_is Acts rest = refl
level_is Rules rest = refl

-- what is behind each number of the line
abbrev behind_tries : Options → List ℕ → List ℕ
behind_tries o rest = codes " level " ++ ((level_word o.level ++ line_feed) ++ rest)

abbrev behind_depth : Options → List ℕ → List ℕ
behind_depth o rest = codes " tries " ++ (decimal o.tries ++ behind_tries o rest)

abbrev behind_lead : Options → List ℕ → List ℕ
behind_lead o rest = codes " depth " ++ (decimal o.depth ++ behind_depth o rest)

abbrev behind_cycles : Options → List ℕ → List ℕ
behind_cycles o rest = codes " lead " ++ (decimal o.lead ++ behind_lead o rest)

regroup : (a b c d e f g h i j k l rest : List ℕ) → (((a ++ b) ++ ((c ++ d) ++ ((e ++ f) ++ (g ++ h)))) ++ (i ++ (j ++ k))) ++ rest
    ≡ a ++ (b ++ (c ++ (d ++ (e ++ (f ++ (g ++ (h ++ (i ++ ((j ++ k) ++ rest)))))))))
regroup a b c d e f g h i j k l rest = simp append_assoc

line_is : (o : Options) (rest : List ℕ) → options_line o ++ rest ≡ codes "cycles " ++ (decimal o.cycles ++ behind_cycles o rest)
unfolding options_line limits_text
line_is o rest = regroup (codes "cycles ") (decimal o.cycles) (codes " lead ") (decimal o.lead) (codes " depth ") (decimal o.depth) (codes " tries ") (decimal o.tries) (codes " level ") (level_word o.level) line_feed [] rest

pub likely_is : (bytes : List ℕ) (o : Options) (rest : List ℕ) → BeginsWith bytes o rest → likely bytes ≡ o
likely_is bytes o rest h =
    let c : next_number bytes ≡ (o.cycles, behind_cycles o rest) = ap next_number (h.is ∙ line_is o rest) ∙ next_is o.cycles _ h.words.cycles in
    let l : next_number (next_number bytes).1 ≡ (o.lead, behind_lead o rest) = ap (λ x. next_number x.1) c ∙ next_is o.lead _ h.words.lead in
    let d : next_number (next_number (next_number bytes).1).1 ≡ (o.depth, behind_depth o rest) = ap (λ x. next_number x.1) l ∙ next_is o.depth _ h.words.depth in
    let t : next_number (next_number (next_number (next_number bytes).1).1).1 ≡ (o.tries, behind_tries o rest) = ap (λ x. next_number x.1) d ∙ next_is o.tries _ h.words.tries in
    ap (λ x. likely_with x (next_number (next_number bytes).1) (next_number (next_number (next_number bytes).1).1) (next_number (next_number (next_number (next_number bytes).1).1).1)) c
    ∙ ap (λ x. likely_with (o.cycles, behind_cycles o rest) x (next_number (next_number (next_number bytes).1).1) (next_number (next_number (next_number (next_number bytes).1).1).1)) l
    ∙ ap (λ x. likely_with (o.cycles, behind_cycles o rest) (o.lead, behind_lead o rest) x (next_number (next_number (next_number (next_number bytes).1).1).1)) d
    ∙ ap (λ x. likely_with (o.cycles, behind_cycles o rest) (o.lead, behind_lead o rest) (o.depth, behind_depth o rest) x) t
    ∙ ap (λ x. record { cycles = o.cycles; lead = o.lead; depth = o.depth; tries = o.tries; level = x }) (level_is o.level rest)

pub options_are : (bytes : List ℕ) (o : Options) (line rest : List ℕ) → AreWords o → line ≡ options_line o → bytes ≡ line ++ rest → BeginsWith bytes o rest
options_are bytes o line rest w e f = record { words = w; is = f ∙ ap (λ x. x ++ rest) e }

pub no_options : (bytes : List ℕ) (o : Options) (line : List ℕ) → o ≡ likely bytes → line ≡ options_line o → ((rest : List ℕ) → bytes ≡ line ++ rest → ⊥) → NoOptions bytes
no_options bytes o line e f none p rest h =
    let same : p ≡ o = sym (likely_is bytes p rest h) ∙ sym e in
    none rest (h.is ∙ ap (λ x. options_line x ++ rest) same ∙ ap (λ x. x ++ rest) (sym f))

same_rest : (bytes : List ℕ) (o p : Options) (rest others : List ℕ) → o ≡ p → BeginsWith bytes o rest → BeginsWith bytes p others → rest ≡ others
same_rest bytes o p rest others e h g =
    append_cancel_left (options_line p) rest others (ap (λ x. options_line x ++ rest) (sym e) ∙ sym h.is ∙ g.is)

-- bytes begin with one line of options
one_line : (bytes : List ℕ) (o p : Options) (rest others : List ℕ) → BeginsWith bytes o rest → BeginsWith bytes p others → (o ≡ p) × (rest ≡ others)
one_line bytes o p rest others h g =
    let same : o ≡ p = sym (likely_is bytes o rest h) ∙ likely_is bytes p others g in
    (same, same_rest bytes o p rest others same h g)

-- ---- the first line

some_same : {A : Type 0} {x y : A} → Some x ≡ Some y → x ≡ y
some_same e = cc

first_one : first_line 1 ≡ codes "jasonrun 1\n"
unfolding first_line
first_one = ap (λ d. codes "jasonrun " ++ (d ++ line_feed)) (decimal_digit 1 (omega arith))

first_two : first_line 2 ≡ codes "jasonrun 2\n"
unfolding first_line
first_two = ap (λ d. codes "jasonrun " ++ (d ++ line_feed)) (decimal_digit 2 (omega arith))

pub version_one : (bytes rest : List ℕ) → bytes ≡ codes "jasonrun 1\n" ++ rest → BeginsVersioned bytes 1 rest
version_one bytes rest e = record { known = inl refl; is = e ∙ ap (λ x. x ++ rest) (sym first_one) }

pub version_two : (bytes rest : List ℕ) → bytes ≡ codes "jasonrun 2\n" ++ rest → BeginsVersioned bytes 2 rest
version_two bytes rest e = record { known = inr refl; is = e ∙ ap (λ x. x ++ rest) (sym first_two) }

-- the bytes begin with one of the two lines
first_is : (bytes : List ℕ) (version : ℕ) (rest : List ℕ) → BeginsVersioned bytes version rest →
    ((version ≡ 1) × (bytes ≡ codes "jasonrun 1\n" ++ rest)) ⊎ ((version ≡ 2) × (bytes ≡ codes "jasonrun 2\n" ++ rest))
first_is bytes version rest h = go h.known
  where
    go : IsVersion version → ((version ≡ 1) × (bytes ≡ codes "jasonrun 1\n" ++ rest)) ⊎ ((version ≡ 2) × (bytes ≡ codes "jasonrun 2\n" ++ rest))
    go (inl e) = inl (e, h.is ∙ ap (λ v. first_line v ++ rest) e ∙ ap (λ x. x ++ rest) first_one)
    go (inr e) = inr (e, h.is ∙ ap (λ v. first_line v ++ rest) e ∙ ap (λ x. x ++ rest) first_two)

pub no_version : (bytes : List ℕ) → ((rest : List ℕ) → bytes ≡ codes "jasonrun 1\n" ++ rest → ⊥) → ((rest : List ℕ) → bytes ≡ codes "jasonrun 2\n" ++ rest → ⊥) → NoVersion bytes
no_version bytes one two version rest h = ⊎_elim (λ (v, e). one rest e) (λ (v, e). two rest e) (first_is bytes version rest h)

apart : (rest others : List ℕ) → codes "jasonrun 1\n" ++ rest ≡ codes "jasonrun 2\n" ++ others → ⊥
apart rest others e = absurd (digits (some_same (ap (λ (x : List ℕ). slice_get x 9) e)))
  where
    digits : ◌≡◌ {A = ℕ} 49 50 → ⊥
    digits f = omega arith

same_one : (rest others : List ℕ) → codes "jasonrun 1\n" ++ rest ≡ codes "jasonrun 1\n" ++ others → rest ≡ others
same_one rest others e = cc

same_two : (rest others : List ℕ) → codes "jasonrun 2\n" ++ rest ≡ codes "jasonrun 2\n" ++ others → rest ≡ others
same_two rest others e = cc

-- they begin with the first line of one version
one_version : (bytes : List ℕ) (v w : ℕ) (rest others : List ℕ) → BeginsVersioned bytes v rest → BeginsVersioned bytes w others → (v ≡ w) × (rest ≡ others)
one_version bytes v w rest others h g = go (first_is bytes v rest h) (first_is bytes w others g)
  where
    go : ((v ≡ 1) × (bytes ≡ codes "jasonrun 1\n" ++ rest)) ⊎ ((v ≡ 2) × (bytes ≡ codes "jasonrun 2\n" ++ rest)) →
        ((w ≡ 1) × (bytes ≡ codes "jasonrun 1\n" ++ others)) ⊎ ((w ≡ 2) × (bytes ≡ codes "jasonrun 2\n" ++ others)) → (v ≡ w) × (rest ≡ others)
    go (inl (a, e)) (inl (b, f)) = (a ∙ sym b, same_one rest others (sym e ∙ f))
    go (inl (a, e)) (inr (b, f)) = absurd (apart rest others (sym e ∙ f))
    go (inr (a, e)) (inl (b, f)) = absurd (apart others rest (sym f ∙ e))
    go (inr (a, e)) (inr (b, f)) = (a ∙ sym b, same_two rest others (sym e ∙ f))

-- ---- what is behind it

pub tells_both : (behind : List ℕ) (o : Options) (rest turns : List ℕ) → BeginsWith behind o rest → EndsIn rest turns → Tells behind o turns
tells_both behind o rest turns b h = record { rest = rest; options = b; schedule = h }

pub not_optioned : (behind : List ℕ) → NoOptions behind → TellsNothing behind
not_optioned behind none o turns h = none o h.rest h.options

pub not_scheduled : (behind : List ℕ) (o : Options) (rest : List ℕ) → BeginsWith behind o rest → EndsInNone rest → TellsNothing behind
not_scheduled behind o rest b none p turns h =
    let l = one_line behind o p rest h.rest b h.options in
    none turns (subst (λ x. EndsIn x turns) (sym l.1) h.schedule)

-- the same by what a call answered
pub not_optioned_by : (behind : List ℕ) (r : Option Optioned) → r ≡ None → MatchOption r (NoOptions behind) (λ f. BeginsWith behind f.options f.behind.now) → TellsNothing behind
not_optioned_by behind r e h =
    not_optioned behind (subst (λ (x : Option Optioned). MatchOption x (NoOptions behind) (λ f. BeginsWith behind f.options f.behind.now)) e h)

pub not_scheduled_by : (behind : List ℕ) (o : Options) (rest : List ℕ) (r : Option (List ℕ)) → BeginsWith behind o rest → r ≡ None →
    MatchOption r (EndsInNone rest) (EndsIn rest) → TellsNothing behind
not_scheduled_by behind o rest r b e h = not_scheduled behind o rest b (subst (λ x. MatchOption x (EndsInNone rest) (EndsIn rest)) e h)

one_told : (behind : List ℕ) (o p : Options) (turns others : List ℕ) → Tells behind o turns → Tells behind p others → (o ≡ p) × (turns ≡ others)
one_told behind o p turns others h g =
    let l = one_line behind o p h.rest g.rest h.options g.options in
    (l.0, one_end g.rest turns others (subst (λ x. EndsIn x turns) l.1 h.schedule) g.schedule)

-- ---- the whole

pub no_first : (bytes : List ℕ) → NoVersion bytes → ShowsNothing bytes
no_first bytes none t h = none t.version h.behind h.first

nothing_behind : (bytes : List ℕ) (version : ℕ) (behind : List ℕ) → BeginsVersioned bytes version behind → TellsNothing behind → ShowsNothing bytes
nothing_behind bytes version behind b none t h =
    let l = one_version bytes version t.version behind h.behind b h.first in
    none t.options t.turns (subst (λ x. Tells x t.options t.turns) (sym l.1) h.tells)

shows : (bytes : List ℕ) (version : ℕ) (behind : List ℕ) (t : Told) → BeginsVersioned bytes version behind → t.version ≡ version → Tells behind t.options t.turns → Shows bytes t
shows bytes version behind t b v h = record { behind = behind; first = subst (λ x. BeginsVersioned bytes x behind) (sym v) b; tells = h }

-- what is told behind the first line is told by the bytes
pub told_of : (bytes : List ℕ) (version : ℕ) (behind : List ℕ) (r : Option Told) → BeginsVersioned bytes version behind → IfSome r (λ t. t.version ≡ version) →
    MatchOption r (TellsNothing behind) (λ t. Tells behind t.options t.turns) → MatchOption r (ShowsNothing bytes) (Shows bytes)
told_of bytes version behind None b v h = nothing_behind bytes version behind b h
told_of bytes version behind (Some t) b v h = shows bytes version behind t b v h

-- the same of what a call answered
pub told_from : {E : Type 0} (bytes : List ℕ) (version : ℕ) (behind : List ℕ) (r : Result (Option Told) E) → BeginsVersioned bytes version behind →
    IfOk r (λ o. IfSome o (λ t. t.version ≡ version)) → IfOk r (λ o. MatchOption o (TellsNothing behind) (λ t. Tells behind t.options t.turns)) →
    IfOk r (λ o. MatchOption o (ShowsNothing bytes) (Shows bytes))
told_from bytes version behind (Ok o) b v h = told_of bytes version behind o b v h
told_from bytes version behind (Err why) b v h = tt

abbrev made : ℕ → Options → List ℕ → Told
made version o turns = record { version = version; options = o; turns = turns }

pub one_shown : OneShown
one_shown bytes t u h g =
    let v = one_version bytes t.version u.version h.behind g.behind h.first g.first in
    let l = one_told g.behind t.options u.options t.turns u.turns (subst (λ x. Tells x t.options t.turns) v.1 h.tells) g.tells in
    ap (λ x. made x t.options t.turns) v.0 ∙ ap (λ x. made u.version x t.turns) l.0 ∙ ap (λ x. made u.version u.options x) l.1

gather : (a b c d : List ℕ) → a ++ (b ++ (c ++ d)) ≡ (a ++ (b ++ c)) ++ d
gather a b c d = simp append_assoc

pub shown_printed : ShownPrinted
shown_printed bytes t h =
    let s = h.tells.schedule in
    let first = first_line t.version in
    let line = options_line t.options in
    let lines = lines_text (length t.turns) s.schedule.entries in
    let e : bytes ≡ (first ++ (line ++ s.front)) ++ lines =
    h.first.is ∙ ap (λ x. first ++ x) (h.tells.options.is ∙ ap (λ x. line ++ x) (s.is ∙ ap (λ x. s.front ++ x) s.schedule.is)) ∙ gather first line s.front lines in
    ap printed e ∙ printed-lines (first ++ (line ++ s.front)) (length t.turns) s.schedule.entries (are_short s.schedule.entries s.schedule.each) ∙ s.schedule.stand
