-- Runs along numbers, from a play on.
use Rattle.std.proofs.Common.{ℕ, zero, suc, ◌≡◌, ◌≤◌, ◌+◌, ◌<◌, arith, Bool, true, false, not, List, [], ◌∷◌, ◌++◌, length, drop, slice_index_or, is_some, Option, None, Some, refl, ap, sym, subst, ◌∙◌, append_assoc, append-nil}
use Rattle.std.specs.Prelude.{Result, Ok, Err, IfOk}
use Rattle.std.proofs.lemmas.List.{at_drop_all}
use Rattle.mas_mind.specs.Minds.{Kind}
use Rattle.mas_core.specs.Platform.{Platform, turn, run, and_run, first_here}
use Rattle.mas_core.specs.Fits.{Played, TurnMade}
use Rattle.mas_core.proofs.Replays.{none_here}
use Rattle.mas_report.proofs.Judged as judged
use Rattle.mas_report.specs.declared.options.Options.{Options}
use Rattle.mas_report.specs.Report.{Decided}
use Rattle.look_run.specs.Steps.{HasGone, HasReport, IsReported, LeadsToReport}

drop_next : (names : List ℕ) (i : ℕ) → i < length names → drop i names ≡ slice_index_or names i 0 ∷ drop (i + 1) names
drop_next [] i l = absurd (omega arith)
drop_next (x ∷ names) zero l = refl
drop_next (x ∷ names) (suc i) l = let e : suc i + 1 ≡ suc (i + 1) = omega arith in rw e (drop_next names i (omega arith))

was_made : {V : Type 0} (turned : Option (Platform V)) (old new : Played V) (a : ℕ) (made : Bool) →
    TurnMade turned old new a made → not made ≡ false → (turned ≡ Some new.platform) × (new.schedule ≡ old.schedule ++ (a ∷ []))
was_made turned old new a true h e = (h.turn, h.schedule)
was_made turned old new a false h e = cc

not_made : {V : Type 0} (turned : Option (Platform V)) (old new : Played V) (a : ℕ) (made : Bool) → TurnMade turned old new a made → not made ≡ true → turned ≡ None
not_made turned old new a false h e = h.turn
not_made turned old new a true h e = cc

-- what the loop keeps
pub record Going {V : Type 0} (k : Kind V) (first : Played V) (names : List ℕ) (play : Played V) (i : ℕ) : Type 0 where
  pub schedule : play.schedule ++ drop i names ≡ first.schedule ++ names
  pub ran : run k first.platform names ≡ run k play.platform (drop i names)

pub going_on : {V : Type 0} (k : Kind V) (first : Played V) (names : List ℕ) (old new : Played V) (i : ℕ) (made : Bool) → Going k first names old i → i < length names →
    TurnMade (turn k old.platform (slice_index_or names i 0)) old new (slice_index_or names i 0) made → not made ≡ false → Going k first names new (i + 1)
going_on k first names old new i made h l t m =
    let w = was_made _ _ _ _ _ t m in
    let a = slice_index_or names i 0 in
    let d = drop_next names i l in
    record {
      schedule = ap (λ x. x ++ drop (i + 1) names) w.1 ∙ append_assoc old.schedule (a ∷ []) (drop (i + 1) names) ∙ ap (λ x. old.schedule ++ x) (sym d) ∙ h.schedule;
      ran = h.ran ∙ ap (run k old.platform) d ∙ ap (and_run (λ q. run k q (drop (i + 1) names))) w.0;
    }

pub going_stops : {V : Type 0} (k : Kind V) (first : Played V) (names : List ℕ) (old new : Played V) (i : ℕ) (made : Bool) → Going k first names old i → i < length names →
    TurnMade (turn k old.platform (slice_index_or names i 0)) old new (slice_index_or names i 0) made → not made ≡ true → run k first.platform names ≡ None
going_stops k first names old new i made h l t m =
    h.ran ∙ ap (run k old.platform) (drop_next names i l) ∙ ap (and_run (λ q. run k q (drop (i + 1) names))) (not_made _ _ _ _ _ t m)

all_dropped : (names : List ℕ) (i : ℕ) → length names ≤ i → drop i names ≡ []
all_dropped names i l = at_drop_all (λ x. x) names i l

pub gone : {V : Type 0} (k : Kind V) (first : Played V) (names : List ℕ) (play : Played V) (i : ℕ) → length names ≤ i → Going k first names play i → HasGone k first names play
gone k first names play i l h =
    let d = all_dropped names i l in
    record {
      ran = h.ran ∙ ap (run k play.platform) d;
      schedule = sym (append-nil play.schedule) ∙ sym (ap (λ x. play.schedule ++ x) d) ∙ h.schedule;
    }

-- ---- the end

module _ {V : Type 0} (k : Kind V) (version : ℕ) (o : Options) (bytes : List ℕ) (play : Played V) where
  pub is_reported : first_here 1 play.platform.board.seats ≡ None → HasReport k version o bytes play → IsReported k version o bytes play
  is_reported n h = record { ended = none_here 1 play.platform.board.seats n; report = h }

  pub not_reported : (HasReport k version o bytes play → ⊥) → IsReported k version o bytes play → ⊥
  not_reported n h = n h.report

  pub not_ended : (f : Option ℕ) → f ≡ first_here 1 play.platform.board.seats → is_some f ≡ true → IsReported k version o bytes play → ⊥
  not_ended f e s h = go f s (e ∙ judged.none_here 1 play.platform.board.seats h.ended) where
    go : (f : Option ℕ) → is_some f ≡ true → f ≡ None → ⊥
    go None s e = cc
    go (Some a) s e = cc

  none_left : (f : Option ℕ) → is_some f ≡ false → f ≡ None
  none_left None e = refl
  none_left (Some a) e = cc

  reported_by : (b : Bool) → first_here 1 play.platform.board.seats ≡ None → Decided (HasReport k version o bytes play) b → Decided (IsReported k version o bytes play) b
  reported_by true n h = is_reported n h
  reported_by false n h = not_reported h

  pub reported : {E : Type 0} (f : Option ℕ) (r : Result Bool E) → f ≡ first_here 1 play.platform.board.seats → is_some f ≡ false →
      IfOk r (Decided (HasReport k version o bytes play)) → IfOk r (Decided (IsReported k version o bytes play))
  reported f (Ok b) e s h = reported_by b (sym e ∙ none_left f s) h
  reported f (Err why) e s h = tt

  module _ (names : List ℕ) where
    pub leads : (after : Played V) → HasGone k play names after → IsReported k version o bytes after → LeadsToReport k version o bytes play names
    leads after g r = record { after = after; gone = g; reported = r }

    pub leads_nowhere : run k play.platform names ≡ None → LeadsToReport k version o bytes play names → ⊥
    leads_nowhere n h = let e = h.gone.ran in cc

    -- numbers lead to one play at most
    one_play : (after other : Played V) → HasGone k play names after → HasGone k play names other → after ≡ other
    one_play after other g h =
        let e : Some after.platform ≡ Some other.platform = sym g.ran ∙ h.ran in
        let p : after.platform ≡ other.platform = cc in
        let s = g.schedule ∙ sym h.schedule in
        λ i. record { platform = p i; schedule = s i }

    pub leads_elsewhere : (after : Played V) → HasGone k play names after → (IsReported k version o bytes after → ⊥) → LeadsToReport k version o bytes play names → ⊥
    leads_elsewhere after g n h = n (let P = IsReported k version o bytes in subst P (one_play h.after after h.gone g) h.reported)

    pub led : {E : Type 0} (after : Played V) (r : Result Bool E) → HasGone k play names after → IfOk r (Decided (IsReported k version o bytes after)) →
        IfOk r (Decided (LeadsToReport k version o bytes play names))
    led after (Ok true) g h = leads after g h
    led after (Ok false) g h = leads_elsewhere after g h
    led after (Err why) g h = tt
