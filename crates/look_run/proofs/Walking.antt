-- A run along numbers, and the texts before those that are marked.
use Rattle.std.proofs.Common.{ℕ, ◌≡◌, ◌≤◌, ◌+◌, ◌<◌, arith, Bool, true, false, not, List, [], ◌∷◌, ◌++◌, length, take, drop, get_or, take-append-drop}
use Rattle.std.proofs.Common.{Option, None, Some, refl, ap, sym, subst, ◌∙◌, append_assoc, append-nil, below_more}
use Rattle.std.proofs.lemmas.List.{drop_more, get_or_append_left, get_or_push, length_push, take_all, take_more}
use Rattle.mas_mind.specs.Minds.{Kind}
use Rattle.mas_core.specs.Platform.{Platform, turn, run, and_run}
use Rattle.mas_core.specs.Fits.{Played, TurnMade}
use Rattle.mas_core.proofs.Turns.{one-turn, run-append, run-on}
use Rattle.look_run.specs.Steps.{HasGone}
use Rattle.look_run.specs.Before.{AreBefore, HasStepped, IsBefore, is_marked}

-- ---- a turn

pub not_made : {V : Type 0} (turned : Option (Platform V)) (old new : Played V) (a : ℕ) (made : Bool) → TurnMade turned old new a made → not made ≡ true →
    turned ≡ None
not_made turned old new a false h e = h.turn
not_made turned old new a true h e = cc

pub was_made : {V : Type 0} (turned : Option (Platform V)) (old new : Played V) (a : ℕ) (made : Bool) → TurnMade turned old new a made → not made ≡ false →
    (turned ≡ Some new.platform) × (new.schedule ≡ old.schedule ++ a ∷ [])
was_made turned old new a true h e = (h.turn, h.schedule)
was_made turned old new a false h e = cc

-- ---- many turns

-- the first i numbers had their turn, and these are their texts
pub record Walking {V : Type 0} (k : Kind V) (texts : V → List (List ℕ)) (first : Played V) (names : List ℕ) (marks : List Bool) (play : Played V)
    (cs : List (List (List ℕ))) (i : ℕ) : Type 0 where
  pub ran : run k first.platform (take i names) ≡ Some play.platform
  pub schedule : play.schedule ≡ first.schedule ++ take i names
  pub number : length cs ≡ i
  pub each : (t : ℕ) → t < i → IsBefore k texts first.platform names marks t (get_or cs t [])

module _ {V : Type 0} (k : Kind V) (texts : V → List (List ℕ)) (first : Played V) (names : List ℕ) (marks : List Bool) where
  pub begun : Walking k texts first names marks first [] 0
  begun = record { ran = refl; schedule = sym (append-nil first.schedule); number = refl; each = λ t l. absurd (omega arith) }

  module _ (play : Played V) (cs : List (List (List ℕ))) (i : ℕ) (h : Walking k texts first names marks play cs i) where
    module _ (l : i < length names) (new : Played V) (c : List (List ℕ)) (s : HasStepped k texts play (get_or names i 0) (is_marked marks i) new (Some c)) where
      more : take (i + 1) names ≡ take i names ++ get_or names i 0 ∷ []
      more = take_more names i 0 l

      ran_on : run k first.platform (take (i + 1) names) ≡ Some new.platform
      ran_on =
          ap (run k first.platform) more
          ∙ run-on k first.platform play.platform new.platform (take i names) (get_or names i 0 ∷ []) h.ran
          (one-turn k play.platform new.platform (get_or names i 0) s.0)

      pub walked : Walking k texts first names marks new (cs ++ c ∷ []) (i + 1)
      walked = record {
        ran = ran_on;
        schedule =
            s.1 ∙ ap (λ x. x ++ get_or names i 0 ∷ []) h.schedule ∙ append_assoc first.schedule (take i names) (get_or names i 0 ∷ [])
            ∙ ap (λ x. first.schedule ++ x) (sym more);
        number = length_push cs c ∙ ap (λ n. n + 1) h.number;
        each = below_more (λ t. IsBefore k texts first.platform names marks t (get_or (cs ++ c ∷ []) t [])) i
            (λ t less. subst (λ x. IsBefore k texts first.platform names marks t x)
            (sym (get_or_append_left cs (c ∷ []) [] t (subst (λ n. t < n) (sym h.number) less))) (h.each t less))
            (record { before = play.platform; ran = h.ran; is = get_or_push cs c [] i h.number ∙ s.2 });
      }

    pub stopped : i < length names → turn k play.platform (get_or names i 0) ≡ None → run k first.platform names ≡ None
    stopped l e =
        ap (run k first.platform) (sym (take-append-drop i names)) ∙ run-append k first.platform (take i names) (drop i names)
        ∙ ap (and_run (λ q. run k q (drop i names))) h.ran ∙ ap (run k play.platform) (drop_more names i 0 l)
        ∙ ap (and_run (λ q. run k q (drop (i + 1) names))) e

    pub gone : length names ≤ i → HasGone k first names play
    gone l = record {
      ran = ap (run k first.platform) (sym (take_all i names l)) ∙ h.ran;
      schedule = h.schedule ∙ ap (λ x. first.schedule ++ x) (take_all i names l);
    }

    pub all_told : i ≡ length names → AreBefore k texts first.platform names marks cs
    all_told e = record { number = h.number ∙ e; each = λ t less. h.each t (subst (λ n. t < n) (sym e) less) }
