-- As many ways as agents, all along the fold of two sites on one thread.
use Rattle.std.proofs.Common.{ℕ, zero, suc, ◌≡◌, ◌+◌, ◌-◌, Bool, true, false, List, [], length, replicate, slice_get, Option, None, Some, IfSome, refl, ◌∙◌, subst, if◌then◌else◌}
use Rattle.std.proofs.lemmas.List.{length-replicate}
use Rattle.mas_mind.specs.declared.mind.Input.{Input}
use Rattle.mas_mind.specs.declared.mind.Message.{Message}
use Rattle.mas_mind.specs.Minds.{Kind}
use Rattle.mas_board.specs.declared.seats.Phase.{Phase}
use Rattle.mas_board.specs.declared.seats.Phase.TheVariants.{Idle, Busy, Left as Gone}
use Rattle.mas_board.specs.declared.seats.Sensed.{Sensed}
use Rattle.mas_board.specs.declared.seats.Sensed.TheVariants.{Input as Given, Left, Ahead, Halted}
use Rattle.mas_board.specs.Boards.{seat_at, sense, later}
use Rattle.mas_core.specs.Platform.{Platform, turn}
use Rattle.mas_sites_stand.specs.declared.seated.Seated.{Seated}
use Rattle.mas_sites_stand.specs.declared.seated.Seated.TheVariants as seat
use Rattle.mas_sites_stand.specs.Seats.{seated}
use Rattle.mas_sites_scripts.specs.Giving.{leaving}
use Rattle.mas_sites_scripts.specs.Sites.{Sited}
use Rattle.mas_sites_scripts.specs.Ways.{put_last}
use Rattle.mas_sites_scripts.specs.Meeting.{Going, sent, mind_given, given_at, given_in, after_turn, site_turn, and_then, is_here, go, goes, round, Meeting, second, mapped, both_round, have_ended, meet}
use Rattle.mas_sites_scripts.proofs.Changes.{change_length}
use Rattle.mas_sites_rounds.specs.Rounds.{met}

-- ---- a turn

sent_ways : (m : Option Message) (ways : List (List Message)) → length (sent m ways) ≡ length ways
sent_ways None ways = refl
sent_ways (Some m) ways = change_length (m.from - 1) (put_last m) ways

mind_ways : {V : Type 0} (g : Going V) (a : ℕ) (input : Input) (o : Option (Seated V)) → length (mind_given g a input o).ways ≡ length g.ways
mind_ways g a input None = refl
mind_ways g a input (Some (seat.Own m)) = refl
mind_ways g a input (Some (seat.Stand s)) =
    let m = leaving g.site.platform.minds input.message in
    change_length (a - 1) later (sent m g.ways) ∙ sent_ways m g.ways

at_ways : {V : Type 0} (g : Going V) (a : ℕ) (r : Sensed) → length (given_at g a r).ways ≡ length g.ways
at_ways g a (Given input) = mind_ways g a input (slice_get g.site.platform.minds (a - 1))
at_ways g a (Left end) = refl
at_ways g a (Ahead cycle lowest) = refl
at_ways g a Halted = refl

in_ways : {V : Type 0} (g : Going V) (a : ℕ) (phase : Phase) → length (given_in g a phase).ways ≡ length g.ways
in_ways g a Idle = at_ways g a (sense g.site.platform.board a).0
in_ways g a Busy = refl
in_ways g a (Gone end) = refl

-- ---- so many ways, where it comes to a state

abbrev Have : {V : Type 0} → ℕ → Option (Going V) → Type 0
Have n o = IfSome o (λ g. length g.ways ≡ n)

abbrev BothHave : {V : Type 0} → ℕ → Option (Meeting V) → Type 0
BothHave n o = IfSome o (λ m. length m.ways ≡ n)

then_has : {A B : Type 0} (P : A → Type 0) (Q : B → Type 0) (f : A → Option B) (o : Option A) → IfSome o P → ((x : A) → P x → IfSome (f x) Q) → IfSome (and_then f o) Q
then_has P Q f None h more = tt
then_has P Q f (Some x) h more = more x h

after_has : {V : Type 0} (n : ℕ) (g : Going V) (a : ℕ) (o : Option (Platform (Seated V))) → length g.ways ≡ n → Have n (after_turn g a o)
after_has n g a None e = tt
after_has n g a (Some p) e = e

module _ {V : Type 0} (k : Kind V) (n : ℕ) where
  turn_has : (g : Going V) (a : ℕ) → length g.ways ≡ n → Have n (site_turn k g a)
  turn_has g a e =
      let h = given_in g a (seat_at g.site.platform.board a).phase in
      after_has n h a (turn (seated k) h.site.platform a) (in_ways g a (seat_at g.site.platform.board a).phase ∙ e)

  here_has : (g : Going V) (a : ℕ) (here : Bool) → length g.ways ≡ n → Have n (if here then site_turn k g a else Some g)
  here_has g a true e = turn_has g a e
  here_has g a false e = e

  go_case : (g : Going V) (a : ℕ) (here : Bool) → length g.ways ≡ n →
      Have n (if here then and_then (λ h. if is_here h a then site_turn k h a else Some h) (site_turn k g a) else Some g)
  go_case g a true e =
      then_has (λ h. length h.ways ≡ n) (λ h. length h.ways ≡ n) (λ h. if is_here h a then site_turn k h a else Some h) (site_turn k g a)
      (turn_has g a e) (λ h f. here_has h a (is_here h a) f)
  go_case g a false e = e

  goes_has : (a i : ℕ) (g : Going V) → length g.ways ≡ n → Have n (goes k a i g)
  goes_has a zero g e = e
  goes_has a (suc i) g e =
      then_has (λ h. length h.ways ≡ n) (λ h. length h.ways ≡ n) (goes k (a + 1) i) (go k g a) (go_case g a (is_here g a) e) (λ h f. goes_has (a + 1) i h f)

  -- ---- rounds of both sites

  round_has : (g : Going V) → length g.ways ≡ n → Have n (round k g)
  round_has g e = goes_has 1 (length g.site.platform.board.seats) g e

  mapped_has : (one : Sited V) (o : Option (Going V)) → Have n o → BothHave n (mapped (second one) o)
  mapped_has one None h = tt
  mapped_has one (Some g) h = h

  both_have : (m : Meeting V) → length m.ways ≡ n → BothHave n (both_round k m)
  both_have m e =
      then_has (λ g. length g.ways ≡ n) (λ x. length x.ways ≡ n) (λ g. mapped (second g.site) (round k (record { site = m.two; ways = g.ways })))
      (round k (record { site = m.one; ways = m.ways })) (round_has (record { site = m.one; ways = m.ways }) e)
      (λ g f. mapped_has g.site (round k (record { site = m.two; ways = g.ways })) (round_has (record { site = m.two; ways = g.ways }) f))

  meet_case : (i : ℕ) (m : Meeting V) (over : Bool) → ((x : Meeting V) → length x.ways ≡ n → BothHave n (meet k i x)) → length m.ways ≡ n →
      BothHave n (if over then Some m else and_then (meet k i) (both_round k m))
  meet_case i m true more e = e
  meet_case i m false more e = then_has (λ x. length x.ways ≡ n) (λ x. length x.ways ≡ n) (meet k i) (both_round k m) (both_have m e) more

  meet_has : (i : ℕ) (m : Meeting V) → length m.ways ≡ n → BothHave n (meet k i m)
  meet_has zero m e = e
  meet_has (suc i) m e = meet_case i m (have_ended m) (λ x f. meet_has i x f) e

-- from the opening, where nothing is on the way
pub ways_number : {V : Type 0} (k : Kind V) (n rounds : ℕ) (one two : Sited V) (last : Meeting V) → meet k rounds (met one two (replicate n [])) ≡ Some last → length last.ways ≡ n
ways_number k n rounds one two last e =
    let P : Option (Meeting _) → Type 0 = λ o. BothHave n o in
    subst P e (meet_has k n rounds (met one two (replicate n [])) (length-replicate n []))
