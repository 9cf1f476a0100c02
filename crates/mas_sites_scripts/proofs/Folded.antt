-- The turns of two sites on one thread are those of the fold.
use Rattle.std.proofs.Common.{ℕ, ◌≡◌, ◌-◌, inl, inr, List, slice_get, Option, None, Some, refl, ap, sym, ◌∙◌, subst}
use Rattle.mas_mind.specs.declared.mind.Input.{Input}
use Rattle.mas_mind.specs.declared.mind.Message.{Message}
use Rattle.mas_mind.specs.Minds.{Kind}
use Rattle.mas_board.specs.declared.seats.Phase.{Phase}
use Rattle.mas_board.specs.declared.seats.Phase.TheVariants.{Idle, Busy, Left as Gone}
use Rattle.mas_board.specs.declared.seats.Sensed.{Sensed}
use Rattle.mas_board.specs.declared.seats.Sensed.TheVariants.{Input as Given, Left, Ahead, Halted}
use Rattle.mas_board.specs.Boards.{seat_at, sense, box_of, oldest}
use Rattle.mas_core.specs.Platform.{turn}
use Rattle.mas_sites_stand.specs.declared.seated.Seated.{Seated}
use Rattle.mas_sites_stand.specs.Seats.{seated}
use Rattle.mas_sites_scripts.specs.Scripts.{Script, given, change, longer}
use Rattle.mas_sites_scripts.specs.Giving.{Placed, IsGiven, Sends, leaving}
use Rattle.mas_sites_scripts.specs.Sites.{Sited, placed, with_minds, PassesAt, PassesIn, Turned}
use Rattle.mas_sites_scripts.specs.Ways.{HasGot, HasPut, without_oldest}
use Rattle.mas_sites_scripts.specs.Meeting.{Going, sent, stand_given, mind_given, given_at, given_in, after_turn, site_turn}

-- a site before the turn, with what was given
abbrev going : {V : Type 0} → Sited V → Placed V → List (List Message) → Going V
going old after ways = record { site = record { platform = with_minds old.platform after.minds; schedule = old.schedule; scripts = after.scripts }; ways = ways }

sends : (from middle : List (List Message)) (m : Option Message) → Sends HasPut from m middle → middle ≡ sent m from
sends from middle None h = h
sends from middle (Some m) h = h

passed : {V : Type 0} (from to : List (List Message)) (old : Sited V) (after : Placed V) → to ≡ from → after ≡ placed old → record { site = old; ways = from } ≡ going old after to
passed from to old after e f = subst (λ (x : List (List Message) × Placed _). record { site = old; ways = from } ≡ going old x.1 x.0) (λ i. (sym e i, sym f i)) refl

given_input : {V : Type 0} (from to : List (List Message)) (old : Sited V) (after : Placed V) (a : ℕ) (input : Input) → IsGiven HasGot HasPut from to (placed old) after a input.message →
    mind_given (record { site = old; ways = from }) a input (slice_get old.platform.minds (a - 1)) ≡ going old after to
given_input from to old after a input (inl g) = ap (mind_given (record { site = old; ways = from }) a input) g.is ∙ passed from to old after g.carrier g.same
given_input from to old after a input (inr g) =
    let ways = sent (leaving old.platform.minds input.message) from in
    let s : g.middle ≡ ways = sends from g.middle (leaving old.platform.minds input.message) g.sent in
    let e : g.entry ≡ oldest (box_of ways a) = g.got_it.message ∙ ap (λ x. oldest (box_of x a)) s in
    let w : to ≡ without_oldest ways a = g.got_it.rest ∙ ap (λ x. without_oldest x a) s in
    let m : after.minds ≡ change (a - 1) (given (oldest (box_of ways a))) old.platform.minds = g.minds ∙ ap (λ x. change (a - 1) (given x) old.platform.minds) e in
    let c : after.scripts ≡ change (a - 1) (longer (oldest (box_of ways a))) old.scripts = g.scripts ∙ ap (λ x. change (a - 1) (longer x) old.scripts) e in
    ap (mind_given (record { site = old; ways = from }) a input) g.is
    ∙ subst (λ (x : List (List Message) × (List (Seated _) × List Script)). stand_given (record { site = old; ways = from }) a input ≡ going old (record { minds = x.1.0; scripts = x.1.1 }) x.0)
    (λ i. (sym w i, (sym m i, sym c i))) refl

given_sensed : {V : Type 0} (from to : List (List Message)) (old : Sited V) (after : Placed V) (a : ℕ) (s : Sensed) → PassesAt HasGot HasPut from to (placed old) after a s →
    given_at (record { site = old; ways = from }) a s ≡ going old after to
given_sensed from to old after a (Given input) h = given_input from to old after a input h
given_sensed from to old after a (Left end) h = passed from to old after h.0 h.1
given_sensed from to old after a (Ahead cycle lowest) h = passed from to old after h.0 h.1
given_sensed from to old after a Halted h = passed from to old after h.0 h.1

given_phase : {V : Type 0} (from to : List (List Message)) (old : Sited V) (after : Placed V) (a : ℕ) (phase : Phase) → PassesIn HasGot HasPut from to old after a phase →
    given_in (record { site = old; ways = from }) a phase ≡ going old after to
given_phase from to old after a Idle h = given_sensed from to old after a (sense old.platform.board a).0 h
given_phase from to old after a Busy h = passed from to old after h.0 h.1
given_phase from to old after a (Gone end) h = passed from to old after h.0 h.1

-- a turn of a site is that of the fold
pub turn_folds : {V : Type 0} (k : Kind V) (from to : List (List Message)) (old new : Sited V) (a : ℕ) → Turned k HasGot HasPut from to old new a →
    site_turn k (record { site = old; ways = from }) a ≡ Some (record { site = new; ways = to })
turn_folds {V} k from to old new a h =
    let g = given_phase from to old h.after a (seat_at old.platform.board a).phase h.passes in
    let F : List ℕ × List Script → Option (Going V) = λ x. Some (record { site = record { platform = new.platform; schedule = x.0; scripts = x.1 }; ways = to }) in
    ap (λ x. after_turn x a (turn (seated k) x.site.platform a)) g ∙ ap (after_turn (going old h.after to) a) h.turn ∙ ap F (λ i. (sym h.schedule i, sym h.scripts i))
