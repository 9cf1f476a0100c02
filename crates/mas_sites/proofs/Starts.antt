-- Two sites when they begin to run side by side, and when they have ended.
use Rattle.std.proofs.Common.{◌≡◌, Some, ◌<◌, ◌^◌, arith, Bool, List, length, map, sym, ap, ◌∙◌, subst}
use Rattle.std.proofs.lemmas.List.{length-map}
use Rattle.mas_mind.specs.declared.mind.Message.{Message}
use Rattle.mas_mind.specs.Minds.{Kind}
use Rattle.mas_board.specs.Boards.{Noted}
use Rattle.mas_board.specs.Seating.{IsSound}
use Rattle.mas_core.specs.Fits.{Start}
use Rattle.mas_sites_stand.specs.declared.seated.Seated.{Seated}
use Rattle.mas_sites_stand.specs.Seats.{seated}
use Rattle.mas_sites_scripts.specs.Giving.{is_own}
use Rattle.mas_sites_scripts.specs.Sites.{AreFresh}
use Rattle.mas_sites_rounds.specs.Between.{AreApart}
use Rattle.mas_sites_wire.specs.declared.wire.Log.{Log}
use Rattle.mas_sites_wire.specs.declared.wire.Wire.{Wire}
use Rattle.mas_sites_wire.specs.declared.wire.WireEnd.{WireEnd}
use Rattle.mas_sites_wire.specs.Ends.{log_of}
use Rattle.mas_sites_wire.specs.Lefts.{AreLeft}
use Rattle.mas_sites_wire.specs.Lines.{AreHere, AreBlank, others}
use Rattle.mas_sites_worker.specs.Sides.{homes, MayRun}
use Rattle.mas_sites.proofs.PairArrivals.{homes_apart}

-- few agents
pub are_few : {V : Type 0} (k : Kind V) (b : Noted) (minds : List V) → Start k b minds → IsSound b.state → length minds < 2 ^ 16
are_few k b minds s h =
    let n = s.fit.number in
    let f = h.limits.few in
    omega (arith, n, f)

pub homes_few : {V : Type 0} (minds : List (Seated V)) (here : List Bool) → here ≡ homes minds → length minds < 2 ^ 16 → length here < 2 ^ 16
homes_few minds here e l =
    let n : length here ≡ length minds = ap length e ∙ length-map minds (λ m. is_own (Some m)) in
    omega (arith, n, l)

-- the same wires and homes by other names
pub here_as : (wires same : List Wire) (ends : List WireEnd) (puts homes_are : List Bool) → AreHere wires ends puts → same ≡ wires → puts ≡ homes_are → AreHere same ends homes_are
here_as wires same ends puts homes_are h w e =
    let P : List Wire × List Bool → Type 0 = λ t. AreHere t.0 ends t.1 in
    subst P (λ i. (sym w i, e i)) h

pub may_run : {V : Type 0} (k : Kind V) (b : Noted) (minds : List (Seated V)) (wires same : List Wire) (ends : List WireEnd) (puts : List Bool) → Start (seated k) b minds → AreFresh minds → AreHere wires ends puts →
    same ≡ wires → puts ≡ homes minds → AreBlank (map log_of ends) → MayRun k b minds same ends
may_run k b minds wires same ends puts s f h w e n = record { start = s; fresh = f; here = here_as wires same ends puts (homes minds) h w e; blank = n }

-- those that do not live at site 1 live at site 2
pub others_home : {V : Type 0} (one two : List (Seated V)) (here : List Bool) → AreApart one two → here ≡ homes one → others here ≡ homes two
others_home one two here a e = ap others e ∙ sym (homes_apart one two a.number a.each)

pub left_as : (here homes_are : List Bool) (one two : List Log) (ways : List (List Message)) → AreLeft here one two ways → here ≡ homes_are → AreLeft homes_are one two ways
left_as here homes_are one two ways h e = subst (λ t. AreLeft t one two ways) e h
