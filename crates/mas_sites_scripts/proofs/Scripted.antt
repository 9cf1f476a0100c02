-- The runs of sites, and longer scripts.
use Rattle.std.proofs.Common.{ℕ, zero, suc, ◌≡◌, ◌+◌, ◌≤◌, arith, List, [], ◌∷◌, ◌++◌, length, drop, replicate, Option, None, Some, refl, ap, ◌∙◌}
use Rattle.mas_mind.specs.declared.mind.Input.{Input}
use Rattle.mas_mind.specs.declared.mind.Message.{Message}
use Rattle.mas_mind.specs.declared.mind.Feedback.{Feedback}
use Rattle.mas_mind.specs.Minds.{Kind}
use Rattle.mas_board.specs.Boards.{State}
use Rattle.mas_core.specs.Platform.{Platform, run, opening_platform}
use Rattle.mas_sites_stand.specs.declared.seated.Seated.{Seated}
use Rattle.mas_sites_stand.specs.declared.seated.Seated.TheVariants as seat
use Rattle.mas_sites_stand.specs.Stands.{entry}
use Rattle.mas_sites_stand.specs.Seats.{seated, seated_cycle, seated_told}
use Rattle.mas_sites_scripts.specs.Scripts.{Script, with_script, with_scripts, given, change, at_mind, longer, extent}
use Rattle.mas_sites_scripts.proofs.Changes.{change_length}
use Rattle.mas_sites_scripts.proofs.Longer.{IsUnseen, room_at, run_longer}

-- ---- an entry more is not seen by a stand that has an entry left

shorter : (script : Script) → length script ≤ 1 + length (drop 1 script)
shorter [] = omega arith
shorter (x ∷ xs) = omega arith

rises : {V : Type 0} (k : Kind V) (m : Seated V) (i : Input) → extent m ≤ extent (seated_cycle k m i).mind
rises k (seat.Own m) i = omega arith
rises k (seat.Stand s) i = let l = shorter s.script in omega (arith, l)

-- a script with an entry
same_entry : (script : Script) (e : Option Message) → 1 + length (drop 1 script) ≡ length script → entry (script ++ e ∷ []) ≡ entry script
same_entry [] e l = absurd (omega arith)
same_entry (x ∷ xs) e l = refl

same_rest : (script : Script) (e : Option Message) → 1 + length (drop 1 script) ≡ length script → drop 1 (script ++ e ∷ []) ≡ drop 1 script ++ e ∷ []
same_rest [] e l = absurd (omega arith)
same_rest (x ∷ xs) e l = refl

same : {V : Type 0} (k : Kind V) (e : Option Message) (m : Seated V) (i : Input) → extent (seated_cycle k m i).mind ≡ extent m →
    seated_cycle k (given e m) i ≡ record { mind = given e (seated_cycle k m i).mind; thought = (seated_cycle k m i).thought }
same k e (seat.Own m) i l = refl
same k e (seat.Stand s) i l =
    let h : 1 + length (drop 1 s.script) ≡ length s.script = omega (arith, l) in
    rw (same_entry s.script e h, same_rest s.script e h) refl

told : {V : Type 0} (k : Kind V) (e : Option Message) (m : Seated V) (b : Feedback) → seated_told k (given e m) b ≡ given e (seated_told k m b)
told k e (seat.Own m) b = refl
told k e (seat.Stand s) b = refl

told_extent : {V : Type 0} (k : Kind V) (m : Seated V) (b : Feedback) → extent (seated_told k m b) ≡ extent m
told_extent k (seat.Own m) b = refl
told_extent k (seat.Stand s) b = refl

pub unseen : {V : Type 0} (k : Kind V) (e : Option Message) → IsUnseen (seated k) (given e) extent
unseen k e = record { told = told k e; told_room = told_extent k; rises = rises k; same = same k e }

-- ---- opening states

-- the whole scripts, with an entry more for one place
pub scripts_longer : {V : Type 0} (i : ℕ) (e : Option Message) (scripts : List Script) (minds : List (Seated V)) → length scripts ≡ length minds →
    with_scripts (change i (longer e) scripts) minds ≡ change i (given e) (with_scripts scripts minds)
scripts_longer i e scripts [] l = refl
scripts_longer i e [] (m ∷ minds) l = absurd (omega arith)
scripts_longer zero e (script ∷ scripts) (seat.Own m ∷ minds) l = refl
scripts_longer zero e (script ∷ scripts) (seat.Stand s ∷ minds) l = refl
scripts_longer (suc i) e (script ∷ scripts) (m ∷ minds) l = ap (λ x. with_script script m ∷ x) (scripts_longer i e scripts minds (omega (arith, l)))

pub opening_longer : {V : Type 0} (board : State) (i : ℕ) (e : Option Message) (scripts : List Script) (minds : List (Seated V)) → length scripts ≡ length minds →
    opening_platform board (with_scripts (change i (longer e) scripts) minds) ≡ at_mind i (given e) (opening_platform board (with_scripts scripts minds))
opening_longer board i e scripts minds l =
    ap (opening_platform board) (scripts_longer i e scripts minds l)
    ∙ ap (λ n. record { board = board; minds = change i (given e) (with_scripts scripts minds); thoughts = replicate n None }) (change_length i (given e) (with_scripts scripts minds))

-- a run from the opening state with these scripts is one from that with an entry more, where so far the stand made no cycle beyond its script
pub run_on : {V : Type 0} (k : Kind V) (board : State) (i : ℕ) (e : Option Message) (scripts : List Script) (minds : List (Seated V)) (q : Platform (Seated V)) (schedule : List ℕ) →
    length scripts ≡ length minds → run (seated k) (opening_platform board (with_scripts scripts minds)) schedule ≡ Some q →
    room_at extent i q.minds ≤ room_at extent i (with_scripts scripts minds) →
    run (seated k) (opening_platform board (with_scripts (change i (longer e) scripts) minds)) schedule ≡ Some (at_mind i (given e) q)
run_on k board i e scripts minds q schedule l r h =
    ap (λ p. run (seated k) p schedule) (opening_longer board i e scripts minds l)
    ∙ run_longer (seated k) (given e) extent (unseen k e) i (opening_platform board (with_scripts scripts minds)) q schedule r h
