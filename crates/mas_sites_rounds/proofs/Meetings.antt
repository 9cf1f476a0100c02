-- Two sites on one thread, round by round.
use Rattle.std.proofs.Common.{ℕ, zero, suc, ◌≡◌, ◌+◌, ◌≤◌, ◌<◌, arith, false, if◌then◌else◌, List, length, Option, Some, refl, ap, sym, ◌∙◌, subst}
use Rattle.mas_mind.specs.declared.mind.Message.{Message}
use Rattle.mas_mind.specs.Minds.{Kind}
use Rattle.mas_board.specs.Boards.{seat_at, is_gone}
use Rattle.mas_core.specs.Rounds.{IsNext}
use Rattle.mas_sites_scripts.specs.Sites.{Sited}
use Rattle.mas_sites_scripts.specs.Ways.{HasGot, HasPut}
use Rattle.mas_sites_scripts.specs.Meeting.{Meeting, and_then, mapped, second, round, both_round, have_ended, meet}
use Rattle.mas_sites_rounds.specs.Rounds.{Goes, InRound, HasMet}
use Rattle.mas_sites_rounds.proofs.Folds.{goes_fold}
use Rattle.mas_sites_rounds.proofs.Moving.{round_on, next_round, next_here, went_number}

-- a whole round of each site
both_rounds : {V : Type 0} (k : Kind V) (m : Meeting V) (one two : Sited V) (between ways : List (List Message)) →
    Goes k HasGot HasPut (length m.one.platform.board.seats) m.ways between m.one one → Goes k HasGot HasPut (length m.two.platform.board.seats) between ways m.two two →
    both_round k m ≡ Some (record { one = one; two = two; ways = ways })
both_rounds k m one two between ways h g =
    ap (and_then (λ x. mapped (second x.site) (round k (record { site = m.two; ways = x.ways })))) (goes_fold k (length m.one.platform.board.seats) m.ways between m.one one h)
    ∙ ap (mapped (second one)) (goes_fold k (length m.two.platform.board.seats) between ways m.two two g)

pub met_none : {V : Type 0} (k : Kind V) (m : Meeting V) → HasMet k 0 m m
met_none k m = λ j. let e : 0 + j ≡ j = omega arith in ap (λ n. meet k n m) e

pub met_more : {V : Type 0} (k : Kind V) (n : ℕ) (first m : Meeting V) (one two : Sited V) (between ways : List (List Message)) → HasMet k n first m → have_ended m ≡ false →
    Goes k HasGot HasPut (length m.one.platform.board.seats) m.ways between m.one one → Goes k HasGot HasPut (length m.two.platform.board.seats) between ways m.two two →
    HasMet k (n + 1) first (record { one = one; two = two; ways = ways })
met_more k n first m one two between ways h e g f = λ j.
    let q : n + 1 + j ≡ n + suc j = omega arith in
    ap (λ x. meet k x first) q ∙ h (suc j) ∙ ap (λ b. if b then Some m else and_then (meet k j) (both_round k m)) e
    ∙ ap (and_then (meet k j)) (both_rounds k m one two between ways g f)

pub met_all : {V : Type 0} (k : Kind V) (n : ℕ) (first last : Meeting V) → HasMet k n first last → meet k n first ≡ Some last
met_all k n first last h = let e : n ≡ n + 0 = omega arith in ap (λ x. meet k x first) e ∙ h 0

-- ---- rounds end

-- the first n goes of a round
goes_in : {V C : Type 0} (k : Kind V) (got : C → ℕ → Option Message → C → Type 0) (put : C → Message → C → Type 0) (n : ℕ) (from to : C) (old new : Sited V) (limit c : ℕ) → InRound limit c 0 old →
    Goes k got put n from to old new → n ≤ length old.platform.board.seats →
    InRound limit c n new × (length new.platform.board.seats ≡ length old.platform.board.seats)
goes_in k got put zero from to old new limit c h g l =
    let P = λ (x : Sited _). InRound limit c 0 x × (length x.platform.board.seats ≡ length old.platform.board.seats) in
    subst P (sym g.0) (h, refl)
goes_in k got put (suc n) from to old new limit c h g l =
    let before = goes_in k got put n from g.1.0 old g.0 limit c h g.1.1.0 (omega (arith, l)) in
    let e = before.1 in
    let q : n + 1 ≡ suc n = omega arith in
    (subst (λ i. InRound limit c i new) q (round_on k got put g.1.0 to g.0 new limit c n before.0 (omega (arith, l, e)) g.1.1.1), went_number k got put g.1.0 to g.0 new (n + 1) g.1.1.1 ∙ e)

-- a whole round
pub round_in : {V C : Type 0} (k : Kind V) (got : C → ℕ → Option Message → C → Type 0) (put : C → Message → C → Type 0) (n : ℕ) (from to : C) (old new : Sited V) (limit c : ℕ) → InRound limit c 0 old →
    n ≡ length old.platform.board.seats → Goes k got put n from to old new → InRound limit (c + 1) 0 new × (length new.platform.board.seats ≡ length old.platform.board.seats)
round_in k got put n from to old new limit c h e g =
    let r = goes_in k got put n from to old new limit c h g (omega (arith, e)) in
    let m = r.1 in
    (next_round limit c n new r.0 (omega (arith, e, m)), m)

-- what the go of the next agent asks for, and the number of agents
pub go_in : {V C : Type 0} (k : Kind V) (got : C → ℕ → Option Message → C → Type 0) (put : C → Message → C → Type 0) (n : ℕ) (from to : C) (old new : Sited V) (limit c : ℕ) → InRound limit c 0 old →
    n < length old.platform.board.seats → Goes k got put n from to old new → is_gone (seat_at new.platform.board (n + 1)).phase ≡ false → IsNext new.platform (n + 1)
go_in k got put n from to old new limit c h l g here =
    let r = goes_in k got put n from to old new limit c h g (omega (arith, l)) in
    let m = r.1 in
    next_here limit c n new r.0 (omega (arith, l, m)) here
