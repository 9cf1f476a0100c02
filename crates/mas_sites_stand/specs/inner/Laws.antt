-- The promises of a mind hold of stands.
use Rattle.std.specs.Prelude.{◌≡◌, true, refl, None}
use Rattle.std.proofs.Common.{sym, arith, append-nil}
use Rattle.mas_mind.specs.declared.mind.Input.{Input}
use Rattle.mas_mind.specs.declared.mind.Feedback.{Feedback}
use Rattle.mas_mind.specs.Minds.{Grows, SendsNothing, is_quiet}
use Rattle.mas_sites_stand.specs.Stands.{Standing, stand_cycle, stand_told, stand_kind}

-- no cycle of it is quiet
pub quiet_sends_nothing : (s : Standing) (i : Input) → is_quiet (stand_cycle s i).thought ≡ true → SendsNothing (stand_cycle s i).thought
quiet_sends_nothing s i q = cc

pub quiet_again : (s : Standing) (i j : Input) → is_quiet (stand_cycle s i).thought ≡ true → j.percepts ≡ i.percepts → j.message ≡ None
    → is_quiet (stand_cycle (stand_cycle s i).mind j).thought ≡ true
quiet_again s i j q p n = cc

pub goes_on : (s : Standing) (i : Input) → Grows stand_kind s (stand_cycle s i).mind 1
goes_on s i = record { made = refl; new_lines = _; lines = refl; me = refl; agents = refl }

pub is_told : (s : Standing) (f : Feedback) → Grows stand_kind s (stand_told s f) 0
is_told s f = record { made = omega arith; new_lines = _; lines = sym (append-nil s.lines); me = refl; agents = refl }
