-- Lines that name no event of a goal without a relevant plan.
use Rattle.std.proofs.Common.{◌≡◌, ◌-◌, ◌++◌, ℕ, zero, suc, false, List, [], ◌∷◌, map, refl}
use Rattle.asl_intend.specs.declared.agenda.Error.{Error}
use Rattle.asl_fail.specs.declared.fail.Fell.{Fell}
use Rattle.asl_fail.specs.declared.fail.Fell.TheVariants.{Raised, Dropped}
use Rattle.asl_exec_circumstance.specs.declared.rows.Fall.{Fall}
use Rattle.asl_exec_circumstance.specs.declared.rows.Row.{Row}
use Rattle.asl_exec_circumstance.specs.declared.rows.Row.TheVariants as row
use Rattle.asl_exec_circumstance.specs.declared.went.Went.{Went}
use Rattle.asl_exec_circumstance.specs.declared.went.Went.TheVariants as went
use Rattle.mas_mind.specs.declared.mind.Message.{Message}
use Rattle.asl_exec_circumstance.specs.declared.peers.Peers.{Peers}
use Rattle.asl_cycle.specs.declared.rows.TraceLine.{TraceLine}
use Rattle.asl_cycle.specs.declared.rows.TraceLine.TheVariants as line
use Rattle.asl_cycle.specs.Steps.{pops, fall_lines, falls_lines, sends_line, lines_of}
use Rattle.asl_lint_laws.proofs.Beliefs.{all_append}
use Rattle.asl_lint_laws.specs.Cycles.{names_rel3, NeverIrrelevant}

pub lines_append : (xs ys : List TraceLine) → NeverIrrelevant xs → NeverIrrelevant ys → NeverIrrelevant (xs ++ ys)
lines_append xs ys a b = all_append (λ l. names_rel3 l ≡ false) xs ys a b

pops_never : (n : ℕ) → NeverIrrelevant (pops n)
pops_never zero = tt
pops_never (suc n) = (refl, pops_never n)

pub fall_never : (e : Error) (f : Fell) → NeverIrrelevant (fall_lines e f)
fall_never e (Raised n) = lines_append (pops (n - 1)) (line.Rule row.Fail1 ∷ []) (pops_never (n - 1)) (refl, tt)
fall_never e (Dropped n) = lines_append (pops n) (line.Rule row.Fail3 ∷ line.Drops e ∷ []) (pops_never n) (refl, (refl, tt))

pub falls_never : (falls : List Fall) → NeverIrrelevant (falls_lines falls)
falls_never [] = tt
falls_never (f ∷ falls) = lines_append (fall_lines f.error f.fell) (falls_lines falls) (fall_never f.error f.fell) (falls_never falls)

pub sends_never : (peers : Peers) (ms : List Message) → NeverIrrelevant (map (sends_line peers) ms)
sends_never peers [] = tt
sends_never peers (m ∷ ms) = (refl, sends_never peers ms)

pub went_never : (w : Went) → NeverIrrelevant (lines_of w)
went_never (went.Row r) = tt
went_never (went.Say text) = (refl, tt)
went_never (went.Action l) = (refl, tt)
went_never (went.Outer c) = tt
went_never (went.Failed r fall) = fall_never fall.error fall.fell
went_never (went.Spent r b) = (refl, tt)
