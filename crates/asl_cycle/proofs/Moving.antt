-- What a step that may send messages comes to.
use Rattle.std.proofs.Common.{◌≡◌, Bool, List, ◌∷◌, ◌++◌, Option, Some, Result, Ok, Err, IfOk, OnOk, refl, ap, ◌∙◌}
use Rattle.asl_term.specs.declared.sequence.Starved.{Starved}
use Rattle.asl_term.specs.declared.syntax.CallOf.{CallOf}
use Rattle.asl_term.specs.declared.syntax.Expr.{Expr}
use Rattle.asl_intend.specs.declared.agenda.Error.TheVariants as error
use Rattle.asl_intend.specs.declared.entry.Means.{Means}
use Rattle.asl_exec_circumstance.specs.declared.rows.Row.TheVariants as row
use Rattle.asl_exec_circumstance.specs.declared.went.Went.{Went}
use Rattle.asl_exec_circumstance.specs.declared.went.Went.TheVariants as went
use Rattle.asl_exec_circumstance.specs.Circumstance.{Surroundings, Circumstance, Made, made, failed}
use Rattle.asl_exec.specs.Exec.{exec}
use Rattle.asl_goals.specs.declared.acted.Acted.{Acted}
use Rattle.asl_goals.specs.declared.acted.Acted.TheVariants as acted
use Rattle.asl_goals.specs.declared.acted.Why.{Why}
use Rattle.asl_goals.specs.Inside.{did}
use Rattle.mas_mind.specs.declared.mind.Message.{Message}
use Rattle.asl_exec_circumstance.specs.declared.peers.Peers.{Peers}
use Rattle.asl_kqml.specs.declared.took.Took.{Took}
use Rattle.asl_kqml.specs.Receive.{receive, received}
use Rattle.asl_cycle.specs.declared.config.After.{After}
use Rattle.asl_cycle.specs.declared.rows.TraceLine.TheVariants as line
use Rattle.asl_cycle.specs.declared.rows.Sofar.{Sofar}
use Rattle.asl_cycle.specs.Steps as spec

-- ---- Msg

pub read_on : (k : Surroundings) (peers : Peers) (p q : Circumstance) (s t : Sofar) (o : Option Message) (m : Message) (took : Took) (next : Bool)
    → o ≡ Some m → receive k peers p m ≡ received q took → spec.took_row peers s m q took ≡ spec.moved q t next
    → spec.msg k peers p s o ≡ spec.moved q t next
read_on k peers p q s t o m took next is e h =
    ap (spec.msg k peers p s) is ∙ (ap (spec.reads peers s m) e ∙ h)

-- ---- Exec

by_other : (k : Surroundings) (peers : Peers) (s : Sofar) (x : Made) (w : Went) → ((c : CallOf Expr) → w ≡ went.Outer c → ⊥)
    → spec.exec_by k peers s x w ≡ spec.writing s (spec.of_made x)
by_other k peers s x (went.Outer c) h = absurd (h c refl)
by_other k peers s x (went.Row r) h = refl
by_other k peers s x (went.Say text) h = refl
by_other k peers s x (went.Action l) h = refl
by_other k peers s x (went.Failed r fall) h = refl
by_other k peers s x (went.Spent r b) h = refl

exec_other : (k : Surroundings) (peers : Peers) (p : Circumstance) (s : Sofar) (cur : List Means) (x : Made) → exec k p cur ≡ x
    → ((c : CallOf Expr) → x.went ≡ went.Outer c → ⊥) → spec.exec_step k peers p s cur ≡ spec.writing s (spec.of_made x)
exec_other k peers p s cur x e h = ap (λ y. spec.exec_by k peers s y y.went) e ∙ by_other k peers s x x.went h

-- a row that is no internal action on goals, beliefs or other agents
pub exec_ends : (k : Surroundings) (peers : Peers) (p q : Circumstance) (s t : Sofar) (cur left : List Means) (w : Went) (r : Result After Starved)
    → exec k p cur ≡ made q left w → ((c : CallOf Expr) → w ≡ went.Outer c → ⊥)
    → OnOk r (t ≡ record s { lines = s.lines ++ line.Rule (spec.row_of w) ∷ spec.lines_of w }) → IfOk r (λ a. a ≡ spec.after_of w)
    → IfOk r (λ a. spec.exec_step k peers p s cur ≡ spec.moved q t (spec.onward left a))
exec_ends k peers p q s t cur left w (Err e) made_it none wrote leads = tt
exec_ends k peers p q s t cur left w (Ok a) made_it none wrote leads =
    let f : spec.exec_step k peers p s cur ≡ spec.writing s (spec.of_made (made q left w)) = exec_other k peers p s cur (made q left w) made_it none in
    f ∙ rw (wrote, leads) refl

-- an internal action on goals, beliefs or other agents that is refused
pub acted_fails : (k : Surroundings) (peers : Peers) (p q : Circumstance) (s t : Sofar) (cur left : List Means) (x : Acted) (why : Why) (w : Went) (r : Result After Starved)
    → x ≡ acted.Failed why → failed k row.IaFail error.IaFailed p cur ≡ made q left w
    → OnOk r (t ≡ record s { lines = s.lines ++ line.Rule (spec.row_of w) ∷ spec.lines_of w }) → IfOk r (λ a. a ≡ spec.after_of w)
    → IfOk r (λ a. spec.of_acted k peers s (did p s.asks cur x) x ≡ spec.moved q t (spec.onward left a))
acted_fails k peers p q s t cur left x why w (Err e) is fell wrote leads = tt
acted_fails k peers p q s t cur left x why w (Ok a) is fell wrote leads =
    ap (λ y. spec.of_acted k peers s (did p s.asks cur y) y) is ∙ (ap (λ m. spec.writing s (spec.of_made m)) fell ∙ rw (wrote, leads) refl)
