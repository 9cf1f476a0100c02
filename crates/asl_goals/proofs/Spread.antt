-- The messages to all other agents, one after another.
use Rattle.std.proofs.Common.{◌≡◌, ◌≢◌, ◌∙◌, ℕ, ◌+◌, ◌<◌, List, [], ◌∷◌, ◌++◌, length, drop, ap, sym, add-one, append_assoc}
use Rattle.std.specs.Prelude.{cond, eqb}
use Rattle.std.proofs.Math.Seq.{drop-cons}
use Rattle.std.proofs.lemmas.Bool.{ne_eqb, eq-eqb}
use Rattle.asl_term.specs.declared.syntax.Term.{Term}
use Rattle.mas_mind.specs.declared.mind.Message.{Message}
use Rattle.mas_mind.specs.declared.mind.Verb.{Verb}
use Rattle.asl_goals.specs.Sending.{posted, to_others}

-- the message to the agent of a number
abbrev pub one : ℕ → Verb → Term → ℕ → Message
one me v t n = posted me 0 (record { to = n; verb = v; content = t })

-- those from a number on
abbrev pub from_on : ℕ → Verb → Term → List (List ℕ) → ℕ → List Message
from_on me v t names k = to_others me v t (k + 1) (drop k names)

next : (me : ℕ) (v : Verb) (t : Term) (names : List (List ℕ)) (k : ℕ) → k < length names
    → from_on me v t names k ≡ cond (eqb (k + 1) me) (from_on me v t names (k + 1)) (one me v t (k + 1) ∷ from_on me v t names (k + 1))
next me v t names k h =
    ap (to_others me v t (k + 1)) (drop-cons names k [] h)
    ∙ ap (λ more. cond (eqb (k + 1) me) (to_others me v t (k + 1 + 1) more) (one me v t (k + 1) ∷ to_others me v t (k + 1 + 1) more))
    (ap (λ n. drop n names) (sym (add-one k)))

-- that of the agent itself is left out
pub passes : (me : ℕ) (v : Verb) (t : Term) (names : List (List ℕ)) (k : ℕ) (sent all : List Message) → k < length names → k + 1 ≡ me
    → sent ++ from_on me v t names k ≡ all → sent ++ from_on me v t names (k + 1) ≡ all
passes me v t names k sent all h same e =
    sym (ap (λ more. sent ++ more) (next me v t names k h
    ∙ ap (λ b. cond b (from_on me v t names (k + 1)) (one me v t (k + 1) ∷ from_on me v t names (k + 1))) (eq-eqb (k + 1) me same))) ∙ e

pub sends : (me : ℕ) (v : Verb) (t : Term) (names : List (List ℕ)) (k : ℕ) (sent all : List Message) → k < length names → k + 1 ≢ me
    → sent ++ from_on me v t names k ≡ all → (sent ++ one me v t (k + 1) ∷ []) ++ from_on me v t names (k + 1) ≡ all
sends me v t names k sent all h other e =
    append_assoc sent (one me v t (k + 1) ∷ []) (from_on me v t names (k + 1))
    ∙ sym (ap (λ more. sent ++ more) (next me v t names k h
    ∙ ap (λ b. cond b (from_on me v t names (k + 1)) (one me v t (k + 1) ∷ from_on me v t names (k + 1))) (ne_eqb (k + 1) me other))) ∙ e
