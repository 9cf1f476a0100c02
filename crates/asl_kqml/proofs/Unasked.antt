-- An answer to no ask.
use Rattle.std.proofs.Common.{◌≡◌, ℕ, Bool, true, false, List, [], ◌∷◌, ap, sym, ◌∙◌, None, Some, cond, eqb, refl}
use Rattle.std.proofs.lemmas.Option.{none-some}
use Rattle.asl_term.specs.declared.syntax.Term.{Term}
use Rattle.asl_intend.specs.declared.agenda.Agenda.{Agenda}
use Rattle.asl_intend.specs.declared.agenda.Ask.{Ask}
use Rattle.asl_intend.specs.Agendas.{ask_of, without_ask}
use Rattle.asl_exec_circumstance.specs.Circumstance.{Surroundings, Circumstance, with_agenda}
use Rattle.asl_kqml.specs.Receive.{answers_ask, ignored}

none_taken : (n : ℕ) (asks : List Ask) → ask_of n asks ≡ None → without_ask n asks ≡ asks
none_taken n [] e = refl
none_taken n (a ∷ asks) e = go (eqb a.number n) e (none_taken n asks) where
  go : (b : Bool) → cond b (Some a) (ask_of n asks) ≡ None → (ask_of n asks ≡ None → without_ask n asks ≡ asks)
      → cond b asks (a ∷ without_ask n asks) ≡ a ∷ asks
  go true h more = absurd (none-some a (sym h))
  go false h more = ap (λ v. a ∷ v) (more h)

-- nothing is taken where no ask has the number
pub no_ask : (k : Surroundings) (p : Circumstance) (n : ℕ) (content : Term) (after : Agenda) → None ≡ ask_of n p.agenda.asks
    → after ≡ record p.agenda { asks = without_ask n p.agenda.asks } → answers_ask k p n content (ask_of n p.agenda.asks) ≡ ignored (with_agenda p after)
no_ask k p n content after e a =
    ap (answers_ask k p n content) (sym e)
    ∙ ap (λ v. ignored (with_agenda p v)) (sym (a ∙ ap (λ v. record p.agenda { asks = v }) (none_taken n p.agenda.asks (sym e))))
