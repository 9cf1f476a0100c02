-- What is written of an output.
use Rattle.std.proofs.Common.{◌≡◌, ℕ, Bool, List, Option, None, Some, refl, subst, sym}
use Rattle.std.specs.Prelude.{Result, Ok, Err, MatchResult}
use Rattle.mas_io.specs.Told.{Told, IsUnwritten}
use Rattle.mas_top_status.specs.declared.status.Status.TheVariants.{Memory}
use Rattle.mas_world.specs.Worlds.{Used}
use Rattle.look_answer.specs.declared.answer.LookFault.{LookFault}
use Rattle.look_answer.specs.declared.answer.LookFault.TheVariants.{Ended}
use Rattle.look_answer.specs.declared.answer.Output.{Output}
use Rattle.look_top.specs.Asked.{Asked}
use Rattle.look_top.specs.declared.ends.LookEnd.{LookEnd}
use Rattle.look_top.specs.declared.ends.LookEnd.TheVariants.{Written, Refused, Cut, Usage}
use Rattle.look_top.specs.Ends.{Caused, AskedCaused, WroteOutput}
use Rattle.look_top.specs.Outputs.{IsOutput, Lacks, Answers}
use Rattle.look_top.proofs.Outputs.{lacks_memory}

caused_by : (Is : Bool → List ℕ → Type 0) (Faulty : LookFault → Type 0) (before after : Told) (r : Result Output LookFault) (end : LookEnd) →
    MatchResult r (λ o. Is o.found o.text) Faulty → WroteOutput r before.written after.written before.sink_faults after.sink_faults end →
    Caused Is Faulty before after end
caused_by Is Faulty before after (Ok o) (Written found) m w =
    record { text = o.text; is = subst (λ (b : Bool). Is b o.text) (sym w.0) m; written = w.1 }
caused_by Is Faulty before after (Ok o) Cut m w = record { rose = w.0; text = o.text; is = record { found = o.found; is = m }; cut = w.1 }
caused_by Is Faulty before after (Ok o) (Refused fault) m w = absurd w
caused_by Is Faulty before after (Ok o) Usage m w = absurd w
caused_by Is Faulty before after (Err why) (Written found) m w = absurd w
caused_by Is Faulty before after (Err why) Cut m w = absurd w
caused_by Is Faulty before after (Err why) (Refused fault) m w = record { why = subst (λ (f : LookFault). Faulty f) (sym w.0) m; unwritten = w.1 }
caused_by Is Faulty before after (Err why) Usage m w = absurd w

-- the cause of an end, by the output of what is asked for and what is written of it
pub caused : (objects : List Used) (input : Option (List ℕ)) (a : Asked) (before after : Told) (r : Result Output LookFault) (end : LookEnd) →
    Answers objects input before.held before.shelf_faults after.shelf_faults a r →
    WroteOutput r before.written after.written before.sink_faults after.sink_faults end → AskedCaused objects input (Some a) before after end
caused objects input a before after r end m w =
    caused_by (IsOutput objects input before.held before.shelf_faults after.shelf_faults a)
    (Lacks objects input before.held before.shelf_faults after.shelf_faults a) before after r end m w

-- where memory was wanting, whatever the words ask for
pub starved : (objects : List Used) (input : Option (List ℕ)) (m : Option Asked) (before after : Told) → IsUnwritten before after →
    AskedCaused objects input m before after (Refused (Ended Memory))
starved objects input None before after u = (refl, u)
starved objects input (Some a) before after u =
    record { why = lacks_memory objects input before.held before.shelf_faults after.shelf_faults a; unwritten = u }

-- the words ask for what was read
pub asked_so : (objects : List Used) (input : Option (List ℕ)) (m n : Option Asked) (before after : Told) (end : LookEnd) → m ≡ n →
    AskedCaused objects input m before after end →
    AskedCaused objects input n before after end
asked_so objects input m n before after end e h = subst (λ (x : Option Asked). AskedCaused objects input x before after end) e h
