-- What the calls that give entries leave.
use Rattle.std.proofs.Common.{ℕ, ◌≡◌, ◌-◌, List, [], ◌∷◌, ◌++◌, length, slice_get, slice_set, Option, Some, ap, sym, ◌∙◌, subst}
use Rattle.std.specs.declared.result.Result.{Result}
use Rattle.std.specs.declared.result.Result.TheVariants.{Ok, Err}
use Rattle.std.specs.Prelude.{OnOk, OnErr}
use Rattle.mas_mind.specs.declared.mind.Message.{Message}
use Rattle.mas_mind.specs.Minds.{IsAgent}
use Rattle.mas_sites_stand.specs.declared.seated.Seated.{Seated}
use Rattle.mas_sites_stand.specs.declared.seated.Seated.TheVariants as seat
use Rattle.mas_sites_stand.specs.Stands.{Standing, with_entry}
use Rattle.mas_sites_scripts.specs.Scripts.{Script, given, change, longer}
use Rattle.mas_sites_scripts.specs.Ways.{AreWays, HasPut}
use Rattle.mas_sites_scripts.proofs.Changes.{changed_is}
use Rattle.mas_sites_scripts.proofs.OnTheWay.{send_ways, send_put, same_ways}

pub ok_more : {X E : Type 0} (r : Result X E) (P Q : Type 0) → (P → Q) → OnOk r P → OnOk r Q
ok_more (Ok x) P Q f h = f h
ok_more (Err e) P Q f h = tt

pub noted : {X E : Type 0} (r : Result X E) (scripts : List Script) (i : ℕ) (was new : Script) (e : Option Message) → slice_get scripts i ≡ Some was → OnOk r (new ≡ was ++ e ∷ []) →
    OnOk r (slice_set scripts i new ≡ change i (longer e) scripts)
noted r scripts i was new e is h = ok_more r (new ≡ was ++ e ∷ []) (slice_set scripts i new ≡ change i (longer e) scripts)
    (λ n. ap (slice_set scripts i) n ∙ changed_is scripts i (longer e) was is) h

pub own_stays : {V : Type 0} (minds : List (Seated V)) (i : ℕ) (x : Seated V) (m : V) (e : Option Message) → slice_get minds i ≡ Some x → x ≡ seat.Own m → slice_set minds i x ≡ change i (given e) minds
own_stays minds i x m e is o =
    ap (slice_set minds i) (o ∙ ap (given e) (sym o)) ∙ changed_is minds i (given e) x is

pub stand_gets : {V X E : Type 0} (r : Result X E) (minds : List (Seated V)) (i : ℕ) (x : Seated V) (s new : Standing) (e : Option Message) → slice_get minds i ≡ Some x → x ≡ seat.Stand s →
    OnOk r (new ≡ with_entry e s) → OnOk r (slice_set minds i (seat.Stand new) ≡ change i (given e) minds)
stand_gets r minds i x s new e is o h = ok_more r (new ≡ with_entry e s) (slice_set minds i (seat.Stand new) ≡ change i (given e) minds)
    (λ n. ap (λ y. slice_set minds i (seat.Stand y)) n ∙ ap (λ y. slice_set minds i (given e y)) (sym o) ∙ changed_is minds i (given e) x is) h

-- a push behind the others of an agent, or none
pub pushed : {X E : Type 0} (r : Result X E) (ways : List (List Message)) (m copied : Message) (was new : List Message) → IsAgent (length ways) m.from → IsAgent (length ways) m.to → copied ≡ m →
    slice_get ways (m.from - 1) ≡ Some was → AreWays ways → OnOk r (new ≡ was ++ copied ∷ []) → OnErr r (new ≡ was) → AreWays (slice_set ways (m.from - 1) new)
pushed (Ok x) ways m copied was new j i e is h p q = subst (λ l. AreWays (slice_set ways (m.from - 1) l)) (sym (p ∙ ap (λ y. was ++ y ∷ []) e)) (send_ways ways m was j i is h)
pushed (Err x) ways m copied was new j i e is h p q = subst (λ l. AreWays (slice_set ways (m.from - 1) l)) (sym q) (same_ways ways m.from was j is h)

pub was_put : {X E : Type 0} (r : Result X E) (ways : List (List Message)) (m copied : Message) (was new : List Message) → copied ≡ m → slice_get ways (m.from - 1) ≡ Some was →
    OnOk r (new ≡ was ++ copied ∷ []) → OnOk r (HasPut ways m (slice_set ways (m.from - 1) new))
was_put r ways m copied was new e is h = ok_more r (new ≡ was ++ copied ∷ []) (HasPut ways m (slice_set ways (m.from - 1) new))
    (λ n. ap (slice_set ways (m.from - 1)) (n ∙ ap (λ y. was ++ y ∷ []) e) ∙ send_put ways m was is) h
