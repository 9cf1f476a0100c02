-- An entry at the front of bytes: what is read is what is written, and that is read.
use Rattle.std.proofs.Common.{ℕ, zero, suc, ◌≡◌, ◌⊎◌, ◌+◌, ◌-◌, ◌<◌, ◌≤◌, ◌^◌, arith, Bool, true, false, nat_eq, nat_lt, List, [], ◌∷◌, ◌++◌, Option, None, Some, refl, ap, sym, subst, inl, inr, ◌∙◌, append_assoc, append-nil, decimal, codes, if◌then◌else◌}
use Rattle.std.specs.Option.{option_map, option_and_then}
use Rattle.std.proofs.lemmas.Grind.{common_steps}
use Rattle.std.proofs.lemmas.Bool.{eqb-true}
use Rattle.std.proofs.lemmas.Option.{some_pair_parts}
use Rattle.mas_report_schedule.specs.declared.entry.ScheduleEntry.{ScheduleEntry}
use Rattle.mas_report_schedule.specs.Schedule.{entry, times_text, entry_text}
use Rattle.mas_report_schedule.specs.Reading.{IsCount, IsAgent}
use Rattle.mas_report_schedule.specs.inner.Scanning.{is_digit, number_from, behind_byte, not_once, times_by, times_from, stop_of, ended_entry, entry_from}
use Rattle.mas_report_schedule.proofs.Numerals.{pick, pass, NoDigit, IsNumber, number_is, number_read}

some_same : {A : Type 0} {x y : A} → Some x ≡ Some y → x ≡ y
some_same e = cc

-- a number and what is behind it, an entry and what is behind it
abbrev numbered : ℕ → List ℕ → Option (ℕ × List ℕ)
numbered n rest = Some (n, rest)

abbrev fronted : ScheduleEntry → List ℕ → ScheduleEntry × List ℕ
fronted e behind = (e, behind)

-- ---- a byte

fed : (b c : ℕ) → nat_eq b c ≡ true → b ≡ c
fed b c e = eqb-true b c e

same_byte : (b : ℕ) → nat_eq b b ≡ true
same_byte b = grind (arith, common_steps)

pub behind_is : (byte : ℕ) (bytes behind : List ℕ) → behind_byte byte bytes ≡ Some behind → bytes ≡ byte ∷ behind
behind_is byte [] behind e = absurd cc
behind_is byte (b ∷ bytes) behind e = go (nat_eq b byte) refl e
  where
    go : (x : Bool) → nat_eq b byte ≡ x → (if x then Some bytes else None) ≡ Some behind → b ∷ bytes ≡ byte ∷ behind
    go true t f = ap (λ z. z ∷ bytes) (fed b byte t) ∙ ap (λ z. byte ∷ z) (some_same f)
    go false t f = absurd cc

pub behind_read : (byte : ℕ) (behind : List ℕ) → behind_byte byte (byte ∷ behind) ≡ Some behind
behind_read byte behind = pick (nat_eq byte byte) _ _ (same_byte byte)

-- ---- how often

-- once is not written, and more often is behind an `x`
times_cases : (t : ℕ) → ((t ≡ 1) × (times_text t ≡ [])) ⊎ ((nat_eq t 1 ≡ false) × (times_text t ≡ 120 ∷ decimal t))
times_cases t = go (nat_eq t 1) refl
  where
    go : (x : Bool) → nat_eq t 1 ≡ x → ((t ≡ 1) × (times_text t ≡ [])) ⊎ ((nat_eq t 1 ≡ false) × (times_text t ≡ 120 ∷ decimal t))
    go true e = inl (fed t 1 e, pick (nat_eq t 1) _ _ e)
    go false e = inr (e, pass (nat_eq t 1) _ _ e)

-- so often at the front, and this is behind it
record AreTimes (bytes : List ℕ) (t : ℕ) (rest : List ℕ) : Type 0 where
  count : IsCount t
  is : bytes ≡ times_text t ++ rest

once_is : (bytes : List ℕ) (t : ℕ) (rest : List ℕ) → numbered 1 bytes ≡ numbered t rest → AreTimes bytes t rest
once_is bytes t rest e =
    let p = some_pair_parts 1 t bytes rest e in
    record { count = (omega (arith, p.0), omega (arith, p.0)); is = p.1 ∙ ap (λ x. times_text x ++ rest) p.0 }

many_is : (bytes digits : List ℕ) (t : ℕ) (rest : List ℕ) → bytes ≡ 120 ∷ digits → (o : Option (ℕ × List ℕ)) → number_from 5000000 0 digits ≡ o
    → option_and_then not_once o ≡ Some (t, rest) → AreTimes bytes t rest
many_is bytes digits t rest b None n e = absurd cc
many_is bytes digits t rest b (Some (k, behind)) n e = go (nat_eq k 1) refl e
  where
    go : (x : Bool) → nat_eq k 1 ≡ x → (if x then None else numbered k behind) ≡ numbered t rest → AreTimes bytes t rest
    go true u f = absurd cc
    go false u f =
        let p = some_pair_parts k t behind rest f in
        let h = number_is 5000000 digits k behind (omega arith) n in
        record {
          count = (omega (arith, h.some, p.0), omega (arith, h.within, p.0));
          is = b ∙ ap (λ x. 120 ∷ x) h.is ∙ ap (λ x. x ++ behind) (sym (pass (nat_eq k 1) [] (120 ∷ decimal k) u)) ∙ ap (λ x. times_text x ++ behind) p.0 ∙ ap (λ x. times_text t ++ x) p.1;
        }

times_is : (bytes : List ℕ) (t : ℕ) (rest : List ℕ) → times_from bytes ≡ Some (t, rest) → AreTimes bytes t rest
times_is bytes t rest e = go (behind_byte 120 bytes) refl e
  where
    go : (o : Option (List ℕ)) → behind_byte 120 bytes ≡ o → times_by bytes o ≡ Some (t, rest) → AreTimes bytes t rest
    go None b f = once_is bytes t rest f
    go (Some digits) b f = many_is bytes digits t rest (behind_is 120 bytes digits b) (number_from 5000000 0 digits) refl f

-- neither a digit nor an `x` is at the front
record EndsTimes (rest : List ℕ) : Type 0 where
  digit : NoDigit rest
  times : behind_byte 120 rest ≡ None

once_read : (rest : List ℕ) → EndsTimes rest → times_from rest ≡ Some (1, rest)
once_read rest s = ap (times_by rest) s.times

many_read : (t : ℕ) (rest : List ℕ) → IsCount t → nat_eq t 1 ≡ false → EndsTimes rest → times_from (120 ∷ (decimal t ++ rest)) ≡ Some (t, rest)
many_read t rest c n s =
    ap (option_and_then not_once) (number_read 5000000 t (decimal t ++ rest) rest (omega arith) (record { some = c.0; within = c.1; is = refl; ends = s.digit }))
    ∙ pass (nat_eq t 1) _ _ n

times_read : (t : ℕ) (rest : List ℕ) → IsCount t → EndsTimes rest → times_from (times_text t ++ rest) ≡ Some (t, rest)
times_read t rest c s = go (times_cases t)
  where
    go : ((t ≡ 1) × (times_text t ≡ [])) ⊎ ((nat_eq t 1 ≡ false) × (times_text t ≡ 120 ∷ decimal t)) → times_from (times_text t ++ rest) ≡ Some (t, rest)
    go (inl (one, e)) = ap (λ x. times_from (x ++ rest)) e ∙ once_read rest s ∙ ap (λ x. Some (x, rest)) (sym one)
    go (inr (n, e)) = ap (λ x. times_from (x ++ rest)) e ∙ many_read t rest c n s

-- ---- a whole entry

-- an entry is at the front that stands for as many numbers as are left or for fewer, and this is behind the byte that ends it
pub record IsFront (left : ℕ) (bytes : List ℕ) (e : ScheduleEntry) (behind : List ℕ) : Type 0 where
  pub agent : IsAgent e.agent
  pub times : IsCount e.times
  pub few : e.times ≤ left
  pub is : bytes ≡ entry_text e ++ stop_of (left - e.times) ∷ behind

stop_ends : (n : ℕ) (behind : List ℕ) → EndsTimes (stop_of n ∷ behind)
stop_ends zero behind = record { digit = refl; times = refl }
stop_ends (suc n) behind = record { digit = refl; times = refl }

times_end : (t n : ℕ) (behind : List ℕ) → NoDigit (times_text t ++ stop_of n ∷ behind)
times_end t n behind = go (times_cases t)
  where
    go : ((t ≡ 1) × (times_text t ≡ [])) ⊎ ((nat_eq t 1 ≡ false) × (times_text t ≡ 120 ∷ decimal t)) → NoDigit (times_text t ++ stop_of n ∷ behind)
    go (inl (one, e)) = subst (λ x. NoDigit (x ++ stop_of n ∷ behind)) (sym e) (stop_ends n behind).digit
    go (inr (some, e)) = subst (λ x. NoDigit (x ++ stop_of n ∷ behind)) (sym e) refl

not_more : (m n : ℕ) → nat_lt m n ≡ false → n ≤ m
not_more m n e = grind (arith, common_steps)

no_more : (m n : ℕ) → n ≤ m → nat_lt m n ≡ false
no_more m n l = grind (arith, common_steps)

module _ (left : ℕ) (bytes : List ℕ) (e : ScheduleEntry) (behind : List ℕ) where
  -- what stands behind the number of the agent
  behind_agent : (a : ℕ) (rest : List ℕ) → IsNumber 65535 bytes a rest → (t : ℕ) (more : List ℕ) → AreTimes rest t more → ended_entry left a (t, more) ≡ Some (e, behind) → IsFront left bytes e behind
  behind_agent a rest n t more s f = few (nat_lt left t) refl f
    where
      stopped : t ≤ left → (o : Option (List ℕ)) → behind_byte (stop_of (left - t)) more ≡ o → option_map (fronted (entry a t)) o ≡ Some (e, behind) → IsFront left bytes e behind
      stopped l None b g = absurd cc
      stopped l (Some last) b g =
          let p = some_pair_parts (entry a t) e last behind g in
          let is : bytes ≡ entry_text (entry a t) ++ stop_of (left - t) ∷ last =
          n.is ∙ ap (λ x. decimal a ++ x) (s.is ∙ ap (λ x. times_text t ++ x) (behind_is (stop_of (left - t)) more last b)) ∙ sym (append_assoc (decimal a) (times_text t) (stop_of (left - t) ∷ last)) in
          let front : IsFront left bytes (entry a t) last = record { agent = (n.some, n.within); times = s.count; few = l; is = is } in
          subst (λ x. IsFront left bytes x behind) p.0 (subst (λ x. IsFront left bytes (entry a t) x) p.1 front)

      few : (x : Bool) → nat_lt left t ≡ x →
          (if x then None else option_map (fronted (entry a t)) (behind_byte (stop_of (left - t)) more)) ≡ Some (e, behind) → IsFront left bytes e behind
      few true u g = absurd cc
      few false u g = stopped (not_more left t u) (behind_byte (stop_of (left - t)) more) refl g

  times_behind : (a : ℕ) (rest : List ℕ) → IsNumber 65535 bytes a rest → (o : Option (ℕ × List ℕ)) → times_from rest ≡ o →
      option_and_then (λ t. ended_entry left a t) o ≡ Some (e, behind) → IsFront left bytes e behind
  times_behind a rest n None u f = absurd cc
  times_behind a rest n (Some (t, more)) u f = behind_agent a rest n t more (times_is rest t more u) f

  agent_before : (o : Option (ℕ × List ℕ)) → number_from 65535 0 bytes ≡ o →
      option_and_then (λ a. option_and_then (λ t. ended_entry left a.0 t) (times_from a.1)) o ≡ Some (e, behind) → IsFront left bytes e behind
  agent_before None u f = absurd cc
  agent_before (Some (a, rest)) u f = times_behind a rest (number_is 65535 bytes a rest (omega arith) u) (times_from rest) refl f

  pub front_is : entry_from left bytes ≡ Some (e, behind) → IsFront left bytes e behind
  front_is f = agent_before (number_from 65535 0 bytes) refl f

  pub front_read : IsFront left bytes e behind → entry_from left bytes ≡ Some (e, behind)
  front_read h =
      let stop = stop_of (left - e.times) in
      let rest = times_text e.times ++ stop ∷ behind in
      let agent : IsNumber 65535 bytes e.agent rest = record {
        some = h.agent.0;
        within = h.agent.1;
        is = h.is ∙ append_assoc (decimal e.agent) (times_text e.times) (stop ∷ behind);
        ends = times_end e.times (left - e.times) behind;
      } in
      ap (option_and_then (λ a. option_and_then (λ t. ended_entry left a.0 t) (times_from a.1))) (number_read 65535 e.agent bytes rest (omega arith) agent)
      ∙ ap (option_and_then (λ t. ended_entry left e.agent t)) (times_read e.times (stop ∷ behind) h.times (stop_ends (left - e.times) behind))
      ∙ pass (nat_lt left e.times) _ _ (no_more left e.times h.few)
      ∙ ap (option_map (fronted (entry e.agent e.times))) (behind_read stop behind)
