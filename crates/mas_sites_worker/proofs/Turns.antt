-- A turn of a site keeps what its ends know in step with what its stands took and were given.
use Rattle.std.proofs.Common.{ℕ, zero, suc, ◌≡◌, ◌≢◌, ◌-◌, ◌⊎◌, inl, inr, arith, Bool, true, false, nat_eq, if◌then◌else◌, List, [], ◌∷◌, ◌++◌, append-nil, length, slice_get, IfSome, Option, None, Some, refl, ap, sym, ◌∙◌, subst}
use Rattle.std.specs.Option.{option_map, option_to_list}
use Rattle.mas_mind.specs.declared.mind.Input.{Input}
use Rattle.mas_mind.specs.declared.mind.Message.{Message}
use Rattle.mas_mind.specs.Minds.{Kind, IsAgent}
use Rattle.mas_board.specs.declared.seats.Phase.{Phase}
use Rattle.mas_board.specs.declared.seats.Phase.TheVariants.{Idle, Busy, Left as Gone}
use Rattle.mas_board.specs.declared.seats.Sensed.{Sensed}
use Rattle.mas_board.specs.declared.seats.Sensed.TheVariants.{Input as Given, Left, Ahead, Halted}
use Rattle.mas_board.specs.Boards.{seat_at, sense}
use Rattle.mas_core_laws.specs.Mail.{takes_in, message_of}
use Rattle.mas_sites_stand.specs.declared.seated.Seated.{Seated}
use Rattle.mas_sites_scripts.specs.Scripts.{change, longer}
use Rattle.mas_sites_scripts.specs.Giving.{Placed, IsGiven, StandIsGiven, OwnIsGiven, Sends, is_own, leaving}
use Rattle.mas_sites_scripts.specs.Sites.{Sited, placed, Before, IsAlong, PassesAt, PassesIn, Turned}
use Rattle.mas_sites_scripts.proofs.Changes.{same_or, change_length, get_changed, get_other}
use Rattle.mas_sites_rounds.specs.Between.{those_of, stand_takes, messages_in, script_of}
use Rattle.mas_sites_rounds.proofs.Takes.{taken_more}
use Rattle.mas_sites_rounds.proofs.Tallies.{item_at, below, messages_more, script_other, script_changed, none_of, one_of, same_sender, other_sender, sender_is, own_now, minds_now}
use Rattle.mas_sites_wire.specs.declared.wire.Log.{Log}
use Rattle.mas_sites_wire.specs.Wires.{with_put}
use Rattle.mas_sites_wire.specs.Lines.{Lines, come, gone, HasGot, HasPut}
use Rattle.mas_sites_worker.specs.Sides.{may_put, put_on, got_on, AreCarried}

-- ---- one end

gone_by : {X : Type 0} (q : Log → X) (m : Message) (v : Log) (b : Bool) → q (with_put v m) ≡ q v → q (if b then with_put v m else v) ≡ q v
gone_by q m v true e = e
gone_by q m v false e = refl

gone_may : (m : Message) (v : Log) → may_put (Some (gone m v)) ≡ may_put (Some v)
gone_may m v = gone_by (λ x. x.puts) m v v.puts refl

gone_got : (m : Message) (v : Log) → got_on (Some (gone m v)) ≡ got_on (Some v)
gone_got m v = gone_by (λ x. x.got) m v v.puts refl

gone_put : (m : Message) (o : Option Log) → may_put o ≡ true → put_on (option_map (gone m) o) ≡ put_on o ++ m ∷ []
gone_put m None e = cc
gone_put m (Some v) e = ap (λ b. put_on (Some (if b then with_put v m else v))) e

come_may : (e : Option Message) (v : Log) → may_put (Some (come e v)) ≡ may_put (Some v)
come_may None v = refl
come_may (Some m) v = refl

come_put : (e : Option Message) (v : Log) → put_on (Some (come e v)) ≡ put_on (Some v)
come_put None v = refl
come_put (Some m) v = refl

come_got : (e : Option Message) (v : Log) → got_on (Some (come e v)) ≡ v.got ++ option_to_list e
come_got None v = sym (append-nil v.got)
come_got (Some m) v = refl

-- ---- one end of many

-- what a change leaves alone
kept : {X : Type 0} (q : Option Log → X) (f : Log → Log) → ((v : Log) → q (Some (f v)) ≡ q (Some v)) → (logs : List Log) (i j : ℕ) →
    q (slice_get (change i f logs) j) ≡ q (slice_get logs j)
kept q f h [] i j = refl
kept q f h (v ∷ logs) zero zero = h v
kept q f h (v ∷ logs) zero (suc j) = refl
kept q f h (v ∷ logs) (suc i) zero = refl
kept q f h (v ∷ logs) (suc i) (suc j) = kept q f h logs i j

changed_get : (logs : List Log) (i : ℕ) (f : Log → Log) → slice_get (change i f logs) i ≡ option_map f (slice_get logs i)
changed_get [] i f = refl
changed_get (v ∷ logs) zero f = refl
changed_get (v ∷ logs) (suc i) f = changed_get logs i f

-- ---- a message that a stand takes

module _ {V : Type 0} (minds : List (Seated V)) (from middle : Lines) where
  keep_by : {X : Type 0} (q : Option Log → X) → ((m : Message) (v : Log) → q (Some (gone m v)) ≡ q (Some v)) → (i : ℕ) (m : Message) (b : Bool) →
      Sends HasPut from (if b then Some m else None) middle → q (slice_get middle.logs i) ≡ q (slice_get from.logs i)
  keep_by q h i m true s = ap (λ x. q (slice_get x i)) s.logs ∙ kept q (gone m) (h m) from.logs (m.from - 1) i
  keep_by q h i m false s = ap (λ (x : Lines). q (slice_get x.logs i)) s

  -- what it leaves alone
  sends_keep : {X : Type 0} (q : Option Log → X) → ((m : Message) (v : Log) → q (Some (gone m v)) ≡ q (Some v)) → (i : ℕ) (message : Option Message) →
      Sends HasPut from (leaving minds message) middle → q (slice_get middle.logs i) ≡ q (slice_get from.logs i)
  sends_keep q h i None s = ap (λ (x : Lines). q (slice_get x.logs i)) s
  sends_keep q h i (Some m) s = keep_by q h i m (is_own (slice_get minds (m.from - 1))) s

  length_by : (m : Message) (b : Bool) → Sends HasPut from (if b then Some m else None) middle → length middle.logs ≡ length from.logs
  length_by m true s = ap length s.logs ∙ change_length (m.from - 1) (gone m) from.logs
  length_by m false s = ap (λ (x : Lines). length x.logs) s

  sends_length : (message : Option Message) → Sends HasPut from (leaving minds message) middle → length middle.logs ≡ length from.logs
  sends_length None s = ap (λ (x : Lines). length x.logs) s
  sends_length (Some m) s = length_by m (is_own (slice_get minds (m.from - 1))) s

  wires_by : (m : Message) (b : Bool) → Sends HasPut from (if b then Some m else None) middle → middle.wires ≡ from.wires
  wires_by m true s = s.wires
  wires_by m false s = ap (λ (x : Lines). x.wires) s

  sends_wires : (message : Option Message) → Sends HasPut from (leaving minds message) middle → middle.wires ≡ from.wires
  sends_wires None s = ap (λ (x : Lines). x.wires) s
  sends_wires (Some m) s = wires_by m (is_own (slice_get minds (m.from - 1))) s

  module _ (y : ℕ) (j : IsAgent (length minds) y) where
    abbrev put_of : Lines → List Message
    put_of x = put_on (slice_get x.logs (y - 1))

    other_by : (m : Message) (b : Bool) → nat_eq m.from y ≡ false → IsAgent (length minds) m.from → Sends HasPut from (if b then Some m else None) middle → put_of middle ≡ put_of from
    other_by m true e h s = ap (λ x. put_on (slice_get x (y - 1))) s.logs ∙ ap put_on (get_other (m.from - 1) (y - 1) (gone m) from.logs (other_sender (length minds) y m j h e))
    other_by m false e h s = ap put_of s

    -- of an agent that lives here: it is put
    sent_on : (m : Message) (b : Bool) → nat_eq m.from y ≡ b → IsAgent (length minds) m.from → is_own (slice_get minds (y - 1)) ≡ true → may_put (slice_get from.logs (y - 1)) ≡ true →
        Sends HasPut from (leaving minds (Some m)) middle → put_of middle ≡ put_of from ++ those_of y (m ∷ [])
    sent_on m true e h o p s =
        let same : m.from ≡ y = same_sender y m e in
        let own : is_own (slice_get minds (m.from - 1)) ≡ true = ap (λ x. is_own (slice_get minds (x - 1))) same ∙ o in
        let put : HasPut from m middle = subst (λ x. Sends HasPut from (if x then Some m else None) middle) own s in
        ap (λ x. put_on (slice_get x (y - 1))) (put.logs ∙ ap (λ x. change (x - 1) (gone m) from.logs) same)
        ∙ ap put_on (changed_get from.logs (y - 1) (gone m))
        ∙ gone_put m (slice_get from.logs (y - 1)) p
        ∙ ap (λ x. put_of from ++ x) (sym (one_of y m e))
    sent_on m false e h o p s =
        other_by m (is_own (slice_get minds (m.from - 1))) e h s ∙ sym (append-nil (put_of from)) ∙ ap (λ x. put_of from ++ x) (sym (none_of y m e))

    goes_on_wire : (message : Option Message) → IfSome message (λ m. IsAgent (length minds) m.from) → is_own (slice_get minds (y - 1)) ≡ true → may_put (slice_get from.logs (y - 1)) ≡ true →
        Sends HasPut from (leaving minds message) middle → put_of middle ≡ put_of from ++ those_of y (option_to_list message)
    goes_on_wire None h o p s = ap put_of s ∙ sym (append-nil (put_of from))
    goes_on_wire (Some m) h o p s = sent_on m (nat_eq m.from y) refl h o p s

-- ---- a turn

module _ {V : Type 0} (from to : Lines) (old : Sited V) (after : Placed V) (a y : ℕ) (j : IsAgent (length old.platform.minds) y)
    (l : length from.logs ≡ length old.platform.minds) (n : length old.scripts ≡ length old.platform.minds) where
  -- what its turn takes of y is put, where y lives here
  abbrev GoesOut : List Message → Type 0
  GoesOut taken =
      is_own (slice_get old.platform.minds (y - 1)) ≡ true → may_put (slice_get from.logs (y - 1)) ≡ true →
      put_on (slice_get to.logs (y - 1)) ≡ put_on (slice_get from.logs (y - 1)) ++ taken

  -- and else what is got comes into y's script
  abbrev ComesIn : Type 0
  ComesIn =
      is_own (slice_get old.platform.minds (y - 1)) ≡ false → got_on (slice_get from.logs (y - 1)) ≡ messages_in (script_of old.scripts y) →
      got_on (slice_get to.logs (y - 1)) ≡ messages_in (script_of after.scripts y)

  abbrev Stays : Type 0
  Stays = may_put (slice_get to.logs (y - 1)) ≡ may_put (slice_get from.logs (y - 1))

  quiet_by : (taken : List Message) → to ≡ from → after ≡ placed old → taken ≡ [] → GoesOut taken × (ComesIn × Stays)
  quiet_by taken e f g = (
    λ o p. ap (λ (x : Lines). put_on (slice_get x.logs (y - 1))) e ∙ sym (append-nil (put_on (slice_get from.logs (y - 1)))) ∙ ap (λ x. put_on (slice_get from.logs (y - 1)) ++ x) (sym g),
    (
      λ o c. ap (λ (x : Lines). got_on (slice_get x.logs (y - 1))) e ∙ c ∙ ap (λ (x : Placed V). messages_in (script_of x.scripts y)) (sym f),
      ap (λ (x : Lines). may_put (slice_get x.logs (y - 1))) e,
    ),
  )

  own_takes : (input : Input) → OwnIsGiven from to (placed old) after a →
      (if is_own (slice_get old.platform.minds (a - 1)) then [] else those_of y (option_to_list input.message)) ≡ []
  own_takes input g = ap (λ o. if is_own o then [] else those_of y (option_to_list input.message)) g.is

  module _ (input : Input) (g : StandIsGiven HasGot HasPut from to (placed old) after a input.message) where
    middle_got : got_on (slice_get g.middle.logs (y - 1)) ≡ got_on (slice_get from.logs (y - 1))
    middle_got = sends_keep old.platform.minds from g.middle got_on gone_got (y - 1) input.message g.sent

    -- the same place, or another one, of the stand that was given an entry
    came_by : (a - 1 ≡ y - 1) ⊎ (a - 1 ≢ y - 1) → ComesIn
    came_by (inl e) o c =
        let k = below (length old.platform.minds) y j in
        let m = sends_length old.platform.minds from g.middle input.message g.sent in
        let x = item_at g.middle.logs (y - 1) (omega (arith, k, l, m)) in
        let scripts : script_of after.scripts y ≡ script_of old.scripts y ++ g.entry ∷ [] =
        ap (λ x. script_of x y) (g.scripts ∙ ap (λ i. change i (longer g.entry) old.scripts) e) ∙ script_changed old.scripts (longer g.entry) y (omega (arith, k, n)) in
        let log : slice_get to.logs (y - 1) ≡ Some (come g.entry x.0) =
        ap (λ t. slice_get t (y - 1)) (g.got_it.logs ∙ ap (λ i. change i (come g.entry) g.middle.logs) e) ∙ get_changed (y - 1) (come g.entry) g.middle.logs x.0 x.1 in
        ap got_on log
        ∙ come_got g.entry x.0
        ∙ ap (λ t. t ++ option_to_list g.entry) (ap got_on (sym x.1) ∙ middle_got ∙ c)
        ∙ sym (messages_more (script_of old.scripts y) g.entry)
        ∙ ap messages_in (sym scripts)
    came_by (inr d) o c =
        let scripts : script_of after.scripts y ≡ script_of old.scripts y = ap (λ x. script_of x y) g.scripts ∙ script_other old.scripts (a - 1) (longer g.entry) y d in
        ap (λ t. got_on (slice_get t (y - 1))) g.got_it.logs
        ∙ ap got_on (get_other (a - 1) (y - 1) (come g.entry) g.middle.logs d)
        ∙ middle_got ∙ c
        ∙ ap messages_in (sym scripts)

    out_by : GoesOut (if is_own (slice_get old.platform.minds (a - 1)) then [] else those_of y (option_to_list input.message))
    out_by o p =
        let stand : is_own (slice_get old.platform.minds (a - 1)) ≡ false = ap is_own g.is in
        let sender = sender_is (length old.platform.minds) a input.message g.for_me in
        ap (λ t. put_on (slice_get t (y - 1))) g.got_it.logs
        ∙ kept put_on (come g.entry) (come_put g.entry) g.middle.logs (a - 1) (y - 1)
        ∙ goes_on_wire old.platform.minds from g.middle y j input.message sender o p g.sent
        ∙ ap (λ b. put_on (slice_get from.logs (y - 1)) ++ (if b then [] else those_of y (option_to_list input.message))) (sym stand)

    stays_by : Stays
    stays_by =
        ap (λ t. may_put (slice_get t (y - 1))) g.got_it.logs
        ∙ kept may_put (come g.entry) (come_may g.entry) g.middle.logs (a - 1) (y - 1)
        ∙ sends_keep old.platform.minds from g.middle may_put gone_may (y - 1) input.message g.sent

  given_by : (input : Input) → IsGiven HasGot HasPut from to (placed old) after a input.message →
      GoesOut (if is_own (slice_get old.platform.minds (a - 1)) then [] else those_of y (option_to_list input.message)) × (ComesIn × Stays)
  given_by input (inl g) = quiet_by _ g.carrier g.same (own_takes input g)
  given_by input (inr g) = (out_by input g, (came_by input g (same_or (a - 1) (y - 1)), stays_by input g))

  nothing : (b : Bool) → (if b then [] else those_of y []) ≡ []
  nothing true = refl
  nothing false = refl

  sensed_by : (s : Sensed) → PassesAt HasGot HasPut from to (placed old) after a s →
      GoesOut (if is_own (slice_get old.platform.minds (a - 1)) then [] else those_of y (message_of s)) × (ComesIn × Stays)
  sensed_by (Given input) h = given_by input h
  sensed_by (Left end) h = quiet_by _ h.0 h.1 (nothing (is_own (slice_get old.platform.minds (a - 1))))
  sensed_by (Ahead cycle lowest) h = quiet_by _ h.0 h.1 (nothing (is_own (slice_get old.platform.minds (a - 1))))
  sensed_by Halted h = quiet_by _ h.0 h.1 (nothing (is_own (slice_get old.platform.minds (a - 1))))

  passed_by : (phase : Phase) → PassesIn HasGot HasPut from to old after a phase →
      GoesOut (if is_own (slice_get old.platform.minds (a - 1)) then [] else those_of y (takes_in old.platform a phase)) × (ComesIn × Stays)
  passed_by Idle h = sensed_by (sense old.platform.board a).0 h
  passed_by Busy h = quiet_by _ h.0 h.1 (nothing (is_own (slice_get old.platform.minds (a - 1))))
  passed_by (Gone end) h = quiet_by _ h.0 h.1 (nothing (is_own (slice_get old.platform.minds (a - 1))))

-- ---- the wires stay, and so does their number

pub record StaysWired (from to : Lines) : Type 0 where
  pub number : length to.logs ≡ length from.logs
  pub wires : to.wires ≡ from.wires

pub same_wired : (from to : Lines) → to ≡ from → StaysWired from to
same_wired from to e = record { number = ap (λ (x : Lines). length x.logs) e; wires = ap (λ (x : Lines). x.wires) e }

given_wired : {V : Type 0} (from to : Lines) (old : Sited V) (after : Placed V) (a : ℕ) (message : Option Message) → IsGiven HasGot HasPut from to (placed old) after a message → StaysWired from to
given_wired from to old after a message (inl g) = same_wired from to g.carrier
given_wired from to old after a message (inr g) = record {
  number = ap length g.got_it.logs ∙ change_length (a - 1) (come g.entry) g.middle.logs ∙ sends_length old.platform.minds from g.middle message g.sent;
  wires = g.got_it.wires ∙ sends_wires old.platform.minds from g.middle message g.sent;
}

sensed_wired : {V : Type 0} (from to : Lines) (old : Sited V) (after : Placed V) (a : ℕ) (s : Sensed) → PassesAt HasGot HasPut from to (placed old) after a s → StaysWired from to
sensed_wired from to old after a (Given input) h = given_wired from to old after a input.message h
sensed_wired from to old after a (Left end) h = same_wired from to h.0
sensed_wired from to old after a (Ahead cycle lowest) h = same_wired from to h.0
sensed_wired from to old after a Halted h = same_wired from to h.0

passed_wired : {V : Type 0} (from to : Lines) (old : Sited V) (after : Placed V) (a : ℕ) (phase : Phase) → PassesIn HasGot HasPut from to old after a phase → StaysWired from to
passed_wired from to old after a Idle h = sensed_wired from to old after a (sense old.platform.board a).0 h
passed_wired from to old after a Busy h = same_wired from to h.0
passed_wired from to old after a (Gone end) h = same_wired from to h.0

pub turn_wired : {V : Type 0} (k : Kind V) (from to : Lines) (old new : Sited V) (a : ℕ) → Turned k HasGot HasPut from to old new a → StaysWired from to
turn_wired k from to old new a t = passed_wired from to old t.after a (seat_at old.platform.board a).phase t.passes

-- ---- what a turn keeps, from every opening of its site

module _ {V : Type 0} (k : Kind V) (near : Before V) (from to : Lines) (old new : Sited V) (a : ℕ) (h : IsAlong k near.board near.minds old)
    (t : Turned k HasGot HasPut from to old new a) (c : AreCarried k near old.scripts old.schedule from.logs) where
  same_minds : length old.platform.minds ≡ length near.minds
  same_minds = minds_now k near.board near.minds old h

  here : (y : ℕ) → IsAgent (length near.minds) y → IsAgent (length old.platform.minds) y
  here y j = subst (λ n. IsAgent n y) (sym same_minds) j

  lines_are : length from.logs ≡ length old.platform.minds
  lines_are = c.number ∙ sym same_minds

  scripts_are : length old.scripts ≡ length old.platform.minds
  scripts_are = h.number ∙ sym same_minds

  step : (y : ℕ) → (j : IsAgent (length near.minds) y) →
      GoesOut from to old t.after a y (here y j) lines_are scripts_are (stand_takes y old.platform a)
      × (ComesIn from to old t.after a y (here y j) lines_are scripts_are × Stays from to old t.after a y (here y j) lines_are scripts_are)
  step y j = passed_by from to old t.after a y (here y j) lines_are scripts_are (seat_at old.platform.board a).phase t.passes

  pub turn_carried : AreCarried k near new.scripts new.schedule to.logs
  turn_carried = record {
    number = (turn_wired k from to old new a t).number ∙ c.number;
    may = λ y j. (step y j).1.1 ∙ c.may y j;
    out = λ y j o.
        let own = own_now k near.board near.minds old (y - 1) h ∙ o in
        (step y j).0 own (c.may y j ∙ o)
        ∙ ap (λ x. x ++ stand_takes y old.platform a) (c.out y j o)
        ∙ sym (taken_more k near.board near.minds y HasGot HasPut from to old new a h t);
    back = λ y j o.
        (step y j).1.0 (own_now k near.board near.minds old (y - 1) h ∙ o) (c.back y j o)
        ∙ ap (λ x. messages_in (script_of x y)) (sym t.scripts);
  }
