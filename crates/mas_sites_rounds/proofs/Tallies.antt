-- A turn of a site keeps what was taken, what came and what is on the way in step.
use Rattle.std.proofs.Common.{ℕ, zero, suc, ◌≡◌, ◌≢◌, ◌-◌, ◌<◌, ◌⊎◌, inl, inr, arith, Bool, true, false, true≢false, not, nat_eq, if◌then◌else◌, List, [], ◌∷◌, ◌++◌, append_assoc, append-nil, length, slice_get, IfSome, Option, None, Some, refl, ap, sym, ◌∙◌, subst}
use Rattle.std.specs.Prelude.{cond}
use Rattle.std.specs.Option.{option_to_list}
use Rattle.std.proofs.lemmas.Bool.{eqb-true, eq-eqb}
use Rattle.mas_mind.specs.declared.mind.Input.{Input}
use Rattle.mas_mind.specs.declared.mind.Message.{Message}
use Rattle.mas_mind.specs.Minds.{Kind, IsAgent, IsFor}
use Rattle.mas_board.specs.declared.seats.Phase.{Phase}
use Rattle.mas_board.specs.declared.seats.Phase.TheVariants.{Idle, Busy, Left as Gone}
use Rattle.mas_board.specs.declared.seats.Sensed.{Sensed}
use Rattle.mas_board.specs.declared.seats.Sensed.TheVariants.{Input as Given, Left, Ahead, Halted}
use Rattle.mas_board.specs.Boards.{State, seat_at, sense, box_of, box_or_none, oldest, later}
use Rattle.mas_core_laws.specs.Mail.{takes_in, message_of}
use Rattle.mas_sites_stand.specs.declared.seated.Seated.{Seated}
use Rattle.mas_sites_stand.specs.declared.seated.Seated.TheVariants as seat
use Rattle.mas_sites_scripts.specs.Scripts.{Script, change, longer, with_script, with_scripts}
use Rattle.mas_sites_scripts.specs.Giving.{Placed, IsGiven, StandIsGiven, OwnIsGiven, Sends, is_own, leaving}
use Rattle.mas_sites_scripts.specs.Sites.{Sited, placed, Before, IsUsed, IsAlong, PassesAt, PassesIn, Turned}
use Rattle.mas_sites_scripts.specs.Ways.{HasGot, HasPut, with_put, put_last}
use Rattle.mas_sites_scripts.proofs.Changes.{same_or, change_length, get_changed, get_other}
use Rattle.mas_sites_rounds.specs.Between.{those_of, stand_takes, messages_in, script_of, script_or_none, AreApart, IsTallied}
use Rattle.mas_sites_rounds.proofs.Takes.{taken_more}

-- ---- lists

pub item_at : {X : Type 0} (xs : List X) (i : ℕ) → i < length xs → (x : X) × (slice_get xs i ≡ Some x)
item_at [] i l = absurd (omega arith)
item_at (x ∷ xs) zero l = (x, refl)
item_at (x ∷ xs) (suc i) l = item_at xs i (omega arith)

pub below : (n a : ℕ) → IsAgent n a → a - 1 < n
below n a j = let f = j.from_one in let l = j.named in omega arith

pub messages_more : (script : Script) (e : Option Message) → messages_in (script ++ e ∷ []) ≡ messages_in script ++ option_to_list e
messages_more [] e = append-nil (option_to_list e)
messages_more (x ∷ script) e = ap (λ l. option_to_list x ++ l) (messages_more script e) ∙ sym (append_assoc (option_to_list x) (messages_in script) (option_to_list e))

first_and_rest : (box : List Message) → option_to_list (oldest box) ++ later box ≡ box
first_and_rest [] = refl
first_and_rest (m ∷ box) = refl

-- ---- what is on the way, place by place

box_other : (ways : List (List Message)) (i : ℕ) (f : List Message → List Message) (y : ℕ) → i ≢ y - 1 → box_of (change i f ways) y ≡ box_of ways y
box_other ways i f y n = ap box_or_none (get_other i (y - 1) f ways n)

box_changed : (ways : List (List Message)) (f : List Message → List Message) (y : ℕ) → y - 1 < length ways → box_of (change (y - 1) f ways) y ≡ f (box_of ways y)
box_changed ways f y l =
    let x = item_at ways (y - 1) l in
    ap box_or_none (get_changed (y - 1) f ways x.0 x.1) ∙ ap (λ o. f (box_or_none o)) (sym x.1)

pub script_other : (scripts : List Script) (i : ℕ) (f : Script → Script) (y : ℕ) → i ≢ y - 1 → script_of (change i f scripts) y ≡ script_of scripts y
script_other scripts i f y n = ap script_or_none (get_other i (y - 1) f scripts n)

pub script_changed : (scripts : List Script) (f : Script → Script) (y : ℕ) → y - 1 < length scripts → script_of (change (y - 1) f scripts) y ≡ f (script_of scripts y)
script_changed scripts f y l =
    let x = item_at scripts (y - 1) l in
    ap script_or_none (get_changed (y - 1) f scripts x.0 x.1) ∙ ap (λ o. f (script_or_none o)) (sym x.1)

-- ---- a message that a stand takes

pub apart_places : {V : Type 0} (minds : List (Seated V)) (i j : ℕ) → is_own (slice_get minds i) ≡ true → is_own (slice_get minds j) ≡ false → i ≢ j
apart_places minds i j e f p = true≢false (sym e ∙ ap (λ x. is_own (slice_get minds x)) p ∙ f)

pub none_of : (y : ℕ) (m : Message) → nat_eq m.from y ≡ false → those_of y (m ∷ []) ≡ []
none_of y m e = ap (λ b. cond b (m ∷ []) []) e

pub one_of : (y : ℕ) (m : Message) → nat_eq m.from y ≡ true → those_of y (m ∷ []) ≡ m ∷ []
one_of y m e = ap (λ b. cond b (m ∷ []) []) e

pub same_sender : (y : ℕ) (m : Message) → nat_eq m.from y ≡ true → m.from ≡ y
same_sender y m e = eqb-true m.from y e

pub other_sender : (n y : ℕ) (m : Message) → IsAgent n y → IsAgent n m.from → nat_eq m.from y ≡ false → m.from - 1 ≢ y - 1
other_sender n y m j h e p =
    let f = j.from_one in
    let g = h.from_one in
    let same : m.from ≡ y = omega arith in
    true≢false (sym (eq-eqb m.from y same) ∙ e)

module _ {V : Type 0} (minds : List (Seated V)) (from middle : List (List Message)) (y : ℕ) (j : IsAgent (length minds) y) where
  other_by : (m : Message) (b : Bool) → nat_eq m.from y ≡ false → IsAgent (length minds) m.from → Sends HasPut from (if b then Some m else None) middle → box_of middle y ≡ box_of from y
  other_by m true e h s = ap (λ x. box_of x y) s ∙ box_other from (m.from - 1) (put_last m) y (other_sender (length minds) y m j h e)
  other_by m false e h s = ap (λ x. box_of x y) s

  -- of another agent
  other_on : (m : Message) → nat_eq m.from y ≡ false → IsAgent (length minds) m.from → Sends HasPut from (leaving minds (Some m)) middle → box_of middle y ≡ box_of from y
  other_on m e h s = other_by m (is_own (slice_get minds (m.from - 1))) e h s

  -- of an agent that lives here: it goes on the way
  sent_on : (m : Message) (b : Bool) → nat_eq m.from y ≡ b → IsAgent (length minds) m.from → is_own (slice_get minds (y - 1)) ≡ true → length from ≡ length minds →
      Sends HasPut from (leaving minds (Some m)) middle → box_of middle y ≡ box_of from y ++ those_of y (m ∷ [])
  sent_on m true e h o l s =
      let same : m.from ≡ y = same_sender y m e in
      let own : is_own (slice_get minds (m.from - 1)) ≡ true = ap (λ x. is_own (slice_get minds (x - 1))) same ∙ o in
      let put : middle ≡ with_put from m = subst (λ x. Sends HasPut from (if x then Some m else None) middle) own s in
      let there : y - 1 < length from = let k = below (length minds) y j in omega (arith, k, l) in
      ap (λ x. box_of x y) (put ∙ ap (λ x. change (x - 1) (put_last m) from) same)
      ∙ box_changed from (put_last m) y there
      ∙ ap (λ x. box_of from y ++ x) (sym (one_of y m e))
  sent_on m false e h o l s = other_on m e h s ∙ sym (append-nil (box_of from y)) ∙ ap (λ x. box_of from y ++ x) (sym (none_of y m e))

  -- whatever the stand takes
  pub goes_on_way : (message : Option Message) → IfSome message (λ m. IsAgent (length minds) m.from) → is_own (slice_get minds (y - 1)) ≡ true → length from ≡ length minds →
      Sends HasPut from (leaving minds message) middle → box_of middle y ≡ box_of from y ++ those_of y (option_to_list message)
  goes_on_way None h o l s = ap (λ x. box_of x y) s ∙ sym (append-nil (box_of from y))
  goes_on_way (Some m) h o l s = sent_on m (nat_eq m.from y) refl h o l s

  away_by : (m : Message) (b : Bool) → is_own (slice_get minds (m.from - 1)) ≡ b → is_own (slice_get minds (y - 1)) ≡ false → Sends HasPut from (if b then Some m else None) middle →
      box_of middle y ≡ box_of from y
  away_by m true e o s = ap (λ x. box_of x y) s ∙ box_other from (m.from - 1) (put_last m) y (apart_places minds (m.from - 1) (y - 1) e o)
  away_by m false e o s = ap (λ x. box_of x y) s

  -- where y lives at the other site nothing is put on its way
  pub stays_on_way : (message : Option Message) → is_own (slice_get minds (y - 1)) ≡ false → Sends HasPut from (leaving minds message) middle → box_of middle y ≡ box_of from y
  stays_on_way None o s = ap (λ x. box_of x y) s
  stays_on_way (Some m) o s = away_by m (is_own (slice_get minds (m.from - 1))) refl o s

sent_by : (from middle : List (List Message)) (m : Message) (b : Bool) → Sends HasPut from (if b then Some m else None) middle → length middle ≡ length from
sent_by from middle m true s = ap length s ∙ change_length (m.from - 1) (put_last m) from
sent_by from middle m false s = ap length s

pub sent_length : {V : Type 0} (minds : List (Seated V)) (from middle : List (List Message)) (message : Option Message) → Sends HasPut from (leaving minds message) middle → length middle ≡ length from
sent_length minds from middle None s = ap length s
sent_length minds from middle (Some m) s = sent_by from middle m (is_own (slice_get minds (m.from - 1))) s

-- ---- a turn

pub sender_is : (n a : ℕ) (message : Option Message) → IfSome message (IsFor a n) → IfSome message (λ m. IsAgent n m.from)
sender_is n a None h = tt
sender_is n a (Some m) h = h.sender

-- nothing is taken, and nothing passes
abbrev NothingPasses : {V : Type 0} → List (List Message) → List (List Message) → Sited V → Placed V → List Message → Type 0
NothingPasses from to old after taken = ((to ≡ from) × (after ≡ placed old)) × (taken ≡ [])

module _ {V : Type 0} (from to : List (List Message)) (old : Sited V) (after : Placed V) (a y : ℕ) (j : IsAgent (length old.platform.minds) y)
    (l : length from ≡ length old.platform.minds) (n : length old.scripts ≡ length old.platform.minds) where
  -- what its turn takes of y goes on y's way, where y lives here
  abbrev GoesOut : List Message → Type 0
  GoesOut taken = is_own (slice_get old.platform.minds (y - 1)) ≡ true → box_of to y ≡ box_of from y ++ taken

  -- and else what comes from y's way comes into its script
  abbrev ComesIn : Type 0
  ComesIn = is_own (slice_get old.platform.minds (y - 1)) ≡ false → messages_in (script_of after.scripts y) ++ box_of to y ≡ messages_in (script_of old.scripts y) ++ box_of from y

  quiet_by : (taken : List Message) → NothingPasses from to old after taken → GoesOut taken × ComesIn
  quiet_by taken h = (
    λ o. ap (λ x. box_of x y) h.0.0 ∙ sym (append-nil (box_of from y)) ∙ ap (λ x. box_of from y ++ x) (sym h.1),
    λ o. ap (λ (x : Placed V). messages_in (script_of x.scripts y) ++ box_of to y) h.0.1 ∙ ap (λ x. messages_in (script_of old.scripts y) ++ box_of x y) h.0.0,
  )

  own_takes : (input : Input) → OwnIsGiven from to (placed old) after a →
      (if is_own (slice_get old.platform.minds (a - 1)) then [] else those_of y (option_to_list input.message)) ≡ []
  own_takes input g = ap (λ o. if is_own o then [] else those_of y (option_to_list input.message)) g.is

  -- the same place, or another one, of the stand that was given an entry
  came_by : (input : Input) (g : StandIsGiven HasGot HasPut from to (placed old) after a input.message) → (a - 1 ≡ y - 1) ⊎ (a - 1 ≢ y - 1) → ComesIn
  came_by input g (inl e) o =
      let middle : box_of g.middle y ≡ box_of from y = stays_on_way old.platform.minds from g.middle y j input.message o g.sent in
      let place : box_of g.middle a ≡ box_of g.middle y = ap (λ i. box_or_none (slice_get g.middle i)) e in
      let entry : g.entry ≡ oldest (box_of from y) = g.got_it.message ∙ ap oldest (place ∙ middle) in
      let k = below (length old.platform.minds) y j in
      let scripts : script_of after.scripts y ≡ script_of old.scripts y ++ g.entry ∷ [] =
      ap (λ x. script_of x y) (g.scripts ∙ ap (λ i. change i (longer g.entry) old.scripts) e) ∙ script_changed old.scripts (longer g.entry) y (omega (arith, k, n)) in
      let m = sent_length old.platform.minds from g.middle input.message g.sent in
      let there : y - 1 < length g.middle = omega (arith, k, l, m) in
      let box : box_of to y ≡ later (box_of from y) =
      ap (λ x. box_of x y) (g.got_it.rest ∙ ap (λ i. change i later g.middle) e) ∙ box_changed g.middle later y there ∙ ap later middle in
      ap (λ x. messages_in x ++ box_of to y) scripts
      ∙ ap (λ x. x ++ box_of to y) (messages_more (script_of old.scripts y) g.entry)
      ∙ append_assoc (messages_in (script_of old.scripts y)) (option_to_list g.entry) (box_of to y)
      ∙ ap (λ x. messages_in (script_of old.scripts y) ++ (option_to_list x ++ box_of to y)) entry
      ∙ ap (λ x. messages_in (script_of old.scripts y) ++ (option_to_list (oldest (box_of from y)) ++ x)) box
      ∙ ap (λ x. messages_in (script_of old.scripts y) ++ x) (first_and_rest (box_of from y))
  came_by input g (inr d) o =
      let middle : box_of g.middle y ≡ box_of from y = stays_on_way old.platform.minds from g.middle y j input.message o g.sent in
      let box : box_of to y ≡ box_of from y = ap (λ x. box_of x y) g.got_it.rest ∙ box_other g.middle (a - 1) later y d ∙ middle in
      let scripts : script_of after.scripts y ≡ script_of old.scripts y = ap (λ x. script_of x y) g.scripts ∙ script_other old.scripts (a - 1) (longer g.entry) y d in
      ap (λ x. messages_in x ++ box_of to y) scripts ∙ ap (λ x. messages_in (script_of old.scripts y) ++ x) box

  stand_by : (input : Input) → StandIsGiven HasGot HasPut from to (placed old) after a input.message →
      GoesOut (if is_own (slice_get old.platform.minds (a - 1)) then [] else those_of y (option_to_list input.message)) × ComesIn
  stand_by input g = (
    λ o.
        let stand : is_own (slice_get old.platform.minds (a - 1)) ≡ false = ap is_own g.is in
        let d : a - 1 ≢ y - 1 = λ e. apart_places old.platform.minds (y - 1) (a - 1) o stand (sym e) in
        ap (λ x. box_of x y) g.got_it.rest
        ∙ box_other g.middle (a - 1) later y d
        ∙ goes_on_way old.platform.minds from g.middle y j input.message (sender_is (length old.platform.minds) a input.message g.for_me) o l g.sent
        ∙ ap (λ b. box_of from y ++ (if b then [] else those_of y (option_to_list input.message))) (sym stand),
    came_by input g (same_or (a - 1) (y - 1)),
  )

  given_by : (input : Input) → IsGiven HasGot HasPut from to (placed old) after a input.message →
      GoesOut (if is_own (slice_get old.platform.minds (a - 1)) then [] else those_of y (option_to_list input.message)) × ComesIn
  given_by input (inl g) = quiet_by _ ((g.carrier, g.same), own_takes input g)
  given_by input (inr g) = stand_by input g

  nothing : (b : Bool) → (if b then [] else those_of y []) ≡ []
  nothing true = refl
  nothing false = refl

  sensed_by : (s : Sensed) → PassesAt HasGot HasPut from to (placed old) after a s →
      GoesOut (if is_own (slice_get old.platform.minds (a - 1)) then [] else those_of y (message_of s)) × ComesIn
  sensed_by (Given input) h = given_by input h
  sensed_by (Left end) h = quiet_by _ (h, nothing (is_own (slice_get old.platform.minds (a - 1))))
  sensed_by (Ahead cycle lowest) h = quiet_by _ (h, nothing (is_own (slice_get old.platform.minds (a - 1))))
  sensed_by Halted h = quiet_by _ (h, nothing (is_own (slice_get old.platform.minds (a - 1))))

  pub passed_by : (phase : Phase) → PassesIn HasGot HasPut from to old after a phase →
      GoesOut (if is_own (slice_get old.platform.minds (a - 1)) then [] else those_of y (takes_in old.platform a phase)) × ComesIn
  passed_by Idle h = sensed_by (sense old.platform.board a).0 h
  passed_by Busy h = quiet_by _ (h, nothing (is_own (slice_get old.platform.minds (a - 1))))
  passed_by (Gone end) h = quiet_by _ (h, nothing (is_own (slice_get old.platform.minds (a - 1))))

-- ---- who lives where

own_used : {V : Type 0} (o p : Option (Seated V)) → IsUsed o p → is_own o ≡ is_own p
own_used None None h = refl
own_used (Some (seat.Own m)) (Some (seat.Own n)) h = refl
own_used (Some (seat.Stand s)) (Some (seat.Stand t)) h = refl
own_used None (Some (seat.Own m)) h = absurd h
own_used None (Some (seat.Stand s)) h = absurd h
own_used (Some (seat.Own m)) None h = absurd h
own_used (Some (seat.Stand s)) None h = absurd h
own_used (Some (seat.Own m)) (Some (seat.Stand s)) h = absurd h
own_used (Some (seat.Stand s)) (Some (seat.Own m)) h = absurd h

own_script : {V : Type 0} (script : Script) (m : Seated V) → is_own (Some (with_script script m)) ≡ is_own (Some m)
own_script script (seat.Own m) = refl
own_script script (seat.Stand s) = refl

pub own_scripts : {V : Type 0} (scripts : List Script) (minds : List (Seated V)) (i : ℕ) → is_own (slice_get (with_scripts scripts minds) i) ≡ is_own (slice_get minds i)
own_scripts scripts [] i = refl
own_scripts [] (m ∷ minds) i = refl
own_scripts (script ∷ scripts) (m ∷ minds) zero = own_script script m
own_scripts (script ∷ scripts) (m ∷ minds) (suc i) = own_scripts scripts minds i

-- as at the start
pub own_now : {V : Type 0} (k : Kind V) (board : State) (minds : List (Seated V)) (now : Sited V) (i : ℕ) → IsAlong k board minds now → is_own (slice_get now.platform.minds i) ≡ is_own (slice_get minds i)
own_now k board minds now i h = own_used _ _ (h.used i) ∙ own_scripts now.scripts minds i

not_true : (b c : Bool) → b ≡ not c → b ≡ true → c ≡ false
not_true b true e f = cc
not_true b false e f = refl

none_used : {V : Type 0} (m : Seated V) → IsUsed None (Some m) → ⊥
none_used (seat.Own m) h = h
none_used (seat.Stand s) h = h

used_none : {V : Type 0} (m : Seated V) → IsUsed (Some m) None → ⊥
used_none (seat.Own m) h = h
used_none (seat.Stand s) h = h

used_length : {V : Type 0} (xs ys : List (Seated V)) → ((i : ℕ) → IsUsed (slice_get xs i) (slice_get ys i)) → length xs ≡ length ys
used_length [] [] h = refl
used_length [] (y ∷ ys) h = absurd (none_used y (h 0))
used_length (x ∷ xs) [] h = absurd (used_none x (h 0))
used_length (x ∷ xs) (y ∷ ys) h = ap suc (used_length xs ys (λ i. h (suc i)))

pub scripts_length : {V : Type 0} (scripts : List Script) (minds : List (Seated V)) → length (with_scripts scripts minds) ≡ length minds
scripts_length scripts [] = refl
scripts_length [] (m ∷ minds) = refl
scripts_length (script ∷ scripts) (m ∷ minds) = ap suc (scripts_length scripts minds)

pub minds_now : {V : Type 0} (k : Kind V) (board : State) (minds : List (Seated V)) (now : Sited V) → IsAlong k board minds now → length now.platform.minds ≡ length minds
minds_now k board minds now h = used_length now.platform.minds (with_scripts now.scripts minds) h.used ∙ scripts_length now.scripts minds

-- ---- what is on the way keeps its number

given_ways : {V : Type 0} (from to : List (List Message)) (old : Sited V) (after : Placed V) (a : ℕ) (message : Option Message) → IsGiven HasGot HasPut from to (placed old) after a message →
    length to ≡ length from
given_ways from to old after a message (inl g) = ap length g.carrier
given_ways from to old after a message (inr g) =
    ap length g.got_it.rest ∙ change_length (a - 1) later g.middle ∙ sent_length old.platform.minds from g.middle message g.sent

sensed_ways : {V : Type 0} (from to : List (List Message)) (old : Sited V) (after : Placed V) (a : ℕ) (s : Sensed) → PassesAt HasGot HasPut from to (placed old) after a s → length to ≡ length from
sensed_ways from to old after a (Given input) h = given_ways from to old after a input.message h
sensed_ways from to old after a (Left end) h = ap length h.0
sensed_ways from to old after a (Ahead cycle lowest) h = ap length h.0
sensed_ways from to old after a Halted h = ap length h.0

passed_ways : {V : Type 0} (from to : List (List Message)) (old : Sited V) (after : Placed V) (a : ℕ) (phase : Phase) → PassesIn HasGot HasPut from to old after a phase → length to ≡ length from
passed_ways from to old after a Idle h = sensed_ways from to old after a (sense old.platform.board a).0 h
passed_ways from to old after a Busy h = ap length h.0
passed_ways from to old after a (Gone end) h = ap length h.0

-- ---- what a turn keeps, from every opening of its site and for every state of the other one

pub record StaysTallied {V : Type 0} (k : Kind V) (near far : Before V) (other old new : Sited V) (from to : List (List Message)) : Type 0 where
  pub out : IsTallied k near old other from → IsTallied k near new other to
  pub back : IsTallied k far other old from → IsTallied k far other new to
  pub number : length to ≡ length from

module _ {V : Type 0} (k : Kind V) (near far : Before V) (other old new : Sited V) (from to : List (List Message)) (a : ℕ) (h : IsAlong k near.board near.minds old)
    (w : length from ≡ length near.minds) (e : AreApart near.minds far.minds) (t : Turned k HasGot HasPut from to old new a) where
  same_minds : length old.platform.minds ≡ length near.minds
  same_minds = minds_now k near.board near.minds old h

  here : (y : ℕ) → IsAgent (length near.minds) y → IsAgent (length old.platform.minds) y
  here y j = subst (λ n. IsAgent n y) (sym same_minds) j

  step : (y : ℕ) → (j : IsAgent (length near.minds) y) →
      GoesOut from to old t.after a y (here y j) (w ∙ sym same_minds) (h.number ∙ sym same_minds) (stand_takes y old.platform a)
      × ComesIn from to old t.after a y (here y j) (w ∙ sym same_minds) (h.number ∙ sym same_minds)
  step y j = passed_by from to old t.after a y (here y j) (w ∙ sym same_minds) (h.number ∙ sym same_minds) (seat_at old.platform.board a).phase t.passes

  pub turn_tallied : StaysTallied k near far other old new from to
  turn_tallied = record {
    out = λ c y j o.
        let own = own_now k near.board near.minds old (y - 1) h ∙ o in
        taken_more k near.board near.minds y HasGot HasPut from to old new a h t
        ∙ ap (λ x. x ++ stand_takes y old.platform a) (c y j o)
        ∙ append_assoc (messages_in (script_of other.scripts y)) (box_of from y) (stand_takes y old.platform a)
        ∙ ap (λ x. messages_in (script_of other.scripts y) ++ x) (sym ((step y j).0 own));
    back = λ c y j o.
        let i = y - 1 in
        let n = e.number in
        let b = below (length far.minds) y j in
        let away : is_own (slice_get near.minds i) ≡ false = not_true _ _ (e.each i (omega (arith, b, n))) o in
        let near_too : IsAgent (length near.minds) y = subst (λ x. IsAgent x y) n j in
        c y j o
        ∙ sym ((step y near_too).1 (own_now k near.board near.minds old i h ∙ away))
        ∙ ap (λ x. messages_in (script_of x y) ++ box_of to y) (sym t.scripts);
    number = passed_ways from to old t.after a (seat_at old.platform.board a).phase t.passes;
  }
