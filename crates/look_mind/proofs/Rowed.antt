-- The rows of a run's changes, agent by agent.
use Rattle.std.proofs.Common.{ℕ, ◌≡◌, ◌≤◌, ◌<◌, ◌+◌, ◌-◌, arith, max, nat_eq, Bool, true, false, List, [], ◌∷◌, ◌++◌, map, length, get_or, take, Option, None, Some, refl, sym, ◌∙◌, ap, subst, below_more, append-nil}
use Rattle.std.specs.Prelude.{slice_get, slice_index, unwrap_or}
use Rattle.std.specs.List.{All, Contains}
use Rattle.std.proofs.lemmas.Bool.{eqb-false}
use Rattle.std.proofs.lemmas.List.{append_assoc, get_or-map, get_or_default, length-map, map_more, map_push, take_all}
use Rattle.std.proofs.lemmas.List.Elements.{All-more, All-weaker, Contains-append_left, Contains-append_right, Contains-push}
use Rattle.std.proofs.lemmas.Option.{unwrap_or-slice_get}
use Rattle.chart_page.specs.declared.minds.MindLine.{MindLine}
use Rattle.look_lines.specs.declared.change.ChangedLine.{ChangedLine}
use Rattle.look_mind.specs.Rows.{Row, row_in, row_of, rows_of, with_turn, AddsRows, HasRows, HasTurns, change_at, TellsAgent, TellsRows}
use Rattle.look_mind.specs.declared.changes.MindChanges.{MindChanges}

-- ---- of one change

rows_there : (old : List Row) (agent turn : ℕ) (change : List ChangedLine) → HasRows (old ++ map (row_in agent turn) change) agent turn change
rows_there old agent turn change k d below =
    let rows = map (row_in agent turn) change in
    let r = row_in agent turn (get_or change k d) in
    let within : k < length rows = subst (λ n. k < n) (sym (length-map change (row_in agent turn))) below in
    let here : Contains rows r = (k, within, get_or-map (row_in agent turn) change k d r below) in
    Contains-append_right old rows r here

rows_stay : (old new : List Row) (agent turn : ℕ) (change : List ChangedLine) → ((r : Row) → Contains old r → Contains new r) → HasRows old agent turn change →
    HasRows new agent turn change
rows_stay old new agent turn change stay h =
    All-weaker (λ (l : ChangedLine). Contains old (row_in agent turn l)) (λ (l : ChangedLine). Contains new (row_in agent turn l))
    (λ l. stay (row_in agent turn l)) change h

-- ---- of one agent

-- the rows of the changes of the first n of these turns are there
pub record ToldTo (told : MindChanges) (name : ℕ) (own : List ℕ) (n : ℕ) (old new : List Row) : Type 0 where
  pub stay : (r : Row) → Contains old r → Contains new r
  pub each : (k : ℕ) → k < n → HasRows new (name - 1) (slice_index own k) (change_at told (slice_index own k - 1))

module _ (told : MindChanges) (name : ℕ) (own : List ℕ) (old : List Row) where
  pub none_told : ToldTo told name own 0 old old
  none_told = record { stay = λ r h. h; each = λ k less. absurd (omega arith) }

  module _ (n : ℕ) (here : List Row) (h : ToldTo told name own n old here) where
    pub one_told : (new : List Row) → AddsRows (name - 1) (slice_index own n) (change_at told (slice_index own n - 1)) here new → ToldTo told name own (n + 1) old new
    one_told new e =
        let agent = name - 1 in
        let turn = slice_index own n in
        let change = change_at told (turn - 1) in
        let stays : (r : Row) → Contains here r → Contains new r =
        λ r w. subst (λ rows. Contains rows r) (sym e) (Contains-append_left here (map (row_in agent turn) change) r w) in
        let last : HasRows new agent turn change = subst (λ rows. HasRows rows agent turn change) (sym e) (rows_there here agent turn change) in
        record {
          stay = λ r w. stays r (h.stay r w);
          each = below_more (λ k. HasRows new (name - 1) (slice_index own k) (change_at told (slice_index own k - 1))) n
              (λ k less. rows_stay here new (name - 1) (slice_index own k) (change_at told (slice_index own k - 1)) stays (h.each k less)) last;
        }

  pub agent_told : (n : ℕ) (new : List Row) → ToldTo told name own n old new → length own ≤ n → HasTurns told.turns name (length told.turns) own → TellsAgent told name old new
  agent_told n new h all has = record { stay = h.stay; own = by }
    where
      by : (t : ℕ) → t < length told.turns → slice_index told.turns t ≡ name → HasRows new (name - 1) (t + 1) (change_at told t)
      by t below e =
          let c = has t below e in
          let within : c.0 < length own = c.1 in
          let turn : slice_index own c.0 ≡ t + 1 = get_or_default own c.0 0 (t + 1) c.1 ∙ c.2 in
          let back : t + 1 - 1 ≡ t = omega arith in
          subst (λ x. HasRows new (name - 1) (t + 1) (change_at told x)) back
          (subst (λ x. HasRows new (name - 1) x (change_at told (x - 1))) turn (h.each c.0 (omega arith)))

-- ---- of one turn

pub row_put : (items : List MindLine) (m : MindLine) → rows_of (items ++ m ∷ []) ≡ rows_of items ++ row_of m ∷ []
row_put items m = map_push row_of items m

pub row_more : (agent turn : ℕ) (change : List ChangedLine) (i : ℕ) (d : ChangedLine) (old here new : List Row) → i < length change → AddsRows agent turn (take i change) old here →
    new ≡ here ++ row_in agent turn (get_or change i d) ∷ [] → AddsRows agent turn (take (i + 1) change) old new
row_more agent turn change i d old here new l h e =
    let row = row_in agent turn in
    e ∙ ap (λ rows. rows ++ row (get_or change i d) ∷ []) h ∙ append_assoc old (map row (take i change)) (row (get_or change i d) ∷ [])
    ∙ ap (λ rows. old ++ rows) (sym (map_more row change i d l))

pub change_found : (told : MindChanges) (t : ℕ) (change : List ChangedLine) → slice_get told.changes t ≡ Some change → change ≡ change_at told t
change_found told t change e = sym (ap (λ (o : Option (List ChangedLine)). unwrap_or o []) e) ∙ unwrap_or-slice_get told.changes t []

-- what is found of a turn is put last
pub turn_told : (told : MindChanges) (agent turn other_agent other_turn place : ℕ) (change : List ChangedLine) (old new : List Row) → other_agent ≡ agent → other_turn ≡ turn →
    place ≡ turn - 1 → slice_get told.changes place ≡ Some change → AddsRows other_agent other_turn change old new →
    AddsRows agent turn (change_at told (turn - 1)) old new
turn_told told agent turn other_agent other_turn place change old new a t p e h =
    let found : change ≡ change_at told (turn - 1) = change_found told place change e ∙ ap (change_at told) p in
    subst (λ x. AddsRows x turn (change_at told (turn - 1)) old new) a
    (subst (λ x. AddsRows other_agent x (change_at told (turn - 1)) old new) t
    (subst (λ x. AddsRows other_agent other_turn x old new) found h))

-- nothing is, where nothing is found
pub turn_untold : (told : MindChanges) (agent turn place : ℕ) (rows : List Row) → place ≡ turn - 1 → slice_get told.changes place ≡ None →
    AddsRows agent turn (change_at told (turn - 1)) rows rows
turn_untold told agent turn place rows p e =
    let none : change_at told (turn - 1) ≡ [] =
    ap (change_at told) (sym p) ∙ sym (unwrap_or-slice_get told.changes place []) ∙ ap (λ (o : Option (List ChangedLine)). unwrap_or o []) e in
    subst (λ x. AddsRows agent turn x rows rows) (sym none) (sym (append-nil rows))

-- ---- the turns of an agent

pub own_none : (turns : List ℕ) (name : ℕ) → HasTurns turns name 0 []
own_none turns name t less = absurd (omega arith)

kept-turn : (own : List ℕ) (is_own : Bool) (turn x : ℕ) → Contains own x → Contains (with_turn own is_own turn) x
kept-turn own true turn x h = Contains-append_left own (turn ∷ []) x h
kept-turn own false turn x h = h

last-turn : (own : List ℕ) (a name turn : ℕ) (is_own : Bool) → nat_eq a name ≡ is_own → a ≡ name → Contains (with_turn own is_own turn) turn
last-turn own a name turn true q e = Contains-push own turn
last-turn own a name turn false q e = absurd (eqb-false a name q e)

pub own_more : (turns own new : List ℕ) (name n : ℕ) → HasTurns turns name n own → new ≡ with_turn own (nat_eq (slice_index turns n) name) (n + 1) → HasTurns turns name (n + 1) new
own_more turns own new name n h e =
    let is_own = nat_eq (slice_index turns n) name in
    subst (λ xs. HasTurns turns name (n + 1) xs) (sym e)
    (below_more (λ t. slice_index turns t ≡ name → Contains (with_turn own is_own (n + 1)) (t + 1)) n
    (λ t less q. kept-turn own is_own (n + 1) (t + 1) (h t less q))
    (λ q. last-turn own (slice_index turns n) name (n + 1) is_own refl q))

-- ---- of all agents

pub last_more : (turns : List ℕ) (i d last : ℕ) → i < length turns → All (λ a. a ≤ last) (take i turns) → All (λ a. a ≤ max last (get_or turns i d)) (take (i + 1) turns)
last_more turns i d last l h =
    let most = max last (get_or turns i d) in
    let before : All (λ a. a ≤ most) (take i turns) = All-weaker (λ a. a ≤ last) (λ a. a ≤ most) (λ a w. omega arith) (take i turns) h in
    All-more (λ a. a ≤ most) turns i d l before (omega arith)

pub last_of_all : (turns : List ℕ) (i last : ℕ) → length turns ≤ i → All (λ a. a ≤ last) (take i turns) → All (λ a. a ≤ last) turns
last_of_all turns i last l h = subst (λ xs. All (λ a. a ≤ last) xs) (take_all i turns l) h

-- the rows of the agents with lower numbers are there
abbrev pub ToldBelow : MindChanges → ℕ → List Row → Type 0
ToldBelow told n rows = (name : ℕ) → name < n → (t : ℕ) → t < length told.turns → slice_index told.turns t ≡ name →
    HasRows rows (name - 1) (t + 1) (change_at told t)

module _ (told : MindChanges) where
  pub none_below : (rows : List Row) → ToldBelow told 0 rows
  none_below rows name less = absurd (omega arith)

  pub more_below : (n : ℕ) (rows new : List Row) → ToldBelow told n rows → TellsAgent told n rows new → ToldBelow told (n + 1) new
  more_below n rows new h a =
      below_more (λ name. (t : ℕ) → t < length told.turns → slice_index told.turns t ≡ name → HasRows new (name - 1) (t + 1) (change_at told t)) n
      (λ name less t below e. rows_stay rows new (name - 1) (t + 1) (change_at told t) a.stay (h name less t below e)) a.own

  pub all_below : (last : ℕ) (rows new : List Row) → All (λ a. a ≤ last) told.turns → ToldBelow told last rows → TellsAgent told last rows new → TellsRows told new
  all_below last rows new high h a t below =
      let most : slice_index told.turns t ≤ last = high t 0 below in
      more_below last rows new h a (slice_index told.turns t) (omega arith) t below refl
