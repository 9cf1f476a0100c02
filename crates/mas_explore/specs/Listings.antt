-- Lists of outcomes: what each entry shows, and when a list is whole.
use Rattle.std.specs.Prelude.{ℕ, ◌≡◌, ◌<◌, ◌≤◌, Bool, true, false, List, count_by, length, slice_get, Some, MatchBool}
use Rattle.std.specs.Str.{bytes_eq}
use Rattle.mas_mind.specs.Minds.{Kind}
use Rattle.mas_board.specs.Seating.{AreLimits}
use Rattle.mas_core.specs.Platform.{Platform}
use Rattle.mas_free.specs.declared.view.View.{View}
use Rattle.mas_free.specs.Outcome.{outcome}
use Rattle.mas_free.specs.Free.{Free, AtRest, at_end}
use Rattle.mas_free.specs.Covers.{Start, RunsTo, IsMember, free_opening}
use Rattle.mas_explore.specs.declared.listing.Plan.{Plan}
use Rattle.mas_explore.specs.declared.listing.Shown.{Shown}
use Rattle.mas_explore.specs.declared.listing.Listing.{Listing}
use Rattle.mas_explore.specs.declared.listing.Extent.{Extent}
use Rattle.mas_explore.specs.declared.listing.Extent.TheVariants.{All, Bound, Unshown}
use Rattle.mas_explore.specs.Searches.{IsReached}

-- ---- an entry

-- the plan's limits are those of some board; its schedule is legal from the start under them, ends every agent and cuts none off; and the text is the
-- outcome of that run
pub record IsRunOf {V : Type 0} (k : Kind V) (v : View) (s : Start V) (p : Plan) (text : List ℕ) : Type 0 where
  pub limits : AreLimits (length s.names) p.cycles p.lead
  pub done : Platform V
  pub runs : RunsTo k s p.cycles p.lead p.schedule done
  pub text_is : text ≡ outcome k v done

abbrev pub IsShown : {V : Type 0} → Kind V → View → Start V → Shown → Type 0
IsShown k v s e = IsRunOf k v s e.plan e.text

abbrev pub AreShown : {V : Type 0} → Kind V → View → Start V → List Shown → Type 0
AreShown k v s list = (e : Shown) → IsMember e list → IsShown k v s e

pub record IsListed (list : List Shown) (text : List ℕ) : Type 0 where
  pub entry : Shown
  pub among : IsMember entry list
  pub text_is : entry.text ≡ text

-- how many entries show this outcome
abbrev pub times : List Shown → List ℕ → ℕ
times list text = count_by (λ e. bytes_eq e.text text) list

-- no outcome is listed twice
abbrev pub AreDistinct : List Shown → Type 0
AreDistinct list = (text : List ℕ) → times list text ≤ 1

-- ---- a whole list

-- whatever the limits and the schedule, the outcome of each run that ends every agent and cuts none off is listed
abbrev pub IsWhole : {V : Type 0} → Kind V → View → Start V → List Shown → Type 0
IsWhole {V} k v s list = (cycles lead : ℕ) (schedule : List ℕ) (q : Platform V) → RunsTo k s cycles lead schedule q → IsListed list (outcome k v q)

abbrev pub extent_of : Bool → Bool → Extent
extent_of false listed = Bound
extent_of true false = Unshown
extent_of true true = All

-- the free machine comes from the start to a state at rest of which the outcome is not listed
pub record HasMissed {V : Type 0} (k : Kind V) (v : View) (s : Start V) (list : List Shown) : Type 0 where
  pub state : Free V
  pub reached : IsReached k v (free_opening s) state
  pub rests : AtRest k state
  pub unlisted : IsListed list (outcome k v (at_end state)) → ⊥

-- more states were met than were to be followed; or no more, and the list is whole, or misses an outcome, for which no run was found
abbrev pub Reaches : {V : Type 0} → Kind V → View → Start V → ℕ → Listing → Extent → Type 0
Reaches k v s most f All = IsWhole k v s f.list × (f.states ≤ most)
Reaches k v s most f Bound = most < f.states
Reaches k v s most f Unshown = HasMissed k v s f.list × (f.states ≤ most)

-- ---- the outcomes of states

-- the outcome that a state at this number would have at rest is listed
abbrev pub OutcomeListed : {V : Type 0} → Kind V → View → List (Free V) → ℕ → List Shown → Type 0
OutcomeListed {V} k v met state list = (f : Free V) → slice_get met state ≡ Some f → IsListed list (outcome k v (at_end f))

-- it is not
abbrev pub OutcomeMissed : {V : Type 0} → Kind V → View → List (Free V) → ℕ → List Shown → Type 0
OutcomeMissed {V} k v met state list = (f : Free V) → slice_get met state ≡ Some f → IsListed list (outcome k v (at_end f)) → ⊥

-- what was listed stays; the list shows what it lists, each outcome once; and the state's outcome is listed, or this is not known
pub record HasListed {V : Type 0} (k : Kind V) (v : View) (s : Start V) (met : List (Free V)) (state : ℕ) (old new : List Shown) (listed : Bool) : Type 0 where
  pub stay : (e : Shown) → IsMember e old → IsMember e new
  pub sound : AreShown k v s new
  pub distinct : AreDistinct old → AreDistinct new
  pub here : listed ≡ true → OutcomeListed k v met state new

-- after the first so many of these states
pub record HasListedTo {V : Type 0} (k : Kind V) (v : View) (s : Start V) (met : List (Free V))
    (states : List ℕ) (n : ℕ) (list : List Shown) (listed : Bool) : Type 0 where
  pub sound : AreShown k v s list
  pub distinct : AreDistinct list
  pub each : listed ≡ true → (i state : ℕ) → i < n → slice_get states i ≡ Some state → OutcomeListed k v met state list

-- after all of them
pub record HasListedEach {V : Type 0} (k : Kind V) (v : View) (s : Start V) (met : List (Free V))
    (states : List ℕ) (list : List Shown) (listed : Bool) : Type 0 where
  pub sound : AreShown k v s list
  pub distinct : AreDistinct list
  pub each : listed ≡ true → (state : ℕ) → IsMember state states → OutcomeListed k v met state list

-- the outcome of one of these states is not listed
pub record IsOneMissed {V : Type 0} (k : Kind V) (v : View) (met : List (Free V)) (states : List ℕ) (list : List Shown) : Type 0 where
  pub state : ℕ
  pub among : IsMember state states
  pub missed : OutcomeMissed k v met state list

-- those of all of them are, or not
abbrev pub AreAllListed : {V : Type 0} → Kind V → View → List (Free V) → List ℕ → List Shown → Bool → Type 0
AreAllListed k v met states list listed =
    MatchBool listed ((state : ℕ) → IsMember state states → OutcomeListed k v met state list) (IsOneMissed k v met states list)

pub record HasListedAll {V : Type 0} (k : Kind V) (v : View) (s : Start V) (met : List (Free V))
    (states : List ℕ) (list : List Shown) (listed : Bool) : Type 0 where
  pub sound : AreShown k v s list
  pub distinct : AreDistinct list
  pub extent : AreAllListed k v met states list listed
