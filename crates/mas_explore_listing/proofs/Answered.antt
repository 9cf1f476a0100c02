-- What the answer of a list says of runs.
use Rattle.std.proofs.Common.{ℕ, zero, suc, ◌≡◌, ◌+◌, arith, Bool, true, false, if◌then◌else◌, List, [], ◌∷◌, Option, None, Some, slice_get, refl, ap, sym, subst, ◌∙◌}
use Rattle.std.proofs.lemmas.Option.{same_Some, none-some}
use Rattle.mas_mind.specs.Minds.{Kind}
use Rattle.mas_explore.specs.declared.listing.Shown.{Shown}
use Rattle.mas_explore.specs.declared.listing.Extent.{Extent}
use Rattle.mas_explore.specs.declared.listing.Extent.TheVariants.{All, Bound, Unshown}
use Rattle.mas_explore.specs.Listings.{IsWhole, Reaches}
use Rattle.mas_explore_listing.specs.declared.answers.Question.{Question}
use Rattle.mas_explore_listing.specs.declared.answers.Answer.TheVariants.{Holds, Fails}
use Rattle.mas_explore_listing.specs.Questions.{is_against, first_from, answer_by, HoldsOfRuns, FailsInRun}

-- where there is no such place, no entry of the list speaks against the claim
abbrev NoneIn : Question → List Shown → Type 0
NoneIn q list = (place : ℕ) (e : Shown) → slice_get list place ≡ Some e → is_against q e.text ≡ false

none_by : (q : Question) (n : ℕ) (x : Shown) (list : List Shown) (b : Bool) → is_against q x.text ≡ b → (first_from q (n + 1) list ≡ None → NoneIn q list) →
    (if b then Some n else first_from q (n + 1) list) ≡ None → NoneIn q (x ∷ list)
none_by q n x list true w on h place e at = absurd (none-some n (sym h))
none_by q n x list false w on h zero e at = ap (λ (y : Shown). is_against q y.text) (sym (same_Some x e at)) ∙ w
none_by q n x list false w on h (suc i) e at = on h i e at

none_from : (q : Question) (n : ℕ) (list : List Shown) → first_from q n list ≡ None → NoneIn q list
none_from q n [] h place e at = absurd (none-some e at)
none_from q n (x ∷ list) h place e at = none_by q n x list (is_against q x.text) refl (none_from q (n + 1) list) h place e at

-- an entry that speaks against the claim, so many places behind the number
record StandsBehind (q : Question) (n : ℕ) (list : List Shown) (place : ℕ) : Type 0 where
  pub behind : ℕ
  pub place_is : place ≡ n + behind
  pub entry : Shown
  pub at : slice_get list behind ≡ Some entry
  pub against : is_against q entry.text ≡ true

one_behind : (q : Question) (n : ℕ) (x : Shown) (list : List Shown) (place : ℕ) → StandsBehind q (n + 1) list place → StandsBehind q n (x ∷ list) place
one_behind q n x list place r =
    let one_on : n + 1 + r.behind ≡ n + suc r.behind = omega arith in
    record { behind = suc r.behind; place_is = r.place_is ∙ one_on; entry = r.entry; at = r.at; against = r.against }

some_by : (q : Question) (n : ℕ) (x : Shown) (list : List Shown) (b : Bool) → is_against q x.text ≡ b → (place : ℕ) →
    (first_from q (n + 1) list ≡ Some place → StandsBehind q (n + 1) list place) → (if b then Some n else first_from q (n + 1) list) ≡ Some place →
    StandsBehind q n (x ∷ list) place
some_by q n x list true w place on h =
    let none_on : n ≡ n + 0 = omega arith in
    record { behind = 0; place_is = sym (same_Some n place h) ∙ none_on; entry = x; at = refl; against = w }
some_by q n x list false w place on h = one_behind q n x list place (on h)

some_from : (q : Question) (n : ℕ) (list : List Shown) (place : ℕ) → first_from q n list ≡ Some place → StandsBehind q n list place
some_from q n [] place h = absurd (none-some place h)
some_from q n (x ∷ list) place h = some_by q n x list (is_against q x.text) refl place (some_from q (n + 1) list place) h

-- ---- the answers

holds_by : (first : Option ℕ) (extent : Extent) → answer_by first extent ≡ Holds → (first ≡ None) × (extent ≡ All)
holds_by (Some n) extent e = absurd cc
holds_by None All e = (refl, refl)
holds_by None Bound e = absurd cc
holds_by None Unshown e = absurd cc

fails_by : (first : Option ℕ) (extent : Extent) (place : ℕ) → answer_by first extent ≡ Fails place → first ≡ Some place
fails_by (Some n) extent place e = cc
fails_by None All place e = absurd cc
fails_by None Bound place e = absurd cc
fails_by None Unshown place e = absurd cc

pub holds_of_runs : {V : Type 0} (k : Kind V) → HoldsOfRuns k
holds_of_runs k v s most q f reach e cycles lead schedule p r =
    let h = holds_by (first_from q 0 f.list) f.extent e in
    let F = λ (x : Extent). Reaches k v s most f x in
    let whole : IsWhole k v s f.list = (subst F h.1 reach).0 in
    let listed = whole cycles lead schedule p r in
    ap (is_against q) (sym listed.text_is) ∙ none_from q 0 f.list h.0 listed.among.place listed.entry listed.among.at

pub fails_in_run : {V : Type 0} (k : Kind V) → FailsInRun k
fails_in_run k v s q f place shown e =
    let r = some_from q 0 f.list place (fails_by (first_from q 0 f.list) f.extent place e) in
    let none_on : 0 + r.behind ≡ r.behind = omega arith in
    let here : slice_get f.list place ≡ Some r.entry = ap (slice_get f.list) (r.place_is ∙ none_on) ∙ r.at in
    record { entry = r.entry; at = here; shown = shown r.entry (record { place = place; at = here }); against = r.against }
