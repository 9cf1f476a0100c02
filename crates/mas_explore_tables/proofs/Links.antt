-- Links, and the values that they bring.
use Rattle.std.proofs.Common.{ℕ, zero, suc, ◌≡◌, ◌+◌, ◌<◌, ◌≤◌, ◌⊎◌, inl, inr, arith, List, [], ◌∷◌, ◌++◌, length, slice_get, Option, None, Some, option_map, refl, sym, ◌∙◌, ap, subst, length-append}
use Rattle.std.proofs.lemmas.Option.{none-some, same_Some}
use Rattle.mas_explore_tables.specs.declared.history.Link.{Link}
use Rattle.mas_explore_tables.specs.Histories.{put_some, brought, all_from, AreLinked, IsBroughtBy, LeadsBack}
use Rattle.mas_explore_tables.proofs.Entering.{get-left, get-last}

-- ---- the places of links

pub linked_below : {E : Type 0} (n : ℕ) (links : List (Link E)) (j : ℕ) (link : Link E) → AreLinked n links → slice_get links j ≡ Some link → link.from < n + j
linked_below {E} n [] j link h e = absurd (none-some link e)
linked_below {E} n (l ∷ links) zero link h e =
    let f : l.from ≡ link.from = ap (λ (x : Link E). x.from) (same_Some l link e) in
    let g = h.0 in
    omega arith
linked_below {E} n (l ∷ links) (suc j) link h e = (let g = linked_below (suc n) links j link h.1 e in omega arith)

pub linked_on : {E : Type 0} (n : ℕ) (links : List (Link E)) (link : Link E) → AreLinked n links → link.from < n + length links → AreLinked n (links ++ link ∷ [])
linked_on n [] link h l = (omega arith, tt)
linked_on n (x ∷ links) link h l = (h.0, linked_on (suc n) links link h.1 (omega arith))

-- ---- the way back

pub back_on : {E : Type 0} (roots : ℕ) (links : List (Link E)) (n : ℕ) (places : List ℕ) (at j from : ℕ) → LeadsBack roots links n places at → IsBroughtBy roots links at j from →
    LeadsBack roots links n (places ++ j ∷ []) from
back_on {E} roots links n [] at j from h b = (let P = λ (x : ℕ). IsBroughtBy roots links x j from in (from, subst P (sym h) b, refl))
back_on roots links n (i ∷ places) at j from h b = (h.0, h.1, back_on roots links h.0 places at j from h.2 b)

-- the last step of a way, and the way without it
pub record LastStep {E : Type 0} (roots : ℕ) (links : List (Link E)) (n : ℕ) (places : List ℕ) (j root : ℕ) : Type 0 where
  pub front : LeadsBack roots links n places (roots + j)
  pub link : Link E
  pub at : slice_get links j ≡ Some link
  pub from_is : link.from ≡ root

pub last_step : {E : Type 0} (roots : ℕ) (links : List (Link E)) (n : ℕ) (places : List ℕ) (j root : ℕ) → LeadsBack roots links n (places ++ j ∷ []) root → LastStep roots links n places j root
last_step roots links n [] j root h = record { front = h.1.number; link = h.1.link; at = h.1.at; from_is = h.1.from_is ∙ h.2 }
last_step roots links n (i ∷ places) j root h =
    let l = last_step roots links h.0 places j root h.2 in
    record { front = (h.0, h.1, l.front); link = l.link; at = l.at; from_is = l.from_is }

-- ---- values

-- the value at the number that a link names, and what the link brings
pub record IsLinked {V E : Type 0} (on : V → E → V) (values : List V) (from to : ℕ) (what : E) : Type 0 where
  pub before : V
  pub before_at : slice_get values from ≡ Some before
  pub after_at : slice_get values to ≡ Some (on before what)

item-at : {X : Type 0} (xs : List X) (i : ℕ) → i < length xs → (x : X) × (slice_get xs i ≡ Some x)
item-at [] i l = absurd (omega arith)
item-at (x ∷ xs) zero l = (x, refl)
item-at (x ∷ xs) (suc i) l = item-at xs i (omega arith)

get-put : {V : Type 0} (vs : List V) (o : Option V) (i : ℕ) (v : V) → slice_get vs i ≡ Some v → slice_get (put_some vs o) i ≡ Some v
get-put vs None i v e = e
get-put vs (Some w) i v e = get-left vs (w ∷ []) i v e

pub values_stay : {V E : Type 0} (on : V → E → V) (vs : List V) (links : List (Link E)) (i : ℕ) (v : V) → slice_get vs i ≡ Some v → slice_get (all_from on vs links) i ≡ Some v
values_stay on vs [] i v e = e
values_stay on vs (link ∷ links) i v e = values_stay on (put_some vs (brought on vs link)) links i v (get-put vs (brought on vs link) i v e)

length-put : {V : Type 0} (vs : List V) (v : V) → length (put_some vs (Some v)) ≡ suc (length vs)
length-put vs v = (let e = length-append vs (v ∷ []) in omega arith)

module _ {V E : Type 0} (on : V → E → V) where
  brings : (vs : List V) (link : Link E) (v : V) → slice_get vs link.from ≡ Some v → brought on vs link ≡ Some (on v link.what)
  brings vs link v e = ap (option_map (λ (x : V). on x link.what)) e

  pub values_number : (vs : List V) (links : List (Link E)) → AreLinked (length vs) links → length (all_from on vs links) ≡ length vs + length links
  values_number vs [] h = omega arith
  values_number vs (link ∷ links) h =
      let x = item-at vs link.from h.0 in
      let new = put_some vs (brought on vs link) in
      let e : length new ≡ suc (length vs) = ap (λ (o : Option V). length (put_some vs o)) (brings vs link x.0 x.1) ∙ length-put vs (on x.0 link.what) in
      let P = λ (n : ℕ). AreLinked n links in
      let r = values_number new links (subst P (sym e) h.1) in
      omega arith

  pub values_linked : (vs : List V) (links : List (Link E)) (j : ℕ) (link : Link E) → AreLinked (length vs) links → slice_get links j ≡ Some link →
      IsLinked on (all_from on vs links) link.from (length vs + j) link.what
  values_linked vs [] j link h e = absurd (none-some link e)
  values_linked vs (l ∷ links) zero link h e =
      let x = item-at vs l.from h.0 in
      let new = put_some vs (brought on vs l) in
      let here : slice_get new (length vs) ≡ Some (on x.0 l.what) =
      ap (λ (o : Option V). slice_get (put_some vs o) (length vs)) (brings vs l x.0 x.1) ∙ get-last vs (on x.0 l.what) in
      let P = λ (y : Link E). IsLinked on (all_from on new links) y.from (length vs + 0) y.what in
      let Q = λ (n : ℕ). slice_get (all_from on new links) n ≡ Some (on x.0 l.what) in
      let z : length vs ≡ length vs + 0 = omega arith in
      subst P (same_Some l link e) (record {
        before = x.0;
        before_at = values_stay on new links l.from x.0 (get-put vs (brought on vs l) l.from x.0 x.1);
        after_at = subst Q z (values_stay on new links (length vs) (on x.0 l.what) here);
      })
  values_linked vs (l ∷ links) (suc j) link h e =
      let x = item-at vs l.from h.0 in
      let new = put_some vs (brought on vs l) in
      let n : length new ≡ suc (length vs) = ap (λ (o : Option V). length (put_some vs o)) (brings vs l x.0 x.1) ∙ length-put vs (on x.0 l.what) in
      let P = λ (m : ℕ). AreLinked m links in
      let r = values_linked new links j link (subst P (sym n) h.1) e in
      let Q = λ (m : ℕ). IsLinked on (all_from on new links) link.from m link.what in
      let z : length new + j ≡ length vs + suc j = omega arith in
      subst Q z r

  -- more links leave the values that were there
  pub values_on : (vs : List V) (links : List (Link E)) (link : Link E) (i : ℕ) (v : V) → slice_get (all_from on vs links) i ≡ Some v →
      slice_get (all_from on vs (links ++ link ∷ [])) i ≡ Some v
  values_on vs [] link i v e = get-put vs (brought on vs link) i v e
  values_on vs (l ∷ links) link i v e = values_on (put_some vs (brought on vs l)) links link i v e

-- what befalls values may be told in another way, as long as the links do the same
pub same_values : {V E : Type 0} (on also : V → E → V) (vs : List V) (links : List (Link E)) → ((j : ℕ) (link : Link E) (v : V) → slice_get links j ≡ Some link → on v link.what ≡ also v link.what) →
    all_from on vs links ≡ all_from also vs links
same_values on also vs [] h = refl
same_values {V} {E} on also vs (l ∷ links) h =
    let e : brought on vs l ≡ brought also vs l = same-map (slice_get vs l.from) in
    ap (λ (o : Option V). all_from on (put_some vs o) links) e ∙ same_values on also (put_some vs (brought also vs l)) links (λ j link v f. h (suc j) link v f)
  where
    same-map : (o : Option V) → option_map (λ (v : V). on v l.what) o ≡ option_map (λ (v : V). also v l.what) o
    same-map None = refl
    same-map (Some v) = ap Some (h 0 l v refl)
