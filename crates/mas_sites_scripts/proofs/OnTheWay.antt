-- What is on the way.
use Rattle.std.proofs.Common.{ℕ, zero, suc, ◌≡◌, ◌≢◌, ◌-◌, ◌⊎◌, inl, inr, arith, List, [], ◌∷◌, ◌++◌, All, IfSome, drop, length, replicate, slice_get, slice_set, Some, refl, ap, sym, ◌∙◌, subst}
use Rattle.std.proofs.lemmas.List.{length-set}
use Rattle.std.proofs.lemmas.List.Elements.{All-nil, All-head, All-tail, All-push}
use Rattle.mas_mind.specs.declared.mind.Message.{Message}
use Rattle.mas_mind.specs.Minds.{IsAgent, IsFrom}
use Rattle.mas_board.specs.Boards.{box_of, box_or_none, later}
use Rattle.mas_sites_scripts.specs.Ways.{AreWays, HasGot, HasPut, put_last}
use Rattle.mas_sites_scripts.proofs.Changes.{same_or, get_set, get_set_other, changed_is}

same_agent : (n a b : ℕ) → IsAgent n a → IsAgent n b → b - 1 ≡ a - 1 → b ≡ a
same_agent n a b j i e = let x = j.from_one in let y = i.from_one in omega (arith, x, y, e)

-- one way is set
set_at : (ways : List (List Message)) (a b : ℕ) (box was : List Message) (n : ℕ) → IsAgent n a → IsAgent n b → slice_get ways (a - 1) ≡ Some was → All (IsFrom b n) (box_of ways b) →
    All (IsFrom a n) box → (b - 1 ≡ a - 1) ⊎ (b - 1 ≢ a - 1) → All (IsFrom b n) (box_of (slice_set ways (a - 1) box) b)
set_at ways a b box was n j i is h m (inl e) =
    let there : box_of (slice_set ways (a - 1) box) b ≡ box = ap box_or_none (ap (slice_get (slice_set ways (a - 1) box)) e ∙ get_set (a - 1) ways box was is) in
    let all : All (IsFrom b n) box = subst (λ x. All (IsFrom x n) box) (sym (same_agent n a b j i e)) m in
    subst (λ l. All (IsFrom b n) l) (sym there) all
set_at ways a b box was n j i is h m (inr d) = subst (λ l. All (IsFrom b n) l) (sym (ap box_or_none (get_set_other (b - 1) (a - 1) ways box d))) h

pub ways_set : (ways : List (List Message)) (a : ℕ) (box was : List Message) → IsAgent (length ways) a → slice_get ways (a - 1) ≡ Some was → AreWays ways → All (IsFrom a (length ways)) box →
    AreWays (slice_set ways (a - 1) box)
ways_set ways a box was j is h m =
    let n : length (slice_set ways (a - 1) box) ≡ length ways = length-set ways (a - 1) box in
    record { each = rw n (λ b i. set_at ways a b box was (length ways) j i is (h.each b i) m (same_or (b - 1) (a - 1))) }

-- what an agent's way holds
in_way : (ways : List (List Message)) (a : ℕ) (was : List Message) → IsAgent (length ways) a → slice_get ways (a - 1) ≡ Some was → AreWays ways → All (IsFrom a (length ways)) was
in_way ways a was j is h = subst (λ l. All (IsFrom a (length ways)) l) (ap box_or_none is) (h.each a j)

rest_of : (P : Message → Type 0) (xs : List Message) → All P xs → All P (drop 1 xs)
rest_of P [] h = h
rest_of P (x ∷ xs) h = All-tail P x xs h

first_of : (P : Message → Type 0) (xs : List Message) → All P xs → IfSome (slice_get xs 0) P
first_of P [] h = tt
first_of P (x ∷ xs) h = All-head P x xs h

-- ---- the calls

pub next_ways : (ways : List (List Message)) (a : ℕ) (was : List Message) → IsAgent (length ways) a → slice_get ways (a - 1) ≡ Some was → AreWays ways → AreWays (slice_set ways (a - 1) (drop 1 was))
next_ways ways a was j is h = ways_set ways a (drop 1 was) was j is h (rest_of (IsFrom a (length ways)) was (in_way ways a was j is h))

pub next_entry : (ways : List (List Message)) (a : ℕ) (was : List Message) → IsAgent (length ways) a → slice_get ways (a - 1) ≡ Some was → AreWays ways → IfSome (slice_get was 0) (IsFrom a (length ways))
next_entry ways a was j is h = first_of (IsFrom a (length ways)) was (in_way ways a was j is h)

pub next_got : (ways : List (List Message)) (a : ℕ) (was : List Message) → slice_get ways (a - 1) ≡ Some was → HasGot ways a (slice_get was 0) (slice_set ways (a - 1) (drop 1 was))
next_got ways a was is = record {
  message = sym (ap (λ o. slice_get (box_or_none o) 0) is);
  rest = changed_is ways (a - 1) later was is;
}

pub send_ways : (ways : List (List Message)) (m : Message) (was : List Message) → IsAgent (length ways) m.from → IsAgent (length ways) m.to → slice_get ways (m.from - 1) ≡ Some was → AreWays ways →
    AreWays (slice_set ways (m.from - 1) (was ++ m ∷ []))
send_ways ways m was j i is h = ways_set ways m.from (was ++ m ∷ []) was j is h
    (All-push (IsFrom m.from (length ways)) was m (in_way ways m.from was j is h) (record { from_me = refl; receiver = i }))

pub send_put : (ways : List (List Message)) (m : Message) (was : List Message) → slice_get ways (m.from - 1) ≡ Some was → HasPut ways m (slice_set ways (m.from - 1) (was ++ m ∷ []))
send_put ways m was is = changed_is ways (m.from - 1) (put_last m) was is

none_in : (k n : ℕ) → box_or_none (slice_get (replicate n []) k) ≡ []
none_in k zero = refl
none_in zero (suc n) = refl
none_in (suc k) (suc n) = none_in k n

pub none_on_the_way : (n : ℕ) → AreWays (replicate n [])
none_on_the_way n = record { each = λ a i. rw (none_in (a - 1) n) (All-nil (IsFrom a (length (replicate n [])))) }

pub same_ways : (ways : List (List Message)) (a : ℕ) (was : List Message) → IsAgent (length ways) a → slice_get ways (a - 1) ≡ Some was → AreWays ways → AreWays (slice_set ways (a - 1) was)
same_ways ways a was j is h = ways_set ways a was was j is h (in_way ways a was j is h)
