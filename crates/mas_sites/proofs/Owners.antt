-- Who lives at a site stays the same along a run.
use Rattle.std.proofs.Common.{ℕ, ◌≡◌, ◌-◌, inl, inr, List, [], ◌∷◌, length, slice_get, slice_set, Option, None, Some, refl, ap, sym, ◌∙◌}
use Rattle.std.proofs.lemmas.List.{length-set}
use Rattle.std.proofs.lemmas.Option.{same_Some, none-some}
use Rattle.mas_mind.specs.declared.mind.Input.{Input}
use Rattle.mas_mind.specs.declared.mind.Feedback.{Feedback}
use Rattle.mas_mind.specs.Minds.{Kind}
use Rattle.mas_board.specs.Boards.{sense}
use Rattle.mas_core.specs.Platform.{Platform, turn, run, and_run, tell}
use Rattle.mas_core_laws.proofs.Steps.{Turned, Leaves, Thinks, Emits, Spends, turned}
use Rattle.mas_sites_stand.specs.declared.seated.Seated.{Seated}
use Rattle.mas_sites_stand.specs.declared.seated.Seated.TheVariants as seat
use Rattle.mas_sites_stand.specs.Seats.{seated, seated_cycle, seated_told}
use Rattle.mas_sites_scripts.specs.Giving.{is_own}
use Rattle.mas_sites_scripts.proofs.Changes.{same_or, get_set, get_set_other}

own_thought : {V : Type 0} (k : Kind V) (m : Seated V) (i : Input) → is_own (Some (seated_cycle k m i).mind) ≡ is_own (Some m)
own_thought k (seat.Own m) i = refl
own_thought k (seat.Stand s) i = refl

own_told : {V : Type 0} (k : Kind V) (m : Seated V) (b : Feedback) → is_own (Some (seated_told k m b)) ≡ is_own (Some m)
own_told k (seat.Own m) b = refl
own_told k (seat.Stand s) b = refl

own_set : {V : Type 0} (xs : List (Seated V)) (j : ℕ) (m x : Seated V) (i : ℕ) → slice_get xs j ≡ Some m → is_own (Some x) ≡ is_own (Some m) →
    is_own (slice_get (slice_set xs j x) i) ≡ is_own (slice_get xs i)
own_set xs j m x i is e = elim (same_or i j) [
  | inl s ↦ ap (λ n. is_own (slice_get (slice_set xs j x) n)) s ∙ ap is_own (get_set j xs x m is) ∙ e ∙ ap is_own (sym is) ∙ ap (λ n. is_own (slice_get xs n)) (sym s)
  | inr n ↦ ap is_own (get_set_other i j xs x n)
]

own_tell : {V : Type 0} (k : Kind V) (xs : List (Seated V)) (a : ℕ) (o : Option (Seated V)) (b : Option Feedback) (i : ℕ) → slice_get xs (a - 1) ≡ o →
    is_own (slice_get (tell (seated k) xs a o b) i) ≡ is_own (slice_get xs i)
own_tell k xs a None b i is = refl
own_tell k xs a (Some m) None i is = refl
own_tell k xs a (Some m) (Some b) i is = own_set xs (a - 1) m (seated_told k m b) i is (own_told k m b)

own_case : {V : Type 0} (k : Kind V) (p q : Platform (Seated V)) (a i : ℕ) → Turned (seated k) p a (sense p.board a) q → is_own (slice_get q.minds i) ≡ is_own (slice_get p.minds i)
own_case k p q a i (Leaves h) = ap (λ x. is_own (slice_get x.minds i)) h.is
own_case k p q a i (Thinks h) = ap (λ x. is_own (slice_get x.minds i)) h.is ∙ own_set p.minds (a - 1) h.mind _ i h.mind_is (own_thought k h.mind _)
own_case k p q a i (Emits h) = ap (λ x. is_own (slice_get x.minds i)) h.is ∙ own_tell k p.minds a (slice_get p.minds (a - 1)) _ i refl
own_case k p q a i (Spends h) = ap (λ x. is_own (slice_get x.minds i)) h.is

pub own_turn : {V : Type 0} (k : Kind V) (p q : Platform (Seated V)) (a i : ℕ) → turn (seated k) p a ≡ Some q → is_own (slice_get q.minds i) ≡ is_own (slice_get p.minds i)
own_turn k p q a i e = own_case k p q a i (turned (seated k) p a q e).case

own_next : {V : Type 0} (k : Kind V) (p done : Platform (Seated V)) (a i : ℕ) (names : List ℕ) →
    ((q : Platform (Seated V)) → run (seated k) q names ≡ Some done → is_own (slice_get done.minds i) ≡ is_own (slice_get q.minds i)) → (o : Option (Platform (Seated V))) →
    turn (seated k) p a ≡ o → and_run (λ q. run (seated k) q names) o ≡ Some done → is_own (slice_get done.minds i) ≡ is_own (slice_get p.minds i)
own_next k p done a i names more None e h = absurd (none-some done h)
own_next k p done a i names more (Some q) e h = more q h ∙ own_turn k p q a i e

pub own_run : {V : Type 0} (k : Kind V) (p done : Platform (Seated V)) (i : ℕ) (names : List ℕ) → run (seated k) p names ≡ Some done →
    is_own (slice_get done.minds i) ≡ is_own (slice_get p.minds i)
own_run k p done i [] h = ap (λ x. is_own (slice_get x.minds i)) (sym (same_Some p done h))
own_run k p done i (a ∷ names) h = own_next k p done a i names (λ q f. own_run k q done i names f) (turn (seated k) p a) refl h

-- ---- and how many there are

told_number : {V : Type 0} (k : Kind V) (minds : List V) (a : ℕ) (o : Option V) (b : Option Feedback) → length (tell k minds a o b) ≡ length minds
told_number k minds a None b = refl
told_number k minds a (Some m) None = refl
told_number k minds a (Some m) (Some b) = length-set minds (a - 1) (k.took m b)

number_case : {V : Type 0} (k : Kind V) (p q : Platform V) (a : ℕ) → Turned k p a (sense p.board a) q → length q.minds ≡ length p.minds
number_case k p q a (Leaves h) = ap (λ x. length x.minds) h.is
number_case k p q a (Thinks h) = ap (λ x. length x.minds) h.is ∙ length-set p.minds (a - 1) _
number_case k p q a (Emits h) = ap (λ x. length x.minds) h.is ∙ told_number k p.minds a (slice_get p.minds (a - 1)) _
number_case k p q a (Spends h) = ap (λ x. length x.minds) h.is

number_next : {V : Type 0} (k : Kind V) (p done : Platform V) (a : ℕ) (names : List ℕ) → ((q : Platform V) → run k q names ≡ Some done → length done.minds ≡ length q.minds) →
    (o : Option (Platform V)) → turn k p a ≡ o → and_run (λ q. run k q names) o ≡ Some done → length done.minds ≡ length p.minds
number_next k p done a names more None e h = absurd (none-some done h)
number_next k p done a names more (Some q) e h = more q h ∙ number_case k p q a (turned k p a q e).case

pub number_run : {V : Type 0} (k : Kind V) (p done : Platform V) (names : List ℕ) → run k p names ≡ Some done → length done.minds ≡ length p.minds
number_run k p done [] h = ap (λ x. length x.minds) (sym (same_Some p done h))
number_run k p done (a ∷ names) h = number_next k p done a names (λ q f. number_run k q done names f) (turn k p a) refl h
