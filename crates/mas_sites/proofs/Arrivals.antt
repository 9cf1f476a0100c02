-- What arrives of an agent at the other site.
use Rattle.std.proofs.Common.{ℕ, ◌≡◌, ◌-◌, ◌≤◌, true, false, List, [], ◌∷◌, ◌++◌, length, slice_get, Option, None, Some, refl, ap, sym, ◌∙◌, subst}
use Rattle.std.proofs.lemmas.Option.{none-some}
use Rattle.mas_mind.specs.declared.mind.Message.{Message}
use Rattle.mas_mind.specs.Minds.{Kind, IsAgent}
use Rattle.mas_board.specs.Boards.{State, Noted}
use Rattle.mas_board.specs.Seating.{IsSound, Opens}
use Rattle.mas_core.specs.Fits.{Start}
use Rattle.mas_core.specs.Platform.{Platform, turn, run, and_run, opening_platform}
use Rattle.mas_core_laws.specs.Mail.{along, and_along, between, takes_as, taken, sent, unread}
use Rattle.mas_core_laws.proofs.Mails.{between-append, mail_from_opening}
use Rattle.mas_core_laws.proofs.Steps.{turned}
use Rattle.mas_sites_stand.specs.declared.seated.Seated.{Seated}
use Rattle.mas_sites_stand.specs.Seats.{seated}
use Rattle.mas_sites_scripts.specs.Scripts.{Script as ScriptEntries, with_scripts}
use Rattle.mas_sites_scripts.specs.Giving.{is_own}
use Rattle.mas_sites_scripts.specs.Sites.{After, opening_with, RanWhole}
use Rattle.mas_sites_rounds.specs.Between.{those_of, stand_takes, taken_of, messages_in, script_of}
use Rattle.mas_sites_rounds.proofs.Tallies.{own_scripts}
use Rattle.mas_sites.specs.Results.{Arrives}
use Rattle.mas_sites.proofs.Owners.{own_turn}
use Rattle.mas_sites.proofs.Boxes.{AreFor, opening_for, for_turn, between_those, took}

-- ---- along a run

took_next : {V : Type 0} (k : Kind V) (p done : Platform (Seated V)) (y x a : ℕ) (names : List ℕ) → 1 ≤ x → is_own (slice_get p.minds (x - 1)) ≡ false → AreFor p.board.boxes →
    ((q : Platform (Seated V)) → is_own (slice_get q.minds (x - 1)) ≡ false → AreFor q.board.boxes → run (seated k) q names ≡ Some done →
    between y x (along (stand_takes y) (seated k) q names) ≡ taken (seated k) q names y x) →
    (o : Option (Platform (Seated V))) → turn (seated k) p a ≡ o → and_run (λ q. run (seated k) q names) o ≡ Some done →
    between y x (stand_takes y p a ++ and_along (λ q. along (stand_takes y) (seated k) q names) o) ≡ between y x (takes_as x p a) ++ and_along (λ q. taken (seated k) q names y x) o
took_next k p done y x a names i f h more None e g = absurd (none-some done g)
took_next k p done y x a names i f h more (Some q) e g =
    let own = own_turn k p q a (x - 1) e ∙ f in
    let boxes = for_turn (seated k) p q a e h in
    let one = took p y x a i (turned (seated k) p a q e).agent.from_one h f in
    between-append y x (stand_takes y p a) (along (stand_takes y) (seated k) q names)
    ∙ ap (λ t. t ++ between y x (along (stand_takes y) (seated k) q names)) one
    ∙ ap (λ t. between y x (takes_as x p a) ++ t) (more q own boxes g)

-- the messages to x among those that stands took of y are those that x's stand took
pub took_run : {V : Type 0} (k : Kind V) (p done : Platform (Seated V)) (y x : ℕ) (names : List ℕ) → 1 ≤ x → is_own (slice_get p.minds (x - 1)) ≡ false → AreFor p.board.boxes →
    run (seated k) p names ≡ Some done → between y x (taken_of k y p names) ≡ taken (seated k) p names y x
took_run k p done y x [] i f h e = refl
took_run k p done y x (a ∷ names) i f h e =
    took_next k p done y x a names i f h (λ q o b g. took_run k q done y x names i o b g) (turn (seated k) p a) refl e

-- ---- a site

-- what is known of a site before its run
pub record Starts {V : Type 0} (k : Kind V) (b : Noted) (minds : List (Seated V)) : Type 0 where
  pub start : Start (seated k) b minds
  pub opens : Opens b
  pub sound : IsSound b.state

module _ {V : Type 0} (k : Kind V) (b : Noted) (minds : List (Seated V)) (h : Starts k b minds) where
  boxes_for : AreFor b.state.boxes
  boxes_for =
      let P : State → Type 0 = λ s. AreFor s.boxes in
      subst P (sym (h.opens h.start.unplayed)) (opening_for (length b.state.names))

  named : (x : ℕ) → IsAgent (length minds) x → IsAgent (length b.state.names) x
  named x j = subst (λ n. IsAgent n x) (h.start.fit.number ∙ sym h.sound.named) j

  -- what was posted is what was taken, and then what lies in the box
  sent_taken : (scripts : List ScriptEntries) (done : Platform (Seated V)) (names : List ℕ) (y x : ℕ) → IsAgent (length minds) x → run (seated k) (opening_with b.state minds scripts) names ≡ Some done →
      sent (seated k) (opening_with b.state minds scripts) names y x ≡ taken (seated k) (opening_with b.state minds scripts) names y x ++ unread done y x
  sent_taken scripts done names y x j =
      let m = with_scripts scripts minds in
      let P : State → Type 0 =
      λ s. run (seated k) (opening_platform s m) names ≡ Some done →
      sent (seated k) (opening_platform s m) names y x ≡ taken (seated k) (opening_platform s m) names y x ++ unread done y x in
      let s = b.state in
      subst P (sym (h.opens h.start.unplayed)) (mail_from_opening (seated k) s.names s.world s.cycles s.lead m done names y x (named x j))

  -- what came of y's messages is what its stand sent, and then what is left
  came_by : (script : ScriptEntries) (took left : List Message) (y x : ℕ) → took ≡ messages_in script ++ those_of y left → between y x took ≡ between y x (messages_in script) ++ between y x left
  came_by script took left y x e =
      ap (between y x) e ∙ between-append y x (messages_in script) (those_of y left) ∙ ap (λ t. between y x (messages_in script) ++ t) (between_those y x left)

  pub arrives : (done : After V) (other : List ScriptEntries) (left : List Message) → RanWhole k (record { board = b.state; minds = minds }) done →
      ((y : ℕ) → IsAgent (length minds) y → is_own (slice_get minds (y - 1)) ≡ true →
      taken_of k y (opening_with b.state minds done.scripts) done.board.schedule ≡ messages_in (script_of other y) ++ those_of y left) →
      Arrives k (record { board = b.state; minds = minds }) done other left
  arrives done other left r e = record {
    in_order = e;
    as_sent = λ y x j i o f.
        let last : Platform (Seated V) = record { board = done.board.state; minds = done.minds; thoughts = r.ran.thoughts } in
        let p = opening_with b.state minds done.scripts in
        let own = own_scripts done.scripts minds (x - 1) ∙ f in
        record {
          came = sym (took_run k p last y x done.board.schedule i.from_one own boxes_for r.ran.ran) ∙ came_by (script_of other y) _ left y x (e y j o);
          posted = sent_taken done.scripts last done.board.schedule y x i r.ran.ran;
        };
  }
