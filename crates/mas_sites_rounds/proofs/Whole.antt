-- The whole runs of two sites that make their rounds in turns.
use Rattle.std.proofs.Common.{◌≡◌, Bool, true, false, ◌&&◌, List, [], ◌++◌, length, replicate, refl, ap, sym, ◌∙◌, subst}
use Rattle.std.proofs.lemmas.List.{length-replicate}
use Rattle.mas_mind.specs.declared.mind.Message.{Message}
use Rattle.mas_mind.specs.Minds.{Kind}
use Rattle.mas_board.specs.Boards.{Noted, box_of}
use Rattle.mas_board.specs.Seating.{IsSound, Opens}
use Rattle.mas_core.specs.Fits.{Start}
use Rattle.mas_core.specs.Platform.{opening_platform}
use Rattle.mas_sites_stand.specs.declared.seated.Seated.{Seated}
use Rattle.mas_sites_stand.specs.Seats.{seated}
use Rattle.mas_sites_scripts.specs.Sites.{Sited, AreFresh, opened, opening_with, Before, before, After, IsClosed}
use Rattle.mas_sites_scripts.specs.Meeting.{Meeting}
use Rattle.mas_sites_scripts.proofs.Openings.{opens, ran_whole}
use Rattle.mas_sites_rounds.specs.Between.{taken_of, messages_in, script_of, AreApart, IsTallied, ArrivesInOrder}
use Rattle.mas_sites_rounds.specs.Rounds.{InRound, met, IsOpening, AreTallied, HaveMet, RanInTurns}
use Rattle.mas_sites_rounds.proofs.Keeping.{opens_tallied}
use Rattle.mas_sites_rounds.proofs.Ending.{first_round, opens_sized, opens_round, opens_used}

-- ---- the start

pub opening_round : {V : Type 0} (k : Kind V) (b : Noted) (minds : List (Seated V)) → Start (seated k) b minds → Opens b → IsSound b.state → InRound b.state.cycles 0 0 (opened b.state minds)
opening_round k b minds h o s =
    let p = opening_platform b.state minds in
    first_round (opened b.state minds) (opens_sized (seated k) b minds p h s refl) (opens_round (seated k) b minds p h o s refl)

-- what is known of a site when its run begins
pub record Begins {V : Type 0} (k : Kind V) (b : Noted) (minds : List (Seated V)) (site : Sited V) : Type 0 where
  pub start : Start (seated k) b minds
  pub opens : Opens b
  pub sound : IsSound b.state
  pub fresh : AreFresh minds
  pub is : site ≡ opened b.state minds

module _ {V : Type 0} (k : Kind V) (b d : Noted) (m n : List (Seated V)) (one two : Sited V) (ways : List (List Message))
    (h : Begins k b m one) (g : Begins k d n two) (apart : AreApart m n) (none : ways ≡ replicate (length b.state.names) []) where
  names_are : length b.state.names ≡ length m
  names_are = h.sound.named ∙ sym h.start.fit.number

  none_is : ways ≡ replicate (length m) []
  none_is = none ∙ ap (λ x. replicate x []) names_are

  ways_are : length ways ≡ length m
  ways_are = ap length none_is ∙ length-replicate (length m) []

  pub is_opening : IsOpening (met one two ways)
  is_opening = record {
    one = rw h.is (opening_round k b m h.start h.opens h.sound);
    two = rw g.is (opening_round k d n g.start g.opens g.sound);
    ways_one = ways_are ∙ h.start.fit.number ∙ ap (λ s. length s.platform.board.seats) (sym h.is);
    ways_two = ways_are ∙ sym apart.number ∙ g.start.fit.number ∙ ap (λ s. length s.platform.board.seats) (sym g.is);
  }

  -- ---- the end

  left_true : (x y : Bool) → (x && y) ≡ true → x ≡ true
  left_true true y e = refl
  left_true false y e = cc

  right_true : (x y : Bool) → (x && y) ≡ true → y ≡ true
  right_true true y e = e
  right_true false y e = cc

  met_is : met one two ways ≡ met (opened b.state m) (opened d.state n) (replicate (length m) [])
  met_is = λ i. met (h.is i) (g.is i) (none_is i)

  -- the same of what the sites are let go with
  ordered : (site other : Sited V) (done far : After V) (ways left : List (List Message)) (near : Before V) → IsTallied k near site other ways → IsClosed site done → IsClosed other far → left ≡ ways →
      ArrivesInOrder k near done far left
  ordered site other done far ways left near t c e l y j o =
      ap (λ x. taken_of k y (opening_with near.board near.minds x) done.board.schedule) c.scripts
      ∙ ap (taken_of k y (opening_with near.board near.minds site.scripts)) c.schedule
      ∙ t y j o
      ∙ ap (λ x. messages_in (script_of x y) ++ box_of ways y) (sym e.scripts)
      ∙ ap (λ x. messages_in (script_of far.scripts y) ++ box_of x y) (sym l)

  pub ran_in_turns : (last : Meeting V) (done_one done_two : After V) (left : List (List Message)) → HaveMet k (met one two ways) last → IsClosed last.one done_one → IsClosed last.two done_two →
      left ≡ last.ways → RanInTurns k (before b.state m) (before d.state n) done_one done_two left
  ran_in_turns last done_one done_two left r c e l =
      let s = subst (λ (x : Meeting V). HaveMet k x last) met_is r in
      let along_one = opens k b.state m h.fresh in
      let along_two = opens k d.state n g.fresh in
      let start = opens_tallied k (before b.state m) (before d.state n) (length m) refl in
      let tally : AreTallied k (before b.state m) (before d.state n) last = s.tally (before b.state m) (before d.state n) along_one along_two apart start in
      record {
        one = ran_whole k (before b.state m) last.one done_one (s.along_one b.state m along_one) (s.used_one (opens_used k b m h.start h.opens)) (left_true _ _ s.ended) c;
        two = ran_whole k (before d.state n) last.two done_two (s.along_two d.state n along_two) (s.used_two (opens_used k d n g.start g.opens)) (right_true _ _ s.ended) e;
        rounds = s.rounds;
        last = last;
        fold = s.met;
        is_one = c;
        is_two = e;
        left_is = l;
        in_order_one = ordered last.one last.two done_one done_two last.ways left (before b.state m) tally.one c e l;
        in_order_two = ordered last.two last.one done_two done_one last.ways left (before d.state n) tally.two e c l;
      }
