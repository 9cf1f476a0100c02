-- Two sites can begin their runs.
use Rattle.std.proofs.Common.{ℕ, ◌≡◌, ◌≤◌, ◌<◌, ◌+◌, Bool, true, false, List, [], ◌++◌, length, slice_get, Option, None, Some, IfSome, refl, ap, ap₂, sym, ◌∙◌, subst, arith}
use Rattle.std.proofs.lemmas.List.{length-append}
use Rattle.asl_term.specs.declared.syntax.AgentText.{AgentText}
use Rattle.asl_cycle.specs.Agent.{Mindset, agent_kind}
use Rattle.mas_board.specs.Boards as boards
use Rattle.mas_board.specs.Seating.{AreLimits}
use Rattle.mas_core.specs.Fits.{Start, IsMindOf}
use Rattle.mas_report.specs.declared.options.Options.{Options}
use Rattle.mas_report.specs.Limits.{IsWithin}
use Rattle.mas_sites_stand.specs.declared.seated.Seated.{Seated}
use Rattle.mas_sites_stand.specs.Seats.{seated}
use Rattle.mas_sites_scripts.specs.Sites.{AreFresh, Before, before}
use Rattle.mas_sites_rounds.specs.Between.{AreApart}
use Rattle.mas_world.specs.declared.acts.WorldText.{WorldText}
use Rattle.mas_world.specs.Worlds.{Used}
use Rattle.mas_project.specs.Projects.{most_agents}
use Rattle.mas_top_files.specs.declared.sources.Role.{Role}
use Rattle.mas_top_files.specs.Sources.{texts_of}
use Rattle.mas_top_opening.specs.Opening.{minds_from, opening_minds}
use Rattle.mas_top_opening.proofs.Opened.{minds_at, opened_length}
use Rattle.mas_top_sites.specs.Pairs.{Pair}
use Rattle.mas_top_sites.specs.Opening.{together, at_one, at_two, seats, world_with, site, AreNames, CanSit, IsSite, new_board}
use Rattle.mas_top_sites.specs.Texts.{IsSitesText}
use Rattle.mas_top_sites.proofs.Seating as seating

true_false : true ≡ false → ⊥
true_false e = cc

-- ---- the minds of both projects' agents

abbrev IsNew : List (List ℕ) → ℕ → Mindset → Type 0
IsNew names a m = (m.peers.me ≡ a) × ((length m.peers.names ≡ length names) × ((m.cycles ≡ 0) × (m.awaits ≡ false)))

mind_fits : (names : List (List ℕ)) (s : boards.State) (a : ℕ) (m : Option Mindset) → length names ≡ length s.seats → (boards.seat_at s a).cycle ≡ 0 →
    IfSome m (IsNew names a) → IfSome m (IsMindOf agent_kind s a)
mind_fits names s a None n c h = tt
mind_fits names s a (Some m) n c h =
    record { me = h.0; agents = h.1.0 ∙ n; made = h.1.1.0 ∙ sym c; awaits = λ e. absurd (true_false (sym e ∙ h.1.1.1)) }

module _ (o : Options) (both : Pair) (text : Option WorldText) (used : List Used) (can : CanSit (together both)) where
  abbrev names : List (List ℕ)
  names = (together both).names

  abbrev first_board : boards.State
  first_board = boards.opening names (world_with text used) o.cycles o.lead

  abbrev texts : List AgentText
  texts = texts_of (together both).roles

  start_of : (lives : ℕ → Bool) → Start (seated agent_kind) (record { state = first_board; schedule = []; halted = false }) (site o both text used lives).minds
  start_of lives =
      let n = seating.new_seats names (world_with text used) o.cycles o.lead in
      let c = seating.new_cycles names (world_with text used) o.cycles o.lead in
      let minds = opening_minds o (together both) in
      let m : length minds ≡ length first_board.seats = opened_length o names texts ∙ sym can.named ∙ n in
      record {
        unplayed = refl;
        running = refl;
        fit = record {
          number = seating.seats_length names lives 1 minds ∙ m;
          each = seating.fits names agent_kind first_board n c lives minds
              (λ i l.
              let k : i < length texts = subst (λ x. i < x) (opened_length o names texts) l in
              mind_fits names first_board (1 + i) (slice_get minds i) n (c (1 + i)) (minds_at o names 1 i texts k)) m;
        };
      }

  pub starts : (lives : ℕ → Bool) (b : boards.Noted) (minds : List (Seated Mindset)) → IsSite (site o both text used lives) b minds → Start (seated agent_kind) b minds
  starts lives b minds h =
      subst (λ x. Start (seated agent_kind) x minds) (sym h.board_is)
      (subst (λ x. Start (seated agent_kind) (record { state = first_board; schedule = []; halted = false }) x) (sym h.minds_are) (start_of lives))

-- ---- both sites

module _ (o : Options) (both : Pair) (text_one text_two : Option WorldText) (used_one used_two : List Used) (first : ℕ) (b c : boards.Noted) (ms ns : List (Seated Mindset))
    (one : IsSite (site o both text_one used_one (at_one first)) b ms) (two : IsSite (site o both text_two used_two (at_two first)) c ns) where
  abbrev all_names : List (List ℕ)
  all_names = (together both).names

  pub are_fresh : AreFresh ms × AreFresh ns
  are_fresh = (
    subst (λ x. AreFresh x) (sym one.minds_are) (seating.fresh all_names (at_one first) (opening_minds o (together both))),
    subst (λ x. AreFresh x) (sym two.minds_are) (seating.fresh all_names (at_two first) (opening_minds o (together both))),
  )

  pub are_apart : AreApart ms ns
  are_apart =
      subst (λ x. AreApart x ns) (sym one.minds_are)
      (subst (λ x. AreApart (seats (at_one first) all_names (opening_minds o (together both))) x) (sym two.minds_are)
      (seating.apart all_names first (opening_minds o (together both))))

-- ---- the limits of a board

pub limits : (o : Options) (one two : List (List ℕ)) → IsWithin o → AreNames one two → 1 ≤ length (one ++ two) → AreLimits (length (one ++ two)) o.cycles o.lead
limits o one two w n s =
    let e = length-append one two in
    let f = n.few in
    record {
      some = s;
      few = omega (arith, e, f);
      cycle = w.cycles.0;
      short = w.cycles.1;
      ahead = w.lead.0;
      close = w.lead.1;
    }

-- ---- the minds that are dealt

pub few_together : (one two : List (List ℕ)) → AreNames one two → length (one ++ two) ≤ most_agents
few_together one two n = subst (λ x. x ≤ most_agents) (sym (length-append one two)) n.few

pub as_many : (o : Options) (names all : List (List ℕ)) (roles : List Role) (minds : List Mindset) → minds ≡ minds_from o names 1 (texts_of roles) →
    length all ≡ length (texts_of roles) → length minds ≡ length all
as_many o names all roles minds m n = ap length m ∙ opened_length o names (texts_of roles) ∙ sym n

pub is_site : (o : Options) (both : Pair) (text : Option WorldText) (used : List Used) (lives : ℕ → Bool) (board : boards.Noted) (minds : List (Seated Mindset)) →
    (let names = both.one.names ++ both.two.names in
    board ≡ new_board o names (world_with text used) →
    minds ≡ seats lives names (minds_from o names 1 (texts_of (both.one.roles ++ both.two.roles))) → IsSite (site o both text used lives) board minds)
is_site o both text used lives board minds b m = record { board_is = b; minds_are = m }

-- ---- the text of the sites

pub of_sites : (o : Options) (one two : Before Mindset) (b c : boards.Noted) (ms ns : List (Seated Mindset)) (workers : ℕ) (spent : Bool) (w : List ℕ) →
    IsSite one b ms → IsSite two c ns → IsSitesText agent_kind o (before b.state ms) (before c.state ns) workers spent w →
    IsSitesText agent_kind o one two workers spent w
of_sites o one two b c ms ns workers spent w h g t =
    let same_one : before b.state ms ≡ one = ap₂ before (ap (λ n. n.state) h.board_is) h.minds_are in
    let same_two : before c.state ns ≡ two = ap₂ before (ap (λ n. n.state) g.board_is) g.minds_are in
    subst (λ x. IsSitesText agent_kind o x two workers spent w) same_one
    (subst (λ x. IsSitesText agent_kind o (before b.state ms) x workers spent w) same_two t)

-- both can begin their runs
pub ruleset both_start = (starts, are_fresh, are_apart, of_sites)
