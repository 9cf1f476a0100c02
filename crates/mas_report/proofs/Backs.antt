-- The report of a run shows its options and its schedule.
use Rattle.std.proofs.Common.{ℕ, zero, suc, ◌≡◌, ◌<◌, ◌≤◌, ◌+◌, ◌⊎◌, ◌^◌, arith, Bool, List, [], ◌∷◌, ◌++◌, length, refl, ap, sym, inl, inr, ◌∙◌, append_assoc, append-nil, codes}
use Rattle.std.specs.List.{flat_map}
use Rattle.asl_term.specs.Texts.{text}
use Rattle.mas_mind.specs.declared.mind.Message.{Message}
use Rattle.mas_mind.specs.Minds.{verb_text, Kind}
use Rattle.mas_board.specs.Boards.{State, box_of}
use Rattle.mas_core.specs.Platform.{Platform}
use Rattle.mas_report.specs.declared.options.Options.{Options}
use Rattle.mas_report.specs.Limits.{IsWithin}
use Rattle.mas_report.specs.Report.{options_line, agents_text, world_text, route_text, content_text, message_line, box_text, boxes_text, mail_text, first_line, front_text, report_text, IsReport}
use Rattle.mas_report.specs.declared.reading.Told.{Told}
use Rattle.mas_report.specs.Reading.{AreWords, Shows}
use Rattle.mas_report_schedule.specs.Schedule.{IsVersion, line_feed, schedule_text, printed, AllFromOne}
use Rattle.mas_report_schedule.specs.Reading.{IsCount, AreLines}
use Rattle.mas_report_schedule.proofs.RunLemmas.{is_schedule, printed_last}

-- ---- lines

-- a line feed ends it
abbrev Ends : List ℕ → Type 0
Ends bytes = (before : List ℕ) × (bytes ≡ before ++ line_feed)

ends_behind : (a b : List ℕ) → Ends b → Ends (a ++ b)
ends_behind a b (before, e) = (a ++ before, ap (λ x. a ++ x) e ∙ sym (append_assoc a before line_feed))

ends_before : (a b : List ℕ) → Ends a → AreLines b → Ends (a ++ b)
ends_before a b (before, e) (inl f) = (before, ap (λ x. a ++ x) f ∙ append-nil a ∙ e)
ends_before a b h (inr g) = ends_behind a b g

lines_and : (a b : List ℕ) → AreLines a → AreLines b → AreLines (a ++ b)
lines_and a b (inl e) h = lines_as b (a ++ b) (ap (λ x. x ++ b) e) h
  where
    lines_as : (x y : List ℕ) → y ≡ x → AreLines x → AreLines y
    lines_as x y e (inl f) = inl (e ∙ f)
    lines_as x y e (inr (before, f)) = inr (before, e ∙ f)
lines_and a b (inr g) h = inr (ends_before a b g h)

-- ---- the mail

content_ends : (m : Message) → Ends (content_text m)
unfolding content_text
content_ends m = ends_behind (verb_text m.verb) _ (ends_behind (codes " ") _ (text m.content, refl))

letters_end : (names : List (List ℕ)) (all : List Message) → AreLines (flat_map (message_line names) all)
letters_end names [] = inl refl
letters_end names (m ∷ all) =
    lines_and (message_line names m) (flat_map (message_line names) all) (inr (ends_behind (route_text names m) (content_text m) (content_ends m))) (letters_end names all)

boxes_end : (s : State) (a n : ℕ) → AreLines (boxes_text s a n)
boxes_end s a zero = inl refl
boxes_end s a (suc n) = lines_and (box_text s a) (boxes_text s (a + 1) n) (letters_end s.names (box_of s.boxes a)) (boxes_end s (a + 1) n)

mail_ends : (s : State) → Ends (mail_text s)
mail_ends s = ends_before (codes "mail\n") (boxes_text s 1 (length s.seats)) (codes "mail", refl) (boxes_end s 1 (length s.seats))

-- ---- the whole

regroup : (first o agents world mail lines : List ℕ) → (first ++ (o ++ (agents ++ (world ++ mail)))) ++ lines ≡ first ++ (o ++ ((agents ++ (world ++ mail)) ++ lines))
regroup first o agents world mail lines = simp append_assoc

pub words_within : (o : Options) → IsWithin o → AreWords o
words_within o h = record { cycles = omega (arith, h.cycles.1); lead = omega (arith, h.lead.1); depth = omega (arith, h.depth.1); tries = omega (arith, h.tries.1) }

abbrev pub told : ℕ → Options → List ℕ → Told
told version o turns = record { version = version; options = o; turns = turns }

pub shown : {V : Type 0} (k : Kind V) (version : ℕ) (o : Options) (p : Platform V) (spent : Bool) (w : List ℕ) (r : IsReport k version o p spent w) → IsVersion version → AreWords o →
    IsCount (length (printed w)) → AllFromOne 65535 (printed w) → Shows w (told version o (printed w))
shown k version o p spent w r known a c h =
    let board = r.done.board in
    let agents = agents_text k.lines board r.done.minds 1 (length board.seats) in
    let front = agents ++ (world_text board.world ++ mail_text board) in
    let lines = schedule_text version (printed w) in
    record {
      behind = options_line o ++ (front ++ lines);
      first = record { known = known; is = r.is ∙ regroup (first_line version) (options_line o) agents (world_text board.world) (mail_text board) lines };
      tells = record {
        rest = front ++ lines;
        options = record { words = a; is = refl };
        schedule = record {
          front = front;
          lines = inr (ends_behind _ _ (ends_behind (world_text board.world) (mail_text board) (mail_ends board)));
          last = lines;
          schedule = is_schedule version (printed w) c h;
          is = refl;
        };
      };
    }

-- what is printed of a report is its schedule
pub schedule_printed : {V : Type 0} (lines : V → List ℕ) (version : ℕ) (o : Options) (board : State) (minds : List V) (schedule t : List ℕ) →
    t ≡ report_text lines version o board minds schedule → length schedule < 2 ^ 64 → AllFromOne 65535 schedule → printed t ≡ schedule
schedule_printed lines version o board minds schedule t e l h = ap printed e ∙ printed_last version (front_text lines version o board minds) schedule h l
