-- The lines of an agent are whole, and at a level that shows no rows a quiet cycle writes none.
use Rattle.std.specs.Prelude.{ℕ, ◌≡◌, ◌+◌, Bool, true, false, ◌&&◌, if◌then◌else◌, refl, List, [], ◌∷◌, ◌++◌, codes}
use Rattle.std.specs.Fmt.{decimal}
use Rattle.std.proofs.Common.{ap, ◌∙◌, append-nil}
use Rattle.mas_mind.specs.declared.mind.Input.{Input}
use Rattle.mas_mind.specs.declared.mind.Level.{Level}
use Rattle.mas_mind.specs.Minds.{is_quiet}
use Rattle.asl_cycle.specs.declared.rows.TraceLine.{TraceLine}
use Rattle.asl_cycle.specs.declared.rows.TraceLine.TheVariants as line
use Rattle.asl_cycle.specs.Cycle.{quiet_line, quiet_lines, quiet_row}
use Rattle.asl_cycle.specs.Trace.{line_text, shows_rules, shown}
use Rattle.asl_cycle.specs.Agent.{Mindset, surroundings, agent_cycle, told, agent_kind, opening_mind}
use Rattle.mas_free.specs.Lines.{are_lines}
use Rattle.mas_free.specs.Alike.{Event, Given, Told, after, IsPlain}
use Rattle.mas_explore_agent.specs.Plain.{OpensPlain}
use Rattle.mas_explore_agent.specs.inner.Still.{is_idle}
use Rattle.mas_explore_agent.specs.inner.Likes.{ran, stays_whole}

-- ---- the rows of a quiet cycle

behind : (a b : Bool) → (a && b) ≡ true → b ≡ true
behind true b q = q
behind false b q = cc

line_hidden : (v : Level) (n : ℕ) (l : TraceLine) (ls : List TraceLine) → shows_rules v ≡ false → (quiet_line l && quiet_lines ls) ≡ true
    → (quiet_lines ls ≡ true → shown v n ls ≡ []) → shown v n (l ∷ ls) ≡ []
line_hidden v n (line.Rule r) ls h q next =
    ap (λ (b : Bool). (if b then decimal n ++ codes " " ++ line_text (line.Rule r) ++ codes "\n" else []) ++ shown v n ls) h
    ∙ next (behind (quiet_row r) (quiet_lines ls) q)
line_hidden v n other ls h q next = cc

all_hidden : (v : Level) (n : ℕ) (ls : List TraceLine) → shows_rules v ≡ false → quiet_lines ls ≡ true → shown v n ls ≡ []
all_hidden v n [] h q = refl
all_hidden v n (l ∷ ls) h q = line_hidden v n l ls h q (all_hidden v n ls h)

silent : (m : Mindset) (i : Input) → shows_rules m.level ≡ false → is_quiet (agent_cycle m i).thought ≡ true → (agent_cycle m i).mind.text ≡ m.text
silent m i h q =
    let idle = is_idle (surroundings m) m.peers m.parts m.asks m.kept i q in
    ap (λ (t : List ℕ). m.text ++ t) (all_hidden m.level (m.cycles + 1) (ran m i).lines h idle.still.lines) ∙ append-nil m.text

-- ---- whatever befalls it

level_after : (events : List Event) (m : Mindset) → (after agent_kind m events).level ≡ m.level
level_after [] m = refl
level_after (Given i ∷ events) m = level_after events (agent_cycle m i).mind
level_after (Told f ∷ events) m = level_after events (told m f)

whole_after : (events : List Event) (m : Mindset) → are_lines m.text ≡ true → are_lines (after agent_kind m events).text ≡ true
whole_after [] m h = h
whole_after (Given i ∷ events) m h = whole_after events (agent_cycle m i).mind (stays_whole m i h)
whole_after (Told f ∷ events) m h = whole_after events (told m f) h

plain_of : (m : Mindset) → shows_rules m.level ≡ false → are_lines m.text ≡ true → IsPlain agent_kind m
plain_of m h w = record {
  whole = λ events. whole_after events m w;
  silent = λ events i. silent (after agent_kind m events) i (ap shows_rules (level_after events m) ∙ h);
}

pub opens_plain : OpensPlain
opens_plain me names source k level h = plain_of (opening_mind me names source k level) h refl
