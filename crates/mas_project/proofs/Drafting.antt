-- A draft follows what the pieces say.
use Rattle.std.proofs.Common.{◌≡◌, ℕ, ◌+◌, ◌-◌, ◌≤◌, ◌^◌, List, [], ◌∷◌, ◌++◌, map, min, length, Option, Some, None, refl, sym, ap, ◌∙◌, arith}
use Rattle.std.proofs.lemmas.List.{append-nil, length-append, map-append}
use Rattle.std.proofs.lemmas.List.FromFn.{length-map-range_with_len}
use Rattle.std.proofs.lemmas.Grind.{flat_map-append}
use Rattle.mas_project.specs.declared.draft.Draft.{Draft}
use Rattle.mas_project.specs.declared.piece.AgentEntry.{AgentEntry}
use Rattle.mas_project.specs.declared.piece.PieceMeaning.{PieceMeaning}
use Rattle.mas_project.specs.declared.piece.PieceMeaning.TheVariants as said
use Rattle.mas_project.specs.declared.syntax.AgentLine.{AgentLine}
use Rattle.mas_project.specs.declared.syntax.ProjectText.{ProjectText}
use Rattle.mas_project.specs.Names.{numbered_name, names_in, names_of, agents_of}
use Rattle.mas_project.specs.Projects.{count_of, line_of, with_entry, added, all_added, nothing, most_agents, saturated}
use Rattle.mas_project.specs.inner.Drafts.{capped, no_draft, entry_drafted, drafted, AreCounted, IsDraft}

-- a line has as many agents as its entry counts
line_agents : (entry : AgentEntry) → length (names_in (line_of entry)) ≡ count_of entry
line_agents entry = go entry.count
  where
    go : (count : Option ℕ)
        → length (names_in (line_of (record { name = entry.name; file = entry.file; count = count }))) ≡ count_of (record {
          name = entry.name;
          file = entry.file;
          count = count;
        })
    go None = refl
    go (Some n) = length-map-range_with_len (numbered_name entry.name) 1 n

pub agents_push : (lines : List AgentLine) (entry : AgentEntry) → agents_of (lines ++ line_of entry ∷ []) ≡ agents_of lines + count_of entry
agents_push lines entry =
    ap length (flat_map-append names_in lines (line_of entry ∷ []))
    ∙ length-append (names_of lines) (names_in (line_of entry) ++ [])
    ∙ ap (λ (x : List (List ℕ)). length (names_of lines) + length x) (append-nil (names_in (line_of entry)))
    ∙ ap (λ (x : ℕ). length (names_of lines) + x) (line_agents entry)

counted_push : (lines : List AgentLine) (entry : AgentEntry) → AreCounted lines → AreCounted (lines ++ line_of entry ∷ [])
counted_push [] entry h = (omega (arith, line_agents entry), tt)
counted_push (l ∷ lines) entry h = (h.0, counted_push lines entry h.1)

-- few agents are counted as they are
pub few_capped : (lines : List AgentLine) → AreCounted lines → agents_of lines ≤ most_agents → map capped lines ≡ lines
few_capped [] h few = refl
few_capped (l ∷ lines) h few =
    let both = length-append (names_in l) (names_of lines) in
    let small : min l.count (2 ^ 32 - 1) ≡ l.count = as_is l.count (omega (arith, both, h.0)) in
    ap (λ (x : ℕ). record { name = l.name; file = l.file; count = x; numbered = l.numbered } ∷ map capped lines) small
    ∙ ap (λ (x : List AgentLine). l ∷ x) (few_capped lines h.1 (omega (arith, both)))
  where
    as_is : (n : ℕ) → n ≤ most_agents → min n (2 ^ 32 - 1) ≡ n
    as_is n le = grind arith

saturated_again : (a b : ℕ) → saturated (saturated a + b) ≡ saturated (a + b)
saturated_again a b = grind arith

push_drafts : (p : ProjectText) (d : Draft) (entry : AgentEntry) → IsDraft p d → IsDraft (with_entry p entry) (entry_drafted d entry)
push_drafts p d entry h = record {
  text =
      ap (λ (x : ProjectText). record { name = x.name; world = x.world; agents = x.agents ++ capped (line_of entry) ∷ [] }) h.text
      ∙ ap (λ (x : List AgentLine). record { name = p.name; world = p.world; agents = x }) (sym (map-append capped p.agents (line_of entry ∷ [])));
  agents = ap (λ (x : ℕ). saturated (x + count_of entry)) h.agents ∙ saturated_again (agents_of p.agents) (count_of entry) ∙ ap saturated (sym (agents_push p.agents entry));
  counted = counted_push p.agents entry h.counted;
}

pub more_drafts : (p : ProjectText) (d : Draft) (m : PieceMeaning) → IsDraft p d → IsDraft (added p m) (drafted d m)
more_drafts p d (said.Title name) h = record {
  text = ap (λ (x : ProjectText). record { name = name; world = x.world; agents = x.agents }) h.text;
  agents = h.agents;
  counted = h.counted;
}
more_drafts p d (said.First world entry) h =
    push_drafts (record { name = p.name; world = world; agents = p.agents }) (record {
      text = record {
        name = d.text.name;
        world = world;
        agents = d.text.agents;
      };
      agents = d.agents;
    }) entry (record {
      text = ap (λ (x : ProjectText). record {
        name = x.name;
        world = world;
        agents = x.agents;
      }) h.text;
      agents = h.agents;
      counted = h.counted;
    })
more_drafts p d (said.Next entry) h = push_drafts p d entry h
more_drafts p d said.End h = h

pub begins_draft : IsDraft nothing no_draft
begins_draft = record { text = refl; agents = grind arith; counted = tt }

pub added_last : (p : ProjectText) (ms : List PieceMeaning) (m : PieceMeaning) → all_added p (ms ++ m ∷ []) ≡ added (all_added p ms) m
added_last p [] m = refl
added_last p (x ∷ ms) m = added_last (added p x) ms m
