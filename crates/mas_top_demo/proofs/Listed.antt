-- One agent more.
use Rattle.std.proofs.Common.{ℕ, zero, suc, ◌≡◌, ◌+◌, List, [], ◌∷◌, ◌++◌, map, ap, sym, ◌∙◌, append_assoc, append-nil, arith}
use Rattle.std.specs.List.{range_with_len, flat_map}
use Rattle.std.proofs.lemmas.List.{map-append}
use Rattle.std.proofs.lemmas.List.Concat.{flat_map-append}
use Rattle.asl_term.specs.declared.syntax.Filed.{Filed}
use Rattle.mas_top_demo.specs.Files.{agent_file, entry_text}

range_last : (a n : ℕ) → range_with_len a (suc n) ≡ range_with_len a n ++ (a + n) ∷ []
range_last a zero = ap (λ (x : ℕ). x ∷ []) (omega arith)
range_last a (suc n) = ap (λ (x : List ℕ). a ∷ x) (range_last (a + 1) n ∙ ap (λ (x : ℕ). range_with_len (a + 1) n ++ x ∷ []) (omega arith))

-- the numbers from 1 on, and one more
pub range_more : (n : ℕ) → range_with_len 1 (n + 1) ≡ range_with_len 1 n ++ (n + 1) ∷ []
range_more n =
    let succ : n + 1 ≡ suc n = omega arith in
    let end : 1 + n ≡ n + 1 = omega arith in
    ap (range_with_len 1) succ ∙ range_last 1 n ∙ ap (λ (x : ℕ). range_with_len 1 n ++ x ∷ []) end

pub agents_more : (old now grown : List Filed) (n : ℕ) → now ≡ old ++ map agent_file (range_with_len 1 n) → grown ≡ now ++ agent_file (n + 1) ∷ []
    → grown ≡ old ++ map agent_file (range_with_len 1 (n + 1))
agents_more old now grown n h e =
    e ∙ ap (λ (x : List Filed). x ++ agent_file (n + 1) ∷ []) h ∙ append_assoc old (map agent_file (range_with_len 1 n)) (agent_file (n + 1) ∷ [])
    ∙ ap (λ (x : List Filed). old ++ x) (sym (map-append agent_file (range_with_len 1 n) ((n + 1) ∷ [])) ∙ ap (map agent_file) (sym (range_more n)))

entry_last : (n : ℕ) → flat_map entry_text (range_with_len 1 (n + 1)) ≡ flat_map entry_text (range_with_len 1 n) ++ entry_text (n + 1)
entry_last n =
    ap (flat_map entry_text) (range_more n) ∙ flat_map-append entry_text (range_with_len 1 n) ((n + 1) ∷ [])
    ∙ ap (λ (x : List ℕ). flat_map entry_text (range_with_len 1 n) ++ x) (append-nil (entry_text (n + 1)))

pub entries_more : (old now grown : List ℕ) (n : ℕ) → now ≡ old ++ flat_map entry_text (range_with_len 1 n) → grown ≡ now ++ entry_text (n + 1)
    → grown ≡ old ++ flat_map entry_text (range_with_len 1 (n + 1))
entries_more old now grown n h e =
    e ∙ ap (λ (x : List ℕ). x ++ entry_text (n + 1)) h ∙ append_assoc old (flat_map entry_text (range_with_len 1 n)) (entry_text (n + 1))
    ∙ ap (λ (x : List ℕ). old ++ x) (sym (entry_last n))
