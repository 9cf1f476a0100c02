-- The demo's files hold what their names say.
use Rattle.std.proofs.Common.{◌≡◌, ◌≤◌, ◌<◌, ℕ, zero, suc, ◌+◌, ◌*◌, Bool, true, false, cond, List, ◌++◌, map, length, refl, ap, sym, ◌∙◌, arith}
use Rattle.std.specs.Prelude.{codes, ◌==◌, nat_le}
use Rattle.std.specs.Fmt.{decimal}
use Rattle.std.specs.List.{flat_map, range_with_len}
use Rattle.std.specs.Str.{bytes_eq}
use Rattle.std.proofs.lemmas.Bool.{le-ltb, leb-true, leb-false, eqb-true, eq-eqb}
use Rattle.std.proofs.lemmas.Fmt.{length-decimal-le}
use Rattle.std.proofs.lemmas.List.{append_cancel_right, length-append}
use Rattle.std.proofs.lemmas.Slice.Eq.{bytes_eq-Decides}
use Rattle.mas_io.specs.Shelf.{fetched, limited}
use Rattle.mas_io.specs.declared.shelf.Fetched.{Fetched}
use Rattle.mas_io.specs.declared.shelf.Fetched.TheVariants.{Bytes, TooLong}
use Rattle.mas_top_demo.specs.Files.{agent_name, agent_source, agent_file, source_front, source_back, entry_text, project_front, project_back, project_source, world_source, demo_files}
use Rattle.mas_top_demo.proofs.Tokens.{Few}
use Rattle.mas_top_demo.proofs.Named.{same_number}

-- ---- how many bytes there are

-- the most bytes of a file
abbrev most : ℕ
most = 1048576

short : (bytes : List ℕ) → length bytes ≤ most → limited bytes most ≡ Bytes bytes
short bytes l = ap (λ (b : Bool). cond b TooLong (Bytes bytes)) (le-ltb most (length bytes) l)

digits_few : (n : ℕ) → n ≤ 1000 → length (decimal n) ≤ 4
digits_few n l = length-decimal-le 4 n (omega arith) (omega (arith, l)) (omega (arith, l))

entry_few : (n : ℕ) → n ≤ 1000 → length (entry_text n) ≤ 7
entry_few n l = omega (arith, digits_few n l, length-append (decimal n) (codes ";"))

entries_few : (a n : ℕ) → a + n ≤ 1000 → length (flat_map entry_text (range_with_len a n)) ≤ n * 7
entries_few a zero l = omega arith
entries_few a (suc n) l =
    omega (arith, length-append (entry_text a) (flat_map entry_text (range_with_len (a + 1) n)), entry_few a (omega (arith, l)), entries_few (a + 1) n (omega (arith, l)))

project_few : (k : ℕ) → k ≤ 200 → length (project_source k) ≤ most
unfolding project_front project_back
project_few k l =
    omega (
      arith,
      length-append project_front (flat_map entry_text (range_with_len 1 k) ++ project_back),
      length-append (flat_map entry_text (range_with_len 1 k)) project_back,
      entries_few 1 k (omega (arith, l)),
      l,
    )

agent_few : (i : ℕ) → i ≤ 1000 → length (agent_source i) ≤ most
unfolding source_front source_back
agent_few i l = omega (arith, length-append source_front (decimal i ++ source_back), length-append (decimal i) source_back, digits_few i l)

-- ---- each file

pub project_held : (k : ℕ) → k ≤ 200 → Bytes (project_source k) ≡ fetched (demo_files k) (codes "demo.mas2j") most
project_held k l = sym (short (project_source k) (project_few k l))

pub world_held : (k : ℕ) → Bytes world_source ≡ fetched (demo_files k) (codes "demo.env") most
unfolding world_source
world_held k = refl

abbrev file_name : ℕ → List ℕ
file_name i = agent_name i ++ codes ".asl"

other_file : (a i : ℕ) → Few a → Few i → (a ≡ i → ⊥) → bytes_eq (file_name a) (file_name i) ≡ false
other_file a i l k n = go (bytes_eq (file_name a) (file_name i)) refl
  where
    go : (b : Bool) → bytes_eq (file_name a) (file_name i) ≡ b → b ≡ false
    go true e = absurd (n (same_number a i l k (append_cancel_right (agent_name a) (agent_name i) (codes ".asl") ((bytes_eq-Decides (file_name a) (file_name i)).0 e))))
    go false e = refl

own_file : (i : ℕ) → bytes_eq (file_name i) (file_name i) ≡ true
own_file i = (bytes_eq-Decides (file_name i) (file_name i)).1 refl

not_itself : (i : ℕ) → (i == i) ≡ false → ⊥
not_itself i e = absurd (let t = eq-eqb i i refl in cc)

next_one : (a i : ℕ) → a ≤ i → (a ≡ i → ⊥) → a + 1 ≤ i
next_one a i l n = go (nat_le (a + 1) i) refl
  where
    go : (b : Bool) → nat_le (a + 1) i ≡ b → a + 1 ≤ i
    go true e = leb-true (a + 1) i e
    go false e = absurd (n (let m = leb-false (a + 1) i e in omega (arith, l, m)))

agent_found : (a n i : ℕ) → a + n ≤ 1000 → a ≤ i → i < a + n → fetched (map agent_file (range_with_len a n)) (file_name i) most ≡ Bytes (agent_source i)
agent_found a zero i l g h = absurd (omega (arith, g, h))
agent_found a (suc n) i l g h = go (a == i) refl (λ less. agent_found (a + 1) n i (omega (arith, l)) less (omega (arith, h)))
  where
    there : (b : Bool) → bytes_eq (file_name a) (file_name i) ≡ b → (r : Fetched) → cond b (limited (agent_source a) most) (fetched (map agent_file (range_with_len (a + 1) n)) (file_name i) most) ≡ r
        → fetched (map agent_file (range_with_len a (suc n))) (file_name i) most ≡ r
    there b e r d = ap (λ (x : Bool). cond x (limited (agent_source a) most) (fetched (map agent_file (range_with_len (a + 1) n)) (file_name i) most)) e ∙ d

    go : (b : Bool) → (a == i) ≡ b → (a + 1 ≤ i → fetched (map agent_file (range_with_len (a + 1) n)) (file_name i) most ≡ Bytes (agent_source i))
        → fetched (map agent_file (range_with_len a (suc n))) (file_name i) most ≡ Bytes (agent_source i)
    go true e later =
        let same : a ≡ i = eqb-true a i e in
        there true (ap (λ x. bytes_eq (file_name x) (file_name i)) same ∙ own_file i) _ (short (agent_source a) (agent_few a (omega (arith, l))) ∙ ap (λ x. Bytes (agent_source x)) same)
    go false e later =
        let apart : a ≡ i → ⊥ = λ d. not_itself i (sym (ap (λ x. x == i) d) ∙ e) in
        let less : a + 1 ≤ i = next_one a i g apart in
        there false (other_file a i (omega (arith, l)) (omega (arith, l, h)) apart) _ (later less)

pub agent_held : (k i : ℕ) → k ≤ 200 → 1 ≤ i → i ≤ k → Bytes (agent_source i) ≡ fetched (demo_files k) (agent_name i ++ codes ".asl") most
agent_held k i l g h = sym (agent_found 1 k i (omega (arith, l)) g (omega (arith, h)))
