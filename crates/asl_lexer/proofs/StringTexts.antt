-- The tokens of quoted texts.
use Rattle.std.proofs.Common.{◌≡◌, ℕ, suc, ◌+◌, Bool, true, false, cond, List, [], ◌∷◌, ◌++◌, length, Some, None, refl, sym, ap, subst, ◌∙◌, append_assoc}
use Rattle.std.proofs.Common.{length-append, arith}
use Rattle.std.specs.Prelude.{◌==◌}
use Rattle.std.specs.List.{list_all, flat_map}
use Rattle.std.specs.Option.{option_map}
use Rattle.std.proofs.lemmas.Bool.{eqb-true}
use Rattle.std.proofs.lemmas.Bool.Decides.{nat_tests}
use Rattle.asl_term.specs.Texts.{escape, quoted}
use Rattle.asl_lexer.specs.declared.token.TokKind.TheVariants as kind
use Rattle.asl_lexer.specs.Spelling.{is_plain, is_escaped}
use Rattle.asl_lexer.specs.Scan.{token_at, close_len, bad_from, content, meant, string_len, string_at}
use Rattle.asl_lexer.specs.Seams.{Gives, Any, StringsGive}
use Rattle.asl_lexer.specs.Bare.{is_written_byte}
use Rattle.asl_lexer.proofs.Bytes.{both, no_blank}
use Rattle.asl_lexer.proofs.Seams.{one_token, bare_of}

-- how a byte stands in a string: as it is, or behind a backslash
data Stands (b : ℕ) : List ℕ → Type 0 where
  as_it_is : (b == 10) ≡ false → (b == 34) ≡ false → (b == 92) ≡ false → is_plain b ≡ true → Stands b (b ∷ [])
  escaped : (e : ℕ) → (e == 10) ≡ false → is_escaped e ≡ true → meant e ≡ b → Stands b (92 ∷ e ∷ [])

plain_byte : (b : ℕ) → is_written_byte b ≡ true → (b == 34) ≡ false → (b == 92) ≡ false → (b == 10) ≡ false → (b == 9) ≡ false → is_plain b ≡ true
plain_byte b w q s n t = grind (arith, nat_tests)

stands : (b : ℕ) → is_written_byte b ≡ true → Stands b (escape b)
stands b w = go (b == 34) refl (b == 92) refl (b == 10) refl (b == 9) refl
  where
    go : (q : Bool) → (b == 34) ≡ q → (s : Bool) → (b == 92) ≡ s → (n : Bool) → (b == 10) ≡ n → (t : Bool) → (b == 9) ≡ t
        → Stands b (cond q (92 ∷ 34 ∷ []) (cond s (92 ∷ 92 ∷ []) (cond n (92 ∷ 110 ∷ []) (cond t (92 ∷ 116 ∷ []) (b ∷ [])))))
    go true q s f n g t h = escaped 34 refl refl (sym (eqb-true b 34 q))
    go false q true f n g t h = escaped 92 refl refl (sym (eqb-true b 92 f))
    go false q false f true g t h = escaped 110 refl refl (sym (eqb-true b 10 g))
    go false q false f false g true h = escaped 116 refl refl (sym (eqb-true b 9 h))
    go false q false f false g false h = as_it_is g q f (plain_byte b w q f g h)

-- ---- one byte more in front

close_more : (b : ℕ) (x t : List ℕ) (n : ℕ) → Stands b x → close_len false t ≡ Some n → close_len false (x ++ t) ≡ Some (length x + n)
close_more b x t n (as_it_is f q s p) h = rw (f, q, s) (ap (option_map suc) h ∙ ap Some (omega arith))
close_more b x t n (escaped e f d m) h = rw f (ap (λ o. option_map suc (option_map suc o)) h ∙ ap Some (omega arith))

bad_more : (b : ℕ) (x t : List ℕ) → Stands b x → ((i : ℕ) → bad_from i false t ≡ None) → (i : ℕ) → bad_from i false (x ++ t) ≡ None
bad_more b x t (as_it_is f q s p) h i =
    ap (λ (y : Bool). cond y None (cond (b == 92) (bad_from i true t) (cond (is_plain b) (bad_from (i + 1) false t) (Some i)))) q
    ∙ ap (λ (y : Bool). cond y (bad_from i true t) (cond (is_plain b) (bad_from (i + 1) false t) (Some i))) s
    ∙ ap (λ (y : Bool). cond y (bad_from (i + 1) false t) (Some i)) p
    ∙ h (i + 1)
bad_more b x t (escaped e f d m) h i = rw d (h (i + 2))

content_more : (b : ℕ) (x t us : List ℕ) → Stands b x → content false t ≡ us → content false (x ++ t) ≡ b ∷ us
content_more b x t us (as_it_is f q s p) h = rw (q, s) (ap (λ l. b ∷ l) h)
content_more b x t us (escaped e f d m) h = ap (λ c. c ∷ content false t) m ∙ ap (λ l. b ∷ l) h

-- ---- all bytes, before the closing quote

closed : (s rest : List ℕ) → list_all is_written_byte s ≡ true → close_len false (flat_map escape s ++ 34 ∷ rest) ≡ Some (length (flat_map escape s) + 1)
closed [] rest a = refl
closed (b ∷ s) rest a =
    let h = both (is_written_byte b) (list_all is_written_byte s) a in
    ap (close_len false) (append_assoc (escape b) (flat_map escape s) (34 ∷ rest))
    ∙ close_more b (escape b) (flat_map escape s ++ 34 ∷ rest) (length (flat_map escape s) + 1) (stands b h.0) (closed s rest h.1)
    ∙ ap Some (omega (arith, length-append (escape b) (flat_map escape s)))

no_bad : (s rest : List ℕ) → list_all is_written_byte s ≡ true → (i : ℕ) → bad_from i false (flat_map escape s ++ 34 ∷ rest) ≡ None
no_bad [] rest a i = refl
no_bad (b ∷ s) rest a i =
    let h = both (is_written_byte b) (list_all is_written_byte s) a in
    ap (bad_from i false) (append_assoc (escape b) (flat_map escape s) (34 ∷ rest))
    ∙ bad_more b (escape b) (flat_map escape s ++ 34 ∷ rest) (stands b h.0) (no_bad s rest h.1) i

is_content : (s : List ℕ) → list_all is_written_byte s ≡ true → content false (flat_map escape s ++ 34 ∷ []) ≡ s
is_content [] a = refl
is_content (b ∷ s) a =
    let h = both (is_written_byte b) (list_all is_written_byte s) a in
    ap (content false) (append_assoc (escape b) (flat_map escape s) (34 ∷ []))
    ∙ content_more b (escape b) (flat_map escape s ++ 34 ∷ []) s (stands b h.0) (is_content s h.1)

-- ---- the token

string_found : (s rest : List ℕ) → list_all is_written_byte s ≡ true → string_len (flat_map escape s ++ 34 ∷ rest) ≡ Some (length (flat_map escape s) + 1)
string_found s rest a = rw (closed s rest a, no_bad s rest a 1) refl

quoted_at : (s rest : List ℕ) → list_all is_written_byte s ≡ true → token_at (quoted s ++ rest) ≡ Some (kind.Str, length (quoted s))
unfolding token_at
quoted_at s rest a =
    ap (λ t. string_at (string_len t)) (append_assoc (flat_map escape s) (34 ∷ []) rest)
    ∙ ap string_at (string_found s rest a)
    ∙ ap (λ (n : ℕ). Some (kind.Str, n)) (omega (arith, length-append (flat_map escape s) (34 ∷ [])))

pub strings_give : StringsGive
strings_give s a =
    let spelled : Gives Any (quoted s) (bare_of kind.Str (quoted s) ∷ []) =
    one_token Any kind.Str (quoted s) (λ rest q. no_blank 34 _ refl refl) (λ rest q. quoted_at s rest a) refl in
    subst (λ (t : List ℕ). Gives Any (quoted s) (record { kind = kind.Str; text = t } ∷ [])) (is_content s a) spelled
