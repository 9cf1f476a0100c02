-- The token that is found is the longest.
use Rattle.std.proofs.Common.{◌≡◌, ℕ, zero, suc, ◌+◌, ◌<◌, ◌≤◌, Bool, true, false, cond, List, [], ◌∷◌, length, take, Option, Some, None, refl, sym, ap, subst, ◌∙◌, add-one, arith}
use Rattle.std.specs.Prelude.{◌&&◌, ◌==◌}
use Rattle.std.specs.List.{list_all, prefix_len}
use Rattle.std.specs.Option.{is_some, option_map_or}
use Rattle.std.proofs.lemmas.Bool.Decides.{nat_tests}
use Rattle.std.proofs.lemmas.List.Sums.{prefix_len-le-length}
use Rattle.asl_lexer.specs.declared.token.TokKind.{TokKind}
use Rattle.asl_lexer.specs.declared.token.TokKind.TheVariants.{Atom, Var, Inner, Number, Str, Sign, End}
use Rattle.asl_lexer.specs.Spelling.{is_lower, is_upper, is_digit, is_word, is_sign, given, after_dot, ends_string, kind_of, IsLongest, NoToken}
use Rattle.asl_lexer.specs.Scan.{token_at, starts_word, sign_len, sign_at, close_len, bad_from, string_len, string_at}
use Rattle.asl_lexer.proofs.Table.{not_sign}
use Rattle.asl_lexer.proofs.Endings.{EndsAt, never_closed, bad_ends, string_ends}

-- what was found at the front
abbrev pub Found : List ℕ → Option (TokKind × ℕ) → Type 0
Found bytes (Some x) = IsLongest bytes x.0 x.1
Found bytes None = NoToken bytes

front_passes : (p : ℕ → Bool) (xs : List ℕ) → list_all p (take (prefix_len p xs) xs) ≡ true
front_passes p [] = refl
front_passes p (x ∷ xs) = go (p x) refl (front_passes p xs)
  where
    go : (b : Bool) → p x ≡ b → list_all p (take (prefix_len p xs) xs) ≡ true → list_all p (take (cond b (1 + prefix_len p xs) 0) (x ∷ xs)) ≡ true
    go true e h = let one : 1 + prefix_len p xs ≡ suc (prefix_len p xs) = omega arith in ap (λ (n : ℕ). list_all p (take n (x ∷ xs))) one ∙ ap (λ (b : Bool). b && list_all p (take (prefix_len p xs) xs)) e ∙ h
    go false e h = refl

front_fails : (p : ℕ → Bool) (xs : List ℕ) (m : ℕ) → prefix_len p xs < m → m ≤ length xs → list_all p (take m xs) ≡ false
front_fails p [] m lt le = absurd (omega arith)
front_fails p (x ∷ xs) zero lt le = absurd (omega arith)
front_fails p (x ∷ xs) (suc m) lt le = go (p x) refl lt (λ lt. front_fails p xs m lt (omega arith))
  where
    go : (b : Bool) → p x ≡ b → cond b (1 + prefix_len p xs) 0 < suc m → (prefix_len p xs < m → list_all p (take m xs) ≡ false) → (p x && list_all p (take m xs)) ≡ false
    go true e lt h = ap (λ (b : Bool). b && list_all p (take m xs)) e ∙ h (omega arith)
    go false e lt h = ap (λ (b : Bool). b && list_all p (take m xs)) e

word_found : (p : ℕ → Bool) (kind : TokKind) (b : ℕ) (text : List ℕ) → ((t : List ℕ) → kind_of (b ∷ t) ≡ given (list_all p t) kind) → IsLongest (b ∷ text) kind (prefix_len p text + 1)
word_found p kind b text same = record {
  within = omega (arith, prefix_len-le-length p text);
  some = omega arith;
  spelled = rw add-one (same (take (prefix_len p text) text) ∙ ap (λ (x : Bool). given x kind) (front_passes p text));
  longest = λ m lt le. go m lt le;
}
  where
    go : (m : ℕ) → prefix_len p text + 1 < m → m ≤ length (b ∷ text) → kind_of (take m (b ∷ text)) ≡ None
    go zero lt le = absurd (omega arith)
    go (suc m) lt le = same (take m text) ∙ ap (λ (x : Bool). given x kind) (front_fails p text m (omega arith) (omega arith))

-- ---- signs

record SignFound (bytes : List ℕ) (n : ℕ) : Type 0 where
  within : n ≤ length bytes
  spelled : 0 < n → is_sign (take n bytes) ≡ true
  longest : (m : ℕ) → n < m → m ≤ length bytes → is_sign (take m bytes) ≡ false

long_sign : (a b c : ℕ) (rest : List ℕ) (m : ℕ) → suc m ≤ length rest → is_sign (a ∷ b ∷ c ∷ take (suc m) rest) ≡ false
long_sign a b c [] m le = absurd (omega arith)
long_sign a b c (d ∷ rest) m le = not_sign (a ∷ b ∷ c ∷ d ∷ take m rest) refl

sign_found : (bytes : List ℕ) → SignFound bytes (sign_len bytes)
sign_found [] = record { within = omega arith; spelled = λ lt. absurd (omega arith); longest = λ m lt le. absurd (omega arith) }
sign_found (a ∷ []) = go (is_sign (a ∷ [])) refl
  where
    go : (one : Bool) → is_sign (a ∷ []) ≡ one → SignFound (a ∷ []) (cond one 1 0)
    go true e = record { within = omega arith; spelled = λ lt. e; longest = λ m lt le. absurd (omega arith) }
    go false e = record { within = omega arith; spelled = λ lt. absurd (omega arith); longest = λ m lt le. only m lt le }
      where
        only : (m : ℕ) → 0 < m → m ≤ 1 → is_sign (take m (a ∷ [])) ≡ false
        only zero lt le = absurd (omega arith)
        only (suc zero) lt le = e
        only (suc (suc m)) lt le = absurd (omega arith)
sign_found (a ∷ b ∷ []) = go (is_sign (a ∷ b ∷ [])) refl (is_sign (a ∷ [])) refl
  where
    go : (two : Bool) → is_sign (a ∷ b ∷ []) ≡ two → (one : Bool) → is_sign (a ∷ []) ≡ one → SignFound (a ∷ b ∷ []) (cond two 2 (cond one 1 0))
    go true f one e = record { within = omega arith; spelled = λ lt. f; longest = λ m lt le. absurd (omega arith) }
    go false f true e = record { within = omega arith; spelled = λ lt. e; longest = λ m lt le. only m lt le }
      where
        only : (m : ℕ) → 1 < m → m ≤ 2 → is_sign (take m (a ∷ b ∷ [])) ≡ false
        only zero lt le = absurd (omega arith)
        only (suc zero) lt le = absurd (omega arith)
        only (suc (suc zero)) lt le = f
        only (suc (suc (suc m))) lt le = absurd (omega arith)
    go false f false e = record { within = omega arith; spelled = λ lt. absurd (omega arith); longest = λ m lt le. only m lt le }
      where
        only : (m : ℕ) → 0 < m → m ≤ 2 → is_sign (take m (a ∷ b ∷ [])) ≡ false
        only zero lt le = absurd (omega arith)
        only (suc zero) lt le = e
        only (suc (suc zero)) lt le = f
        only (suc (suc (suc m))) lt le = absurd (omega arith)
sign_found (a ∷ b ∷ c ∷ rest) = go (is_sign (a ∷ b ∷ c ∷ [])) refl (is_sign (a ∷ b ∷ [])) refl (is_sign (a ∷ [])) refl
  where
    only : (n : ℕ) → (n < 1 → is_sign (a ∷ []) ≡ false) → (n < 2 → is_sign (a ∷ b ∷ []) ≡ false) → (n < 3 → is_sign (a ∷ b ∷ c ∷ []) ≡ false) → (m : ℕ) → n < m → m ≤ length (a ∷ b ∷ c ∷ rest) → is_sign (take m (a ∷ b ∷ c ∷ rest)) ≡ false
    only n e f g zero lt le = absurd (omega arith)
    only n e f g (suc zero) lt le = e lt
    only n e f g (suc (suc zero)) lt le = f lt
    only n e f g (suc (suc (suc zero))) lt le = g lt
    only n e f g (suc (suc (suc (suc m)))) lt le = long_sign a b c rest m (omega arith)

    go : (three : Bool) → is_sign (a ∷ b ∷ c ∷ []) ≡ three → (two : Bool) → is_sign (a ∷ b ∷ []) ≡ two → (one : Bool) → is_sign (a ∷ []) ≡ one → SignFound (a ∷ b ∷ c ∷ rest) (cond three 3 (cond two 2 (cond one 1 0)))
    go true g two f one e = record { within = omega arith; spelled = λ lt. g; longest = only 3 (λ lt. absurd (omega arith)) (λ lt. absurd (omega arith)) (λ lt. absurd (omega arith)) }
    go false g true f one e = record { within = omega arith; spelled = λ lt. f; longest = only 2 (λ lt. absurd (omega arith)) (λ lt. absurd (omega arith)) (λ lt. g) }
    go false g false f true e = record { within = omega arith; spelled = λ lt. e; longest = only 1 (λ lt. absurd (omega arith)) (λ lt. f) (λ lt. g) }
    go false g false f false e = record { within = omega arith; spelled = λ lt. absurd (omega arith); longest = only 0 (λ lt. e) (λ lt. f) (λ lt. g) }

sign_at-suc : (n : ℕ) → sign_at (suc n) ≡ Some (Sign, suc n)
sign_at-suc n = grind (arith, nat_tests)

signs_only : (b : ℕ) (text : List ℕ) → ((t : List ℕ) → kind_of (b ∷ t) ≡ given (is_sign (b ∷ t)) Sign) → (n : ℕ) → SignFound (b ∷ text) n → Found (b ∷ text) (sign_at n)
signs_only b text same zero h = λ m le. go m le
  where
    go : (m : ℕ) → m ≤ length (b ∷ text) → kind_of (take m (b ∷ text)) ≡ None
    go zero le = refl
    go (suc m) le = same (take m text) ∙ ap (λ (x : Bool). given x Sign) (h.longest (suc m) (omega arith) le)
signs_only b text same (suc n) h = subst (Found (b ∷ text)) (sym (sign_at-suc n)) (record {
  within = h.within;
  some = omega arith;
  spelled = same (take n text) ∙ ap (λ (x : Bool). given x Sign) (h.spelled (omega arith));
  longest = λ m lt le. go m lt le;
})
  where
    go : (m : ℕ) → suc n < m → m ≤ length (b ∷ text) → kind_of (take m (b ∷ text)) ≡ None
    go zero lt le = absurd (omega arith)
    go (suc m) lt le = same (take m text) ∙ ap (λ (x : Bool). given x Sign) (h.longest (suc m) lt le)

-- ---- a dot

lower_word : (a : ℕ) → is_lower a ≡ true → is_word a ≡ true
lower_word a e = rw e refl

dot_found : (b : ℕ) (text : List ℕ) → ((t : List ℕ) → kind_of (b ∷ t) ≡ after_dot t) → Found (b ∷ text) (cond (starts_word text) (Some (Inner, prefix_len is_word text + 1)) (Some (End, 1)))
dot_found b [] same = record { within = omega arith; some = omega arith; spelled = same []; longest = λ m lt le. absurd (omega arith) }
dot_found b (a ∷ text) same = go (is_lower a) refl
  where
    n : ℕ
    n = prefix_len is_word text

    inner : is_lower a ≡ true → (m : ℕ) → suc (suc n) < m → m ≤ length (b ∷ a ∷ text) → kind_of (take m (b ∷ a ∷ text)) ≡ None
    inner e zero lt le = absurd (omega arith)
    inner e (suc zero) lt le = absurd (omega arith)
    inner e (suc (suc m)) lt le = same (a ∷ take m text) ∙ ap (λ (x : Bool). given (x && list_all is_word (take m text)) Inner) e ∙ ap (λ (x : Bool). given x Inner) (front_fails is_word text m (omega arith) (omega arith))

    end : is_lower a ≡ false → (m : ℕ) → 1 < m → m ≤ length (b ∷ a ∷ text) → kind_of (take m (b ∷ a ∷ text)) ≡ None
    end e zero lt le = absurd (omega arith)
    end e (suc zero) lt le = absurd (omega arith)
    end e (suc (suc m)) lt le = same (a ∷ take m text) ∙ ap (λ (x : Bool). given (x && list_all is_word (take m text)) Inner) e

    whole : is_lower a ≡ true → IsLongest (b ∷ a ∷ text) Inner (suc (suc n))
    whole e = record {
      within = omega (arith, prefix_len-le-length is_word text);
      some = omega arith;
      spelled = same (a ∷ take n text) ∙ ap (λ (x : Bool). given (x && list_all is_word (take n text)) Inner) e ∙ ap (λ (x : Bool). given x Inner) (front_passes is_word text);
      longest = λ m lt le. inner e m lt le;
    }

    go : (l : Bool) → is_lower a ≡ l → Found (b ∷ a ∷ text) (cond l (Some (Inner, prefix_len is_word (a ∷ text) + 1)) (Some (End, 1)))
    go true e =
        let passed : cond (is_word a) (1 + n) 0 ≡ 1 + n = ap (λ (x : Bool). cond x (1 + n) 0) (lower_word a e) in
        let len : suc (suc n) ≡ prefix_len is_word (a ∷ text) + 1 = omega (arith, passed) in
        subst (λ (k : ℕ). IsLongest (b ∷ a ∷ text) Inner k) len (whole e)
    go false e = record { within = omega arith; some = omega arith; spelled = same []; longest = λ m lt le. end e m lt le }

-- ---- a string

no_string : (b : ℕ) (text : List ℕ) → ((t : List ℕ) → kind_of (b ∷ t) ≡ given (ends_string false t) Str) → ((m : ℕ) → ends_string false (take m text) ≡ false) → NoToken (b ∷ text)
no_string b text same none = λ m le. go m
  where
    go : (m : ℕ) → kind_of (take m (b ∷ text)) ≡ None
    go zero = refl
    go (suc m) = same (take m text) ∙ ap (λ (x : Bool). given x Str) (none m)

is_string : (b : ℕ) (text : List ℕ) (n : ℕ) → ((t : List ℕ) → kind_of (b ∷ t) ≡ given (ends_string false t) Str) → EndsAt false text n → IsLongest (b ∷ text) Str (n + 1)
is_string b text n same h = record {
  within = omega (arith, h.within);
  some = omega arith;
  spelled = rw add-one (same (take n text) ∙ ap (λ (x : Bool). given x Str) h.spelled);
  longest = λ m lt le. go m lt le;
}
  where
    go : (m : ℕ) → n + 1 < m → m ≤ length (b ∷ text) → kind_of (take m (b ∷ text)) ≡ None
    go zero lt le = absurd (omega arith)
    go (suc m) lt le = same (take m text) ∙ ap (λ (x : Bool). given x Str) (h.longest m (omega arith) (omega arith))

string_found : (b : ℕ) (text : List ℕ) → ((t : List ℕ) → kind_of (b ∷ t) ≡ given (ends_string false t) Str) → Found (b ∷ text) (string_at (string_len text))
string_found b text same = go (close_len false text) refl (bad_from 1 false text) refl
  where
    go : (o : Option ℕ) → close_len false text ≡ o → (p : Option ℕ) → bad_from 1 false text ≡ p → Found (b ∷ text) (string_at (option_map_or (λ n. cond (is_some p) None (Some n)) o None))
    go None e p f = no_string b text same (never_closed text false e)
    go (Some n) e (Some k) f = no_string b text same (bad_ends text 1 false k f)
    go (Some n) e None f = is_string b text n same (string_ends text 1 false n e f)

-- ---- all kinds

pub token_found : (bytes : List ℕ) → Found bytes (token_at bytes)
unfolding token_at
token_found [] = λ m le. go m
  where
    go : (m : ℕ) → kind_of (take m []) ≡ None
    go zero = refl
    go (suc m) = refl
token_found (b ∷ text) = go (is_lower b) refl (is_upper b) refl (is_digit b) refl (b == 46) refl (b == 34) refl
  where
    go : (l : Bool) → is_lower b ≡ l → (u : Bool) → is_upper b ≡ u → (d : Bool) → is_digit b ≡ d → (o : Bool) → (b == 46) ≡ o → (q : Bool) → (b == 34) ≡ q → Found (b ∷ text) (cond l (Some (Atom, prefix_len is_word text + 1)) (cond u (Some (Var, prefix_len is_word text + 1)) (cond d (Some (Number, prefix_len is_digit text + 1)) (cond o (cond (starts_word text) (Some (Inner, prefix_len is_word text + 1)) (Some (End, 1))) (cond q (string_at (string_len text)) (sign_at (sign_len (b ∷ text))))))))
    go true e1 u e2 d e3 o e4 q e5 = word_found is_word Atom b text (λ t. rw e1 refl)
    go false e1 true e2 d e3 o e4 q e5 = word_found is_word Var b text (λ t. rw (e1, e2) refl)
    go false e1 false e2 true e3 o e4 q e5 = word_found is_digit Number b text (λ t. rw (e1, e2, e3) refl)
    go false e1 false e2 false e3 true e4 q e5 = dot_found b text (λ t. rw (e1, e2, e3, e4) refl)
    go false e1 false e2 false e3 false e4 true e5 = string_found b text (λ t. rw (e1, e2, e3, e4, e5) refl)
    go false e1 false e2 false e3 false e4 false e5 = signs_only b text (λ t. rw (e1, e2, e3, e4, e5) refl) (sign_len (b ∷ text)) (sign_found (b ∷ text))
