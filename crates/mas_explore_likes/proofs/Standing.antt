-- Minds that stand for others, as more of them are met.
use Rattle.std.proofs.Common.{ℕ, ◌≡◌, ◌+◌, ◌<◌, ◌≤◌, ◌⊎◌, inl, inr, arith, true, List, [], length, slice_get, Some, refl, sym, ◌∙◌, ap, subst}
use Rattle.std.proofs.lemmas.Option.{none-some, same_Some, slice_get_within}
use Rattle.mas_mind.specs.Minds.{Kind}
use Rattle.mas_free.specs.declared.view.View.{View}
use Rattle.mas_free.specs.Lines.{are_lines, viewed}
use Rattle.mas_free.proofs.Likes.{alike_same}
use Rattle.mas_explore_tables.specs.Tables.{Answers, Recalls, HasNoted}
use Rattle.mas_explore_tables.proofs.Entering.{IsNew, get-split}
use Rattle.mas_explore_minds.specs.declared.minds.Minds.{Minds}
use Rattle.mas_explore_minds.specs.Minds.{minds_in, Fits, Grows}
use Rattle.mas_explore_minds.proofs.Fitting.{number_of}
use Rattle.mas_explore_likes.specs.declared.likes.Likes.{Likes}
use Rattle.mas_explore_likes.specs.declared.likes.Liking.{Liking}
use Rattle.mas_explore_likes.specs.declared.likes.MetMind.{MetMind}
use Rattle.mas_explore_likes.specs.declared.likes.Settled.{Settled}
use Rattle.mas_explore_likes.specs.Likes.{ShowAlike, GoAlike, AreAlike, HasMade, StandsFor, IsMet, AreMet, IsMetLike, HasKept}

-- ---- two minds

pub shows_alike : (v : View) (text other : List ℕ) → are_lines text ≡ true → are_lines other ≡ true → viewed v text ≡ viewed v other → ShowAlike v text other
shows_alike v text other h j e = record { whole = h; other_whole = j; same = e }

pub both_alike : {V : Type 0} (k : Kind V) (v : View) (m n : V) → ShowAlike v (k.lines m) (k.lines n) → GoAlike k m n → AreAlike k v m n
both_alike k v m n s g = record { one = g.one; alike = g.alike v s }

same_self : {V : Type 0} (k : Kind V) (v : View) (m : V) → AreAlike k v m m
same_self k v m = record { one = record { me = refl; agents = refl; awaits = refl }; alike = alike_same k v m }

pub met_like : {V : Type 0} (k : Kind V) (v : View) (met : List (MetMind V)) (m : V) (place : ℕ) (one : MetMind V) (r : Settled) → slice_get met place ≡ Some one →
    r ≡ record { mind = one.number; most = one.most } → AreAlike k v m one.mind → IsMetLike k v met m r
met_like k v met m place one r at e h = record {
  place = place;
  one = one;
  at = at;
  number = ap (λ (x : Settled). x.mind) e;
  most = ap (λ (x : Settled). x.most) e;
  alike = h;
}

-- ---- minds that are met

module _ {V : Type 0} (k : Kind V) (first : List V) where
  stands_on : (s t : Minds) (c : Liking) (r : Settled) → Grows k first s t → StandsFor k first s c r → StandsFor k first t c r
  stands_on s t c r g h = record {
    mind = h.mind;
    at = g.minds c.mind h.mind h.at;
    other = h.other;
    other_at = g.minds r.mind h.other h.other_at;
    made = h.made;
    alike = h.alike;
  }

  -- they stay so as more minds come
  pub met_on : (s t : Minds) (l : Likes V) → Grows k first s t → AreMet k first s l → AreMet k first t l
  met_on s t l g h = record {
    met = λ place e q. (let m = h.met place e q in record { at = g.minds e.number e.mind m.at; made = m.made });
    settled = λ c r q. stands_on s t c r g (h.settled c r q);
  }

  pub met_none : (t : Minds) (l : Likes V) → l.met ≡ [] → l.settled ≡ record { keys = []; values = [] } → AreMet k first t l
  met_none t l e f = record {
    met = λ place x q. (let P = λ (xs : List (MetMind V)). slice_get xs place ≡ Some x in absurd (none-some x (subst P e q)));
    settled = λ c r q. (let P = λ (a : Answers Liking Settled). Recalls a c r in absurd (none-some c (subst P f q).key_at));
  }

  pub made_within : (t : Minds) (n most : ℕ) → Fits k first t → HasMade k first t n most → n < length first + length t.links
  made_within t n most f h = (let l = slice_get_within (minds_in k first t) n h.mind h.at in let q = number_of k first t f in omega arith)

  -- ---- a mind that stands for one

  pub stands_self : (t : Minds) (c : Liking) (most : ℕ) → HasMade k first t c.mind most → StandsFor k first t c (record { mind = c.mind; most = most })
  stands_self t c most h = record { mind = h.mind; at = h.at; other = h.mind; other_at = h.at; made = h.made; alike = same_self k c.view h.mind }

  pub stands_within : (t : Minds) (c : Liking) (r : Settled) (most : ℕ) → StandsFor k first t c r → r.most ≤ most →
      StandsFor k first t c (record { mind = r.mind; most = most })
  stands_within t c r most h l =
      let m : k.made h.other ≤ r.most = h.made in
      record { mind = h.mind; at = h.at; other = h.other; other_at = h.other_at; made = omega (arith, m, l); alike = h.alike }

  -- ---- one more

  module _ (t : Minds) (l l' : Likes V) (m : V) (own : Settled) (h : AreMet k first t l) (made : HasMade k first t own.mind own.most) (at : slice_get (minds_in k first t) own.mind ≡ Some m)
      (kept : HasKept l.met l'.met m own) where
    here : IsMet k first t kept.one
    here =
        let same : made.mind ≡ kept.one.mind = same_Some made.mind m (sym made.at ∙ at) ∙ sym kept.mind in
        let A = λ (n : ℕ). slice_get (minds_in k first t) n ≡ Some kept.one.mind in
        let B = λ (n : ℕ). k.made kept.one.mind ≤ n in
        let C = λ (z : V). k.made z ≤ own.most in
        record { at = subst A (sym kept.number) (made.at ∙ ap Some same); made = subst B (sym kept.most) (subst C same made.made) }

    by : (place : ℕ) (e : MetMind V) → (slice_get l.met place ≡ Some e) ⊎ IsNew l.met kept.one e place → IsMet k first t e
    by place e (inl q) = h.met place e q
    by place e (inr q) = (let P = λ (x : MetMind V). IsMet k first t x in subst P (sym q.value) here)

    pub met_more : l'.settled ≡ l.settled → AreMet k first t l'
    met_more same = record {
      met = λ place e q. (let P = λ (xs : List (MetMind V)). slice_get xs place ≡ Some e in by place e (get-split l.met kept.one e place (subst P kept.new_is q)));
      settled = λ c r q. (let P = λ (a : Answers Liking Settled). Recalls a c r in h.settled c r (subst P same q));
    }

  -- an answer that is remembered
  pub met_noted : (t : Minds) (l l' : Likes V) (c : Liking) (r : Settled) → AreMet k first t l → StandsFor k first t c r → l'.met ≡ l.met →
      HasNoted l.settled l'.settled c r → AreMet k first t l'
  met_noted t l l' c r h x same noted = record {
    met = λ place e q. (let P = λ (xs : List (MetMind V)). slice_get xs place ≡ Some e in h.met place e (subst P same q));
    settled = λ d z q. by d z (noted d z q);
  }
    where
      by : (d : Liking) (z : Settled) → Recalls l.settled d z ⊎ ((d ≡ c) × (z ≡ r)) → StandsFor k first t d z
      by d z (inl q) = h.settled d z q
      by d z (inr q) =
          let P = λ (y : Liking). StandsFor k first t y z in
          let Q = λ (y : Settled). StandsFor k first t c y in
          subst P (sym q.0) (subst Q (sym q.1) x)
