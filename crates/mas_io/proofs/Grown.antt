use Rattle.std.proofs.Common.{ℕ, ◌≡◌, ◌+◌, ◌-◌, List, ◌++◌, length, take, drop, Option, Some, None, refl, ap, sym, ◌∙◌, append_assoc}
use Rattle.std.proofs.lemmas.List.{take_rest}
use Rattle.std.proofs.Math.Seq.{take-add}
use Rattle.mas_io.specs.Sink.{grown}

pub grown-more : (w : Option (List ℕ)) (a b : List ℕ) → grown (grown w a) b ≡ grown w (a ++ b)
grown-more None a b = refl
grown-more (Some w) a b = ap Some (append_assoc w a b)

-- one more put of the rest of the text, as a slice `&text[at..]` is
pub grown-step : (old mid new : Option (List ℕ)) (text : List ℕ) (at n : ℕ) →
    mid ≡ grown old (take at text) → new ≡ grown mid (take n (take (length text - at) (drop at text))) → new ≡ grown old (take (at + n) text)
grown-step old mid new text at n e f =
    f ∙ ap (λ p. grown mid (take n p)) (take_rest text at) ∙ ap (λ w. grown w (take n (drop at text))) e
    ∙ grown-more old (take at text) (take n (drop at text)) ∙ ap (grown old) (sym (take-add at n text))
