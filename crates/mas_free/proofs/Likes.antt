-- Minds that are alike, and plain minds.
use Rattle.std.proofs.Common.{◌∷◌, refl, sym, ◌∙◌, subst}
use Rattle.std.proofs.lemmas.Option.{same_Some}
use Rattle.mas_mind.specs.declared.mind.Input.{Input}
use Rattle.mas_mind.specs.declared.mind.Feedback.{Feedback}
use Rattle.mas_mind.specs.Minds.{Kind}
use Rattle.mas_free.specs.declared.view.View.{View}
use Rattle.mas_free.specs.Alike.{Given, Told, Alike, IsPlain}
use Rattle.mas_free.specs.Free.{Free}
use Rattle.mas_free.specs.Covers.{IsLike}

pub alike_same : {V : Type 0} (k : Kind V) (v : View) (m : V) → Alike k v m m
alike_same k v m = record { thinks = λ events i. refl; shows = λ events. refl }

pub alike_then : {V : Type 0} (k : Kind V) (v : View) (m n o : V) → Alike k v m n → Alike k v n o → Alike k v m o
alike_then k v m n o h j = record { thinks = λ events i. h.thinks events i ∙ j.thinks events i; shows = λ events. h.shows events ∙ j.shows events }

pub alike_cycle : {V : Type 0} (k : Kind V) (v : View) (m n : V) (i : Input) → Alike k v m n → Alike k v (k.cycle m i).mind (k.cycle n i).mind
alike_cycle k v m n i h = record { thinks = λ events j. h.thinks (Given i ∷ events) j; shows = λ events. h.shows (Given i ∷ events) }

pub alike_took : {V : Type 0} (k : Kind V) (v : View) (m n : V) (f : Feedback) → Alike k v m n → Alike k v (k.took m f) (k.took n f)
alike_took k v m n f h = record { thinks = λ events j. h.thinks (Told f ∷ events) j; shows = λ events. h.shows (Told f ∷ events) }

pub plain_cycle : {V : Type 0} (k : Kind V) (m : V) (i : Input) → IsPlain k m → IsPlain k (k.cycle m i).mind
plain_cycle k m i h = record { whole = λ events. h.whole (Given i ∷ events); silent = λ events. h.silent (Given i ∷ events) }

pub plain_took : {V : Type 0} (k : Kind V) (m : V) (f : Feedback) → IsPlain k m → IsPlain k (k.took m f)
plain_took k m f h = record { whole = λ events. h.whole (Told f ∷ events); silent = λ events. h.silent (Told f ∷ events) }

-- a state is like itself
pub like_same : {V : Type 0} (k : Kind V) (v : View) (f : Free V) → IsLike k v f f
like_same {V} k v f = record {
  names = refl;
  world = refl;
  boxes = refl;
  stop = refl;
  stages = refl;
  number = refl;
  minds = λ place m n d e. (let P = λ (x : V). Alike k v m x in subst P (same_Some m n (sym d ∙ e)) (alike_same k v m));
}
