-- A sweep, one item after another.
use Rattle.std.proofs.Common.{◌≡◌, List, [], ◌∷◌, ◌++◌, sym, subst, ap, ◌∙◌, append_assoc}
use Rattle.std.proofs.lemmas.List.{append-nil}
use Rattle.asl_exec_circumstance.specs.declared.rows.Fall.{Fall}
use Rattle.asl_exec_circumstance.specs.Circumstance.{Circumstance}
use Rattle.asl_goals.specs.Goals.{Swept, swept, sweep}

-- one sweep after another
abbrev joined : {S : Type 0} → Swept S → Swept S → Swept S
joined a b = swept b.parts (a.left ++ b.left) (a.falls ++ b.falls)

module _ {S : Type 0} (one : Circumstance → S → Swept S) where
  one_more : (p : Circumstance) (done : List S) (x : S) → sweep one p (done ++ x ∷ []) ≡ joined (sweep one p done) (one (sweep one p done).parts x)
  one_more p [] x = let a = one p x in λ i. swept a.parts (append-nil a.left i) (append-nil a.falls i)
  one_more p (y ∷ done) x =
      let a = one p y in
      let c = sweep one a.parts done in
      let d = one c.parts x in
      ap (λ (b : Swept S). swept b.parts (a.left ++ b.left) (a.falls ++ b.falls)) (one_more a.parts done x)
      ∙ (λ i. swept d.parts (sym (append_assoc a.left c.left d.left) i) (sym (append_assoc a.falls c.falls d.falls) i))

  -- what those that are done left, after some falls
  pub record Sofar (p : Circumstance) (before : List Fall) (done : List S) (q : Circumstance) (kept : List S) (falls : List Fall) : Type 0 where
    pub parts : q ≡ (sweep one p done).parts
    pub left : kept ≡ (sweep one p done).left
    pub fell : falls ≡ before ++ (sweep one p done).falls

  pub goes_on : (p : Circumstance) (before : List Fall) (done : List S) (x : S) (q r : Circumstance) (kept left : List S) (falls fell : List Fall)
      → Sofar p before done q kept falls → r ≡ (one q x).parts → left ≡ kept ++ (one q x).left → fell ≡ falls ++ (one q x).falls
      → Sofar p before (done ++ x ∷ []) r left fell
  goes_on p before done x q r kept left falls fell s a b c =
      let e = one_more p done x in
      let t = sweep one p done in
      record {
        parts = a ∙ ap (λ (z : Circumstance). (one z x).parts) s.parts ∙ sym (ap (λ (z : Swept S). z.parts) e);
        left = b ∙ (λ i. s.left i ++ (one (s.parts i) x).left) ∙ sym (ap (λ (z : Swept S). z.left) e);
        fell = c ∙ (λ i. s.fell i ++ (one (s.parts i) x).falls) ∙ append_assoc before t.falls (one t.parts x).falls
            ∙ sym (ap (λ (z : Swept S). before ++ z.falls) e);
      }

  pub finished : (p : Circumstance) (before : List Fall) (done all : List S) (q : Circumstance) (kept : List S) (falls : List Fall) → Sofar p before done q kept falls
      → done ≡ all → Sofar p before all q kept falls
  finished p before done all q kept falls s e = subst (λ (d : List S). Sofar p before d q kept falls) e s

-- the same, where what the sweep depends on is known to be as it was
pub goes_on_as : {R S : Type 0} (one : R → Circumstance → S → Swept S) (old now : R) → now ≡ old → (p : Circumstance) (before : List Fall) (done : List S) (x : S)
    (q r : Circumstance) (kept left : List S) (falls fell : List Fall) → Sofar (one old) p before done q kept falls → r ≡ (one now q x).parts
    → left ≡ kept ++ (one now q x).left → fell ≡ falls ++ (one now q x).falls → Sofar (one old) p before (done ++ x ∷ []) r left fell
goes_on_as one old now same p before done x q r kept left falls fell s a b c =
    goes_on (one old) p before done x q r kept left falls fell s
    (a ∙ ap (λ y. (one y q x).parts) same) (b ∙ ap (λ y. kept ++ (one y q x).left) same) (c ∙ ap (λ y. falls ++ (one y q x).falls) same)
