-- Mail is taken in the order in which it was sent.
use Rattle.std.proofs.Common.{ℕ, ◌≡◌, ◌-◌, ◌<◌, ◌≤◌, arith, Bool, true, false, nat_eq, ◌&&◌, if◌then◌else◌, List, [], ◌∷◌, ◌++◌, length, slice_get, slice_set, Option, None, Some, refl, ap, sym, ◌∙◌, append_assoc}
use Rattle.std.proofs.lemmas.Bool.{ne_eqb, eqb-true, eqb-false}
use Rattle.std.proofs.lemmas.Option.{same_Some, none-some}
use Rattle.std.proofs.lemmas.List.{length-set, length-replicate, append-nil}
use Rattle.std.proofs.lemmas.List.Elements.{filter-append}
use Rattle.std.specs.Option.{option_to_list}
use Rattle.mas_mind.specs.declared.mind.Message.{Message}
use Rattle.mas_mind.specs.Minds.{Kind}
use Rattle.mas_board.specs.Boards.{box_of, box_or_none, oldest, later, put_last, posted, sense, opening}
use Rattle.mas_core.specs.Platform.{Platform, turn, run, and_run, opening_platform}
use Rattle.mas_core_laws.specs.Mail.{messages_of, posts_in, posts, message_of, takes_in, takes, and_along, between, takes_as, sent, taken, unread, MailInOrder, MailFromOpening}
use Rattle.mas_core_laws.proofs.Places.{set_other, set_here, in_replicate}
use Rattle.mas_core_laws.proofs.Steps.{Turned, Leaves, Thinks, Emits, Spends, HasGone, HasThought, HasActed, HasSpent, turned}

pub between-append : (s r : ℕ) (xs ys : List Message) → between s r (xs ++ ys) ≡ between s r xs ++ between s r ys
between-append s r xs ys = filter-append (λ m. nat_eq m.from s && nat_eq m.to r) xs ys

-- ---- the boxes

-- a message that goes elsewhere is not to this agent
elsewhere : (s r : ℕ) (m : Message) → nat_eq (m.to - 1) (r - 1) ≡ false → between s r (m ∷ []) ≡ []
elsewhere s r m e =
    let n : nat_eq m.to r ≡ false = ne_eqb m.to r (λ q. eqb-false (m.to - 1) (r - 1) e (ap (λ x. x - 1) q)) in
    (elim (nat_eq m.from s) as (λ t. (if t && nat_eq m.to r then m ∷ [] else []) ≡ []) [
      | true ↦ ap (λ t. if t then m ∷ [] else []) n
      | false ↦ refl
    ])

put-here : (boxes : List (List Message)) (r : ℕ) (m : Message) → r - 1 < length boxes → m.to - 1 ≡ r - 1 → box_of (put_last boxes m) r ≡ box_of boxes r ++ m ∷ []
put-here boxes r m l e =
    ap (λ i. box_or_none (slice_get (slice_set boxes i (box_or_none (slice_get boxes i) ++ m ∷ [])) (r - 1))) e ∙
    ap box_or_none (set_here boxes (r - 1) (box_of boxes r ++ m ∷ []) l)

put-by : (boxes : List (List Message)) (s r : ℕ) (m : Message) → r - 1 < length boxes → (t : Bool) → nat_eq (m.to - 1) (r - 1) ≡ t →
    between s r (box_of (put_last boxes m) r) ≡ between s r (box_of boxes r) ++ between s r (m ∷ [])
put-by boxes s r m l true e = ap (between s r) (put-here boxes r m l (eqb-true (m.to - 1) (r - 1) e)) ∙ between-append s r (box_of boxes r) (m ∷ [])
put-by boxes s r m l false e =
    ap (λ b. between s r (box_or_none b)) (set_other boxes (m.to - 1) (r - 1) _ e) ∙
    sym (append-nil (between s r (box_of boxes r))) ∙ ap (λ x. between s r (box_of boxes r) ++ x) (sym (elsewhere s r m e))

posted-to : (boxes : List (List Message)) (s r : ℕ) (ms : List Message) → r - 1 < length boxes → between s r (box_of (posted boxes ms) r) ≡ between s r (box_of boxes r) ++ between s r ms
posted-to boxes s r [] l = sym (append-nil (between s r (box_of boxes r)))
posted-to boxes s r (m ∷ ms) l =
    let n : length (put_last boxes m) ≡ length boxes = length-set boxes (m.to - 1) _ in
    posted-to (put_last boxes m) s r ms (rw n l) ∙
    ap (λ x. x ++ between s r ms) (put-by boxes s r m l (nat_eq (m.to - 1) (r - 1)) refl) ∙
    append_assoc (between s r (box_of boxes r)) (between s r (m ∷ [])) (between s r ms) ∙
    ap (λ x. between s r (box_of boxes r) ++ x) (sym (between-append s r (m ∷ []) ms))

pub posted-length : (boxes : List (List Message)) (ms : List Message) → length (posted boxes ms) ≡ length boxes
posted-length boxes [] = refl
posted-length boxes (m ∷ ms) = posted-length (put_last boxes m) ms ∙ length-set boxes (m.to - 1) _

oldest-first : (box : List Message) → box ≡ option_to_list (oldest box) ++ later box
oldest-first [] = refl
oldest-first (m ∷ more) = refl

-- ---- a turn

-- what a turn does to the mail from s to r
record MailTurn {V : Type 0} (p : Platform V) (a s r : ℕ) (q : Platform V) : Type 0 where
  number : length q.board.boxes ≡ length p.board.boxes
  mail : unread p s r ++ between s r (posts p a) ≡ between s r (takes_as r p a) ++ unread q s r

takes-as : {V : Type 0} (p : Platform V) (a s r : ℕ) (t : Bool) → takes p a ≡ [] → between s r (if t then takes p a else []) ≡ []
takes-as p a s r true e = ap (between s r) e
takes-as p a s r false e = refl

-- nothing is taken, and something may be posted
no-take : {V : Type 0} (p q : Platform V) (a s r : ℕ) → length q.board.boxes ≡ length p.board.boxes → takes p a ≡ [] →
    unread q s r ≡ unread p s r ++ between s r (posts p a) → MailTurn p a s r q
no-take p q a s r n e u = record {
  number = n;
  mail = sym u ∙ ap (λ x. x ++ unread q s r) (sym (takes-as p a s r (nat_eq a r) e));
}

-- nothing is taken or posted
no-mail : {V : Type 0} (p q : Platform V) (a s r : ℕ) → q.board.boxes ≡ p.board.boxes → posts p a ≡ [] → takes p a ≡ [] → MailTurn p a s r q
no-mail p q a s r b e f =
    no-take p q a s r (ap length b) f (ap (λ x. between s r (box_of x r)) b ∙ sym (append-nil (unread p s r)) ∙ ap (λ x. unread p s r ++ between s r x) (sym e))

gone-mail : {V : Type 0} (k : Kind V) (p : Platform V) (a s r : ℕ) (q : Platform V) → HasGone p a (sense p.board a) q → MailTurn p a s r q
gone-mail k p a s r q h = no-mail p q a s r (ap (λ x. x.board.boxes) h.is) (ap (posts_in p a) h.idle) (ap (takes_in p a) h.idle ∙ ap (λ x. message_of x.0) h.sensed)

spent-mail : {V : Type 0} (k : Kind V) (p : Platform V) (a s r : ℕ) (q : Platform V) → HasSpent p a q → MailTurn p a s r q
spent-mail k p a s r q h = no-mail p q a s r (ap (λ x. x.board.boxes) h.is) (ap (posts_in p a) h.busy ∙ ap messages_of h.thought_is) (ap (takes_in p a) h.busy)

acted-mail : {V : Type 0} (k : Kind V) (p : Platform V) (a s r : ℕ) (q : Platform V) → r - 1 < length p.board.boxes → HasActed k p a q → MailTurn p a s r q
acted-mail k p a s r q l h =
    let b : q.board.boxes ≡ posted p.board.boxes h.outs.messages = ap (λ x. x.board.boxes) h.is in
    let e : posts p a ≡ h.outs.messages = ap (posts_in p a) h.busy ∙ ap messages_of h.outs_are in
    no-take p q a s r (ap length b ∙ posted-length p.board.boxes h.outs.messages) (ap (takes_in p a) h.busy)
    (ap (λ x. between s r (box_of x r)) b ∙ posted-to p.board.boxes s r h.outs.messages l ∙ ap (λ x. unread p s r ++ between s r x) (sym e))

-- the oldest message leaves the box of this agent, or one leaves another box
took-by : (boxes : List (List Message)) (a s r : ℕ) (xs : List Message) → 1 ≤ a → 1 ≤ r → r - 1 < length boxes → xs ≡ option_to_list (oldest (box_of boxes a)) → (t : Bool) → nat_eq a r ≡ t →
    between s r (box_of boxes r) ≡ between s r (if t then xs else []) ++ between s r (box_of (slice_set boxes (a - 1) (later (box_of boxes a))) r)
took-by boxes a s r xs i j l e true f =
    let same : a ≡ r = eqb-true a r f in
    let b : box_of (slice_set boxes (a - 1) (later (box_of boxes a))) r ≡ later (box_of boxes r) =
    ap (λ x. box_of (slice_set boxes (x - 1) (later (box_of boxes x))) r) same ∙ ap box_or_none (set_here boxes (r - 1) (later (box_of boxes r)) l) in
    ap (between s r) (oldest-first (box_of boxes r)) ∙ between-append s r (option_to_list (oldest (box_of boxes r))) (later (box_of boxes r)) ∙
    ap (λ x. between s r x ++ between s r (later (box_of boxes r))) (ap (λ x. option_to_list (oldest (box_of boxes x))) (sym same) ∙ sym e) ∙
    ap (λ x. between s r xs ++ between s r x) (sym b)
took-by boxes a s r xs i j l e false f =
    let n : nat_eq (a - 1) (r - 1) ≡ false = ne_eqb (a - 1) (r - 1) (λ q. eqb-false a r f (omega arith)) in
    ap (λ b. between s r (box_or_none b)) (sym (set_other boxes (a - 1) (r - 1) _ n))

thought-mail : {V : Type 0} (k : Kind V) (p : Platform V) (a s r : ℕ) (q : Platform V) → 1 ≤ a → 1 ≤ r → r - 1 < length p.board.boxes → HasThought k p a (sense p.board a) q → MailTurn p a s r q
thought-mail k p a s r q i j l h =
    let b : q.board.boxes ≡ slice_set p.board.boxes (a - 1) (later (box_of p.board.boxes a)) = ap (λ x. x.board.boxes) h.is in
    let e : takes p a ≡ option_to_list (oldest (box_of p.board.boxes a)) = ap (takes_in p a) h.idle ∙ ap (λ x. message_of x.0) h.sensed in
    record {
      number = ap length b ∙ length-set p.board.boxes (a - 1) _;
      mail = ap (λ x. unread p s r ++ between s r x) (ap (posts_in p a) h.idle) ∙ append-nil (unread p s r) ∙ took-by p.board.boxes a s r (takes p a) i j l e (nat_eq a r) refl ∙
          ap (λ x. between s r (takes_as r p a) ++ between s r (box_of x r)) (sym b);
    }

mail-case : {V : Type 0} (k : Kind V) (p : Platform V) (a s r : ℕ) (q : Platform V) → 1 ≤ a → 1 ≤ r → r - 1 < length p.board.boxes → Turned k p a (sense p.board a) q → MailTurn p a s r q
mail-case k p a s r q i j l (Leaves h) = gone-mail k p a s r q h
mail-case k p a s r q i j l (Thinks h) = thought-mail k p a s r q i j l h
mail-case k p a s r q i j l (Emits h) = acted-mail k p a s r q l h
mail-case k p a s r q i j l (Spends h) = spent-mail k p a s r q h

mail-turn : {V : Type 0} (k : Kind V) (p : Platform V) (a s r : ℕ) (q : Platform V) → 1 ≤ r → r - 1 < length p.board.boxes → turn k p a ≡ Some q → MailTurn p a s r q
mail-turn k p a s r q j l e = let h = turned k p a q e in mail-case k p a s r q h.agent.from_one j l h.case

-- ---- a run

joined : (before posts taken after sent rest last : List Message) → before ++ posts ≡ taken ++ after → after ++ sent ≡ rest ++ last → before ++ (posts ++ sent) ≡ (taken ++ rest) ++ last
joined before posts taken after sent rest last e f =
    sym (append_assoc before posts sent) ∙ ap (λ x. x ++ sent) e ∙ append_assoc taken after sent ∙ ap (λ x. taken ++ x) f ∙ sym (append_assoc taken rest last)

mail-next : {V : Type 0} (k : Kind V) (p done : Platform V) (a : ℕ) (names : List ℕ) (s r : ℕ) → 1 ≤ r → r - 1 < length p.board.boxes →
    ((q : Platform V) → r - 1 < length q.board.boxes → run k q names ≡ Some done → unread q s r ++ sent k q names s r ≡ taken k q names s r ++ unread done s r) →
    (o : Option (Platform V)) → turn k p a ≡ o → and_run (λ q. run k q names) o ≡ Some done →
    unread p s r ++ (between s r (posts p a) ++ and_along (λ q. sent k q names s r) o) ≡ (between s r (takes_as r p a) ++ and_along (λ q. taken k q names s r) o) ++ unread done s r
mail-next k p done a names s r j l more None e h = absurd (none-some done h)
mail-next k p done a names s r j l more (Some q) e h =
    let t = mail-turn k p a s r q j l e in
    joined (unread p s r) (between s r (posts p a)) (between s r (takes_as r p a)) (unread q s r) (sent k q names s r) (taken k q names s r) (unread done s r) t.mail (more q (rw t.number l) h)

mail-run : {V : Type 0} (k : Kind V) (p done : Platform V) (names : List ℕ) (s r : ℕ) → 1 ≤ r → r - 1 < length p.board.boxes → run k p names ≡ Some done →
    unread p s r ++ sent k p names s r ≡ taken k p names s r ++ unread done s r
mail-run k p done [] s r j l h = append-nil (unread p s r) ∙ ap (λ x. unread x s r) (same_Some p done h)
mail-run k p done (a ∷ names) s r j l h = mail-next k p done a names s r j l (λ q m f. mail-run k q done names s r j m f) (turn k p a) refl h

pub mail_in_order : {V : Type 0} (k : Kind V) → MailInOrder k
mail_in_order k p done names s r i h =
    let j = i.from_one in
    let l = i.named in
    mail-run k p done names s r j (omega arith) h

pub mail_from_opening : {V : Type 0} (k : Kind V) → MailFromOpening k
mail_from_opening k agents w cycles lead minds done names s r i h =
    let j = i.from_one in
    let l = i.named in
    let none : List Message = [] in
    let n = length-replicate (length agents) none in
    let p : Platform _ = opening_platform (opening agents w cycles lead) minds in
    let e : unread p s r ≡ [] = ap (λ b. between s r (box_or_none b)) (in_replicate (length agents) (r - 1) none (omega arith)) in
    ap (λ x. x ++ sent k p names s r) (sym e) ∙ mail-run k p done names s r j (rw n (omega arith)) h
