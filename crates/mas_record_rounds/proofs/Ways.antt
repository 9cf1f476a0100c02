-- What rounds make of shares, one after another.
use Rattle.std.proofs.Common.{◌≡◌, ℕ, zero, suc, ◌+◌, Bool, true, false, if◌then◌else◌, Result, Ok, Err, List, [], ◌∷◌, ◌++◌, sym, refl, ap, ◌∙◌, subst, arith}
use Rattle.std.specs.Prelude.{All, slice_index_or}
use Rattle.mas_board_lists.specs.Lists.{Each}
use Rattle.mas_mind.specs.Minds.{Kind}
use Rattle.mas_board.specs.Boards.{is_gone}
use Rattle.mas_board_turns.specs.Follows.{Thinking, resting}
use Rattle.mas_board_turns.specs.Cycles.{Went}
use Rattle.mas_board_turns.proofs.Cycles.{went_none, went_more}
use Rattle.mas_record.specs.declared.deck.DeckFault.{DeckFault}
use Rattle.mas_record.specs.declared.recorder.Recorder.{Recorder}
use Rattle.mas_record.specs.Tickets.{turns_of, phase_of}
use Rattle.mas_record_rounds.specs.declared.sharer.Sharer.{Sharer}
use Rattle.mas_record_rounds.specs.Sharers.{Shares, Stays, SharerWent, Both, thinking_of, here_of}
use Rattle.mas_record_rounds.specs.declared.share.Share.{Share}
use Rattle.mas_record_rounds.specs.Dealing.{all_of}
use Rattle.mas_record_rounds.specs.Rounds.{MayGo, CameTo, AllCame, CameSo, AllCameSo, Led, AllEnded}

-- ---- lists

each_all : {T : Type 0} (P : T → Type 0) (xs : List T) → Each P xs → All P xs
each_all P [] h i d l = absurd (omega arith)
each_all P (x ∷ xs) h zero d l = h.0
each_all P (x ∷ xs) h (suc i) d l = each_all P xs h.1 i d (omega arith)

each_parts : {T : Type 0} (P : T → Type 0) (xs ys : List T) → Each P (xs ++ ys) → Each P xs × Each P ys
each_parts P [] ys h = (tt, h)
each_parts P (x ∷ xs) ys h = let r = each_parts P xs ys h.1 in ((h.0, r.0), r.1)

module _ {V A D : Type 0} where
  -- ---- pairs of sharers

  both_append : (P : Sharer V A D → Sharer V A D → Type 0) (xs us ys vs : List (Sharer V A D)) → Both P xs us → Both P ys vs → Both P (xs ++ ys) (us ++ vs)
  both_append P [] [] ys vs h i = i
  both_append P [] (u ∷ us) ys vs h i = absurd h
  both_append P (x ∷ xs) [] ys vs h i = absurd h
  both_append P (x ∷ xs) (u ∷ us) ys vs h i = (h.0, both_append P xs us ys vs h.1 i)

  pub both_map : (P Q : Sharer V A D → Sharer V A D → Type 0) (xs us : List (Sharer V A D)) → ((x u : Sharer V A D) → P x u → Q x u) → Both P xs us → Both Q xs us
  both_map P Q [] [] f h = tt
  both_map P Q [] (u ∷ us) f h = absurd h
  both_map P Q (x ∷ xs) [] f h = absurd h
  both_map P Q (x ∷ xs) (u ∷ us) f h = (f x u h.0, both_map P Q xs us f h.1)

  both_chain : (P Q R : Sharer V A D → Sharer V A D → Type 0) (xs ys zs : List (Sharer V A D))
      → ((x y z : Sharer V A D) → P x y → Q y z → R x z) → Both P xs ys → Both Q ys zs → Both R xs zs
  both_chain P Q R [] [] [] f h g = tt
  both_chain P Q R [] [] (z ∷ zs) f h g = absurd g
  both_chain P Q R [] (y ∷ ys) zs f h g = absurd h
  both_chain P Q R (x ∷ xs) [] zs f h g = absurd h
  both_chain P Q R (x ∷ xs) (y ∷ ys) [] f h g = absurd g
  both_chain P Q R (x ∷ xs) (y ∷ ys) (z ∷ zs) f h g = (f x y z h.0 g.0, both_chain P Q R xs ys zs f h.1 g.1)

  both_each : (P : Sharer V A D → Sharer V A D → Type 0) (Q : Sharer V A D → Type 0) (xs us : List (Sharer V A D))
      → ((x u : Sharer V A D) → P x u → Q u) → Both P xs us → Each Q us
  both_each P Q [] [] f h = tt
  both_each P Q [] (u ∷ us) f h = absurd h
  both_each P Q (x ∷ xs) [] f h = absurd h
  both_each P Q (x ∷ xs) (u ∷ us) f h = (f x u h.0, both_each P Q xs us f h.1)

  here_append : (xs ys : List (Sharer V A D)) → here_of (xs ++ ys) ≡ here_of xs + here_of ys
  here_append [] ys = omega arith
  here_append (x ∷ xs) ys = ap (λ (n : ℕ). if is_gone (phase_of x.ticket) then n else 1 + n) (here_append xs ys) ∙ either (is_gone (phase_of x.ticket))
    where
      either : (b : Bool) → (if b then here_of xs + here_of ys else 1 + (here_of xs + here_of ys)) ≡ (if b then here_of xs else 1 + here_of xs) + here_of ys
      either true = refl
      either false = omega arith

module _ {V A D : Type 0} (k : Kind V) (r : Recorder A D) where
  -- ---- from one sharer to the next

  stays_on : (x y z : Sharer V A D) → Stays r x y → Stays r y z → Stays r x z
  stays_on x y z a b = record { ticket = b.ticket; number = b.number ∙ a.number; agent = b.agent ∙ a.agent; first = b.first ∙ a.first }

  led_first : (x : Sharer V A D) → Shares k r x → Led k r x x
  led_first x h = record {
    stays = record { ticket = h.ticket; number = refl; agent = refl; first = refl };
    shares = h;
    way = went_none k (thinking_of x) (thinking_of x) (turns_of x.ticket) (turns_of x.ticket) refl refl;
  }

  led_on : (x y z : Sharer V A D) → Led k r x y → SharerWent k r (thinking_of y) y z → Led k r x z
  led_on x y z a w =
      let rests : resting z.mind ≡ thinking_of z = λ i. record { mind = z.mind; thought = sym w.none i } in
      record {
        stays = stays_on x y z a.stays w.stays;
        shares = w.shares;
        way = went_more k (thinking_of x) (thinking_of y) (thinking_of z) (turns_of x.ticket) (turns_of y.ticket) (turns_of z.ticket) a.way
            (subst (λ (t : Thinking V). Went k (thinking_of y) (turns_of y.ticket) (turns_of z.ticket) t) rests w.way);
      }

  -- ---- all sharers

  pub all_led_first : (xs : List (Sharer V A D)) → Each (Shares k r) xs → Both (Led k r) xs xs
  all_led_first [] h = tt
  all_led_first (x ∷ xs) h = (led_first x h.0, all_led_first xs h.1)

  pub may_go : (ss : List (Share V A D)) → Each (Shares k r) (all_of ss) → All (MayGo k r) ss
  may_go ss h = each_all (MayGo k r) ss (each_go ss h)
    where
      each_go : (ss : List (Share V A D)) → Each (Shares k r) (all_of ss) → Each (MayGo k r) ss
      each_go [] h = tt
      each_go (s ∷ ss) h = let p = each_parts (Shares k r) s.sharers (all_of ss) h in (p.0, each_go ss p.1)

  pub led_may_go : (xs : List (Sharer V A D)) (ss : List (Share V A D)) → Both (Led k r) xs (all_of ss) → All (MayGo k r) ss
  led_may_go xs ss h = may_go ss (both_each (Led k r) (Shares k r) xs (all_of ss) (λ x u l. l.shares) h)

  stays_came : (old new : List (Sharer V A D)) (came : Result ℕ DeckFault) → CameTo k r old new came → Both (Stays r) old new
  stays_came old new (Ok n) h = both_map (λ s t. SharerWent k r (thinking_of s) s t) (Stays r) old new (λ x u w. w.stays) h.each
  stays_came old new (Err f) h = h.each

  went_came : (b : Bool) (old new : List (Sharer V A D)) (came : Result ℕ DeckFault) → CameTo k r old new came → CameSo b came
      → Both (λ s t. SharerWent k r (thinking_of s) s t) old new
  went_came b old new (Ok n) h c = h.each
  went_came true old new (Err f) h c = absurd c
  went_came false old new (Err f) h c = absurd c

  none_came : (old new : List (Sharer V A D)) (came : Result ℕ DeckFault) → CameTo k r old new came → CameSo true came → here_of new ≡ 0
  none_came old new (Ok n) h c = sym h.here_is ∙ c
  none_came old new (Err f) h c = absurd c

  rest_came : (p : Share V A D) (ps : List (Share V A D)) (q : Share V A D) (qs : List (Share V A D)) → AllCame k r (p ∷ ps) (q ∷ qs) → AllCame k r ps qs
  rest_came p ps q qs h = record { count = (let n = h.count in omega arith); each = λ i d l. h.each (suc i) d (omega arith) }

  rest_so : (b : Bool) (q : Share V A D) (qs : List (Share V A D)) → AllCameSo (q ∷ qs) b → AllCameSo qs b
  rest_so b q qs h = λ i d l. h (suc i) d (omega arith)

  all_stay_came : (ps qs : List (Share V A D)) → AllCame k r ps qs → Both (Stays r) (all_of ps) (all_of qs)
  all_stay_came [] [] h = tt
  all_stay_came [] (q ∷ qs) h = absurd (let n = h.count in omega arith)
  all_stay_came (p ∷ ps) [] h = absurd (let n = h.count in omega arith)
  all_stay_came (p ∷ ps) (q ∷ qs) h =
      both_append (Stays r) p.sharers q.sharers (all_of ps) (all_of qs) (stays_came p.sharers q.sharers q.came (h.each 0 p (omega arith)))
      (all_stay_came ps qs (rest_came p ps q qs h))

  all_went_came : (b : Bool) (ps qs : List (Share V A D)) → AllCame k r ps qs → AllCameSo qs b → Both (λ s t. SharerWent k r (thinking_of s) s t) (all_of ps) (all_of qs)
  all_went_came b [] [] h c = tt
  all_went_came b [] (q ∷ qs) h c = absurd (let n = h.count in omega arith)
  all_went_came b (p ∷ ps) [] h c = absurd (let n = h.count in omega arith)
  all_went_came b (p ∷ ps) (q ∷ qs) h c =
      both_append (λ s t. SharerWent k r (thinking_of s) s t) p.sharers q.sharers (all_of ps) (all_of qs)
      (went_came b p.sharers q.sharers q.came (h.each 0 p (omega arith)) (c 0 q (omega arith))) (all_went_came b ps qs (rest_came p ps q qs h) (rest_so b q qs c))

  all_none_came : (ps qs : List (Share V A D)) → AllCame k r ps qs → AllCameSo qs true → here_of (all_of qs) ≡ 0
  all_none_came [] [] h c = refl
  all_none_came [] (q ∷ qs) h c = absurd (let n = h.count in omega arith)
  all_none_came (p ∷ ps) [] h c = absurd (let n = h.count in omega arith)
  all_none_came (p ∷ ps) (q ∷ qs) h c =
      let a = none_came p.sharers q.sharers q.came (h.each 0 p (omega arith)) (c 0 q (omega arith)) in
      let b = all_none_came ps qs (rest_came p ps q qs h) (rest_so true q qs c) in
      here_append q.sharers (all_of qs) ∙ (omega arith)

  -- ---- rounds after rounds

  went_on : (x y z : Sharer V A D) → SharerWent k r (thinking_of x) x y → SharerWent k r (thinking_of y) y z → SharerWent k r (thinking_of x) x z
  went_on x y z a w =
      let rests : resting y.mind ≡ thinking_of y = λ i. record { mind = y.mind; thought = sym a.none i } in
      record {
        stays = stays_on x y z a.stays w.stays;
        shares = w.shares;
        none = w.none;
        way = went_more k (thinking_of x) (thinking_of y) (resting z.mind) (turns_of x.ticket) (turns_of y.ticket) (turns_of z.ticket)
            (subst (λ (t : Thinking V). Went k (thinking_of x) (turns_of x.ticket) (turns_of y.ticket) t) rests a.way) w.way;
      }

  came_more : (b : Bool) (old mid new : List (Sharer V A D)) (first last : Result ℕ DeckFault) → CameTo k r old mid first → CameSo b first
      → CameTo k r mid new last → CameTo k r old new last
  came_more b old mid new first (Ok n) h c g = record {
    each = both_chain (λ s t. SharerWent k r (thinking_of s) s t) (λ s t. SharerWent k r (thinking_of s) s t) (λ s t. SharerWent k r (thinking_of s) s t) old mid new
        went_on (went_came b old mid first h c) g.each;
    here_is = g.here_is;
  }
  came_more b old mid new first (Err f) h c g = record {
    each = both_chain (λ s t. SharerWent k r (thinking_of s) s t) (Stays r) (Stays r) old mid new (λ x y z w s. stays_on x y z w.stays s)
        (went_came b old mid first h c) g.each;
    torn = g.torn;
  }

  pub came_on : (b : Bool) (ps qs rs : List (Share V A D)) → AllCame k r ps qs → AllCameSo qs b → AllCame k r qs rs → AllCame k r ps rs
  came_on b ps qs rs h c g = record {
    count = g.count ∙ h.count;
    each = λ i d l.
        let n = h.count in
        let p = slice_index_or ps i d in
        let q = slice_index_or qs i d in
        let s = slice_index_or rs i d in
        came_more b p.sharers q.sharers s.sharers q.came s.came (h.each i d l) (c i d (omega arith)) (g.each i d (omega arith));
  }

  pub came_may_go : (b : Bool) (ps qs : List (Share V A D)) → AllCame k r ps qs → AllCameSo qs b → All (MayGo k r) qs
  came_may_go b ps qs h c = λ i d l.
      let n = h.count in
      let p = slice_index_or ps i d in
      let q = slice_index_or qs i d in
      both_each (λ s t. SharerWent k r (thinking_of s) s t) (Shares k r) p.sharers q.sharers (λ x u w. w.shares)
      (went_came b p.sharers q.sharers q.came (h.each i d (omega arith)) (c i d l))

  -- what the shares came to, as it was read
  pub came_so : (b d : Bool) (seen shares : List (Share V A D)) → seen ≡ shares → d ≡ b → AllCameSo seen d → AllCameSo shares b
  came_so b d seen shares e f h = subst (λ (l : List (Share V A D)). AllCameSo l b) e (subst (AllCameSo seen) f h)

  -- ---- after a round

  pub led_more : (xs : List (Sharer V A D)) (ps qs : List (Share V A D)) (b : Bool) → Both (Led k r) xs (all_of ps) → AllCame k r ps qs → AllCameSo qs b
      → Both (Led k r) xs (all_of qs)
  led_more xs ps qs b h c so =
      both_chain (Led k r) (λ s t. SharerWent k r (thinking_of s) s t) (Led k r) xs (all_of ps) (all_of qs) led_on h (all_went_came b ps qs c so)

  pub led_ended : (xs : List (Sharer V A D)) (ps qs : List (Share V A D)) → Both (Led k r) xs (all_of ps) → AllCame k r ps qs → AllCameSo qs true
      → AllEnded k r xs (all_of qs)
  led_ended xs ps qs h c so = record { each = led_more xs ps qs true h c so; none_here = all_none_came ps qs c so }

  pub led_stays : (xs : List (Sharer V A D)) (ps qs : List (Share V A D)) → Both (Led k r) xs (all_of ps) → AllCame k r ps qs → Both (Stays r) xs (all_of qs)
  led_stays xs ps qs h c = both_chain (Led k r) (Stays r) (Stays r) xs (all_of ps) (all_of qs) (λ x y z l s. stays_on x y z l.stays s) h (all_stay_came ps qs c)
