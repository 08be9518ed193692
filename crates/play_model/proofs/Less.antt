-- Each act leaves less: less of the script, or as much and less work, or as much of both and fewer headers on their way.
use Rattle.std.proofs.Common.{◌≡◌, ◌≢◌, ◌⊎◌, inl, inr, ℕ, zero, suc, ◌+◌, ◌-◌, ◌*◌, ◌<◌, ◌≤◌, Bool, true, false, not, ◌&&◌, ◌||◌, nat_eq, nat_le, if◌then◌else◌, List, [], ◌∷◌, length, refl, sym, ◌∙◌, ap, subst, length-append, eqb-true, eq-eqb, ne_eqb, arith}
use Rattle.std.proofs.lemmas.Bool.{leb-true, leb-false}
use Rattle.play_model.specs.Network.{Network, Filled, LinkState, Flow, headers_of}
use Rattle.play_model.specs.Moves.{IsFront, Move, moved, with_link, sent_on, sent_back}
use Rattle.play_model.specs.Progress.{sum_to, work_left, all_headers}
use Rattle.play_model.proofs.Queues.{either}
use Rattle.play_model.proofs.Sums.{sum_le, sum_less, first_decides}
use Rattle.play_model.proofs.Full.{move_headers}
use Rattle.play_model.proofs.Measure.{step_less}
use Rattle.play_model.specs.Changes.{Change, port_at, IsSteadyPort, IsDisabling, told_on, conducted, port_on}
use Rattle.play_model.specs.Play.{Layout, Play, made, other_component, IsReturning, HasDone, HasUnused}
use Rattle.play_model.specs.Acts.{Act, CanBegin, CanAct, CanConduct, CanActs, ArePorts, other_port, with_stage, with_change, reset_all, supplied, released, back_held, given_unused, hand, acted, all_acted}
use Rattle.play_model.specs.Reached.{IsChanging, IsReached, ways_left, is_unchanged, makings_at, makings_left, changes_left, script_left, is_returning, is_returning_at, unused_of, hands_of, hands_left, all_frames, acts_left, ComesBefore}
use Rattle.play_model.proofs.Reaching.{at_case, stage_case, reset_headers, reset_case, more_supplied, released_headers, supply_when, disabling_quiet}
use Rattle.play_model.proofs.Handing.{hand_can, unused_headers, running_three, step_phase, act_reaches}
use Rattle.play_model.proofs.Changes.{change_case, Conducted, conducted_is, conducted_later, conducted_later_input, disabling_step, IsPortGoing, port_half, command_goes, due_goes, completion_goes}
use Rattle.play_model.proofs.Changing.{announce_phase, changing_phase}

-- ---- sums

sum_same : (k : ℕ) (f g : ℕ → ℕ) → ((j : ℕ) → j < k → f j ≡ g j) → sum_to k f ≡ sum_to k g
sum_same zero f g h = refl
sum_same (suc k) f g h = let i = sum_same k f g (λ j b. h j (omega arith)) in let l = h k (omega arith) in omega arith

sum_twice : (k : ℕ) (f : ℕ → ℕ) → sum_to k (λ j. 2 * f j) ≡ 2 * sum_to k f
sum_twice zero f = omega arith
sum_twice (suc k) f = let i = sum_twice k f in omega arith

-- ---- the script

makings_send : (k count made_ : ℕ) (u : Bool) → made_ ≤ count → makings_at (k + 1) count u made_ ≤ makings_at k count u made_
makings_send k count made_ u le = either (nat_le k 1)
    (λ a. either (nat_le (k + 1) 1)
    (λ b. rw (a, b) (omega arith))
    (λ b. either (nat_le (k + 1) 3)
    (λ d. either u (λ t. rw (a, b, d, t) (omega arith)) (λ g. rw (a, b, d, g) (omega arith)))
    (λ d. let x = leb-true _ _ a in let y = leb-false _ _ d in absurd (omega arith))))
    (λ a. either (nat_le (k + 1) 1)
    (λ b. let x = leb-false _ _ a in let y = leb-true _ _ b in absurd (omega arith))
    (λ b. either (nat_le k 3)
    (λ c. either (nat_le (k + 1) 3)
    (λ d. rw (a, b, c, d) (omega arith))
    (λ d. either u (λ t. rw (a, b, c, d, t) (omega arith)) (λ g. rw (a, b, c, d, g) (omega arith))))
    (λ c. either (nat_le (k + 1) 3)
    (λ d. let x = leb-false _ _ c in let y = leb-true _ _ d in absurd (omega arith))
    (λ d. rw (a, b, c, d) (omega arith)))))

-- a play that differs in its headers alone, where none is made or unmade
same_script : (w : Layout) (p : Play) (s : Flow) → ((l : ℕ) → l < (w.network).links → headers_of (s.link l) ≡ made p l) → script_left w (record p { flow = s }) ≡ script_left w p
same_script w p s h =
    let e = sum_same (w.network).links (makings_left w (record p { flow = s })) (makings_left w p) (λ l b. ap (λ (n : ℕ). makings_at p.phase ((w.network).count l) (is_unchanged w p l) n) (h l b)) in
    omega arith

stage_less : (w : Layout) (p : Play) (c k : ℕ) → c < (w.network).components → p.stage c < k → k ≤ 4 → script_left w (with_stage c k p) < script_left w p
stage_less w p c k b up high =
    let q : Play = with_stage c k p in
    let less : (j : ℕ) → j ≡ c → 4 - k < 4 - p.stage j = λ j e. let z : p.stage j ≡ p.stage c = ap p.stage e in omega arith in
    let here : ways_left w q c < ways_left w p c = stage_case (λ n. 5 * (4 - p.phase) + (4 - n) + (if w.is_sink c && not (p.told c) then 1 else 0) < ways_left w p c) p c k c
    (λ e. let l = less c e in omega arith) (λ n. absurd (n refl)) in
    let s = sum_less (w.network).components c (ways_left w q) (ways_left w p) b
    (λ j d. stage_case (λ n. 5 * (4 - p.phase) + (4 - n) + (if w.is_sink j && not (p.told j) then 1 else 0) ≤ ways_left w p j) p c k j
    (λ e. let l = less j e in omega arith) (λ _. omega arith))
    here in
    omega arith

begin_less : (w : Layout) (p : Play) → IsReached w p → CanBegin w p → script_left w (acted w Act.Begin p) < script_left w p
begin_less w p R C =
    let more = C.more in
    let a = sum_le (w.network).components (ways_left w (acted w Act.Begin p)) (ways_left w p) (λ c b. let k = C.all c b in omega arith) in
    let m = sum_le (w.network).links (makings_left w (acted w Act.Begin p)) (makings_left w p) (λ l b. makings_send p.phase ((w.network).count l) (made p l) (is_unchanged w p l) (R.few l b)) in
    omega arith

happen_less : (w : Layout) (p : Play) (c : ℕ) → CanAct w p (Act.Happen c) → script_left w (acted w (Act.Happen c) p) < script_left w p
happen_less w p c C =
    let q : Play = with_stage c 3 p in
    let less : script_left w q < script_left w p = stage_less w p c 3 C.0 (let e = C.1 in omega arith) (omega arith) in
    let s : Flow = if nat_eq p.phase 3 then reset_all w c p.flow else p.flow in
    let same : (l : ℕ) → headers_of (s.link l) ≡ made p l = λ l. either (nat_eq p.phase 3)
    (λ t. rw t (reset_case w c p.flow (λ k x. headers_of x ≡ made p k) (λ k h. reset_headers (w.by_output k) ((p.flow).link k) ∙ h) l refl))
    (λ f. rw f refl) in
    let e : script_left w (record q { flow = s }) ≡ script_left w q = same_script w q s (λ l b. same l) in
    omega arith

tell_end_less : (w : Layout) (p : Play) (c : ℕ) → CanAct w p (Act.TellEnd c) → script_left w (acted w (Act.TellEnd c) p) < script_left w p
tell_end_less w p c C =
    let q : Play = acted w (Act.TellEnd c) p in
    let here : q.told c ≡ true = rw (eq-eqb c c refl) refl in
    let sink : w.is_sink c ≡ true = C.2 in
    let not_told : p.told c ≡ false = C.3 in
    let was : ways_left w p c ≡ 5 * (4 - p.phase) + (4 - p.stage c) + 1 = rw (sink, not_told) refl in
    let is : ways_left w q c ≡ 5 * (4 - p.phase) + (4 - p.stage c) + 0 = rw (sink, here) refl in
    let less : ways_left w q c < ways_left w p c = omega arith in
    let s = sum_less (w.network).components c (ways_left w q) (ways_left w p) C.0
    (λ j d. either (nat_eq j c)
    (λ t. subst (λ (i : ℕ). ways_left w q i ≤ ways_left w p i) (sym (eqb-true _ _ t)) (omega arith))
    (λ f. let same : q.told j ≡ p.told j = rw f refl in
    let e : ways_left w q j ≡ ways_left w p j = ap (λ (b : Bool). 5 * (4 - p.phase) + (4 - p.stage j) + (if w.is_sink j && not b then 1 else 0)) same in omega arith))
    less in
    omega arith

-- one link's headers change
making_less : (w : Layout) (p : Play) (l : ℕ) (change : LinkState → LinkState) → l < (w.network).links →
    makings_at p.phase ((w.network).count l) (is_unchanged w p l) (headers_of (change ((p.flow).link l))) < makings_left w p l → script_left w (record p { flow = with_link l change p.flow }) < script_left w p
making_less w p l change b less =
    let q : Play = record p { flow = with_link l change p.flow } in
    let at_k : (k : ℕ) → makings_left w q k ≤ makings_left w p k = λ k.
    at_case (λ j x. makings_at p.phase ((w.network).count j) (is_unchanged w p j) (headers_of x) ≤ makings_left w p j) l change p.flow k (λ _. omega arith) (λ _. omega arith) in
    let here : makings_left w q l < makings_left w p l =
    at_case (λ j x. makings_at p.phase ((w.network).count j) (is_unchanged w p j) (headers_of x) < makings_left w p j) l change p.flow l (λ _. less) (λ n. absurd (n refl)) in
    let m = sum_less (w.network).links l (makings_left w q) (makings_left w p) b (λ k d. at_k k) here in
    omega arith

supply_less : (w : Layout) (p : Play) (l : ℕ) → IsReached w p → CanAct w p (Act.Supply l) → script_left w (acted w (Act.Supply l) p) < script_left w p
supply_less w p l R C =
    let few : made p l < (w.network).count l = C.3 in
    let more = more_supplied (w.by_output l) ((p.flow).link l) in
    making_less w p l (supplied (w.by_output l)) C.0 (elim (supply_when w p l R C) [
      | inl e ↦ rw e (omega arith)
      | inr e ↦
          let step = e.1 in
          let dropped : is_unchanged w p l ≡ false = and_late (w.is_late l) (nat_le (p.change l).step 4) (lt_leb (p.change l).step 4 (omega arith)) in
          rw (e.0, dropped) (omega arith)
    ])
  where
    and_late : (a b : Bool) → b ≡ false → (a && b) ≡ false
    and_late true b e = e
    and_late false b e = refl

    lt_leb : (n m : ℕ) → m < n → nat_le n m ≡ false
    lt_leb n m h = either (nat_le n m) (λ t. let y = leb-true _ _ t in absurd (omega arith)) (λ g. g)

release_less : (w : Layout) (p : Play) (l : ℕ) → IsReached w p → CanAct w p (Act.Release l) → script_left w (acted w (Act.Release l) p) < script_left w p
release_less w p l R C =
    let less = released_headers (w.by_output l) ((p.flow).link l) C.2 in
    making_less w p l (released (w.by_output l)) C.0 (elim C.1 [
      | inl leaves ↦ rw leaves.0 (omega arith)
      | inr d ↦
          let D = disabling_quiet w p (w.by_output l) l R C.0 d in
          let two : p.phase ≡ 2 = D.0 in
          let late : w.is_late l ≡ true = D.1 in
          let early : nat_le (p.change l).step 4 ≡ true = le_leb (p.change l).step 4 (disabling_step (w.by_output l) (p.change l) (R.changes l C.0).order d).1 in
          let kept : is_unchanged w p l ≡ true = rw (late, early) refl in
          rw (two, kept) (omega arith)
    ])
  where
    le_leb : (n m : ℕ) → n ≤ m → nat_le n m ≡ true
    le_leb n m h = either (nat_le n m) (λ t. t) (λ g. let y = leb-false _ _ g in absurd (omega arith))

-- ---- a change goes on

abbrev rest_of : Change → ℕ
rest_of k = (10 - k.step) + (8 - k.output) + (8 - k.input)

-- the tunnel is dropped when no header is made, and then as many are to be made as were to be made and unmade
makings_drop : (count made_ s t : ℕ) → made_ ≤ count → s ≤ t → (s ≤ 4 → 5 ≤ t → made_ ≡ 0) → makings_at 2 count (true && nat_le t 4) made_ ≤ makings_at 2 count (true && nat_le s 4) made_
makings_drop count made_ s t few up none = either (nat_le t 4)
    (λ y. either (nat_le s 4)
    (λ x. rw (x, y) (omega arith))
    (λ x. let a = leb-true _ _ y in let b = leb-false _ _ x in absurd (omega arith)))
    (λ y. either (nat_le s 4)
    (λ x. let a = leb-false _ _ y in let b = leb-true _ _ x in let z = none b (omega arith) in rw (x, y) (omega arith))
    (λ x. rw (x, y) (omega arith)))

change_less : (w : Layout) (p : Play) (l : ℕ) (f : Change → Change) → IsReached w p → l < (w.network).links → w.is_late l ≡ true → p.phase ≡ 2 → rest_of (f (p.change l)) < rest_of (p.change l) →
    (p.change l).step ≤ (f (p.change l)).step → ((p.change l).step ≤ 4 → 5 ≤ (f (p.change l)).step → made p l ≡ 0) → script_left w (with_change l f p) < script_left w p
change_less w p l f R b late two less up none =
    let q : Play = with_change l f p in
    let here : (if w.is_late l then rest_of (f (p.change l)) else 0) < changes_left w p l = rw late less in
    let c = sum_less (w.network).links l (changes_left w q) (changes_left w p) b
    (λ j d. change_case (λ i k. (if w.is_late i then rest_of k else 0) ≤ changes_left w p i) l f p j (λ _. omega arith) (λ _. omega arith))
    (change_case (λ i k. (if w.is_late i then rest_of k else 0) < changes_left w p i) l f p l (λ _. here) (λ n. absurd (n refl))) in
    let m = sum_le (w.network).links (makings_left w q) (makings_left w p)
    (λ j d. change_case (λ i k. makings_at p.phase ((w.network).count i) (w.is_late i && nat_le k.step 4) (made p i) ≤ makings_left w p i) l f p j
    (λ _. rw (two, late) (makings_drop ((w.network).count l) (made p l) (p.change l).step (f (p.change l)).step (R.few l b) up none))
    (λ _. omega arith)) in
    omega arith

told_less : (w : Layout) (p : Play) (l : ℕ) → IsReached w p → l < (w.network).links → w.is_late l ≡ true → p.phase ≡ 2 → (p.change l).step ≤ 1 → script_left w (with_change l told_on p) < script_left w p
told_less w p l R b t two low = change_less w p l told_on R b t two (omega arith) (omega arith) (λ _ h. absurd (omega (arith, h)))

conduct_less : (w : Layout) (p : Play) (l : ℕ) → IsReached w p → CanConduct w p l → script_left w (acted w (Act.Conduct l) p) < script_left w p
conduct_less w p l R C =
    let k : Change = p.change l in
    let K : IsChanging w p l k = R.changes l C.below in
    let low = C.told in
    let more = C.more in
    let D : Conducted k (conducted k) = conducted_is k in
    let s = D.step in
    let o = conducted_later k (conducted k) D in
    let i = conducted_later_input k (conducted k) D in
    change_less w p l conducted R C.below C.late (changing_phase w p l k K C.late (omega arith) C.more) (omega arith) (omega arith)
    (λ a h. K.emptied (inl (let d = (C.disabled (omega (arith, h))).0 in (omega arith, omega arith))))

port_less : (w : Layout) (p : Play) (l : ℕ) (out : Bool) → IsReached w p → l < (w.network).links → w.is_late l ≡ true → IsPortGoing (port_at out (p.change l)) → script_left w (with_change l (port_on out) p) < script_left w p
port_less w p l true R b t g =
    let two : p.phase ≡ 2 = ((R.changes l b).half (port_half true (p.change l) (R.changes l b).order g)).0 in
    let few : (p.change l).output ≤ 7 = grind (arith, g) in
    change_less w p l (port_on true) R b t two (omega arith) (omega arith) (λ a h. absurd (omega (arith, a, h)))
port_less w p l false R b t g =
    let two : p.phase ≡ 2 = ((R.changes l b).half (port_half false (p.change l) (R.changes l b).order g)).0 in
    let few : (p.change l).input ≤ 7 = grind (arith, g) in
    change_less w p l (port_on false) R b t two (omega arith) (omega arith) (λ a h. absurd (omega (arith, a, h)))

-- ---- headers on their way

abbrev hands_at : Bool → Bool → LinkState → ℕ
hands_at returning_ out x = length x.sent + x.spent + (if returning_ then 2 * unused_of out x else 0)

link_less : (w : Layout) (p : Play) (l : ℕ) (change : LinkState → LinkState) → l < (w.network).links →
    hands_at (is_returning_at w p l) (w.by_output l) (change ((p.flow).link l)) < hands_of w p l → hands_left w (record p { flow = with_link l change p.flow }) < hands_left w p
link_less w p l change b less =
    let q : Play = record p { flow = with_link l change p.flow } in
    let at_k : (k : ℕ) → hands_of w q k ≤ hands_of w p k = λ k.
    at_case (λ j x. hands_at (is_returning_at w p j) (w.by_output j) x ≤ hands_of w p j) l change p.flow k (λ _. omega arith) (λ _. omega arith) in
    let here : hands_of w q l < hands_of w p l =
    at_case (λ j x. hands_at (is_returning_at w p j) (w.by_output j) x < hands_of w p j) l change p.flow l (λ _. less) (λ n. absurd (n refl)) in
    sum_less (w.network).links l (hands_of w q) (hands_of w p) b (λ k d. at_k k) here

sent_shorter : (x : LinkState) (q : List Filled) → x.sent ≡ q → IsFront (λ h. Unit {0}) q → ((sent_on q x).ready ≡ x.ready) × ((sent_on q x).spent ≡ x.spent) × (length (sent_on q x).sent + 1 ≡ length x.sent)
sent_shorter x [] e F = absurd F
sent_shorter x (h ∷ q) e F = (refl, refl, let z : length x.sent ≡ suc (length q) = ap length e in omega arith)

-- handed over where the other end isn't returning
over_hands : (r out : Bool) (x : LinkState) → r ≡ false → HasDone out x → hands_at r out (if out then sent_on x.sent x else sent_back x) < hands_at r out x
over_hands r true x e D = let s = sent_shorter x x.sent refl D in let a = s.1 in let b = s.2 in rw e (omega arith)
over_hands r false x e D = rw e (omega arith)

-- handed back, whether it is returning or not
back_hands : (r out : Bool) (x : LinkState) → HasDone (not out) x → hands_at r out (if not out then sent_on x.sent x else sent_back x) < hands_at r out x
back_hands true true x D = omega arith
back_hands false true x D = omega arith
back_hands true false x D = let s = sent_shorter x x.sent refl D in let a = s.1 in let b = s.2 in let c = s.0 in omega arith
back_hands false false x D = let s = sent_shorter x x.sent refl D in let a = s.1 in let b = s.2 in omega arith

hand_less : (w : Layout) (p : Play) (out : Bool) (l : ℕ) → l < (w.network).links →
    hands_at (is_returning_at w p l) (w.by_output l) (if out then sent_on ((p.flow).link l).sent ((p.flow).link l) else sent_back ((p.flow).link l)) < hands_of w p l →
    hands_left w (record p { flow = moved w.network (hand out l) p.flow }) < hands_left w p
hand_less w p true l b less = link_less w p l (λ x. sent_on x.sent x) b less
hand_less w p false l b less = link_less w p l sent_back b less

hand_work : (net : Network) (s : Flow) (out : Bool) (l : ℕ) → work_left net (moved net (hand out l) s) ≡ work_left net s
hand_work net s true l = refl
hand_work net s false l = refl

hand_script : (w : Layout) (p : Play) (out : Bool) (l : ℕ) → l < (w.network).links → HasDone out ((p.flow).link l) → script_left w (record p { flow = moved w.network (hand out l) p.flow }) ≡ script_left w p
hand_script w p out l b D = same_script w p (moved w.network (hand out l) p.flow) (move_headers w.network p.flow (hand out l) (hand_can w.network p.flow out l b D))

not_returning : (p : Play) (c : ℕ) → (p.phase ≡ 3 → p.stage c ≤ 1) → is_returning p c ≡ false
not_returning p c h = either (nat_eq p.phase 3)
    (λ t. let le : p.stage c ≤ 1 = h (eqb-true _ _ t) in let n : nat_eq (p.stage c) 2 ≡ false = ne_eqb (p.stage c) 2 (λ e. omega arith) in rw (t, n) refl)
    (λ f. rw f refl)

shorter_held : (x : LinkState) (q : List Filled) → x.held ≡ q → IsFront (λ h. Unit {0}) q → ((back_held q x).sent ≡ x.sent) × ((back_held q x).spent ≡ x.spent) × (length (back_held q x).held + 1 ≡ length x.held)
shorter_held x [] e F = absurd F
shorter_held x (h ∷ q) e F = (refl, refl, let z : length x.held ≡ suc (length q) = ap length e in omega arith)

unused_hands : (r out : Bool) (x : LinkState) → r ≡ true → HasUnused out x → hands_at r out (given_unused out x) < hands_at r out x
unused_hands r true x e U =
    let s = shorter_held x x.held refl U.1 in
    let a : length (back_held x.held x).sent ≡ length x.sent = ap length s.0 in
    let b = s.1 in let c = s.2 in
    rw e (omega arith)
unused_hands r false x e U = let a = U.1 in rw e (omega arith)

returning_of : (w : Layout) (p : Play) (l : ℕ) → IsReturning p (other_component w l) ⊎ IsDisabling (other_port w p l) → is_returning_at w p l ≡ true
returning_of w p l (inl r) = rw (r.0, r.1) refl
returning_of w p l (inr e) = or_true (is_returning p (other_component w l)) (nat_eq (other_port w p l) 2) (eq-eqb (other_port w p l) 2 e)
  where
    or_true : (a b : Bool) → b ≡ true → (a || b) ≡ true
    or_true true b e = refl
    or_true false b e = e

-- where both ports are Steady and Idle isn't pending
steady_not_returning : (w : Layout) (p : Play) (l : ℕ) → is_returning p (other_component w l) ≡ false → ArePorts IsSteadyPort (p.change l) → is_returning_at w p l ≡ false
steady_not_returning w p l e P =
    let n : nat_eq (other_port w p l) 2 ≡ false = ne_eqb (other_port w p l) 2 (steady (not (w.by_output l)) (p.change l) P) in
    rw (e, n) refl
  where
    steady : (out : Bool) (k : Change) → ArePorts IsSteadyPort k → port_at out k ≢ 2
    steady true k P e = let a = P.0 in grind (arith, a, e)
    steady false k P e = let a = P.1 in grind (arith, a, e)

-- ---- each act

pub act_less : (w : Layout) (p : Play) (a : Act) → IsReached w p → CanAct w p a → ComesBefore w (acted w a p) p
act_less w p Act.Begin R C = inl (begin_less w p R C)
act_less w p (Act.Send c) R C = inl (stage_less w p c 1 C.0 (let e = C.1 in omega arith) (omega arith))
act_less w p (Act.Run c) R C = inl (stage_less w p c 2 C.0 (let e = C.1 in omega arith) (omega arith))
act_less w p (Act.Happen c) R C = inl (happen_less w p c C)
act_less w p (Act.Tell c) R C = inl (stage_less w p c 4 C.0 (let e = C.1 in omega arith) (omega arith))
act_less w p (Act.TellEnd c) R C = inl (tell_end_less w p c C)
act_less w p (Act.Supply l) R C = inl (supply_less w p l R C)
act_less w p (Act.Release l) R C = inl (release_less w p l R C)
act_less w p (Act.HandOver l) R C = inr (inr (
  hand_script w p (w.by_output l) l C.0 C.3,
  hand_work w.network p.flow (w.by_output l) l,
  hand_less w p (w.by_output l) l C.0 (over_hands (is_returning_at w p l) (w.by_output l) ((p.flow).link l) (steady_not_returning w p l (not_returning p (other_component w l) (running_three p (other_component w l) C.2)) C.4) C.3),
))
act_less w p (Act.HandBack l) R C = inr (inr (
  hand_script w p (not (w.by_output l)) l C.0 C.2,
  hand_work w.network p.flow (not (w.by_output l)) l,
  hand_less w p (not (w.by_output l)) l C.0 (back_hands (is_returning_at w p l) (w.by_output l) ((p.flow).link l) C.2),
))
act_less w p (Act.HandUnused l) R C = inr (inr (
  same_script w p (with_link l (given_unused (w.by_output l)) p.flow) (λ k b. at_case (λ j x. headers_of x ≡ made p j) l (given_unused (w.by_output l)) p.flow k (λ _. unused_headers (w.by_output l) ((p.flow).link l) C.2) (λ _. refl)),
  refl,
  link_less w p l (given_unused (w.by_output l)) C.0 (unused_hands (is_returning_at w p l) (w.by_output l) ((p.flow).link l) (returning_of w p l C.1) C.2),
))
act_less w p (Act.Announce l) R C = inl (told_less w p l R C.0 C.1 (announce_phase w p l R C) (let e = C.3 in omega arith))
act_less w p (Act.TellSettings l) R C =
    let e = C.3 in
    inl (told_less w p l R C.0 C.1 (changing_phase w p l (p.change l) (R.changes l C.0) C.1 (omega arith) (omega arith)) (omega arith))
act_less w p (Act.Conduct l) R C = inl (conduct_less w p l R C)
act_less w p (Act.RunPort l output) R C = inl (port_less w p l output R C.0 C.1 (command_goes (port_at output (p.change l)) C.2))
act_less w p (Act.HappenPort l output) R C = inl (port_less w p l output R C.0 C.1 (due_goes (made p l) ((w.network).count l) (port_at output (p.change l)) C.2))
act_less w p (Act.TellPort l output) R C = inl (port_less w p l output R C.0 C.1 (completion_goes (port_at output (p.change l)) C.2))
act_less w p (Act.Step c n last) R C =
    let e : p.phase ≡ 2 = step_phase w p c n last R C in
    inr (inl (
      same_script w p (moved w.network (Move.Step c n last) p.flow) (move_headers w.network p.flow (Move.Step c n last) C.1),
      step_less w.network p.flow c n last (R.layout).network (R.sound (omega arith)) C.1.0 C.1.1 C.1.2,
    ))

-- ---- the three as one number

work_few : (net : Network) (s : Flow) → work_left net s ≤ all_frames net
work_few net s = sum_le net.components _ _ (λ c b. either (s.ended c) (λ t. rw t (omega arith)) (λ f. rw f (omega arith)))

hands_few : (w : Layout) (p : Play) → IsReached w p → hands_left w p ≤ 2 * all_headers w.network
hands_few w p R =
    let s = sum_le (w.network).links (hands_of w p) (λ l. 2 * (w.network).count l) (λ l b. few (is_returning_at w p l) (w.by_output l) ((p.flow).link l) ((w.network).count l) (R.few l b)) in
    omega (arith, sum_twice (w.network).links (w.network).count)
  where
    few : (r out : Bool) (x : LinkState) (count : ℕ) → headers_of x ≤ count → hands_at r out x ≤ 2 * count
    few true true x count h = omega (arith, length-append x.held x.sent)
    few true false x count h = omega (arith, length-append x.held x.sent)
    few false out x count h = omega (arith, length-append x.held x.sent)

pub act_counts : (w : Layout) (p : Play) (a : Act) → IsReached w p → CanAct w p a → acts_left w (acted w a p) < acts_left w p
act_counts w p a R C =
    let q : Play = acted w a p in
    let few : hands_left w q ≤ 2 * all_headers w.network = hands_few w q (act_reaches w p a R C) in
    let work : work_left w.network q.flow ≤ all_frames w.network = work_few w.network q.flow in
    let top : ℕ = all_frames w.network in
    let most : ℕ = 2 * all_headers w.network in
    let before : ℕ = script_left w p * (top + 1) + work_left w.network p.flow in
    let after : ℕ = script_left w q * (top + 1) + work_left w.network q.flow in
    elim (act_less w p a R C) [
      | inl less ↦ first_decides after before most (hands_left w q) (hands_left w p) (first_decides (script_left w q) (script_left w p) top (work_left w.network q.flow) (work_left w.network p.flow) less work) few
      | inr (inl s) ↦ let e = s.0 in
          let first : script_left w q * (top + 1) ≡ script_left w p * (top + 1) = ap (λ (x : ℕ). x * (top + 1)) e in
          let l = s.1 in
          first_decides after before most (hands_left w q) (hands_left w p) (omega arith) few
      | inr (inr s) ↦
          let first : script_left w q * (top + 1) ≡ script_left w p * (top + 1) = ap (λ (x : ℕ). x * (top + 1)) s.0 in
          let second : after ≡ before = let e = s.1 in omega arith in
          let third : after * (most + 1) ≡ before * (most + 1) = ap (λ (x : ℕ). x * (most + 1)) second in
          let l = s.2 in
          omega arith
    ]

pub acts_count : (w : Layout) (p : Play) (acts : List Act) → IsReached w p → CanActs w p acts → acts_left w (all_acted w acts p) + length acts ≤ acts_left w p
acts_count w p [] R C = omega arith
acts_count w p (a ∷ acts) R C =
    let i = acts_count w (acted w a p) acts (act_reaches w p a R C.0) C.1 in
    let l = act_counts w p a R C.0 in
    omega arith
