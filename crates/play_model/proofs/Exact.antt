-- The number of the rule is a number of a step.
use Rattle.std.proofs.Common.{◌≡◌, ◌⊎◌, inl, inr, ℕ, zero, suc, ◌-◌, min, ◌<◌, ◌≤◌, Bool, true, false, not, ◌&&◌, ◌||◌, nat_eq, List, [], ◌∷◌, ◌++◌, Option, Some, None, refl, sym, ◌∙◌, ap, eqb-true, eq-eqb, ne_eqb, arith}
use Rattle.std.proofs.lemmas.Bool.{eqb-false}
use Rattle.play_model.specs.Network.{Network, IsNetwork, IsOutput, Filled, Flow}
use Rattle.play_model.specs.Moves.{IsEnding, IsFront, IsOpen, CanClaim, HasNumber}
use Rattle.play_model.specs.Account.{AreFilled, IsSound}
use Rattle.play_model.specs.Exact.{is_ending, is_going, front_limit, limit_of, lesser, least_below, goes_at, any_below, at_most, or_none, step_frames}
use Rattle.play_model.proofs.Queues.{either, both}
use Rattle.play_model.proofs.Stuck.{and_true, not_true}
use Rattle.play_model.proofs.Claims.{ending_of, going_of}

-- ---- the least of some limits

record IsLeast (f : ℕ → Option ℕ) (k l x : ℕ) : Type 0 where
  least : ℕ
  is : least_below f k ≡ Some least
  under : least ≤ x

lesser_left : (a : ℕ) (o : Option ℕ) → (m : ℕ) × (lesser (Some a) o ≡ Some m) × (m ≤ a)
lesser_left a None = (a, refl, omega arith)
lesser_left a (Some b) = (min a b, refl, omega arith)

lesser_right : (o : Option ℕ) (b : ℕ) → (m : ℕ) × (lesser o (Some b) ≡ Some m) × (m ≤ b)
lesser_right None b = (b, refl, omega arith)
lesser_right (Some a) b = (min a b, refl, omega arith)

least_of : (f : ℕ → Option ℕ) (k l x : ℕ) → l < k → f l ≡ Some x → IsLeast f k l x
least_of f zero l x b e = absurd (omega (arith, b))
least_of f (suc k) l x b e = either (nat_eq l k)
    (λ t.
    let here : f k ≡ Some x = ap f (sym (eqb-true _ _ t)) ∙ e in
    let r = lesser_right (least_below f k) x in
    record { least = r.0; is = ap (lesser (least_below f k)) here ∙ r.1; under = r.2 })
    (λ n.
    let d = eqb-false _ _ n in
    let I = least_of f k l x (omega arith) e in
    let r = lesser_left I.least (f k) in
    let u = I.under in let v = r.2 in
    record { least = r.0; is = ap (λ (o : Option ℕ). lesser o (f k)) I.is ∙ r.1; under = omega arith })

some_same : (a b : ℕ) → Some a ≡ Some b → a ≡ b
some_same a b e = cc

lesser_pos : (o q : Option ℕ) (m : ℕ) → ((a : ℕ) → o ≡ Some a → 0 < a) → ((b : ℕ) → q ≡ Some b → 0 < b) → lesser o q ≡ Some m → 0 < m
lesser_pos None q m h g e = g m e
lesser_pos (Some a) None m h g e = h m e
lesser_pos (Some a) (Some b) m h g e = let x = h a refl in let y = g b refl in let z = some_same (min a b) m e in omega arith

least_pos : (f : ℕ → Option ℕ) (k m : ℕ) → ((l x : ℕ) → l < k → f l ≡ Some x → 0 < x) → least_below f k ≡ Some m → 0 < m
least_pos f zero m h e = absurd (let z : None ≡ Some m = e in cc)
least_pos f (suc k) m h e = lesser_pos (least_below f k) (f k) m (λ a q. least_pos f k a (λ l x b g. h l x (omega arith) g) q) (λ b q. h k b (omega arith) q) e

any_at : (p : ℕ → Bool) (k : ℕ) → any_below p k ≡ true → (l : ℕ) × (l < k) × (p l ≡ true)
any_at p zero e = both false e refl
any_at p (suc k) e = either (any_below p k)
    (λ t. let r = any_at p k t in let b = r.1 in (r.0, omega arith, r.2))
    (λ f. either (p k) (λ t. (k, omega arith, t)) (λ g. both (any_below p k || p k) e (rw (f, g) refl)))

none_at : (p : ℕ → Bool) (k l : ℕ) → any_below p k ≡ false → l < k → p l ≡ false
none_at p zero l e b = absurd (omega (arith, b))
none_at p (suc k) l e b = either (p l) (λ t. both (any_below p (suc k)) (any_of p (suc k) l b t) e) (λ f. f)
  where
    any_of : (p : ℕ → Bool) (k l : ℕ) → l < k → p l ≡ true → any_below p k ≡ true
    any_of p zero l b t = absurd (omega (arith, b))
    any_of p (suc k) l b t = either (nat_eq l k)
        (λ q. let here : p k ≡ true = ap p (sym (eqb-true _ _ q)) ∙ t in either (any_below p k) (λ y. rw y refl) (λ y. rw (y, here) refl))
        (λ n. let d = eqb-false _ _ n in rw (any_of p k l (omega arith) t) refl)

-- ---- the limits of a component

front_filled : (hs sent : List Filled) (x : ℕ) → AreFilled (hs ++ sent) → front_limit hs ≡ Some x → 0 < x
front_filled [] sent x A e = absurd (let z : None ≡ Some x = e in cc)
front_filled (h ∷ hs) sent x A e = either (is_ending h)
    (λ t. let z : None ≡ Some x = rw t at e in absurd cc)
    (λ f. let z : Some h.frames ≡ Some x = rw f at e in let q = some_same h.frames x z in let g = going_of h f A.0 in omega arith)

module _ (net : Network) (s : Flow) (c : ℕ) (W : IsNetwork net) (S : IsSound net s) (C : CanClaim net s c) where
  limits_pos : (l x : ℕ) → l < net.links → limit_of net s c l ≡ Some x → 0 < x
  limits_pos l x b e = either (nat_eq (net.taker l) c)
      (λ t. either (s.link l).closed
      (λ y. let z : None ≡ Some x = rw (t, y) at e in absurd cc)
      (λ y. front_filled (s.link l).held (s.link l).sent x (S.links l b).carries (rw (t, y) at e)))
      (λ t. either (nat_eq (net.giver l) c)
      (λ y. let z : Some (net.fits l) ≡ Some x = rw (t, y) at e in let q = some_same (net.fits l) x z in let p = W.fits l b in omega arith)
      (λ y. let z : None ≡ Some x = rw (t, y) at e in absurd cc))

  output_limit : (l : ℕ) → IsOutput net c l → limit_of net s c l ≡ Some (net.fits l)
  output_limit l O =
      let apart : nat_eq (net.taker l) c ≡ false = ne_eqb (net.taker l) c (λ q. let o = W.order l O.below in let g = O.given_by in omega arith) in
      rw (apart, eq-eqb (net.giver l) c O.given_by) refl

  input_limit : (l : ℕ) → IsOpen net s c l → limit_of net s c l ≡ front_limit (s.link l).held
  input_limit l O = rw (eq-eqb (net.taker l) c O.input.taken_by, O.open_) refl

  -- a number under the least meets every limit
  meets_input : (n : ℕ) → ((l x : ℕ) → l < net.links → limit_of net s c l ≡ Some x → n ≤ x) → (l : ℕ) → IsOpen net s c l → IsFront (λ h. (n ≤ h.frames) ⊎ IsEnding h) (s.link l).held
  meets_input n under l O = front_of (s.link l).held (C.inputs l O) (λ x e. under l x O.input.below (input_limit l O ∙ e))
    where
      front_of : (hs : List Filled) → IsFront (λ h. Unit {0}) hs → ((x : ℕ) → front_limit hs ≡ Some x → n ≤ x) → IsFront (λ h. (n ≤ h.frames) ⊎ IsEnding h) hs
      front_of [] F g = F
      front_of (h ∷ hs) F g = either (is_ending h) (λ t. inr (ending_of h t)) (λ f. inl (g h.frames (rw f refl)))

  going_front : (n : ℕ) (l : ℕ) → is_going (s.link l).held ≡ true → IsFront (λ h. (n ≤ h.frames) ⊎ IsEnding h) (s.link l).held → IsFront (λ h. n ≤ h.frames) (s.link l).held
  going_front n l g F = front_of (s.link l).held g F
    where
      front_of : (hs : List Filled) → is_going hs ≡ true → IsFront (λ h. (n ≤ h.frames) ⊎ IsEnding h) hs → IsFront (λ h. n ≤ h.frames) hs
      front_of [] g F = F
      front_of (h ∷ hs) g (inl le) = le
      front_of (h ∷ hs) g (inr e) = both (is_ending h) (rw (eq-eqb h.frames 0 e.0, e.1) refl) (not_true (is_ending h) g)

  no_source_open : net.is_source c ≡ true → (l : ℕ) → IsOpen net s c l → ⊥
  no_source_open t l O = both (net.is_source c) t (ap net.is_source (sym O.input.taken_by) ∙ W.unfed l O.input.below)

  fewer : (n m : ℕ) → least_below (limit_of net s c) net.links ≡ Some m → n ≤ m → (l x : ℕ) → l < net.links → limit_of net s c l ≡ Some x → n ≤ x
  fewer n m e le l x b f =
      let I = least_of (limit_of net s c) net.links l x b f in
      let q = some_same I.least m (sym I.is ∙ e) in
      let u = I.under in
      omega arith

  of_source : (o : Option ℕ) → least_below (limit_of net s c) net.links ≡ o → net.is_source c ≡ true → HasNumber net s c (at_most (net.frames c - s.done c) o)
  of_source None e t =
      let K = (S.components c C.inside).source t in
      let le : s.done c ≤ net.frames c = K.0 in
      let none : (l : ℕ) → IsOutput net c l → ⊥ = λ l O.
      let I = least_of (limit_of net s c) net.links l (net.fits l) O.below (output_limit l O) in
      let z : Some I.least ≡ None = sym I.is ∙ e in cc in
      record {
        inputs = λ l O. absurd (no_source_open t l O);
        outputs = λ l O. absurd (none l O);
        source = λ _. (omega arith, either (nat_eq (s.done c) (net.frames c)) (λ y. inr (eqb-true _ _ y)) (λ y. let d = eqb-false _ _ y in inl (omega arith)));
        other = λ f. both (net.is_source c) t f;
      }
  of_source (Some m) e t =
      let K = (S.components c C.inside).source t in
      let le : s.done c ≤ net.frames c = K.0 in
      let pos : 0 < m = least_pos (limit_of net s c) net.links m limits_pos e in
      let n : ℕ = min (net.frames c - s.done c) m in
      record {
        inputs = λ l O. absurd (no_source_open t l O);
        outputs = λ l O. fewer n m e (omega arith) l (net.fits l) O.below (output_limit l O);
        source = λ _. (omega arith, either (nat_eq (s.done c) (net.frames c)) (λ y. inr (eqb-true _ _ y)) (λ y. let d = eqb-false _ _ y in inl (omega arith)));
        other = λ f. both (net.is_source c) t f;
      }

  of_other : (o : Option ℕ) → least_below (limit_of net s c) net.links ≡ o → net.is_source c ≡ false → (l : ℕ) → l < net.links → goes_at net s c l ≡ true → HasNumber net s c (or_none o)
  of_other o e f l b g =
      let a = and_true (nat_eq (net.taker l) c) (not (s.link l).closed && is_going (s.link l).held) g in
      let d = and_true (not (s.link l).closed) (is_going (s.link l).held) a.1 in
      let O : IsOpen net s c l = record { input = record { below = b; taken_by = eqb-true _ _ a.0 }; open_ = not_true (s.link l).closed d.0 } in
      of_going o e l O d.1
    where
      of_going : (o : Option ℕ) → least_below (limit_of net s c) net.links ≡ o → (l : ℕ) → IsOpen net s c l → is_going (s.link l).held ≡ true → HasNumber net s c (or_none o)
      of_going None e l O g = absurd (there (s.link l).held g (λ x q.
          let I = least_of (limit_of net s c) net.links l x O.input.below (input_limit l O ∙ q) in
          let z : Some I.least ≡ None = sym I.is ∙ e in cc))
        where
          there : (hs : List Filled) → is_going hs ≡ true → ((x : ℕ) → front_limit hs ≡ Some x → ⊥) → ⊥
          there [] g k = both false g refl
          there (h ∷ hs) g k = k h.frames (rw (not_true (is_ending h) g) refl)
      of_going (Some m) e l O g =
          let pos : 0 < m = least_pos (limit_of net s c) net.links m limits_pos e in
          let under : (k x : ℕ) → k < net.links → limit_of net s c k ≡ Some x → m ≤ x = fewer m m e (omega arith) in
          record {
            inputs = meets_input m under;
            outputs = λ k P. under k (net.fits k) P.below (output_limit k P);
            source = λ t. both (net.is_source c) t f;
            other = λ _. inl (pos, (l, O, going_front m l g (meets_input m under l O)));
          }

  ends_all : net.is_source c ≡ false → any_below (goes_at net s c) net.links ≡ false → HasNumber net s c 0
  ends_all f e =
      let ends : (l : ℕ) → IsOpen net s c l → IsFront IsEnding (s.link l).held = λ l O.
      let g : goes_at net s c l ≡ false = none_at (goes_at net s c) net.links l e O.input.below in
      let t : nat_eq (net.taker l) c ≡ true = eq-eqb (net.taker l) c O.input.taken_by in
      let o : (s.link l).closed ≡ false = O.open_ in
      ending_front (s.link l).held (C.inputs l O) (rw (t, o) at g) in
      record {
        inputs = λ l O. weaken (s.link l).held (ends l O);
        outputs = λ l O. omega arith;
        source = λ t. both (net.is_source c) t f;
        other = λ _. inr (refl, ends);
      }
    where
      ending_front : (hs : List Filled) → IsFront (λ h. Unit {0}) hs → is_going hs ≡ false → IsFront IsEnding hs
      ending_front [] F g = F
      ending_front (h ∷ hs) F g = either (is_ending h) (λ t. ending_of h t) (λ y. both (not (is_ending h)) (ap not y) g)

      weaken : (hs : List Filled) → IsFront IsEnding hs → IsFront (λ h. (0 ≤ h.frames) ⊎ IsEnding h) hs
      weaken [] F = F
      weaken (h ∷ hs) F = inr F

  pub exact_number : HasNumber net s c (step_frames net s c)
  exact_number = either (net.is_source c)
      (λ t. rw t (of_source (least_below (limit_of net s c) net.links) refl t))
      (λ f. either (any_below (goes_at net s c) net.links)
      (λ y. let r = any_at (goes_at net s c) net.links y in rw (f, y) (of_other (least_below (limit_of net s c) net.links) refl f r.0 r.1 r.2))
      (λ y. rw (f, y) (ends_all f y)))
