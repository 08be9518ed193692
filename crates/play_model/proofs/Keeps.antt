-- Each move keeps the account of every link, and what is kept of components.
use Rattle.std.proofs.Common.{◌≡◌, ◌≢◌, ◌⊎◌, inl, inr, ℕ, ◌+◌, ◌<◌, ◌≤◌, Bool, true, false, nat_eq, nat_le, if◌then◌else◌, List, [], ◌∷◌, refl, sym, ◌∙◌, ap, subst, eqb-true, eq-eqb, ne_eqb, arith}
use Rattle.std.proofs.lemmas.Bool.{leb-true, le-leb, eqb-false}
use Rattle.play_model.specs.Network.{Network, IsNetwork, IsInput, Filled, LinkState, Flow, queue}
use Rattle.play_model.specs.Moves.{sent_on, sent_back, took, took_front, gave, stepped, with_link, IsEnding, IsFront, IsOpen, CanClaim, HasNumber, IsLastStep, Can, moved, Move}
use Rattle.play_model.specs.Account.{Account, HasAccount, IsKept, IsSound}
use Rattle.play_model.proofs.Queues.{either, both, took_keeps, gave_keeps, sent_on_queue}

-- ---- what a step takes out of an input

pub took_closed : (n : ℕ) (x : LinkState) → x.closed ≡ true → took n x ≡ x
took_closed n x t = ap (λ (b : Bool). if b then x else took_front n x.held x) t

pub took_going : (n : ℕ) (x : LinkState) → x.closed ≡ false → took n x ≡ took_front n x.held x
took_going n x f = ap (λ (b : Bool). if b then x else took_front n x.held x) f

pub record Closes (x y : LinkState) : Type 0 where
  pub closed : y.closed ≡ true
  pub taken : y.taken ≡ x.taken

front_closes : (n : ℕ) (hs : List Filled) (x : LinkState) → IsFront IsEnding hs → Closes x (took_front n hs x)
front_closes n [] x F = absurd F
front_closes n (h ∷ rest) x F =
    let t : nat_le h.frames n ≡ true = le-leb h.frames n (let e = F.0 in omega arith) in
    rw t (record { closed = F.1; taken = let e = F.0 in omega arith })

-- an ending header is spent, and its input has then ended
pub ending_closes : (n : ℕ) (x : LinkState) → x.closed ≡ false → IsFront IsEnding x.held → Closes x (took n x)
ending_closes n x f F = subst (λ y. Closes x y) (sym (took_going n x f)) (front_closes n x.held x F)

front_takes : (n : ℕ) (hs : List Filled) (x : LinkState) → IsFront (λ h. n ≤ h.frames) hs → (took_front n hs x).taken ≡ x.taken + n
front_takes n [] x F = absurd F
front_takes n (h ∷ rest) x F = either (nat_le h.frames n)
    (λ t. let le : h.frames ≤ n = leb-true _ _ t in rw t (omega arith))
    (λ g. rw g refl)

-- one that isn't ending gives n frames
pub going_takes : (n : ℕ) (x : LinkState) → x.closed ≡ false → IsFront (λ h. n ≤ h.frames) x.held → (took n x).taken ≡ x.taken + n
going_takes n x f F = subst (λ y. y.taken ≡ x.taken + n) (sym (took_going n x f)) (front_takes n x.held x F)

-- ---- the parts of a flow after a step

module _ (net : Network) (c n : ℕ) (last : Bool) (s : Flow) where
  pub done_self : (stepped net c n last s).done c ≡ s.done c + n
  done_self = rw (eq-eqb c c refl) refl

  pub ended_self : (stepped net c n last s).ended c ≡ last
  ended_self = rw (eq-eqb c c refl) refl

  pub done_other : (k : ℕ) → k ≢ c → (stepped net c n last s).done k ≡ s.done k
  done_other k a = rw (ne_eqb k c a) refl

  pub ended_other : (k : ℕ) → k ≢ c → (stepped net c n last s).ended k ≡ s.ended k
  ended_other k a = rw (ne_eqb k c a) refl

  pub link_in : (l : ℕ) → net.taker l ≡ c → (stepped net c n last s).link l ≡ took n (s.link l)
  link_in l e = rw (eq-eqb (net.taker l) c e) refl

  pub link_out : (l : ℕ) → net.taker l ≢ c → net.giver l ≡ c → (stepped net c n last s).link l ≡ gave n last (s.link l)
  link_out l a e = rw (ne_eqb (net.taker l) c a, eq-eqb (net.giver l) c e) refl

  pub link_else : (l : ℕ) → net.taker l ≢ c → net.giver l ≢ c → (stepped net c n last s).link l ≡ s.link l
  link_else l a b = rw (ne_eqb (net.taker l) c a, ne_eqb (net.giver l) c b) refl

  -- what the taker knows of a link stays as the giver steps
  pub closed_other : (l : ℕ) → net.taker l ≢ c → ((stepped net c n last s).link l).closed ≡ (s.link l).closed
  closed_other l a = either (nat_eq (net.giver l) c)
      (λ t. ap (λ (x : LinkState). x.closed) (link_out l a (eqb-true _ _ t)))
      (λ f. ap (λ (x : LinkState). x.closed) (link_else l a (eqb-false _ _ f)))

  pub taken_other : (l : ℕ) → net.taker l ≢ c → ((stepped net c n last s).link l).taken ≡ (s.link l).taken
  taken_other l a = either (nat_eq (net.giver l) c)
      (λ t. ap (λ (x : LinkState). x.taken) (link_out l a (eqb-true _ _ t)))
      (λ f. ap (λ (x : LinkState). x.taken) (link_else l a (eqb-false _ _ f)))

-- ---- a step does a frame, or is the last one

pub does_some : (net : Network) (s : Flow) (c n : ℕ) (last : Bool) → IsSound net s → CanClaim net s c → HasNumber net s c n → IsLastStep net s c n last → (0 < n) ⊎ (last ≡ true)
does_some net s c n last S C N L = either (net.is_source c)
    (λ t. let le : s.done c + n ≤ net.frames c = (N.source t).0 in elim ((N.source t).1) [
      | inl more ↦ inl more
      | inr e ↦ inr (L.source t ∙ eq-eqb (s.done c + n) (net.frames c) (omega arith))
    ])
    (λ f. elim (N.other f) [
      | inl more ↦ inl more.0
      | inr none ↦ either last inr (λ g.
          let w = L.some f g in
          let x : LinkState = s.link w.0 in
          let closed : (took n x).closed ≡ true = either x.closed
          (λ t. ap (λ (y : LinkState). y.closed) (took_closed n x t) ∙ t)
          (λ h. (ending_closes n x h (none.1 w.0 (record { input = w.1; open_ = h }))).closed) in
          both (took n x).closed closed w.2)
    ])

-- ---- the links after a step

pub step_links : (net : Network) (s : Flow) (c n : ℕ) (last : Bool) → IsNetwork net → IsSound net s → CanClaim net s c → HasNumber net s c n → IsLastStep net s c n last →
    (l : ℕ) → l < net.links → HasAccount net (stepped net c n last s) l
step_links net s c n last W S C N L l b = either (nat_eq (net.taker l) c)
    (λ t.
    let e : net.taker l ≡ c = eqb-true _ _ t in
    let g : nat_eq (net.giver l) c ≡ false = ne_eqb (net.giver l) c (λ q. let o = W.order l b in omega arith) in
    rw (t, g) (took_keeps (s.done (net.giver l)) (s.ended (net.giver l)) (s.done (net.taker l)) n (s.link l) (S.links l b)
    (λ f. N.inputs l (record { input = record { below = b; taken_by = e }; open_ = f }))))
    (λ f. either (nat_eq (net.giver l) c)
    (λ t.
    let e : net.giver l ≡ c = eqb-true _ _ t in
    let z : s.ended (net.giver l) ≡ false = ap s.ended e ∙ C.going in
    rw (f, t) (gave_keeps (s.done (net.giver l)) (s.done (net.taker l)) n last (s.link l)
    (subst (λ (o : Bool). Account (s.done (net.giver l)) o (s.done (net.taker l)) (s.link l).taken (s.link l).closed (queue (s.link l))) z (S.links l b))
    (does_some net s c n last S C N L)))
    (λ g. rw (f, g) (S.links l b)))

-- ---- the components after a step

step_self : (net : Network) (s : Flow) (c n : ℕ) (last : Bool) → IsNetwork net → IsSound net s → CanClaim net s c → HasNumber net s c n → IsLastStep net s c n last →
    IsKept net (stepped net c n last s) c
step_self net s c n last W S C N L =
    let K : IsKept net s c = S.components c C.inside in
    let t : Flow = stepped net c n last s in
    let input : (l : ℕ) → IsInput net c l → t.link l ≡ took n (s.link l) = λ l I. link_in net c n last s l I.taken_by in
    let ended : t.ended c ≡ last = ended_self net c n last s in
    let done : t.done c ≡ s.done c + n = done_self net c n last s in
    let longest : net.is_source c ≡ false → (l : ℕ) × IsInput net c l × ((took n (s.link l)).taken ≡ s.done c + n) = λ f. elim (N.other f) [
      | inl more ↦ let w = more.1 in
          let l : ℕ = w.0 in
          let o : IsOpen net s c l = w.1 in
          let i : IsInput net c l = o.input in
          let level : (s.link l).taken ≡ s.done (net.taker l) = (S.links l i.below).level o.open_ in
          (l, i, going_takes n (s.link l) o.open_ w.2 ∙ ap (λ (k : ℕ). k + n) (level ∙ ap s.done i.taken_by))
      | inr none ↦ let w = K.going f C.going in
          let l : ℕ = w.0 in
          let i : IsInput net c l = w.1 in
          let level : (s.link l).taken ≡ s.done (net.taker l) = (S.links l i.below).level w.2 in
          let level_c : (s.link l).taken ≡ s.done c = level ∙ ap s.done i.taken_by in
          let same : (took n (s.link l)).taken ≡ (s.link l).taken = (ending_closes n (s.link l) w.2 (none.1 l (record { input = i; open_ = w.2 }))).taken in
          let e : n ≡ 0 = none.0 in
          (l, i, omega arith)
    ] in
    record {
      source = λ z. let le : s.done c + n ≤ net.frames c = (N.source z).0 in
          (rw done le, λ e. done ∙ eqb-true _ _ (sym (L.source z) ∙ (sym ended ∙ e)));
      over = λ f e l I. ap (λ (x : LinkState). x.closed) (input l I) ∙ L.all f (sym ended ∙ e) l I;
      going = λ f e. let w = L.some f (sym ended ∙ e) in (w.0, w.1, ap (λ (x : LinkState). x.closed) (input w.0 w.1) ∙ w.2);
      longest = λ f. let w = longest f in (w.0, w.1, ap (λ (x : LinkState). x.taken) (input w.0 w.1) ∙ w.2 ∙ sym done);
    }

step_other : (net : Network) (s : Flow) (c n : ℕ) (last : Bool) (k : ℕ) → k ≢ c → IsKept net s k → IsKept net (stepped net c n last s) k
step_other net s c n last k a K =
    let t : Flow = stepped net c n last s in
    let apart : (l : ℕ) → IsInput net k l → net.taker l ≢ c = λ l I e. a (sym I.taken_by ∙ e) in
    let closed : (l : ℕ) → IsInput net k l → (t.link l).closed ≡ (s.link l).closed = λ l I. closed_other net c n last s l (apart l I) in
    let taken : (l : ℕ) → IsInput net k l → (t.link l).taken ≡ (s.link l).taken = λ l I. taken_other net c n last s l (apart l I) in
    let ended : t.ended k ≡ s.ended k = ended_other net c n last s k a in
    let done : t.done k ≡ s.done k = done_other net c n last s k a in
    record {
      source = λ z. (rw done (K.source z).0, λ e. done ∙ (K.source z).1 (sym ended ∙ e));
      over = λ f e l I. closed l I ∙ K.over f (sym ended ∙ e) l I;
      going = λ f e. let w = K.going f (sym ended ∙ e) in (w.0, w.1, closed w.0 w.1 ∙ w.2);
      longest = λ f. let w = K.longest f in (w.0, w.1, taken w.0 w.1 ∙ w.2 ∙ sym done);
    }

pub step_keeps : (net : Network) (s : Flow) (c n : ℕ) (last : Bool) → IsNetwork net → IsSound net s → CanClaim net s c → HasNumber net s c n → IsLastStep net s c n last →
    IsSound net (stepped net c n last s)
step_keeps net s c n last W S C N L = record {
  links = step_links net s c n last W S C N L;
  components = λ k b. either (nat_eq k c)
      (λ t. subst (λ (j : ℕ). IsKept net (stepped net c n last s) j) (sym (eqb-true _ _ t)) (step_self net s c n last W S C N L))
      (λ f. step_other net s c n last k (eqb-false _ _ f) (S.components k b));
}

-- ---- a header that goes on or comes back changes nothing that the account speaks of

pub record Same (x y : LinkState) : Type 0 where
  pub taken : y.taken ≡ x.taken
  pub closed : y.closed ≡ x.closed
  pub filled : queue y ≡ queue x

pub same_at : (l : ℕ) (change : LinkState → LinkState) (s : Flow) → Same (s.link l) (change (s.link l)) → (k : ℕ) → Same (s.link k) ((with_link l change s).link k)
same_at l change s h k = either (nat_eq k l)
    (λ t. rw t (subst (λ (j : ℕ). Same (s.link j) (change (s.link j))) (sym (eqb-true _ _ t)) h))
    (λ f. rw f (record { taken = refl; closed = refl; filled = refl }))

pub same_keeps : (net : Network) (s : Flow) (link : ℕ → LinkState) → ((k : ℕ) → Same (s.link k) (link k)) → IsSound net s → IsSound net (record s { link = link })
same_keeps net s link h S = record {
  links = λ k b. let H = h k in rw (H.taken, H.closed, H.filled) (S.links k b);
  components = λ k b. let K = S.components k b in record {
    source = K.source;
    over = λ f e l I. (h l).closed ∙ K.over f e l I;
    going = λ f e. let w = K.going f e in (w.0, w.1, (h w.0).closed ∙ w.2);
    longest = λ f. let w = K.longest f in (w.0, w.1, (h w.0).taken ∙ w.2);
  };
}

pub on_same : (x : LinkState) (q : List Filled) → x.sent ≡ q → Same x (sent_on q x)
on_same x [] e = record { taken = refl; closed = refl; filled = refl }
on_same x (h ∷ q) e = record { taken = refl; closed = refl; filled = sent_on_queue x (h ∷ q) e }

pub move_keeps : (net : Network) (s : Flow) (m : Move) → IsNetwork net → IsSound net s → Can net s m → IsSound net (moved net m s)
move_keeps net s (Move.Step c n last) W S C = step_keeps net s c n last W S C.0 C.1 C.2
move_keeps net s (Move.Forward l) W S C =
    same_keeps net s (with_link l (λ x. sent_on x.sent x) s).link (same_at l (λ x. sent_on x.sent x) s (on_same (s.link l) (s.link l).sent refl)) S
move_keeps net s (Move.Back l) W S C =
    same_keeps net s (with_link l sent_back s).link (same_at l sent_back s (record { taken = refl; closed = refl; filled = refl })) S
