-- Each move keeps that what an input has taken, followed by what is on its way, is the plain function of what came into
-- the giver.
use Rattle.std.proofs.Common.{◌≡◌, ◌≢◌, ◌⊎◌, inl, inr, ℕ, ◌+◌, ◌-◌, ◌*◌, ◌<◌, ◌≤◌, Bool, nat_eq, nat_le, nat_lt, if◌then◌else◌, List, [], ◌∷◌, ◌++◌, length, take, drop, replicate, refl, sym, ◌∙◌, ap, subst, append_assoc, append-nil, length-append, length-drop, take-append-drop, take-add, length-take-le, eqb-true, eq-eqb, ne_eqb, add-mul, arith}
use Rattle.std.proofs.lemmas.Bool.{eqb-false, leb-true, leb-false, ltb-true, lt-ltb}
use Rattle.std.proofs.lemmas.List.{replicate-append-replicate, length-replicate}
use Rattle.std.proofs.Math.Path.{fun_ext}
use Rattle.play_model.specs.Network.{Network, IsNetwork, IsInput, Filled, LinkState, Flow, queue, frames_in}
use Rattle.play_model.specs.Moves.{took, took_front, gave, stepped, with_link, sent_on, sent_back, IsEnding, IsFront, HasNumber, Can, moved, Move}
use Rattle.play_model.specs.Account.{IsSound}
use Rattle.play_model.specs.Content.{Incoming, joined, HasFrames, Contents, AreContents, Streams, padded, front_taken, frames_taken, came, piece, streamed, IsStream, AreStreams}
use Rattle.play_model.proofs.Queues.{either, frames_push}
use Rattle.play_model.proofs.Keeps.{took_closed, took_going, done_self, done_other, link_in, link_out, link_else, taken_other, Same, same_at, on_same}

-- ---- padding

padded_full : (a : ℕ) (xs : List ℕ) → length xs ≡ a → padded a xs ≡ xs
padded_full a xs e = let z : a - length xs ≡ 0 = omega arith in rw z (append-nil xs)

pub length-padded : (a : ℕ) (xs : List ℕ) → length xs ≤ a → length (padded a xs) ≡ a
length-padded a xs l = length-append xs (replicate (a - length xs) 0) ∙ omega (arith, length-replicate {A = ℕ} (a - length xs) 0)

-- both are whole, or nothing more came
padded_join : (a b : ℕ) (xs ys : List ℕ) → ((length xs ≡ a) × (length ys ≡ b)) ⊎ ((length xs ≤ a) × (ys ≡ [])) → padded (a + b) (xs ++ ys) ≡ padded a xs ++ padded b ys
padded_join a b xs ys (inl e) =
    padded_full (a + b) (xs ++ ys) (length-append xs ys ∙ omega (arith, e.0, e.1))
    ∙ sym (ap (λ (z : List ℕ). z ++ padded b ys) (padded_full a xs e.0) ∙ ap (λ (z : List ℕ). xs ++ z) (padded_full b ys e.1))
padded_join a b xs ys (inr e) =
    let le : length xs ≤ a = e.0 in
    let split : (a + b) - length xs ≡ (a - length xs) + b = omega arith in
    let zeros : replicate {A = ℕ} ((a + b) - length xs) 0 ≡ replicate (a - length xs) 0 ++ replicate b 0 = rw split (sym (replicate-append-replicate (a - length xs) b 0)) in
    let rest : b - 0 ≡ b = omega arith in
    rw (e.1, append-nil xs, zeros, rest) (sym (append_assoc xs (replicate (a - length xs) 0) (replicate b 0)))

-- ---- the frames that a step takes

took_taken : (n : ℕ) (x : LinkState) → (took n x).taken ≡ x.taken + frames_taken n x
took_taken n x = either x.closed
    (λ t. ap (λ (y : LinkState). y.taken) (took_closed n x t) ∙ (let z : frames_taken n x ≡ 0 = rw t refl in omega arith))
    (λ f. ap (λ (y : LinkState). y.taken) (took_going n x f) ∙ (let z : frames_taken n x ≡ front_taken n x.held = rw f refl in rw z (front_case n x.held x)))
  where
    front_case : (n : ℕ) (hs : List Filled) (x : LinkState) → (took_front n hs x).taken ≡ x.taken + front_taken n hs
    front_case n [] x = omega arith
    front_case n (h ∷ rest) x = either (nat_le h.frames n) (λ t. rw t refl) (λ f. rw f refl)

took_queue : (n : ℕ) (x : LinkState) → frames_in (queue x) ≡ frames_taken n x + frames_in (queue (took n x))
took_queue n x = either x.closed
    (λ t. (let z : frames_taken n x ≡ 0 = rw t refl in let y : frames_in (queue (took n x)) ≡ frames_in (queue x) = ap (λ (y : LinkState). frames_in (queue y)) (took_closed n x t) in omega arith))
    (λ f. (let z : frames_taken n x ≡ front_taken n x.held = rw f refl in
    let y : frames_in (queue (took n x)) ≡ frames_in (queue (took_front n x.held x)) = ap (λ (y : LinkState). frames_in (queue y)) (took_going n x f) in
    let w = front_case n x.held x refl in omega arith))
  where
    front_case : (n : ℕ) (hs : List Filled) (x : LinkState) → x.held ≡ hs → frames_in (queue x) ≡ front_taken n hs + frames_in (queue (took_front n hs x))
    front_case n [] x e = omega arith
    front_case n (h ∷ rest) x e =
        let long : frames_in (queue x) ≡ h.frames + frames_in (rest ++ x.sent) = ap (λ (z : List Filled). frames_in (z ++ x.sent)) e in
        either (nat_le h.frames n) (λ t. rw t (omega arith)) (λ f. let lt : n < h.frames = leb-false _ _ f in rw f (omega arith))

-- an input gives its n frames, or it has ended or is ending and gives none
takes_all_or_none : (net : Network) (s : Flow) (c n : ℕ) → IsSound net s → HasNumber net s c n → (l : ℕ) → IsInput net c l →
    ((frames_taken n (s.link l) ≡ n) × ((s.link l).taken ≡ s.done c)) ⊎ (frames_taken n (s.link l) ≡ 0)
takes_all_or_none net s c n S N l I = either (s.link l).closed
    (λ t. inr (rw t refl))
    (λ f.
    let z : frames_taken n (s.link l) ≡ front_taken n (s.link l).held = rw f refl in
    let level : (s.link l).taken ≡ s.done c = (S.links l I.below).level f ∙ ap s.done I.taken_by in
    elim (front_case n (s.link l).held (N.inputs l (record { input = I; open_ = f }))) [
      | inl a ↦ inl (z ∙ a, level)
      | inr o ↦ inr (z ∙ o)
    ])
  where
    front_case : (n : ℕ) (hs : List Filled) → IsFront (λ h. (n ≤ h.frames) ⊎ IsEnding h) hs → (front_taken n hs ≡ n) ⊎ (front_taken n hs ≡ 0)
    front_case n [] F = absurd F
    front_case n (h ∷ rest) F = either (nat_le h.frames n)
        (λ t. let le : h.frames ≤ n = leb-true _ _ t in elim F [ inl more ↦ inl (rw t (omega arith)) | inr e ↦ inr (rw t e.0) ])
        (λ g. inl (rw g refl))

-- ---- the streams after a step

pub incoming_same : (a b : Incoming) → ((i : ℕ) → a.input i ≡ b.input i) → a.file ≡ b.file → a ≡ b
incoming_same a b h e = λ j. record { input = fun_ext h j; file = e j }

pub times_le : (a b f : ℕ) → a ≤ b → a * f ≤ b * f
times_le a b f l = grind arith

module _ (net : Network) (p : Contents) (s : Flow) (st : Streams) (c n : ℕ) (last : Bool) where
  taken_in : (l : ℕ) → net.taker l ≡ c → (streamed net p s (Move.Step c n last) st).taken l ≡ st.taken l ++ take (frames_taken n (s.link l) * p.unit l) (st.flowing l)
  taken_in l e = rw (eq-eqb (net.taker l) c e) refl

  taken_else : (l : ℕ) → net.taker l ≢ c → (streamed net p s (Move.Step c n last) st).taken l ≡ st.taken l
  taken_else l a = rw (ne_eqb (net.taker l) c a) refl

  flow_in : (l : ℕ) → net.taker l ≡ c → (streamed net p s (Move.Step c n last) st).flowing l ≡ drop (frames_taken n (s.link l) * p.unit l) (st.flowing l)
  flow_in l e = rw (eq-eqb (net.taker l) c e) refl

  flow_out : (l : ℕ) → net.taker l ≢ c → net.giver l ≡ c → (streamed net p s (Move.Step c n last) st).flowing l ≡ st.flowing l ++ (p.part c).plain (piece net p s st c n) (p.output l)
  flow_out l a e = rw (ne_eqb (net.taker l) c a, eq-eqb (net.giver l) c e) refl

  flow_else : (l : ℕ) → net.taker l ≢ c → net.giver l ≢ c → (streamed net p s (Move.Step c n last) st).flowing l ≡ st.flowing l
  flow_else l a b = rw (ne_eqb (net.taker l) c a, ne_eqb (net.giver l) c b) refl

-- nothing more came into another component
came_other : (net : Network) (p : Contents) (s : Flow) (st : Streams) (c n : ℕ) (last : Bool) → AreContents net p → (g : ℕ) → g ≢ c →
    came net p (stepped net c n last s) (streamed net p s (Move.Step c n last) st) g ≡ came net p s st g
came_other net p s st c n last P g a =
    let t : Flow = stepped net c n last s in
    let u : Streams = streamed net p s (Move.Step c n last) st in
    let done : t.done g ≡ s.done g = done_other net c n last s g a in
    incoming_same (came net p t u g) (came net p s st g)
    (λ i. either (nat_lt i (p.part g).inputs)
    (λ y.
    let I = (P.inputs g i (ltb-true _ _ y)).0 in
    let same : u.taken (p.input g i) ≡ st.taken (p.input g i) = taken_else net p s st c n last (p.input g i) (λ e. a (sym I.taken_by ∙ e)) in
    rw y (ap (λ (d : ℕ). padded (d * (p.part g).input_frame) (u.taken (p.input g i))) done ∙ ap (padded (s.done g * (p.part g).input_frame)) same))
    (λ z. rw z refl))
    (ap (λ (d : ℕ). if net.is_source g then take (d * (p.part g).output_frame) (p.file g) else []) done)

-- as many bytes as frames
module _ (net : Network) (p : Contents) (s : Flow) (st : Streams) (c n : ℕ) (W : IsNetwork net) (S : IsSound net s) (N : HasNumber net s c n) (P : AreContents net p) (T : AreStreams net p s st) where
  few_taken : (l : ℕ) → IsInput net c l → frames_taken n (s.link l) * p.unit l ≤ length (st.flowing l)
  few_taken l I =
      let q = took_queue n (s.link l) in
      let f = (T l I.below).flowing in
      let le : frames_taken n (s.link l) ≤ frames_in (queue (s.link l)) = omega arith in
      omega (arith, times_le (frames_taken n (s.link l)) (frames_in (queue (s.link l))) (p.unit l) le)

  -- what came and the piece are what came after the step, at one input
  input_joins : (l f : ℕ) → IsInput net c l → p.unit l ≡ f →
      padded ((s.done c + n) * f) (st.taken l ++ take (frames_taken n (s.link l) * p.unit l) (st.flowing l))
      ≡ padded (s.done c * f) (st.taken l) ++ padded (n * f) (take (frames_taken n (s.link l) * p.unit l) (st.flowing l))
  input_joins l f I e =
      let k : ℕ = frames_taken n (s.link l) in
      let xs : List ℕ = st.taken l in
      let ys : List ℕ = take (k * p.unit l) (st.flowing l) in
      let size : length ys ≡ k * p.unit l = length-take-le (k * p.unit l) (st.flowing l) (few_taken l I) in
      let took_ : length xs ≡ (s.link l).taken * p.unit l = (T l I.below).taken in
      let behind : (s.link l).taken ≤ s.done c = subst (λ (j : ℕ). (s.link l).taken ≤ s.done j) I.taken_by (S.links l I.below).behind in
      rw (add-mul (s.done c) n f) (padded_join (s.done c * f) (n * f) xs ys (elim (takes_all_or_none net s c n S N l I) [
        | inl a ↦ inl (took_ ∙ ap₂ a.1 e, size ∙ ap₂ a.0 e)
        | inr z ↦ inr (
          subst (λ (u : ℕ). length xs ≤ s.done c * u) e (omega (arith, took_, times_le (s.link l).taken (s.done c) (p.unit l) behind)),
          no_bytes (k * p.unit l) (st.flowing l) (ap (λ (x : ℕ). x * p.unit l) z ∙ omega arith),
        )
      ]))
    where
      ap₂ : {a b x y : ℕ} → a ≡ b → x ≡ y → a * x ≡ b * y
      ap₂ h e = λ i. h i * e i

      no_bytes : (m : ℕ) (zs : List ℕ) → m ≡ 0 → take m zs ≡ []
      no_bytes m zs e = rw e refl

  came_self : (last : Bool) → came net p (stepped net c n last s) (streamed net p s (Move.Step c n last) st) c ≡ joined (came net p s st c) (piece net p s st c n)
  came_self last =
      let t : Flow = stepped net c n last s in
      let u : Streams = streamed net p s (Move.Step c n last) st in
      let done : t.done c ≡ s.done c + n = done_self net c n last s in
      let f : ℕ = (p.part c).input_frame in
      let o : ℕ = (p.part c).output_frame in
      incoming_same (came net p t u c) (joined (came net p s st c) (piece net p s st c n))
      (λ i. either (nat_lt i (p.part c).inputs)
      (λ y.
      let I = P.inputs c i (ltb-true _ _ y) in
      let l : ℕ = p.input c i in
      rw y (ap (λ (d : ℕ). padded (d * f) (u.taken l)) done
      ∙ (ap (padded ((s.done c + n) * f)) (taken_in net p s st c n last l (I.0).taken_by) ∙ input_joins l f I.0 I.1)))
      (λ z. rw z refl))
      (ap (λ (d : ℕ). if net.is_source c then take (d * o) (p.file c) else []) done
      ∙ either (net.is_source c)
      (λ y. rw y (ap (λ (d : ℕ). take d (p.file c)) (add-mul (s.done c) n o) ∙ take-add (s.done c * o) (n * o) (p.file c)))
      (λ z. rw z refl))

  -- ---- both have whole frames

  came_frames : HasFrames (p.part c) (s.done c) (came net p s st c)
  came_frames = record {
    input = λ i b.
        let I = P.inputs c i b in
        let l : ℕ = p.input c i in
        let f : ℕ = (p.part c).input_frame in
        let took_ : length (st.taken l) ≡ (s.link l).taken * p.unit l = (T l (I.0).below).taken in
        let behind : (s.link l).taken ≤ s.done c = subst (λ (j : ℕ). (s.link l).taken ≤ s.done j) (I.0).taken_by (S.links l (I.0).below).behind in
        let fits : length (st.taken l) ≤ s.done c * f = subst (λ (u : ℕ). length (st.taken l) ≤ s.done c * u) I.1 (omega (arith, took_, times_le (s.link l).taken (s.done c) (p.unit l) behind)) in
        rw (lt-ltb i (p.part c).inputs b) (length-padded (s.done c * f) (st.taken l) fits);
    file = λ z. either (net.is_source c)
        (λ t.
        let o : ℕ = (p.part c).output_frame in
        let size : length (p.file c) ≡ net.frames c * o = (P.sources c t).1 in
        let le : s.done c + n ≤ net.frames c = (N.source t).0 in
        let few : s.done c * o ≤ net.frames c * o = times_le (s.done c) (net.frames c) o (omega arith) in
        rw t (length-take-le (s.done c * o) (p.file c) (omega arith)))
        (λ f. absurd (let b = P.others c f in omega arith));
  }

  piece_frames : HasFrames (p.part c) n (piece net p s st c n)
  piece_frames = record {
    input = λ i b.
        let I = P.inputs c i b in
        let l : ℕ = p.input c i in
        let f : ℕ = (p.part c).input_frame in
        let k : ℕ = frames_taken n (s.link l) in
        let ys : List ℕ = take (k * p.unit l) (st.flowing l) in
        let size : length ys ≡ k * p.unit l = length-take-le (k * p.unit l) (st.flowing l) (few_taken l I.0) in
        let few : k ≤ n = elim (takes_all_or_none net s c n S N l I.0) [ inl a ↦ let q = a.0 in omega arith | inr z ↦ omega arith ] in
        let fits : length ys ≤ n * f = subst (λ (u : ℕ). length ys ≤ n * u) I.1 (omega (arith, size, times_le k n (p.unit l) few)) in
        rw (lt-ltb i (p.part c).inputs b) (length-padded (n * f) ys fits);
    file = λ z. either (net.is_source c)
        (λ t.
        let o : ℕ = (p.part c).output_frame in
        let size : length (p.file c) ≡ net.frames c * o = (P.sources c t).1 in
        let le : s.done c + n ≤ net.frames c = (N.source t).0 in
        let few : (s.done c + n) * o ≤ net.frames c * o = times_le (s.done c + n) (net.frames c) o le in
        let rest : length (drop (s.done c * o) (p.file c)) ≡ length (p.file c) - s.done c * o = length-drop (s.done c * o) (p.file c) in
        rw t (length-take-le (n * o) (drop (s.done c * o) (p.file c)) (omega (arith, add-mul (s.done c) n o))))
        (λ f. absurd (let b = P.others c f in omega arith));
  }

  -- ---- each link

  stream_in : (last : Bool) (l : ℕ) → l < net.links → net.taker l ≡ c → IsStream net p (stepped net c n last s) (streamed net p s (Move.Step c n last) st) l
  stream_in last l b e =
      let t : Flow = stepped net c n last s in
      let u : Streams = streamed net p s (Move.Step c n last) st in
      let k : ℕ = frames_taken n (s.link l) in
      let m : ℕ = k * p.unit l in
      let I : IsInput net c l = record { below = b; taken_by = e } in
      let few : m ≤ length (st.flowing l) = few_taken l I in
      let taken : u.taken l ≡ st.taken l ++ take m (st.flowing l) = taken_in net p s st c n last l e in
      let flowing : u.flowing l ≡ drop m (st.flowing l) = flow_in net p s st c n last l e in
      let apart : net.giver l ≢ c = λ q. let o = W.order l b in omega arith in
      let here : t.link l ≡ took n (s.link l) = link_in net c n last s l e in
      record {
        given = ap (λ (z : List ℕ). z ++ u.flowing l) taken ∙ (ap (λ (z : List ℕ). (st.taken l ++ take m (st.flowing l)) ++ z) flowing
            ∙ (append_assoc (st.taken l) (take m (st.flowing l)) (drop m (st.flowing l)) ∙ (ap (λ (z : List ℕ). st.taken l ++ z) (take-append-drop m (st.flowing l))
            ∙ ((T l b).given ∙ ap (λ (x : Incoming). (p.part (net.giver l)).plain x (p.output l)) (sym (came_other net p s st c n last P (net.giver l) apart))))));
        taken = ap length taken ∙ (length-append (st.taken l) (take m (st.flowing l)) ∙
            (let size : length (take m (st.flowing l)) ≡ m = length-take-le m (st.flowing l) few in
            let before : length (st.taken l) ≡ (s.link l).taken * p.unit l = (T l b).taken in
            let after : (t.link l).taken ≡ (s.link l).taken + k = ap (λ (x : LinkState). x.taken) here ∙ took_taken n (s.link l) in
            rw after (omega (arith, add-mul (s.link l).taken k (p.unit l)))));
        flowing = ap length flowing ∙ (length-drop m (st.flowing l) ∙
            (let before : length (st.flowing l) ≡ frames_in (queue (s.link l)) * p.unit l = (T l b).flowing in
            let after : frames_in (queue (t.link l)) ≡ frames_in (queue (took n (s.link l))) = ap (λ (x : LinkState). frames_in (queue x)) here in
            let split : frames_in (queue (s.link l)) ≡ k + frames_in (queue (took n (s.link l))) = took_queue n (s.link l) in
            let product : frames_in (queue (s.link l)) * p.unit l ≡ m + frames_in (queue (took n (s.link l))) * p.unit l = ap (λ (x : ℕ). x * p.unit l) split ∙ add-mul k (frames_in (queue (took n (s.link l)))) (p.unit l) in
            rw after (omega arith)));
      }

  stream_out : (last : Bool) (l : ℕ) → l < net.links → net.taker l ≢ c → net.giver l ≡ c → IsStream net p (stepped net c n last s) (streamed net p s (Move.Step c n last) st) l
  stream_out last l b a e =
      let t : Flow = stepped net c n last s in
      let u : Streams = streamed net p s (Move.Step c n last) st in
      let new : List ℕ = (p.part c).plain (piece net p s st c n) (p.output l) in
      let taken : u.taken l ≡ st.taken l = taken_else net p s st c n last l a in
      let flowing : u.flowing l ≡ st.flowing l ++ new = flow_out net p s st c n last l a e in
      let here : t.link l ≡ gave n last (s.link l) = link_out net c n last s l a e in
      let unit : p.unit l ≡ (p.part c).output_frame = P.outputs l b ∙ ap (λ (g : ℕ). (p.part g).output_frame) e in
      record {
        given = ap (λ (z : List ℕ). z ++ u.flowing l) taken ∙ (ap (λ (z : List ℕ). st.taken l ++ z) flowing
            ∙ (sym (append_assoc (st.taken l) (st.flowing l) new)
            ∙ (ap (λ (z : List ℕ). z ++ new) ((T l b).given ∙ ap (λ (g : ℕ). (p.part g).plain (came net p s st g) (p.output l)) e)
            ∙ (sym ((P.parts c).joins (s.done c) n (came net p s st c) (piece net p s st c n) came_frames piece_frames (p.output l))
            ∙ (ap (λ (x : Incoming). (p.part c).plain x (p.output l)) (sym (came_self last))
            ∙ ap (λ (g : ℕ). (p.part g).plain (came net p t u g) (p.output l)) (sym e))))));
        taken = ap length taken ∙ ((T l b).taken ∙ ap (λ (x : ℕ). x * p.unit l) (sym (taken_other net c n last s l a)));
        flowing = ap length flowing ∙ (length-append (st.flowing l) new ∙
            (let size : length new ≡ n * (p.part c).output_frame = (P.parts c).sized n (piece net p s st c n) piece_frames (p.output l) in
            let size_u : length new ≡ n * p.unit l = size ∙ ap (λ (x : ℕ). n * x) (sym unit) in
            let before : length (st.flowing l) ≡ frames_in (queue (s.link l)) * p.unit l = (T l b).flowing in
            let x : LinkState = s.link l in
            let h : Filled = record { frames = n; last = last } in
            let after : frames_in (queue (t.link l)) ≡ frames_in (queue x) + n = ap (λ (y : LinkState). frames_in (queue y)) here
            ∙ (ap frames_in (sym (append_assoc x.held x.sent (h ∷ []))) ∙ frames_push (queue x) h) in
            rw after (omega (arith, add-mul (frames_in (queue x)) n (p.unit l)))));
      }

  stream_else : (last : Bool) (l : ℕ) → l < net.links → net.taker l ≢ c → net.giver l ≢ c → IsStream net p (stepped net c n last s) (streamed net p s (Move.Step c n last) st) l
  stream_else last l b a d =
      let t : Flow = stepped net c n last s in
      let u : Streams = streamed net p s (Move.Step c n last) st in
      let taken : u.taken l ≡ st.taken l = taken_else net p s st c n last l a in
      let flowing : u.flowing l ≡ st.flowing l = flow_else net p s st c n last l a d in
      let here : t.link l ≡ s.link l = link_else net c n last s l a d in
      record {
        given = ap (λ (z : List ℕ). z ++ u.flowing l) taken ∙ (ap (λ (z : List ℕ). st.taken l ++ z) flowing
            ∙ ((T l b).given ∙ ap (λ (x : Incoming). (p.part (net.giver l)).plain x (p.output l)) (sym (came_other net p s st c n last P (net.giver l) d))));
        taken = ap length taken ∙ ((T l b).taken ∙ ap (λ (x : LinkState). x.taken * p.unit l) (sym here));
        flowing = ap length flowing ∙ ((T l b).flowing ∙ ap (λ (x : LinkState). frames_in (queue x) * p.unit l) (sym here));
      }

  stream_step : (last : Bool) → AreStreams net p (stepped net c n last s) (streamed net p s (Move.Step c n last) st)
  stream_step last l b = either (nat_eq (net.taker l) c)
      (λ t. stream_in last l b (eqb-true _ _ t))
      (λ f. either (nat_eq (net.giver l) c)
      (λ t. stream_out last l b (eqb-false _ _ f) (eqb-true _ _ t))
      (λ g. stream_else last l b (eqb-false _ _ f) (eqb-false _ _ g)))

-- ---- the other moves

pub same_streams : (net : Network) (p : Contents) (s : Flow) (st : Streams) (link : ℕ → LinkState) → ((k : ℕ) → Same (s.link k) (link k)) → AreStreams net p s st → AreStreams net p (record s { link = link }) st
same_streams net p s st link h T l b = record {
  given = (T l b).given;
  taken = (T l b).taken ∙ ap (λ (x : ℕ). x * p.unit l) (sym (h l).taken);
  flowing = (T l b).flowing ∙ ap (λ (q : List Filled). frames_in q * p.unit l) (sym (h l).filled);
}

pub move_streams : (net : Network) (p : Contents) (s : Flow) (st : Streams) (m : Move) → IsNetwork net → AreContents net p → IsSound net s → Can net s m → AreStreams net p s st →
    AreStreams net p (moved net m s) (streamed net p s m st)
move_streams net p s st (Move.Step c n last) W P S C T = stream_step net p s st c n W S C.1 P T last
move_streams net p s st (Move.Forward l) W P S C T =
    same_streams net p s st (with_link l (λ x. sent_on x.sent x) s).link (same_at l (λ x. sent_on x.sent x) s (on_same (s.link l) (s.link l).sent refl)) T
move_streams net p s st (Move.Back l) W P S C T =
    same_streams net p s st (with_link l sent_back s).link (same_at l sent_back s (record { taken = refl; closed = refl; filled = refl })) T
