-- At each moment what a link has had and what is on its way is a front of its plain stream.
use Rattle.std.proofs.Common.{◌≡◌, ℕ, zero, suc, ◌+◌, ◌-◌, ◌*◌, ◌<◌, ◌≤◌, true, nat_lt, if◌then◌else◌, List, [], ◌∷◌, ◌++◌, length, take, drop, replicate, refl, sym, ◌∙◌, ap, subst, append_assoc, append-nil, length-append, length-drop, take-append-drop, length-take-le, add-mul, arith}
use Rattle.std.proofs.Math.Seq.{take-append_seam}
use Rattle.std.proofs.lemmas.Bool.{ltb-true, lt-ltb}
use Rattle.std.proofs.lemmas.List.{take-append-le, replicate-append-replicate}
use Rattle.play_model.specs.Network.{Network, IsNetwork, IsInput, Flow, queue, frames_in}
use Rattle.play_model.specs.Account.{HasAccount, IsSound}
use Rattle.play_model.specs.Content.{Incoming, joined, HasFrames, Contents, AreContents, Streams, padded, came, AreStreams, whole, ArePlain, IsFrontOf}
use Rattle.play_model.proofs.Queues.{either}
use Rattle.play_model.proofs.Measure.{within}
use Rattle.play_model.proofs.Streams.{incoming_same, length-padded, times_le}

-- ---- an ended component has done its frames

ended_below : (net : Network) (s : Flow) → IsNetwork net → IsSound net s → (m c : ℕ) → c < m → c < net.components → s.ended c ≡ true → s.done c ≡ net.frames c
ended_below net s W S zero c l b e = absurd (omega (arith, l))
ended_below net s W S (suc m) c l b e = either (net.is_source c)
    (λ t. ((S.components c b).source t).1 e)
    (λ f.
    let w = W.longest c b f in
    let k : ℕ = w.0 in
    let I : IsInput net c k = w.1 in
    let A : HasAccount net s k = S.links k I.below in
    let closed : (s.link k).closed ≡ true = (S.components c b).over f e k I in
    let balance : s.done (net.giver k) ≡ (s.link k).taken + 0 = rw (A.after closed).0 at A.balance in
    let t : net.taker k ≡ c = I.taken_by in
    let before : net.giver k < net.taker k = W.order k I.below in
    let i : s.done (net.giver k) ≡ net.frames (net.giver k) = ended_below net s W S m (net.giver k) (omega arith) (omega arith) (A.after closed).1 in
    let behind : (s.link k).taken ≤ s.done c = subst (λ (j : ℕ). (s.link k).taken ≤ s.done j) t A.behind in
    let same : net.frames (net.giver k) ≡ net.frames c = w.2 in
    let le = within net s W S c b in
    omega arith)

ended_done : (net : Network) (s : Flow) → IsNetwork net → IsSound net s → (c : ℕ) → c < net.components → s.ended c ≡ true → s.done c ≡ net.frames c
ended_done net s W S c b e = ended_below net s W S (suc c) c (omega arith) b e

-- ---- padding and fronts

take_padded : (a b : ℕ) (xs : List ℕ) → length xs ≤ a → a ≤ b → take a (padded b xs) ≡ padded a xs
take_padded a b xs l m =
    let split : b - length xs ≡ (a - length xs) + (b - a) = omega arith in
    let zeros : replicate {A = ℕ} (b - length xs) 0 ≡ replicate (a - length xs) 0 ++ replicate (b - a) 0 = rw split (sym (replicate-append-replicate (a - length xs) (b - a) 0)) in
    let whole_ : padded b xs ≡ padded a xs ++ replicate (b - a) 0 = rw zeros (sym (append_assoc xs (replicate (a - length xs) 0) (replicate (b - a) 0))) in
    let size : length (padded a xs) ≡ a = length-padded a xs l in
    rw whole_ (subst (λ (n : ℕ). take n (padded a xs ++ replicate (b - a) 0) ≡ padded a xs) size (take-append_seam (padded a xs) (replicate (b - a) 0)))

-- a front that has just so many bytes
take_front : (a b : ℕ) (xs ys zs : List ℕ) → length xs ≡ a → length zs ≤ b → a ≤ length zs → xs ++ ys ≡ zs → take a (padded b zs) ≡ xs
take_front a b xs ys zs size few le e =
    take-append-le a zs (replicate (b - length zs) 0) le ∙ (ap (take a) (sym e) ∙ subst (λ (n : ℕ). take n (xs ++ ys) ≡ xs) size (take-append_seam xs ys))

padded_same : (a : ℕ) (xs : List ℕ) → length xs ≡ a → padded a xs ≡ xs
padded_same a xs e = let z : a - length xs ≡ 0 = omega arith in rw z (append-nil xs)

no_more : (xs ys : List ℕ) → length ys ≡ 0 → xs ++ ys ≡ xs
no_more xs [] e = append-nil xs
no_more xs (y ∷ ys) e = absurd (omega (arith, e))

module _ (net : Network) (p : Contents) (s : Flow) (st : Streams) (stream : ℕ → List ℕ) (W : IsNetwork net) (P : AreContents net p) (S : IsSound net s) (A : AreStreams net p s st) (Q : ArePlain net p stream) where
  -- what came is the front of what comes in all
  came_front : (g : ℕ) → g < net.components →
      ((k : ℕ) → IsInput net g k → IsFrontOf (st.taken k ++ st.flowing k) (stream k) ((net.frames (net.giver k) - s.done (net.giver k)) * p.unit k)) →
      (i : ℕ) → i < (p.part g).inputs → padded (s.done g * (p.part g).input_frame) (st.taken (p.input g i)) ≡ take (s.done g * (p.part g).input_frame) (padded (net.frames g * (p.part g).input_frame) (stream (p.input g i)))
  came_front g b H i d =
      let I = P.inputs g i d in
      let k : ℕ = p.input g i in
      let f : ℕ = (p.part g).input_frame in
      let unit : p.unit k ≡ f = I.1 in
      let F = H k I.0 in
      let r : List ℕ = F.rest in
      let acc : HasAccount net s k = S.links k (I.0).below in
      let le : s.done g ≤ net.frames g = within net s W S g b in
      let few : s.done g * f ≤ net.frames g * f = times_le (s.done g) (net.frames g) f le in
      let behind : (s.link k).taken ≤ s.done g = subst (λ (j : ℕ). (s.link k).taken ≤ s.done j) (I.0).taken_by acc.behind in
      let size : length (st.taken k) ≡ (s.link k).taken * f = subst (λ (u : ℕ). length (st.taken k) ≡ (s.link k).taken * u) unit (A k (I.0).below).taken in
      let short : length (st.taken k) ≤ s.done g * f = omega (arith, size, times_le (s.link k).taken (s.done g) f behind) in
      either (s.link k).closed
      (λ t.
      let none : frames_in (queue (s.link k)) ≡ 0 = ap frames_in (acc.after t).0 in
      let empty : length (st.flowing k) ≡ 0 = (A k (I.0).below).flowing ∙ (ap (λ (x : ℕ). x * p.unit k) none ∙ omega arith) in
      let inside : net.giver k < net.components = let o = W.order k (I.0).below in let q = W.inside k (I.0).below in omega arith in
      let all : s.done (net.giver k) ≡ net.frames (net.giver k) = ended_done net s W S (net.giver k) inside (acc.after t).1 in
      let zero_left : net.frames (net.giver k) - s.done (net.giver k) ≡ 0 = omega arith in
      let no_rest : length r ≡ 0 = F.size ∙ (ap (λ (x : ℕ). x * p.unit k) zero_left ∙ omega arith) in
      let same : st.taken k ≡ stream k = sym (no_more (st.taken k) (st.flowing k) empty) ∙ (sym (no_more (st.taken k ++ st.flowing k) r no_rest) ∙ F.is) in
      ap (padded (s.done g * f)) same ∙ sym (take_padded (s.done g * f) (net.frames g * f) (stream k) (subst (λ (z : List ℕ). length z ≤ s.done g * f) same short) few))
      (λ o.
      let level : (s.link k).taken ≡ s.done g = acc.level o ∙ ap s.done (I.0).taken_by in
      let exact : length (st.taken k) ≡ s.done g * f = size ∙ ap (λ (x : ℕ). x * f) level in
      let e : st.taken k ++ (st.flowing k ++ r) ≡ stream k = sym (append_assoc (st.taken k) (st.flowing k) r) ∙ F.is in
      let long : length (stream k) ≡ length (st.taken k) + length (st.flowing k ++ r) = ap length (sym e) ∙ length-append (st.taken k) (st.flowing k ++ r) in
      let long_flow : length (st.flowing k) ≡ frames_in (queue (s.link k)) * p.unit k = (A k (I.0).below).flowing in
      let both_ : length (st.flowing k ++ r) ≡ length (st.flowing k) + length r = length-append (st.flowing k) r in
      let had : length (st.taken k) ≡ (s.link k).taken * p.unit k = (A k (I.0).below).taken in
      let gave : s.done (net.giver k) ≡ (s.link k).taken + frames_in (queue (s.link k)) = acc.balance in
      let inside : net.giver k < net.components = let o = W.order k (I.0).below in let q = W.inside k (I.0).below in omega arith in
      let most : s.done (net.giver k) ≤ net.frames (net.giver k) = within net s W S (net.giver k) inside in
      let all : net.frames (net.giver k) ≡ (s.link k).taken + frames_in (queue (s.link k)) + (net.frames (net.giver k) - s.done (net.giver k)) = omega arith in
      let bytes : net.frames (net.giver k) * p.unit k ≡ length (stream k) =
      ap (λ (x : ℕ). x * p.unit k) all ∙ (add-mul ((s.link k).taken + frames_in (queue (s.link k))) (net.frames (net.giver k) - s.done (net.giver k)) (p.unit k)
      ∙ (ap (λ (x : ℕ). x + (net.frames (net.giver k) - s.done (net.giver k)) * p.unit k) (add-mul (s.link k).taken (frames_in (queue (s.link k))) (p.unit k)) ∙ omega (arith, F.size))) in
      let fits : net.frames (net.giver k) ≤ net.frames g = subst (λ (j : ℕ). net.frames (net.giver k) ≤ net.frames j) (I.0).taken_by (W.frames k (I.0).below) in
      let fits_bytes : length (stream k) ≤ net.frames g * f = subst (λ (u : ℕ). length (stream k) ≤ net.frames g * u) unit (omega (arith, bytes, times_le (net.frames (net.giver k)) (net.frames g) (p.unit k) fits)) in
      padded_same (s.done g * f) (st.taken k) exact
      ∙ sym (take_front (s.done g * f) (net.frames g * f) (st.taken k) (st.flowing k ++ r) (stream k) exact fits_bytes (omega arith) e))

  stream_size : (k : ℕ) → k < net.links → IsFrontOf (st.taken k ++ st.flowing k) (stream k) ((net.frames (net.giver k) - s.done (net.giver k)) * p.unit k) → length (stream k) ≡ net.frames (net.giver k) * p.unit k
  stream_size k b F =
      let r : List ℕ = F.rest in
      let left : ℕ = net.frames (net.giver k) - s.done (net.giver k) in
      let front : List ℕ = st.taken k ++ st.flowing k in
      let acc : HasAccount net s k = S.links k b in
      let inside : net.giver k < net.components = let o = W.order k b in let q = W.inside k b in omega arith in
      let most : s.done (net.giver k) ≤ net.frames (net.giver k) = within net s W S (net.giver k) inside in
      let long : length (stream k) ≡ length front + length r = ap length (sym F.is) ∙ length-append front r in
      let parts_ : length front ≡ length (st.taken k) + length (st.flowing k) = length-append (st.taken k) (st.flowing k) in
      let had : length (st.taken k) ≡ (s.link k).taken * p.unit k = (A k b).taken in
      let flow : length (st.flowing k) ≡ frames_in (queue (s.link k)) * p.unit k = (A k b).flowing in
      let gave : s.done (net.giver k) ≡ (s.link k).taken + frames_in (queue (s.link k)) = acc.balance in
      let done_bytes : s.done (net.giver k) * p.unit k ≡ (s.link k).taken * p.unit k + frames_in (queue (s.link k)) * p.unit k = ap (λ (x : ℕ). x * p.unit k) gave ∙ add-mul (s.link k).taken (frames_in (queue (s.link k))) (p.unit k) in
      let all : net.frames (net.giver k) ≡ s.done (net.giver k) + left = omega arith in
      let all_bytes : net.frames (net.giver k) * p.unit k ≡ s.done (net.giver k) * p.unit k + left * p.unit k = ap (λ (x : ℕ). x * p.unit k) all ∙ add-mul (s.done (net.giver k)) left (p.unit k) in
      let size : length r ≡ left * p.unit k = F.size in
      omega arith

  -- what still comes into a component
  abbrev more : ℕ → Incoming
  more g = record {
    input = λ i. if nat_lt i (p.part g).inputs then drop (s.done g * (p.part g).input_frame) (padded (net.frames g * (p.part g).input_frame) (stream (p.input g i))) else [];
    file = if net.is_source g then drop (s.done g * (p.part g).output_frame) (p.file g) else [];
  }

  times_rest : (f : ℕ) (g : ℕ) → g < net.components → net.frames g * f ≡ s.done g * f + (net.frames g - s.done g) * f
  times_rest f g b =
      let le : s.done g ≤ net.frames g = within net s W S g b in
      let all : net.frames g ≡ s.done g + (net.frames g - s.done g) = omega arith in
      ap (λ (x : ℕ). x * f) all ∙ add-mul (s.done g) (net.frames g - s.done g) f

  came_has : (g : ℕ) → g < net.components → HasFrames (p.part g) (s.done g) (came net p s st g)
  came_has g b = record {
    input = λ i d.
        let I = P.inputs g i d in
        let k : ℕ = p.input g i in
        let f : ℕ = (p.part g).input_frame in
        let behind : (s.link k).taken ≤ s.done g = subst (λ (j : ℕ). (s.link k).taken ≤ s.done j) (I.0).taken_by (S.links k (I.0).below).behind in
        let size : length (st.taken k) ≡ (s.link k).taken * f = subst (λ (u : ℕ). length (st.taken k) ≡ (s.link k).taken * u) I.1 (A k (I.0).below).taken in
        rw (lt-ltb i (p.part g).inputs d) (length-padded (s.done g * f) (st.taken k) (omega (arith, times_le (s.link k).taken (s.done g) f behind)));
    file = λ z. either (net.is_source g)
        (λ t.
        let size : length (p.file g) ≡ net.frames g * (p.part g).output_frame = (P.sources g t).1 in
        rw t (length-take-le (s.done g * (p.part g).output_frame) (p.file g) (omega (arith, times_rest (p.part g).output_frame g b))))
        (λ f. absurd (let d = P.others g f in omega arith));
  }

  more_has : (g : ℕ) → g < net.components → ((i : ℕ) → i < (p.part g).inputs → length (stream (p.input g i)) ≤ net.frames g * (p.part g).input_frame) → HasFrames (p.part g) (net.frames g - s.done g) (more g)
  more_has g b short = record {
    input = λ i d.
        let f : ℕ = (p.part g).input_frame in
        let xs : List ℕ = padded (net.frames g * f) (stream (p.input g i)) in
        let size : length xs ≡ net.frames g * f = length-padded (net.frames g * f) (stream (p.input g i)) (short i d) in
        let open_ : (more g).input i ≡ drop (s.done g * f) xs = rw (lt-ltb i (p.part g).inputs d) refl in
        ap length open_ ∙ (length-drop (s.done g * f) xs ∙ omega (arith, times_rest f g b));
    file = λ z. either (net.is_source g)
        (λ t.
        let size : length (p.file g) ≡ net.frames g * (p.part g).output_frame = (P.sources g t).1 in
        let open_ : (more g).file ≡ drop (s.done g * (p.part g).output_frame) (p.file g) = rw t refl in
        ap length open_ ∙ (length-drop (s.done g * (p.part g).output_frame) (p.file g) ∙ omega (arith, times_rest (p.part g).output_frame g b)))
        (λ f. absurd (let d = P.others g f in omega arith));
  }

  whole_splits : (g : ℕ) → g < net.components → ((k : ℕ) → IsInput net g k → IsFrontOf (st.taken k ++ st.flowing k) (stream k) ((net.frames (net.giver k) - s.done (net.giver k)) * p.unit k)) →
      whole net p stream g ≡ joined (came net p s st g) (more g)
  whole_splits g b H = incoming_same (whole net p stream g) (joined (came net p s st g) (more g))
      (λ i. either (nat_lt i (p.part g).inputs)
      (λ y.
      let f : ℕ = (p.part g).input_frame in
      let xs : List ℕ = padded (net.frames g * f) (stream (p.input g i)) in
      let front : padded (s.done g * f) (st.taken (p.input g i)) ≡ take (s.done g * f) xs = came_front g b H i (ltb-true _ _ y) in
      rw y (sym (ap (λ (z : List ℕ). z ++ drop (s.done g * f) xs) front ∙ take-append-drop (s.done g * f) xs)))
      (λ z. rw z refl))
      (either (net.is_source g)
      (λ y. rw y (sym (take-append-drop (s.done g * (p.part g).output_frame) (p.file g))))
      (λ z. rw z refl))

  fronts_below : (m l : ℕ) → net.giver l < m → l < net.links → IsFrontOf (st.taken l ++ st.flowing l) (stream l) ((net.frames (net.giver l) - s.done (net.giver l)) * p.unit l)
  fronts_below zero l d b = absurd (omega (arith, d))
  fronts_below (suc m) l d b =
      let g : ℕ = net.giver l in
      let inside : g < net.components = let o = W.order l b in let q = W.inside l b in omega arith in
      let H : (k : ℕ) → IsInput net g k → IsFrontOf (st.taken k ++ st.flowing k) (stream k) ((net.frames (net.giver k) - s.done (net.giver k)) * p.unit k) = λ k I.
      fronts_below m k (let o = W.order k I.below in let e = I.taken_by in omega arith) I.below in
      let short : (i : ℕ) → i < (p.part g).inputs → length (stream (p.input g i)) ≤ net.frames g * (p.part g).input_frame = λ i e.
      let I = P.inputs g i e in
      let k : ℕ = p.input g i in
      let size = stream_size k (I.0).below (H k I.0) in
      let fits : net.frames (net.giver k) ≤ net.frames g = subst (λ (j : ℕ). net.frames (net.giver k) ≤ net.frames j) (I.0).taken_by (W.frames k (I.0).below) in
      subst (λ (u : ℕ). length (stream k) ≤ net.frames g * u) I.1 (omega (arith, size, times_le (net.frames (net.giver k)) (net.frames g) (p.unit k) fits)) in
      let split : whole net p stream g ≡ joined (came net p s st g) (more g) = whole_splits g inside H in
      let C = came_has g inside in
      let M = more_has g inside short in
      record {
        rest = (p.part g).plain (more g) (p.output l);
        is = ap (λ (z : List ℕ). z ++ (p.part g).plain (more g) (p.output l)) (A l b).given
            ∙ (sym ((P.parts g).joins (s.done g) (net.frames g - s.done g) (came net p s st g) (more g) C M (p.output l))
            ∙ (ap (λ (x : Incoming). (p.part g).plain x (p.output l)) (sym split) ∙ sym (Q l b)));
        size = (P.parts g).sized (net.frames g - s.done g) (more g) M (p.output l) ∙ ap (λ (u : ℕ). (net.frames g - s.done g) * u) (sym (P.outputs l b));
      }

pub fronts : (net : Network) (p : Contents) (s : Flow) (st : Streams) (stream : ℕ → List ℕ) → IsNetwork net → AreContents net p → IsSound net s → AreStreams net p s st → ArePlain net p stream →
    (l : ℕ) → l < net.links → IsFrontOf (st.taken l ++ st.flowing l) (stream l) ((net.frames (net.giver l) - s.done (net.giver l)) * p.unit l)
fronts net p s st stream W P S A Q l b = fronts_below net p s st stream W P S A Q (suc (net.giver l)) l (omega arith) b
