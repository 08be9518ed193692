-- From the opening on, and where all have ended, each link has had what the plain function gives.
use Rattle.std.proofs.Common.{◌≡◌, ℕ, zero, suc, ◌*◌, ◌<◌, nat_lt, List, [], ◌∷◌, ◌++◌, length, refl, sym, ◌∙◌, ap, append-nil, take_all, arith}
use Rattle.std.proofs.lemmas.Bool.{ltb-true, lt-ltb}
use Rattle.play_model.specs.Network.{Network, IsNetwork, Flow, frames_in}
use Rattle.play_model.specs.Moves.{CanAll, moved, all_moved, Move}
use Rattle.play_model.specs.Account.{IsSound, IsOpening}
use Rattle.play_model.specs.Progress.{AllEnded, IsComplete}
use Rattle.play_model.specs.Content.{HasFrames, Contents, AreContents, Streams, padded, came, streamed, all_streamed, AreStreams, AreEmpty, whole, ArePlain}
use Rattle.play_model.proofs.Queues.{either}
use Rattle.play_model.proofs.Keeps.{move_keeps}
use Rattle.play_model.proofs.Full.{opening_sound}
use Rattle.play_model.proofs.Measure.{complete, moves_keep}
use Rattle.play_model.proofs.Streams.{incoming_same, length-padded, move_streams}

none_of : (xs : List ℕ) → length xs ≡ 0 → xs ≡ []
none_of [] e = refl
none_of (x ∷ xs) e = absurd (omega (arith, e))

pub opening_streams : (net : Network) (p : Contents) (s : Flow) (st : Streams) → AreContents net p → IsOpening net s → AreEmpty st → AreStreams net p s st
opening_streams net p s st P O E l b =
    let g : ℕ = net.giver l in
    let zero_done : s.done g ≡ 0 = O.done g in
    let H : HasFrames (p.part g) 0 (came net p s st g) = record {
      input = λ i d.
          let none : length (st.taken (p.input g i)) ≡ 0 = ap length (E.taken (p.input g i)) in
          let k : s.done g * (p.part g).input_frame ≡ 0 = rw zero_done (omega arith) in
          rw (lt-ltb i (p.part g).inputs d) (length-padded (s.done g * (p.part g).input_frame) (st.taken (p.input g i)) (omega arith) ∙ rw zero_done refl);
      file = λ z. either (net.is_source g)
          (λ t. let k : s.done g * (p.part g).output_frame ≡ 0 = rw zero_done (omega arith) in
          rw (t, k) (omega arith))
          (λ f. absurd (let d = P.others g f in omega arith));
    } in
    let size : length ((p.part g).plain (came net p s st g) (p.output l)) ≡ 0 = (P.parts g).sized 0 (came net p s st g) H (p.output l) ∙ omega arith in
    record {
      given = rw (E.taken l, E.flowing l) (sym (none_of ((p.part g).plain (came net p s st g) (p.output l)) size));
      taken = rw (E.taken l, O.taken l) (omega arith);
      flowing = rw (E.flowing l, O.empty l) (omega arith);
    }

pub moves_streams : (net : Network) (p : Contents) (s : Flow) (st : Streams) (ms : List Move) → IsNetwork net → AreContents net p → IsSound net s → CanAll net s ms → AreStreams net p s st →
    AreStreams net p (all_moved net ms s) (all_streamed net p s ms st)
moves_streams net p s st [] W P S C T = T
moves_streams net p s st (m ∷ ms) W P S C T =
    moves_streams net p (moved net m s) (streamed net p s m st) ms W P (move_keeps net s m W S C.0) C.1 (move_streams net p s st m W P S C.0 T)

module _ (net : Network) (p : Contents) (s : Flow) (st : Streams) (stream : ℕ → List ℕ) (W : IsNetwork net) (P : AreContents net p) (A : AreStreams net p s st) (D : IsComplete net s) (Q : ArePlain net p stream) where
  ended_below : (m l : ℕ) → net.giver l < m → l < net.links → st.taken l ≡ stream l
  ended_below zero l d b = absurd (omega (arith, d))
  ended_below (suc m) l d b =
      let g : ℕ = net.giver l in
      let inside : g < net.components = let o = W.order l b in let i = W.inside l b in omega arith in
      let done : s.done g ≡ net.frames g = D.done g inside in
      let none : st.flowing l ≡ [] = none_of (st.flowing l) ((A l b).flowing ∙ (ap (λ q. frames_in q * p.unit l) (D.empty l b) ∙ omega arith)) in
      let same : came net p s st g ≡ whole net p stream g = incoming_same (came net p s st g) (whole net p stream g)
      (λ i. either (nat_lt i (p.part g).inputs)
      (λ y.
      let I = (P.inputs g i (ltb-true _ _ y)).0 in
      let k : ℕ = p.input g i in
      let o : net.giver k < net.taker k = W.order k I.below in
      let e : net.taker k ≡ g = I.taken_by in
      let h : st.taken k ≡ stream k = ended_below m k (omega arith) I.below in
      rw y (ap (λ (x : ℕ). padded (x * (p.part g).input_frame) (st.taken k)) done ∙ ap (padded (net.frames g * (p.part g).input_frame)) h))
      (λ z. rw z refl))
      (either (net.is_source g)
      (λ t. rw t (take_all (s.done g * (p.part g).output_frame) (p.file g) (let z = (P.sources g t).1 in rw done (omega arith))))
      (λ f. rw f refl)) in
      sym (append-nil (st.taken l)) ∙ (ap (λ z. st.taken l ++ z) (sym none) ∙ ((A l b).given ∙ (ap (λ x. (p.part g).plain x (p.output l)) same ∙ sym (Q l b))))

pub ended_plain : (net : Network) (p : Contents) (s : Flow) (st : Streams) (stream : ℕ → List ℕ) → IsNetwork net → AreContents net p → IsSound net s → AreStreams net p s st → AllEnded net s → ArePlain net p stream →
    (l : ℕ) → l < net.links → st.taken l ≡ stream l
ended_plain net p s st stream W P S A E Q l b = ended_below net p s st stream W P A (complete net s W S E) Q (suc (net.giver l)) l (omega arith) b

pub play_is_plain : (net : Network) (p : Contents) (s : Flow) (st : Streams) (ms : List Move) (stream : ℕ → List ℕ) → IsNetwork net → AreContents net p → IsOpening net s → AreEmpty st → CanAll net s ms →
    AllEnded net (all_moved net ms s) → ArePlain net p stream → (l : ℕ) → l < net.links → (all_streamed net p s ms st).taken l ≡ stream l
play_is_plain net p s st ms stream W P O E C ended Q l b =
    let S : IsSound net s = opening_sound net s W O in
    ended_plain net p (all_moved net ms s) (all_streamed net p s ms st) stream W P (moves_keep net s ms W S C)
    (moves_streams net p s st ms W P S C (opening_streams net p s st P O E)) ended Q l b
