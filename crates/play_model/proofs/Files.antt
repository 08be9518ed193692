-- A play that is over left the plain function's streams, and no header.
use Rattle.std.proofs.Common.{◌∙◌, sym, ◌≡◌, inl, inr, ℕ, ◌<◌, ◌≤◌, Bool, true, false, not, nat_eq, nat_le, List, [], ◌∷◌, ◌++◌, append_assoc, append-nil, refl, eqb-true, arith}
use Rattle.std.proofs.lemmas.Bool.{eqb-false, leb-true, leb-false}
use Rattle.play_model.specs.Network.{Flow}
use Rattle.play_model.specs.Moves.{Move, moved, with_link}
use Rattle.play_model.specs.Account.{IsSound}
use Rattle.play_model.specs.Progress.{AllEnded, IsLinkOf}
use Rattle.play_model.specs.Content.{Contents, AreContents, Streams, AreStreams, ArePlain}
use Rattle.play_model.proofs.Queues.{either}
use Rattle.play_model.proofs.Keeps.{same_at}
use Rattle.play_model.proofs.Streams.{move_streams, same_streams}
use Rattle.play_model.proofs.Plain.{opening_streams, ended_plain}
use Rattle.play_model.proofs.Fronts.{fronts}
use Rattle.play_model.specs.Play.{Layout, IsLayout, Play, made, HasDone}
use Rattle.play_model.specs.Acts.{Act, CanAct, CanActs, supplied, released, given_unused, hand, acted, all_acted}
use Rattle.play_model.specs.Reached.{IsReached, IsOver}
use Rattle.play_model.specs.Files.{act_streamed, all_act_streamed, IsPlayed}
use Rattle.play_model.proofs.LinkEnds.{end_inside}
use Rattle.play_model.proofs.Reaching.{ended_from, same_supplied, release_change_same}
use Rattle.play_model.proofs.Handing.{unused_change_same, acts_reach, step_phase, act_reaches, begun_reached}

record HasStreams (w : Layout) (k : Contents) (stream : ℕ → List ℕ) (p : Play) (st : Streams) : Type 0 where
  flowing : p.phase ≤ 2 → AreStreams w.network k p.flow st
  whole : 3 ≤ p.phase → (l : ℕ) → l < (w.network).links → st.taken l ≡ stream l

hand_streams : (w : Layout) (k : Contents) (s : Flow) (st : Streams) (out : Bool) (l : ℕ) → IsLayout w → AreContents w.network k → IsSound w.network s → l < (w.network).links → HasDone out (s.link l) → AreStreams w.network k s st →
    AreStreams w.network k (moved w.network (hand out l) s) st
hand_streams w k s st true l W P S b D T = move_streams w.network k s st (Move.Forward l) W.network P S (b, D) T
hand_streams w k s st false l W P S b D T = move_streams w.network k s st (Move.Back l) W.network P S (b, D) T

module _ (w : Layout) (k : Contents) (stream : ℕ → List ℕ) (P : AreContents w.network k) (Q : ArePlain w.network k stream) where
  act_streams : (p : Play) (st : Streams) (a : Act) → IsReached w p → CanAct w p a → HasStreams w k stream p st → HasStreams w k stream (acted w a p) (act_streamed w k p a st)
  act_streams p st Act.Begin R C H = record {
    flowing = λ e. H.flowing (omega arith);
    whole = λ e l b. either (nat_eq p.phase 2)
        (λ t.
        let two : p.phase ≡ 2 = eqb-true _ _ t in
        let E : AllEnded w.network p.flow = λ c d. ended_from w p R two (C.ends two) (w.network).components c (omega arith) d in
        ended_plain w.network k p.flow st stream (R.layout).network P (R.sound (omega arith)) (H.flowing (omega arith)) E Q l b)
        (λ f. let n = eqb-false _ _ f in H.whole (omega arith) l b);
  }
  act_streams p st (Act.Send c) R C H = record { flowing = H.flowing; whole = H.whole }
  act_streams p st (Act.Run c) R C H = record { flowing = H.flowing; whole = H.whole }
  act_streams p st (Act.Happen c) R C H = record {
    flowing = λ e. either (nat_eq p.phase 3)
        (λ t. absurd (let z : p.phase ≡ 3 = eqb-true _ _ t in omega arith))
        (λ f. rw f (H.flowing e));
    whole = H.whole;
  }
  act_streams p st (Act.Tell c) R C H = record { flowing = H.flowing; whole = H.whole }
  act_streams p st (Act.TellEnd c) R C H = record { flowing = H.flowing; whole = H.whole }
  act_streams p st (Act.Supply l) R C H = record {
    flowing = λ e. same_streams w.network k p.flow st (with_link l (supplied (w.by_output l)) p.flow).link (same_at l (supplied (w.by_output l)) p.flow (same_supplied (w.by_output l) ((p.flow).link l))) (H.flowing e);
    whole = H.whole;
  }
  act_streams p st (Act.Release l) R C H = record {
    flowing = λ e. elim C.1 [
      | inl leaves ↦ absurd (let q = leaves.0 in omega arith)
      | inr d ↦ same_streams w.network k p.flow st (with_link l (released (w.by_output l)) p.flow).link (release_change_same w p l R C.0 d) (H.flowing e)
    ];
    whole = H.whole;
  }
  act_streams p st (Act.HandOver l) R C H = record { flowing = λ e. hand_streams w k p.flow st (w.by_output l) l R.layout P (R.sound e) C.0 C.3 (H.flowing e); whole = H.whole }
  act_streams p st (Act.HandBack l) R C H = record { flowing = λ e. hand_streams w k p.flow st (not (w.by_output l)) l R.layout P (R.sound e) C.0 C.2 (H.flowing e); whole = H.whole }
  act_streams p st (Act.HandUnused l) R C H = record {
    flowing = λ e. elim C.1 [
      | inl returns ↦ absurd (let q = returns.0 in omega arith)
      | inr d ↦ same_streams w.network k p.flow st (with_link l (given_unused (w.by_output l)) p.flow).link (unused_change_same w p l R C.0 d) (H.flowing e)
    ];
    whole = H.whole;
  }
  act_streams p st (Act.Announce l) R C H = record { flowing = H.flowing; whole = H.whole }
  act_streams p st (Act.TellSettings l) R C H = record { flowing = H.flowing; whole = H.whole }
  act_streams p st (Act.Conduct l) R C H = record { flowing = H.flowing; whole = H.whole }
  act_streams p st (Act.RunPort l output) R C H = record { flowing = H.flowing; whole = H.whole }
  act_streams p st (Act.HappenPort l output) R C H = record { flowing = H.flowing; whole = H.whole }
  act_streams p st (Act.TellPort l output) R C H = record { flowing = H.flowing; whole = H.whole }
  act_streams p st (Act.Step c n last) R C H =
      let two : p.phase ≡ 2 = step_phase w p c n last R C in
      record {
        flowing = λ e. move_streams w.network k p.flow st (Move.Step c n last) (R.layout).network P (R.sound e) C.1 (H.flowing e);
        whole = λ e. absurd (omega arith);
      }

  acts_streams : (p : Play) (st : Streams) (acts : List Act) → IsReached w p → CanActs w p acts → HasStreams w k stream p st → HasStreams w k stream (all_acted w acts p) (all_act_streamed w k p acts st)
  acts_streams p st [] R C H = H
  acts_streams p st (a ∷ acts) R C H = acts_streams (acted w a p) (act_streamed w k p a st) acts (act_reaches w p a R C.0) C.1 (act_streams p st a R C.0 H)

played_streams : (w : Layout) (k : Contents) (p : Play) (st : Streams) (acts : List Act) (stream : ℕ → List ℕ) → IsPlayed w k p st acts stream → HasStreams w k stream (all_acted w acts p) (all_act_streamed w k p acts st)
played_streams w k p st acts stream W =
    let B = W.begun in
    let e = B.phase in
    let H : HasStreams w k stream p st = record {
      flowing = λ _. opening_streams w.network k p.flow st W.contents B.opening W.empty;
      whole = λ q. absurd (omega arith);
    } in
    acts_streams w k stream W.contents W.plain p st acts (begun_reached w p B) W.enabled H

-- at each moment what an input has taken is a front of its plain stream
pub play_fronts : (w : Layout) (k : Contents) (p : Play) (st : Streams) (acts : List Act) (stream : ℕ → List ℕ) → IsPlayed w k p st acts stream → (l : ℕ) → l < (w.network).links →
    (rest : List ℕ) × ((all_act_streamed w k p acts st).taken l ++ rest ≡ stream l)
play_fronts w k p st acts stream W l b =
    let q : Play = all_acted w acts p in
    let u : Streams = all_act_streamed w k p acts st in
    let R : IsReached w q = acts_reach w p acts (begun_reached w p W.begun) W.enabled in
    let H : HasStreams w k stream q u = played_streams w k p st acts stream W in
    either (nat_le q.phase 2)
    (λ t.
    let early : q.phase ≤ 2 = leb-true _ _ t in
    let F = fronts w.network k q.flow u stream (R.layout).network W.contents (R.sound early) (H.flowing early) W.plain l b in
    (u.flowing l ++ F.rest, sym (append_assoc (u.taken l) (u.flowing l) F.rest) ∙ F.is))
    (λ f. let late = leb-false _ _ f in ([], append-nil (u.taken l) ∙ H.whole (omega arith) l b))

pub play_leaves : (w : Layout) (k : Contents) (p : Play) (st : Streams) (acts : List Act) (stream : ℕ → List ℕ) → IsPlayed w k p st acts stream → IsOver w (all_acted w acts p) →
    (l : ℕ) → l < (w.network).links → (all_act_streamed w k p acts st).taken l ≡ stream l
play_leaves w k p st acts stream W over = (played_streams w k p st acts stream W).whole (let o = over.phase in omega arith)

pub over_unmade : (w : Layout) (p : Play) → IsReached w p → IsOver w p → (l : ℕ) → l < (w.network).links → made p l ≡ 0
over_unmade w p R O l b =
    let I : IsLinkOf w.network ((w.network).giver l) l = inr (record { below = b; given_by = refl }) in
    let inside = end_inside w R.layout ((w.network).giver l) l I in
    R.unmade O.phase ((w.network).giver l) inside (let k = O.all ((w.network).giver l) inside in omega arith) l I
