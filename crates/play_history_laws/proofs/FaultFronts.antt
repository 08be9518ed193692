-- What the files have taken where steps may have failed; and where the play is over.
use Rattle.std.proofs.Common.{◌≡◌, ℕ, zero, suc, ◌≤◌, List, [], ◌∷◌, map, slice_get, Some, refl, ◌∙◌, ap, subst, arith}
use Rattle.il_machine.specs.World.{Component, Stream, World}
use Rattle.machine_laws.proofs.Finding.{either}
use Rattle.play_model.specs.Content.{ArePlain}
use Rattle.play_model.specs.Play.{Play}
use Rattle.play_model.specs.Reached.{IsOver}
use Rattle.play_world_laws.specs.Cast.{script_place, taker_of}
use Rattle.play_stream_laws.specs.Contents.{PlayContents, network_of}
use Rattle.play_stream_laws.specs.Fronts.{AreFronts, AreWritten}
use Rattle.play_world_laws.specs.PlayWorlds.{PlayCast}
use Rattle.play_stream_laws.proofs.PlayEnds.{written_fronts, written_whole}
use Rattle.read_world_laws.specs.Inside.{inside, taken_in}
use Rattle.read_world_laws.specs.Mended.{mend, mended, without_faults}
use Rattle.play_history_laws.specs.Following.{IsLoadedAt}
use Rattle.play_history_laws.specs.Order.{Cursor}
use Rattle.play_history_laws.proofs.Ends.{over_at_rest}
use Rattle.play_history_laws.specs.Faults.{HasFaultStreams, IsFaulty, NoneFailed}
use Rattle.play_history_laws.proofs.StreamsKept.{read_there}

module _ (x : PlayCast) (contents : PlayContents) (k : Cursor) (recent : ℕ) (p : Play) (ss : List Stream) (w : World) (stream : ℕ → List ℕ) (D : IsFaulty x k recent p ss w) (H : HasFaultStreams x contents stream p ss w)
    (Q : ArePlain (network_of x.cast) contents.model stream) where
  abbrev u : World
  u = inside (mend ss w)

  pub all_fronts : AreFronts x.cast contents w stream
  all_fronts l d s b sink e f =
      let i : ℕ = script_place x.cast (taker_of x.cast l) in
      either (d.part).failed
      (λ t. H.fronts l d s b sink e f t)
      (λ t. written_fronts x contents recent p u ((D.taken).played).play H.flows stream Q l (taken_in (mended d)) s b sink (read_there ss w i d e) (D.same i d e t ∙ f))

  pub all_written : 3 ≤ k.phase → NoneFailed w → AreWritten x.cast contents w stream
  all_written late N l d s b sink e f =
      let i : ℕ = script_place x.cast (taker_of x.cast l) in
      let phase = (((D.taken).played).follows).phase in
      written_whole x contents recent p u ((D.taken).played).play H.flows stream Q (omega (arith, phase, late)) l (taken_in (mended d)) s b sink (read_there ss w i d e) (D.same i d e (N i d e) ∙ f)

-- ---- at rest

mended_rest : (cs : List Component) → ((i : ℕ) (a : Component) → slice_get cs i ≡ Some a → IsLoadedAt a) → (i : ℕ) (d : Component) → slice_get (map mended cs) i ≡ Some d → IsLoadedAt d
mended_rest [] h i d e = absurd cc
mended_rest (c ∷ cs) h zero d e =
    let is : mended c ≡ d = cc in
    let R = h 0 c refl in
    subst IsLoadedAt is (record { loaded = R.loaded; told = ap without_faults R.told })
mended_rest (c ∷ cs) h (suc i) d e = mended_rest cs (λ j a f. h (suc j) a f) i d e

pub over_so : (x : PlayCast) (k : Cursor) (recent : ℕ) (p : Play) (ss : List Stream) (w : World) → IsFaulty x k recent p ss w → k.phase ≡ 4 → ((i : ℕ) (a : Component) → slice_get w.components i ≡ Some a → IsLoadedAt a) → IsOver (x.cast).layout p
over_so x k recent p ss w D four rest = over_at_rest x k recent p (mend ss w) D.taken four (mended_rest w.components rest)
