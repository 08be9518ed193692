-- A world without a fault is read as it is.
use Rattle.std.proofs.Common.{◌≡◌, ℕ, suc, Bool, true, false, not, ◌&&◌, List, [], ◌∷◌, map, slice_get, count_by, arith, Some, refl, sym, ◌∙◌, ap, subst}
use Rattle.omx_types.specs.declared.command.Note.{Note}
use Rattle.il_machine.specs.Sound.{Sound}
use Rattle.il_machine.specs.World.{Component, World}
use Rattle.play_model.specs.Play.{Play}
use Rattle.play_world_laws.specs.Cast.{script_place, taker_of}
use Rattle.play_stream_laws.specs.Contents.{PlayContents}
use Rattle.play_world_laws.specs.PlayWorlds.{PlayCast}
use Rattle.play_stream_laws.specs.PlayStreams.{HasPlayStreams}
use Rattle.read_world_laws.specs.Inside.{inside}
use Rattle.read_world_laws.specs.Mended.{given_without, is_fault, mend, mended, without_faults}
use Rattle.play_history_laws.specs.Order.{Cursor}
use Rattle.play_history_laws.specs.Following.{IsTaken}
use Rattle.play_history_laws.specs.Faults.{HasFaultStreams, IsFaulty, IsFresh}

ended_so : (e f : Bool) → f ≡ false → (e && not f) ≡ e
ended_so e true h = absurd cc
ended_so true false h = refl
ended_so false false h = refl

mended_same : (c : Component) → c.part.failed ≡ false → without_faults c.notes ≡ c.notes → mended c ≡ c
mended_same c f n =
    let e = ended_so c.part.ended c.part.failed f in
    λ i. record c { part = record c.part { ended = e i; failed = sym f i }; notes = n i }

all_same : (cs : List Component) → ((i : ℕ) (c : Component) → slice_get cs i ≡ Some c → mended c ≡ c) → map mended cs ≡ cs
all_same [] h = refl
all_same (c ∷ cs) h =
    let a = h 0 c refl in
    let r = all_same cs (λ i d e. h (suc i) d e) in
    λ i. a i ∷ r i

pub mend_same : (w : World) → IsFresh w → mend w.streams w ≡ w
mend_same w N =
    let cs = all_same w.components (λ i c e. mended_same c (N.whole i c e) (let n = N.told i c e in ap without_faults n ∙ sym n)) in
    let g : given_without w.given ≡ w.given = ap given_without N.given ∙ sym N.given in
    λ i. record w { components = cs i; given = g i }

-- so a history begins there
pub begins_faulty : (x : PlayCast) (k : Cursor) (recent : ℕ) (p : Play) (w : World) → IsTaken x k recent p w → Sound w → IsFresh w → IsFaulty x k recent p w.streams w
begins_faulty x k recent p w T S N = record {
  taken = subst (λ (z : World). IsTaken x k recent p z) (sym (mend_same w N)) T;
  closed = T.closed;
  sound = S;
  held = λ n o. let z = N.free n in absurd cc;
  noted = λ i c e. let n = ap (λ (ns : List Note). count_by is_fault ns) (N.told i c e) in omega (arith, n);
  same = λ i c e f. refl;
}

-- with the streams that it has
pub begins_flow : (x : PlayCast) (contents : PlayContents) (stream : ℕ → List ℕ) (p : Play) (w : World) → IsFresh w → HasPlayStreams x contents p (inside w) → HasFaultStreams x contents stream p w.streams w
begins_flow x contents stream p w N H = record {
  flows = subst (λ (z : World). HasPlayStreams x contents p (inside z)) (sym (mend_same w N)) H;
  fronts = λ l d s b sink e f z. let y = N.whole (script_place x.cast (taker_of x.cast l)) d e in absurd cc;
}
