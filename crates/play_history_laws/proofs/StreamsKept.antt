-- What is said of the streams without the faults stays over the acts of a play.
use Rattle.std.proofs.Common.{◌≡◌, ◌≢◌, ℕ, ◌<◌, Bool, false, if◌then◌else◌, List, [], ◌∷◌, map, find, slice_get, Some, option_map, refl, sym, ◌∙◌, ap, arith}
use Rattle.std.proofs.lemmas.Option.{slice_get_within}
use Rattle.il_machine.specs.Finishing.{gone_through}
use Rattle.il_machine.specs.Stepping.{WorkDone}
use Rattle.il_machine.specs.World.{Component, Stream, World, is_stream_of, number_of, stream_of}
use Rattle.machine_laws.proofs.Finding.{either}
use Rattle.play_model.specs.Play.{Play}
use Rattle.play_world_laws.specs.Cast.{Cast, components_of, script_place, taker_of}
use Rattle.play_world_laws.proofs.Told.{stream_else}
use Rattle.play_stream_laws.specs.Contents.{PlayContents}
use Rattle.play_world_laws.specs.PlayWorlds.{PlayCast}
use Rattle.read_world_laws.specs.Inside.{inside, taken_in}
use Rattle.read_world_laws.specs.Mended.{gone_on, mend, mended}
use Rattle.read_world_laws.proofs.Inside as ins
use Rattle.read_world_laws.proofs.Mended as mns
use Rattle.play_history_laws.specs.Following.{IsPlayed}
use Rattle.play_history_laws.specs.Order.{Cursor}
use Rattle.play_history_laws.specs.Faults.{AreFailedFronts}
use Rattle.play_history_laws.proofs.Staying.{KeepsFailed, PartsStay}

-- ---- the component at a place, as it is read

pub record IsSeated (x : PlayCast) (ss : List Stream) (w : World) (i : ℕ) (c : Component) : Type 0 where
  pub number : ℕ
  pub below : number < components_of x.cast
  pub place : script_place x.cast number ≡ i
  pub there : slice_get (inside (mend ss w)).components (script_place x.cast number) ≡ Some (taken_in (mended c))

pub read_there : (ss : List Stream) (w : World) (i : ℕ) (c : Component) → slice_get w.components i ≡ Some c → slice_get (inside (mend ss w)).components i ≡ Some (taken_in (mended c))
read_there ss w i c e = ins.get_in (mend ss w).components i (mended c) (mns.get_in ss w.components i c e)

pub seated : (x : PlayCast) (k : Cursor) (recent : ℕ) (p : Play) (ss : List Stream) (w : World) → IsPlayed x k recent p (inside (mend ss w)) → (i : ℕ) (c : Component) → slice_get w.components i ≡ Some c → IsSeated x ss w i c
seated x k recent p ss w P i c e =
    let u : World = inside (mend ss w) in
    let there = read_there ss w i c e in
    let within = slice_get_within u.components i (taken_in (mended c)) there in
    let many = (P.play).many in
    let n = ((P.play).cast_is).each i (omega (arith, within, many)) in
    record { number = n.0; below = n.1; place = n.2; there = ap (slice_get u.components) n.2 ∙ there }

-- its number is its place
abbrev pub AreInPlace : World → Type 0
AreInPlace w = (i : ℕ) (c : Component) → slice_get w.components i ≡ Some c → number_of c ≡ i

pub in_place : (x : PlayCast) (k : Cursor) (recent : ℕ) (p : Play) (ss : List Stream) (w : World) → IsPlayed x k recent p (inside (mend ss w)) → AreInPlace w
in_place x k recent p ss w P i c e =
    let s = seated x k recent p ss w P i c e in
    let A = (P.play).actors s.number (taken_in (mended c)) s.below s.there in
    A.number ∙ s.place

-- ---- streams that are said are those of the world, but where a step failed

abbrev pub AreSame : List Stream → World → Type 0
AreSame ss w = (i : ℕ) (c : Component) → slice_get w.components i ≡ Some c → c.part.failed ≡ false → stream_of (number_of c) (mend ss w) ≡ stream_of (number_of c) w

module _ (w v : World) (M : AreInPlace w) (N : AreInPlace v) where
  number_same : (i : ℕ) (c d : Component) → slice_get w.components i ≡ Some c → slice_get v.components i ≡ Some d → number_of d ≡ number_of c
  number_same i c d e f = N i d f ∙ sym (M i c e)

  pub same_stay : (ss : List Stream) → PartsStay w v → AreSame ss w → AreSame ss v
  same_stay ss K S i d e f =
      let k = K.failed i d e in
      let number = number_same i k.0 d k.1 e in
      let streams = K.streams in
      ap (λ (n : ℕ). stream_of n (mend ss v)) number ∙ (S i k.0 k.1 (sym k.2 ∙ f) ∙ (λ j. find (is_stream_of (sym number j)) (sym streams j)))

  -- those of sinks whose step failed stay
  pub fronts_stay : (x : Cast) (contents : PlayContents) (stream : ℕ → List ℕ) → PartsStay w v → AreFailedFronts x contents w stream → AreFailedFronts x contents v stream
  fronts_stay x contents stream K F l d s b sink e f z =
      let i : ℕ = script_place x (taker_of x l) in
      let k = K.failed i d e in
      let number = number_same i k.0 d k.1 e in
      let streams = K.streams in
      let was : stream_of (number_of k.0) w ≡ Some s = (λ j. find (is_stream_of (sym number j)) (sym streams j)) ∙ f in
      F l k.0 s b sink k.1 was (sym k.2 ∙ z)

-- ---- the stream of one component goes on

module _ (n : ℕ) (done : WorkDone) where
  abbrev on : Stream → Stream
  on s = if is_stream_of n s then gone_through done s else s

  pub found_on : (k : ℕ) (ss : List Stream) → find (is_stream_of k) (map on ss) ≡ option_map on (find (is_stream_of k) ss)
  found_on k [] = refl
  found_on k (s ∷ ss) =
      let same : is_stream_of k (on s) ≡ is_stream_of k s = either (is_stream_of n s) (λ t. ap (λ (q : Bool). is_stream_of k (if q then gone_through done s else s)) t) (λ t. ap (λ (q : Bool). is_stream_of k (if q then gone_through done s else s)) t) in
      either (is_stream_of k s)
      (λ t. ap (λ (q : Bool). if q then Some (on s) else find (is_stream_of k) (map on ss)) (same ∙ t) ∙ ap (λ (q : Bool). option_map on (if q then Some s else find (is_stream_of k) ss)) (sym t))
      (λ t.
      ap (λ (q : Bool). if q then Some (on s) else find (is_stream_of k) (map on ss)) (same ∙ t)
      ∙ (found_on k ss ∙ ap (λ (q : Bool). option_map on (if q then Some s else find (is_stream_of k) ss)) (sym t)))

  module _ (w v : World) (M : AreInPlace w) (N : AreInPlace v) (went : v.streams ≡ gone_on w.streams n done) (K : KeepsFailed w v) where
    pub same_gone : (ss : List Stream) → AreSame ss w → AreSame (gone_on ss n done) v
    same_gone ss S i d e f =
        let k = K i d e in
        let number : number_of d ≡ number_of k.0 = N i d e ∙ sym (M i k.0 k.1) in
        let was : find (is_stream_of (number_of k.0)) ss ≡ find (is_stream_of (number_of k.0)) w.streams = S i k.0 k.1 (sym k.2 ∙ f) in
        let on_both : find (is_stream_of (number_of k.0)) (gone_on ss n done) ≡ find (is_stream_of (number_of k.0)) (gone_on w.streams n done) =
        found_on (number_of k.0) ss ∙ (ap (option_map on) was ∙ sym (found_on (number_of k.0) w.streams)) in
        ap (λ (m : ℕ). find (is_stream_of m) (gone_on ss n done)) number ∙ (on_both ∙ (λ j. find (is_stream_of (sym number j)) (sym went j)))

  -- that of a sink whose step had failed before, which is another one
  pub front_gone : (w v : World) → v.streams ≡ gone_on w.streams n done → (c d : Component) (s : Stream) → number_of d ≡ number_of c → number_of c ≢ n → stream_of (number_of d) v ≡ Some s → stream_of (number_of c) w ≡ Some s
  front_gone w v went c d s number away f = sym (stream_else w v n (number_of c) (gone_through done) (λ r. refl) went away) ∙ (ap (λ (m : ℕ). stream_of m v) (sym number) ∙ f)
