-- A work comes back from a step.
use Rattle.std.proofs.Common.{◌≡◌, ℕ, Bool, false, if◌then◌else◌, Option, Some, ◌∙◌, ap}
use Rattle.il_machine.specs.Due.{ClosesTo}
use Rattle.il_machine.specs.World.{Component, Stream, Work, World, changed_at, number_of, stream_of, with_component}
use Rattle.il_machine.specs.Claims.{carried, terms_in}
use Rattle.il_machine.specs.Stepping.{WorkDone, IsStepBy}
use Rattle.il_machine.specs.Finishing.{announced, finished, finished_by, with_landed}
use Rattle.il_machine.specs.Sound.{Sound}
use Rattle.play_world_laws.specs.Cast.{Cast, script_place}

pub finished_is : (i : ℕ) (a : Component) (its : WorkDone) (w : World) (work : Work) (s : Stream) → a.work ≡ Some work → work.announces ≡ false → stream_of (number_of a) w ≡ Some s → finished i a its w ≡ with_landed i a its s w
finished_is i a its w work s f h g =
    ap (λ (o : Option Work). finished_by i a its o w) f
    ∙ (ap (λ (z : Bool). if z then with_component i (announced a) w else changed_at (stream_of (number_of a) w) w (λ u. with_landed i a its u w)) h
    ∙ ap (λ (o : Option Stream). changed_at o w (λ u. with_landed i a its u w)) g)

-- what the work comes back as, and what it leaves before the close-out
pub record IsBack (x : Cast) (w v : World) (c : ℕ) (a : Component) (work : Work) (its : WorkDone) : Type 0 where
  pub stream : Stream
  pub found : stream_of (number_of a) w ≡ Some stream
  pub step : IsStepBy its.fault (terms_in a work) stream (carried w.headers work.headers) its
  pub sound : Sound (with_landed (script_place x c) a its stream w)
  pub closes : ClosesTo (with_landed (script_place x c) a its stream w) v
