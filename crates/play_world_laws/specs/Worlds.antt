-- The worlds of a play: how the machine stands while the play is where the model has it. The play is read from the plan (in
-- the cast), from what the conductor has begun and sent (phase, and stage 0), and from the world; only what an input has
-- taken is told by no world.
use Rattle.std.specs.Prelude.{◌≡◌, ℕ, ◌-◌, ◌*◌, ◌/◌, ◌<◌, ◌≤◌, Bool, true, false, not, ◌&&◌, nat_le, length, map, slice_index_or, Some, None, if◌then◌else◌}
use Rattle.il_machine.specs.declared.port.Port.{Port}
use Rattle.omx_types.specs.declared.handle.Handle.{Handle}
use Rattle.il_machine.specs.World.{place_of, Component, HeaderRecord, Work, World, PartState}
use Rattle.il_machine.specs.Headers.{is_for}
use Rattle.il_machine.specs.Claims.{wanted}
use Rattle.play_model.specs.Network.{IsInput}
use Rattle.play_model.specs.Numbers.{to_idle, to_executing, back_to_idle, transition_pending, state_reached}
use Rattle.play_model.specs.Play.{Play, made}
use Rattle.play_world_laws.specs.Cast.{Cast, script_place, links_of, output_at}

-- ---- a component

-- a sink that has ended, of which that wasn't told
abbrev pub ends_untold : Cast → Play → ℕ → Bool
ends_untold x p c = (x.layout).is_sink c && (p.flow).ended c && not (p.told c)

-- Reaching Idle again begins the part anew; until then it is as the model has it.
abbrev pub IsBeforeRest : Play → ℕ → Type 0
IsBeforeRest p c = (p.phase ≡ back_to_idle → p.stage c ≤ transition_pending) × (p.phase ≤ back_to_idle)

pub record IsPart (x : Cast) (p : Play) (c : ℕ) (part : PartState) : Type 0 where
  pub whole : part.failed ≡ false
  pub ended : IsBeforeRest p c → part.ended ≡ (p.flow).ended c
  pub inputs : IsBeforeRest p c → (l : ℕ) → IsInput (x.layout).network c l → slice_index_or part.ended_inputs (x.input_port l) false ≡ ((p.flow).link l).closed

-- A work is out only while its component runs and hasn't ended; it has a header of each port that gives one.
pub record IsWork (x : Cast) (p : Play) (c : ℕ) (a : Component) (work : Work) : Type 0 where
  pub phase : p.phase ≡ to_executing
  pub stage : state_reached ≤ p.stage c
  pub going : (p.flow).ended c ≡ false
  pub steps : work.announces ≡ false
  pub gain : work.gain ≡ a.settings.gain
  pub weights : work.weights ≡ a.settings.weights
  pub ports : map (λ h. h.port) work.headers ≡ map (λ (q : Port). q.key.port) (wanted a)

-- ---- headers

-- a header of the link: no mark goes with it, and it has whole frames
pub record IsWholeHeader (x : Cast) (l : ℕ) (r : HeaderRecord) : Type 0 where
  pub for_link : is_for (output_at x l) r.state ≡ true
  pub unmarked : r.load.mark ≡ None
  pub size : r.state.size ≡ x.size l
  pub frames : length r.load.content / x.unit l * x.unit l ≡ length r.load.content

pub record HasLink (x : Cast) (r : HeaderRecord) : Type 0 where
  pub link : ℕ
  pub below : link < links_of x
  pub whole : IsWholeHeader x link r

-- the headers of a link that are still to be made
abbrev pub to_make : Cast → Play → ℕ → ℕ
to_make x p l = if nat_le p.phase to_idle then ((x.layout).network).count l - made p l else 0

-- ---- an act of the machine

-- the handle names the component
abbrev pub Names : Cast → World → ℕ → Handle → Type 0
Names x w c h = place_of h w.components ≡ Some (script_place x c)
