-- The worlds of a play: those of a play, but for the links of late sources, which stand as their changes have them.
use Rattle.std.specs.Prelude.{◌≡◌, ◌≢◌, ℕ, zero, suc, ◌+◌, ◌-◌, ◌<◌, ◌≤◌, ◌⊎◌, Bool, true, false, not, nat_le, if◌then◌else◌, List, [], ◌∷◌, ◌++◌, length, map, sum_by, slice_get, Option, Some, None, is_some, MatchOption}
use Rattle.omx_types.specs.declared.command.Command.{Command}
use Rattle.omx_types.specs.declared.command.Event.TheVariants.{PortSettingsChanged}
use Rattle.omx_types.specs.declared.command.Note.{Note}
use Rattle.omx_types.specs.declared.command.Note.TheVariants.{Told}
use Rattle.omx_types.specs.declared.format.Format.{Format}
use Rattle.omx_types.specs.declared.kind.Kind.{Kind}
use Rattle.omx_types.specs.Formats.{frame_bytes_of, is_auto}
use Rattle.il_machine.specs.declared.answer.Progress.{Progress}
use Rattle.il_machine.specs.declared.port.Port.{Port}
use Rattle.il_machine.specs.declared.port.PortKey.{PortKey}
use Rattle.il_machine.specs.declared.port.PortSetting.{PortSetting}
use Rattle.il_machine.specs.Claims.{wanted}
use Rattle.il_machine.specs.Finishing.{end_note}
use Rattle.il_machine.specs.Headers.{find_header, is_for}
use Rattle.il_machine.specs.Kinds.{is_input_format, is_late, is_sink, is_source}
use Rattle.il_machine.specs.Parameters.{overflows}
use Rattle.il_machine.specs.Parts.{file_format, frames_of}
use Rattle.il_machine.specs.Ports.{is_input_port}
use Rattle.il_machine.specs.Queued.{notes_given}
use Rattle.il_machine.specs.Settings.{Settings, fits, is_splitter, same_format, same_rate_and_channels}
use Rattle.il_machine.specs.Sound.{Sound}
use Rattle.il_machine.specs.Tunnels.{agreed}
use Rattle.il_machine.specs.Units.{need_of}
use Rattle.il_machine.specs.World.{Component, HeaderRecord, Work, World, number_of, port_of, stream_of}
use Rattle.play_model.specs.Network.{IsInput, IsOutput}
use Rattle.play_model.specs.Progress.{IsLinkOf, all_headers, sum_to}
use Rattle.play_model.specs.Numbers.{to_executing, back_to_idle, transition_pending, state_reached, not_announced, settings_told, both_disables_sent, enable_done}
use Rattle.play_model.specs.Changes.{IsHalfChanged, port_at}
use Rattle.play_model.specs.Play.{HasPorts, Play, component_at, made}
use Rattle.play_model.specs.Reached.{IsReached}
use Rattle.play_world_laws.specs.View.{link_view}
use Rattle.play_world_laws.specs.Cast.{Cast, IsCast, components_of, input_at, links_of, output_at, script_place, supplier_of}
use Rattle.play_world_laws.specs.Standing.{commands_at, standing}
use Rattle.play_world_laws.specs.Telling.{heard, last_note, last_told, state_note, unheard}
use Rattle.play_world_laws.specs.Wiring.{IsSomeEnd, ends_of, link_to, port_in, work_in}
use Rattle.play_world_laws.specs.Worlds.{HasLink, IsPart, ends_untold, to_make}
use Rattle.play_world_laws.specs.Changing.{IsPast, at_links, commands_of_port, is_joined_at, is_set, notes_of_port, state_by, told_of_port}

-- a cast, and the format that goes through each link
pub record PlayCast : Type 0 where
  pub cast : Cast
  pub format : ℕ → Format

-- the end of a link at its output, else at its input, and the number of its port
abbrev pub end_of_link : Cast → Bool → ℕ → PortKey
end_of_link x true l = output_at x l
end_of_link x false l = input_at x l

abbrev pub port_number : Cast → Bool → ℕ → ℕ
port_number x true l = x.output_port l
port_number x false l = x.input_port l

-- ---- ports

pub record IsEndAt (x : PlayCast) (p : Play) (l : ℕ) (output : Bool) (at peer : PortKey) (q : Port) : Type 0 where
  pub key : q.key ≡ at
  pub state : q.state ≡ state_by output (p.change l) (link_to x.cast l peer)
  pub direction : is_input_port q ≡ not output
  pub count : q.setting.definition.count ≡ (((x.cast).layout).network).count l
  pub size : q.setting.definition.size ≡ (x.cast).size l
  pub known : is_auto q.setting.definition.format ≡ not (is_set (x.cast).layout p output l)
  pub unit : is_set (x.cast).layout p output l ≡ true → frame_bytes_of q.setting.definition.format ≡ (x.cast).unit l
  pub format : ((x.cast).layout).is_late l ≡ true → is_set (x.cast).layout p output l ≡ true → q.setting.definition.format ≡ x.format l

pub record IsWiredAt (x : PlayCast) (p : Play) (ports : PortKey → Option Port) (l : ℕ) : Type 0 where
  pub output : Port
  pub input : Port
  pub output_there : ports (output_at x.cast l) ≡ Some output
  pub input_there : ports (input_at x.cast l) ≡ Some input
  pub output_end : IsEndAt x p l true (output_at x.cast l) (input_at x.cast l) output
  pub input_end : IsEndAt x p l false (input_at x.cast l) (output_at x.cast l) input
  pub apart : (output_at x.cast l).component ≢ (input_at x.cast l).component
  -- the tunnel that is set up again is supplied as before
  pub supplied : ((x.cast).layout).is_late l ≡ true → agreed output.setting.supplier input.setting.supplier ≡ supplier_of x.cast l

-- ---- components

abbrev pub commands_of_end : Cast → Play → Bool → ℕ → List Command
commands_of_end x p output l = commands_of_port (port_at output (p.change l)) (port_number x output l)

abbrev pub port_commands : Cast → Play → ℕ → List Command
port_commands x p c = at_links x.layout (commands_of_end x p) c (links_of x)

abbrev pub notes_of_end : Cast → Play → Bool → ℕ → List Note
notes_of_end x p output l = notes_of_port (port_at output (p.change l)) (port_number x output l)

abbrev pub port_notes : Cast → Play → ℕ → List Note
port_notes x p c = at_links x.layout (notes_of_end x p) c (links_of x)

-- a late source has announced that its settings changed, and that isn't told
abbrev pub announced_note : ℕ → ℕ → List Note
announced_note (suc zero) port = Told (PortSettingsChanged port) ∷ []
announced_note _ port = []

abbrev pub settings_of_end : Cast → Play → Bool → ℕ → List Note
settings_of_end x p true l = announced_note (p.change l).step (x.output_port l)
settings_of_end x p false l = []

abbrev pub settings_notes : Cast → Play → ℕ → List Note
settings_notes x p c = at_links x.layout (settings_of_end x p) c (links_of x)

-- What the conductor has heard of a component, where of the links that are changed this one's change was begun last.
pub record HasHeard (x : Cast) (recent : ℕ) (p : Play) (c : ℕ) (h : Progress) : Type 0 where
  pub state : h.state ≡ last_told p.phase (p.stage c)
  pub eos : h.eos ≡ p.told c
  pub error : h.error ≡ None
  pub settings : (l : ℕ) → IsOutput (x.layout).network c l → (x.layout).is_late l ≡ true → is_some h.settings ≡ nat_le settings_told (p.change l).step
  pub port : (output : Bool) → recent < links_of x → component_at x.layout output recent ≡ c → (x.layout).is_late recent ≡ true
      → is_some (told_of_port (port_at output (p.change recent)) (port_number x output recent)) ≡ true
      → h.port ≡ told_of_port (port_at output (p.change recent)) (port_number x output recent)
  pub past : (output : Bool) (l : ℕ) → l < links_of x → component_at x.layout output l ≡ c → (x.layout).is_late l ≡ true → IsPast (port_at output (p.change l)) (port_number x output l) h.port
  -- one without a late source's link has told nothing of these
  pub nothing : ((l : ℕ) → IsLinkOf (x.layout).network c l → (x.layout).is_late l ≡ false) → (h.settings ≡ None) × (h.port ≡ None)

-- a work is a step on the headers of its ports, none of which is held or being changed, or a late source's announcement of no header
pub record IsAnnouncement (x : Cast) (p : Play) (c : ℕ) (work : Work) : Type 0 where
  pub link : ℕ
  pub output : IsOutput (x.layout).network c link
  pub late : (x.layout).is_late link ≡ true
  pub unannounced : (p.change link).step ≡ not_announced
  pub none : work.headers ≡ []
  pub announces : work.announces ≡ true

pub record IsWorkAt (x : Cast) (p : Play) (c : ℕ) (a : Component) (work : Work) : Type 0 where
  pub phase : p.phase ≡ to_executing
  pub stage : state_reached ≤ p.stage c
  pub going : (p.flow).ended c ≡ false
  pub gain : work.gain ≡ a.settings.gain
  pub weights : work.weights ≡ a.settings.weights
  pub which : ((work.announces ≡ false) × HasPorts x.layout p c × (map (λ h. h.port) work.headers ≡ map (λ (q : Port). q.key.port) (wanted a))) ⊎ IsAnnouncement x p c work

-- both at the ports of one component of the kind
abbrev pub IsAlike : Kind → Format → Format → Type 0
IsAlike kind f g = (same_rate_and_channels f g ≡ true) × (is_splitter kind ≡ true → same_format f g ≡ true)

-- Its ports fit, and so they do with the formats of the late sources' links that it takes out of.
pub record IsSetFor (x : PlayCast) (c : ℕ) (s : Settings) : Type 0 where
  pub fit : fits s ≡ true
  pub taken : (l : ℕ) → IsInput ((x.cast).layout).network c l → ((x.cast).layout).is_late l ≡ true → is_input_format s.kind (x.format l) ≡ true
  pub beside : (l i : ℕ) (y : PortSetting) → IsInput ((x.cast).layout).network c l → ((x.cast).layout).is_late l ≡ true → slice_get s.ports i ≡ Some y → is_auto y.definition.format ≡ false
      → IsAlike s.kind y.definition.format (x.format l)
  pub together : (k l : ℕ) → IsInput ((x.cast).layout).network c k → IsInput ((x.cast).layout).network c l → ((x.cast).layout).is_late k ≡ true → ((x.cast).layout).is_late l ≡ true
      → IsAlike s.kind (x.format k) (x.format l)

pub record IsActorAt (x : PlayCast) (recent : ℕ) (p : Play) (w : World) (c : ℕ) (a : Component) : Type 0 where
  pub number : number_of a ≡ script_place x.cast c
  pub stands : a ≡ record (standing p.phase (p.stage c) a) { commands = commands_at p.phase (p.stage c) ++ port_commands x.cast p c }
  pub set_for : IsSetFor x c a.settings
  -- nor has its file too many bytes in these formats
  pub roomy : (l : ℕ) → IsInput ((x.cast).layout).network c l → ((x.cast).layout).is_late l ≡ true → overflows a.file (x.format l) ≡ false
  pub source : is_source a.settings.kind ≡ (((x.cast).layout).network).is_source c
  pub sink : is_sink a.settings.kind ≡ ((x.cast).layout).is_sink c
  -- a late source gives its one link
  pub late : (l : ℕ) → IsOutput ((x.cast).layout).network c l → is_late a.settings.kind ≡ ((x.cast).layout).is_late l
  pub late_format : (l : ℕ) → IsOutput ((x.cast).layout).network c l → ((x.cast).layout).is_late l ≡ true → file_format a.file ≡ x.format l
  pub file : is_source a.settings.kind ≡ true → frames_of a.file ≡ (((x.cast).layout).network).frames c
  pub notes : unheard w a ≡ state_note p.phase (p.stage c) ++ (settings_notes x.cast p c ++ (port_notes x.cast p c ++ end_note (ends_untold x.cast p c)))
  pub heard_so : HasHeard x.cast recent p c (heard w a)
  pub out : a.client_out ≡ true → (note : Note) × (last_note (notes_given (number_of a) w) ≡ note ∷ [])
  pub part : IsPart x.cast p c a.part
  pub done : MatchOption (stream_of (number_of a) w) ⊥ (λ s. s.frames ≡ (p.flow).done c)
  pub work : (work : Work) → a.work ≡ Some work → IsWorkAt x.cast p c a work
  pub running : p.phase ≡ to_executing → p.stage c ≤ transition_pending → (p.flow).ended c ≡ false
  pub over : back_to_idle ≤ p.phase → ((x.cast).layout).is_sink c ≡ true → p.told c ≡ true
  -- nor has it ended while a late source's link of it isn't changed
  pub unsteady : (output : Bool) (l : ℕ) → l < links_of x.cast → component_at (x.cast).layout output l ≡ c → ((x.cast).layout).is_late l ≡ true → port_at output (p.change l) < enable_done → (p.flow).ended c ≡ false

-- ---- the world

-- The headers of a link that are still to be made: those of a late source's link a second time, once its tunnel was dropped.
abbrev pub left_to_make : Cast → Play → ℕ → ℕ
left_to_make x p l =
    if (x.layout).is_late l
    then (if nat_le (p.change l).step both_disables_sent then to_make x p l + ((x.layout).network).count l else (if nat_le p.phase back_to_idle then ((x.layout).network).count l - made p l else 0))
    else to_make x p l

abbrev pub made_again : Cast → ℕ → ℕ
made_again x l = if (x.layout).is_late l then ((x.layout).network).count l else 0

pub record IsPlayWorld (x : PlayCast) (recent : ℕ) (p : Play) (w : World) : Type 0 where
  pub cast_is : IsCast x.cast
  pub formats : (l : ℕ) → l < links_of x.cast → ((x.cast).layout).is_late l ≡ true → (frame_bytes_of (x.format l) ≡ (x.cast).unit l) × (is_auto (x.format l) ≡ false)
  pub reached : IsReached (x.cast).layout p
  pub sound : Sound w
  pub many : length w.components ≡ components_of x.cast
  pub actors : (c : ℕ) (a : Component) → c < components_of x.cast → slice_get w.components (script_place x.cast c) ≡ Some a → IsActorAt x recent p w c a
  -- no other link is half changed
  pub half : (l : ℕ) → l < links_of x.cast → ((x.cast).layout).is_late l ≡ true → IsHalfChanged (p.change l) → l ≡ recent
  pub wired : (l : ℕ) → l < links_of x.cast → IsWiredAt x p (port_in w.components) l
  pub ends : (i port : ℕ) (a : Component) (q : Port) → slice_get w.components i ≡ Some a → port_of a port ≡ Some q → IsSomeEnd x.cast q.key
  pub viewed : (l : ℕ) → l < links_of x.cast → (p.flow).link l ≡ link_view (ends_of x.cast (work_in w.components) p l) w.headers
  pub headers : (n : ℕ) (r : HeaderRecord) → find_header n w.headers ≡ Some r → HasLink x.cast r
  -- a link whose tunnel is dropped has none
  pub tunnelled : (n : ℕ) (r : HeaderRecord) (output : Bool) (l : ℕ) → find_header n w.headers ≡ Some r → l < links_of x.cast → ((x.cast).layout).is_late l ≡ true
      → is_for (end_of_link x.cast output l) r.state ≡ true → is_joined_at (p.change l).step ≡ true
  pub units : sum_by need_of w.components ≤ w.units
  pub numbers : w.made + sum_to (links_of x.cast) (left_to_make x.cast p) ≤ all_headers ((x.cast).layout).network + sum_to (links_of x.cast) (made_again x.cast)
