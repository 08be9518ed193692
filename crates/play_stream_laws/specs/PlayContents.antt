-- The contents of a play: what each component's part does once the formats of all its ports are known, and what the files
-- of its sources hold.
use Rattle.std.specs.Prelude.{◌≡◌, ℕ, ◌-◌, ◌<◌, true, false, List, length, slice_get, Some, MatchOption}
use Rattle.omx_types.specs.declared.format.Format.{Format}
use Rattle.omx_types.specs.Formats.{is_auto}
use Rattle.part_api.specs.Terms.{Terms}
use Rattle.il_machine.specs.Kinds.{is_source}
use Rattle.il_machine.specs.Parts.{terms_of}
use Rattle.il_machine.specs.Stepping.{format_at}
use Rattle.il_machine.specs.World.{Component, World, number_of, stream_of}
use Rattle.play_model.specs.Content.{AreContents}
use Rattle.play_world_laws.specs.Cast.{components_of, giver_of, links_of, script_place, taker_of}
use Rattle.play_world_laws.specs.PlayWorlds.{PlayCast}
use Rattle.play_stream_laws.specs.Parts.{part_of}
use Rattle.play_stream_laws.specs.Contents.{PlayContents, Tells, network_of}

-- Of as many ports, each whose format is known has the format that the other list says.
pub record AreSetAs (formats planned : List Format) : Type 0 where
  pub many : length formats ≡ length planned
  pub each : (i : ℕ) (format plan : Format) → slice_get formats i ≡ Some format → slice_get planned i ≡ Some plan → is_auto format ≡ false → format ≡ plan

-- Only formats that aren't known yet differ.
pub record IsSetAs (terms planned : Terms) : Type 0 where
  pub kind : terms.kind ≡ planned.kind
  pub inputs : AreSetAs terms.inputs planned.inputs
  pub outputs : AreSetAs terms.outputs planned.outputs
  pub factors : terms.factors ≡ planned.factors
  pub file : terms.file ≡ planned.file

-- The world's components are set so, and their files hold that. At both ends of a late source's link the format is that of its file.
pub record HasPlayContents (x : PlayCast) (k : PlayContents) (w : World) : Type 0 where
  pub lawful : AreContents (network_of x.cast) k.model
  pub terms : (c : ℕ) (a : Component) → c < components_of x.cast → slice_get w.components (script_place x.cast c) ≡ Some a → IsSetAs (terms_of a) (k.terms c)
  pub late_output : (l : ℕ) → l < links_of x.cast → ((x.cast).layout).is_late l ≡ true → format_at (k.terms (giver_of x.cast l)) ((x.cast).output_port l) ≡ x.format l
  pub late_input : (l : ℕ) → l < links_of x.cast → ((x.cast).layout).is_late l ≡ true → format_at (k.terms (taker_of x.cast l)) ((x.cast).input_port l) ≡ x.format l
  pub parts : (c : ℕ) → c < components_of x.cast → (k.model).part c ≡ part_of (k.terms c)
  pub files : (c : ℕ) (a : Component) → c < components_of x.cast → slice_get w.components (script_place x.cast c) ≡ Some a → is_source a.settings.kind ≡ true
      → MatchOption (stream_of (number_of a) w) ⊥ (λ s. Tells s.known ((k.model).file c))
  pub outputs : (l : ℕ) → l < links_of x.cast → (k.model).output l ≡ (x.cast).output_port l - ((k.model).part (giver_of x.cast l)).inputs
  pub inputs : (c i : ℕ) → i < ((k.model).part c).inputs → (x.cast).input_port ((k.model).input c i) ≡ i
  pub units : (l : ℕ) → l < links_of x.cast → (k.model).unit l ≡ (x.cast).unit l
