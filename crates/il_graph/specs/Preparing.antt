-- What is set of a component is set of its part before a step: the formats of its ports, and its factors.
use Rattle.std.specs.Prelude.{◌≡◌, ℕ, ◌+◌, ◌<◌, ◌≤◌, Bool, true, false, List, [], ◌∷◌, length}
use Rattle.omx_types.specs.declared.format.Format.{Format}
use Rattle.part_api.specs.Terms.{Terms}
use Rattle.part_forms.specs.Sinking.{reformatted}
use Rattle.il_machine.specs.declared.port.PortSetting.{PortSetting}
use Rattle.il_machine.specs.World.{Component}
use Rattle.il_machine.specs.Parts.{factors_by}
use Rattle.audio_parts.specs.Kinds.{MayHave, with_factor, with_format}
use Rattle.audio_parts.specs.Shown.{ShownPart}

module _ {S K : Type 0} where
  abbrev pub with_port_format : ℕ → Format → ShownPart S K → ShownPart S K
  with_port_format port format p = record p { terms = with_format p.terms port format; writing = reformatted format p.writing }

  -- those of the ports from this one on
  abbrev pub with_formats : ℕ → List PortSetting → ShownPart S K → ShownPart S K
  with_formats port [] p = p
  with_formats port (s ∷ settings) p = with_formats (port + 1) settings (with_port_format port s.definition.format p)

  abbrev pub with_input_factor : ℕ → ℕ → ShownPart S K → ShownPart S K
  with_input_factor input factor p = record p { terms = with_factor p.terms input factor }

  -- those of the inputs from this one on
  abbrev pub with_factors : ℕ → List ℕ → ShownPart S K → ShownPart S K
  with_factors input [] p = p
  with_factors input (factor ∷ factors) p = with_factors (input + 1) factors (with_input_factor input factor p)

  abbrev pub prepared : Component → ShownPart S K → ShownPart S K
  prepared c p = with_factors 0 (factors_by c.settings.kind c.settings.gain c.settings.weights) (with_formats 0 c.settings.ports p)

-- the ports from this one on may have the formats
abbrev pub MayHaveAll : ℕ → List PortSetting → Terms → Type 0
MayHaveAll port [] t = Unit {0}
MayHaveAll port (s ∷ settings) t =
    (port < length t.inputs + length t.outputs) × MayHave t port s.definition.format × MayHaveAll (port + 1) settings (with_format t port s.definition.format)

-- all that is set of the component may be set of a part of these terms
pub record MaySet (c : Component) (t : Terms) : Type 0 where
  pub few : length c.settings.ports ≤ 9
  pub formats : MayHaveAll 0 c.settings.ports t
  pub factors : length (factors_by c.settings.kind c.settings.gain c.settings.weights) ≡ length t.factors

-- nothing is set for an announcement
abbrev pub prepared_where : {S K : Type 0} → Bool → Component → ShownPart S K → ShownPart S K
prepared_where true c p = p
prepared_where false c p = prepared c p
