-- A component gets a value.
use Rattle.std.proofs.Common.{◌≡◌, ℕ, Bool, true, false, ◌||◌, List, [], ◌∷◌, ◌++◌, Some, None, slice_get}
use Rattle.omx_types.specs.declared.error.OmxError.TheVariants as errors
use Rattle.omx_types.specs.declared.param.Param.{Param}
use Rattle.omx_types.specs.declared.param.ParamKey.{ParamKey}
use Rattle.il_machine.specs.States.{is_invalid}
use Rattle.il_machine.specs.Lists.{first_of_these}
use Rattle.il_machine.specs.Settings.{set_refusal, set_refusals}
use Rattle.il_machine.specs.World.{Component, World, with_component}
use Rattle.il_machine.specs.Headers.{Seen}
use Rattle.il_machine.specs.Look.{look}
use Rattle.il_machine.specs.Parameters.{is_format_free, is_wrong_time, with_value}
use Rattle.il_machine.specs.Sound.{Sound}
use Rattle.machine_laws.proofs.Accepting.{passed}
use Rattle.machine_laws.proofs.Values.{sound_set, sound_configured}
use Rattle.machine_laws.proofs.Facts.{ports_number}
use Rattle.il_machine.specs.declared.answer.Progress.{Progress}
use Rattle.registry.specs.Handles.{Handles}
use Rattle.port_stock.specs.Kept.{StockKept, stocked}
use Rattle.il_component.specs.Entries.{Entry, component_of}
use Rattle.port_rules.proofs.Passing.{left_passes}
use Rattle.graph_core.specs.Entries.{Entries}
use Rattle.graph_core.specs.Standing.{IsGraph}
use Rattle.port_rules.specs.Tests.{HasAllPorts}
use Rattle.graph_core.specs.Making.{value_refusal}
use Rattle.graph_core.proofs.Replacing.{component_sound, there}

pub settings_pass : (config : Bool) (headers : Seen) (c : Component) (key : ParamKey) (value : Param) → value_refusal config headers c key value ≡ None → set_refusal c.settings key config value (config || is_format_free c key.port value) ≡ None
settings_pass true headers c key value h = (passed (is_invalid c.state) errors.InvalidState (first_of_these (set_refusals c.settings key true value true)) h).1
settings_pass false headers c key value h =
    let last = (is_wrong_time headers c key, errors.IncorrectStateOperation) ∷ [] in
    left_passes (set_refusals c.settings key false value (is_format_free c key.port value)) last
    (passed (is_invalid c.state) errors.InvalidState (first_of_these (set_refusals c.settings key false value (is_format_free c key.port value) ++ last)) h).1

pub sound_value : (config : Bool) (w : World) (i : ℕ) (c : Component) (key : ParamKey) (value : Param) → Sound w → slice_get w.components i ≡ Some c → value_refusal config (look w).headers c key value ≡ None → Sound (with_component i (with_value key value c) w)
sound_value true w i c key value S t h = sound_configured w i c key value S t h
sound_value false w i c key value S t h = sound_set w i c key value S t h

module _ {C : Type 0} where
  -- each component of a graph has the ports of its kind, and they are the stock's
  pub all_ports : (progress : C → Progress) (es : List (Entry C)) (registry : Handles ℕ) (stock : StockKept) (units waits capacity i : ℕ) (e : Entry C) → IsGraph progress es registry stock units waits capacity → slice_get es i ≡ Some e → HasAllPorts (component_of e) (stocked stock)
  all_ports progress es registry stock units waits capacity i e G at =
      let g : Entries C = record { entries = es; stock = stock; units = units; waits = waits; numbered = registry.given } in
      record {
        many = ports_number (component_of e) (component_sound progress g i (component_of e) G.worlds (there progress g i e at));
        ports = G.ports.there i e at;
      }
