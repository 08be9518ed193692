-- What the change of a late source's link makes of its two ports: how they stand by how far it is, and what is queued at their
-- components. A link that isn't changed stands as one of whose change nothing was done.
use Rattle.std.specs.Prelude.{◌≡◌, ◌≤◌, ℕ, zero, suc, Bool, true, false, not, ◌&&◌, ◌||◌, nat_eq, nat_le, if◌then◌else◌, List, [], ◌∷◌, ◌++◌, Option, Some, None}
use Rattle.omx_types.specs.declared.command.Command.{Command}
use Rattle.omx_types.specs.declared.command.Command.TheVariants.{PortDisable, PortEnable}
use Rattle.omx_types.specs.declared.command.Completion.{Completion}
use Rattle.omx_types.specs.declared.command.Completion.TheVariants as completions
use Rattle.omx_types.specs.declared.command.Event.TheVariants.{CmdComplete}
use Rattle.omx_types.specs.declared.command.Note.{Note}
use Rattle.omx_types.specs.declared.command.Note.TheVariants.{Told}
use Rattle.omx_types.specs.declared.command.PortSel.TheVariants.{One}
use Rattle.il_machine.specs.declared.port.Link.{Link}
use Rattle.il_machine.specs.declared.port.Mode.{Mode}
use Rattle.il_machine.specs.declared.port.Mode.TheVariants.{Steady, Enabling, Disabling}
use Rattle.il_machine.specs.declared.port.PortState.{PortState}
use Rattle.play_model.specs.Numbers.{settings_announced, both_disables_sent, tunnel_dropped, output_set, retuned, tunnel_set_up, disable_told, enable_told}
use Rattle.play_model.specs.Changes.{Change, port_at}
use Rattle.play_model.specs.Play.{Layout, Play}

-- ---- a port, by its own number in the change

abbrev pub is_enabled_at : ℕ → Bool
is_enabled_at zero = true
is_enabled_at (suc zero) = true
is_enabled_at (suc (suc zero)) = false
is_enabled_at (suc (suc (suc zero))) = false
is_enabled_at (suc (suc (suc (suc zero)))) = false
is_enabled_at (suc (suc (suc (suc (suc zero))))) = false
is_enabled_at _ = true

abbrev pub mode_at : ℕ → Mode
mode_at (suc (suc zero)) = Disabling
mode_at (suc (suc (suc (suc (suc (suc zero)))))) = Enabling
mode_at _ = Steady

-- its disable or enable is queued
abbrev pub commands_of_port : ℕ → ℕ → List Command
commands_of_port (suc zero) port = PortDisable (One port) ∷ []
commands_of_port (suc (suc (suc (suc (suc zero))))) port = PortEnable (One port) ∷ []
commands_of_port _ port = []

-- its disable or enable is done, and that isn't told
abbrev pub notes_of_port : ℕ → ℕ → List Note
notes_of_port (suc (suc (suc zero))) port = Told (CmdComplete (completions.Disable port)) ∷ []
notes_of_port (suc (suc (suc (suc (suc (suc (suc zero))))))) port = Told (CmdComplete (completions.Enable port)) ∷ []
notes_of_port _ port = []

-- what was told of it last
abbrev pub told_of_port : ℕ → ℕ → Option Completion
told_of_port (suc (suc (suc (suc zero)))) port = Some (completions.Disable port)
told_of_port (suc (suc (suc (suc (suc zero))))) port = Some (completions.Disable port)
told_of_port (suc (suc (suc (suc (suc (suc zero)))))) port = Some (completions.Disable port)
told_of_port (suc (suc (suc (suc (suc (suc (suc zero))))))) port = Some (completions.Disable port)
told_of_port (suc (suc (suc (suc (suc (suc (suc (suc n)))))))) port = Some (completions.Enable port)
told_of_port _ port = None

-- where that the port was disabled, or enabled, was told last, it has come so far
abbrev pub IsPast : ℕ → ℕ → Option Completion → Type 0
IsPast n port told = (told ≡ Some (completions.Disable port) → disable_told ≤ n) × (told ≡ Some (completions.Enable port) → enable_told ≤ n)

-- ---- both ports, by the acts of the conductor

-- the source holds its port from its announcement on until the port's format is set
abbrev pub is_held_at : Bool → ℕ → Bool
is_held_at output step = output && nat_le settings_announced step && nat_le step tunnel_dropped

-- the tunnel is dropped, and set up again
abbrev pub is_joined_at : ℕ → Bool
is_joined_at step = nat_le step both_disables_sent || nat_le tunnel_set_up step

-- the format is set first at the output
abbrev pub is_set_at : Bool → ℕ → Bool
is_set_at true step = nat_le output_set step
is_set_at false step = nat_le retuned step

abbrev pub state_by : Bool → Change → Link → PortState
state_by output k link = record {
  enabled = is_enabled_at (port_at output k);
  mode = mode_at (port_at output k);
  flushing = false;
  held = is_held_at output k.step;
  waiting_mark = None;
  link = if is_joined_at k.step then Some link else None;
}

-- the format of a link's port is known
abbrev pub is_set : Layout → Play → Bool → ℕ → Bool
is_set w p output l = not (w.is_late l) || is_set_at output (p.change l).step

-- ---- a component

-- of a late source's link, what P has of its ports at the component
abbrev pub at_ends : {A : Type 0} → Layout → (Bool → ℕ → List A) → ℕ → ℕ → List A
at_ends w P c l =
    if w.is_late l
    then (if nat_eq ((w.network).giver l) c then P true l else []) ++ (if nat_eq ((w.network).taker l) c then P false l else [])
    else []

-- of all links below a number
abbrev pub at_links : {A : Type 0} → Layout → (Bool → ℕ → List A) → ℕ → ℕ → List A
at_links w P c zero = []
at_links w P c (suc l) = at_links w P c l ++ at_ends w P c l
