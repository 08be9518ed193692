-- A command is carried out: what it takes of places, whatever else is looked at.
use Rattle.std.proofs.Common.{◌≡◌, ℕ, ◌≤◌, ◌<◌, Option, Some, List, [], ◌∷◌, drop, slice_get, refl, ap, subst, arith}
use Rattle.omx_types.specs.declared.state.State.{State}
use Rattle.omx_types.specs.declared.error.OmxError.{OmxError}
use Rattle.omx_types.specs.declared.command.Command.{Command}
use Rattle.omx_types.specs.declared.command.Command.TheVariants as variants
use Rattle.omx_types.specs.declared.command.Event.TheVariants.{Error}
use Rattle.il_machine.specs.World.{Component, no_world}
use Rattle.il_machine.specs.Look.{Look, look}
use Rattle.il_machine.specs.Room.{used, room}
use Rattle.il_machine.specs.Commands.{begun, carried_out, run_front}
use Rattle.il_component.specs.Units.{Gives}
use Rattle.il_component.proofs.Fit.{used-told}

-- some look in which so many units are free, and so many waits were numbered: a command is carried out alike in each
abbrev pub a_look : ℕ → ℕ → Look
a_look free waits = look (record (no_world 0 free) { waits = waits })

pub gives_it : (free waits : ℕ) → Gives (a_look free waits) free waits
gives_it free waits = record { units = omega arith; numbered = refl }

pub room_to_tell : (fault : Option OmxError) (error : OmxError) (target : State) (c : Component) → fault ≡ Some error → used (begun fault target c) ≤ 256 → 0 < room c
room_to_tell fault error target c e u =
    let b : used (begun (Some error) target c) ≤ 256 = subst (λ (f : Option OmxError). used (begun f target c) ≤ 256) e u in
    let t = used-told (Error error) c in
    omega arith

pub begun_with : (fault : Option OmxError) (x : Option OmxError) (target : State) (c : Component) → fault ≡ x → begun fault target c ≡ begun x target c
begun_with fault x target c e = ap (λ (f : Option OmxError). begun f target c) e

pub run_first : (l : Look) (commands : List Command) (command : Command) (c : Component) → Some command ≡ slice_get commands 0 → run_front l commands c ≡ carried_out l command (record c { commands = drop 1 commands })
run_first l [] command c e = absurd cc
run_first l (x ∷ commands) command c e = let q : x ≡ command = cc in ap (λ (y : Command). carried_out l y (record c { commands = commands })) q
