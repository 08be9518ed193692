-- A component to which a command was sent.
use Rattle.std.proofs.Common.{◌≡◌, ℕ, true, Some, ◌+◌, ◌<◌, ◌≤◌, false, ◌||◌, nat_eq, nat_le, nat_lt, List, [], ◌∷◌, ◌++◌, length, length-append, map, sum_by, None, refl, ◌∙◌, leb-false, ltb-false, arith}
use Rattle.std.proofs.lemmas.List.{length-map}
use Rattle.std.proofs.lemmas.List.Sums.{sum_by_push, sum_by-cons}
use Rattle.omx_types.specs.declared.command.Command.{Command}
use Rattle.omx_types.specs.declared.command.Event.TheVariants.{Error}
use Rattle.omx_types.specs.declared.error.OmxError.TheVariants as errors
use Rattle.il_machine.specs.declared.port.PortState.{PortState}
use Rattle.il_machine.specs.States.{is_invalid}
use Rattle.il_machine.specs.Look.{Look}
use Rattle.il_machine.specs.World.{Component, Work, told}
use Rattle.il_machine.specs.Room.{cost_of, port_reserve, used, room}
use Rattle.il_machine.specs.Commands.{calmed, invalidated, is_at_once, lacks_port, lacks_target, lacks_command_room, send_refusal, sent}
use Rattle.il_machine.specs.Sound.{IsSound, IsUnitSound, may_work}
use Rattle.machine_laws.proofs.Finding.{either}
use Rattle.machine_laws.specs.Changes.{IsChange, link_of}
use Rattle.machine_laws.proofs.Change.{change_twice}
use Rattle.machine_laws.proofs.Rooms.{costs, places, costs_same, sound_with, sound_told, change_told, aside_told}
use Rattle.machine_laws.proofs.Units.{IsAside, IsFair, fair_aside}
use Rattle.machine_laws.proofs.Fairness.{fair_then_aside, fair_invalidated}
use Rattle.machine_laws.proofs.Accepting.{passed, not_either}

-- ---- StateSet(Invalid)

rested_places : (ps : List PortState) → sum_by port_reserve (map calmed ps) ≡ 0
rested_places [] = refl
rested_places (p ∷ ps) = let s = sum_by-cons port_reserve (calmed p) (map calmed ps) in let i = rested_places ps in omega arith

rested_links : (ps : List PortState) → map link_of (map calmed ps) ≡ map link_of ps
rested_links [] = refl
rested_links (p ∷ ps) = let i = rested_links ps in cc

sound_invalidated : (c : Component) → IsSound c → IsSound (invalidated c)
sound_invalidated c S =
    let p : places (invalidated c) ≡ 0 = rested_places c.ports in
    sound_with (invalidated c) (record {
      whole = S.whole;
      ports = length-map c.ports calmed ∙ S.ports;
      settings = S.settings;
      fit = refl;
      file = S.file;
      cause = λ q e. absurd cc;
      mark = λ t. absurd cc;
      commands = omega arith;
    }) (omega (arith, S.room))

change_invalidated : (c : Component) → IsChange c (invalidated c)
change_invalidated c = record { handle = refl; ports = refl; links = rested_links c.ports; notes = refl }

-- ---- any other command

sound_queued : (command : Command) (c : Component) → IsSound c → length c.commands < 32 → used c + cost_of c command ≤ 256 → IsSound (record c { commands = c.commands ++ command ∷ [] })
sound_queued command c S l u =
    let d : Component = record c { commands = c.commands ++ command ∷ [] } in
    let k : costs d ≡ sum_by (cost_of c) (c.commands ++ command ∷ []) = costs_same c d (c.commands ++ command ∷ []) refl in
    let s = sum_by_push (cost_of c) c.commands command in
    let n : length (c.commands ++ command ∷ []) ≡ length c.commands + 1 = length-append c.commands (command ∷ []) in
    sound_with d (record { whole = S.whole; ports = S.ports; settings = S.settings; fit = S.fit; file = S.file; cause = S.cause; mark = S.mark; commands = omega arith }) (omega arith)

-- ---- both

there_is_place : (l : Look) (command : Command) (c : Component) → send_refusal l c command ≡ None → lacks_command_room c command ≡ false
there_is_place l command c h =
    let a = passed (is_invalid c.state) _ _ h in
    let b = passed (lacks_port c command) _ _ a.1 in
    let d = passed (lacks_target l command) _ _ b.1 in
    (passed (lacks_command_room c command) _ _ d.1).0

pub sound_sent : (l : Look) (command : Command) (c : Component) → IsSound c → send_refusal l c command ≡ None → IsSound (sent command c)
sound_sent l command c S h =
    let p = there_is_place l command c h in
    either (is_at_once command)
    (λ t. let r : nat_eq (room (invalidated c)) 0 ≡ false = rw t at p in rw t (sound_told (Error errors.InvalidState) (invalidated c) (sound_invalidated c S) r))
    (λ f.
    let r : (nat_le 32 (length c.commands) || nat_lt (room c) (cost_of c command)) ≡ false = rw f at p in
    let q = not_either (nat_le 32 (length c.commands)) (nat_lt (room c) (cost_of c command)) r in
    let a : length c.commands < 32 = leb-false 32 (length c.commands) q.0 in
    let b : cost_of c command ≤ room c = ltb-false (room c) (cost_of c command) q.1 in
    rw f (sound_queued command c S a (omega (arith, S.room))))

pub change_sent : (command : Command) (c : Component) → IsChange c (sent command c)
change_sent command c = either (is_at_once command)
    (λ t. rw t (change_twice c (invalidated c) (told (Error errors.InvalidState) (invalidated c)) (change_invalidated c) (change_told (Error errors.InvalidState) (invalidated c))))
    (λ f. rw f (record { handle = refl; ports = refl; links = refl; notes = refl }))

-- ---- its units and its work

aside_queued : (command : Command) (c : Component) → IsAside c (record c { commands = c.commands ++ command ∷ [] })
aside_queued command c = record { keeps = record { kind = refl; weights = refl; count = refl; work = refl }; state = refl; pending = refl; holds = refl; waiting = refl; part = refl; held = λ test h. h }

pub fair_sent : (waits : ℕ) (command : Command) (c : Component) → IsUnitSound waits c → ((work : Work) → c.work ≡ Some work → may_work c ≡ true) → IsFair 0 waits waits c (sent command c)
fair_sent waits command c U m = either (is_at_once command)
    (λ t. rw t (fair_then_aside 0 waits waits c (invalidated c) (told (Error errors.InvalidState) (invalidated c)) (fair_invalidated waits c U) (aside_told (Error errors.InvalidState) (invalidated c))))
    (λ f. rw f (fair_aside waits c (record c { commands = c.commands ++ command ∷ [] }) (aside_queued command c) U m))
