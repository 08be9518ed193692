-- In which order a play's conductor asks, and when: for its StateSets and for the changes of the late sources' links. It speaks of what was
-- asked so far, and of what the components' clients have heard in the world, and of no one who conducts.
use Rattle.std.specs.Prelude.{◌≡◌, ◌⊎◌, ℕ, zero, suc, ◌+◌, ◌<◌, ◌≤◌, Bool, true, false, nat_eq, if◌then◌else◌, slice_get, Option, Some, None, is_some}
use Rattle.omx_types.specs.declared.command.Command.TheVariants.{StateSet}
use Rattle.omx_types.specs.declared.command.Completion.{Completion}
use Rattle.omx_types.specs.declared.command.Completion.TheVariants as completions
use Rattle.omx_types.specs.declared.handle.Handle.{Handle}
use Rattle.omx_types.specs.declared.param.Param.TheVariants as params
use Rattle.il_machine.specs.declared.answer.Progress.{Progress}
use Rattle.il_machine.specs.Acts.{Act}
use Rattle.il_machine.specs.Acts as acts
use Rattle.il_machine.specs.World.{Component, World}
use Rattle.play_model.specs.Numbers.{unbegun, to_executing, to_loaded}
use Rattle.play_model.specs.Play.{component_at}
use Rattle.play_world_laws.specs.Cast.{Cast, components_of, giver_of, links_of, script_place, taker_of}
use Rattle.play_world_laws.specs.Standing.{target}
use Rattle.play_world_laws.specs.Telling.{heard}
use Rattle.play_world_laws.specs.Worlds.{Names}
use Rattle.play_world_laws.specs.PlayWorlds.{PlayCast, port_number}
use Rattle.play_world_laws.specs.Conducting.{definition_key, planned, port_command}

-- how much was asked
pub record Cursor : Type 0 where
  -- how many StateSets were begun, and to how many components the last of them was sent, in the order of the script
  pub phase : ℕ
  pub sent : ℕ
  -- of each late source's link how many of the eight acts of its change were made
  pub made : ℕ → ℕ
  -- since the last StateSet was begun: the link whose change was begun last
  pub changing : Option ℕ

-- nothing was asked
abbrev pub nothing_asked : Cast → Cursor
nothing_asked cast = record { phase = unbegun; sent = components_of cast; made = λ link. 0; changing = None }

-- ---- what was told

-- that holds of what the client of the component has heard
abbrev pub HasHeardOf : Cast → World → ℕ → (Progress → Type 0) → Type 0
HasHeardOf cast world number Holds = (component : Component) → slice_get world.components (script_place cast number) ≡ Some component → Holds (heard world component)

abbrev pub EachHasHeard : Cast → World → (ℕ → Progress → Type 0) → Type 0
EachHasHeard cast world Holds = (number : ℕ) → number < components_of cast → HasHeardOf cast world number (Holds number)

-- both ends of the link have told this of their ports last
abbrev pub BothHaveTold : Cast → World → (ℕ → Completion) → ℕ → Type 0
BothHaveTold cast world completion link = (output : Bool) → HasHeardOf cast world (component_at cast.layout output link) (λ progress. progress.port ≡ Some (completion (port_number cast output link)))

-- ---- what was asked last is done, and was told

abbrev pub IsStateTold : Cast → World → ℕ → Type 0
IsStateTold cast world zero = Unit {0}
IsStateTold cast world (suc before) = EachHasHeard cast world (λ number progress. progress.state ≡ Some (target (suc before)))

abbrev pub IsDoneBy : Cast → Cursor → World → Option ℕ → Type 0
IsDoneBy cast cursor world None = IsStateTold cast world cursor.phase
IsDoneBy cast cursor world (Some link) = (cursor.made link ≡ 8) × BothHaveTold cast world (λ port. completions.Enable port) link

pub record IsDone (cast : Cast) (cursor : Cursor) (world : World) : Type 0 where
  pub all_sent : components_of cast ≤ cursor.sent
  pub told : IsDoneBy cast cursor world cursor.changing

-- ---- a StateSet

-- it goes to the component at the place
pub record IsSending (cast : Cast) (world : World) (phase place : ℕ) (act : Act) : Type 0 where
  pub component : ℕ
  pub below : component < components_of cast
  pub there : script_place cast component ≡ place
  pub handle : Handle
  pub named : Names cast world component handle
  pub is : act ≡ acts.SendCommand handle (StateSet (target phase))

-- to the next component
pub record GoesOn (cast : Cast) (cursor : Cursor) (world : World) (act : Act) (next : Cursor) : Type 0 where
  pub begun : 1 ≤ cursor.phase
  pub sends : IsSending cast world cursor.phase cursor.sent act
  pub after : next ≡ record cursor { sent = cursor.sent + 1 }

-- The next one begins: before the second Idle all links of late sources are changed, and each sink has told the end of its stream.
pub record Begins (cast : Cast) (cursor : Cursor) (world : World) (act : Act) (next : Cursor) : Type 0 where
  pub more : cursor.phase < to_loaded
  pub done : IsDone cast cursor world
  pub changed : cursor.phase ≡ to_executing → (link : ℕ) → link < links_of cast → (cast.layout).is_late link ≡ true → cursor.made link ≡ 8
  pub ends : cursor.phase ≡ to_executing → EachHasHeard cast world (λ number progress. (cast.layout).is_sink number ≡ true → progress.eos ≡ true)
  pub sends : IsSending cast world (cursor.phase + 1) 0 act
  pub after : next ≡ record { phase = cursor.phase + 1; sent = 1; made = cursor.made; changing = None }

-- ---- the change of a link

-- by the number of its acts that were made
abbrev pub IsSentToPort : PlayCast → World → ℕ → Bool → Bool → Act → Type 0
IsSentToPort cast world link output disables act =
    (handle : Handle) × Names cast.cast world (component_at (cast.cast).layout output link) handle × (act ≡ acts.SendCommand handle (port_command disables (port_number cast.cast output link)))

abbrev pub IsSetAt : PlayCast → World → ℕ → Bool → Act → Type 0
IsSetAt cast world link output act =
    (handle : Handle) × Names cast.cast world (component_at (cast.cast).layout output link) handle
    × (act ≡ acts.SetParameter handle (definition_key (port_number cast.cast output link)) (params.Port (planned cast output link)))

abbrev pub IsDropOf : PlayCast → World → ℕ → Act → Type 0
IsDropOf cast world link act =
    (giver : Handle) × (taker : Handle) × Names cast.cast world (giver_of cast.cast link) giver × Names cast.cast world (taker_of cast.cast link) taker
    × (act ≡ acts.DropTunnel (record { handle = giver; index = (cast.cast).output_port link }) (record { handle = taker; index = (cast.cast).input_port link }))

abbrev pub IsJoinOf : PlayCast → World → ℕ → Act → Type 0
IsJoinOf cast world link act =
    (giver : Handle) × (taker : Handle) × Names cast.cast world (giver_of cast.cast link) giver × Names cast.cast world (taker_of cast.cast link) taker
    × (act ≡ acts.SetupTunnel (record { handle = giver; index = (cast.cast).output_port link }) (record { handle = taker; index = (cast.cast).input_port link }))

abbrev pub IsChangeAct : PlayCast → World → ℕ → ℕ → Act → Type 0
IsChangeAct cast world link zero act = IsSentToPort cast world link true true act
IsChangeAct cast world link (suc zero) act = IsSentToPort cast world link false true act
IsChangeAct cast world link (suc (suc zero)) act = IsDropOf cast world link act
IsChangeAct cast world link (suc (suc (suc zero))) act = IsSetAt cast world link true act
IsChangeAct cast world link (suc (suc (suc (suc zero)))) act = IsSetAt cast world link false act
IsChangeAct cast world link (suc (suc (suc (suc (suc zero))))) act = IsJoinOf cast world link act
IsChangeAct cast world link (suc (suc (suc (suc (suc (suc zero)))))) act = IsSentToPort cast world link true false act
IsChangeAct cast world link (suc (suc (suc (suc (suc (suc (suc zero))))))) act = IsSentToPort cast world link false false act
IsChangeAct cast world link _ act = ⊥

abbrev pub one_more : ℕ → Cursor → Cursor
one_more link cursor = record { phase = cursor.phase; sent = cursor.sent; made = λ other. if nat_eq other link then cursor.made other + 1 else cursor.made other; changing = Some link }

-- The first act of a change: what was asked before is done, and its source has told that its settings changed. Where several have, it may
-- be the link of any of them.
pub record Changes (cast : PlayCast) (cursor : Cursor) (world : World) (act : Act) (next : Cursor) : Type 0 where
  pub phase : cursor.phase ≡ to_executing
  pub done : IsDone cast.cast cursor world
  pub link : ℕ
  pub below : link < links_of cast.cast
  pub late : ((cast.cast).layout).is_late link ≡ true
  pub unchanged : cursor.made link ≡ 0
  pub announced : HasHeardOf cast.cast world (giver_of cast.cast link) (λ progress. is_some progress.settings ≡ true)
  pub its_act : IsChangeAct cast world link 0 act
  pub after : next ≡ one_more link cursor

-- A further one: the tunnel is dropped once both ends have told that they are disabled.
pub record ChangesOn (cast : PlayCast) (cursor : Cursor) (world : World) (act : Act) (next : Cursor) : Type 0 where
  pub link : ℕ
  pub its : cursor.changing ≡ Some link
  pub more : cursor.made link < 8
  pub disabled : cursor.made link ≡ 2 → BothHaveTold cast.cast world (λ port. completions.Disable port) link
  pub its_act : IsChangeAct cast world link (cursor.made link) act
  pub after : next ≡ one_more link cursor

-- ---- what may be asked next

abbrev pub IsAsked : PlayCast → Cursor → World → Act → Cursor → Type 0
IsAsked cast cursor world act next = GoesOn cast.cast cursor world act next ⊎ Begins cast.cast cursor world act next ⊎ Changes cast cursor world act next ⊎ ChangesOn cast cursor world act next
