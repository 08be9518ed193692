-- How a play stands by what was asked, and what each act of a history leaves.
use Rattle.std.specs.Prelude.{◌≡◌, ◌≢◌, ◌⊎◌, ℕ, ◌+◌, ◌<◌, ◌≤◌, Bool, true, [], Option, Some, None}
use Rattle.omx_types.specs.declared.state.State.TheVariants.{Loaded}
use Rattle.il_machine.specs.Due.{IsClosed}
use Rattle.il_machine.specs.World.{Component, World}
use Rattle.play_model.specs.Acts.{Act, acted}
use Rattle.play_model.specs.Changes.{Change, IsChanged, port_at}
use Rattle.play_model.specs.Numbers.{to_executing, state_told}
use Rattle.play_model.specs.Play.{Layout, Play}
use Rattle.play_world_laws.specs.Cast.{Cast, components_of, links_of, script_place}
use Rattle.play_stream_laws.specs.Contents.{PlayContents}
use Rattle.play_world_laws.specs.PlayWorlds.{IsPlayWorld, PlayCast}
use Rattle.play_world_laws.specs.Waiting.{IsWaiting}
use Rattle.play_stream_laws.specs.PlayStreams.{HasPlayStreams}
use Rattle.read_world_laws.specs.Inside.{inside}
use Rattle.play_history_laws.specs.Order.{Cursor}

-- of the link whose change was begun last, and of the others
abbrev pub IsTurn : Cast → Cursor → ℕ → Play → Option ℕ → Type 0
IsTurn cast cursor recent play None = (link : ℕ) → link < links_of cast → (cast.layout).is_late link ≡ true → (cursor.made link ≡ 0) ⊎ IsChanged (play.change link)
IsTurn cast cursor recent play (Some last) =
    (play.phase ≡ to_executing) × (recent ≡ last) × (last < links_of cast) × ((cast.layout).is_late last ≡ true) × (1 ≤ cursor.made last)
    × ((component : ℕ) → component < components_of cast → play.stage component ≡ state_told)
    × ((link : ℕ) → link < links_of cast → (cast.layout).is_late link ≡ true → link ≢ last → (cursor.made link ≡ 0) ⊎ IsChanged (play.change link))

-- So much was asked in the play.
pub record Follows (cast : Cast) (cursor : Cursor) (recent : ℕ) (play : Play) : Type 0 where
  pub phase : play.phase ≡ cursor.phase
  pub unsent : (component : ℕ) → component < components_of cast → cursor.sent ≤ script_place cast component → play.stage component ≡ 0
  pub sent : (component : ℕ) → component < components_of cast → script_place cast component < cursor.sent → play.stage component ≢ 0
  pub few : (link : ℕ) → link < links_of cast → (cast.layout).is_late link ≡ true → cursor.made link ≡ 0 → (play.change link).step ≤ 2
  pub some : (link : ℕ) → link < links_of cast → (cast.layout).is_late link ≡ true → 1 ≤ cursor.made link → (play.change link).step ≡ cursor.made link + 2
  pub turn : IsTurn cast cursor recent play cursor.changing

-- The world is one of the play, nothing is due in it, and so much was asked.
pub record IsPlayed (cast : PlayCast) (cursor : Cursor) (recent : ℕ) (now : Play) (world : World) : Type 0 where
  pub play : IsPlayWorld cast recent now world
  pub waiting : IsWaiting (cast.cast).layout now
  pub closed : IsClosed world
  pub follows : Follows cast.cast cursor recent now

-- So it is by what was taken.
pub record IsTaken (cast : PlayCast) (cursor : Cursor) (recent : ℕ) (play : Play) (world : World) : Type 0 where
  pub played : IsPlayed cast cursor recent play (inside world)
  pub closed : IsClosed world

-- ---- a play that goes on

-- Nothing that was told is lost, and no StateSet was begun.
pub record IsLater (before after : Play) : Type 0 where
  pub phase : after.phase ≡ before.phase
  pub stage : (component : ℕ) → before.stage component ≤ after.stage component
  pub told : (component : ℕ) → before.told component ≡ true → after.told component ≡ true
  pub step : (link : ℕ) → (before.change link).step ≤ (after.change link).step
  pub ports : (output : Bool) (link : ℕ) → port_at output (before.change link) ≤ port_at output (after.change link)

-- The conductor made no act of the change: the source may have announced its settings and told them since.
pub record IsLeft (before after : Change) : Type 0 where
  pub few : before.step ≤ 2 → after.step ≤ 2
  pub more : 3 ≤ before.step → after.step ≡ before.step

-- So a play goes on from where so much was asked to where so much is. What is the latest change stays so where no act of a change was made.
pub record GoesTo (layout : Layout) (cursor : Cursor) (was : ℕ) (before : Play) (next : Cursor) (recent : ℕ) (now : Play) : Type 0 where
  pub phases : cursor.phase ≤ next.phase
  pub acts : (link : ℕ) → cursor.made link ≤ next.made link
  pub later : next.phase ≡ cursor.phase → IsLater before now
  pub begun : next.phase ≡ cursor.phase + 1 → IsLater (acted layout Act.Begin before) now
  pub left : (link : ℕ) → next.made link ≡ cursor.made link → IsLeft (before.change link) (now.change link)
  pub latest : ((link : ℕ) → next.made link ≡ cursor.made link) → recent ≡ was

-- ---- what a history leaves

-- the component is Loaded, and its client was given every note
pub record IsLoadedAt (component : Component) : Type 0 where
  pub loaded : component.state ≡ Loaded
  pub told : component.notes ≡ []

-- whatever the components give, the bytes on their way in the one world become those in the other
abbrev pub StreamsLead : PlayCast → Play → World → Play → World → Type 0
StreamsLead cast before world play after = (contents : PlayContents) → HasPlayStreams cast contents before world → HasPlayStreams cast contents play after

-- so it is in a world to which a history leads
pub record HasTaken (cast : PlayCast) (cursor : Cursor) (was : ℕ) (before : Play) (next : Cursor) (world after : World) : Type 0 where
  pub recent : ℕ
  pub now : Play
  pub taken : IsTaken cast next recent now after
  pub goes : GoesTo (cast.cast).layout cursor was before next recent now
  pub streams : StreamsLead cast before (inside world) now (inside after)
