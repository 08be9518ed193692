-- What a sink's file takes, and that each input has taken its whole stream.
use Rattle.std.specs.Prelude.{◌≡◌, ℕ, ◌<◌, ◌⊎◌, Bool, true, false, List, [], slice_get, Option, Some}
use Rattle.omx_types.specs.declared.format.Format.{Format}
use Rattle.part_api.specs.Terms.{Terms}
use Rattle.part_api.specs.declared.attached.Attached.{Attached}
use Rattle.part_api.specs.declared.attached.Attached.TheVariants.{To}
use Rattle.il_machine.specs.Stepping.{format_at}
use Rattle.il_machine.specs.World.{Component, Stream, World, number_of, stream_of}
use Rattle.play_model.specs.Content.{ArePlain}
use Rattle.play_world_laws.specs.Cast.{Cast, links_of, script_place, taker_of}
use Rattle.play_stream_laws.specs.Sunk.{sunk}
use Rattle.play_stream_laws.specs.Contents.{PlayContents, network_of}

-- what a sink's file has taken of so many frames; another component's takes nothing
abbrev pub sunk_by : Option Attached → Format → ℕ → List ℕ → List ℕ
sunk_by (Some (To planned)) format frames bytes = sunk format planned frames bytes
sunk_by _ format frames bytes = []

abbrev pub sunk_of : Terms → ℕ → List ℕ → List ℕ
sunk_of terms frames bytes = sunk_by terms.file (format_at terms 0) frames bytes

-- The file of a sink has taken what one step of all that it has taken writes; before its first step, nothing.
abbrev pub HasSunk : Terms → Stream → Bool → List ℕ → Type 0
HasSunk terms s ended bytes = (s.written ≡ sunk_of terms s.frames bytes) ⊎ ((s.written ≡ []) × (s.frames ≡ 0) × (ended ≡ false))

-- Of each link into a sink, by the sink's component and what has gone through it.
abbrev pub EachSink : Cast → World → (ℕ → Component → Stream → Type 0) → Type 0
EachSink x w P = (l : ℕ) (a : Component) (s : Stream) → l < links_of x → (x.layout).is_sink (taker_of x l) ≡ true
    → slice_get w.components (script_place x (taker_of x l)) ≡ Some a → stream_of (number_of a) w ≡ Some s → P l a s

-- each sink's file came empty, and has taken nothing
abbrev pub AreNew : Cast → World → Type 0
AreNew x w = EachSink x w (λ l a s. (s.known ≡ Some []) × (s.written ≡ []))

-- each input has taken the whole stream of its link, which the plain functions give
abbrev pub HasAll : Cast → PlayContents → (ℕ → List ℕ) → Type 0
HasAll x k taken = (stream : ℕ → List ℕ) → ArePlain (network_of x) k.model stream → (l : ℕ) → l < links_of x → taken l ≡ stream l
