-- The whole world beside what a graph keeps. The given notes, the order of headers in different queues, what the headers carry that are
-- with the client or in a work, and what went through a file that doesn't tell it aren't kept. So a graph stands for many worlds, and each
-- call's clause speaks of every world that it stood for.
use Rattle.std.specs.Prelude.{◌≡◌, ◌<◌, ℕ, ◌-◌, Bool, true, false, not, List, [], map, drop, slice_get, All, Option, Some, None, option_map, is_some, MatchOption}
use Rattle.std.specs.Io.KnownBytes.{append_known}
use Rattle.part_api.specs.declared.attached.Attached.TheVariants.{To}
use Rattle.part_api.specs.Terms.{Terms, Writing}
use Rattle.il_machine.specs.declared.answer.Progress.{Progress}
use Rattle.il_machine.specs.Lists.{is_empty}
use Rattle.il_machine.specs.Kinds.{is_source}
use Rattle.il_machine.specs.World.{Component, Load, Stream, World, component_numbered, number_of, stream_of}
use Rattle.il_machine.specs.Headers.{Seen, seen, is_notice, load_at, Once}
use Rattle.il_machine.specs.Look.{Look, look}
use Rattle.il_machine.specs.Buffers.{Held, held, AtHeader}
use Rattle.il_machine.specs.Components.{progress_of}
use Rattle.il_machine.specs.Parts.{terms_of, frames_left, bytes_given}
use Rattle.il_machine.specs.Claims.{WorkSeen, seen_work}
use Rattle.il_machine.specs.Stepping.{WorkDone}
use Rattle.il_machine.specs.Finishing.{gone_through}

-- a header in a queued note, its key, and whether its memory is the client's own
pub record Noticed : Type 0 where
  pub key : ℕ
  pub held : Held
  pub client_memory : Bool

-- what a part shows of its file
pub record PartSeen : Type 0 where
  -- the frames that a source's file still gives, and their bytes, where it tells them
  pub left : Option ℕ
  pub rest : Option (List ℕ)
  -- what a sink's file has taken, where it tells that, and how far its writing has come
  pub kept : Option (List ℕ)
  pub writing : Option Writing

-- what a graph keeps
pub record Kept : Type 0 where
  pub looks : Look
  -- the progress of each component's client object, where that is in
  pub clients : List (Option Progress)
  -- what the headers in the ports' lists carry
  pub loads : ℕ → Option Load
  -- the headers in queued notes
  pub noticed : List Noticed
  -- the part of each component whose work isn't out
  pub parts : List (Option PartSeen)

-- Each client object that is in has the progress of the notes that were given to it.
abbrev pub HasProgress : List (Option Progress) → World → Type 0
HasProgress clients w = (i : ℕ) (c : Component) → slice_get w.components i ≡ Some c → c.client_out ≡ false → slice_get clients i ≡ Some (Some (progress_of c w))

-- The header in a queued note has the world's key, and is one of the world's, which a notice has, with the memory that is known of it.
abbrev pub IsNoticed : World → Noticed → Type 0
IsNoticed w h = (h.key ≡ w.key) × AtHeader h.held.number w (λ r. (held r ≡ h.held) × (is_notice r.state.owner ≡ true) × (r.state.client_memory ≡ h.client_memory))

-- so far has the writing of its file come; its format is that of the last claim
abbrev pub IsWriting : Terms → Stream → Writing → Type 0
IsWriting t s x =
    (t.file ≡ Some (To x.planned)) × (x.headed ≡ not (is_empty s.written)) × (x.left ≡ x.planned - s.frames) × (x.due ≡ false)

-- A part of these terms has had so much go through it. Of the bytes that its file still gives, and of how far its writing has come, nothing
-- is claimed once it failed.
pub record HasDone (t : Terms) (failed : Bool) (s : Stream) (p : PartSeen) : Type 0 where
  pub left : is_source t.kind ≡ true → p.left ≡ Some (frames_left t s)
  pub rest : is_source t.kind ≡ true → failed ≡ false → p.rest ≡ option_map (drop (bytes_given t s)) s.known
  pub kept : (planned : ℕ) → t.file ≡ Some (To planned) → p.kept ≡ append_known s.known s.written
  pub writing : (planned : ℕ) → t.file ≡ Some (To planned) → failed ≡ false → MatchOption p.writing ⊥ (IsWriting t s)

-- Each component whose work isn't out has its part.
abbrev pub HasParts : List (Option PartSeen) → World → Type 0
HasParts parts w = (i : ℕ) (c : Component) (s : Stream) → slice_get w.components i ≡ Some c → c.work ≡ None
    → stream_of (number_of c) w ≡ Some s → (p : PartSeen) × (slice_get parts i ≡ Some (Some p)) × HasDone (terms_of c) c.part.failed s p

-- The work that a caller holds is out in the world, with the part that it shows: what the headers carry is as it was at the claim.
abbrev pub IsOut : World → WorkSeen → PartSeen → Type 0
IsOut w x p = MatchOption (component_numbered x.component w) ⊥ (λ c. MatchOption c.work ⊥ (λ work.
    MatchOption (stream_of x.component w) ⊥ (λ s. (x ≡ seen_work c work w.headers) × HasDone (terms_of c) c.part.failed s p)))

-- The part that comes back with the work has had through it what then has gone through it.
abbrev pub IsBack : World → WorkDone → PartSeen → Type 0
IsBack w done p = MatchOption (component_numbered done.component w) ⊥ (λ c.
    MatchOption (stream_of done.component w) ⊥ (λ s. HasDone (terms_of c) (is_some done.fault) (gone_through done s) p))

-- All that is kept is the world's.
pub record Stands (kept : Kept) (w : World) : Type 0 where
  pub looks : look w ≡ kept.looks
  pub loads : (number : ℕ) (load : Load) → kept.loads number ≡ Some load → load_at number w.headers ≡ Some load
  pub noticed : All (IsNoticed w) kept.noticed
  pub progress : HasProgress kept.clients w
  pub parts : HasParts kept.parts w
  -- one stream for each component, in the same order
  pub streams : map (λ s. s.component) w.streams ≡ map number_of w.components
  -- no two headers have one number, and notes were given to components that were numbered
  pub once : Once w.headers
  pub given : All (λ g. g.component < w.numbered) w.given

-- For every world that was stood for there is one that is stood for now, reached so.
abbrev pub Steps : Kept → Kept → (World → World → Type 0) → Type 0
Steps old new Change = (w : World) → Stands old w → (v : World) × Stands new v × Change w v

-- The same of the worlds that meet a condition which what is kept doesn't tell.
abbrev pub StepsWhere : Kept → Kept → (World → Type 0) → (World → World → Type 0) → Type 0
StepsWhere old new Condition Change = (w : World) → Stands old w → Condition w → (v : World) × Stands new v × Change w v

-- The call answers so in every world that is stood for.
abbrev pub Always : Kept → (World → Type 0) → Type 0
Always kept Answer = (w : World) → Stands kept w → Answer w

-- nothing is kept of headers
abbrev pub no_headers : Seen
no_headers = seen []

-- what is kept of a graph that was just made
abbrev pub no_kept : ℕ → ℕ → Kept
no_kept key units = record {
  looks = record { key = key; components = []; headers = no_headers; units = units; numbered = 0; made = 0; waits = 0 };
  clients = [];
  loads = λ number. None;
  noticed = [];
  parts = [];
}
