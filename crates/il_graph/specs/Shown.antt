-- What a contract sees of a graph: what its core keeps, and the part of each component, in the same order. The part of a component whose work
-- is out isn't there.
use Rattle.std.specs.Prelude.{◌≡◌, ◌≢◌, ℕ, ◌-◌, true, List, map, drop, length, slice_get, Option, Some, None, is_some, option_map, option_and_then}
use Rattle.std.specs.Io.KnownBytes.{append_known}
use Rattle.il_machine.specs.declared.answer.Progress.{Progress}
use Rattle.il_machine.specs.World.{Component, Stream, World, component_numbered, place_numbered, stream_of}
use Rattle.il_machine.specs.Look.{Look}
use Rattle.il_machine.specs.Due.{first_due}
use Rattle.il_machine.specs.Files.{Offered, OfferedFrom, OfferedTo}
use Rattle.il_machine.specs.Whole.{Kept, PartSeen, Stands}
use Rattle.il_machine.specs.Sound.{Sound}
use Rattle.audio_parts.specs.AnyParts.{attached_of}
use Rattle.audio_parts.specs.declared.part_file.PartFile.{PartFile}
use Rattle.audio_parts.specs.declared.part_file.PartFile.TheVariants as files
use Rattle.audio_parts.specs.Shapes.{IsLawful}
use Rattle.audio_parts.specs.Shown.{ShownPart}
use Rattle.graph_core.specs.Entries.{Entries, components_of}
use Rattle.graph_core.specs.Entries as core

-- a sound world that what is kept stands for
pub record SoundWhole (k : Kept) : Type 0 where
  pub world : World
  pub stands : Stands k world
  pub sound : Sound world

-- as the machine sees it
abbrev pub seen_of : {S K : Type 0} → ShownPart S K → PartSeen
seen_of p = record { left = p.left; rest = p.rest; kept = p.kept; writing = p.writing }

pub record Shown (S K C : Type 0) : Type 0 where
  pub core : Entries C
  pub parts : List (Option (ShownPart S K))

module _ {S K : Type 0} where
  abbrev pub seen_parts : List (Option (ShownPart S K)) → List (Option PartSeen)
  seen_parts parts = map (option_map seen_of) parts

  -- the part is the component's: of its kind, with its file, and failed where it failed; what is set of it is lawful
  pub record IsPartOf (c : Component) (p : ShownPart S K) : Type 0 where
    pub kind : p.terms.kind ≡ c.settings.kind
    pub lawful : IsLawful p.terms
    pub file : option_map attached_of p.file ≡ c.file
    pub attached : p.terms.file ≡ c.file
    pub failed : p.failed ≡ c.part.failed

  -- Each component whose work isn't out has its part; the part of one whose work is out went with it.
  pub record ArePartsOf (components : List Component) (parts : List (Option (ShownPart S K))) : Type 0 where
    pub there : (i : ℕ) (c : Component) → slice_get components i ≡ Some c → c.work ≡ None → (p : ShownPart S K) × (slice_get parts i ≡ Some (Some p)) × IsPartOf c p
    pub away : (i : ℕ) (c : Component) → slice_get components i ≡ Some c → is_some c.work ≡ true → slice_get parts i ≡ Some None

module _ {S K C : Type 0} where
  -- what is kept, where the client objects have this progress
  abbrev pub kept : (C → Progress) → Shown S K C → Kept
  kept progress g = record (core.kept progress g.core) { parts = seen_parts g.parts }

  -- as the machine sees it
  abbrev pub look_of : Shown S K C → Look
  look_of g = core.look_of g.core

  -- ---- files

  abbrev pub file_at : Shown S K C → ℕ → Option (PartFile S K)
  file_at g i = option_and_then (option_and_then (λ p. p.file)) (slice_get g.parts i)

  -- the file of the component of the number, where it has one and its work isn't out
  abbrev pub file_of : ℕ → Shown S K C → Option (PartFile S K)
  file_of number g = option_and_then (file_at g) (place_numbered number (components_of g.core.entries))

  -- the file object of a component whose work isn't out is of the file that the component has
  abbrev pub HaveTheirFiles : Shown S K C → Type 0
  HaveTheirFiles g = (i : ℕ) (c : Component) → slice_get (components_of g.core.entries) i ≡ Some c → c.work ≡ None → option_map attached_of (file_at g i) ≡ c.file

  -- What the file of a sink tells whose work isn't out is what it told when it came, and then what was written to it.
  abbrev pub TellWritten : (K → Option (List ℕ)) → Shown S K C → World → Type 0
  TellWritten told g w = (number frames : ℕ) (c : Component) (s : Stream) (snk : K) → component_numbered number w ≡ Some c → c.work ≡ None → stream_of number w ≡ Some s
      → file_of number g ≡ Some (files.To snk frames) → told snk ≡ append_known s.known s.written

  -- each component has the file object that it had
  abbrev pub KeepsAllFiles : Shown S K C → Shown S K C → Type 0
  KeepsAllFiles old new = (number : ℕ) → file_of number new ≡ file_of number old

  -- the same of each component but that of the number
  abbrev pub KeepsFiles : ℕ → Shown S K C → Shown S K C → Type 0
  KeepsFiles n old new = (number : ℕ) → number ≢ n → file_of number new ≡ file_of number old

  -- ---- what is true of all that a graph keeps

  pub record IsWhole (progress : C → Progress) (g : Shown S K C) : Type 0 where
    pub closed : first_due (look_of g) ≡ None
    pub count : length g.parts ≡ length (components_of g.core.entries)
    pub parts : ArePartsOf (components_of g.core.entries) g.parts
    pub worlds : SoundWhole (kept progress g)

-- a file as the machine is offered it: by the place and the size of one that is read, and what it tells
abbrev pub offered : {S K : Type 0} → (S → ℕ) → (S → ℕ) → (S → Option (List ℕ)) → (K → Option (List ℕ)) → PartFile S K → Offered
offered place size told kept (files.From src format frames) = OfferedFrom format frames (size src - place src) (option_map (drop (place src)) (told src))
offered place size told kept (files.To snk frames) = OfferedTo frames (kept snk)
