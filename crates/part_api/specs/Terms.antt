-- What the owner of a part set, and how far the writing of its file has come.
use Rattle.std.specs.Prelude.{ℕ, ◌-◌, Bool, true, false, List, Option, None, Some}
use Rattle.omx_types.specs.declared.format.Format.{Format}
use Rattle.omx_types.specs.declared.kind.Kind.{Kind}
use Rattle.part_api.specs.declared.attached.Attached.{Attached}

-- what a part's owner set, and what file came: a step leaves all of it as it is
pub record Terms : Type 0 where
  pub kind : Kind
  -- the formats of its inputs and its outputs, by their numbers
  pub inputs : List Format
  pub outputs : List Format
  -- the gain, or a weight for each input of a mixer
  pub factors : List ℕ
  pub file : Option Attached

-- the file that a part writes
pub record Writing : Type 0 where
  pub name : List ℕ
  pub format : Format
  pub planned : ℕ
  -- the head is written
  pub headed : Bool
  -- the planned frames that aren't written
  pub left : ℕ
  -- the frames of the step, and whether they are still to be written
  pub frames : ℕ
  pub due : Bool

-- a step of that many frames was begun
abbrev pub begun : ℕ → Option Writing → Option Writing
begun frames None = None
begun frames (Some w) =
    Some (record {
      name = w.name;
      format = w.format;
      planned = w.planned;
      headed = w.headed;
      left = w.left;
      frames = frames;
      due = true;
    })

-- the step that is due was written
abbrev pub written : Option Writing → Option Writing
written None = None
written (Some w) =
    Some (record {
      name = w.name;
      format = w.format;
      planned = w.planned;
      headed = true;
      left = w.left - w.frames;
      frames = w.frames;
      due = false;
    })

abbrev pub name_of : Option Writing → Option (List ℕ)
name_of None = None
name_of (Some w) = Some w.name
