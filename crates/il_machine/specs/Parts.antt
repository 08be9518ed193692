-- A component's part: what is set of it, and what its file still gives.
use Rattle.std.specs.Prelude.{ℕ, ◌-◌, ◌*◌, List, [], ◌∷◌, take, drop, Option, Some}
use Rattle.omx_types.specs.declared.format.Format.{Format}
use Rattle.omx_types.specs.declared.format.Format.TheVariants as formats
use Rattle.omx_types.specs.declared.kind.Kind.{Kind}
use Rattle.omx_types.specs.declared.kind.Kind.TheVariants.{Gain, Mixer}
use Rattle.omx_types.specs.Formats.{frame_bytes_of}
use Rattle.part_api.specs.declared.attached.Attached.{Attached}
use Rattle.part_api.specs.declared.attached.Attached.TheVariants.{From}
use Rattle.part_api.specs.Terms.{Terms}
use Rattle.il_machine.specs.Kinds.{inputs_of}
use Rattle.il_machine.specs.Settings.{formats_of}
use Rattle.il_machine.specs.World.{Component, Stream}

abbrev pub factors_by : Kind → ℕ → List ℕ → List ℕ
factors_by Gain gain weights = gain ∷ []
factors_by (Mixer inputs) gain weights = weights
factors_by _ gain weights = []

-- what is set of the component's part
abbrev pub terms_of : Component → Terms
terms_of c =
    let kind = c.settings.kind in
    let formats = formats_of c.settings.ports in
    record {
      kind = kind;
      inputs = take (inputs_of kind) formats;
      outputs = drop (inputs_of kind) formats;
      factors = factors_by kind c.settings.gain c.settings.weights;
      file = c.file;
    }

-- the format of the file that a source reads; one without a file stands for one with no frames of PCM
abbrev pub file_format : Option Attached → Format
file_format (Some (From format frames)) = format
file_format _ = formats.Pcm 8000 1

abbrev pub frames_of : Option Attached → ℕ
frames_of (Some (From format frames)) = frames
frames_of _ = 0

-- the frames of its file that a source hasn't given yet
abbrev pub frames_left : Terms → Stream → ℕ
frames_left t s = frames_of t.file - s.frames

-- the bytes of its file that a source has given
abbrev pub bytes_given : Terms → Stream → ℕ
bytes_given t s = s.frames * frame_bytes_of (file_format t.file)
