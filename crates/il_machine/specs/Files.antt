-- A file comes to a source or a sink.
use Rattle.std.specs.Prelude.{ℕ, ◌*◌, Bool, true, false, not, ◌||◌, nat_lt, List, [], ◌∷◌, take, Option, Some, is_some, option_map, Result}
use Rattle.omx_types.specs.declared.handle.Handle.{Handle}
use Rattle.omx_types.specs.declared.format.Format.{Format}
use Rattle.omx_types.specs.declared.kind.Kind.{Kind}
use Rattle.omx_types.specs.declared.kind.Kind.TheVariants.{Source, Late, Sink}
use Rattle.omx_types.specs.declared.error.OmxError.{OmxError}
use Rattle.omx_types.specs.declared.error.OmxError.TheVariants as errors
use Rattle.omx_types.specs.Formats.{frame_bytes_of}
use Rattle.part_api.specs.declared.attached.Attached.{Attached}
use Rattle.part_api.specs.declared.attached.Attached.TheVariants.{From, To}
use Rattle.il_machine.specs.States.{is_invalid}
use Rattle.il_machine.specs.Lists.{any_of, first_of_these}
use Rattle.il_machine.specs.Kinds.{is_auto}
use Rattle.il_machine.specs.Settings.{same_format, is_within_limits, setting_at}
use Rattle.il_machine.specs.World.{Component, Stream, World, number_of, with_component, with_stream}
use Rattle.il_machine.specs.Parameters.{is_settable, is_too_large}
use Rattle.il_machine.specs.Due.{ClosesTo}
use Rattle.il_machine.specs.Answers.{plain, Resolving, Answers}

-- a file as it is handed in: of one that is read, the format, the frames, how many bytes it has from its place to its size, and those of
-- them that it tells; of one that is written, the frames that are planned, and the bytes that it tells to have taken
pub data Offered : Type 0 where
  OfferedFrom : (format : Format) (frames there : ℕ) (known : Option (List ℕ)) → Offered
  OfferedTo : (frames : ℕ) (known : Option (List ℕ)) → Offered

-- a source reads a file, a sink writes one
abbrev pub is_for_kind : Kind → Offered → Bool
is_for_kind Source (OfferedFrom format frames there known) = true
is_for_kind Late (OfferedFrom format frames there known) = true
is_for_kind Sink (OfferedTo frames known) = true
is_for_kind _ _ = false

-- a late source takes a file of any format that is known and within the limits, every other source one of its port's format
abbrev pub is_wrong_format : Kind → Format → Format → Bool
is_wrong_format Late port format = is_auto format || not (is_within_limits format)
is_wrong_format _ port format = not (same_format format port)

abbrev pub is_bad_file : Kind → Format → Offered → Bool
is_bad_file kind port (OfferedFrom format frames there known) =
    any_of (is_wrong_format kind port format ∷ is_too_large frames format ∷ nat_lt there (frames * frame_bytes_of format) ∷ [])
is_bad_file kind port (OfferedTo frames known) = is_too_large frames port

-- the format of the port with the file, which is the first
abbrev pub file_port_format : Component → Format
file_port_format c = (setting_at c.settings 0).definition.format

abbrev pub attach_refusal : Component → Offered → Option OmxError
attach_refusal c file = first_of_these
    ((is_invalid c.state, errors.InvalidState)
    ∷ (
      any_of (not (is_for_kind c.settings.kind file) ∷ is_some c.file ∷ is_bad_file c.settings.kind (file_port_format c) file ∷ []),
      errors.BadParameter,
    )
    ∷ (not (is_settable c), errors.IncorrectStateOperation)
    ∷ [])

abbrev pub attached : Offered → Attached
attached (OfferedFrom format frames there known) = From format frames
attached (OfferedTo frames known) = To frames

-- the bytes of the frames of a file that is read, and those that one that is written has taken, where it tells them
abbrev pub known_by : Offered → Option (List ℕ)
known_by (OfferedFrom format frames there known) = option_map (take (frames * frame_bytes_of format)) known
known_by (OfferedTo frames known) = known

-- nothing has gone through the part and its file
abbrev pub stream_with : Offered → Stream → Stream
stream_with file s = record s { frames = 0; known = known_by file; written = [] }

abbrev pub with_file : ℕ → Component → Offered → World → World
with_file i c file w = with_stream (number_of c) (stream_with file) (with_component i (record c { file = Some (attached file) }) w)

abbrev pub Attach : World → Handle → Offered → Result (Unit {0}) OmxError → World → Type 0
Attach w h file result v = Resolving plain w h result v (λ i c.
    Answers (attach_refusal c file) result w v (λ _. ClosesTo (with_file i c file w) v))
