-- The limits of the numbers in the lines of a play, and of the heads of its files.
use Rattle.std.specs.Prelude.{◌≡◌, ℕ, ◌*◌, ◌≤◌, List, length, slice_get, count_by, Some}
use Rattle.omx_types.specs.Formats.{IsWithinLimits, channels_of, frame_bytes_of}
use Rattle.script_lang.specs.PlayForms.{IsPartForm}
use Rattle.script_lang.specs.declared.play_line.PartLine.{PartLine}
use Rattle.wav_form.specs.Reading.{most_bytes}
use Rattle.wav_form.specs.declared.heads.WavHead.{WavHead}
use Rattle.play_forms.specs.declared.flow.Flow.{Flow}
use Rattle.play_forms.specs.declared.joint.Joint.{Joint}
use Rattle.play_forms.specs.Parts.{is_source_part}
use Rattle.play_forms.specs.Plans.{PlanValue}

-- of a link, its headers and the bytes of each
pub record IsWide (count size : ℕ) : Type 0 where
  pub some : 1 ≤ count
  pub few : count ≤ 32
  pub one_byte : 1 ≤ size
  pub short : size ≤ 4096

-- what the lines of its script say is in the limits
pub record IsScripted (plan : PlanValue) : Type 0 where
  pub parts : (place : ℕ) (part : PartLine) → slice_get plan.parts place ≡ Some part → IsPartForm part.form
  pub joints : (l : ℕ) (joint : Joint) → slice_get plan.joints l ≡ Some joint → IsWide joint.count joint.size

-- the head of a file that is read
pub record IsLawfulHead (head : WavHead) : Type 0 where
  pub format : IsWithinLimits head.format
  pub bytes : head.frames * frame_bytes_of head.format ≤ most_bytes

-- there is one for each source
pub record AreHeads (plan : PlanValue) (heads : List WavHead) : Type 0 where
  pub many : count_by is_source_part plan.parts ≤ length heads
  pub each : (k : ℕ) (head : WavHead) → slice_get heads k ≡ Some head → IsLawfulHead head

-- what goes through a link: a known format within the limits, and no more samples than the longest file may have bytes
pub record IsLawfulFlow (flow : Flow) : Type 0 where
  pub format : IsWithinLimits flow.format
  pub samples : flow.frames * channels_of flow.format ≤ most_bytes
