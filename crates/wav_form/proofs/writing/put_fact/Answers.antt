use Rattle.std.proofs.Common.{◌≡◌, ◌∙◌, sym, false}
use Rattle.omx_types.specs.Formats.{is_pcm}
use Rattle.wav_form.proofs.Putting.{◌then◌}
use Rattle.wav_form.proofs.writing.put_fact.Goals as goal

pub returns : goal.returns
returns c =
    let law : is_pcm c.args.format ≡ false = sym c.is_pcm.ensures ∙ c.if-is_pcm.false in
    rw law ((c.put-at.ensures then c.put_u32-at.ensures) then c.put_u32.ensures)
