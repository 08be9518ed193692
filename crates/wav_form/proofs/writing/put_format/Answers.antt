use Rattle.std.proofs.Common.{◌≡◌, ◌∙◌, sym, subst, true, false}
use Rattle.omx_types.specs.Formats.{is_pcm}
use Rattle.wav_form.specs.Writing.{Puts}
use Rattle.wav_form.proofs.Putting.{◌then◌, format_chunk-pcm, format_chunk-law}
use Rattle.wav_form.proofs.writing.put_format.Goals as goal

pub returns-then-is_pcm : goal.returns-then-is_pcm
returns-then-is_pcm c =
    let pcm : is_pcm c.args.format ≡ true = sym c.is_pcm.ensures ∙ c.if-is_pcm.true in
    subst (Puts _ _ _ _) (format_chunk-pcm c.args.format pcm) ((c.put-at.ensures then c.put_u32-at.ensures) then c.put_fields.ensures)

pub returns-else-is_pcm : goal.returns-else-is_pcm
returns-else-is_pcm c =
    let law : is_pcm c.args.format ≡ false = sym c.is_pcm.ensures ∙ c.if-is_pcm.false in
    subst (Puts _ _ _ _) (format_chunk-law c.args.format law) (((c.put-at.ensures then c.put_u32-at-else-is_pcm.ensures) then c.put_fields-at.ensures) then c.put_u16.ensures)
