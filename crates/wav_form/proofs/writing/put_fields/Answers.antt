use Rattle.wav_form.proofs.Putting.{◌then◌, fields_put}
use Rattle.wav_form.proofs.writing.put_fields.Goals as goal

pub returns : goal.returns
returns c =
    fields_put c.args.format c.tag.result c.channels.result c.rate.result _ c.frame_bytes-frame_bytes.result c.bits.result
    c.tag.ensures c.channels.ensures c.rate.ensures (cc (c.rate-2.ensures, c.frame_bytes-frame_bytes.ensures)) c.frame_bytes-frame_bytes.ensures c.bits.ensures
    (((((c.put_u16-at.ensures then c.put_u16-at-2.ensures) then c.put_u32-at.ensures) then c.put_u32-at-2.ensures) then c.put_u16-at-3.ensures) then c.put_u16.ensures)
