use Rattle.std.proofs.Common.{refl}
use Rattle.wav_form.proofs.Putting.{◌then◌}
use Rattle.rtp_parts.proofs.PackedTexts.{record_put}
use Rattle.rtp_parts.proofs.records.put_record.Goals as goal

pub returns : goal.returns
returns c =
    record_put c.args.companding c.args.number c.payload_type.result _ c.args.piece.now c.payload_type.ensures refl
    (c.put_u16-at.ensures then ((((c.put-at.ensures then c.put_u16-at-2.ensures) then c.put_u32-at.ensures) then c.put_u32-at-2.ensures) then c.put.ensures))
