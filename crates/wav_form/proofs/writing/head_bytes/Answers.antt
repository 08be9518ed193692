use Rattle.wav_form.proofs.Putting.{◌then◌}
use Rattle.wav_form.proofs.writing.head_bytes.Goals as goal

pub returns-clause-rest : goal.returns-clause-rest
returns-clause-rest c =
    ((((((c.put-at.ensures then c.put_u32-at.ensures) then c.put-at-2.ensures) then c.put_format-at.ensures) then c.put_fact-at.ensures) then c.put-at-3.ensures) then c.put_u32.ensures).rest
