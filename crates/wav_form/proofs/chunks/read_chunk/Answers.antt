use Rattle.wav_form.proofs.Pieces.{chunk_read}
use Rattle.wav_form.proofs.chunks.read_chunk.Goals as goal

pub returns-clause-chunk : goal.returns-clause-chunk
returns-clause-chunk g c = λ x is.
    let chunk = c.chunk_from.ensures in
    chunk_read x c.fill_from.new.buf _ c.args.offset _ _ (c.in_ok-fill_from.ensures.bytes x is) chunk.name chunk.size chunk.content
