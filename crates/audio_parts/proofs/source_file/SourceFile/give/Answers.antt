use Rattle.std.proofs.Common.{take}
use Rattle.omx_types.specs.Formats.{frame_bytes_of}
use Rattle.audio_parts.proofs.Reading.{next_comes_first}
use Rattle.audio_parts.proofs.source_file.SourceFile.give.Goals as goal

pub returns-clause-first : goal.returns-clause-first
returns-clause-first g c =
    let file = c.args.self.now in
    next_comes_first (g.S.Source.told file.source) (g.S.Source.told c.read_frames.new.source) file.next c.in_ok-self.field-0 file.left c.args.frames c.from.result c.args.count
    (frame_bytes_of file.format) (take c.args.count c.read_frames.new.buffer) c.in_ok-self.ensures.keeps_source.told c.in_ok-self.ensures.next c.requires.few c.from.ensures c.requires.whole c.in_ok-self.ensures.bytes
